-- Line behind line.
use Rattle.std.proofs.Common.{◌≡◌, sym, ap, ◌∙◌, ℕ, ◌+◌, ◌<◌, ◌≤◌, List, [], ◌∷◌, ◌++◌, length, length-append, append_assoc, arith}
use Rattle.std.proofs.lemmas.List.{append-nil}
use Rattle.ax_machine.proofs.TextLemmas.{lines_text-append}
use Rattle.ax_machine.specs.OutLines.{OutLine, line_of, spelled, lines_text}
use Rattle.ax_snapshot.specs.Added.{Put, Adds}

-- behind a line there is room for one more in the count
pub has_room : (text : List ℕ) (l : OutLine) (count : ℕ) → count ≤ length text → count < length (text ++ spelled l)
has_room text l count h = omega (arith, length-append text (spelled l), length-append (line_of l) (10 ∷ []))

-- of these lines, put behind those of a block, the last ones are left
pub record GoesOn (start now : Put) (whole rest : List OutLine) : Type 0 where
  pub text : now.text ++ lines_text rest ≡ start.text ++ lines_text whole
  pub count : now.count + length rest ≡ start.count + length whole

pub goes_step : (start now next : Put) (whole xs rest : List OutLine) → GoesOn start now whole (xs ++ rest) → Adds now next xs → GoesOn start next whole rest
goes_step start now next whole xs rest g a =
    let long = length-append xs rest in
    let counted = a.count in
    let whole_count = g.count in
    record {
      text = ap (λ t. t ++ lines_text rest) a.text ∙ append_assoc now.text (lines_text xs) (lines_text rest) ∙ ap (λ t. now.text ++ t) (sym (lines_text-append xs rest)) ∙ g.text;
      count = omega arith;
    }

pub goes_end : (start now : Put) (whole : List OutLine) → GoesOn start now whole [] → Adds start now whole
goes_end start now whole g = let count = g.count in record { text = sym (append-nil now.text) ∙ g.text; count = omega arith }

-- some lines and then others
pub adds_both : (a b c : Put) (xs ys : List OutLine) → Adds a b xs → Adds b c ys → Adds a c (xs ++ ys)
adds_both a b c xs ys p q =
    let first = p.count in
    let second = q.count in
    let long = length-append xs ys in
    record {
      text = q.text ∙ ap (λ t. t ++ lines_text ys) p.text ∙ append_assoc a.text (lines_text xs) (lines_text ys) ∙ ap (λ t. a.text ++ t) (sym (lines_text-append xs ys));
      count = omega arith;
    }
