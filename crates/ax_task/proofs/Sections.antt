-- The section, line by line.
use Rattle.std.proofs.Common.{◌≡◌, ℕ, ◌+◌, ◌≤◌, ◌<◌, List, [], ◌∷◌, ◌++◌, length, true, false, cond, refl, sym, ap, ◌∙◌, append_assoc, arith, nat_lt}
use Rattle.std.proofs.lemmas.List.{append-nil}
use Rattle.std.proofs.lemmas.Bool.Decides.{nat_tests}
use Rattle.ax_base.specs.Pieces.{Piece, Whole}
use Rattle.ax_base.specs.declared.lines.Line.{Line}
use Rattle.ax_task.specs.Sections.{Section, Faulty, Gathered, with_line, section_of, is_section_end, most_kept}
use Rattle.ax_input.specs.Events.{is_skipped}

-- lines that were kept before
abbrev pub with_front : List Line → Section → Section
with_front front (Faulty line kind) = Faulty line kind
with_front front (Gathered lines end found rest) = Gathered (front ++ lines) end found rest

pub with_front-nil : (s : Section) → s ≡ with_front [] s
with_front-nil (Faulty line kind) = refl
with_front-nil (Gathered lines end found rest) = refl

with_front-line : (front : List Line) (n : ℕ) (text : List ℕ) (s : Section) → with_front front (with_line n text s) ≡ with_front (front ++ record { number = n; text = text } ∷ []) s
with_front-line front n text (Faulty line kind) = refl
with_front-line front n text (Gathered lines end found rest) = ap (λ ls. Gathered ls end found rest) (sym (append_assoc front (record { number = n; text = text } ∷ []) lines))

module _ (front : List Line) (n kept : ℕ) (text : List ℕ) (after : List Piece) where
  abbrev skips : Section
  skips = section_of (n + 1) kept after

  abbrev keeps : Section
  keeps = with_line n text (section_of (n + 1) (kept + length text) after)

  pub section_end : is_section_end text ≡ true → with_front front (section_of n kept (Whole text ∷ after)) ≡ Gathered front n true after
  section_end e =
      ap (λ t. with_front front (cond t (Gathered [] n true after) (cond (is_skipped text) skips (cond (nat_lt most_kept (kept + length text)) (Faulty n 8) keeps)))) e
      ∙ ap (λ ls. Gathered ls n true after) (append-nil front)

  inside : is_section_end text ≡ false → with_front front (section_of n kept (Whole text ∷ after)) ≡ with_front front (cond (is_skipped text) skips (cond (nat_lt most_kept (kept + length text)) (Faulty n 8) keeps))
  inside e = ap (λ t. with_front front (cond t (Gathered [] n true after) (cond (is_skipped text) skips (cond (nat_lt most_kept (kept + length text)) (Faulty n 8) keeps)))) e

  pub section_skip : is_section_end text ≡ false → is_skipped text ≡ true → with_front front (section_of n kept (Whole text ∷ after)) ≡ with_front front (section_of (n + 1) kept after)
  section_skip e s = inside e ∙ ap (λ t. with_front front (cond t skips (cond (nat_lt most_kept (kept + length text)) (Faulty n 8) keeps))) s

  line : is_section_end text ≡ false → is_skipped text ≡ false → with_front front (section_of n kept (Whole text ∷ after)) ≡ with_front front (cond (nat_lt most_kept (kept + length text)) (Faulty n 8) keeps)
  line e s = inside e ∙ ap (λ t. with_front front (cond t skips (cond (nat_lt most_kept (kept + length text)) (Faulty n 8) keeps))) s

  pub section_past : is_section_end text ≡ false → is_skipped text ≡ false → most_kept < kept + length text → with_front front (section_of n kept (Whole text ∷ after)) ≡ Faulty n 8
  section_past e s past =
      let more : nat_lt most_kept (kept + length text) ≡ true = grind (arith, nat_tests) in
      line e s ∙ ap (λ t. with_front front (cond t (Faulty n 8) keeps)) more

  pub section_keep : is_section_end text ≡ false → is_skipped text ≡ false → kept + length text ≤ most_kept → with_front front (section_of n kept (Whole text ∷ after)) ≡ with_front (front ++ record { number = n; text = text } ∷ []) (section_of (n + 1) (kept + length text) after)
  section_keep e s within =
      let fits : nat_lt most_kept (kept + length text) ≡ false = grind (arith, nat_tests) in
      line e s ∙ ap (λ t. with_front front (cond t (Faulty n 8) keeps)) fits
      ∙ with_front-line front n text (section_of (n + 1) (kept + length text) after)
