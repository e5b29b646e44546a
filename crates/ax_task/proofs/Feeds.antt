-- Whole lines, and the bytes that a reader has passed.
use Rattle.std.proofs.Common.{◌≡◌, ℕ, ◌+◌, ◌-◌, ◌≤◌, ◌<◌, inl, inr, List, [], ◌∷◌, ◌++◌, length, map, true, false, Option, Some, None, Ok, Err, refl, sym, ap, ◌∙◌, append_assoc, arith, subst}
use Rattle.std.proofs.lemmas.List.{append-nil, append_cancel_left, length-append, nil_from_length}
use Rattle.std.proofs.lemmas.Bool.Decides.{nat_tests}
use Rattle.std.specs.List.{concat}
use Rattle.std.specs.Io.KnownBytes.{Consumes}
use Rattle.ax_base.specs.Outside.{Told}
use Rattle.ax_base.specs.Pieces.{Cut, Whole, pieces_of, whole_lines, is_too_long}
use Rattle.ax_base.specs.Lines.{no_feed}
use Rattle.ax_base.specs.Reader.{Reader}
use Rattle.ax_base.specs.Given.{Ends, ReadsMore}
use Rattle.ax_base.specs.declared.lines.Line.{Line}
use Rattle.ax_base.specs.declared.lines.LineFault.TheVariants as fault
use Rattle.ax_base.proofs.PieceLemmas.{cut_of-append, pieces_of-line, pieces_of-last}
use Rattle.ax_task.specs.Passes.{IsFed, MayFollow, Feed, Passed}

pub fed-nil : IsFed []
fed-nil more = refl

pub fed-both : (v w : List ℕ) → IsFed v → IsFed w → IsFed (v ++ w)
fed-both v w f g more = ap whole_lines (append_assoc v w more) ∙ f (w ++ more) ∙ ap (λ s. v ++ s) (g more) ∙ sym (append_assoc v w (whole_lines more))

with_feeds : List (List ℕ) → List ℕ
with_feeds ts = concat (map (λ t. t ++ 10 ∷ []) ts)

pub fed-line : (t : List ℕ) → no_feed t ≡ true → IsFed (t ++ 10 ∷ [])
unfolding with_feeds
fed-line t e more =
    ap whole_lines (append_assoc t (10 ∷ []) more)
    ∙ ap (λ (c : Cut). with_feeds c.ended) (cut_of-append t (10 ∷ more) e)
    ∙ ap (λ u. (u ++ 10 ∷ []) ++ whole_lines more) (append-nil t)

-- no line of these is whole
pub none_whole : (t : List ℕ) → no_feed t ≡ true → whole_lines t ≡ []
unfolding with_feeds
none_whole t e = ap whole_lines (sym (append-nil t)) ∙ ap (λ (c : Cut). with_feeds c.ended) (cut_of-append t [] e)

not_fed : (t : List ℕ) → no_feed t ≡ true → 0 < length t → IsFed t → ⊥
not_fed t e some f =
    let all : [] ≡ t ++ [] = sym (none_whole t e) ∙ ap whole_lines (sym (append-nil t)) ∙ f [] in
    let size : length t ≡ 0 = ap length (sym (append-nil t) ∙ sym all) in
    omega (arith, size)

pub front_nil : (v w : List ℕ) → v ++ w ≡ [] → v ≡ []
front_nil v w e = nil_from_length v (omega (arith, length-append v w, ap length e))

pub back_nil : (v w : List ℕ) → v ++ w ≡ [] → w ≡ []
back_nil v w e = nil_from_length w (omega (arith, length-append v w, ap length e))

follow_both : (v w x y : List ℕ) → MayFollow v x → MayFollow w y → x ≡ w ++ y → MayFollow (v ++ w) y
follow_both v w x y (inl f) (inl g) e = inl (fed-both v w f g)
follow_both v w x y (inl f) (inr n) e = inr n
follow_both v w x y (inr m) g e = inr (back_nil w y (sym e ∙ m))

follow_first : (v w x y : List ℕ) → MayFollow v x → x ≡ w ++ y → (more : List ℕ) → MayFollow (v ++ w) more → MayFollow v (w ++ more)
follow_first v w x y (inl f) e more g = inl f
follow_first v w x y (inr m) e more (inr n) = inr (ap (λ s. s ++ more) (front_nil w y (sym e ∙ m)) ∙ n)
follow_first v w x y (inr m) e more (inl g) = inl (subst IsFed (ap (λ s. v ++ s) (front_nil w y (sym e ∙ m)) ∙ append-nil v) g)

fed-last : (v w : List ℕ) → IsFed v → IsFed (v ++ w) → IsFed w
fed-last v w f g more =
    append_cancel_left v (whole_lines (w ++ more)) (w ++ whole_lines more)
    (sym (f (w ++ more)) ∙ ap whole_lines (sym (append_assoc v w more)) ∙ g more ∙ append_assoc v w (whole_lines more))

follow_last : (v w x y : List ℕ) → MayFollow v x → x ≡ w ++ y → (more : List ℕ) → MayFollow (v ++ w) more → MayFollow w more
follow_last v w x y h e more (inr n) = inr n
follow_last v w x y (inl f) e more (inl g) = inl (fed-last v w f g)
follow_last v w x y (inr m) e more (inl g) = inl (subst IsFed (sym (front_nil w y (sym e ∙ m))) fed-nil)

-- what is to come for a reader that holds these bytes, where its source has those left
abbrev pub feed : List ℕ → List ℕ → Feed
feed held left = record { held = held; left = left }

module _ {A : Type 0} where
  -- nothing was passed
  pub Passed-none : (F : List ℕ → A) (held a rest b : List ℕ) → held ++ a ≡ rest ++ b → Passed F F (feed held a) [] (feed rest b)
  Passed-none F held a rest b e = record {
    bytes = e;
    ended = inl fed-nil;
    same = λ more h. refl;
  }

  -- one stretch of bytes behind another
  pub Passed-trans : (F G H : List ℕ → A) (held a w held' a' w' rest b : List ℕ) → Passed F G (feed held a) w (feed held' a') → Passed G H (feed held' a') w' (feed rest b) → Passed F H (feed held a) (w ++ w') (feed rest b)
  Passed-trans F G H held a w held' a' w' rest b p q = record {
    bytes = p.bytes ∙ ap (λ s. w ++ s) q.bytes ∙ sym (append_assoc w w' (rest ++ b));
    ended = follow_both w w' (held' ++ a') (rest ++ b) p.ended q.ended q.bytes;
    same = λ more h. ap F (append_assoc w w' more) ∙ p.same (w' ++ more) (follow_first w w' (held' ++ a') (rest ++ b) p.ended q.bytes more h)
        ∙ q.same more (follow_last w w' (held' ++ a') (rest ++ b) p.ended q.bytes more h);
  }

  -- the same bytes, by another meaning of what follows
  pub Passed-as : (F G H : List ℕ → A) (held a w rest b : List ℕ) → Passed F G (feed held a) w (feed rest b) → ((more : List ℕ) → G more ≡ H more) → Passed F H (feed held a) w (feed rest b)
  Passed-as F G H held a w rest b p h = record {
    bytes = p.bytes;
    ended = p.ended;
    same = λ more m. p.same more m ∙ h more;
  }

pub Passed-map : {A B : Type 0} (f : A → B) (F G : List ℕ → A) (held a w rest b : List ℕ) → Passed F G (feed held a) w (feed rest b) → Passed (λ x. f (F x)) (λ x. f (G x)) (feed held a) w (feed rest b)
Passed-map f F G held a w rest b p = record {
  bytes = p.bytes;
  ended = p.ended;
  same = λ more m. ap f (p.same more m);
}

-- one line of these bytes
line_passed : (old new : Reader) (text a b more : List ℕ) → a ≡ more ++ b → no_feed text ≡ true → length text ≤ 65536 → Ends (b ≡ []) old (old.held ++ more) text new
    → (w : List ℕ) × Passed (pieces_of old.limit) (λ x. Whole text ∷ pieces_of new.limit x) (feed old.held a) w (feed new.held b)
line_passed old new text a b more came none short (inl e) =
    let bytes : old.held ++ a ≡ (text ++ 10 ∷ []) ++ (new.held ++ b) =
    ap (λ s. old.held ++ s) came ∙ sym (append_assoc old.held more b) ∙ ap (λ s. s ++ b) e.0
    ∙ append_assoc text (10 ∷ new.held) b ∙ sym (append_assoc text (10 ∷ []) (new.held ++ b)) in
    let long : is_too_long (length text) old.limit ≡ false = grind (arith, nat_tests) in
    let left : old.limit - (length text + 1) ≡ new.limit = omega (arith, e.1) in (
      text ++ 10 ∷ [],
      record {
        bytes = bytes;
        ended = inl (fed-line text none);
        same = λ x h. ap (pieces_of old.limit) (append_assoc text (10 ∷ []) x) ∙ pieces_of-line old.limit text x none long (omega (arith, e.1)) ∙ ap (λ k. Whole text ∷ pieces_of k x) left;
      },
    )
line_passed old new text a b more came none short (inr e) =
    let nothing : new.held ++ b ≡ [] = ap (λ s. s ++ b) e.1 ∙ e.4 in
    let bytes : old.held ++ a ≡ text ++ (new.held ++ b) =
    ap (λ s. old.held ++ s) came ∙ sym (append_assoc old.held more b) ∙ ap (λ s. s ++ b) e.0 ∙ ap (λ s. text ++ s) (sym (ap (λ s. s ++ b) e.1)) in
    (text, record { bytes = bytes; ended = inr nothing; same = last }) where
      last : (x : List ℕ) → MayFollow text x → pieces_of old.limit (text ++ x) ≡ Whole text ∷ pieces_of new.limit x
      last x (inl f) = absurd (not_fed text none e.2 f)
      last x (inr n) =
          ap (λ s. pieces_of old.limit (text ++ s)) n ∙ ap (pieces_of old.limit) (append-nil text) ∙ pieces_of-last old.limit text none e.2 short (omega (arith, e.3))
          ∙ ap (λ s. Whole text ∷ pieces_of new.limit s) (sym n)

-- what a call of the reader passed, where its source tells the bytes
pub told_line : (l l' : Option (List ℕ)) (old new : Reader) (line : Line) → ReadsMore l l' old new (Ok (Some line))
    → Told l l' (λ a b. (w : List ℕ) × Passed (pieces_of old.limit) (λ x. Whole line.text ∷ pieces_of new.limit x) (feed old.held a) w (feed new.held b))
told_line None l' old new line r = tt
told_line (Some a) None old new line r = absurd r.1
told_line (Some a) (Some b) old new line r = line_passed old new line.text a b r.0 r.1 r.2.0 r.2.1 r.2.2

-- at a read fault all that was taken is held
pub told_read : {A : Type 0} (F : List ℕ → A) (l l' : Option (List ℕ)) (old new : Reader) → ReadsMore l l' old new (Err fault.Read)
    → Told l l' (λ a b. Passed F F (feed old.held a) [] (feed new.held b))
told_read F None l' old new r = tt
told_read F (Some a) None old new r = absurd r.1
told_read F (Some a) (Some b) old new r = Passed-none F old.held a new.held b (ap (λ s. old.held ++ s) r.1 ∙ sym (append_assoc old.held r.0 b) ∙ ap (λ s. s ++ b) (sym r.2))

-- whatever came, nothing of it was passed
pub told_some : {A : Type 0} (F : List ℕ → A) (l l' : Option (List ℕ)) (held : List ℕ) → (more : List ℕ) → Consumes l l' more
    → Told l l' (λ a b. (rest : List ℕ) × Passed F F (feed held a) [] (feed rest b))
told_some F None l' held more r = tt
told_some F (Some a) None held more r = absurd r
told_some F (Some a) (Some b) held more r = (held ++ more, Passed-none F held a (held ++ more) b (ap (λ s. held ++ s) r ∙ sym (append_assoc held more b)))
