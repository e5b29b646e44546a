-- The request that waits at the least slot.
use Rattle.std.proofs.Common.{◌≡◌, ◌∙◌, ◌≤◌, ◌<◌, ⊎_elim, ℕ, List, [], ◌++◌, true, false, nat_eq, Option, Some, None, refl, sym, ap, ap₂, subst, arith}
use Rattle.std.proofs.lemmas.Bool.{both_ways, eqb-true, eq-eqb}
use Rattle.ax_text.specs.declared.vocabulary.Kind.{Kind}
use Rattle.ax_text.specs.declared.vocabulary.Request.{Request}
use Rattle.ax_text.specs.Prints.{has}
use Rattle.ax_text.specs.Controls.{Cursor, Next, Control, Wait, Arms, slots, request_at}
use Rattle.ax_text.specs.Sound.{Split, IsSound}
use Rattle.ax_text.proofs.Keeps.{by_cases}
use Rattle.ax_text.proofs.Steps.{mem_either}
use Rattle.ax_text.proofs.Wakeful.{slot_waits, none_waits}
use Rattle.ax_future.specs.Least.{IsLeast, Waiting, HasLeast, IsLesser, IsLeastWaiting}

-- the only one
pub wait_least : (slot : ℕ) (request : Request) (next : Next) (k : Cursor) → IsLeast (Wait slot request next k) slot request
wait_least slot request next k = record {
  stands = rw (eq-eqb slot slot refl) refl;
  least = λ s m. by_cases (nat_eq s slot) (λ e. let same : s ≡ slot = eqb-true s slot e in omega arith) (λ e. absurd (both_ways false refl (rw e at m)));
}

module _ (one two : Control) (k : Cursor) where
  at_one : (s : ℕ) (r : Request) → request_at one s ≡ Some r → request_at (Arms one two k) s ≡ Some r
  at_one s r e = rw (slot_waits one s r e) e

  at_two : (s : ℕ) (r : Request) → Split (Arms one two k) → request_at two s ≡ Some r → request_at (Arms one two k) s ≡ Some r
  unfolding Split
  at_two s r h e = by_cases (has s (slots one))
      (λ m. absurd (both_ways (has s (slots two)) (h.0 s m) (slot_waits two s r e)))
      (λ m. rw m e)

  no_slot : (c : Control) (s : ℕ) → slots c ≡ [] → has s (slots c) ≡ true → ⊥
  no_slot c s e m = both_ways false refl (sym (ap (has s) e) ∙ m)

  first : (x : Waiting) → IsLeast one x.0 x.1.now → ((s : ℕ) → has s (slots two) ≡ true → x.0 ≤ s) → IsLeast (Arms one two k) x.0 x.1.now
  first x h g = record {
    stands = at_one x.0 x.1.now h.stands;
    least = λ s m. ⊎_elim (λ y. h.least s y) (λ y. g s y) (mem_either s (slots one) (slots two) m);
  }

  second : (x : Waiting) → Split (Arms one two k) → IsLeast two x.0 x.1.now → ((s : ℕ) → has s (slots one) ≡ true → x.0 ≤ s) → IsLeast (Arms one two k) x.0 x.1.now
  second x d h g = record {
    stands = at_two x.0 x.1.now d h.stands;
    least = λ s m. ⊎_elim (λ y. g s y) (λ y. h.least s y) (mem_either s (slots one) (slots two) m);
  }

  arms_by : (a b : Option Waiting) → HasLeast one a → HasLeast two b → (r : Option Waiting) → IsLesser a b r → HasLeast (Arms one two k) r
  unfolding Split
  arms_by None None p q r e = subst (HasLeast (Arms one two k)) (sym e) (ap₂ (λ (xs ys : List ℕ). xs ++ ys) p q)
  arms_by None (Some y) p q r e = subst (HasLeast (Arms one two k)) (sym e) (λ d. second y d (q d.2) (λ s m. absurd (no_slot one s p m)))
  arms_by (Some x) None p q r e = subst (HasLeast (Arms one two k)) (sym e) (λ d. first x (p d.1) (λ s m. absurd (no_slot two s q m)))
  arms_by (Some x) (Some y) p q r e = ⊎_elim
      (λ h. subst (HasLeast (Arms one two k)) (sym h.0) (λ d. first x (p d.1) (λ s m. let l : y.0 ≤ s = (q d.2).least s m in let i : x.0 ≤ y.0 = h.1 in omega arith)))
      (λ h. subst (HasLeast (Arms one two k)) (sym h.0) (λ d. second y d (q d.2) (λ s m. let l : x.0 ≤ s = (p d.1).least s m in let i : y.0 < x.0 = h.1 in omega arith))) e

  pub arms_least : (a b r : Option Waiting) → HasLeast one a → HasLeast two b → IsLesser a b r → HasLeast (Arms one two k) r
  arms_least a b r p q e = arms_by a b p q r e

-- a sound control
pub sound_least : (n : ℕ) (kinds : List Kind) (c : Control) (r : Option Waiting) → IsSound n kinds c → HasLeast c r → IsLeastWaiting c r
sound_least n kinds c None h e = none_waits c h.wakeful e
sound_least n kinds c (Some r) h e = e h.split
