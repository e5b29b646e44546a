-- A request that waits, as its slot and as what the control has there.
use Rattle.std.proofs.Common.{◌≡◌, ℕ, zero, suc, ◌<◌, [], ◌∷◌, get_or, refl, sym, ap, ◌∙◌, inl, inr, Bool, true, false, ◌||◌, Some, Contains, eq-eqb, arith}
use Rattle.std.proofs.lemmas.Bool.{cond-true, cond-false}
use Rattle.std.proofs.lemmas.List.Elements.{Contains-append_cases}
use Rattle.ax_text.specs.declared.vocabulary.Request.{Request}
use Rattle.ax_text.specs.Prints.{has}
use Rattle.ax_text.specs.Controls.{Control, Done, Wait, Arms, Ask', slots, waiting, request_at}
use Rattle.ax_text.specs.Sound.{Split}
use Rattle.ax_text.proofs.Steps.{mem_append}

abbrev ask : ℕ → Request → Ask'
ask s q = record { slot = s; request = q }

-- where it is the only one, it is that one
only : (s t : ℕ) (q r : Request) → Contains (ask t r ∷ []) (ask s q) → (s ≡ t) × (q ≡ r)
only s t q r c = at c.0 c.1 c.2
  where
    at : (k : ℕ) → k < 1 → get_or (ask t r ∷ []) k (ask s q) ≡ ask s q → (s ≡ t) × (q ≡ r)
    at zero lt e = (sym (ap (λ (a : Ask'). a.slot) e), sym (ap (λ (a : Ask'). a.request) e))
    at (suc k) lt e = absurd (omega arith)

has_there : (c : Control) (s : ℕ) (q : Request) → Contains (waiting c) (record { slot = s; request = q }) → has s (slots c) ≡ true
has_there Done s q h = absurd (omega (arith, h.1))
has_there (Wait t r n k) s q h = rw (only s t q r h).0 (rw (eq-eqb t t refl) refl)
has_there (Arms one two k) s q h = rw (mem_append s (slots one) (slots two)) (elim (Contains-append_cases (waiting one) (waiting two) (record { slot = s; request = q }) h) [
  | inl x ↦ rw (has_there one s q x) refl
  | inr x ↦ rw (has_there two s q x) (or_true (has s (slots one)))
])
  where
    or_true : (b : Bool) → (b || true) ≡ true
    or_true true = refl
    or_true false = refl

-- what waits is what the control has at the slot
pub waits_here : (c : Control) (s : ℕ) (q : Request) → Split c → Contains (waiting c) (record { slot = s; request = q }) → request_at c s ≡ Some q
unfolding Split
waits_here Done s q d h = absurd (omega (arith, h.1))
waits_here (Wait t r n k) s q d h = of (only s t q r h)
  where
    of : (s ≡ t) × (q ≡ r) → request_at (Wait t r n k) s ≡ Some q
    of e = rw e.0 (rw (eq-eqb t t refl) (ap Some (sym e.1)))
waits_here (Arms one two k) s q d h = elim (Contains-append_cases (waiting one) (waiting two) (record { slot = s; request = q }) h) [
  | inl x ↦ cond-true (has s (slots one)) (request_at one s) (request_at two s) (has_there one s q x) ∙ waits_here one s q d.1 x
  | inr x ↦ cond-false (has s (slots one)) (request_at one s) (request_at two s) (apart (has s (slots one)) refl (has_there two s q x)) ∙ waits_here two s q d.2 x
]
  where
    apart : (b : Bool) → has s (slots one) ≡ b → has s (slots two) ≡ true → has s (slots one) ≡ false
    apart true e x = absurd (clash (sym x ∙ d.0 s e))
      where
        clash : true ≡ false → ⊥
        clash w = cc w
    apart false e x = e
