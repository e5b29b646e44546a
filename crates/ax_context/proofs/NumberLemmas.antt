-- Numbers that wrap, and how far one is behind another.
use Rattle.std.proofs.Common.{◌≡◌, ℕ, length, set, Option, Bool, true, false, cond, is_some, leb, refl, ◌+◌, ◌-◌, ◌%◌, ◌^◌, ◌<◌, ◌≤◌, ◌∙◌, ap, sym, subst, inl, inr, min, Some, None, arith}
use Rattle.std.proofs.lemmas.Bool.{cases_eq, cases_order, le-leb, lt-leb, leb-true}
use Rattle.std.proofs.lemmas.List.Sums.{sum_by-set, sum_by-le-sum_by}
use Rattle.std.specs.List.{count_by}
use Rattle.ax_context.specs.declared.id.Id.{Id}
use Rattle.ax_context.specs.declared.contexts.Context.{Context}
use Rattle.ax_context.specs.Slots.{Slots, at, ahead, live_count, Has, IsTaken, IsFirstFree}
use Rattle.ax_context.proofs.SlotLemmas.{named, has_it, within}

-- how many numbers from one on lie before another
abbrev pub behind : ℕ → ℕ → ℕ
behind next number = (number + (2 ^ 64 - next)) % 2 ^ 64

pub behind-ahead : (next steps : ℕ) → next < 2 ^ 64 → steps < 2 ^ 64 → behind next (ahead next steps) ≡ steps
behind-ahead next steps h k = omega arith

pub same_steps : (number one two : ℕ) → one < 2 ^ 64 → two < 2 ^ 64 → ahead number one ≡ ahead number two → one ≡ two
same_steps number one two h k e = omega arith

pub ahead-behind : (next number : ℕ) → next < 2 ^ 64 → number < 2 ^ 64 → ahead next (behind next number) ≡ number
ahead-behind next number h k = omega arith

pub ahead-none : (number : ℕ) → number < 2 ^ 64 → ahead number 0 ≡ number
ahead-none number h = omega arith

pub ahead-ahead : (number one more : ℕ) → ahead (ahead number one) more ≡ ahead number (one + more)
ahead-ahead number one more = omega arith

pub ahead_returns : (number steps : ℕ) → number < 2 ^ 64 → 0 < steps → steps < 2 ^ 64 → ahead number steps ≡ number → ⊥
ahead_returns number steps h least most e = omega arith

most_one : (b : Bool) → cond b 1 0 ≤ 1
most_one true = omega arith
most_one false = omega arith

fewer_tests : (n x : ℕ) → cond (leb (n + 1) x) 1 0 ≤ cond (leb n x) 1 0
fewer_tests n x = by_test (leb (n + 1) x) refl
  where
    by_test : (b : Bool) → leb (n + 1) x ≡ b → cond b 1 0 ≤ cond (leb n x) 1 0
    by_test false e = omega arith
    by_test true e = subst (λ b. 1 ≤ cond b 1 0) (sym (le-leb n x (omega (arith, leb-true (n + 1) x e)))) (omega arith)

module _ {T : Type 0} where
  -- of the contexts of the first slots none has one of so many numbers from this one on, and where
  -- there are no such numbers a context has this one
  pub record IsGap (s : Slots T) (number slot free : ℕ) : Type 0 where
    pub none_within : (id : Id) → id.slot < slot → (k : ℕ) → k < free → Has s id (λ c. c.number ≡ ahead number k) → ⊥
    pub taken : free ≡ 0 → IsTaken s number
    pub fits : free < 2 ^ 64

  pub gap_none : (s : Slots T) (number slot free : ℕ) → at s (named slot) ≡ None → IsGap s number slot free → IsGap s number (slot + 1) free
  gap_none s number slot free none gap = record {
    none_within = λ id before k below has. elim (cases_eq id.slot slot) [
      | inl same ↦ let it = has_it (at s id) _ has in let e = ap (λ n. at s (named n)) same in absurd (cc)
      | inr differs ↦ gap.none_within id (omega arith) k below has
    ];
    taken = gap.taken;
    fits = gap.fits;
  }

  pub gap_some : (s : Slots T) (number slot free steps : ℕ) (c : Context T) → at s (named slot) ≡ Some c → number < 2 ^ 64 → steps < 2 ^ 64
      → ahead number steps ≡ c.number → IsGap s number slot free → IsGap s number (slot + 1) (min free steps)
  gap_some s number slot free steps c some fits range there gap = record {
    none_within = λ id before k below has. elim (cases_eq id.slot slot) [
      | inl same ↦
          let it = has_it (at s id) _ has in
          let is : Some c ≡ Some it.0 = sym some ∙ ap (λ n. at s (named n)) (sym same) ∙ it.1 in
          let one : c ≡ it.0 = cc in
          let e : ahead number steps ≡ ahead number k = there ∙ ap (λ (x : Context T). x.number) one ∙ it.2 in
          absurd (omega (arith, same_steps number steps k range (omega (arith, gap.fits)) e))
      | inr differs ↦ gap.none_within id (omega arith) k (omega arith) has
    ];
    taken = λ none. elim (cases_eq free 0) [
      | inl here ↦ gap.taken here
      | inr there' ↦
          let d : steps ≡ 0 = omega arith in
          (named slot, rw some (sym there ∙ ap (ahead number) d ∙ ahead-none number fits))
    ];
    fits = omega (arith, gap.fits);
  }

  -- past the last slot there is no context
  pub gap_all : (s : Slots T) (number slot free : ℕ) → length s.slots ≤ slot → IsGap s number slot free → (k : ℕ) → k < free → IsTaken s (ahead number k) → ⊥
  gap_all s number slot free past gap k below taken =
      let it = has_it (at s taken.0) _ taken.1 in
      let inside = within s taken.0 it.0 it.1 in
      gap.none_within taken.0 (omega arith) k below taken.1

  -- whether a slot has a context at least so many steps ahead
  abbrev pub is_past : ℕ → ℕ → Option (Context T) → Bool
  is_past next steps None = false
  is_past next steps (Some c) = leb steps (behind next c.number)

  -- how many contexts are at least so many steps ahead
  abbrev pub past : Slots T → ℕ → ℕ → ℕ
  past s next steps = count_by (is_past next steps) s.slots

  least_step : (next : ℕ) (o : Option (Context T)) → cond (is_past next 0 o) 1 0 ≤ cond (is_some o) 1 0
  least_step next None = omega arith
  least_step next (Some c) = most_one (leb 0 (behind next c.number))

  fewer_step : (next steps : ℕ) (o : Option (Context T)) → cond (is_past next (steps + 1) o) 1 0 ≤ cond (is_past next steps o) 1 0
  fewer_step next steps None = omega arith
  fewer_step next steps (Some c) = fewer_tests steps (behind next c.number)

  pub past_none : (s : Slots T) (next : ℕ) → past s next 0 ≤ live_count s
  past_none s next = sum_by-le-sum_by _ _ s.slots (least_step next)

  -- where the number so many steps ahead is taken, fewer contexts lie past it
  pub past_more : (s : Slots T) (next steps : ℕ) → next < 2 ^ 64 → steps < 2 ^ 64 → IsTaken s (ahead next steps) → past s next (steps + 1) + 1 ≤ past s next steps
  past_more s next steps h k taken =
      let it = has_it (at s taken.0) _ taken.1 in
      let slot = taken.0.slot in
      let inside = within s taken.0 it.0 it.1 in
      let d : behind next it.0.number ≡ steps = ap (behind next) it.2 ∙ behind-ahead next steps h k in
      let before : Option (Context T) → ℕ = λ o. cond (is_past next steps o) 1 0 in
      let after : Option (Context T) → ℕ = λ o. cond (is_past next (steps + 1) o) 1 0 in
      let one : before (at s taken.0) ≡ 1 = ap before it.1 ∙ ap {B = ℕ} (λ b. cond b 1 0) (le-leb steps (behind next it.0.number) (omega arith)) in
      let none : after (at s taken.0) ≡ 0 = ap after it.1 ∙ ap {B = ℕ} (λ b. cond b 1 0) (lt-leb (steps + 1) (behind next it.0.number) (omega arith)) in
      omega (
        arith,
        sum_by-set before s.slots slot None None inside,
        sum_by-set after s.slots slot None None inside,
        one,
        none,
        sum_by-le-sum_by after before (set s.slots slot None) (fewer_step next steps),
      )

  -- a number is the first that is free where all before it are taken
  pub first_found : (s : Slots T) (next steps : ℕ) → next ≡ s.next → next < 2 ^ 64 → ((k : ℕ) → k < steps → IsTaken s (ahead next k))
      → (IsTaken s (ahead (ahead next steps) 0) → ⊥) → IsFirstFree s (ahead next steps)
  first_found s next steps same fits before free = record {
    free = λ taken. free (rw (ahead-none (ahead next steps) (omega arith)) taken);
    steps = steps;
    there = ap (λ n. ahead n steps) same;
    before = λ k below. rw (← same) (before k below);
  }

  pub first_here : (s : Slots T) → s.next < 2 ^ 64 → (IsTaken s (ahead s.next 0) → ⊥) → IsFirstFree s s.next
  first_here s fits free = record {
    free = λ taken. free (rw (ahead-none s.next fits) taken);
    steps = 0;
    there = sym (ahead-none s.next fits);
    before = λ k below. absurd (omega arith);
  }

  -- there is only one first free number
  pub first_is_one : (s : Slots T) (one two : ℕ) → IsFirstFree s one → IsFirstFree s two → one ≡ two
  first_is_one s one two first second = elim (cases_order first.steps second.steps) [
    | inl same ↦ first.there ∙ ap (ahead s.next) same ∙ sym second.there
    | inr (inl less) ↦ absurd (first.free (rw first.there (second.before first.steps less)))
    | inr (inr more) ↦ absurd (second.free (rw second.there (first.before second.steps more)))
  ]
