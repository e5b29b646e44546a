use Rattle.std.proofs.Common.{◌≡◌, ◌<◌, ◌↔◌, ℕ, List, [], length, Option, None, Some, IsSome, IfNone, IfSome, refl, sym, arith, ◌∷◌}
use Rattle.std.proofs.lemmas.Bool.{true≢false}
use Rattle.ax_plain.proofs.AgendaLemmas.{none_fires, is_next, popped, listed_as, some_behind, some_same}
use Rattle.ax_plain.proofs.agenda.Agenda.pop.Goals as goal

if_both : {X : Type 0} {P Q R : X → Type 0} (o : Option X) → ((x : X) → P x → Q x → R x) → IfSome o P → IfSome o Q → IfSome o R
if_both None f p q = tt
if_both (Some x) f p q = f x p q

-- nothing left, so nothing was there
empty : {X Y P : Type 0} (o : Option X) (es : List Y) → IsSome o ↔ (0 < length es) → (es ≡ [] → P) → IfNone o P
empty None [] h f = f refl
empty None (e ∷ es) h f = absurd (true≢false (sym (h.1 (omega arith))))
empty (Some x) es h f = tt

pub returns-clause-none : goal.returns-clause-none
returns-clause-none c = empty c.pop_first.result c.self.inside.entries.entries c.pop_first.ensures.variant
    (λ none w more times lists. none_fires w more times c.self.inside.entries.entries (listed_as w more times c.self.inside.entries.entries c.args.self.now c.self.view_is lists) none)

pub returns-clause-next : goal.returns-clause-next
returns-clause-next c = if_both c.pop_first.result
    (λ r at least w more times lists. is_next w more times c.self.inside.entries.entries r.0 r.1 (listed_as w more times c.self.inside.entries.entries c.args.self.now c.self.view_is lists) at least)
    c.pop_first.ensures.value c.pop_first.ensures.least

pub returns-clause-rest : goal.returns-clause-rest
returns-clause-rest c = if_both c.pop_first.result
    (λ r at left w more times lists. popped w more times c.self.inside.entries.entries c.pop_first.new.self.entries r.0 r.1 (listed_as w more times c.self.inside.entries.entries c.args.self.now c.self.view_is lists) at left.0)
    c.pop_first.ensures.value c.pop_first.ensures.updates

never : (n : ℕ) → None ≡ Some n → ⊥
never n e = cc

if_some : {X : Type 0} {P Q : X → Type 0} (o : Option X) → ((x : X) → P x → Q x) → IfSome o P → IfSome o Q
if_some None f p = tt
if_some (Some x) f p = f x p

by_some : {X Q : Type 0} {P : X → Type 0} {R : Type 0} (o : Option X) → ((x : X) → P x → Q) → (R → Q) → IfSome o P → IfNone o R → Q
by_some None f g p r = g r
by_some (Some x) f g p r = f x p

pub returns-clause-some : goal.returns-clause-some
returns-clause-some c = if_some c.pop_first.result (λ r at. c.self.invariant r.0 r.1 at) c.pop_first.ensures.value

pub invariant_of-self : goal.invariant_of-self
invariant_of-self c = by_some c.pop_first.result
    (λ r left. some_behind c.self.inside.entries.entries c.pop_first.new.self.entries r.0 None c.self.invariant (λ n e. absurd (never n e)) left.0)
    (λ same. some_same c.self.inside.entries.entries c.pop_first.new.self.entries same c.self.invariant)
    c.pop_first.ensures.updates c.pop_first.ensures.unchanged
