-- The requests that wait behind an answer, and those that a callback asks.
use Rattle.std.proofs.Common.{◌≡◌, ◌⊎◌, ℕ, zero, suc, ◌<◌, nat_eq, true, false, List, [], ◌∷◌, ◌++◌, map, length, get_or, refl, sym, ap, ◌∙◌, subst, inl, inr, Contains, arith}
use Rattle.std.proofs.lemmas.Bool.{cond-true, cond-false}
use Rattle.std.proofs.lemmas.List.Elements.{Contains-append_left, Contains-append_right}
use Rattle.ax_text.specs.Controls.{Ask' as Asked, replaced}
use Rattle.ax_future.specs.declared.callback.Ask.{Ask}
use Rattle.ax_future.specs.Talks.{ask_in, asks_in}
use Rattle.ax_machine.specs.Entries.{Key}
use Rattle.ax_buffer.specs.declared.items.Item.{Item}
use Rattle.ax_context.specs.declared.id.Id.{Id}
use Rattle.ax_execution.proofs.Upto.{by_cases}
use Rattle.ax_core.specs.Flow.{waits_for}
use Rattle.ax_core.specs.Callbacks.{item_for, items_for}

-- ---- what stands in a list

pub contains_behind : {X : Type 0} (y : X) (xs : List X) (x : X) → Contains xs x → Contains (y ∷ xs) x
contains_behind y xs x c = (suc c.0, omega (arith, c.1), c.2)

first_at : {X : Type 0} (y : X) (xs : List X) (x : X) (k : ℕ) → k < length (y ∷ xs) → get_or (y ∷ xs) k x ≡ x → (y ≡ x) ⊎ Contains xs x
first_at y xs x zero lt e = inl e
first_at y xs x (suc k) lt e = inr (k, omega (arith, lt), e)

-- it is the first, or one behind it
pub first_or : {X : Type 0} (y : X) (xs : List X) (x : X) → Contains (y ∷ xs) x → (y ≡ x) ⊎ Contains xs x
first_or y xs x c = first_at y xs x c.0 c.1 c.2

pub contains_none : {X : Type 0} (x : X) → Contains [] x → ⊥
contains_none x c = omega (arith, c.1)

pub contains_map : {X Y : Type 0} (f : X → Y) (xs : List X) (x : X) → Contains xs x → Contains (map f xs) (f x)
contains_map f [] x c = absurd (contains_none x c)
contains_map f (y ∷ xs) x c = elim (first_or y xs x c) [
  | inl e ↦ (0, omega arith, ap f e)
  | inr d ↦ contains_behind (f y) (map f xs) (f x) (contains_map f xs x d)
]

-- what stands in a list of values is the value of what stands in the list
pub record IsMapped {X Y : Type 0} (f : X → Y) (xs : List X) (y : Y) : Type 0 where
  pub from : X
  pub there : Contains xs from
  pub gives : f from ≡ y

pub is_mapped : {X Y : Type 0} (f : X → Y) (xs : List X) (y : Y) → Contains (map f xs) y → IsMapped f xs y
is_mapped f [] y c = absurd (contains_none y c)
is_mapped f (x ∷ xs) y c = elim (first_or (f x) (map f xs) y c) [
  | inl e ↦ record { from = x; there = (0, omega arith, refl); gives = e }
  | inr d ↦ (let rest : IsMapped f xs y = is_mapped f xs y d in record { from = rest.from; there = contains_behind x xs rest.from rest.there; gives = rest.gives })
]

-- ---- what is asked, and what waits on

-- an item is of the context and its key, and was asked
pub record IsOfAsks (id : Id) (key : Key) (asks : List Ask) (i : Item) : Type 0 where
  pub of_id : i.id ≡ id
  pub of_key : i.key ≡ key
  pub asked : Contains (asks_in asks) (record { slot = i.slot; request = i.request })

pub of_asks : (id : Id) (key : Key) (asks : List Ask) (i : Item) → Contains (items_for id key asks) i → IsOfAsks id key asks i
of_asks id key asks i c =
    let it : IsMapped (item_for id key) asks i = is_mapped (item_for id key) asks i c in
    subst (IsOfAsks id key asks) it.gives (record { of_id = refl; of_key = refl; asked = contains_map ask_in asks it.from it.there })

-- a request at another slot stays
pub replaced_keeps : (slot : ℕ) (others xs : List Asked) (a : Asked) → nat_eq slot a.slot ≡ false → Contains xs a → Contains (replaced slot others xs) a
replaced_keeps slot others [] a differ c = absurd (contains_none a c)
replaced_keeps slot others (x ∷ xs) a differ c = by_cases (nat_eq slot x.slot)
    (λ e. subst (λ (ys : List Asked). Contains ys a) (sym (cond-true (nat_eq slot x.slot) (others ++ xs) (x ∷ replaced slot others xs) e)) (elim (first_or x xs a c) [
      | inl same ↦ absurd (true_false (sym e ∙ ap (λ (b : Asked). nat_eq slot b.slot) same ∙ differ))
      | inr d ↦ Contains-append_right others xs a d
    ]))
    (λ e. subst (λ (ys : List Asked). Contains ys a) (sym (cond-false (nat_eq slot x.slot) (others ++ xs) (x ∷ replaced slot others xs) e)) (elim (first_or x xs a c) [
      | inl same ↦ (0, omega arith, same)
      | inr d ↦ contains_behind x (replaced slot others xs) a (replaced_keeps slot others xs a differ d)
    ]))
  where
    true_false : true ≡ false → ⊥
    true_false e = cc e

-- and the others come in the place of the one that was answered
pub replaced_has : (slot : ℕ) (others xs : List Asked) (a : Asked) → waits_for xs slot ≡ true → Contains others a → Contains (replaced slot others xs) a
replaced_has slot others [] a waits c = absurd (cc waits)
replaced_has slot others (x ∷ xs) a waits c = by_cases (nat_eq slot x.slot)
    (λ e. subst (λ (ys : List Asked). Contains ys a) (sym (cond-true (nat_eq slot x.slot) (others ++ xs) (x ∷ replaced slot others xs) e)) (Contains-append_left others xs a c))
    (λ e. subst (λ (ys : List Asked). Contains ys a) (sym (cond-false (nat_eq slot x.slot) (others ++ xs) (x ∷ replaced slot others xs) e))
    (contains_behind x (replaced slot others xs) a (replaced_has slot others xs a (rw e at waits) c)))
