-- Lists, changed at one place.
use Rattle.std.proofs.Common.{◌≡◌, ◌≢◌, ◌⊎◌, ℕ, zero, suc, ◌+◌, ◌<◌, ◌≤◌, List, [], ◌∷◌, ◌++◌, length, length-append, get_or, set, map, replicate, refl, ap, ap₂, ◌∙◌, inl, inr, arith}
use Rattle.std.proofs.lemmas.Bool.{cases_eq}
use Rattle.std.proofs.lemmas.List.{get_or-set_same, get_or-set_other, map-set}
use Rattle.ax_buffer.specs.Buffer.{total}

-- what stands at each place of a list that changed at one
pub at_set : {X : Type 0} (xs : List X) (s t : ℕ) (y d : X) → s < length xs → ((t ≡ s) × (get_or (set xs s y) t d ≡ y)) ⊎ ((t ≢ s) × (get_or (set xs s y) t d ≡ get_or xs t d))
at_set xs s t y d h = elim (cases_eq t s) [
  | inl e ↦ inl (e, ap (λ (k : ℕ). get_or (set xs s y) k d) e ∙ get_or-set_same xs s y d h)
  | inr e ↦ inr (e, get_or-set_other xs s t y d e)
]

pub total-set : {X : Type 0} (f : X → ℕ) (xs : List X) (s : ℕ) (y d : X) → s < length xs → total f (set xs s y) + f (get_or xs s d) ≡ total f xs + f y
total-set f [] s y d h = absurd (omega arith)
total-set f (x ∷ xs) zero y d h = omega arith
total-set f (x ∷ xs) (suc s) y d h = omega (arith, total-set f xs s y d (omega arith))

pub total-at : {X : Type 0} (f : X → ℕ) (xs : List X) (s : ℕ) (d : X) → s < length xs → f (get_or xs s d) ≤ total f xs
total-at f [] s d h = absurd (omega arith)
total-at f (x ∷ xs) zero d h = omega arith
total-at f (x ∷ xs) (suc s) d h = omega (arith, total-at f xs s d (omega arith))

pub total-replicate : {X : Type 0} (f : X → ℕ) (n : ℕ) (x : X) → f x ≡ 0 → total f (replicate n x) ≡ 0
total-replicate f zero x h = refl
total-replicate f (suc n) x h = omega (arith, h, total-replicate f n x h)

-- a total is the same where the numbers of each element are
pub total_same : {X Y : Type 0} (f : X → ℕ) (g : Y → ℕ) (h : X → Y) (xs : List X) (d : X) → ((t : ℕ) → t < length xs → g (h (get_or xs t d)) ≡ f (get_or xs t d)) → total g (map h xs) ≡ total f xs
total_same f g h [] d same = refl
total_same f g h (x ∷ xs) d same = ap₂ (λ m n. m + n) (same 0 (omega arith)) (total_same f g h xs d (λ t lt. same (suc t) (omega arith)))

pub map-replicate : {X Y : Type 0} (f : X → Y) (n : ℕ) (x : X) → map f (replicate n x) ≡ replicate n (f x)
map-replicate f zero x = refl
map-replicate f (suc n) x = ap (λ ys. f x ∷ ys) (map-replicate f n x)

pub at_replicate : {X : Type 0} (n : ℕ) (x : X) (t : ℕ) → get_or (replicate n x) t x ≡ x
at_replicate zero x t = refl
at_replicate (suc n) x zero = refl
at_replicate (suc n) x (suc t) = at_replicate n x t

map_same : {X Y : Type 0} (f g : X → Y) (xs : List X) (d : X) → ((t : ℕ) → t < length xs → f (get_or xs t d) ≡ g (get_or xs t d)) → map f xs ≡ map g xs
map_same f g [] d same = refl
map_same f g (x ∷ xs) d same = ap₂ (λ y ys. y ∷ ys) (same 0 (omega arith)) (map_same f g xs d (λ t lt. same (suc t) (omega arith)))

-- two functions that differ at one element alone
set_map : {X Y : Type 0} (f g : X → Y) (xs : List X) (s : ℕ) (y : Y) (d : X) → ((t : ℕ) → t < length xs → t ≢ s → f (get_or xs t d) ≡ g (get_or xs t d)) → set (map f xs) s y ≡ set (map g xs) s y
set_map f g [] s y d same = refl
set_map f g (x ∷ xs) zero y d same = ap (λ ys. y ∷ ys) (map_same f g xs d (λ t lt. same (suc t) (omega arith) (omega arith)))
set_map f g (x ∷ xs) (suc s) y d same = ap₂ (λ z zs. z ∷ zs) (same 0 (omega arith) (omega arith)) (set_map f g xs s y d (λ t lt differs. same (suc t) (omega arith) (omega arith)))

-- one element changes, and another function gives the same of each other element
pub map_one : {X Y : Type 0} (f g : X → Y) (xs : List X) (s : ℕ) (x d : X) (y : Y) → f x ≡ y → ((t : ℕ) → t < length xs → t ≢ s → f (get_or xs t d) ≡ g (get_or xs t d)) → map f (set xs s x) ≡ set (map g xs) s y
map_one f g xs s x d y here same = map-set f xs s x ∙ ap (λ z. set (map f xs) s z) here ∙ set_map f g xs s y d same

-- how many elements all lists have, with one more in one of them, and with one less
pub total_pushed : {X : Type 0} (queues : List (List X)) (s : ℕ) (x : X) → s < length queues → total length (set queues s (get_or queues s [] ++ x ∷ [])) ≡ total length queues + 1
total_pushed queues s x there = omega (arith, total-set length queues s (get_or queues s [] ++ x ∷ []) [] there, length-append (get_or queues s []) (x ∷ []))

pub total_taken : {X : Type 0} (queues : List (List X)) (s : ℕ) (x : X) (rest : List X) → s < length queues → get_or queues s [] ≡ x ∷ rest → total length (set queues s rest) + 1 ≡ total length queues
total_taken queues s x rest there e = omega (arith, total-set length queues s rest [] there, ap length e)
