-- Cell keys are told apart, sort as their places, and begin with the key of their state.
use Rattle.std.proofs.Common.{◌≡◌, ℕ, ◌/◌, ◌%◌, ◌^◌, ◌<◌, ◌≤◌, ℤ, List, [], ◌∷◌, ◌++◌, length, drop, true, Option, None, refl, sym, ap, ◌∙◌, arith}
use Rattle.std.proofs.lemmas.List.{append_assoc}
use Rattle.std.proofs.lemmas.Nat.{mod_below}
use Rattle.std.proofs.lemmas.Bool.Decides.{Decides-eqb}
use Rattle.std.proofs.lemmas.Slice.Eq.{starts_is}
use Rattle.std.specs.declared.cmp.Ordering.{Ordering}
use Rattle.std.specs.Ordering.{nat_cmp, ordering_then}
use Rattle.std.specs.Int.{w16, to_be_bytes}
use Rattle.ax_keys.specs.Keys.{is_key, key_cmp}
use Rattle.ax_keys.specs.Groups.{group, spread, hash_of, IsMaximum}
use Rattle.ax_store.specs.Held.{bytes_cmp, begins}
use Rattle.ax_serve.specs.CellKeys.{entry_bytes, cell_key, Place, IsPlace, key_of, place_cmp}
use Rattle.ax_serve.proofs.ByteOrder.{by_words}
use Rattle.ax_serve.proofs.KeyParts.{key_bytes, heads, tails, by_keys, cut_at_zero}
use Rattle.ax_serve.proofs.Turned.{by_entries, one_entry}

below : (x m : ℕ) → x < m → m ≤ 32768 → x < 2 ^ 16
below x m less most = omega arith

some_group : (m : ℕ) → IsMaximum m → 0 < m
some_group m h = let some : 1 ≤ m = h.0 in omega arith

group_fits : (m : ℕ) (key : List ℕ) → IsMaximum m → group key m < 2 ^ 16
group_fits m key h = below (group key m) m (mod_below (spread (hash_of key)) m (some_group m h)) h.1

pub sorted : (m : ℕ) (p q : Place) → IsMaximum m → IsPlace p → IsPlace q → bytes_cmp (key_of m p) (key_of m q) ≡ place_cmp m p q
sorted m p q maximum a b =
    by_words (group p.key m) (group q.key m) (p.key ++ 0 ∷ (to_be_bytes w16 p.state ++ entry_bytes p.at)) (q.key ++ 0 ∷ (to_be_bytes w16 q.state ++ entry_bytes q.at))
    (group_fits m p.key maximum) (group_fits m q.key maximum)
    ∙ ap (λ (o : Ordering). ordering_then (nat_cmp (group p.key m) (group q.key m)) o)
    (by_keys p.key q.key (to_be_bytes w16 p.state ++ entry_bytes p.at) (to_be_bytes w16 q.state ++ entry_bytes q.at) (key_bytes p.key a.key) (key_bytes q.key b.key)
    ∙ ap (λ (o : Ordering). ordering_then (key_cmp p.key q.key) o)
    (by_words p.state q.state (entry_bytes p.at) (entry_bytes q.at) a.state b.state
    ∙ ap (λ (o : Ordering). ordering_then (nat_cmp p.state q.state) o) (by_entries p.at q.at a.at b.at)))

-- two bytes and what stands behind them

one_word : (n m : ℕ) (xs ys : List ℕ) → n < 2 ^ 16 → m < 2 ^ 16 → to_be_bytes w16 n ++ xs ≡ to_be_bytes w16 m ++ ys → n ≡ m
one_word n m xs ys small fits e =
    let high : n / 256 % 256 ≡ m / 256 % 256 = heads e in
    let low : n % 256 ≡ m % 256 = heads (tails e) in
    omega arith

behind_word : (n m : ℕ) (xs ys : List ℕ) → to_be_bytes w16 n ++ xs ≡ to_be_bytes w16 m ++ ys → xs ≡ ys
behind_word n m xs ys e = tails (tails e)

pub own : (m : ℕ) (p q : Place) → IsMaximum m → IsPlace p → IsPlace q → key_of m p ≡ key_of m q → p ≡ q
own m p q maximum a b e =
    let xs : List ℕ = to_be_bytes w16 p.state ++ entry_bytes p.at in
    let ys : List ℕ = to_be_bytes w16 q.state ++ entry_bytes q.at in
    let parts : (p.key ≡ q.key) × (xs ≡ ys) = cut_at_zero p.key q.key xs ys (key_bytes p.key a.key) (key_bytes q.key b.key) (behind_word (group p.key m) (group q.key m) (p.key ++ 0 ∷ xs) (q.key ++ 0 ∷ ys) e) in
    let state : p.state ≡ q.state = one_word p.state q.state (entry_bytes p.at) (entry_bytes q.at) a.state b.state parts.1 in
    let at : p.at ≡ q.at = one_entry p.at q.at a.at b.at (behind_word p.state q.state (entry_bytes p.at) (entry_bytes q.at) parts.1) in
    λ i. record { key = parts.0 i; state = state i; at = at i }

-- the key of a state and then more
with_more : (m : ℕ) (key : List ℕ) (state : ℕ) (more : List ℕ) → cell_key m key state None ++ more ≡ to_be_bytes w16 (group key m) ++ (key ++ 0 ∷ (to_be_bytes w16 state ++ more))
with_more m key state more = ap (λ (x : List ℕ). to_be_bytes w16 (group key m) ++ x) (append_assoc key (0 ∷ (to_be_bytes w16 state ++ [])) more)

pub begins_all : (m : ℕ) (key : List ℕ) (state : ℕ) (at : Option ℤ) → begins (cell_key m key state None) (cell_key m key state at) ≡ true
begins_all m key state at =
    (starts_is Decides-eqb (cell_key m key state at) (cell_key m key state None) (begins (cell_key m key state None) (cell_key m key state at)) refl).1
    (entry_bytes at) (sym (with_more m key state (entry_bytes at)))

pub begins_alone : (m : ℕ) (key : List ℕ) (state : ℕ) (p : Place) → IsMaximum m → is_key key ≡ true → state < 2 ^ 16 → IsPlace p
    → begins (cell_key m key state None) (key_of m p) ≡ true → (p.key ≡ key) × (p.state ≡ state)
begins_alone m key state p maximum is_key small a h =
    let more : List ℕ = drop (length (cell_key m key state None)) (key_of m p) in
    let e : key_of m p ≡ cell_key m key state None ++ more = (starts_is Decides-eqb (key_of m p) (cell_key m key state None) (begins (cell_key m key state None) (key_of m p)) refl).0 h in
    let xs : List ℕ = to_be_bytes w16 p.state ++ entry_bytes p.at in
    let ys : List ℕ = to_be_bytes w16 state ++ more in
    let parts : (p.key ≡ key) × (xs ≡ ys) = cut_at_zero p.key key xs ys (key_bytes p.key a.key) (key_bytes key is_key)
    (behind_word (group p.key m) (group key m) (p.key ++ 0 ∷ xs) (key ++ 0 ∷ ys) (e ∙ with_more m key state more)) in
    (parts.0, one_word p.state state (entry_bytes p.at) more a.state small parts.1)
