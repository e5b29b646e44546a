-- Sums over the controls of keys: over any rising keys that hold the busy ones, and how they change.
use Rattle.std.proofs.Common.{◌≡◌, ℕ, ◌+◌, List, [], ◌∷◌, true, false, cond, refl, sym, ap, ◌∙◌, arith, length, Option, ap₂}
use Rattle.std.proofs.lemmas.Bool.{cond-true, cond-false}
use Rattle.std.specs.Str.{bytes_eq}
use Rattle.std.specs.List.{list_any}
use Rattle.std.specs.List.Sorted.{IsStrictlySortedBy}
use Rattle.std.specs.BTreeSet.{insert_key}
use Rattle.ax_keys.specs.Keys.{key_cmp}
use Rattle.ax_machine.specs.Entries.{Key}
use Rattle.ax_machine.proofs.FiringLemmas.{key_is, same_key}
use Rattle.ax_execution.specs.Sums.{total}
use Rattle.ax_execution.specs.KeyControls.{KeyControl}
use Rattle.ax_text.specs.Cells.{Cells}
use Rattle.ax_text.specs.Programs.{Program}
use Rattle.ax_execution.specs.Contexts.{Context, Waiting}
use Rattle.ax_execution.specs.MachineControls.{MachineControl, control_at, control_work, work_on}
use Rattle.ax_execution.specs.ControlsAllowed.{IsFreeOn, HoldBusy}
use Rattle.ax_execution.proofs.Upto.{by_cases}
use Rattle.ax_execution.proofs.KeySums.{once_from, changes, inserted_total, inserted_again}
use Rattle.ax_execution.proofs.Stuck.{others_stay, total_changes, zeros}

-- with nothing at a key
hidden : Key → (Key → ℕ) → Key → ℕ
hidden x f k = cond (bytes_eq x k) 0 (f k)

hidden_here : (x : Key) (f : Key → ℕ) → hidden x f x ≡ 0
unfolding hidden
hidden_here x f = cond-true (bytes_eq x x) 0 (f x) (same_key x)

hidden_off : (x : Key) (f : Key → ℕ) (k : Key) → bytes_eq x k ≡ false → hidden x f k ≡ f k
unfolding hidden
hidden_off x f k h = cond-false (bytes_eq x k) 0 (f k) h

-- what is 0 stays so
hidden_zero : (x : Key) (f : Key → ℕ) (k : Key) → (bytes_eq x k ≡ false → f k ≡ 0) → hidden x f k ≡ 0
unfolding hidden
hidden_zero x f k h = by_cases (bytes_eq x k) (λ e. cond-true (bytes_eq x k) 0 (f k) e) (λ e. cond-false (bytes_eq x k) 0 (f k) e ∙ h e)

other_way : (x k : Key) → bytes_eq x k ≡ false → bytes_eq k x ≡ false
other_way x k h = by_cases (bytes_eq k x) (λ e. absurd (true_false (sym (ap (bytes_eq x) (key_is k x e) ∙ same_key x) ∙ h))) (λ e. e)
  where
    true_false : true ≡ false → ⊥
    true_false e = cc e

-- the sum over all but one of a sum's keys
without_one : (x : Key) (ks : List Key) (f : Key → ℕ) → IsStrictlySortedBy key_cmp ks → (list_any (bytes_eq x) ks ≡ false → f x ≡ 0) → total ks (hidden x f) + f x ≡ total ks f
without_one x ks f s z = by_cases (list_any (bytes_eq x) ks)
    (λ m. let a : total ks (hidden x f) + f x ≡ total ks f + hidden x f x = total_changes x f (hidden x f) ks (hidden_off x f) (once_from x ks s m) in
    let b : hidden x f x ≡ 0 = hidden_here x f in omega arith)
    (λ m. let a : total ks (hidden x f) ≡ total ks f = others_stay x f (hidden x f) ks (hidden_off x f) m in
    let b : f x ≡ 0 = z m in omega arith)

-- two rising lists of keys that hold each key with a share
pub same_total : (ks js : List Key) (f : Key → ℕ) → IsStrictlySortedBy key_cmp ks → IsStrictlySortedBy key_cmp js
    → ((k : Key) → list_any (bytes_eq k) ks ≡ false → f k ≡ 0) → ((k : Key) → list_any (bytes_eq k) js ≡ false → f k ≡ 0) → total ks f ≡ total js f
unfolding IsStrictlySortedBy
same_total [] js f s t a b = sym (zeros f js (λ k. a k refl))
same_total (x ∷ xs) js f s t a b =
    let rest : total xs (hidden x f) ≡ total js (hidden x f) = same_total xs js (hidden x f) s.1 t
    (λ k h. hidden_zero x f k (λ e. a k (rw (other_way x k e) h)))
    (λ k h. hidden_zero x f k (λ e. b k h)) in
    let one : total (x ∷ xs) (hidden x f) + f x ≡ total (x ∷ xs) f = without_one x (x ∷ xs) f s (a x) in
    let two : total js (hidden x f) + f x ≡ total js f = without_one x js f t (b x) in
    let here : hidden x f x ≡ 0 = hidden_here x f in
    omega arith

module _ (share : KeyControl → ℕ) (none : (c : KeyControl) → IsFreeOn c → share c ≡ 0) (m : MachineControl) where
  pub busy_total : (ks js : List Key) → HoldBusy ks m → HoldBusy js m → total ks (λ k. share (m.controls k)) ≡ total js (λ k. share (m.controls k))
  busy_total ks js a b = same_total ks js (λ k. share (m.controls k)) a.rise b.rise (λ k h. none (m.controls k) (a.others k h)) (λ k h. none (m.controls k) (b.others k h))

  -- one key alone changes
  own_share : (k : Key) (q : KeyControl) → share (control_at m.controls k q k) ≡ share q
  own_share k q = ap share (cond-true (bytes_eq k k) q (m.controls k) (same_key k))

  other_share : (k : Key) (q : KeyControl) (j : Key) → bytes_eq k j ≡ false → share (control_at m.controls k q j) ≡ share (m.controls j)
  other_share k q j x = ap share (cond-false (bytes_eq k j) q (m.controls j) x)

  pub shifted : (k : Key) (q : KeyControl) (x y : ℕ) → HoldBusy m.keys m → list_any (bytes_eq k) m.keys ≡ true → share q + x ≡ share (m.controls k) + y
      → total m.keys (λ j. share (control_at m.controls k q j)) + x ≡ total m.keys (λ j. share (m.controls j)) + y
  shifted k q x y busy known h =
      let a : share (control_at m.controls k q k) ≡ share q = own_share k q in
      let b : total m.keys (λ j. share (control_at m.controls k q j)) + share (m.controls k) ≡ total m.keys (λ j. share (m.controls j)) + share (control_at m.controls k q k) =
      changes k (λ j. share (m.controls j)) (λ j. share (control_at m.controls k q j)) m.keys busy.rise (other_share k q) known in
      omega arith

  -- and is put among the keys
  pub entered : (k : Key) (q : KeyControl) (y : ℕ) → HoldBusy m.keys m → share q ≡ y + share (m.controls k)
      → total (insert_key key_cmp m.keys k) (λ j. share (control_at m.controls k q j)) ≡ total m.keys (λ j. share (m.controls j)) + y
  entered k q y busy h = by_cases (list_any (bytes_eq k) m.keys)
      (λ x. ap (λ (ks : List Key). total ks (λ j. share (control_at m.controls k q j))) (inserted_again k m.keys busy.rise x)
      ∙ (let a : total m.keys (λ j. share (control_at m.controls k q j)) + 0 ≡ total m.keys (λ j. share (m.controls j)) + y = shifted k q 0 y busy x (omega arith) in omega arith))
      (λ x. let a : share (control_at m.controls k q k) ≡ share q = own_share k q in
      let b : share (m.controls k) ≡ 0 = none (m.controls k) (busy.others k x) in
      let c : total m.keys (λ j. share (control_at m.controls k q j)) ≡ total m.keys (λ j. share (m.controls j)) =
      others_stay k (λ j. share (m.controls j)) (λ j. share (control_at m.controls k q j)) m.keys (other_share k q) x in
      let d : total (insert_key key_cmp m.keys k) (λ j. share (control_at m.controls k q j)) ≡ share (control_at m.controls k q k) + total m.keys (λ j. share (control_at m.controls k q j)) =
      inserted_total k m.keys (λ j. share (control_at m.controls k q j)) x in
      omega arith)

-- the work left

free_work : (p : Program) (c : KeyControl) (cells : Cells) → IsFreeOn c → control_work p c cells ≡ 0
free_work p c cells h = ap₂ (λ (o : Option Context) (is : List Waiting). control_work p (record { owner = o; waiting = is; times = c.times }) cells) h.owner h.waiting

pub busy_work : (p : Program) (cells : Key → Cells) (m : MachineControl) (ks : List Key) → HoldBusy ks m → HoldBusy m.keys m → total ks (λ k. control_work p (m.controls k) (cells k)) + length m.unsent ≡ work_on p cells m
busy_work p cells m ks a b = ap (λ (n : ℕ). n + length m.unsent) (same_total ks m.keys (λ k. control_work p (m.controls k) (cells k)) a.rise b.rise
    (λ k h. free_work p (m.controls k) (cells k) (a.others k h)) (λ k h. free_work p (m.controls k) (cells k) (b.others k h)))
