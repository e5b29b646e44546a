-- References: a context is in flight exactly while it has some, and it is given up where a callback leaves none.
use Rattle.std.proofs.Common.{◌≡◌, ℕ, ◌+◌, ◌≤◌, ◌<◌, nat_eq, List, [], ◌∷◌, Bool, true, false, cond, Option, Some, None, refl, ap, arith}
use Rattle.std.proofs.lemmas.Bool.{cond-true}
use Rattle.std.specs.Str.{bytes_eq}
use Rattle.std.specs.List.{list_any}
use Rattle.std.specs.List.Sorted.{IsStrictlySortedBy}
use Rattle.ax_keys.specs.Keys.{key_cmp}
use Rattle.ax_text.specs.Programs.{Program}
use Rattle.ax_machine.specs.Entries.{Key}
use Rattle.ax_execution.specs.Contexts.{Context}
use Rattle.ax_execution.specs.Sums.{total}
use Rattle.ax_execution.specs.Counts.{references, one_at, owner_numbered, rows_numbered, part_numbered, number_count, owner_references, part_references, reference_count, one_if_gone, made_as, owns, calls, counted}
use Rattle.ax_execution.specs.Machine.{Machine, Happening, Admit, Close, Fire, Start, Serve, Deliver, Send, Rules, happens, outcome}
use Rattle.ax_execution.specs.Allowed.{StageUnbegun, StageHas, Allowed}
use Rattle.ax_execution.proofs.Handles.{Handles}
use Rattle.ax_execution.proofs.Handlers.{Good}
use Rattle.ax_execution.proofs.Upto.{OwnerGood}
use Rattle.ax_execution.proofs.Stuck.{IsAwake}
use Rattle.ax_execution.proofs.KeySums.{in_total}
use Rattle.ax_execution.proofs.Orderly.{IsOrderly, present}
use Rattle.ax_execution.proofs.Outside.{owner_referred}
use Rattle.ax_execution.proofs.GivenUp.{numbers_change}

false_true : false ≡ true → ⊥
false_true e = cc e

-- a context has a number where it has references

pub total_at_most : (f g : Key → ℕ) (ks : List Key) → ((k : Key) → f k ≤ g k) → total ks f ≤ total ks g
total_at_most f g [] h = omega arith
total_at_most f g (k ∷ ks) h = omega (arith, h k, total_at_most f g ks h)

pub total_none : (f g : Key → ℕ) (ks : List Key) → ((k : Key) → f k ≡ 0 → g k ≡ 0) → total ks f ≡ 0 → total ks g ≡ 0
total_none f g [] h z = refl
total_none f g (k ∷ ks) h z =
    let a : f k ≡ 0 = omega (arith, z) in
    let b : total ks f ≡ 0 = omega (arith, z) in
    let c : g k ≡ 0 = h k a in
    let d : total ks g ≡ 0 = total_none f g ks h b in
    omega arith

one_if : (b : Bool) (x : ℕ) → cond {A = ℕ} b 1 0 ≡ 0 → cond b x 0 ≡ 0
one_if true x h = absurd (omega (arith, h))
one_if false x h = refl

pub unreferred : (n : ℕ) (o : Option Context) (rows : ℕ) → owner_numbered n o + rows ≡ 0 → owner_references n o + rows ≡ 0
unreferred n None rows h = h
unreferred n (Some c) rows h =
    let a : one_at n c.number ≡ 0 = omega (arith, h) in
    let b : cond (nat_eq c.number n) (references c.stage) 0 ≡ 0 = one_if (nat_eq c.number n) (references c.stage) a in
    omega (arith, h)

pub none_referred : (n : ℕ) (m : Machine) → number_count n m ≡ 0 → reference_count n m ≡ 0
none_referred n m h = total_none (λ k. part_numbered n (m.parts k)) (λ k. part_references n (m.parts k)) m.keys (λ k. unreferred n (m.parts k).owner (rows_numbered n (m.parts k).waiting)) h

pub some_if : (b : Bool) (x : ℕ) → 0 < x → cond {A = ℕ} b 1 0 ≤ cond b x 0
some_if true x h = omega (arith, h)
some_if false x h = omega arith

pub owned_one : (n : ℕ) (o : Option Context) → owns n o ≡ true → owner_numbered n o ≡ 1
owned_one n None h = absurd (false_true h)
owned_one n (Some c) h = cond-true (nat_eq c.number n) 1 0 h

pub gone_is : (b : Bool) → 1 ≤ one_if_gone b → b ≡ true
gone_is true h = refl
gone_is false h = absurd (omega (arith, h))

module _ (r : Rules) (m : Machine) (o : IsOrderly r m) (rises : IsStrictlySortedBy key_cmp m.keys) (good : (k : Key) → OwnerGood Good (m.parts k).owner) (g : ℕ) (p : Program) (H : Handles p Good) where
  has_references : (n : ℕ) (c : Option Context) → OwnerGood Good c → IsAwake c → owner_numbered n c ≤ owner_references n c
  has_references n None a b = omega arith
  has_references n (Some c) a b = some_if (nat_eq c.number n) (references c.stage) (owner_referred p Good H c a b)

  pub all_referred : (n : ℕ) → number_count n m ≤ reference_count n m
  all_referred n = total_at_most (λ k. part_numbered n (m.parts k)) (λ k. part_references n (m.parts k)) m.keys
      (λ k. omega (arith, has_references n (m.parts k).owner (good k) (o.sound.awake k)))

  pub none_numbered : (n : ℕ) → reference_count n m ≡ 0 → number_count n m ≡ 0
  none_numbered n h = omega (arith, all_referred n, h)

  counts_owner : (n : ℕ) (k : Key) → list_any (bytes_eq k) m.keys ≡ true → owns n (m.parts k).owner ≡ true → 1 ≤ number_count n m
  counts_owner n k x h =
      let a : part_numbered n (m.parts k) ≤ number_count n m = in_total m.keys (λ j. part_numbered n (m.parts j)) k x in
      let b : owner_numbered n (m.parts k).owner ≡ 1 = owned_one n (m.parts k).owner h in
      omega arith

  called_counts : (n : ℕ) (e : Happening) → Allowed r e m → calls n e m ≡ true → 1 ≤ number_count n m
  called_counts n (Admit i k time values) a h = absurd (false_true h)
  called_counts n (Close c) a h = absurd (false_true h)
  called_counts n (Fire i k) a h = absurd (false_true h)
  called_counts n (Start k) a h = counts_owner n k (present r m o StageUnbegun k a.1) h
  called_counts n (Serve k slot) a h = absurd (false_true h)
  called_counts n (Deliver k slot) a h = counts_owner n k (present r m o (StageHas slot) k a.1) h
  called_counts n Send a h = absurd (false_true h)

  called_makes_none : (n : ℕ) (e : Happening) → calls n e m ≡ true → made_as n e ≡ 0
  called_makes_none n (Admit i k time values) h = absurd (false_true h)
  called_makes_none n (Close c) h = refl
  called_makes_none n (Fire i k) h = absurd (false_true h)
  called_makes_none n (Start k) h = refl
  called_makes_none n (Serve k slot) h = refl
  called_makes_none n (Deliver k slot) h = refl
  called_makes_none n Send h = refl

  ends : (n : ℕ) (e : Happening) → Allowed r e m → calls n e m ≡ true → number_count n (happens g p e m) + one_if_gone (outcome g p e m).gone ≡ number_count n m
  ends n e a h =
      let c : number_count n (happens g p e m) + counted (calls n e m) (one_if_gone (outcome g p e m).gone) ≡ number_count n m + made_as n e = numbers_change r m o rises good g p n e a in
      let z : made_as n e ≡ 0 = called_makes_none n e h in
      let d : counted (calls n e m) (one_if_gone (outcome g p e m).gone) ≡ one_if_gone (outcome g p e m).gone = cond-true (calls n e m) (one_if_gone (outcome g p e m).gone) 0 h in
      omega arith

  -- where it is given up no reference is left
  pub gone_unreferred : (n : ℕ) (e : Happening) → Allowed r e m → number_count n m ≤ 1 → calls n e m ≡ true → (outcome g p e m).gone ≡ true → reference_count n (happens g p e m) ≡ 0
  gone_unreferred n e a once h gone = none_referred n (happens g p e m)
      (let b : number_count n (happens g p e m) + one_if_gone (outcome g p e m).gone ≡ number_count n m = ends n e a h in
      let c : one_if_gone (outcome g p e m).gone ≡ 1 = ap one_if_gone gone in
      omega arith)

  -- and where none is left it is given up
  pub unreferred_gone : (n : ℕ) (e : Happening) → Allowed r e m → calls n e m ≡ true → number_count n (happens g p e m) ≡ 0 → (outcome g p e m).gone ≡ true
  unreferred_gone n e a h none = gone_is (outcome g p e m).gone
      (let b : number_count n (happens g p e m) + one_if_gone (outcome g p e m).gone ≡ number_count n m = ends n e a h in
      let c : 1 ≤ number_count n m = called_counts n e a h in
      omega arith)
