-- No two contexts that are in flight have one number.
use Rattle.std.proofs.Common.{◌≡◌, ℕ, ◌+◌, ◌≤◌, nat_eq, List, [], ◌∷◌, ◌++◌, Bool, cond, Option, Some, None, refl, ap, ap₂, arith, subst}
use Rattle.std.proofs.lemmas.Bool.{eqb-true}
use Rattle.std.specs.List.Sorted.{IsStrictlySortedBy}
use Rattle.ax_keys.specs.Keys.{key_cmp}
use Rattle.ax_text.specs.Programs.{Program}
use Rattle.ax_machine.specs.Entries.{Key}
use Rattle.ax_machine.specs.Events.{Event}
use Rattle.ax_execution.specs.Contexts.{Context, Waiting, Row, Mark}
use Rattle.ax_execution.specs.Origins.{Origin, IsOrigin}
use Rattle.ax_execution.specs.Machine.{Machine, Happening, Admit, Close, Fire, Start, Serve, Deliver, Send, Rules, happens, after_all, taken, machine_from, machine_of}
use Rattle.ax_execution.specs.Allowed.{NumbersOwner, NotIn, IsNew, Allowed, IsRun}
use Rattle.ax_execution.specs.Counts.{one_at, owner_numbered, rows_numbered, part_numbered, number_count, made_as}
use Rattle.ax_execution.proofs.Handles.{Handles}
use Rattle.ax_execution.proofs.Handlers.{Good}
use Rattle.ax_execution.proofs.Upto.{by_cases, OwnerGood}
use Rattle.ax_execution.proofs.Stuck.{zeros}
use Rattle.ax_execution.proofs.Alone.{Alone, event_alone, start_alone}
use Rattle.ax_execution.proofs.Orderly.{IsOrderly, keys_rise, event_orderly, start_orderly}
use Rattle.ax_execution.proofs.GivenUp.{numbers_change}

-- a new number

none_here : (n i : ℕ) → (i ≡ n → ⊥) → one_at n i ≡ 0
none_here n i h = ap (λ (b : Bool). cond b 1 0) (by_cases (nat_eq i n) (λ x. absurd (h (eqb-true i n x))) (λ x. x))

owner_new : (n : ℕ) (o : Option Context) → (NumbersOwner n o → ⊥) → owner_numbered n o ≡ 0
owner_new n None h = refl
owner_new n (Some c) h = none_here n c.number h

rows_new : (n : ℕ) (is : List Waiting) → NotIn n is → rows_numbered n is ≡ 0
rows_new n [] h = refl
rows_new n (Row i e f ∷ is) h = ap₂ (λ (x y : ℕ). x + y) (none_here n i h.0) (rows_new n is h.1)
rows_new n (Mark e w more ∷ is) h = rows_new n is h

new_count : (n : ℕ) (m : Machine) → IsNew n m → number_count n m ≡ 0
new_count n m h = zeros (λ k. part_numbered n (m.parts k)) m.keys (λ k. ap₂ (λ (x y : ℕ). x + y) (owner_new n (m.parts k).owner (h k).0) (rows_new n (m.parts k).waiting (h k).1))

-- where at most this number is new
with_new : (n i : ℕ) (m : Machine) (after : ℕ) → number_count n m ≤ 1 → IsNew i m → after ≤ one_at n i + number_count n m → after ≤ 1
with_new n i m after h new a = by_cases (nat_eq i n)
    (λ x.
    let z : number_count n m ≡ 0 = subst (λ (u : ℕ). number_count u m ≡ 0) (eqb-true i n x) (new_count i m new) in
    let y : one_at n i ≡ 1 = ap (λ (b : Bool). cond b 1 0) x in omega arith)
    (λ x. let y : one_at n i ≡ 0 = ap (λ (b : Bool). cond b 1 0) x in omega arith)

-- the machine

unfoldable pub AreApart : Machine → Type 0
AreApart m = (n : ℕ) → number_count n m ≤ 1

module _ (r : Rules) (m : Machine) (o : IsOrderly r m) (rises : IsStrictlySortedBy key_cmp m.keys) (good : (k : Key) → OwnerGood Good (m.parts k).owner) (apart : AreApart m) (g : ℕ) (p : Program) where
  -- it rises by what is made
  rises_by : (n : ℕ) (e : Happening) → Allowed r e m → number_count n (happens g p e m) ≤ made_as n e + number_count n m
  rises_by n e h = omega (arith, numbers_change r m o rises good g p n e h)

  pub event_apart : (e : Happening) → Allowed r e m → AreApart (happens g p e m)
  unfolding AreApart
  event_apart e h n = of e h (rises_by n e h)
    where
      of : (e : Happening) → Allowed r e m → number_count n (happens g p e m) ≤ made_as n e + number_count n m → number_count n (happens g p e m) ≤ 1
      of (Admit i k time values) a x = with_new n i m (number_count n (happens g p (Admit i k time values) m)) (apart n) a.4 x
      of (Close c) a x = omega (arith, apart n, x)
      of (Fire i k) a x = with_new n i m (number_count n (happens g p (Fire i k) m)) (apart n) a.3 x
      of (Start k) a x = omega (arith, apart n, x)
      of (Serve k slot) a x = omega (arith, apart n, x)
      of (Deliver k slot) a x = omega (arith, apart n, x)
      of Send a x = omega (arith, apart n, x)

module _ (g : ℕ) (p : Program) (H : Handles p Good) (from : Origin) (fits : IsOrigin p from) where
  run_apart : (r : Rules) (es : List Happening) (m : Machine) (done : List Event) → Alone g p Good H from fits m done → IsOrderly r m → AreApart m → IsRun r g p es m → AreApart (after_all g p es m)
  run_apart r [] m done a o x h = x
  run_apart r (e ∷ es) m done a o x h =
      let rises : IsStrictlySortedBy key_cmp m.keys = keys_rise g p Good H from fits m done a in
      run_apart r es (happens g p e m) (done ++ taken (e ∷ [])) (event_alone g p Good H from fits r e m done a h.0) (event_orderly r m o rises g p e h.0) (event_apart r m o rises a.good x g p e h.0) h.1

  start_apart : AreApart (machine_from from)
  unfolding AreApart
  start_apart n = let z : number_count n (machine_from from) ≡ 0 = zeros (λ k. part_numbered n ((machine_from from).parts k)) from.keys (λ k. refl) in omega arith

  pub always_apart : (r : Rules) (es : List Happening) → IsRun r g p es (machine_from from) → (n : ℕ) → number_count n (machine_of g p from es) ≤ 1
  unfolding AreApart
  always_apart r es h = run_apart r es (machine_from from) [] (start_alone g p Good H from fits) (start_orderly r p from fits) start_apart h
