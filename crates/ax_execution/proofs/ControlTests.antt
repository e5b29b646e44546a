-- The test decides which events are allowed in a control, over the keys of rows or any others that hold the busy ones.
use Rattle.std.proofs.Common.{◌≡◌, ℕ, nat_lt, List, [], ◌∷◌, Bool, true, false, ◌&&◌, not, Option, refl, sym, ap, ap₂, ◌∙◌, subst, ⊎_elim}
use Rattle.std.proofs.lemmas.Bool.{and_parts, and_from}
use Rattle.std.specs.Str.{bytes_eq}
use Rattle.std.specs.List.{list_any}
use Rattle.ax_machine.specs.Entries.{Key}
use Rattle.ax_machine.proofs.FiringLemmas.{among}
use Rattle.ax_execution.specs.Contexts.{Context, Waiting, is_idle_with}
use Rattle.ax_execution.specs.KeyControls.{KeyControl}
use Rattle.ax_execution.specs.ControlTurns.{contexts_on}
use Rattle.ax_execution.specs.Machine.{ByWatermark, ByBarrier, Closed, Machine, Happening, Admit, Close, Fire, Start, Serve, Deliver, Send, Rules}
use Rattle.ax_execution.specs.Tests.{owner_new, waiting_new, owned_later, wait_later}
use Rattle.ax_execution.specs.MachineControls.{MachineControl, control_of_machine, in_flight_on}
use Rattle.ax_execution.specs.ControlsAllowed.{AllowedOn, every_on, not_idle_on, control_new, control_later, none_first_on, allowed_on, over_keys, IsFreeOn, HoldBusy}
use Rattle.ax_execution.specs.ControlOrder.{IsInOrder}
use Rattle.ax_execution.proofs.Upto.{by_cases}
use Rattle.ax_execution.proofs.Orderly.{IsOrderly}
use Rattle.ax_execution.proofs.RunTests.{allowed_so, allowed_is}
use Rattle.ax_execution.proofs.ControlsAllowed.{and_same, allowed_to, allowed_from, allowed_same}
use Rattle.ax_execution.proofs.ControlSums.{busy_total}
use Rattle.ax_execution.proofs.ControlCounts.{free_contexts}
use Rattle.ax_execution.proofs.ControlOrder.{bare_machine, order_to, same_control}

-- a control that is in order

module _ (r : Rules) (m : MachineControl) (o : IsInOrder r m) where
  here : Machine
  here = bare_machine m

  same : control_of_machine here ≡ m
  unfolding here
  same = same_control r m o

  orderly : IsOrderly r here
  unfolding here
  orderly = order_to r m o

  pub passes_on : (e : Happening) → AllowedOn r e m → allowed_on r e m ≡ true
  passes_on e h = subst (λ (x : MachineControl). allowed_on r e x ≡ true) same
      (allowed_same r e here ∙ allowed_so r here e (allowed_from r e here (subst (AllowedOn r e) (sym same) h)))

  pub decides_on : (e : Happening) → allowed_on r e m ≡ true → AllowedOn r e m
  decides_on e h = subst (AllowedOn r e) same
      (allowed_to r e here (allowed_is r here orderly e (sym (allowed_same r e here) ∙ subst (λ (x : MachineControl). allowed_on r e x ≡ true) (sym same) h)))

-- over other keys

false_true : false ≡ true → ⊥
false_true e = cc e

both_true : (a b : Bool) → (a ≡ true → b ≡ true) → (b ≡ true → a ≡ true) → a ≡ b
both_true true b f g = sym (f refl)
both_true false true f g = g refl
both_true false false f g = refl

every_at : (t : KeyControl → Bool) (controls : Key → KeyControl) (ks : List Key) → every_on t controls ks ≡ true → (k : Key) → list_any (bytes_eq k) ks ≡ true → t (controls k) ≡ true
every_at t controls [] h k m = absurd (false_true m)
every_at t controls (j ∷ ks) h k m =
    let both : (t (controls j) ≡ true) × (every_on t controls ks ≡ true) = and_parts (t (controls j)) (every_on t controls ks) h in
    ⊎_elim (λ e. ap (λ (i : Key). t (controls i)) e ∙ both.0) (λ e. every_at t controls ks both.1 k e) (among k j ks m)

every_so : (t : KeyControl → Bool) (controls : Key → KeyControl) (ks : List Key) → ((k : Key) → t (controls k) ≡ true) → every_on t controls ks ≡ true
every_so t controls [] h = refl
every_so t controls (k ∷ ks) h = and_from (t (controls k)) (every_on t controls ks) (h k) (every_so t controls ks h)

free_busy : (c : KeyControl) → IsFreeOn c → not_idle_on c ≡ true
free_busy c f = ap₂ (λ (o : Option Context) (is : List Waiting). not (is_idle_with o is)) f.owner f.waiting

free_new : (n : ℕ) (c : KeyControl) → IsFreeOn c → control_new n c ≡ true
free_new n c f = ap₂ (λ (o : Option Context) (is : List Waiting). owner_new n o && waiting_new n is) f.owner f.waiting

free_later : (e : ℕ) (c : KeyControl) → IsFreeOn c → control_later e c ≡ true
free_later e c f = ap₂ (λ (o : Option Context) (is : List Waiting). owned_later e o && wait_later e is) f.owner f.waiting

module _ (m : MachineControl) (ks : List Key) (a : HoldBusy ks m) (b : HoldBusy m.keys m) where
  one_way : (t : KeyControl → Bool) → ((c : KeyControl) → IsFreeOn c → t c ≡ true) → (xs ys : List Key) → HoldBusy xs m → every_on t m.controls xs ≡ true → every_on t m.controls ys ≡ true
  one_way t free xs ys x h = every_so t m.controls ys (λ k. by_cases (list_any (bytes_eq k) xs) (λ y. every_at t m.controls xs h k y) (λ y. free (m.controls k) (x.others k y)))

  each : (t : KeyControl → Bool) → ((c : KeyControl) → IsFreeOn c → t c ≡ true) → every_on t m.controls ks ≡ every_on t m.controls m.keys
  each t free = both_true (every_on t m.controls ks) (every_on t m.controls m.keys) (one_way t free ks m.keys a) (one_way t free m.keys ks b)

  room : (r : Rules) → nat_lt (in_flight_on (over_keys ks m)) r.limit ≡ nat_lt (in_flight_on m) r.limit
  room r = ap (λ (n : ℕ). nat_lt n r.limit) (busy_total contexts_on free_contexts m ks m.keys a b)

  first : (cs : List Closed) → none_first_on cs (over_keys ks m) ≡ none_first_on cs m
  first [] = refl
  first (c ∷ cs) = each (control_later c.epoch) (free_later c.epoch)

  pub allowed_over : (r : Rules) (e : Happening) → allowed_on r e (over_keys ks m) ≡ allowed_on r e m
  allowed_over r (Admit n k time values) = and_same refl (and_same refl (and_same (room r) (and_same (each not_idle_on free_busy) (each (control_new n) (free_new n)))))
  allowed_over r (Close (ByWatermark w)) = refl
  allowed_over r (Close (ByBarrier id)) = refl
  allowed_over r (Fire n k) = and_same refl (and_same refl (and_same (room r) (each (control_new n) (free_new n))))
  allowed_over r (Start k) = refl
  allowed_over r (Serve k slot) = refl
  allowed_over r (Deliver k slot) = refl
  allowed_over r Send = and_same refl (first m.unsent)
