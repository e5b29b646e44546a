-- When rows and marks may come.
use Rattle.std.proofs.Common.{◌≡◌, ℕ, ◌<◌, ℤ, nat_eq, is_none, is_some, Option, Some, None, subst, List, [], ◌∷◌, length, Bool, true, false, not, ◌&&◌, ◌||◌, refl, sym, ap, ◌∙◌, arith, eqb-true}
use Rattle.std.specs.Prelude.{All}
use Rattle.std.proofs.lemmas.List.Elements.{All-head}
use Rattle.std.proofs.lemmas.Bool.{ltb-true, lt-ltb}
use Rattle.ax_lang.specs.declared.program.Program.{Program}
use Rattle.ax_machine.specs.Entries.{Key}
use Rattle.ax_context.specs.Slots.{Slots, live_count}
use Rattle.ax_account.specs.declared.part.Waiting.{Waiting as Item}
use Rattle.ax_account.specs.declared.part.Waiting.TheVariants as item
use Rattle.ax_account.specs.Parts.{Part, is_mark, next_of, may_idle}
use Rattle.ax_account.specs.Accounts.{part_of, AreSound}
use Rattle.ax_account.specs.Queues.{has_key, first_of}
use Rattle.ax_mailbox.specs.declared.mail.Mail.{Mail}
use Rattle.ax_time.specs.declared.epoch.Closed.{Closed as Ended}
use Rattle.ax_time.specs.Epochs.{markers_of}
use Rattle.ax_time.specs.Timers.{times_of}
use Rattle.ax_execution.specs.Machine.{Closing, ByWatermark, ByBarrier, Closed}
use Rattle.ax_execution.specs.Allowed.{IsWatermark, NoBarrier}
use Rattle.ax_execution.specs.Tests.{is_watermark, no_barrier}
use Rattle.ax_execution.proofs.Upto.{by_cases}
use Rattle.ax_execution.specs.ControlsAllowed.{IsOpenOn, NoneIsIdleOn}
use Rattle.ax_execution.specs.KeyControls.{KeyControl}
use Rattle.ax_execution.specs.Contexts.{Context, Waiting, Row, Mark, is_idle_with}
use Rattle.ax_execution.specs.ControlTurns.{is_idle_on}
use Rattle.ax_core.specs.declared.record.Record.{Record}
use Rattle.ax_context.specs.declared.id.Id.{Id}
use Rattle.ax_core.specs.Keys.{OwnerStands, ItemsStand, PartStands}
use Rattle.ax_core.specs.declared.controller.Controller.{Controller}
use Rattle.ax_core.specs.Epochs.{MarkersStand, EpochsStand}
use Rattle.ax_core.specs.Sound.{rules_of, StandsFor, HasRooms}
use Rattle.ax_core.specs.Events.{MayAdmitOn}
use Rattle.ax_execution.specs.MachineControls.{MachineControl, in_flight_on}
use Rattle.ax_core.specs.May.{is_empty, may_close, has_room, may_admit}

false_true : {A : Type 0} → false ≡ true → A
false_true e = absurd (cc e)

pub and_parts : (a b : Bool) → (a && b) ≡ true → (a ≡ true) × (b ≡ true)
and_parts true b h = (refl, h)
and_parts false b h = false_true h

pub and_join : {a b : Bool} → a ≡ true → b ≡ true → (a && b) ≡ true
and_join {a} {b} x y = ap (λ (c : Bool). c && b) x ∙ y

-- nothing is closed exactly where no epoch is
pub none_pending : {A : Type 0} (xs : List A) → nat_eq (length xs) 0 ≡ is_empty xs
none_pending [] = refl
none_pending (x ∷ xs) = by_cases (nat_eq (length (x ∷ xs)) 0) (λ e. let same : length (x ∷ xs) ≡ 0 = eqb-true (length (x ∷ xs)) 0 e in absurd (omega arith)) (λ e. e)

-- there is a first key exactly where there is one
pub none_first : (ks : List Key) → is_some (first_of ks) ≡ not (is_empty ks)
none_first [] = refl
none_first (k ∷ ks) = refl

pub is_nothing : {A : Type 0} (xs : List A) → is_empty xs ≡ true → xs ≡ []
is_nothing [] h = refl
is_nothing (x ∷ xs) h = false_true h

markers_empty : (cs : List Ended) (ds : List Closed) → MarkersStand (markers_of cs) ds → is_empty cs ≡ true → ds ≡ []
markers_empty [] [] h e = refl
markers_empty [] (d ∷ ds) h e = absurd h
markers_empty (c ∷ cs) ds h e = false_true e

empty_markers : (cs : List Ended) (ds : List Closed) → MarkersStand (markers_of cs) ds → ds ≡ [] → is_empty cs ≡ true
empty_markers [] ds h e = refl
empty_markers (c ∷ cs) [] h e = absurd h
empty_markers (c ∷ cs) (d ∷ ds) h e = absurd (cc e)

watermark_is : (c : Closing) → is_watermark c ≡ true → IsWatermark c
watermark_is (ByWatermark w) h = tt
watermark_is (ByBarrier id) h = false_true h

watermark_so : (c : Closing) → IsWatermark c → is_watermark c ≡ true
watermark_so (ByWatermark w) h = refl
watermark_so (ByBarrier id) h = absurd h

no_barrier_is : (cs : List Closed) → no_barrier cs ≡ true → NoBarrier cs
no_barrier_is [] h = tt
no_barrier_is (c ∷ cs) h = let both : (is_watermark c.closing ≡ true) × (no_barrier cs ≡ true) = and_parts (is_watermark c.closing) (no_barrier cs) h in
    (watermark_is c.closing both.0, no_barrier_is cs both.1)

no_barrier_so : (cs : List Closed) → NoBarrier cs → no_barrier cs ≡ true
no_barrier_so [] h = refl
no_barrier_so (c ∷ cs) h = and_join (watermark_so c.closing h.0) (no_barrier_so cs h.1)

other_way : (b c : Bool) → b ≡ not c → not b ≡ true → c ≡ true
other_way b true e h = refl
other_way true false e h = false_true h
other_way false false e h = e

or_so : (s e : Bool) → (not s || e) ≡ true → s ≡ true → e ≡ true
or_so true e h x = h
or_so false e h x = false_true x

so_or : (s e : Bool) → (s ≡ true → e ≡ true) → (not s || e) ≡ true
so_or true e h = h refl
so_or false e h = refl

module _ (a : Controller) (m : MachineControl) (h : EpochsStand a.epochs a.barrier m) where
  pub is_open : may_close a ≡ true → IsOpenOn (rules_of a.settings) m
  is_open may =
      let both : (not a.barrier ≡ true) × ((not a.settings.serial || is_empty a.epochs.closed) ≡ true) = and_parts (not a.barrier) (not a.settings.serial || is_empty a.epochs.closed) may in (
        no_barrier_is m.unsent (other_way a.barrier (no_barrier m.unsent) h.barrier both.0),
        λ serial. markers_empty a.epochs.closed m.unsent h.markers (or_so a.settings.serial (is_empty a.epochs.closed) both.1 serial),
      )

  pub open_is : IsOpenOn (rules_of a.settings) m → may_close a ≡ true
  open_is it = and_join (ap not h.barrier ∙ ap (λ (b : Bool). not (not b)) (no_barrier_so m.unsent it.0))
      (so_or a.settings.serial (is_empty a.epochs.closed) (λ serial. empty_markers a.epochs.closed m.unsent h.markers (it.1 serial)))

-- a key is idle in the control where it is so in the accounts
pub idle_as : (p : Program) (ms : List Mail) (s : Slots Record) (key : Key) (part : Part) (due : List ℤ) (c : KeyControl) → PartStands p ms s key part due c → is_idle_on c ≡ may_idle part
idle_as p ms s key part due c h = of part.owner part.waiting c.owner c.waiting h.owner h.items
  where
    of : (o : Option Id) (is : List Item) (d : Option Context) (ws : List Waiting) → OwnerStands p ms s key o d → ItemsStand p ms s key is ws → is_idle_with d ws ≡ (is_none o && is_mark (next_of is))
    of None is (Some d) ws x y = absurd x
    of (Some i) is None ws x y = absurd x
    of (Some i) is (Some d) ws x y = refl
    of None [] None [] x y = refl
    of None [] None (w ∷ ws) x y = absurd y
    of None (i ∷ is) None [] x y = absurd y
    of None (item.Row i ∷ is) None (Row n f facts ∷ ws) x y = refl
    of None (item.Row i ∷ is) None (Mark f w more ∷ ws) x y = absurd y.0
    of None (item.Mark u v fired ∷ is) None (Row n f facts ∷ ws) x y = absurd y.0
    of None (item.Mark u v fired ∷ is) None (Mark f w more ∷ ws) x y = refl

pub idle_stands : (p : Program) (ms : List Mail) (s : Slots Record) (key : Key) (part : Part) (due : List ℤ) (c : KeyControl) → PartStands p ms s key part due c → may_idle part ≡ true → is_idle_on c ≡ true
idle_stands p ms s key part due c h idle = idle_as p ms s key part due c h ∙ idle

module _ (a : Controller) (m : MachineControl) (h : StandsFor a m) where
  none_idle : is_empty a.accounts.idle ≡ true → NoneIsIdleOn m
  none_idle e k = by_cases (is_idle_on (m.controls k)) (λ x. false_true (sym (ap (λ (ks : List Key). has_key ks k) (is_nothing a.accounts.idle e)) ∙ h.stands.idle k x)) (λ x. x)

  idle_none : AreSound a.accounts → NoneIsIdleOn m → is_empty a.accounts.idle ≡ true
  idle_none sound busy = of a.accounts.idle sound.idle
    where
      of : (ks : List Key) → All (λ key. may_idle (part_of a.accounts key) ≡ true) ks → is_empty ks ≡ true
      of [] x = refl
      of (k ∷ ks) x = false_true (sym (busy k) ∙ idle_stands a.program a.mails.mails a.contexts k (part_of a.accounts k) (times_of a.timers k) (m.controls k) (h.stands.keys k) (All-head (λ key. may_idle (part_of a.accounts key) ≡ true) k ks x))

  pub has_space : HasRooms a → has_room a ≡ true → in_flight_on m < a.settings.in_flight
  has_space rooms r = subst (λ (n : ℕ). n < a.settings.in_flight) h.stands.flight (subst (λ (n : ℕ). live_count a.contexts < n) rooms.contexts (ltb-true (live_count a.contexts) a.contexts.limit r))

  pub space_has : HasRooms a → in_flight_on m < a.settings.in_flight → has_room a ≡ true
  space_has rooms r = lt-ltb (live_count a.contexts) a.contexts.limit
      (subst (λ (n : ℕ). n < a.contexts.limit) (sym h.stands.flight) (subst (λ (n : ℕ). in_flight_on m < n) (sym rooms.contexts) r))

  pub may_is : HasRooms a → may_admit a ≡ true → MayAdmitOn a m
  may_is rooms t =
      let both : (may_close a ≡ true) × ((has_room a && is_empty a.accounts.idle) ≡ true) = and_parts (may_close a) (has_room a && is_empty a.accounts.idle) t in
      let rest : (has_room a ≡ true) × (is_empty a.accounts.idle ≡ true) = and_parts (has_room a) (is_empty a.accounts.idle) both.1 in
      record { is_open = is_open a m h.stands.epochs both.0; room = has_space rooms rest.0; busy = none_idle rest.1 }

  pub is_may : HasRooms a → AreSound a.accounts → MayAdmitOn a m → may_admit a ≡ true
  is_may rooms sound it = and_join (open_is a m h.stands.epochs it.is_open) (and_join (space_has rooms it.room) (idle_none sound it.busy))
