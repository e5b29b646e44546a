-- A task comes closer to its end with each step, and where nothing can be done it has ended.
use Rattle.std.proofs.Common.{◌≡◌, ◌<◌, ◌≤◌, [], ◌∷◌, ◌++◌, false, Option, Some, None, IsSome, IfSome, refl, sym, ap, ◌∙◌, subst, arith}
use Rattle.ax_base.specs.Reader.{Reader}
use Rattle.ax_base.specs.declared.outside.SinkFault.{SinkFault}
use Rattle.ax_base.specs.declared.outside.SinkFault.TheVariants as sink
use Rattle.ax_machine.specs.Events.{Event}
use Rattle.ax_input.specs.declared.event.Event.{Event as CodeEvent}
use Rattle.ax_execution.specs.MachineControls.{MachineControl, control_of_machine, in_flight_on}
use Rattle.ax_core.specs.declared.settings.Settings.{Settings}
use Rattle.ax_core.specs.declared.controller.Controller.{Controller}
use Rattle.ax_core.specs.May.{has_mail}
use Rattle.ax_core.specs.Sound.{StandsFor}
use Rattle.ax_task.specs.Engines.{IsReady, IsQuiet, MovesOn, Takes}
use Rattle.ax_task.specs.Exchanged.{NothingWaits}
use Rattle.ax_task.specs.Due.{IsFree, one_held, unread, due, IsLooked, Goes}
use Rattle.ax_task.specs.Reads.{sink_end}
use Rattle.ax_task.specs.Causes.{IsAtRest}
use Rattle.ax_task.specs.Tasks.{IsFound, EndsWell}
use Rattle.ax_task.specs.declared.end.End.{End}
use Rattle.ax_task.specs.declared.end.End.TheVariants as end
use Rattle.ax_task.specs.declared.engine.Engine.{Engine}
use Rattle.ax_task.specs.declared.reading.Reading.{Reading}
use Rattle.ax_task.specs.declared.driver.Did.{Did}
use Rattle.ax_task.specs.declared.driver.Did.TheVariants as did
use Rattle.ax_task.proofs.Idle.{none_in_flight, none_unsent, none_idle}
use Rattle.ax_task.proofs.TaskLemmas.{ended_well}

-- the event that was held was taken
pub took_due : (r r' : Reading) (lines : Reader) (event : CodeEvent) → r.next ≡ Some event → r'.next ≡ None → r'.found ≡ r.found → due r' lines < due r lines
took_due r r' lines event was none found =
    let before : one_held r.next ≡ 1 = ap one_held was in
    let behind : one_held r'.next ≡ 0 = ap one_held none in
    let rest : unread r'.found lines.limit ≡ unread r.found lines.limit = ap (λ (o : Option End). unread o lines.limit) found in
    omega (arith, before, behind, rest)

-- a step from what is the same
pub goes_as : (e d e' : Engine) (r q r' : Reading) (lines lines' : Reader) (s : Did) → d ≡ e → q ≡ r → Goes d e' q r' lines lines' s → Goes e e' r r' lines lines' s
goes_as e d e' r q r' lines lines' s x y h = subst (λ (f : Engine). Goes f e' r r' lines lines' s) x (subst (λ (t : Reading). Goes d e' t r' lines lines' s) y h)

-- a step behind a look
pub goes_behind : (e e' : Engine) (r q r' : Reading) (lines lines' : Reader) (s : Did) → due q lines' ≤ due r lines → Goes e e' q r' lines' lines' s → Goes e e' r r' lines lines' s
goes_behind e e' r q r' lines lines' did.Went l h = (h.0, omega (arith, l, h.1))
goes_behind e e' r q r' lines lines' did.Took l h = omega (arith, l, h)
goes_behind e e' r q r' lines lines' (did.End end) l h = tt

-- where there is no work and no request
module _ (e : Engine) (ready : IsReady e) (quiet : IsQuiet e.core) (mails : has_mail e.core ≡ false) (waits : NothingWaits e) where
  pub is_free : IsFree e.core
  is_free = record {
    control = control_of_machine ready.stands.refines.machine;
    sound = ready.stands.sound;
    stands = ready.stands.refines.stands;
    none = none_in_flight e ready waits quiet mails;
    unsent = none_unsent e ready waits quiet mails;
    idle = none_idle e ready waits quiet mails;
    some = subst (λ (s : Settings). 0 < s.in_flight) (sym ready.stands.refines.settings) ready.stands.some;
  }

-- where nothing can be done
module _ (e : Engine) (r : Reading) (ready : IsReady e) (quiet : IsQuiet e.core) (mails : has_mail e.core ≡ false) (waits : NothingWaits e) (blocked : IfSome r.next (λ (x : CodeEvent). IsFree e.core → ⊥)) where
  free : IsFree e.core
  free = is_free e ready quiet mails waits

  pub none_held : r.next ≡ None
  none_held = of r.next blocked
    where
      of : (o : Option CodeEvent) → IfSome o (λ (x : CodeEvent). IsFree e.core → ⊥) → o ≡ None
      of None h = refl
      of (Some x) h = absurd (h free)

  none_left : (m : MachineControl) → StandsFor e.core m → in_flight_on m ≡ 0
  none_left m stands = sym stands.stands.flight ∙ (ready.stands.refines.stands.stands.flight ∙ none_in_flight e ready waits quiet mails)

  pub ends_well : (end : End) → r.found ≡ Some end → EndsWell e r end
  ends_well end found s p from lines now x = ended_well s p from e r lines now x end found none_held quiet none_left

  pub at_rest : (end : End) → r.found ≡ Some end → IsFound r.found → IsAtRest e.core r.found end
  at_rest end.Ok found is = (found, free)
  at_rest (end.Input line kind) found is = (found, free)
  at_rest end.Read found is = (found, free)
  at_rest end.Write found is = tt
  at_rest end.NoMemory found is = tt
  at_rest (end.Program line kind) found is = subst IsFound found is

  pub cant_be : IsLooked r → r.found ≡ None → ⊥
  cant_be looked none = of r.found none (looked none_held)
    where
      of : (o : Option End) → o ≡ None → IsSome o → ⊥
      of None e h = cc h
      of (Some x) e h = cc e

-- at the ends by a sink's fault and by want of memory nothing need be at rest
pub sink_rest : (a : Controller) (found : Option End) (f : SinkFault) (e : End) → e ≡ sink_end f → IsAtRest a found e
sink_rest a found f e is = subst (IsAtRest a found) (sym is) (of f)
  where
    of : (f : SinkFault) → IsAtRest a found (sink_end f)
    of sink.Failed = tt
    of sink.NoMemory = tt

pub moved_ready : (e e' : Engine) → MovesOn e e' → IsReady e → IsReady e'
moved_ready e e' on x = record { settings = x.settings; program = x.program; read = x.read; written = x.written; stands = on x.settings x.program x.read x.written x.stands }

pub took_ready : (e e' : Engine) (v : Event) → Takes e e' v → IsReady e → IsReady e'
took_ready e e' v t x = record { settings = x.settings; program = x.program; read = x.read ++ v ∷ []; written = x.written; stands = t x.settings x.program x.read x.written x.stands }

pub blocked_as : (a b : Controller) (o : Option CodeEvent) → b ≡ a → IfSome o (λ (x : CodeEvent). IsFree a → ⊥) → IfSome o (λ (x : CodeEvent). IsFree b → ⊥)
blocked_as a b o e h = subst (λ (c : Controller). IfSome o (λ (x : CodeEvent). IsFree c → ⊥)) (sym e) h
