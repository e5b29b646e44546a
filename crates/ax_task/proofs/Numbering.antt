-- The numbers of the contexts that steps make.
use Rattle.std.proofs.Common.{◌≡◌, ℕ, ℤ, Bool, true, false, List, [], ◌∷◌, map, Option, Some, None, refl, sym, ap, ap₂, subst, int_lt}
use Rattle.ax_input.specs.declared.event.Event.{Event as CodeEvent}
use Rattle.ax_input.specs.declared.event.Event.TheVariants as event
use Rattle.ax_time.specs.declared.epoch.Marker.TheVariants as marker
use Rattle.ax_core.specs.declared.controller.Controller.{Controller}
use Rattle.ax_core.specs.Views.{wm_of}
use Rattle.ax_core.specs.Numbers.{NoneNumbered, IsNumbered, NumbersWith, number_fired, Call, AreCalls}
use Rattle.ax_task.specs.Calls.{HasMarked, HasTaken}
use Rattle.ax_task.specs.Exchanged.{Thing, SendsFull, SendsShort, Serves, Nothing, LeadsTo}
use Rattle.ax_task.specs.Things.{Work, Fires, RunsMail, SendsMarker, WorkLeads, Next, Takes, Moves, NextLeads, Does, Works, Goes}
use Rattle.ax_task.specs.Tasks.{Outer}
use Rattle.ax_task.specs.Running.{State}
use Rattle.ax_task.specs.Laws.{Stepped, AreSteps, AsCalls}
use Rattle.ax_task.specs.declared.engine.Engine.{Engine}
use Rattle.ax_task.specs.declared.reading.Reading.{Reading}

-- a context was made, with a number, or none was
abbrev pub Numbers : Controller → Controller → Type 0
Numbers a b = (n : Option ℕ) × NumbersWith a b n

stays : (a : Controller) → NoneNumbered a a
stays a = record { next = refl; used = λ k u. u }

none : (a b : Controller) → NoneNumbered a b → Numbers a b
none a b h = (None, h)

one : (a b : Controller) (n : ℕ) → IsNumbered a b n → Numbers a b
one a b n h = (Some n, (a, stays a, h))

still : (e e' : Engine) → e' ≡ e → Numbers e.core e'.core
still e e' same = subst (λ (v : Engine). Numbers e.core v.core) (sym same) (none e.core e.core (stays e.core))

of_work : (e e' : Engine) (w : Work) → WorkLeads e e' w → Numbers e.core e'.core
of_work e e' (Fires f) x = one e.core e'.core f.context x.numbers
of_work e e' (RunsMail f) x = (number_fired f.fired, x.numbers)
of_work e e' (SendsMarker k) x = none e.core e'.core x.numbers

of_mark : (b : Bool) (e e' : Engine) (time : ℤ) → HasMarked b e e' time → Numbers e.core e'.core
of_mark true e e' time x = none e.core e'.core x.numbers
of_mark false e e' time x = still e e' x

of_event : (e e' : Engine) (v : CodeEvent) → HasTaken e e' v → Numbers e.core e'.core
of_event e e' (event.Row key time values) x = one e.core e'.core x.number x.numbers
of_event e e' (event.Mark time) x = of_mark (int_lt (wm_of e.core) time) e e' time x
of_event e e' (event.Barrier id) x = none e.core e'.core x.numbers

of_thing : (e e' : Engine) (t : Thing) → LeadsTo e e' t → Numbers e.core e'.core
of_thing e e' (SendsFull shard) x = none e.core e'.core x.numbers
of_thing e e' (SendsShort shard) x = none e.core e'.core x.numbers
of_thing e e' (Serves shard) x = none e.core e'.core x.numbers
of_thing e e' Nothing x = still e e' x

of_next : (e e' : Engine) (r r' : Reading) (n : Next) → NextLeads e e' r r' n → Numbers e.core e'.core
of_next e e' r r' (Takes v) x = of_event e e' v x.taken
of_next e e' r r' (Moves t) x = of_thing e e' t x.0

of_step : (t u : State) (old now : Outer) → Does t u old now → Numbers t.engine.core u.engine.core
of_step t u old now (Works w i) = of_work t.engine u.engine w.work w.leads
of_step t u old now (Goes idle l o) = of_next t.engine u.engine l.seen.reading u.reading l.does.next l.does.leads

pub as_calls : (t : State) (steps : List Stepped) → AreSteps t steps → AsCalls t steps
as_calls t [] h = record { calls = []; leaves = refl; are = tt }
as_calls t (s ∷ ss) h =
    let first : Numbers t.engine.core s.leaves.engine.core = of_step t s.leaves s.before s.behind h.0 in
    let rest : AsCalls s.leaves ss = as_calls s.leaves ss h.1 in
    record {
      calls = record { leaves = s.leaves.engine.core; number = first.0 } ∷ rest.calls;
      leaves = ap (λ (cs : List Controller). s.leaves.engine.core ∷ cs) rest.leaves;
      are = (first.1, rest.are);
    }
