-- Controls that are reached go on, and a run of the machine reaches its control.
use Rattle.std.proofs.Common.{◌≡◌, ℕ, List, [], ◌∷◌, ◌++◌, Option, refl, sym, ap, ◌∙◌, subst}
use Rattle.ax_text.specs.declared.vocabulary.Answer.{Answer}
use Rattle.ax_text.specs.Programs.{Program}
use Rattle.ax_execution.specs.Origins.{Origin, IsOrigin}
use Rattle.ax_execution.specs.Machine.{Happening, Rules, machine_from, machine_of}
use Rattle.ax_execution.specs.Allowed.{IsRun}
use Rattle.ax_execution.specs.MachineControls.{MachineControl, control_of_machine, at_origin, happens_on}
use Rattle.ax_execution.specs.ControlsAllowed.{AllowedOn, Answered, IsAnswered, IsRunOn, after_all_on, with_answers}
use Rattle.ax_execution.specs.Reached.{IsReached}
use Rattle.ax_execution.proofs.ControlsAllowed.{run_to, all_control}

run_last : (r : Rules) (p : Program) (hs : List Answered) (h : Answered) (m : MachineControl) → IsRunOn r p hs m
    → AllowedOn r h.event (after_all_on p hs m) → IsAnswered h.event h.answer → IsRunOn r p (hs ++ h ∷ []) m
run_last r p [] h m run a b = (a, b, tt)
run_last r p (x ∷ hs) h m run a b = (run.0, run.1, run_last r p hs h (happens_on p x.event x.answer m) run.2 a b)

all_last : (p : Program) (hs : List Answered) (h : Answered) (m : MachineControl) → after_all_on p (hs ++ h ∷ []) m ≡ happens_on p h.event h.answer (after_all_on p hs m)
all_last p [] h m = refl
all_last p (x ∷ hs) h m = all_last p hs h (happens_on p x.event x.answer m)

pub origin_reached : (r : Rules) (p : Program) (from : Origin) → IsOrigin p from → IsReached r p (at_origin from)
origin_reached r p from fits = record { from = from; events = []; origin = fits; run = tt; there = refl }

pub event_reached : (r : Rules) (p : Program) (e : Happening) (a : Option Answer) (m : MachineControl) → IsReached r p m → AllowedOn r e m → IsAnswered e a → IsReached r p (happens_on p e a m)
event_reached r p e a m reached allowed answered = record {
  from = reached.from;
  events = reached.events ++ record { event = e; answer = a } ∷ [];
  origin = reached.origin;
  run = run_last r p reached.events (record { event = e; answer = a }) (at_origin reached.from) reached.run (subst (AllowedOn r e) reached.there allowed) answered;
  there = ap (happens_on p e a) reached.there ∙ sym (all_last p reached.events (record { event = e; answer = a }) (at_origin reached.from));
}

pub machine_reached : (r : Rules) (g : ℕ) (p : Program) (from : Origin) (es : List Happening) → IsOrigin p from → IsRun r g p es (machine_from from) → IsReached r p (control_of_machine (machine_of g p from es))
machine_reached r g p from es fits run = record {
  from = from;
  events = with_answers g p es (machine_from from);
  origin = fits;
  run = run_to r g p es (machine_from from) run;
  there = all_control g p es (machine_from from);
}

-- what holds at the origins, and goes on with each event that is allowed, holds wherever is reached
module _ (r : Rules) (p : Program) (P : MachineControl → Type 0)
    (goes : (e : Happening) (a : Option Answer) (m : MachineControl) → P m → AllowedOn r e m → IsAnswered e a → P (happens_on p e a m)) where
  along : (hs : List Answered) (m : MachineControl) → P m → IsRunOn r p hs m → P (after_all_on p hs m)
  along [] m h run = h
  along (x ∷ hs) m h run = along hs (happens_on p x.event x.answer m) (goes x.event x.answer m h run.0 run.1) run.2

  pub everywhere : ((from : Origin) → IsOrigin p from → P (at_origin from)) → (m : MachineControl) → IsReached r p m → P m
  everywhere begins m reached = subst P (sym reached.there) (along reached.events (at_origin reached.from) (begins reached.from reached.origin) reached.run)
