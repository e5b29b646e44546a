-- What the end of a run tells.
use Rattle.std.proofs.Common.{◌≡◌, ◌<◌, ℕ, List, [], ◌∷◌, Bool, true, false, Some, refl, sym, ap₂, ◌∙◌, subst}
use Rattle.std.specs.Io.KnownBytes.{Appends}
use Rattle.ax_base.specs.Outside.{Counts}
use Rattle.ax_time.specs.declared.epoch.Marker.{Marker}
use Rattle.ax_time.specs.Epochs.{markers_of}
use Rattle.ax_execution.specs.Machine.{Closed}
use Rattle.ax_execution.specs.MachineControls.{MachineControl, in_flight_on}
use Rattle.ax_execution.specs.ControlsAllowed.{NoneIsIdleOn}
use Rattle.ax_execution.specs.ControlTurns.{is_idle_on}
use Rattle.ax_execution.proofs.Upto.{by_cases}
use Rattle.ax_core.specs.declared.controller.Controller.{Controller}
use Rattle.ax_core.specs.May.{may_fire}
use Rattle.ax_core.specs.Epochs.{MarkersStand}
use Rattle.ax_core.specs.Sound.{StandsFor}
use Rattle.ax_core.proofs.FiresStand.{is_may}
use Rattle.ax_task.specs.Parse.{Parsed, BadProgram, Runs, Clean, Fault, section_in, parse}
use Rattle.ax_task.specs.Clause.{Holds, OfTaken, AtRead, AtWrite, AtNoMemory, RunEnds, Stops}
use Rattle.ax_task.specs.Engines.{IsReady}
use Rattle.ax_task.specs.Exchanged.{NothingWaits}
use Rattle.ax_task.specs.Due.{IsFree}
use Rattle.ax_task.specs.Tasks.{Outer}
use Rattle.ax_task.specs.Causes.{StepIsCaused}
use Rattle.ax_task.specs.Running.{State}
use Rattle.ax_task.specs.Things.{NoWork, Ends, StepDoes}
use Rattle.ax_task.specs.Laws.{OfWholeLines, PartOf, WroteWhatIsRead, InSection, InEvents, WroteAPart, WroteAll, IsFoundEnd, NothingGoesOn, LeftNothing}
use Rattle.ax_task.specs.declared.end.End.{End}
use Rattle.ax_task.specs.declared.end.End.TheVariants as end
use Rattle.ax_task.specs.declared.step.Step.TheVariants as step
use Rattle.ax_task.specs.declared.engine.Engine.{Engine}
use Rattle.ax_task.proofs.EngineLemmas.{true_false}
use Rattle.ax_task.proofs.Going.{is_free}

-- whole lines that were taken, with what is so of them
of_lines : (P Q : List ℕ → Type 0) (bytes left : List ℕ) → ((lines : List ℕ) → P lines → Q lines) → OfTaken bytes left P → OfWholeLines bytes left Q
of_lines P Q bytes left f (taken, lines, all, whole, x) = record { taken = taken; lines = lines; all = all; whole = whole; wrote = f lines x }

module _ (m : ℕ) (serial : Bool) (out : Holds) where
  at_read : (lines : List ℕ) (input : Parsed) → parse lines ≡ input → AtRead m serial out (section_in lines) input → WroteWhatIsRead m serial out lines
  at_read lines (BadProgram line kind) is h = InSection h.0 h.1
  at_read lines (Runs p stream) is h = InEvents (record { program = p; stream = stream; says = is; ends = h.0; list = h.1.0; lawful = h.1.1; text = h.1.2 })

  at_write : (lines : List ℕ) (input : Parsed) → parse lines ≡ input → AtWrite m serial out input → WroteAPart m serial out lines
  at_write lines (BadProgram line kind) is h = absurd h
  at_write lines (Runs p stream) is h = record { program = p; stream = stream; says = is; part = record { list = h.0; lawful = h.1; part = h.2 } }

  at_no_memory : (input : Parsed) → AtNoMemory m serial out input → PartOf m serial out input
  at_no_memory (BadProgram line kind) h = h
  at_no_memory (Runs p stream) h = record { list = h.0; lawful = h.1; part = h.2 }

  pub read_wrote : (bytes left : List ℕ) → Stops m serial out bytes left end.Read → OfWholeLines bytes left (WroteWhatIsRead m serial out)
  read_wrote bytes left = of_lines (λ lines. AtRead m serial out (section_in lines) (parse lines)) (WroteWhatIsRead m serial out) bytes left (λ lines. at_read lines (parse lines) refl)

  pub write_wrote : (bytes left : List ℕ) → Stops m serial out bytes left end.Write → OfWholeLines bytes left (WroteAPart m serial out)
  write_wrote bytes left = of_lines (λ lines. AtWrite m serial out (parse lines)) (WroteAPart m serial out) bytes left (λ lines. at_write lines (parse lines) refl)

  pub memory_wrote : (bytes left : List ℕ) → Stops m serial out bytes left end.NoMemory → OfWholeLines bytes left (λ lines. PartOf m serial out (parse lines))
  memory_wrote bytes left = of_lines (λ lines. AtNoMemory m serial out (parse lines)) (λ lines. PartOf m serial out (parse lines)) bytes left (λ lines. at_no_memory (parse lines))

pub ended_ok : (m : ℕ) (serial : Bool) (out : Holds) (input : Parsed) (left : List ℕ) → RunEnds m serial out input left end.Ok → WroteAll m serial out input Clean × (left ≡ [])
ended_ok m serial out (BadProgram line kind) left h = absurd h
ended_ok m serial out (Runs p s) left (clean, none, (list, lawful, text)) = (record { program = p; stream = s; says = refl; ends = clean; list = list; lawful = lawful; text = text }, none)

pub ended_input : (m : ℕ) (serial : Bool) (out : Holds) (input : Parsed) (left : List ℕ) (line kind : ℕ) → RunEnds m serial out input left (end.Input line kind) → WroteAll m serial out input (Fault line kind)
ended_input m serial out (BadProgram l k) left line kind h = absurd h
ended_input m serial out (Runs p s) left line kind (fault, (list, lawful, text)) = record { program = p; stream = s; says = refl; ends = fault; list = list; lawful = lawful; text = text }

pub ended_program : (m : ℕ) (serial : Bool) (out : Holds) (input : Parsed) (left : List ℕ) (line kind : ℕ) → RunEnds m serial out input left (end.Program line kind) → (input ≡ BadProgram line kind) × Appends out.old out.new []
ended_program m serial out (BadProgram l k) left line kind (l_is, k_is, nothing) = (ap₂ BadProgram l_is k_is, nothing)
ended_program m serial out (Runs p s) left line kind h = absurd h

no_markers : (ms : List Marker) (cs ds : List Closed) → MarkersStand ms cs → MarkersStand ms ds → cs ≡ [] → ds ≡ []
no_markers [] cs [] h k is = refl
no_markers [] cs (d ∷ ds) h k is = absurd k
no_markers (x ∷ ms) [] ds h k is = absurd h
no_markers (x ∷ ms) (c ∷ cs) ds h k is = cc is

-- where no key may fire and nothing is in flight, nothing goes on in any control for which the controller stands
pub nothing_goes_on : (a : Controller) → IsFree a → may_fire a ≡ false → NothingGoesOn a
nothing_goes_on a free fires = record { flight = flight; unsent = unsent; idle = idle }
  where
    flight : (m : MachineControl) → StandsFor a m → in_flight_on m ≡ 0
    flight m stands = sym stands.stands.flight ∙ (free.stands.stands.flight ∙ free.none)

    unsent : (m : MachineControl) → StandsFor a m → m.unsent ≡ []
    unsent m stands = no_markers (markers_of a.epochs.closed) free.control.unsent m.unsent free.stands.stands.epochs.markers stands.stands.epochs.markers free.unsent

    idle : (m : MachineControl) → StandsFor a m → NoneIsIdleOn m
    idle m stands k = by_cases (is_idle_on (m.controls k))
        (λ i. absurd (true_false (sym (is_may a m stands free.sound.rooms (record { key = k; idle = i; room = subst (λ (n : ℕ). n < a.settings.in_flight) (sym (flight m stands)) free.some })) ∙ fires)))
        (λ i. i)

-- an end by what was found
pub left_nothing : (t u : State) (old now : Outer) (before behind : Counts) (e : End) → IsFoundEnd e → StepDoes t u old now (step.End e) → StepIsCaused u.engine.core u.reading.found before behind (step.End e) → LeftNothing u e
left_nothing t u old now before behind e is does caused = of e is does caused
  where
    put : (e : End) → u.reading.found ≡ Some e → IsFree u.engine.core → Ends t u old now → LeftNothing u e
    put e found free ends = record { found = found; left = ends.left; free = free; none = nothing_goes_on u.engine.core free ends.left.work.fires; gathered = ends.gathered }

    of : (e : End) → IsFoundEnd e → StepDoes t u old now (step.End e) → StepIsCaused u.engine.core u.reading.found before behind (step.End e) → LeftNothing u e
    of end.Ok is does caused = put end.Ok caused.0.0 caused.0.1 does
    of (end.Input line kind) is does caused = put (end.Input line kind) caused.0.0 caused.0.1 does
    of (end.Program line kind) is does caused = absurd is
    of end.Read is does caused = put end.Read caused.0.0 caused.0.1 does
    of end.Write is does caused = absurd is
    of end.NoMemory is does caused = absurd is

-- no work, and no request
module _ (e : Engine) (ready : IsReady e) (work : NoWork e) (waits : NothingWaits e) where
  pub without_work : IsFree e.core
  without_work = is_free e ready (record { fires = λ m stands may. true_false (sym (is_may e.core m stands ready.stands.sound.rooms may) ∙ work.fires); sends = work.sends }) work.mails waits

  pub without_work_none : NothingGoesOn e.core
  without_work_none = nothing_goes_on e.core without_work work.fires
