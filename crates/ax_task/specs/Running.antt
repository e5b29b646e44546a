-- A task between its steps: what it has come to, and what a step makes of that.
use Rattle.std.specs.Prelude.{◌≡◌, ◌<◌, ◌≤◌, ℕ, ℤ, List, [], Bool, true, false, Option, Some, None}
use Rattle.std.specs.Io.KnownBytes.{append_known}
use Rattle.ax_base.specs.Gathered.{Begins}
use Rattle.ax_base.specs.Reader.{Reader}
use Rattle.ax_lang.specs.declared.program.Program.{Program}
use Rattle.ax_lang.specs.Shown.{shown_program}
use Rattle.ax_core.specs.declared.settings.Settings.{Settings}
use Rattle.ax_core.specs.declared.controller.Controller.{Controller}
use Rattle.ax_task.specs.Passes.{events_at}
use Rattle.ax_task.specs.Exchanged.{LessIsLeft}
use Rattle.ax_task.specs.Due.{due}
use Rattle.ax_task.specs.Steady.{CanGoOn}
use Rattle.ax_task.specs.Tasks.{Outer, From, IsUnderway, HasEnded}
use Rattle.ax_task.specs.declared.end.End.{End}
use Rattle.ax_task.specs.declared.engine.Engine.{Engine}
use Rattle.ax_task.specs.declared.reading.Reading.{Reading}
use Rattle.ax_task.specs.declared.driver.Did.{Did}
use Rattle.ax_task.specs.declared.driver.Did.TheVariants as did
use Rattle.ax_task.specs.declared.step.Step.{Step}
use Rattle.ax_task.specs.declared.step.Step.TheVariants as step
use Rattle.ax_task.specs.declared.task.Task.{Task}

-- what a task has come to: its engine, what was read, the reader of lines, and what was gathered and isn't written
pub record State : Type 0 where
  pub engine : Engine
  pub reading : Reading
  pub lines : Reader
  pub gathered : List ℕ

abbrev pub state_of : Task → State
state_of t = record { engine = t.driver.engine; reading = t.driver.reading; lines = t.lines; gathered = t.room }

-- whether the run has ended, what was found at the input, the controller, and whether the last step took an event
abbrev pub has_ended : Task → Bool
has_ended t = t.ended

abbrev pub found_of : Task → Option End
found_of t = t.driver.reading.found

abbrev pub controller_of : Task → Controller
controller_of t = t.driver.engine.core

abbrev pub took_event : Task → Bool
took_event t = t.took

-- nothing was read of the events, and nothing is gathered
pub record IsFresh (t : State) : Type 0 where
  pub next : t.reading.next ≡ None
  pub found : t.reading.found ≡ None
  pub gathered : t.gathered ≡ []

-- where a run begins whose events are read by these lines, behind a barrier of this ID
abbrev pub start : Program → ℤ → Reader → Outer → From
start p last lines now = record { means = events_at (shown_program p).fields last lines; held = lines.held; outer = now }

-- what source and sink tell, where the sink also had what is gathered for it
abbrev pub with_gathered : List ℕ → Outer → Outer
with_gathered bytes now = record { left = now.left; reads = now.reads; holds = append_known now.holds bytes; writes = now.writes }

-- a run that began there has come so far, and its sink still has what it held then
pub record IsRunning (s : Settings) (p : Program) (from : From) (t : State) (now : Outer) : Type 0 where
  pub underway : IsUnderway s p from t.engine t.reading t.lines (with_gathered t.gathered now)
  pub begun : Begins from.outer.holds now.holds

-- a task that can go on, whatever its source and its sink are
abbrev pub IsSteady : Task → Type 0
IsSteady t = CanGoOn t.driver.engine t.driver.reading t.lines

abbrev pub StaysSteady : Task → Step → Type 0
StaysSteady t step.Went = IsSteady t
StaysSteady t step.Wait = IsSteady t
StaysSteady t (step.End end) = Unit {0}

-- what was done leaves a run that has come so far, or has ended so
abbrev pub DidLeaves : Settings → Program → From → State → Outer → Did → Type 0
DidLeaves s p from t now did.Went = IsRunning s p from t now
DidLeaves s p from t now did.Took = IsRunning s p from t now
DidLeaves s p from t now (did.End end) = HasEnded s p from now end

abbrev pub StepLeaves : Settings → Program → From → State → Outer → Step → Type 0
StepLeaves s p from t now step.Went = IsRunning s p from t now
StepLeaves s p from t now step.Wait = ⊥
StepLeaves s p from t now (step.End end) = HasEnded s p from now end

-- each run that had come to `t` has come to `t'` behind a step, or has ended so
abbrev pub GoesOn : State → State → Outer → Outer → Step → Type 0
GoesOn t t' old now step = (s : Settings) (p : Program) (from : From) → IsRunning s p from t old → StepLeaves s p from t' now step

-- where an event was taken, fewer are to come; else there is less to do
abbrev pub IsNearer : Bool → State → State → Type 0
IsNearer true t t' = due t'.reading t'.lines < due t.reading t.lines
IsNearer false t t' = LessIsLeft t.engine t'.engine × (due t'.reading t'.lines ≤ due t.reading t.lines)

-- a step that went comes nearer to the end of the run
abbrev pub ComesNearer : Bool → State → State → Step → Type 0
ComesNearer took t t' step.Went = IsNearer took t t'
ComesNearer took t t' step.Wait = ⊥
ComesNearer took t t' (step.End end) = Unit {0}

-- whether a step ended the run
abbrev pub is_end : Step → Bool
is_end step.Went = false
is_end step.Wait = false
is_end (step.End end) = true

-- steps went on, or the run has ended
abbrev pub step_of : Option End → Step
step_of None = step.Went
step_of (Some end) = step.End end

-- each run that had come so far has ended so
abbrev pub RunEndsAs : State → Outer → Outer → End → Type 0
RunEndsAs t old now end = (s : Settings) (p : Program) (from : From) → IsRunning s p from t old → HasEnded s p from now end
