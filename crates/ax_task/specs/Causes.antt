-- Why a step ended a run.
use Rattle.std.specs.Prelude.{◌≡◌, Option, Some}
use Rattle.ax_base.specs.Outside.{RoseByOne, Counts}
use Rattle.ax_task.specs.Clause.{MayRise}
use Rattle.ax_core.specs.declared.controller.Controller.{Controller}
use Rattle.ax_task.specs.Due.{IsFree}
use Rattle.ax_task.specs.declared.end.End.{End}
use Rattle.ax_task.specs.declared.end.End.TheVariants as end
use Rattle.ax_task.specs.declared.driver.Did.{Did}
use Rattle.ax_task.specs.declared.driver.Did.TheVariants as did
use Rattle.ax_task.specs.declared.step.Step.{Step}
use Rattle.ax_task.specs.declared.step.Step.TheVariants as step

-- an end of the input is the one that was found, and comes only where nothing is in flight and no marker is to be sent; a fault of the
-- program is no end of a step
abbrev pub IsAtRest : Controller → Option End → End → Type 0
IsAtRest a found end.Ok = (found ≡ Some end.Ok) × IsFree a
IsAtRest a found (end.Input line kind) = (found ≡ Some (end.Input line kind)) × IsFree a
IsAtRest a found end.Read = (found ≡ Some end.Read) × IsFree a
IsAtRest a found end.Write = Unit {0}
IsAtRest a found end.NoMemory = Unit {0}
IsAtRest a found (end.Program line kind) = ⊥

abbrev pub EndsAtRest : Controller → Option End → Did → Type 0
EndsAtRest a found did.Went = Unit {0}
EndsAtRest a found did.Took = Unit {0}
EndsAtRest a found (did.End end) = IsAtRest a found end

-- the counts of the sink by an end: a write fault raised that of its faults, want of memory may have raised its own, and all else stays
abbrev pub EndWrites : Counts → Counts → End → Type 0
EndWrites before now end.Ok = now ≡ before
EndWrites before now (end.Input line kind) = now ≡ before
EndWrites before now (end.Program line kind) = now ≡ before
EndWrites before now end.Read = now ≡ before
EndWrites before now end.Write = RoseByOne before.faults now.faults × (now.short ≡ before.short)
EndWrites before now end.NoMemory = (now.faults ≡ before.faults) × MayRise before.short now.short

abbrev pub DidCounts : Counts → Counts → Did → Type 0
DidCounts before now did.Went = now ≡ before
DidCounts before now did.Took = now ≡ before
DidCounts before now (did.End end) = EndWrites before now end

-- the cause of what a step answers: as long as it goes on, the sink counted nothing
abbrev pub StepIsCaused : Controller → Option End → Counts → Counts → Step → Type 0
StepIsCaused a found before now step.Went = now ≡ before
StepIsCaused a found before now step.Wait = ⊥
StepIsCaused a found before now (step.End end) = IsAtRest a found end × EndWrites before now end
