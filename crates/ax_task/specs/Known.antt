-- What a task knows of its input: as much as was passed of it, or how it ends.
use Rattle.std.specs.Prelude.{◌≡◌, ℕ, List, Option, Some, None}
use Rattle.ax_machine.specs.Events.{Event}
use Rattle.ax_task.specs.Parse.{Stream}
use Rattle.ax_task.specs.Clause.{StreamEnds}
use Rattle.ax_task.specs.Passes.{Feed, to_come, Passed, in_front, Took}
use Rattle.ax_task.specs.declared.end.End.{End}
use Rattle.ax_task.specs.declared.end.End.TheVariants as end

-- These events were read. `F` is what bytes meant to the reader at first, and `G` what they mean to it now. Once an end was found, they are all
-- events of the bytes, and nothing more is read.
abbrev pub Knows : (List ℕ → Stream) → (List ℕ → Stream) → List Event → Feed → Feed → Option End → Type 0
Knows F G seen old new None = (w : List ℕ) × Passed F (λ x. in_front seen (G x)) old w new
Knows F G seen old new (Some e) = StreamEnds (λ events. events ≡ seen) (F (to_come old)) new.left e × Took seen F old new.left e

-- the ends of an input
abbrev pub IsInputEnd : End → Type 0
IsInputEnd end.Ok = Unit {0}
IsInputEnd (end.Input line kind) = Unit {0}
IsInputEnd end.Read = Unit {0}
IsInputEnd (end.Program line kind) = ⊥
IsInputEnd end.Write = ⊥
IsInputEnd end.NoMemory = ⊥
