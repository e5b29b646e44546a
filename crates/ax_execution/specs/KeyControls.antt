-- What of a key a controller knows: who owns it, what waits for it and when its timers are due; neither its cells nor what it said.
use Rattle.std.specs.Prelude.{◌≡◌, ℕ, ℤ, List, [], Option, Some, None}
use Rattle.ax_text.specs.declared.vocabulary.Request.{Request}
use Rattle.ax_text.specs.declared.vocabulary.Answer.{Answer}
use Rattle.ax_text.specs.Cells.{Cells, answer_of}
use Rattle.ax_text.specs.Programs.{untouched}
use Rattle.ax_text.specs.Controls.{request_at}
use Rattle.ax_execution.specs.Contexts.{Stage, Unbegun, Begun, Context, Waiting, Part}
use Rattle.ax_execution.specs.Rest.{silent}
use Rattle.ax_execution.specs.Turns.{staged, answered}

pub record KeyControl : Type 0 where
  pub owner : Option Context
  pub waiting : List Waiting
  pub times : List ℤ

abbrev pub control_of : Part → KeyControl
control_of part = record { owner = silent part.owner; waiting = part.waiting; times = part.said.state.times }

-- a key with this control, whose cells are empty and which has said nothing
abbrev pub bare : KeyControl → Part
bare c = record { owner = c.owner; waiting = c.waiting; said = record { state = record { cells = untouched []; times = c.times }; groups = [] } }

-- an event of a key, as one of its control
abbrev pub on_control : (Part → Part) → KeyControl → KeyControl
on_control f c = control_of (f (bare c))

-- the event looks at the control alone
abbrev pub SeesControl : (Part → Part) → Type 0
SeesControl f = (part : Part) → control_of (f part) ≡ on_control f (control_of part)

-- the answer that the cells give to a request of a slot
abbrev pub answer_to : Option Request → Cells → Option Answer
answer_to None cells = None
answer_to (Some q) cells = Some (answer_of q cells)

abbrev pub stage_answer : ℕ → Stage → Cells → Option Answer
stage_answer slot Unbegun cells = None
stage_answer slot (Begun r) cells = answer_to (request_at r.control slot) cells

abbrev pub owner_answer : ℕ → Option Context → Cells → Option Answer
owner_answer slot None cells = None
owner_answer slot (Some c) cells = stage_answer slot c.stage cells

-- an answer is kept, as of the control alone
abbrev pub stage_keeps : ℕ → Option Answer → Stage → Stage
stage_keeps slot None stage = stage
stage_keeps slot (Some a) Unbegun = Unbegun
stage_keeps slot (Some a) (Begun r) = Begun (answered r slot a)

abbrev pub owner_keeps : ℕ → Option Answer → Option Context → Option Context
owner_keeps slot a None = None
owner_keeps slot a (Some c) = Some (staged c (stage_keeps slot a c.stage))

abbrev pub keeps_answer : ℕ → Option Answer → KeyControl → KeyControl
keeps_answer slot a c = record { owner = silent (owner_keeps slot a c.owner); waiting = c.waiting; times = c.times }
