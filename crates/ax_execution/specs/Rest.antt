-- What is still to be run of a key.
use Rattle.std.specs.Prelude.{ℕ, ◌+◌, ◌-◌, ℤ, List, [], ◌∷◌, Option, Some, None}
use Rattle.ax_text.specs.declared.vocabulary.Answer.{Answer}
use Rattle.ax_text.specs.KeyStates.{KeyState}
use Rattle.ax_text.specs.Run.{World}
use Rattle.ax_text.specs.Programs.{Program}
use Rattle.ax_text.specs.Controls.{left, slots}
use Rattle.ax_text.specs.Jobs.{Job, lines_in}
use Rattle.ax_execution.specs.Groups.{on_row, weight}
use Rattle.ax_machine.specs.KeySync.{Said, said_after, ran, key_fires}
use Rattle.ax_execution.specs.Contexts.{Running, Stage, Unbegun, Begun, Context, Waiting, Row, Mark, Part, part_groups, rows_in}

-- what a handler comes to on these states, with the lines and the requests served so far
abbrev pub rest_world : Job → Running → KeyState → World
rest_world j r state = left j.facts r.answers r.control (record { talk = record { names = r.names; lines = r.lines; ops = [] }; cells = state.cells; served = r.served })

-- a handler goes on to its end
abbrev pub rest_running : Job → Running → Said → Said
rest_running j r s = said_after j s.state (rest_world j r s.state) s

abbrev pub rest_stage : Program → Job → Stage → Said → Said
rest_stage p j Unbegun s = ran p j s.state s
rest_stage p j (Begun r) s = rest_running j r s

abbrev pub rest_owner : Program → Option Context → Said → Said
rest_owner p None s = s
rest_owner p (Some c) s = rest_stage p c.job c.stage s

-- a mark fires what is due
abbrev pub rest_item : Program → Waiting → Said → Said
rest_item p (Row n e f) s = ran p (on_row f) s.state s
rest_item p (Mark e w more) s = key_fires p w more s

abbrev pub rest_items : Program → List Waiting → Said → Said
rest_items p [] s = s
rest_items p (i ∷ is) s = rest_items p is (rest_item p i s)

-- what a key has and has said behind all of this: the owner, and then what waits, in order
abbrev pub settled : Program → Part → Said
settled p part = rest_items p part.waiting (rest_owner p part.owner part.said)

-- a context that has said nothing so far
abbrev pub silent_stage : Stage → Stage
silent_stage Unbegun = Unbegun
silent_stage (Begun r) = Begun (record { control = r.control; names = r.names; answers = r.answers; lines = []; served = 0 })

abbrev pub silent : Option Context → Option Context
silent None = None
silent (Some c) = Some (record { number = c.number; epoch = c.epoch; job = c.job; stage = silent_stage c.stage })

-- the same key with nothing said so far
abbrev pub silent_part : Part → Part
silent_part part = record { owner = silent part.owner; waiting = part.waiting; said = record { state = part.said.state; groups = [] } }

-- the lines that are still to be written
abbrev pub owed : Program → Part → List (List ℤ)
owed p part = lines_in (settled p (silent_part part)).groups

-- one for each context that hasn't begun and each answer that was served and not delivered
abbrev pub one_if : Option Answer → ℕ
one_if None = 0
one_if (Some a) = 1

abbrev pub served_at : (ℕ → Option Answer) → List ℕ → ℕ
served_at answers [] = 0
served_at answers (s ∷ ss) = one_if (answers s) + served_at answers ss

abbrev pub stage_work : Stage → ℕ
stage_work Unbegun = 1
stage_work (Begun r) = served_at r.answers (slots r.control)

abbrev pub owner_work : Option Context → ℕ
owner_work None = 0
owner_work (Some c) = stage_work c.stage

-- the work left: that, and two for each request still to be served and each firing still to come
abbrev pub part_work : Program → Part → ℕ
part_work p part = (weight (settled p part).groups - weight (part_groups part)) + (owner_work part.owner + rows_in part.waiting)
