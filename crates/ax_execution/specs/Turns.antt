-- The events of one key.
use Rattle.std.specs.Prelude.{ℕ, suc, ◌+◌, ℤ, pos, int_le, Bool, false, List, [], ◌∷◌, ◌++◌, if◌then◌else◌, Option, Some, None}
use Rattle.ax_text.specs.declared.vocabulary.Request.{Request}
use Rattle.ax_text.specs.declared.vocabulary.Answer.{Answer}
use Rattle.ax_text.specs.Functions.{upd}
use Rattle.ax_text.specs.Exprs.{Facts}
use Rattle.ax_text.specs.Cells.{answer_of, cells_after}
use Rattle.ax_text.specs.Run.{times_after}
use Rattle.ax_text.specs.Programs.{Program}
use Rattle.ax_machine.specs.Sync.{without_least}
use Rattle.ax_text.specs.Controls.{Rest, Ask', Turn, begin, give, is_done, request_at}
use Rattle.ax_text.specs.Jobs.{Job, Group, firing_job, text_for}
use Rattle.ax_text.specs.Silent.{silent as silent_talk, unanswered}
use Rattle.ax_machine.specs.KeySync.{Said}
use Rattle.ax_execution.specs.Contexts.{Running, running_group, Stage, Unbegun, Begun, Context, new_context, row_context, Waiting, Row, Mark, Part, is_due, may_fire}

-- a key without owner: marks that don't fire are taken off, and a row in front owns the key
abbrev pub handed : List Waiting → Said → Part
handed [] s = record { owner = None; waiting = []; said = s }
handed (Row n e f ∷ is) s = record { owner = Some (row_context n e f); waiting = is; said = s }
handed (Mark e w more ∷ is) s =
    if may_fire w more s.state.times then record { owner = None; waiting = Mark e w more ∷ is; said = s } else handed is s

-- the key's timers behind a callback, and a group that is whole
abbrev pub timed : Turn → Said → Said
timed t s = record { state = record { cells = s.state.cells; times = times_after t.talk.ops s.state.times }; groups = s.groups }

abbrev pub closed_with : Group → Said → Said
closed_with g s = record { state = s.state; groups = s.groups ++ g ∷ [] }

-- what a callback leaves: the lines so far and then its own
abbrev pub left_by : Turn → (ℕ → Option Answer) → List (List ℤ) → ℕ → Running
left_by t answers lines served = record { control = t.control; names = t.talk.names; answers = answers; lines = lines ++ t.talk.lines; served = served }

abbrev pub staged : Context → Stage → Context
staged c stage = record { number = c.number; epoch = c.epoch; job = c.job; stage = stage }

-- a callback of the owner has ended: it waits on, or is given up
abbrev pub called_back : Context → Running → List Waiting → Said → Part
called_back c r is s =
    if is_done r.control then handed is (closed_with (running_group c.job r) s) else record { owner = Some (staged c (Begun r)); waiting = is; said = s }

abbrev pub begins : Program → Job → Turn
begins p j = begin j.facts (Rest (text_for p j.handler) ∷ []) [] (silent_talk (λ i. pos 0))

abbrev pub start_stage : Program → Context → Stage → Part → Part
start_stage p c Unbegun part = called_back c (left_by (begins p c.job) unanswered [] 0) part.waiting (timed (begins p c.job) part.said)
start_stage p c (Begun r) part = part

-- the owner begins
abbrev pub start_owner : Program → Option Context → Part → Part
start_owner p None part = part
start_owner p (Some c) part = start_stage p c c.stage part

abbrev pub start : Program → Part → Part
start p part = start_owner p part.owner part

-- a request is applied to the states of the key, and its answer is kept
abbrev pub answered : Running → ℕ → Answer → Running
answered r slot a = record { control = r.control; names = r.names; answers = upd r.answers slot (Some a); lines = r.lines; served = r.served + 1 }

abbrev pub applied : Request → Said → Said
applied q s = record { state = record { cells = cells_after q s.state.cells; times = s.state.times }; groups = s.groups }

abbrev pub serve_request : Context → Running → ℕ → Option Request → Part → Part
serve_request c r slot None part = part
serve_request c r slot (Some q) part = record {
  owner = Some (staged c (Begun (answered r slot (answer_of q part.said.state.cells))));
  waiting = part.waiting;
  said = applied q part.said;
}

abbrev pub serve_stage : Context → ℕ → Stage → Part → Part
serve_stage c slot Unbegun part = part
serve_stage c slot (Begun r) part = serve_request c r slot (request_at r.control slot) part

abbrev pub serve_owner : ℕ → Option Context → Part → Part
serve_owner slot None part = part
serve_owner slot (Some c) part = serve_stage c slot c.stage part

abbrev pub serve : ℕ → Part → Part
serve slot part = serve_owner slot part.owner part

-- a served answer is handed over
abbrev pub gives : Job → Running → ℕ → Answer → Turn
gives j r slot a = give j.facts r.control slot a (silent_talk r.names)

abbrev pub give_answer : Context → Running → ℕ → Option Answer → Part → Part
give_answer c r slot None part = part
give_answer c r slot (Some a) part =
    called_back c (left_by (gives c.job r slot a) (upd r.answers slot None) r.lines r.served) part.waiting (timed (gives c.job r slot a) part.said)

abbrev pub deliver_stage : Context → ℕ → Stage → Part → Part
deliver_stage c slot Unbegun part = part
deliver_stage c slot (Begun r) part = give_answer c r slot (r.answers slot) part

abbrev pub deliver_owner : ℕ → Option Context → Part → Part
deliver_owner slot None part = part
deliver_owner slot (Some c) part = deliver_stage c slot c.stage part

abbrev pub deliver : ℕ → Part → Part
deliver slot part = deliver_owner slot part.owner part

-- what a callback does besides: the lines that it writes, the requests that it asks, in the order of their slots,
-- and whether its context is given up behind it
pub record Effects : Type 0 where
  pub lines : List (List ℤ)
  pub asks : List Ask'
  pub gone : Bool

abbrev pub no_effects : Effects
no_effects = record { lines = []; asks = []; gone = false }

abbrev pub effects_of : Turn → Effects
effects_of t = record { lines = t.talk.lines; asks = t.asks; gone = is_done t.control }

abbrev pub stage_starts : Program → Job → Stage → Effects
stage_starts p j Unbegun = effects_of (begins p j)
stage_starts p j (Begun r) = no_effects

abbrev pub owner_starts : Program → Option Context → Effects
owner_starts p None = no_effects
owner_starts p (Some c) = stage_starts p c.job c.stage

-- of the start of the owner
abbrev pub start_effects : Program → Part → Effects
start_effects p part = owner_starts p part.owner

abbrev pub answer_gives : Job → Running → ℕ → Option Answer → Effects
answer_gives j r slot None = no_effects
answer_gives j r slot (Some a) = effects_of (gives j r slot a)

abbrev pub stage_gives : ℕ → Job → Stage → Effects
stage_gives slot j Unbegun = no_effects
stage_gives slot j (Begun r) = answer_gives j r slot (r.answers slot)

abbrev pub owner_gives : ℕ → Option Context → Effects
owner_gives slot None = no_effects
owner_gives slot (Some c) = stage_gives slot c.job c.stage

-- of the delivery of an answer
abbrev pub deliver_effects : ℕ → Part → Effects
deliver_effects slot part = owner_gives slot part.owner

-- the mark in front fires the key's least timer
abbrev pub fire_due : ℕ → ℕ → ℤ → ℕ → List Waiting → List ℤ → Part → Part
fire_due number e w more is [] part = part
fire_due number e w more is (t ∷ ts) part =
    if int_le t w then record {
      owner = Some (new_context number e (firing_job w t));
      waiting = Mark e w more ∷ is;
      said = record { state = without_least part.said.state; groups = part.said.groups };
    } else part

abbrev pub fire_front : ℕ → Option Context → List Waiting → Part → Part
fire_front number None (Mark e w (suc more) ∷ is) part = fire_due number e w more is part.said.state.times part
fire_front number o is part = part

abbrev pub fire : ℕ → Part → Part
fire number part = fire_front number part.owner part.waiting part

-- a row comes: it owns a free key, and else waits, the last of all
abbrev pub admit_at : ℕ → ℕ → Facts → Option Context → List Waiting → Said → Part
admit_at n e f None [] s = record { owner = Some (row_context n e f); waiting = []; said = s }
admit_at n e f o is s = record { owner = o; waiting = is ++ Row n e f ∷ []; said = s }

abbrev pub admit : ℕ → ℕ → Facts → Part → Part
admit n e f part = admit_at n e f part.owner part.waiting part.said

-- a mark comes: last where the key isn't free, and else only where a timer is due
abbrev pub mark_at : ℕ → ℤ → ℕ → Option Context → List Waiting → Said → Part
mark_at e w more None [] s = if is_due w s.state.times then record { owner = None; waiting = Mark e w more ∷ []; said = s } else record { owner = None; waiting = []; said = s }
mark_at e w more o is s = record { owner = o; waiting = is ++ Mark e w more ∷ []; said = s }

abbrev pub mark : ℕ → ℤ → ℕ → Part → Part
mark e w more part = mark_at e w more part.owner part.waiting part.said
