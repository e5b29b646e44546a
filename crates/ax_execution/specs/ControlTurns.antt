-- The events of one key, as of its control alone: no cell is looked at, and what the owner has said is forgotten.
use Rattle.std.specs.Prelude.{ℕ, suc, ◌+◌, ℤ, int_le, List, [], ◌∷◌, ◌++◌, Bool, if◌then◌else◌, Option, Some, None}
use Rattle.ax_text.specs.declared.vocabulary.Answer.{Answer}
use Rattle.ax_text.specs.Functions.{upd}
use Rattle.ax_text.specs.Exprs.{Facts}
use Rattle.ax_text.specs.Run.{times_after}
use Rattle.ax_text.specs.Programs.{Program}
use Rattle.ax_text.specs.Controls.{Turn, Answers, is_done}
use Rattle.ax_text.specs.Jobs.{firing_job}
use Rattle.ax_text.specs.Silent.{unanswered}
use Rattle.ax_execution.specs.Contexts.{Running, Stage, Unbegun, Begun, Context, new_context, row_context, Waiting, Row, Mark, is_due, may_fire, owners, rows_in, is_idle_with}
use Rattle.ax_execution.specs.Turns.{begins, gives, staged}
use Rattle.ax_execution.specs.KeyControls.{KeyControl}

-- no owner, and a mark in front
abbrev pub is_idle_on : KeyControl → Bool
is_idle_on c = is_idle_with c.owner c.waiting

-- how many contexts there are
abbrev pub contexts_on : KeyControl → ℕ
contexts_on c = owners c.owner + rows_in c.waiting

-- a key without owner: marks that don't fire are taken off, and a row in front owns the key
abbrev pub handed_on : List Waiting → List ℤ → KeyControl
handed_on [] times = record { owner = None; waiting = []; times = times }
handed_on (Row n e f ∷ is) times = record { owner = Some (row_context n e f); waiting = is; times = times }
handed_on (Mark e w more ∷ is) times =
    if may_fire w more times then record { owner = None; waiting = Mark e w more ∷ is; times = times } else handed_on is times

-- what a callback leaves, that has said nothing
abbrev pub paused : Turn → Answers → Running
paused t answers = record { control = t.control; names = t.talk.names; answers = answers; lines = []; served = 0 }

-- a callback of the owner has ended, and these are the times behind it: the owner waits on, or is given up
abbrev pub called_back_on : Context → Turn → Answers → List Waiting → List ℤ → KeyControl
called_back_on c t answers is times =
    if is_done t.control then handed_on is times else record { owner = Some (staged c (Begun (paused t answers))); waiting = is; times = times }

abbrev pub start_stage_on : Program → Context → Stage → KeyControl → KeyControl
start_stage_on p c Unbegun k = called_back_on c (begins p c.job) unanswered k.waiting (times_after (begins p c.job).talk.ops k.times)
start_stage_on p c (Begun r) k = k

abbrev pub start_owner_on : Program → Option Context → KeyControl → KeyControl
start_owner_on p None k = k
start_owner_on p (Some c) k = start_stage_on p c c.stage k

-- the owner begins
abbrev pub start_on : Program → KeyControl → KeyControl
start_on p k = start_owner_on p k.owner k

abbrev pub give_answer_on : Context → Running → ℕ → Option Answer → KeyControl → KeyControl
give_answer_on c r slot None k = k
give_answer_on c r slot (Some a) k =
    called_back_on c (gives c.job r slot a) (upd r.answers slot None) k.waiting (times_after (gives c.job r slot a).talk.ops k.times)

abbrev pub deliver_stage_on : Context → ℕ → Stage → KeyControl → KeyControl
deliver_stage_on c slot Unbegun k = k
deliver_stage_on c slot (Begun r) k = give_answer_on c r slot (r.answers slot) k

abbrev pub deliver_owner_on : ℕ → Option Context → KeyControl → KeyControl
deliver_owner_on slot None k = k
deliver_owner_on slot (Some c) k = deliver_stage_on c slot c.stage k

-- a served answer is handed over
abbrev pub deliver_on : ℕ → KeyControl → KeyControl
deliver_on slot k = deliver_owner_on slot k.owner k

-- the mark in front fires the key's least timer
abbrev pub fire_due_on : ℕ → ℕ → ℤ → ℕ → List Waiting → List ℤ → KeyControl → KeyControl
fire_due_on number e w more is [] k = k
fire_due_on number e w more is (t ∷ ts) k =
    if int_le t w then record { owner = Some (new_context number e (firing_job w t)); waiting = Mark e w more ∷ is; times = ts } else k

abbrev pub fire_front_on : ℕ → Option Context → List Waiting → KeyControl → KeyControl
fire_front_on number None (Mark e w (suc more) ∷ is) k = fire_due_on number e w more is k.times k
fire_front_on number o is k = k

abbrev pub fire_on : ℕ → KeyControl → KeyControl
fire_on number k = fire_front_on number k.owner k.waiting k

-- a row comes: it owns a free key, and else waits, the last of all
abbrev pub admit_at_on : ℕ → ℕ → Facts → Option Context → List Waiting → List ℤ → KeyControl
admit_at_on n e f None [] times = record { owner = Some (row_context n e f); waiting = []; times = times }
admit_at_on n e f o is times = record { owner = o; waiting = is ++ Row n e f ∷ []; times = times }

abbrev pub admit_on : ℕ → ℕ → Facts → KeyControl → KeyControl
admit_on n e f k = admit_at_on n e f k.owner k.waiting k.times

-- a mark comes: last where the key isn't free, and else only where a timer is due
abbrev pub mark_at_on : ℕ → ℤ → ℕ → Option Context → List Waiting → List ℤ → KeyControl
mark_at_on e w more None [] times = if is_due w times then record { owner = None; waiting = Mark e w more ∷ []; times = times } else record { owner = None; waiting = []; times = times }
mark_at_on e w more o is times = record { owner = o; waiting = is ++ Mark e w more ∷ []; times = times }

abbrev pub mark_on : ℕ → ℤ → ℕ → KeyControl → KeyControl
mark_on e w more k = mark_at_on e w more k.owner k.waiting k.times
