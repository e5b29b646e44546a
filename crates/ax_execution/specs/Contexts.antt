-- What the asynchronous machine holds of one key.
use Rattle.std.specs.Prelude.{ℕ, zero, suc, ◌+◌, ℤ, int_le, List, [], ◌∷◌, ◌++◌, Bool, true, false, Option, Some, None}
use Rattle.ax_text.specs.declared.vocabulary.Answer.{Answer}
use Rattle.ax_text.specs.Exprs.{Names, Facts}
use Rattle.ax_text.specs.Controls.{Control}
use Rattle.ax_text.specs.Jobs.{Job, Group, lines_in}
use Rattle.ax_execution.specs.Groups.{on_row, unsaid}
use Rattle.ax_machine.specs.KeySync.{Said}

-- a handler on its way: what it waits for, its local names, the answers that were served and not delivered, its lines so far,
-- and how many of its requests were served
pub record Running : Type 0 where
  pub control : Control
  pub names : Names
  pub answers : ℕ → Option Answer
  pub lines : List (List ℤ)
  pub served : ℕ

pub data Stage : Type 0 where
  Unbegun : Stage
  Begun : (running : Running) → Stage

-- a row or a firing that was admitted and not given up
pub record Context : Type 0 where
  pub number : ℕ
  pub epoch : ℕ
  pub job : Job
  pub stage : Stage

abbrev pub new_context : ℕ → ℕ → Job → Context
new_context number epoch job = record { number = number; epoch = epoch; job = job; stage = Unbegun }

abbrev pub row_context : ℕ → ℕ → Facts → Context
row_context number epoch facts = new_context number epoch (on_row facts)

abbrev pub running_group : Job → Running → Group
running_group j r = record { job = j; lines = r.lines; served = r.served }

abbrev pub stage_group : Job → Stage → Group
stage_group j Unbegun = unsaid j
stage_group j (Begun r) = running_group j r

-- what waits for a key: a row, or a watermark's mark with the number of firings that it may still make
pub data Waiting : Type 0 where
  Row : (number epoch : ℕ) → (facts : Facts) → Waiting
  Mark : (epoch : ℕ) → (time : ℤ) → (more : ℕ) → Waiting

-- one key: the context that owns it, what waits, the oldest first, its states and timers as they are now, and its groups that are whole
pub record Part : Type 0 where
  pub owner : Option Context
  pub waiting : List Waiting
  pub said : Said

abbrev pub owner_groups : Option Context → List Group
owner_groups None = []
owner_groups (Some c) = stage_group c.job c.stage ∷ []

-- all that a key has said so far
abbrev pub part_groups : Part → List Group
part_groups p = p.said.groups ++ owner_groups p.owner

abbrev pub part_lines : Part → List (List ℤ)
part_lines p = lines_in (part_groups p)

-- how many contexts there are
abbrev pub owners : Option Context → ℕ
owners None = 0
owners (Some c) = 1

abbrev pub rows_in : List Waiting → ℕ
rows_in [] = 0
rows_in (Row n e f ∷ is) = 1 + rows_in is
rows_in (Mark e w more ∷ is) = rows_in is

abbrev pub contexts_in : Part → ℕ
contexts_in p = owners p.owner + rows_in p.waiting

-- a timer is at or below a watermark
abbrev pub is_due : ℤ → List ℤ → Bool
is_due w [] = false
is_due w (t ∷ ts) = int_le t w

-- a mark fires while firings are left to it and a timer is due
abbrev pub may_fire : ℤ → ℕ → List ℤ → Bool
may_fire w zero times = false
may_fire w (suc more) times = is_due w times

-- no owner, and a mark in front
abbrev pub is_idle_with : Option Context → List Waiting → Bool
is_idle_with None (Mark e w more ∷ is) = true
is_idle_with o is = false

abbrev pub is_idle : Part → Bool
is_idle p = is_idle_with p.owner p.waiting
