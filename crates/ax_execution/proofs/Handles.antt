-- What the crate of handlers proves of a program's handlers: of its runnings the good ones are kept, each callback keeps what the
-- handler comes to, and a handler goes on alike whatever it has said.
use Rattle.std.proofs.Common.{◌≡◌, ℕ, suc, ◌+◌, false, ℤ, List, [], ◌++◌, Some, None}
use Rattle.ax_text.specs.declared.vocabulary.Request.{Request}
use Rattle.ax_text.specs.declared.vocabulary.Answer.{Answer}
use Rattle.ax_text.specs.Functions.{upd}
use Rattle.ax_text.specs.Cells.{Cells, answer_of}
use Rattle.ax_text.specs.Programs.{Program}
use Rattle.ax_text.specs.Run.{World}
use Rattle.ax_text.specs.Controls.{left, request_at, is_done, slots}
use Rattle.ax_text.specs.Jobs.{Job}
use Rattle.ax_text.specs.Silent.{unanswered}
use Rattle.ax_machine.specs.KeySync.{Said, ran}
use Rattle.ax_execution.specs.Contexts.{Running}
use Rattle.ax_execution.specs.Rest.{rest_running, served_at}
use Rattle.ax_execution.specs.Turns.{timed, left_by, begins, answered, applied, gives}

-- the world in which a handler goes on, on these states
abbrev pub goes_in : Running → Cells → World
goes_in r cells = record { talk = record { names = r.names; lines = r.lines; ops = [] }; cells = cells; served = r.served }

-- as one that has said nothing
abbrev pub silenced : Running → Running
silenced r = record { control = r.control; names = r.names; answers = r.answers; lines = []; served = 0 }

-- with lines in front, and so many more requests served
abbrev pub further : List (List ℤ) → ℕ → World → World
further lines n w = record { talk = record { names = w.talk.names; lines = lines ++ w.talk.lines; ops = w.talk.ops }; cells = w.cells; served = n + w.served }

pub record Handles (p : Program) (Good : Running → Type 0) : Type 0 where
  pub begin_good : (j : Job) → Good (left_by (begins p j) unanswered [] 0)
  pub serve_good : (r : Running) (slot : ℕ) (q : Request) (a : Answer) → Good r → request_at r.control slot ≡ Some q → r.answers slot ≡ None → Good (answered r slot a)
  pub give_good : (j : Job) (r : Running) (slot : ℕ) (a : Answer) → Good r → r.answers slot ≡ Some a
      → Good (left_by (gives j r slot a) (upd r.answers slot None) r.lines r.served)
  pub begin_law : (j : Job) (s : Said) → rest_running j (left_by (begins p j) unanswered [] 0) (timed (begins p j) s) ≡ ran p j s.state s
  pub serve_law : (j : Job) (r : Running) (slot : ℕ) (q : Request) (s : Said) → Good r → request_at r.control slot ≡ Some q → r.answers slot ≡ None
      → rest_running j (answered r slot (answer_of q s.state.cells)) (applied q s) ≡ rest_running j r s
  pub give_law : (j : Job) (r : Running) (slot : ℕ) (a : Answer) (s : Said) → Good r → r.answers slot ≡ Some a
      → rest_running j (left_by (gives j r slot a) (upd r.answers slot None) r.lines r.served) (timed (gives j r slot a) s) ≡ rest_running j r s
  pub left_further : (j : Job) (r : Running) (cells : Cells)
      → left j.facts r.answers r.control (goes_in r cells) ≡ further r.lines r.served (left j.facts r.answers r.control (goes_in (silenced r) cells))
  -- a handler that isn't done waits for an answer, and each answer is counted once
  pub waits : (r : Running) → Good r → is_done r.control ≡ false → (slot : ℕ) × (q : Request) × (request_at r.control slot ≡ Some q)
  pub serve_counts : (r : Running) (slot : ℕ) (q : Request) (a : Answer) → Good r → request_at r.control slot ≡ Some q → r.answers slot ≡ None
      → served_at (upd r.answers slot (Some a)) (slots r.control) ≡ suc (served_at r.answers (slots r.control))
  pub give_counts : (j : Job) (r : Running) (slot : ℕ) (a : Answer) → Good r → r.answers slot ≡ Some a
      → suc (served_at (upd r.answers slot None) (slots (gives j r slot a).control)) ≡ served_at r.answers (slots r.control)
