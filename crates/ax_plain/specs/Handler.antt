-- The run of a handler, one turn after another.
use Rattle.std.specs.Prelude.{◌≡◌, ◌+◌, ◌++◌, ℕ, ℤ, Bool, true, false, List}
use Rattle.std.specs.Str.{bytes_eq}
use Rattle.ax_text.specs.declared.vocabulary.Handler.{Handler}
use Rattle.ax_text.specs.declared.vocabulary.TimerOp.{TimerOp}
use Rattle.ax_text.specs.Exprs.{Facts}
use Rattle.ax_text.specs.Cells.{Cells}
use Rattle.ax_text.specs.Jobs.{text_for}
use Rattle.ax_text.specs.Run.{Talk, World, run, begun}
use Rattle.ax_text.specs.Silent.{silent, at_once}
use Rattle.ax_time.specs.declared.timer.Timer.{Timer}
use Rattle.ax_time.specs.Timers.{times_of}
use Rattle.ax_machine.specs.Entries.{Key}
use Rattle.ax_lang.specs.Shown.{shown_program}
use Rattle.ax_lang.specs.declared.program.Program.{Program}
use Rattle.ax_future.specs.declared.callback.Turn.{Turn}
use Rattle.ax_future.specs.declared.machine.Machine.{Machine}
use Rattle.ax_future.specs.Machines.{control_of, names_of}
use Rattle.ax_plain.specs.declared.handler.RunFacts.{RunFacts}

abbrev pub shown_run_facts : RunFacts → Facts
shown_run_facts facts = record { time = facts.time; wm = facts.wm; values = facts.values.now }

-- a handler, run on these states
abbrev pub run_from : Program → Handler → RunFacts → Cells → World
run_from p handler facts cells = run (shown_run_facts facts) (text_for (shown_program p) handler) (begun cells)

-- these states, and nothing said or served yet
abbrev pub fresh : Talk → Cells → World
fresh talk cells = record { talk = talk; cells = cells; served = 0 }

-- a world before which these lines were written, these operations done and so many requests served
abbrev pub behind : List (List ℤ) → List TimerOp → ℕ → World → World
behind lines ops served w = record { talk = record { names = w.talk.names; lines = lines ++ w.talk.lines; ops = ops ++ w.talk.ops }; cells = w.cells; served = served + w.served }

-- what a machine comes to from these states, where each request is answered at once
abbrev pub comes_to : Facts → Program → Machine → Cells → World
comes_to f p m cells = at_once f (control_of p m) (fresh (silent (names_of m)) cells)

-- it was done, and nothing has changed; or one request was served, and what is left comes behind what the turn says
abbrev pub TakesTurn : Facts → Program → Machine → Machine → Cells → Cells → Turn → Bool → Type 0
TakesTurn f p m m' cells cells' turn false = comes_to f p m cells ≡ fresh (silent (names_of m)) cells'
TakesTurn f p m m' cells cells' turn true = comes_to f p m cells ≡ behind turn.outs turn.timer_ops 1 (comes_to f p m' cells')

-- each other key has the times that it had
abbrev pub LeavesOthers : Key → List Timer → List Timer → Type 0
LeavesOthers key old new = (q : Key) → bytes_eq key q ≡ false → times_of new q ≡ times_of old q
