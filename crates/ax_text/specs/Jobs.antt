-- Jobs: the runs of handlers, and what they say.
use Rattle.std.specs.Prelude.{ℕ, ℤ, List, [], ◌∷◌, ◌++◌}
use Rattle.ax_text.specs.declared.vocabulary.Handler.{Handler}
use Rattle.ax_text.specs.declared.vocabulary.Handler.TheVariants as handler
use Rattle.ax_text.specs.Exprs.{Facts}
use Rattle.ax_text.specs.Cells.{Cells}
use Rattle.ax_text.specs.Texts.{Text}
use Rattle.ax_text.specs.Programs.{Program, text_or_stop}
use Rattle.ax_text.specs.Run.{World, run, begun}

-- a handler and what it knows: a row that came, or the time of a timer and the watermark that fires it
pub record Job : Type 0 where
  pub handler : Handler
  pub facts : Facts

-- the job of a row, where the greatest watermark so far is `wm`
abbrev pub row_job : ℤ → ℤ → List ℤ → Job
row_job wm time values = record { handler = handler.Row; facts = record { time = time; wm = wm; values = values } }

-- the job of a timer that fires at the watermark `wm`
abbrev pub firing_job : ℤ → ℤ → Job
firing_job wm time = record { handler = handler.Timer; facts = record { time = time; wm = wm; values = [] } }

-- what a handler says; where there is no `on timer`, a firing does nothing
abbrev pub text_for : Program → Handler → Text
text_for p handler.Row = p.row
text_for p handler.Timer = text_or_stop p.timer

-- the run of a job on the states of its key
abbrev pub job_run : Program → Job → Cells → World
job_run p j cells = run j.facts (text_for p j.handler) (begun cells)

-- a job with its lines, and how many of its requests were served
pub record Group : Type 0 where
  pub job : Job
  pub lines : List (List ℤ)
  pub served : ℕ

abbrev pub group_of : Job → World → Group
group_of j w = record { job = j; lines = w.talk.lines; served = w.served }

-- the lines of groups, one group after another
abbrev pub lines_in : List Group → List (List ℤ)
lines_in [] = []
lines_in (g ∷ gs) = g.lines ++ lines_in gs
