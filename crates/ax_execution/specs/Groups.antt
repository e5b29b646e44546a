-- Jobs of rows, groups that have said nothing yet, and what groups weigh.
use Rattle.std.specs.Prelude.{ℕ, ◌+◌, ◌*◌, ℤ, List, [], ◌∷◌}
use Rattle.ax_text.specs.declared.vocabulary.Handler.{Handler}
use Rattle.ax_text.specs.declared.vocabulary.Handler.TheVariants as handler
use Rattle.ax_text.specs.Exprs.{Facts}
use Rattle.ax_text.specs.Jobs.{Job, Group}

abbrev pub row_facts : ℤ → ℤ → List ℤ → Facts
row_facts wm time values = record { time = time; wm = wm; values = values }

-- the job of a row with these facts
abbrev pub on_row : Facts → Job
on_row f = record { handler = handler.Row; facts = f }

-- a job that has said nothing yet
abbrev pub unsaid : Job → Group
unsaid j = record { job = j; lines = []; served = 0 }

-- two for each firing and for each request that was served
abbrev pub handler_weight : Handler → ℕ
handler_weight handler.Row = 0
handler_weight handler.Timer = 2

abbrev pub weight : List Group → ℕ
weight [] = 0
weight (g ∷ gs) = handler_weight g.job.handler + 2 * g.served + weight gs
