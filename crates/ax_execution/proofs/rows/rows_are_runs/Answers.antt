use Rattle.std.proofs.Common.{refl}
use Rattle.ax_text.specs.Exprs.{apply_op}
use Rattle.ax_text.specs.Prints.{is_accepted}
use Rattle.ax_text.specs.Controls.{begin, give, least_free}
use Rattle.ax_machine.specs.Examples.{counting, alarm}
use Rattle.ax_machine.specs.Firings.{most_firings}
use Rattle.ax_execution.specs.Accepted.{AreAccepted}
use Rattle.ax_execution.specs.Origins.{first}
use Rattle.ax_execution.specs.Rows.{serially, in_parallel, round_a_watermark, one_place}
use Rattle.ax_execution.proofs.Projected.{first_fits}
use Rattle.ax_execution.proofs.RunTests.{is_run}
use Rattle.ax_execution.proofs.Handlers.{Good, handles}
use Rattle.ax_execution.proofs.rows.rows_are_runs.Goals as goal

counting_accepted : AreAccepted counting
unfolding is_accepted
counting_accepted = record { row = refl; timer = refl }

alarm_accepted : AreAccepted alarm
unfolding is_accepted
alarm_accepted = record { row = refl; timer = refl }

pub returns-clause-serial : goal.returns-clause-serial
unfolding apply_op most_firings begin give least_free
returns-clause-serial c = is_run 128 counting Good (handles counting counting_accepted) (first counting) (first_fits counting) (serially 1) round_a_watermark refl

pub returns-clause-parallel : goal.returns-clause-parallel
unfolding apply_op most_firings begin give least_free
returns-clause-parallel c = is_run 128 alarm Good (handles alarm alarm_accepted) (first alarm) (first_fits alarm) (in_parallel 1) one_place refl

pub returns-clause-counting : goal.returns-clause-counting
returns-clause-counting c = counting_accepted

pub returns-clause-alarm : goal.returns-clause-alarm
returns-clause-alarm c = alarm_accepted

pub returns-clause-reminder : goal.returns-clause-reminder
unfolding is_accepted
returns-clause-reminder c = record { row = refl; timer = refl }
