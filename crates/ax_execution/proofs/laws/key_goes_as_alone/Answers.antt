use Rattle.std.proofs.Common.{ap, sym, ◌∙◌}
use Rattle.ax_machine.specs.KeySync.{Said}
use Rattle.ax_execution.proofs.Projected.{projected_from}
use Rattle.ax_execution.proofs.Alone.{written_then_owed, work_keeps, work_keeps_lines}
use Rattle.ax_execution.proofs.Handlers.{Good, handles}
use Rattle.ax_execution.specs.Machine.{taken}
use Rattle.ax_execution.specs.Runs.{end_of}
use Rattle.ax_execution.proofs.WholeRuns.{run_alone}
use Rattle.ax_execution.proofs.laws.key_goes_as_alone.Goals as goal

pub returns-clause-settles : goal.returns-clause-settles
returns-clause-settles c run k = (run_alone run).settles k

pub returns-clause-lines : goal.returns-clause-lines
returns-clause-lines c run k = written_then_owed run.groups run.program Good (handles run.program run.accepted) run.from run.origin (end_of run) (taken run.events) (run_alone run) k

pub returns-clause-kept : goal.returns-clause-kept
returns-clause-kept c run e k i h = work_keeps run.groups run.program Good (handles run.program run.accepted) run.from run.origin run.rules e (end_of run) (taken run.events) (run_alone run) i h k

pub returns-clause-state : goal.returns-clause-state
returns-clause-state c run k = ap (λ (s : Said). s.state) ((run_alone run).settles k) ∙ sym (projected_from run.groups run.program run.from run.origin k (taken run.events)).state

pub returns-clause-kept_lines : goal.returns-clause-kept_lines
returns-clause-kept_lines c run e k i h = work_keeps_lines run.groups run.program Good (handles run.program run.accepted) run.from run.origin run.rules e (end_of run) (taken run.events) (run_alone run) i h k
