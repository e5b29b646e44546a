use Rattle.std.proofs.Common.{true}
use Rattle.ax_words.specs.Options.{options_of, texts}
use Rattle.ax_task.proofs.Stopped.{stop_start}
use Rattle.ax_cli.specs.Status.{groups_by}
use Rattle.ax_cli.proofs.run.run_words.Goals as goal

pub returns-in-Err-NoMemory-clause-stopped : goal.returns-in-Err-NoMemory-clause-stopped
returns-in-Err-NoMemory-clause-stopped g c =
    stop_start (groups_by (options_of (texts c.args.words.now))) true (g.S.Source.left c.args.input.now) (g.K.Sink.holds c.args.out.now)
