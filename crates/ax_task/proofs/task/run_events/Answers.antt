use Rattle.ax_lang.specs.Shown.{shown_program}
use Rattle.ax_task.specs.Parse.{first_last}
use Rattle.ax_task.specs.Passes.{events_at}
use Rattle.ax_task.proofs.Progress.{stops_once}
use Rattle.ax_task.proofs.Running.{first_unused}
use Rattle.ax_task.proofs.task.run_events.Goals as goal

pub new-requires-2-clause-unused : goal.new-requires-2-clause-unused
new-requires-2-clause-unused g c =
    let core = c.in-Ok.ensures in
    first_unused _ _ _ core.sound core.settings core.program core.stands

pub returns-clause-told : goal.returns-clause-told
returns-clause-told g c = (c.run_steps.ensures.ended c.args.config.now.settings c.args.program _ (c.in-Ok-new.ensures.begins c.args.program _ c.in-Ok.ensures.program)).told

pub returns-clause-stopped : goal.returns-clause-stopped
returns-clause-stopped g c = (c.run_steps.ensures.ended c.args.config.now.settings c.args.program _ (c.in-Ok-new.ensures.begins c.args.program _ c.in-Ok.ensures.program)).stopped

pub returns-clause-counts : goal.returns-clause-counts
returns-clause-counts g c = (c.run_steps.ensures.ended c.args.config.now.settings c.args.program _ (c.in-Ok-new.ensures.begins c.args.program _ c.in-Ok.ensures.program)).counts

pub returns-in_default-clause-stopped : goal.returns-in_default-clause-stopped
returns-in_default-clause-stopped g c =
    let s = c.args.config.now.settings in
    let p = shown_program c.args.program in
    stops_once s.groups s.serial p (events_at p.fields first_last c.args.lines) c.args.lines.held (g.S.Source.left c.args.input.now) (g.K.Sink.holds c.args.out.now)

pub returns-in_default-new-clause-stopped : goal.returns-in_default-new-clause-stopped
returns-in_default-new-clause-stopped g c =
    let s = c.args.config.now.settings in
    let p = shown_program c.args.program in
    stops_once s.groups s.serial p (events_at p.fields first_last c.args.lines) c.args.lines.held (g.S.Source.left c.args.input.now) (g.K.Sink.holds c.args.out.now)
