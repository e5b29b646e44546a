use Rattle.std.proofs.Common.{subst, sym}
use Rattle.ax_base.specs.Outside.{Told}
use Rattle.ax_task.specs.Parse.{parse}
use Rattle.ax_task.specs.Clause.{RunEnds, Stops, EndCounts}
use Rattle.ax_task.specs.declared.end.End.{End}
use Rattle.ax_task.proofs.Progress.{holds}
use Rattle.ax_task.proofs.Whole.{whole_run, section_told, section_counts}
use Rattle.ax_task.proofs.Stopped.{stop_start, stop_section, stop_program, stop_events}
use Rattle.ax_task.proofs.task.run_task_alone.Goals as goal

pub returns-in-Ok-read_program-clause-told : goal.returns-in-Ok-read_program-clause-told
returns-in-Ok-read_program-clause-told g c =
    let s = c.args.config.now.settings in
    let left = g.S.Source.left in
    let held = g.K.Sink.holds in
    let section = c.in-Ok-gather.section in
    whole_run s.groups s.serial (holds (held c.args.out.now) (held c.run_events.new.out)) (left c.args.input.now) (left c.gather.new.input) (left c.run_events.new.input)
    c.in-Ok.lines c.gather.new.lines section.lines section.end c.in-Ok-read_program.program c.run_events.result
    c.in-Ok.ensures c.in-Ok-gather.ensures.told (rw c.as_slice.ensures at c.in-Ok-read_program.ensures) c.in-Ok-gather.ensures.behind c.run_events.ensures.told

pub returns-in-Ok-read_program-clause-stopped : goal.returns-in-Ok-read_program-clause-stopped
returns-in-Ok-read_program-clause-stopped g c =
    let s = c.args.config.now.settings in
    let left = g.S.Source.left in
    let held = g.K.Sink.holds in
    let section = c.in-Ok-gather.section in
    let run = c.run_events.ensures.stopped in
    stop_events s.groups s.serial (holds (held c.args.out.now) (held c.run_events.new.out)) (left c.args.input.now) (left c.gather.new.input) (left c.run_events.new.input)
    c.in-Ok.lines c.gather.new.lines section c.in-Ok-read_program.program run.0 c.run_events.result
    c.in-Ok.ensures c.in-Ok-gather.ensures.passes (rw c.as_slice.ensures at c.in-Ok-read_program.ensures) c.in-Ok-gather.ensures.behind run.1 run.2

pub returns-in_default-clause-stopped : goal.returns-in_default-clause-stopped
returns-in_default-clause-stopped g c =
    let s = c.args.config.now.settings in
    stop_start s.groups s.serial (g.S.Source.left c.args.input.now) (g.K.Sink.holds c.args.out.now)

pub returns-in-Err-clause-told : goal.returns-in-Err-clause-told
returns-in-Err-clause-told g c =
    let s = c.args.config.now.settings in
    let left = g.S.Source.left in
    let h = g.K.Sink.holds c.args.out.now in
    let Ends : End → Type 0 = λ e. Told (left c.args.input.now) (left c.gather.new.input) (λ a b. RunEnds s.groups s.serial (holds h h) (parse a) b e) in
    subst Ends (sym c.end_in_section.ensures)
    (section_told s.groups s.serial h (left c.args.input.now) (left c.gather.new.input) c.in-Ok.lines c.gather.new.lines c.in-Err.fault c.in-Ok.ensures c.in-Err.ensures.told)

pub returns-in-Err-clause-stopped : goal.returns-in-Err-clause-stopped
returns-in-Err-clause-stopped g c =
    let s = c.args.config.now.settings in
    let left = g.S.Source.left in
    let h = g.K.Sink.holds c.args.out.now in
    let Stopped : End → Type 0 = λ e. Told (left c.args.input.now) (left c.gather.new.input) (λ a b. Stops s.groups s.serial (holds h h) a b e) in
    subst Stopped (sym c.end_in_section.ensures)
    (stop_section s.groups s.serial h (left c.args.input.now) (left c.gather.new.input) c.in-Ok.lines c.gather.new.lines c.in-Err.fault c.in-Ok.ensures c.in-Err.ensures.passes)

pub returns-in-Err-clause-counts : goal.returns-in-Err-clause-counts
returns-in-Err-clause-counts g c =
    let writes = g.K.Sink.counts c.args.out.now in
    let reads = g.S.Source.faults in
    let Counted : End → Type 0 = EndCounts (record { reads = reads c.args.input.now; writes = writes }) (record { reads = reads c.gather.new.input; writes = writes }) in
    subst Counted (sym c.end_in_section.ensures) (section_counts (reads c.args.input.now) (reads c.gather.new.input) writes c.in-Err.fault c.in-Err.ensures.count)

pub returns-clause-stopped : goal.returns-clause-stopped
returns-clause-stopped g c =
    let s = c.args.config.now.settings in
    let left = g.S.Source.left in
    stop_program s.groups s.serial (g.K.Sink.holds c.args.out.now) (left c.args.input.now) (left c.gather.new.input) c.in-Ok.lines c.gather.new.lines c.in-Ok-gather.section c.in-Ok.ensures c.in-Ok-gather.ensures.passes
