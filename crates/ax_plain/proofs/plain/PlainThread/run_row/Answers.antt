use Rattle.std.proofs.Common.{◌∙◌, ap}
use Rattle.ax_text.specs.declared.vocabulary.Handler.TheVariants as handler
use Rattle.ax_machine.specs.Sync.{knows, row_step, silent}
use Rattle.ax_lang.specs.Shown.{shown_program, shown_kinds}
use Rattle.ax_plain.specs.Plain.{shown_plain, run_at}
use Rattle.ax_plain.proofs.RunLemmas.{at_err}
use Rattle.ax_plain.proofs.ThreadLemmas.{row_is, wrote_all, wrote_some}
use Rattle.ax_plain.proofs.plain.PlainThread.run_row.Goals as goal

pub hold-requires-clause-absent : goal.hold-requires-clause-absent
hold-requires-clause-absent g c = (c.in_ok-run_held.ensures.absent c.if-branch.false).none

pub returns-in_err-run_held-2-clause-part : goal.returns-in_err-run_held-2-clause-part
returns-in_err-run_held-2-clause-part g c =
    let absent = c.in_ok-run_held.ensures.absent c.if-branch.false in
    let kinds = shown_kinds c.args.program.now in
    let step = row_is c.args.program.now c.run_facts-facts.result c.args.key.now c.args.time.now c.args.values.now
    (shown_plain kinds c.args.self.now) (shown_plain kinds c.hold.new.self) c.run_facts-facts.ensures
    (c.in-Ok.ensures.knows ∙ ap (knows c.args.key.now) absent.same) in
    at_err c.from_residual-in_err-run_held-2.result (wrote_some (g.K.Sink.holds c.args.out.now) (g.K.Sink.holds c.run_held.new.out) (g.K.Sink.holds c.run_held-2.new.out)
    (run_at c.args.program.now handler.Row c.run_facts-facts.result c.args.key.now (shown_plain kinds c.hold.new.self))
    (row_step (shown_program c.args.program.now) c.args.key.now c.args.time.now c.args.values.now (shown_plain kinds c.args.self.now)) absent.silent step c.in_err-run_held-2.ensures.part)

pub returns-clause-steps : goal.returns-clause-steps
returns-clause-steps g c =
    let absent = c.in_ok-run_held.ensures.absent c.if-branch.false in
    let kinds = shown_kinds c.args.program.now in
    let step = row_is c.args.program.now c.run_facts-facts.result c.args.key.now c.args.time.now c.args.values.now
    (shown_plain kinds c.args.self.now) (shown_plain kinds c.hold.new.self) c.run_facts-facts.ensures
    (c.in-Ok.ensures.knows ∙ ap (knows c.args.key.now) absent.same) in
    let ran = c.in_ok-run_held-2.ensures in
    ran.steps (ran.present c.in-Ok.ensures.held) ∙ ap silent step

pub returns-clause-lines : goal.returns-clause-lines
returns-clause-lines g c =
    let absent = c.in_ok-run_held.ensures.absent c.if-branch.false in
    let kinds = shown_kinds c.args.program.now in
    let step = row_is c.args.program.now c.run_facts-facts.result c.args.key.now c.args.time.now c.args.values.now
    (shown_plain kinds c.args.self.now) (shown_plain kinds c.hold.new.self) c.run_facts-facts.ensures
    (c.in-Ok.ensures.knows ∙ ap (knows c.args.key.now) absent.same) in
    let ran = c.in_ok-run_held-2.ensures in
    wrote_all (g.K.Sink.holds c.args.out.now) (g.K.Sink.holds c.run_held.new.out) (g.K.Sink.holds c.run_held-2.new.out)
    (run_at c.args.program.now handler.Row c.run_facts-facts.result c.args.key.now (shown_plain kinds c.hold.new.self))
    (row_step (shown_program c.args.program.now) c.args.key.now c.args.time.now c.args.values.now (shown_plain kinds c.args.self.now)) absent.silent step (ran.lines (ran.present c.in-Ok.ensures.held))
