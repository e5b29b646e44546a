use Rattle.std.proofs.Common.{rules, ◌≡◌, Option, Some, OnOk, sym, subst}
use Rattle.ax_future.specs.declared.machine.Machine.{Machine}
use Rattle.ax_core.specs.Callbacks.{with_machine, ResumedAt}
use Rattle.ax_core.proofs.BegunLemmas.{resumed_so}
use Rattle.ax_core.proofs.callbacks.resume.Goals as goal

pub returns : goal.returns
returns c =
    let was : c.args.record.now.machine ≡ Some c.in-Some.machine = search rules in
    subst (λ (o : Option Machine). OnOk c.resume_into.result (ResumedAt c.args.program.now c.args.record.now (with_machine c.args.record.now c.resume_into.new.self) o c.args.slot c.args.answer c.resume_into.new.turn)) (sym was)
    (resumed_so c.args.program.now c.args.record.now c.in-Some.machine c.resume_into.new.self c.args.slot c.args.answer c.resume_into.new.turn c.resume_into.result c.resume_into.ensures.turn c.resume_into.ensures.sound c.resume_into.ensures.asks c.resume_into.ensures.rise)
