use Rattle.std.proofs.Common.{◌≡◌, sym, ◌∙◌, rules}
use Rattle.ax_execution.specs.MachineControls.{control_of_machine}
use Rattle.ax_task.proofs.engine.Engine.is_greater.Goals as goal

pub returns : goal.returns
returns c =
    let r = c.requires in
    let is : c.wm.result ≡ c.args.self.now.core.wm = c.wm.ensures (control_of_machine r.stands.refines.machine) r.stands.refines.stands ∙ sym r.stands.refines.stands.stands.wm in
    search (rules, is)
