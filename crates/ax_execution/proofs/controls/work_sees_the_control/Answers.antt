use Rattle.std.proofs.Common.{ℕ, ◌+◌, length, sym, ap}
use Rattle.ax_execution.specs.KeyControls.{control_of}
use Rattle.ax_execution.specs.Rest.{part_work}
use Rattle.ax_execution.specs.MachineControls.{control_work}
use Rattle.ax_execution.proofs.Handlers.{Good, handles}
use Rattle.ax_execution.proofs.KeySums.{total_same}
use Rattle.ax_execution.proofs.Measure.{silent_work}
use Rattle.ax_execution.proofs.ControlSums.{busy_work}
use Rattle.ax_execution.proofs.controls.work_sees_the_control.Goals as goal

pub returns-clause-control : goal.returns-clause-control
returns-clause-control c p m accepted = ap (λ (n : ℕ). n + length m.unsent)
    (total_same (λ k. part_work p (m.parts k)) (λ k. control_work p (control_of (m.parts k)) (m.parts k).said.state.cells) m.keys (λ k. sym (silent_work p Good (handles p accepted) (m.parts k))))

pub returns-clause-busy : goal.returns-clause-busy
returns-clause-busy c p cells m ks a b = busy_work p cells m ks a b
