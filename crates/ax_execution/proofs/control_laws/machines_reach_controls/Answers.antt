use Rattle.ax_execution.proofs.ReachedLemmas.{machine_reached}
use Rattle.ax_execution.proofs.control_laws.machines_reach_controls.Goals as goal

pub returns : goal.returns
returns c r g p from es fits run = machine_reached r g p from es fits run
