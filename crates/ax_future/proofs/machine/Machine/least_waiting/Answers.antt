use Rattle.ax_text.specs.Programs.{program_width}
use Rattle.ax_lang.specs.Shown.{shown_program, shown_kinds}
use Rattle.ax_future.specs.Machines.{control_of}
use Rattle.ax_future.proofs.LeastLemmas.{sound_least}
use Rattle.ax_future.proofs.machine.Machine.least_waiting.Goals as goal

pub returns : goal.returns
returns c p h = sound_least (program_width (shown_program p)) (shown_kinds p) (control_of p c.args.self.now) c.least_of.result h (c.least_of.ensures p)
