use Rattle.ax_text.specs.Programs.{program_width}
use Rattle.ax_lang.specs.Shown.{shown_program, shown_kinds}
use Rattle.ax_lang.proofs.ProgramLemmas.{few_wide}
use Rattle.ax_future.specs.Machines.{control_of}
use Rattle.ax_future.proofs.MachineLemmas.{sound_slots}
use Rattle.ax_future.proofs.laws.machines_wait_within_the_width.Goals as goal

pub returns-clause-slots : goal.returns-clause-slots
returns-clause-slots c p m h = sound_slots (program_width (shown_program p)) (shown_kinds p) (control_of p m) h

pub returns-clause-few : goal.returns-clause-few
returns-clause-few c = few_wide
