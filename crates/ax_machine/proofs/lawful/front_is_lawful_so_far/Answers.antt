use Rattle.ax_machine.proofs.FrontLemmas.{lawful_so_far_front}
use Rattle.ax_machine.proofs.lawful.front_is_lawful_so_far.Goals as goal

pub returns : goal.returns
returns c = lawful_so_far_front
