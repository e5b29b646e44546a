use Rattle.ax_machine.proofs.StepLemmas.{lawful_for_more}
use Rattle.ax_machine.proofs.lawful.further_events_change_nothing.Goals as goal

pub returns : goal.returns
returns c = lawful_for_more
