use Rattle.ax_machine.proofs.RisingLemmas.{sync_rises}
use Rattle.ax_machine.proofs.laws.keys_and_times_rise.Goals as goal

pub returns-clause-keys : goal.returns-clause-keys
returns-clause-keys c m p events = (sync_rises m p events).keys

pub returns-clause-times : goal.returns-clause-times
returns-clause-times c m p events k = (sync_rises m p events).times k
