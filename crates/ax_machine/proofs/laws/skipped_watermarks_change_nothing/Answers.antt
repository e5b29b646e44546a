use Rattle.ax_machine.proofs.SkipLemmas.{sync_skips}
use Rattle.ax_machine.proofs.laws.skipped_watermarks_change_nothing.Goals as goal

pub returns : goal.returns
returns c = sync_skips
