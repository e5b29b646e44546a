use Rattle.ax_input.proofs.EntryLemmas.{out_spelled, mark_spelled}
use Rattle.ax_input.proofs.laws.entries_are_spelled.Goals as goal

pub returns : goal.returns
returns c = record { out = out_spelled; watermark = mark_spelled }
