use Rattle.ax_input.proofs.EntryLemmas.{determined}
use Rattle.ax_input.proofs.laws.bytes_determine_entries.Goals as goal

pub returns : goal.returns
returns c = determined
