use Rattle.ax_input.proofs.PlainLemmas.{bytes_tell}
use Rattle.ax_input.proofs.runs.bytes_of_runs_determine_entries.Goals as goal

pub returns : goal.returns
returns c = bytes_tell
