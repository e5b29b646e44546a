use Rattle.std.proofs.Common.{refl}
use Rattle.ax_execution.proofs.control_rows.watermarks_are_skipped.Goals as goal

pub returns : goal.returns
returns c = refl
