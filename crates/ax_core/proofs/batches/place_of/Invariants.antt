use Rattle.std.proofs.Common.{ℕ, ◌<◌, ◌≢◌, slice_index_or}
use Rattle.ax_core.proofs.batches.place_of.Given as goal

abbrev pub invariant-loop-place : goal.invariant-loop-place
invariant-loop-place l = (k : ℕ) → k < l.place → slice_index_or l.out k l.name ≢ l.name
