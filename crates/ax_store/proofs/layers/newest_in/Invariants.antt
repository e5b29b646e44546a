use Rattle.std.proofs.Common.{◌≡◌, drop}
use Rattle.ax_store.specs.Layers.{newest_of}
use Rattle.ax_store.proofs.layers.newest_in.Given as goal

abbrev pub invariant-loop-run : goal.invariant-loop-run
invariant-loop-run l = newest_of (drop l.run-index l.runs) l.key ≡ newest_of l.runs l.key
