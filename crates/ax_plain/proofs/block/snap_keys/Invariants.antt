use Rattle.std.proofs.Common.{◌≡◌, ◌++◌, map}
use Rattle.ax_plain.specs.Snaps.{shown_snap}
use Rattle.ax_plain.proofs.block.snap_keys.Given as goal

abbrev pub invariant-loop-key : goal.invariant-loop-key
invariant-loop-key l = l.snaps ++ map (shown_snap l.timers) l.key-iterator ≡ map (shown_snap l.timers) l.states.entries
