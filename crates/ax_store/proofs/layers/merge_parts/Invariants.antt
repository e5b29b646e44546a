use Rattle.std.proofs.Common.{◌≡◌, cond, drop, None, option_map}
use Rattle.ax_store.specs.Held.{Text, begins}
use Rattle.ax_store.specs.Entries.{entry_at, or_below, seen}
use Rattle.ax_store.specs.Layers.{newest_of}
use Rattle.ax_store.proofs.layers.merge_parts.Given as goal

abbrev pub invariant-loop-run : goal.invariant-loop-run
invariant-loop-run l = (q : Text) → or_below (entry_at l.found q) (cond (begins l.prefix q) (option_map (seen l.values) (newest_of (drop l.run-index l.runs) q)) None)
    ≡ or_below (entry_at l.fn.newest q) (cond (begins l.prefix q) (option_map (seen l.values) (newest_of l.runs q)) None)
