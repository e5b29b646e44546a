use Rattle.std.proofs.Common.{◌≡◌, ◌++◌, map}
use Rattle.std.specs.List.{All}
use Rattle.ax_machine.specs.Sync.{parts_of}
use Rattle.ax_state.specs.KeyCells.{cell_kinds}
use Rattle.ax_snapshot.specs.Snaps.{shown_part}
use Rattle.ax_task.specs.Snapped.{state_at}
use Rattle.ax_task.proofs.engine.Engine.snaps.Given as goal

abbrev pub invariant-loop-key : goal.invariant-loop-key
invariant-loop-key l = (map shown_part l.snaps ++ parts_of l.key-iterator (state_at l.self) ≡ parts_of l.keys.keys (state_at l.self)) × All (λ snap. cell_kinds snap.cells ≡ l.self.shards.kinds) l.snaps
