use Rattle.std.proofs.Common.{◌≡◌}
use Rattle.std.specs.List.{AllByRecursion}
use Rattle.std.specs.BTreeMap.{values}
use Rattle.ax_state.specs.Decls.{kinds, shown_states}
use Rattle.ax_state.specs.KeyCells.{cell_kinds}
use Rattle.ax_snapshot.proofs.AddedLemmas.{GoesOn}
use Rattle.ax_snapshot.proofs.SnapLemmas.{snap_lines}
use Rattle.ax_snapshot.proofs.write.put_keys.Given as goal

abbrev pub invariant-loop-snap : goal.invariant-loop-snap
invariant-loop-snap l = record {
  fits : AllByRecursion (λ snap. cell_kinds snap.now.cells ≡ kinds l.decls) l.snap-iterator;
  lines : GoesOn l.fn.block l.block (snap_lines (shown_states l.decls) (values l.places)) (snap_lines (shown_states l.decls) l.snap-iterator);
}
