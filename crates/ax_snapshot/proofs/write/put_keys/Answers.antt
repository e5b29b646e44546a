use Rattle.std.proofs.Common.{◌≡◌}
use Rattle.std.specs.BTreeMap.{values}
use Rattle.ax_state.specs.Decls.{kinds, shown_states}
use Rattle.ax_state.specs.KeyCells.{cell_kinds}
use Rattle.ax_snapshot.proofs.SnapLemmas.{snap_lines, keys_step, keys_end, rest_fits}
use Rattle.ax_snapshot.proofs.write.put_keys.Goals as goal

pub loop-snap-preserved : goal.loop-snap-preserved
loop-snap-preserved c = record {
  fits = rest_fits (λ s. cell_kinds s.now.cells ≡ kinds c.args.decls.now) c.loop-snap.snap-iterator c.next.new.self _ c.in-Some.ensures.steps c.loop-snap.invariant.fits;
  lines =
      keys_step (shown_states c.args.decls.now) c.args.block.now c.loop-snap.block c.put_key.new.block (snap_lines (shown_states c.args.decls.now) (values c.args.places.now))
      c.loop-snap.snap-iterator c.next.new.self _ c.in-Some.ensures.steps c.loop-snap.invariant.lines c.in_ok-put_key.ensures;
}

pub returns : goal.returns
returns c = keys_end (shown_states c.args.decls.now) c.args.block.now c.loop-snap.block c.args.places.now.entries c.loop-snap.snap-iterator c.in-None.ensures.steps.0 c.loop-snap.invariant.lines
