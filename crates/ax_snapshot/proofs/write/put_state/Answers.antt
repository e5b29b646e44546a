use Rattle.std.proofs.Common.{◌≡◌, ap, ◌∙◌, subst, List, true, OnOk}
use Rattle.ax_text.specs.declared.vocabulary.Kind.{Kind}
use Rattle.ax_state.specs.Fits.{has_kind}
use Rattle.ax_state.specs.KeyCells.{cell_kinds}
use Rattle.ax_machine.specs.OutLines.{OutLine}
use Rattle.ax_snapshot.specs.Added.{Adds}
use Rattle.ax_snapshot.specs.Snaps.{pair_lines}
use Rattle.ax_snapshot.proofs.StateLemmas.{lines_of_map}
use Rattle.ax_snapshot.proofs.write.put_state.Goals as goal

pub returns-in_ok-pairs-in-Map : goal.returns-in_ok-pairs-in-Map
returns-in_ok-pairs-in-Map c =
    let key = c.args.key.now in
    let name = c.args.decl.now.name in
    let cells = c.args.cells.now in
    let OfKind : Kind → Type 0 = λ k. has_kind (cell_kinds cells) c.args.state k ≡ true in
    let Put : List OutLine → Type 0 = λ ls. OnOk c.put_pairs.result (Adds c.args.block.now c.put_pairs.new.block ls) in
    subst Put
    (ap (pair_lines key name) (c.as_slice.ensures ∙ c.in_ok-pairs-in-Map.ensures.entries) ∙ lines_of_map key name cells c.args.state (subst OfKind c.in-Map.is c.requires))
    c.put_pairs.ensures
