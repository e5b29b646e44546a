use Rattle.std.proofs.Common.{◌≡◌, ◌∙◌, ℤ, List, map, FitsSigned, w64, rules, sym, ap, ap₂, subst}
use Rattle.std.proofs.Math.Facts.{to_z-of_z}
use Rattle.std.specs.List.{All}
use Rattle.ax_text.specs.declared.vocabulary.Kind.{Kind}
use Rattle.ax_text.specs.Programs.{State}
use Rattle.ax_state.specs.Decls.{shown_states}
use Rattle.ax_state.specs.KeyCells as cells
use Rattle.ax_time.proofs.KeptLemmas.{if_ok}
use Rattle.ax_machine.specs.Blocks.{Part, block_text}
use Rattle.ax_lang.specs.Shown.{shown_kinds}
use Rattle.ax_snapshot.specs.declared.snapshot.KeySnap.{KeySnap}
use Rattle.ax_snapshot.specs.Snaps.{shown_part}
use Rattle.ax_plain.proofs.BlockLemmas.{parts_snapped, fits_snapped}
use Rattle.ax_plain.proofs.plain.PlainThread.block.Goals as goal

pub write_snapshot-requires-clause-fits : goal.write_snapshot-requires-clause-fits
write_snapshot-requires-clause-fits c =
    let kinds = shown_kinds c.args.program.now in
    let t = c.args.self.now in
    let P : List KeySnap → List Kind → Type 0 = λ snaps ks. All (λ (k : KeySnap). cells.cell_kinds k.cells ≡ ks) snaps in
    subst (P c.in_ok-snap_keys.field-0) (sym c.decls.ensures.kinds) (subst (λ (snaps : List KeySnap). P snaps kinds) (sym c.in_ok-snap_keys.ensures.snaps)
    (fits_snapped kinds t.states t.timers c.requires.fits t.states.entries c.in_ok-snap_keys.ensures.found))

pub returns : goal.returns
returns c =
    let kinds = shown_kinds c.args.program.now in
    let t = c.args.self.now in
    let parts = ap (map shown_part) c.in_ok-snap_keys.ensures.snaps ∙ parts_snapped kinds t.states t.timers t.states.entries c.in_ok-snap_keys.ensures.found in
    let id : FitsSigned w64 c.args.id.now = search rules in
    let wm : FitsSigned w64 t.wm = search rules in
    let marks = ap₂ (λ (i w : ℤ). block_text c.args.groups (shown_states c.decls.result.now) i w (map shown_part c.in_ok-snap_keys.field-0)) (to_z-of_z id) (to_z-of_z wm) in
    if_ok c.write_snapshot.result (λ bytes is. is ∙ marks ∙ ap₂ (λ (ss : List State) (ps : List Part). block_text c.args.groups ss c.args.id.now t.wm ps) c.decls.ensures.states parts) c.write_snapshot.ensures
