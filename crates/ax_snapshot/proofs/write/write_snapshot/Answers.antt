use Rattle.std.proofs.Common.{◌≡◌, ◌++◌, ap, ◌∙◌, subst, List, map}
use Rattle.std.proofs.lemmas.Result.{IfOk-weaker}
use Rattle.ax_state.specs.Decls.{shown_states}
use Rattle.ax_state.specs.declared.decls.Decl.{Decl}
use Rattle.ax_machine.specs.Blocks.{placed, inner_lines, block_text}
use Rattle.ax_machine.specs.OutLines.{End, spelled}
use Rattle.ax_snapshot.specs.Snaps.{shown_part}
use Rattle.ax_snapshot.specs.Places.{shown_places}
use Rattle.ax_snapshot.specs.Added.{Adds}
use Rattle.ax_snapshot.proofs.SnapLemmas.{whole_block}
use Rattle.ax_snapshot.proofs.write.write_snapshot.Goals as goal

pub returns : goal.returns
returns c =
    let s = c.args.s.now in
    let states = shown_states c.args.decls.now in
    let head = c.in_ok-block.block in
    let all = c.put_keys.new.block in
    let places = c.in_ok-places.places in
    let With : List Decl → Type 0 = λ decls. Adds head all (inner_lines (shown_states decls) (shown_places places)) in
    IfOk-weaker c.end.result (λ bytes. bytes ≡ all.text ++ spelled (End s.id all.count)) (λ bytes. bytes ≡ block_text c.args.m states s.id s.wm (map shown_part s.keys))
    (λ bytes ended. whole_block c.args.m states s.id s.wm s.keys places.entries head all bytes
    (c.in_ok-places.ensures.order ∙ ap (λ keys. placed c.args.m (map shown_part keys)) c.as_slice.ensures)
    c.in_ok-block.ensures.text c.in_ok-block.ensures.count (subst With c.as_slice-2.ensures c.in_ok-put_keys.ensures) ended)
    c.end.ensures
