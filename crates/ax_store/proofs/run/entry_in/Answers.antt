use Rattle.std.proofs.Common.{rules, ◌≡◌, ◌∙◌, sym, ap, refl, Some, get_or, slice_get, length}
use Rattle.std.specs.declared.cmp.Ordering.TheVariants.{Equal}
use Rattle.ax_store.specs.declared.change.Change.{Change}
use Rattle.std.proofs.lemmas.Fn.{always_returns_same}
use Rattle.std.proofs.lemmas.Option.{slice_get_read}
use Rattle.ax_store.specs.Held.{Text, bytes_cmp}
use Rattle.ax_store.proofs.SearchLemmas.{found, not_found}
use Rattle.ax_store.proofs.run.entry_in.Goals as goal

pub returns-in-Ok : goal.returns-in-Ok
returns-in-Ok c =
    let equal = c.in-Ok.ensures.position (λ e. bytes_cmp e.0 c.args.key.now) (always_returns_same _ _ _ (λ a r g called. (search rules, search rules))) in
    let e = c.index-entries-at.result in
    let read : e ≡ get_or c.args.entries.now c.in-Ok.at e = c.index-entries-at.is in
    let at : slice_get c.args.entries.now c.in-Ok.at ≡ Some e = slice_get_read c.args.entries.now (length c.args.entries.now) c.in-Ok.at e refl c.in-Ok.ensures.bound read in
    let same : bytes_cmp e.0 c.args.key.now ≡ Equal = ap (λ (x : Text × Change). bytes_cmp x.0 c.args.key.now) read ∙ equal e in
    ap (λ (x : Text × Change). Some x.1) (sym read) ∙ sym (found c.args.entries.now c.args.key.now c.in-Ok.at e c.requires at same)

pub returns-in-Err : goal.returns-in-Err
returns-in-Err c =
    let gap = c.in-Err.ensures.position (λ e. bytes_cmp e.0 c.args.key.now) (always_returns_same _ _ _ (λ a r g called. (search rules, search rules))) in
    sym (not_found c.args.entries.now c.args.key.now c.in-Err.field-0 c.requires gap)
