use Rattle.std.proofs.Common.{◌≡◌, ◌∙◌, ap, sym, subst, List, false}
use Rattle.std.specs.List.{All, filter}
use Rattle.std.proofs.lemmas.Result.{IfOk-weaker}
use Rattle.ax_store.specs.declared.change.Change.{Change}
use Rattle.ax_store.specs.Held.{Text}
use Rattle.ax_store.specs.Entries.{IsRising, is_before, part, texts}
use Rattle.ax_store.proofs.KeyLemmas.{Key, kept, from_kept, part_kept, rising_kept, rising-texts}
use Rattle.ax_store.proofs.PrefixLemmas.{rising-part}
use Rattle.ax_store.proofs.memtable.Memtable.part.Goals as goal

pub copy_first-requires-clause-rising : goal.copy_first-requires-clause-rising
copy_first-requires-clause-rising c =
    let is : c.range-rest.result ≡ filter (kept c.in-Ok.from.items) c.self.inside.entries.entries = c.range-rest.ensures.between tt in
    subst (λ (l : List (Key × Change)). IsRising (texts l)) (sym is) (rising_kept c.in-Ok.from.items c.self.inside.entries.entries (rising-texts c.self.inside.entries.entries c.range-rest.ensures.ordered))

pub copy_first-requires-clause-from : goal.copy_first-requires-clause-from
copy_first-requires-clause-from c =
    let is : c.range-rest.result ≡ filter (kept c.in-Ok.from.items) c.self.inside.entries.entries = c.range-rest.ensures.between tt in
    subst (λ (p : Text). All (λ e. is_before p e ≡ false) (texts c.range-rest.result)) c.in-Ok.ensures.items
    (subst (λ (l : List (Key × Change)). All (λ e. is_before c.in-Ok.from.items e ≡ false) (texts l)) (sym is) (from_kept c.in-Ok.from.items c.self.inside.entries.entries))

pub returns-clause-part : goal.returns-clause-part
returns-clause-part c =
    let is : c.range-rest.result ≡ filter (kept c.in-Ok.from.items) c.self.inside.entries.entries = c.range-rest.ensures.between tt in
    let whole = ap (λ (l : List (Key × Change)). part c.args.prefix.now (texts l)) is
    ∙ subst (λ (p : Text). part p (texts (filter (kept c.in-Ok.from.items) c.self.inside.entries.entries)) ≡ part p (texts c.self.inside.entries.entries)) c.in-Ok.ensures.items (part_kept c.in-Ok.from.items c.self.inside.entries.entries)
    ∙ ap (part c.args.prefix.now) c.self.view_is in
    IfOk-weaker c.copy_first.result _ _ (λ v h. h ∙ whole) c.copy_first.ensures

pub returns-clause-rising : goal.returns-clause-rising
returns-clause-rising c =
    let is : c.range-rest.result ≡ filter (kept c.in-Ok.from.items) c.self.inside.entries.entries = c.range-rest.ensures.between tt in
    let up = subst (λ (l : List (Key × Change)). IsRising (texts l)) (sym is) (rising_kept c.in-Ok.from.items c.self.inside.entries.entries (rising-texts c.self.inside.entries.entries c.range-rest.ensures.ordered)) in
    IfOk-weaker c.copy_first.result _ _ (λ v h. subst IsRising (sym h) (rising-part c.args.prefix.now (texts c.range-rest.result) up)) c.copy_first.ensures
