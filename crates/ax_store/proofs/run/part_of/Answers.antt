use Rattle.std.proofs.Common.{◌∙◌, ap}
use Rattle.std.proofs.lemmas.Result.{IfOk-weaker}
use Rattle.ax_store.specs.Entries.{Layer, part, seen_all}
use Rattle.ax_store.proofs.PrefixLemmas.{part_from, rising_rest, rest_is}
use Rattle.ax_store.proofs.run.part_of.Goals as goal

pub copy_first-requires-clause-rising : goal.copy_first-requires-clause-rising
copy_first-requires-clause-rising c = rising_rest c.start_of-start.result c.args.entries.now c.requires c.start_of-start.ensures.bound

pub returns : goal.returns
returns c =
    let whole = ap (part c.args.prefix.now) (rest_is c.start_of-start.result c.args.entries.now)
    ∙ part_from c.args.prefix.now c.args.entries.now c.start_of-start.result c.start_of-start.ensures.bound c.start_of-start.ensures.point.0 in
    IfOk-weaker c.copy_first.result _ _ (λ v h. h ∙ ap (λ (l : Layer). seen_all c.args.values l) whole) c.copy_first.ensures
