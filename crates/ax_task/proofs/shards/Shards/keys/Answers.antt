use Rattle.std.proofs.Common.{◌≡◌, ◌∙◌, rules, sym, ap}
use Rattle.std.specs.List.{list_any}
use Rattle.std.specs.BTreeMap.{is_at}
use Rattle.ax_keys.specs.Keys.{key_cmp}
use Rattle.ax_task.specs.HeldKeys.{held_keys}
use Rattle.ax_task.proofs.Snapping.{all_listed, untouched_as}
use Rattle.ax_task.proofs.shards.Shards.keys.Goals as goal

pub returns-clause-others : goal.returns-clause-others
returns-clause-others c = λ s q h.
    let listed : c.loop-shard.keys ≡ held_keys c.args.self.now.shards =
    all_listed c.loop-shard.keys c.deref-shard-items.result.now c.args.self.now.shards c.loop-shard.shard-index (search rules) c.loop-shard.invariant in
    untouched_as q _ c.args.self.now c.self.view_is c.self.invariant.0 s (ap (list_any (is_at (key_cmp q))) (sym listed) ∙ h)
