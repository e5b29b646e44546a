use Rattle.std.proofs.Common.{◌∙◌, ap}
use Rattle.ax_keys.specs.Groups.{index_of_group}
use Rattle.ax_task.proofs.Snapping.{snapped}
use Rattle.ax_task.proofs.engine.Engine.snap.Goals as goal

pub returns-clause-part : goal.returns-clause-part
returns-clause-part c =
    let e = c.args.self.now in
    snapped e c.requires c.timers.result.now c.timers.ensures c.args.key.now c.in_ok-copy.field-0 c.in_ok-cells_of.field-0 c.in_ok-times_of.field-0 c.index_of_group-shard.result c.in_ok-copy.ensures
    (c.index_of_group-shard.ensures.value ∙ ap (λ g. index_of_group g e.settings.groups e.settings.shards) c.group.ensures.value) c.in_ok-cells_of.ensures.content c.in_ok-times_of.ensures.times
