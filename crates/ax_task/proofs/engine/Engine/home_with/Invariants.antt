use Rattle.std.proofs.Common.{◌<◌, ℕ}
use Rattle.ax_task.specs.Exchanged.{IsHomeWith}
use Rattle.ax_task.proofs.engine.Engine.home_with.Given as goal

abbrev pub invariant-loop-shard : goal.invariant-loop-shard
invariant-loop-shard l = (s : ℕ) → s < l.shard → IsHomeWith l.self l.least s → ⊥
