use Rattle.std.proofs.Common.{◌≡◌, ◌≤◌, ◌<◌, length, arith}
use Rattle.ax_context.specs.Slots.{at}
use Rattle.ax_core.proofs.AskLemmas.{some_left}
use Rattle.ax_core.proofs.GetLemmas.{some_and}
use Rattle.ax_core.proofs.controller.Controller.end_callback.Goals as goal
use Rattle.ax_core.proofs.controller.Controller.end_callback.Goals.{else-is_empty-via-then-is_empty+else-references-eq1, else-is_empty-via-else-is_empty}

pub wait_on-requires-clause-more : goal.wait_on-requires-clause-more
wait_on-requires-clause-more c =
    let least : 1 ≤ c.count-references.result = c.count-references.ensures.range.0 in
    elim c.else-is_empty.branch [
      | else-is_empty-via-then-is_empty+else-references-eq1 w ↦ some_and (at c.args.self.now.contexts c.args.id) (λ x e.
          let other = w.if-references-eq1.false in
          let same : c.count-references.result ≡ x.count = e in
          omega arith) c.count-references.ensures.value
      | else-is_empty-via-else-is_empty w ↦ some_and (at c.args.self.now.contexts c.args.id) (λ x e.
          let some : 0 < length c.args.turn.asks = some_left c.args.turn.asks c.is_empty.result c.is_empty.ensures w.if-is_empty.false in
          let same : c.count-references.result ≡ x.count = e in
          omega arith) c.count-references.ensures.value
    ]
