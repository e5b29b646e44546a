use Rattle.std.proofs.Common.{◌≡◌, length}
use Rattle.ax_state_tests.proofs.buffers.same_as_plain_list.Given as goal

abbrev pub invariant-loop-line : goal.invariant-loop-line
invariant-loop-line g l = record {
  next : (goal.iterator-loop-line g).can_next l.line-iterator;
  ends : (goal.iterator-loop-line g).is_finite l.line-iterator;
  shards : length l.buffer.queues ≡ 3;
}
