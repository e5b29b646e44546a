use Rattle.std.proofs.Common.{◌≡◌, ◌++◌}
use Rattle.ax_core.specs.Events.{names_in, names_of}
use Rattle.ax_core_tests.specs.Hands.{AreFor}
use Rattle.ax_core_tests.proofs.states.serve.Given as goal

abbrev pub invariant-loop-item : goal.invariant-loop-item
invariant-loop-item l = record {
  states : AreFor l.program l.states;
  names : names_of l.replies ++ names_in l.item-iterator.rest.items ≡ names_of l.fn.replies ++ names_in l.fn.batch;
}
