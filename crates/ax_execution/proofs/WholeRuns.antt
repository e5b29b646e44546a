-- What holds behind each whole run.
use Rattle.std.specs.List.Sorted.{IsStrictlySortedBy}
use Rattle.ax_keys.specs.Keys.{key_cmp}
use Rattle.ax_machine.specs.Entries.{Key}
use Rattle.ax_execution.specs.Machine.{taken}
use Rattle.ax_execution.specs.Runs.{AcceptedRun, end_of}
use Rattle.ax_execution.proofs.Alone.{Alone, goes_as_alone}
use Rattle.ax_execution.proofs.Handlers.{Good, handles}
use Rattle.ax_execution.proofs.Upto.{OwnerGood}
use Rattle.ax_execution.proofs.Epochs.{IsPunctual, always_punctual}
use Rattle.ax_execution.proofs.Orderly.{IsOrderly, always_orderly, keys_rise}

pub run_alone : (run : AcceptedRun) → Alone run.groups run.program Good (handles run.program run.accepted) run.from run.origin (end_of run) (taken run.events)
run_alone run = goes_as_alone run.groups run.program Good (handles run.program run.accepted) run.from run.origin run.rules run.events run.allowed

pub run_good : (run : AcceptedRun) (k : Key) → OwnerGood Good ((end_of run).parts k).owner
run_good run = (run_alone run).good

pub run_orderly : (run : AcceptedRun) → IsOrderly run.rules (end_of run)
run_orderly run = always_orderly run.groups run.program Good (handles run.program run.accepted) run.from run.origin run.rules run.events run.allowed

pub run_rises : (run : AcceptedRun) → IsStrictlySortedBy key_cmp (end_of run).keys
run_rises run = keys_rise run.groups run.program Good (handles run.program run.accepted) run.from run.origin (end_of run) (taken run.events) (run_alone run)

pub run_punctual : (run : AcceptedRun) → IsPunctual (end_of run)
run_punctual run = always_punctual run.groups run.program Good (handles run.program run.accepted) run.from run.origin run.rules run.events run.allowed
