use Rattle.std.proofs.Common.{◌≡◌, List, Option, Some, subst, ◌⊎◌, inl, inr}
use Rattle.ax_execution.specs.Contexts.{Context, Waiting, rows_in}
use Rattle.ax_execution.specs.Machine.{Machine}
use Rattle.ax_execution.proofs.Orderly.{IsOrderly}
use Rattle.ax_execution.proofs.Handlers.{Good, handles}
use Rattle.ax_execution.proofs.Stuck.{FrontFires, IsOrdered, StageWakes, IsAwake}
use Rattle.ax_execution.proofs.Numbers.{always_apart}
use Rattle.ax_execution.proofs.Outside.{owner_referred}
use Rattle.ax_execution.proofs.Upto.{OwnerGood}
use Rattle.ax_execution.specs.Runs.{end_of}
use Rattle.ax_execution.proofs.WholeRuns.{run_good, run_orderly, run_rises}
use Rattle.ax_execution.proofs.laws.one_owner_and_limit.Goals as goal

pub returns-clause-limit : goal.returns-clause-limit
returns-clause-limit c run = (run_orderly run).limit

pub returns-clause-rows : goal.returns-clause-rows
unfolding IsOrdered
returns-clause-rows c run k none free = of (subst (λ (o : Option Context). IsOrdered m.must k o (m.parts k).waiting (m.parts k).said.state.times) free (order.sound.ordered k)).1
  where
    m : Machine
    m = end_of run

    order : IsOrderly run.rules m
    order = run_orderly run

    of : (rows_in (m.parts k).waiting ≡ 0) ⊎ (m.must ≡ Some k) → rows_in (m.parts k).waiting ≡ 0
    of (inl e) = e
    of (inr e) = absurd (none e)

pub returns-clause-room : goal.returns-clause-room
returns-clause-room c run k must = (run_orderly run).sound.room k must

pub returns-clause-awake : goal.returns-clause-awake
unfolding IsAwake StageWakes
returns-clause-awake c run k it running owner stage = subst StageWakes stage awake
  where
    m : Machine
    m = end_of run

    awake : StageWakes it.stage
    awake = subst IsAwake owner ((run_orderly run).sound.awake k)

pub returns-clause-numbers : goal.returns-clause-numbers
returns-clause-numbers c run n = always_apart run.groups run.program (handles run.program run.accepted) run.from run.origin run.rules run.events run.allowed n

pub returns-clause-idle : goal.returns-clause-idle
unfolding IsOrdered FrontFires
returns-clause-idle c run k e w more rest free front =
    subst (λ (is : List Waiting). FrontFires is (m.parts k).said.state.times) front
    (subst (λ (o : Option Context). IsOrdered m.must k o (m.parts k).waiting (m.parts k).said.state.times) free ((run_orderly run).sound.ordered k)).0
  where
    m : Machine
    m = end_of run

pub returns-clause-referred : goal.returns-clause-referred
returns-clause-referred c run k it owner = owner_referred run.program Good (handles run.program run.accepted) it
    (subst (OwnerGood Good) owner (run_good run k))
    (subst IsAwake owner ((run_orderly run).sound.awake k))

pub returns-clause-absent : goal.returns-clause-absent
returns-clause-absent c run k none =
    (((run_orderly run).absent k none).owner, ((run_orderly run).absent k none).waiting)

pub returns-clause-keys_rise : goal.returns-clause-keys_rise
returns-clause-keys_rise c run = run_rises run
