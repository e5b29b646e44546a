use Rattle.std.proofs.Common.{[], ◌∷◌, ◌++◌, refl, subst}
use Rattle.ax_execution.specs.Machine.{taken}
use Rattle.ax_execution.proofs.Alone.{event_alone}
use Rattle.ax_execution.proofs.GivenUp.{asked_length, references_change, stage_good}
use Rattle.ax_text.proofs.Slots.{split_differ}
use Rattle.ax_execution.proofs.References.{none_referred, none_numbered, gone_unreferred, unreferred_gone}
use Rattle.ax_execution.proofs.Handlers.{Good, handles}
use Rattle.ax_execution.proofs.Numbers.{always_apart}
use Rattle.ax_execution.proofs.Orderly.{IsOrderly, event_orderly, keys_rise}
use Rattle.ax_execution.proofs.Upto.{OwnerGood}
use Rattle.ax_execution.specs.Runs.{end_of, end_with}
use Rattle.ax_execution.proofs.WholeRuns.{run_alone, run_good, run_orderly, run_rises}
use Rattle.ax_execution.proofs.laws.references_are_counted.Goals as goal

pub returns-clause-unbegun : goal.returns-clause-unbegun
returns-clause-unbegun c = refl

pub returns-clause-waiting : goal.returns-clause-waiting
returns-clause-waiting c running = asked_length running.control

pub returns-clause-slots : goal.returns-clause-slots
returns-clause-slots c run k it running owner stage =
    split_differ running.control (stage_good it running (subst (OwnerGood Good) owner (run_good run k)) stage).split

pub returns-clause-answers : goal.returns-clause-answers
returns-clause-answers c run k it running slot owner stage free =
    (stage_good it running (subst (OwnerGood Good) owner (run_good run k)) stage).blank slot free

pub returns-clause-changes : goal.returns-clause-changes
returns-clause-changes c run e n h = references_change run.rules (end_of run) (run_orderly run) (run_rises run) (run_good run) run.groups run.program n e h

pub returns-clause-live : goal.returns-clause-live
returns-clause-live c run n = (
  none_referred n (end_of run),
  none_numbered run.rules (end_of run) (run_orderly run) (run_rises run) (run_good run) run.groups run.program (handles run.program run.accepted) n,
)

pub returns-clause-gone : goal.returns-clause-gone
returns-clause-gone c run e n h calls gone = gone_unreferred run.rules (end_of run) (run_orderly run) (run_rises run) (run_good run) run.groups run.program (handles run.program run.accepted) n e h (always_apart run.groups run.program (handles run.program run.accepted) run.from run.origin run.rules run.events run.allowed n) calls gone

pub returns-clause-last : goal.returns-clause-last
returns-clause-last c run e n h calls none =
    let b = event_alone run.groups run.program Good (handles run.program run.accepted) run.from run.origin run.rules e (end_of run) (taken run.events) (run_alone run) h in
    let rises = keys_rise run.groups run.program Good (handles run.program run.accepted) run.from run.origin (end_with run e) (taken run.events ++ taken (e ∷ [])) b in
    let o : IsOrderly run.rules (end_with run e) = event_orderly run.rules (end_of run) (run_orderly run) (run_rises run) run.groups run.program e h in
    unreferred_gone run.rules (end_of run) (run_orderly run) (run_rises run) (run_good run) run.groups run.program (handles run.program run.accepted) n e h calls
    (none_numbered run.rules (end_with run e) o rises b.good run.groups run.program (handles run.program run.accepted) n none)
