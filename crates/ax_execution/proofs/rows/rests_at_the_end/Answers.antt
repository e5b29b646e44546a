use Rattle.std.proofs.Common.{◌≡◌, ℕ, ◌++◌, arith, refl}
use Rattle.ax_text.specs.Exprs.{apply_op}
use Rattle.ax_text.specs.Prints.{is_accepted}
use Rattle.ax_text.specs.Controls.{begin, give, least_free}
use Rattle.ax_machine.specs.Examples.{counting}
use Rattle.ax_machine.specs.Firings.{most_firings}
use Rattle.ax_execution.specs.Accepted.{AreAccepted}
use Rattle.ax_execution.specs.Origins.{first}
use Rattle.ax_execution.specs.Machine.{machine_from, in_flight}
use Rattle.ax_execution.specs.Allowed.{IsRun}
use Rattle.ax_execution.specs.Rows.{serially, behind, by_turns, turns_end}
use Rattle.ax_execution.proofs.Projected.{first_fits}
use Rattle.ax_execution.proofs.RunTests.{is_run}
use Rattle.ax_execution.proofs.Handlers.{Good, handles}
use Rattle.ax_execution.proofs.Epochs.{always_punctual}
use Rattle.ax_execution.proofs.Orderly.{always_orderly}
use Rattle.ax_execution.proofs.Outside.{is_at_rest, rest_none}
use Rattle.ax_execution.proofs.rows.rests_at_the_end.Goals as goal

accepted : AreAccepted counting
unfolding is_accepted
accepted = record { row = refl; timer = refl }

run : IsRun (serially 2) 128 counting (by_turns ++ turns_end) (machine_from (first counting))
unfolding apply_op most_firings begin give least_free
run = is_run 128 counting Good (handles counting accepted) (first counting) (first_fits counting) (serially 2) (by_turns ++ turns_end) refl

pub returns-clause-rest : goal.returns-clause-rest
unfolding apply_op most_firings begin give least_free
returns-clause-rest c = is_at_rest (serially 2) (behind counting (by_turns ++ turns_end))
    (always_orderly 128 counting Good (handles counting accepted) (first counting) (first_fits counting) (serially 2) (by_turns ++ turns_end) run)
    (always_punctual 128 counting Good (handles counting accepted) (first counting) (first_fits counting) (serially 2) (by_turns ++ turns_end) run)
    128 counting refl refl

not_both : (n : ℕ) → n ≡ 0 → n ≡ 2 → ⊥
not_both n a b = absurd (omega (arith, a, b))

two : in_flight (behind counting by_turns) ≡ 2
unfolding apply_op most_firings begin give least_free
two = refl

pub returns-clause-midway : goal.returns-clause-midway
returns-clause-midway c h = not_both (in_flight (behind counting by_turns)) (rest_none (behind counting by_turns) h).0 two
