use Rattle.std.proofs.Common.{◌≡◌, pos, [], ◌∷◌, Bool, true, false, ◌||◌, cond, int_cmp, refl}
use Rattle.std.specs.Str.{bytes_eq}
use Rattle.std.specs.List.Sorted.{IsStrictlySortedBy}
use Rattle.ax_text.specs.KeyStates.{KeyState, fresh}
use Rattle.ax_text.specs.Programs.{kinds_of}
use Rattle.ax_execution.specs.Rows.{a, b, reminder, with_number}
use Rattle.std.specs.Fmt.{digits}
use Rattle.ax_text.specs.Exprs.{apply_op}
use Rattle.ax_text.specs.Controls.{begin, give, least_free}
use Rattle.ax_machine.specs.Firings.{most_firings}
use Rattle.ax_execution.proofs.rows.goes_on_from_a_snapshot.Goals as goal

pub returns-clause-runs : goal.returns-clause-runs
unfolding digits apply_op most_firings begin give least_free
returns-clause-runs c = refl

pub returns-clause-writes : goal.returns-clause-writes
unfolding digits apply_op most_firings begin give least_free
returns-clause-writes c = refl

pub returns-clause-plain : goal.returns-clause-plain
unfolding digits apply_op most_firings begin give least_free
returns-clause-plain c = refl

pub returns-clause-origin : goal.returns-clause-origin
unfolding IsStrictlySortedBy
returns-clause-origin c = record {
  keys = ((refl, tt), (tt, tt));
  times = λ k. times (bytes_eq k a) (bytes_eq k b);
  others = λ k h. others (bytes_eq k a) (bytes_eq k b) h;
}
  where
    of_a : KeyState
    of_a = with_number (pos 5) (pos 4 ∷ pos 8 ∷ [])

    of_b : KeyState
    of_b = with_number (pos 7) []

    untouched : KeyState
    untouched = fresh (kinds_of reminder.states)

    times : (x y : Bool) → IsStrictlySortedBy int_cmp (cond x of_a (cond y of_b untouched)).times
    times true y = ((refl, tt), (tt, tt))
    times false true = tt
    times false false = tt

    others : (x y : Bool) → (x || (y || false)) ≡ false → cond x of_a (cond y of_b untouched) ≡ untouched
    others true y h = absurd (cc h)
    others false true h = absurd (cc h)
    others false false h = refl
