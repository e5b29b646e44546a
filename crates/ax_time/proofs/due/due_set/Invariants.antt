use Rattle.std.proofs.Common.{◌≡◌, ◌||◌, List, ℕ, length}
use Rattle.std.specs.List.{list_any}
use Rattle.std.specs.declared.ops.Bound.TheVariants.{Excluded, Unbounded}
use Rattle.std.specs.BTreeSet.{contains, keys_between}
use Rattle.ax_keys.specs.Keys.{key_cmp}
use Rattle.ax_time.specs.Held.{due_order, names}
use Rattle.ax_time.proofs.due.due_set.Given as goal

abbrev pub invariant-loop-due : goal.invariant-loop-due
invariant-loop-due l = (q : List ℕ) → (contains key_cmp l.found q || list_any (λ d. names l.named q d.1) l.due-iterator) ≡ list_any (λ d. names l.named q d.1) (keys_between due_order Unbounded (Excluded (l.w, length l.named)) l.by_time)
