use Rattle.std.proofs.Common.{◌≡◌, ◌||◌, List, ℕ}
use Rattle.std.specs.List.{list_any}
use Rattle.std.specs.BTreeMap.{is_at}
use Rattle.std.specs.BTreeSet.{contains}
use Rattle.ax_keys.specs.Keys.{key_cmp}
use Rattle.ax_task.proofs.block.add_keys.Given as goal

abbrev pub invariant-loop-key : goal.invariant-loop-key
invariant-loop-key l = (q : List ℕ) → (contains key_cmp l.keys q || list_any (is_at (key_cmp q)) l.key-iterator.rest.items) ≡ (contains key_cmp l.fn.keys q || list_any (is_at (key_cmp q)) l.fn.list)
