use Rattle.std.proofs.Common.{◌≡◌, ◌∙◌, List, ℕ, ◌||◌, Result, Ok, Err, OnOk, rules}
use Rattle.std.specs.BTreeMap.{is_at}
use Rattle.std.specs.BTreeSet.{contains}
use Rattle.std.specs.Cmp.{eq_by_cmp_equiv}
use Rattle.std.specs.Cmp.Lexicographic.{nat_list_cmp_total}
use Rattle.ax_keys.specs.Keys.{key_cmp}
use Rattle.ax_time.proofs.DueLemmas.{found_new}
use Rattle.ax_task.proofs.block.add_key.Goals as goal
use Rattle.ax_task.proofs.block.add_key.Goals.{in-Ok, in-Err}

on_ok : {T E P : Type 0} (r : Result T E) → P → OnOk r P
on_ok (Ok x) p = p
on_ok (Err e) p = tt

pub returns : goal.returns
returns c = elim c.match-insert.branch [
  | in-Ok w ↦
      let came : (q : List ℕ) → contains key_cmp c.insert.new.self q ≡ (contains key_cmp c.args.keys.now q || is_at (key_cmp q) c.args.key) =
      λ q. w.in-Ok.ensures.updates.0 q ∙ found_new (contains key_cmp c.args.keys.now q) _ _ ((eq_by_cmp_equiv nat_list_cmp_total).symm c.args.key q) in
      on_ok c.match-insert.result came
  | in-Err w ↦ search rules
]
