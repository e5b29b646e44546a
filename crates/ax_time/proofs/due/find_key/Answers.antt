use Rattle.std.proofs.Common.{◌≡◌, ◌∙◌, List, ℕ, ◌||◌, Result, Ok, Err, OnOk, sym, rules, ap}
use Rattle.std.specs.BTreeMap.{is_at}
use Rattle.std.specs.BTreeSet.{contains}
use Rattle.std.specs.Cmp.{eq_by_cmp_equiv}
use Rattle.std.specs.Cmp.Lexicographic.{nat_list_cmp_total}
use Rattle.ax_keys.specs.Keys.{key_cmp}
use Rattle.ax_time.proofs.DueLemmas.{found_there, found_new}
use Rattle.ax_time.proofs.due.find_key.Goals as goal
use Rattle.ax_time.proofs.due.find_key.Goals.{in-Ok, in-Err}

on_ok : {T E P : Type 0} (r : Result T E) → P → OnOk r P
on_ok (Ok x) p = p
on_ok (Err e) p = tt

pub returns-then-contains : goal.returns-then-contains
returns-then-contains c = λ q. found_there c.args.found.now.keys c.args.key.now q (sym c.contains.ensures ∙ c.if-contains.true)

pub returns : goal.returns
returns c = elim c.match-insert.branch [
  | in-Ok w ↦
      let came : (q : List ℕ) → contains key_cmp c.insert.new.self q ≡ (contains key_cmp c.args.found.now q || is_at (key_cmp q) c.args.key.now) =
      λ q. w.in-Ok.ensures.updates.0 q ∙ found_new (contains key_cmp c.args.found.now q) _ _ (ap (λ k. is_at (key_cmp k) q) c.in_ok-key.ensures ∙ (eq_by_cmp_equiv nat_list_cmp_total).symm c.args.key.now q) in
      on_ok c.match-insert.result came
  | in-Err w ↦ search rules
]
