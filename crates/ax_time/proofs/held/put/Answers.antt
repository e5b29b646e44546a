use Rattle.std.proofs.Common.{◌≡◌, ◌∙◌, Bool, true, false, cond, not, ℤ, sym, ap, refl, subst, rules, to_z, of_z, w64}
use Rattle.std.proofs.lemmas.Map.Lookups.{exact_pairs, exact_signed, exact_unsigned}
use Rattle.std.specs.Cmp.{int_cmp_total}
use Rattle.std.specs.BTreeMap.{is_at}
use Rattle.std.specs.BTreeSet.{contains}
use Rattle.std.specs.Ordering.{int_cmp, nat_cmp}
use Rattle.ax_time.specs.Held.{due_order, Makes}
use Rattle.ax_time.proofs.SetLemmas.{inserted_again, back_again}
use Rattle.ax_time.proofs.held.put.Goals as goal

was : (b : Bool) → false ≡ not b → b ≡ true
was true e = refl
was false e = cc

pub returns-then-not-is_new-clause-ok : goal.returns-then-not-is_new-clause-ok
returns-then-not-is_new-clause-ok c =
    let added : c.in-Ok.is_new ≡ not (contains due_order c.args.by_time.now (c.args.time.now, c.args.held.now.number)) = search rules in
    let there : contains int_cmp c.args.held.now.times c.args.time.now ≡ true = sym c.requires.same ∙ was _ (sym c.if-not-is_new.true ∙ added) in
    sym (inserted_again int_cmp_total exact_signed c.args.time.now c.args.held.now.times.keys c.requires.rising there)

pub returns-clause-undue : goal.returns-clause-undue
returns-clause-undue c =
    let e : to_z w64 (of_z w64 c.args.time.now) ≡ c.args.time.now = search rules in
    let absent : contains int_cmp c.args.held.now.times c.args.time.now ≡ false = subst (λ (t : ℤ). contains int_cmp c.args.held.now.times t ≡ false) e c.in-Err.ensures.absent in
    let gone : contains due_order c.args.by_time.now (c.args.time.now, c.args.held.now.number) ≡ false = c.requires.same ∙ absent in
    let came : Makes true c.args.time.now c.args.held.now.number c.args.by_time.now c.insert.new.self = search rules in
    let went : Makes false c.args.time.now c.args.held.now.number c.insert.new.self c.remove.new.self = search rules in
    λ q. went q ∙ ap (cond (is_at (due_order (c.args.time.now, c.args.held.now.number)) q) false) (came q)
    ∙ back_again (exact_pairs int_cmp nat_cmp exact_signed exact_unsigned) (c.args.time.now, c.args.held.now.number) q c.args.by_time.now.keys gone
