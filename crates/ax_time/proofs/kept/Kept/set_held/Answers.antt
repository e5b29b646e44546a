use Rattle.std.proofs.Common.{true, IsSome, Result, Ok, Err, OnErr, ◌∙◌, refl, subst}
use Rattle.ax_text.specs.Times.{insert_time}
use Rattle.ax_time.proofs.KeptLemmas.{same_there, rises_there, agree_made, agree_back, back_same, put_seen, inserted_time}
use Rattle.ax_time.proofs.kept.Kept.set_held.Goals as goal

on_err : {T E P : Type 0} (r : Result T E) → P → OnErr r P
on_err (Ok x) p = tt
on_err (Err e) p = p

pub put-requires-clause-same : goal.put-requires-clause-same
put-requires-clause-same c = same_there c.args.self.now c.requires c.args.key.now c.in-Some.held.now c.in-Some.ensures.value c.args.time.now

pub put-requires-clause-rising : goal.put-requires-clause-rising
put-requires-clause-rising c = rises_there c.args.self.now c.requires c.args.key.now c.in-Some.held.now c.in-Some.ensures.value

pub returns-in_err-put-clause-kept : goal.returns-in_err-put-clause-kept
returns-in_err-put-clause-kept c =
    let after = c.get_mut.follows.holds c.put.new.held in
    agree_back c.args.self.now _ c.requires c.args.key.now c.in-Some.held.now c.put.new.held c.in-Some.ensures.value (after.3 (subst IsSome c.in-Some.ensures.value refl)).0 after.4
    c.in_err-put.ensures.err refl c.in_err-put.ensures.undue

pub returns-in_err-put-clause-err : goal.returns-in_err-put-clause-err
returns-in_err-put-clause-err c =
    let after = c.get_mut.follows.holds c.put.new.held in
    on_err c.from_residual.result (back_same c.args.self.now.by_key (c.get_mut.follows.lender c.put.new.held) c.args.key.now c.in-Some.held.now c.put.new.held after.0 c.in_err-put.ensures.err c.in-Some.ensures.value)

pub returns-clause-kept : goal.returns-clause-kept
returns-clause-kept c =
    let after = c.get_mut.follows.holds c.put.new.held in
    agree_made c.args.self.now _ c.requires c.args.key.now c.in-Some.held.now c.put.new.held c.in-Some.ensures.value (after.3 (subst IsSome c.in-Some.ensures.value refl)).0 after.4
    c.args.time.now true c.put.ensures.number refl c.in_ok-put.ensures.has c.in_ok-put.ensures.due c.put.ensures.rising

pub returns-clause-set : goal.returns-clause-set
returns-clause-set c = λ held.
    let after = c.get_mut.follows.holds c.put.new.held in
    put_seen c.args.self.now c.requires (c.get_mut.follows.lender c.put.new.held) after.4 c.args.key.now c.in-Some.held.now c.put.new.held c.in-Some.ensures.value
    (after.3 (subst IsSome c.in-Some.ensures.value refl)).0 (insert_time c.args.time.now) (c.in_ok-put.ensures.ok ∙ inserted_time c.args.time.now c.in-Some.held.now.times.keys)
