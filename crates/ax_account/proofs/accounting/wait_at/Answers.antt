use Rattle.std.proofs.Common.{rules, ◌≡◌, ◌∙◌, sym, ap, subst, Some, None}
use Rattle.std.specs.Prelude.{unwrap_or}
use Rattle.std.specs.Map.{lookup}
use Rattle.std.specs.BTreeMap.Entry.{map_with_value}
use Rattle.ax_account.specs.Parts.{Part, free, waits}
use Rattle.ax_account.specs.Queues.{same_key}
use Rattle.ax_account.specs.Accounts.{Sets}
use Rattle.ax_account.proofs.AccountLemmas.{sets_put, put_same, on_ok, on_err}
use Rattle.ax_account.proofs.accounting.wait_at.Goals as goal

pub first_at-first-requires : goal.first_at-first-requires
first_at-first-requires c = c.requires (search rules)

pub returns-in-Occupied-clause-ok : goal.returns-in-Occupied-clause-ok
returns-in-Occupied-clause-ok c =
    let es = c.args.entries.now.entries in
    let key = c.args.key.now in
    let w = c.push.new.self in
    let fs = (map_with_value c.in-Ok.place w).entries in
    let update = c.in-Ok.ensures.update in
    let found : Some c.into_mut.result.now ≡ lookup (same_key c.in_ok-copy.field-0) es = (search rules) in
    on_ok c.push.result c.push.ensures.ok (λ new.
    subst (λ gs. Sets es gs key (Some (waits c.args.item (unwrap_or (lookup (same_key key) es) free)))) (search rules)
    (subst (λ (p : Part). Sets es fs key (Some p)) (new ∙ ap (λ o. waits c.args.item (unwrap_or o free)) (found ∙ ap (λ k. lookup (same_key k) es) c.in_ok-copy.ensures))
    (sets_put es fs key c.in_ok-copy.field-0 w c.in_ok-copy.ensures (update.1 w) (update.0 w).0 c.in-Ok.ensures.ordered (update.2 w))))

pub returns-in-Occupied-clause-err : goal.returns-in-Occupied-clause-err
returns-in-Occupied-clause-err c =
    let es = c.args.entries.now.entries in
    let w = c.push.new.self in
    let found : Some c.into_mut.result.now ≡ lookup (same_key c.in_ok-copy.field-0) es = (search rules) in
    on_err c.push.result c.push.ensures.err (λ same.
    subst (λ gs. gs ≡ es) (search rules)
    (c.in-Ok.ensures.update.1 w ∙ put_same es c.in_ok-copy.field-0 w c.in-Ok.ensures.ordered (sym found ∙ ap Some (sym same))))

pub returns-in_ok-or_try_insert_with-in-Vacant-clause-ok : goal.returns-in_ok-or_try_insert_with-in-Vacant-clause-ok
returns-in_ok-or_try_insert_with-in-Vacant-clause-ok c =
    let es = c.args.entries.now.entries in
    let key = c.args.key.now in
    let w = c.in_ok-or_try_insert_with-in-Vacant.field-0.now in
    let fs = (map_with_value c.in-Ok.place w).entries in
    let update = c.in-Ok.ensures.update in
    let absent : lookup (same_key key) es ≡ None = (search rules) in
    let made : w ≡ waits c.args.item free = (search rules) in
    subst (λ gs. Sets es gs key (Some (waits c.args.item (unwrap_or (lookup (same_key key) es) free)))) (search rules)
    (subst (λ (p : Part). Sets es fs key (Some p)) (made ∙ ap (λ o. waits c.args.item (unwrap_or o free)) (sym absent))
    (sets_put es fs key c.in_ok-copy.field-0 w c.in_ok-copy.ensures (update.1 w) (update.0 w).0 c.in-Ok.ensures.ordered (update.2 w)))
