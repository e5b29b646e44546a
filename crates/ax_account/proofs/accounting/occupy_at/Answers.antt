use Rattle.std.proofs.Common.{rules, ◌≡◌, ◌∙◌, sym, ap, subst, Some, None}
use Rattle.std.specs.Prelude.{unwrap_or}
use Rattle.std.specs.Option.{option_map}
use Rattle.std.specs.Map.{lookup}
use Rattle.std.specs.BTreeMap.Entry.{map_with_value}
use Rattle.ax_account.specs.declared.part.Waiting.TheVariants.{Row}
use Rattle.ax_account.specs.Parts.{Part, owned, waits}
use Rattle.ax_account.specs.Queues.{same_key}
use Rattle.ax_account.specs.Accounts.{Sets}
use Rattle.ax_account.proofs.AccountLemmas.{sets_put, put_same, to_err}
use Rattle.ax_account.proofs.accounting.occupy_at.Goals as goal

pub returns-in-Vacant-clause-ok : goal.returns-in-Vacant-clause-ok
returns-in-Vacant-clause-ok c =
    let es = c.args.entries.now.entries in
    let key = c.args.key.now in
    let w = c.owned.result in
    let fs = (map_with_value c.in-Ok.place w).entries in
    let update = c.in-Ok.ensures.update in
    let absent : lookup (same_key key) es ≡ None = (search rules) in
    subst (λ gs. Sets es gs key (Some (unwrap_or (option_map (waits (Row c.args.id)) (lookup (same_key key) es)) (owned c.args.id)))) (search rules)
    (subst (λ (p : Part). Sets es fs key (Some p)) (c.owned.ensures ∙ ap (λ o. unwrap_or (option_map (waits (Row c.args.id)) o) (owned c.args.id)) (sym absent))
    (sets_put es fs key c.in_ok-copy.field-0 w c.in_ok-copy.ensures (update.1 w) (update.0 w).0 c.in-Ok.ensures.ordered (update.2 w)))

pub returns-in_ok-push-in-Occupied-clause-ok : goal.returns-in_ok-push-in-Occupied-clause-ok
returns-in_ok-push-in-Occupied-clause-ok c =
    let es = c.args.entries.now.entries in
    let key = c.args.key.now in
    let w = c.push.new.self in
    let fs = (map_with_value c.in-Ok.place w).entries in
    let update = c.in-Ok.ensures.update in
    let found : Some c.into_mut.result.now ≡ lookup (same_key c.in_ok-copy.field-0) es = (search rules) in
    subst (λ gs. Sets es gs key (Some (unwrap_or (option_map (waits (Row c.args.id)) (lookup (same_key key) es)) (owned c.args.id)))) (search rules)
    (subst (λ (p : Part). Sets es fs key (Some p)) (c.in_ok-push-in-Occupied.ensures.ok ∙ ap (λ o. unwrap_or (option_map (waits (Row c.args.id)) o) (owned c.args.id)) (found ∙ ap (λ k. lookup (same_key k) es) c.in_ok-copy.ensures))
    (sets_put es fs key c.in_ok-copy.field-0 w c.in_ok-copy.ensures (update.1 w) (update.0 w).0 c.in-Ok.ensures.ordered (update.2 w)))

pub returns-in_err-push-in-Occupied-clause-err : goal.returns-in_err-push-in-Occupied-clause-err
returns-in_err-push-in-Occupied-clause-err c =
    let es = c.args.entries.now.entries in
    let w = c.push.new.self in
    let found : Some c.into_mut.result.now ≡ lookup (same_key c.in_ok-copy.field-0) es = (search rules) in
    to_err c.from_residual-in_err-push-in-Occupied.result (subst (λ gs. gs ≡ es) (search rules)
    (c.in-Ok.ensures.update.1 w ∙ put_same es c.in_ok-copy.field-0 w c.in-Ok.ensures.ordered (sym found ∙ ap Some (sym c.in_err-push-in-Occupied.ensures.err))))
