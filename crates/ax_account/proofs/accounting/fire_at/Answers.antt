use Rattle.std.proofs.Common.{rules, ◌∙◌, ap, subst, Some}
use Rattle.std.specs.Prelude.{unwrap_or}
use Rattle.ax_account.specs.Parts.{Part, free, fired_by}
use Rattle.ax_account.specs.Accounts.{Sets}
use Rattle.ax_account.proofs.AccountLemmas.{sets_written}
use Rattle.ax_account.proofs.accounting.fire_at.Goals as goal

pub returns-in-Some : goal.returns-in-Some
returns-in-Some c =
    let es = c.args.entries.now.entries in
    let fs = (c.get_mut.follows.lender c.fire.new.self).entries in
    let after = c.get_mut.follows.holds c.fire.new.self in
    subst (λ (p : Part). Sets es fs c.args.key.now (Some p)) (c.fire.ensures ∙ ap (λ o. fired_by c.args.id (unwrap_or o free)) c.in-Some.ensures.value)
    (sets_written es fs c.args.key.now c.in-Some.entry.now c.fire.new.self c.in-Some.ensures.value after.0 (after.3 (search rules)).0 after.4)
