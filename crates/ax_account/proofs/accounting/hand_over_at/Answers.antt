use Rattle.std.proofs.Common.{rules, refl, ◌≡◌, sym, subst, None}
use Rattle.std.specs.Option.{option_map}
use Rattle.std.specs.Map.{lookup}
use Rattle.ax_account.specs.Parts.{taken_up}
use Rattle.ax_account.specs.Queues.{same_key}
use Rattle.ax_account.specs.Accounts.{Sets}
use Rattle.ax_account.proofs.AccountLemmas.{sets_mapped, sets_nothing}
use Rattle.ax_account.proofs.accounting.hand_over_at.Goals as goal

pub returns-in-Some-clause-sets : goal.returns-in-Some-clause-sets
returns-in-Some-clause-sets c =
    let after = c.get_mut.follows.holds c.hand_over.new.self in
    sets_mapped c.args.entries.now.entries (c.get_mut.follows.lender c.hand_over.new.self).entries c.args.key.now (λ part. taken_up part.waiting) c.in-Some.entry.now c.hand_over.new.self
    c.in-Some.ensures.value c.hand_over.ensures.part after.0 (after.3 (search rules)).0 after.4

pub returns-in-None-clause-sets : goal.returns-in-None-clause-sets
returns-in-None-clause-sets c =
    let es = c.args.entries.now.entries in
    let none : lookup (same_key c.args.key.now) es ≡ None = sym c.in-None.ensures.value in
    subst (λ o. Sets es c.get_mut.follows.lender-at-none.entries c.args.key.now (option_map (λ part. taken_up part.waiting) o)) (sym none)
    (sets_nothing es c.get_mut.follows.lender-at-none.entries c.args.key.now (rw c.get_mut.follows.holds-at-none refl) none c.in-None.ensures.ordered)
