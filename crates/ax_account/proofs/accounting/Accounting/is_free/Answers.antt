use Rattle.std.proofs.Common.{◌∙◌, ap, not}
use Rattle.ax_account.specs.Parts.{is_free}
use Rattle.ax_account.specs.Accounts.{Accounts, part_of}
use Rattle.ax_account.proofs.AccountLemmas.{free_where_absent}
use Rattle.ax_account.proofs.accounting.Accounting.is_free.Goals as goal

pub returns-clause-value : goal.returns-clause-value
returns-clause-value c =
    ap not c.contains_key.ensures ∙ free_where_absent c.self.inside.entries.entries c.self.inside.idle.keys c.self.invariant c.args.key.now
    ∙ ap (λ (v : Accounts). is_free (part_of v c.args.key.now)) c.self.view_is
