use Rattle.std.proofs.Common.{subst}
use Rattle.std.specs.Prelude.{unwrap_or}
use Rattle.std.specs.Map.{lookup}
use Rattle.ax_account.specs.Parts.{free, taken_up, mark_ended}
use Rattle.ax_account.specs.Queues.{same_key}
use Rattle.ax_account.specs.Accounts.{Accounts, Changes, waiting_of}
use Rattle.ax_account.proofs.AccountLemmas.{changes, sound_without}
use Rattle.ax_account.proofs.accounting.Accounting.end_mark.Goals as goal

pub invariant_of-self : goal.invariant_of-self
invariant_of-self c =
    let es = c.self.inside.entries.entries in
    sound_without es c.end_mark.new.entries.entries c.self.inside.idle.keys c.remove.new.self.keys c.args.key.now (taken_up (mark_ended (unwrap_or (lookup (same_key c.args.key.now) es) free).waiting))
    c.end_mark.ensures.sets c.self.invariant c.remove.ensures.keys

pub returns-clause-part : goal.returns-clause-part
returns-clause-part c =
    let es = c.self.inside.entries.entries in
    subst (λ (v : Accounts). Changes v (record { parts = c.end_mark.new.entries.entries; idle = c.remove.new.self.keys }) c.args.key.now (taken_up (mark_ended (waiting_of v c.args.key.now)))) c.self.view_is
    (changes es c.end_mark.new.entries.entries c.self.inside.idle.keys c.remove.new.self.keys c.args.key.now (taken_up (mark_ended (unwrap_or (lookup (same_key c.args.key.now) es) free).waiting)) c.end_mark.ensures.sets)
