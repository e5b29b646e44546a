use Rattle.std.proofs.Common.{refl, subst, sym}
use Rattle.std.specs.Prelude.{IsSome, unwrap_or}
use Rattle.std.specs.Map.{lookup}
use Rattle.ax_account.specs.Parts.{Part, free, taken_up}
use Rattle.ax_account.specs.Queues.{same_key}
use Rattle.ax_account.specs.Accounts.{Accounts, Changes, owner_of, waiting_of}
use Rattle.ax_account.proofs.AccountLemmas.{changes, sound_same, owned_not_idle}
use Rattle.ax_account.proofs.accounting.Accounting.release.Goals as goal

pub invariant_of-self : goal.invariant_of-self
invariant_of-self c =
    let es = c.self.inside.entries.entries in
    let idle = c.self.inside.idle.keys in
    let part : Part = unwrap_or (lookup (same_key c.args.key.now) es) free in
    sound_same es c.hand_over.new.entries.entries idle idle c.args.key.now (taken_up part.waiting) c.hand_over.ensures.sets c.self.invariant
    (owned_not_idle part (taken_up part.waiting) (subst (λ (v : Accounts). IsSome (owner_of v c.args.key.now)) (sym c.self.view_is) c.requires)) refl

pub returns-clause-part : goal.returns-clause-part
returns-clause-part c =
    let es = c.self.inside.entries.entries in
    let idle = c.self.inside.idle.keys in
    subst (λ (v : Accounts). Changes v (record { parts = c.hand_over.new.entries.entries; idle = idle }) c.args.key.now (taken_up (waiting_of v c.args.key.now))) c.self.view_is
    (changes es c.hand_over.new.entries.entries idle idle c.args.key.now (taken_up (unwrap_or (lookup (same_key c.args.key.now) es) free).waiting) c.hand_over.ensures.sets)
