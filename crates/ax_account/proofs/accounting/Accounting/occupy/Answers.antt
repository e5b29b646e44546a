use Rattle.std.proofs.Common.{◌≡◌, ◌∙◌, refl, subst}
use Rattle.std.specs.Prelude.{unwrap_or, IfOk, OnOk}
use Rattle.std.specs.Map.{lookup}
use Rattle.ax_account.specs.declared.part.Occupied.TheVariants.{Owner, Waits}
use Rattle.ax_account.specs.Parts.{Part, free}
use Rattle.ax_account.specs.Queues.{same_key}
use Rattle.ax_account.specs.Accounts.{Accounts, Changes, Sets, part_of, occupied, answer_to}
use Rattle.ax_account.proofs.AccountLemmas.{changes, sound_same, sound_undone, chosen_by, kept_if_occupied, idle_occupied, on_ok, if_ok, either_way}
use Rattle.ax_account.proofs.accounting.Accounting.occupy.Goals as goal

pub invariant_of-self : goal.invariant_of-self
invariant_of-self c =
    let key = c.args.key.now in
    let es = c.self.inside.entries.entries in
    let fs = c.occupy_at.new.entries.entries in
    let idle = c.self.inside.idle.keys in
    let part : Part = unwrap_or (lookup (same_key key) es) free in
    either_way c.occupy_at.result c.occupy_at.ensures.ok c.occupy_at.ensures.err
    (λ sets. sound_same es fs idle idle key (occupied c.args.id part) (subst (λ o. Sets es fs key o) (kept_if_occupied es idle c.self.invariant key c.args.id) sets)
    c.self.invariant (idle_occupied c.args.id part) refl)
    (λ same. sound_undone es fs idle idle c.self.invariant same refl)

pub returns-clause-answer : goal.returns-clause-answer
returns-clause-answer c =
    let key = c.args.key.now in
    subst (λ (v : Accounts). IfOk c.occupy_at.result (λ answer. answer ≡ answer_to (part_of v key))) c.self.view_is
    (if_ok c.occupy_at.result c.occupy_at.ensures.answer (λ answer is. is ∙ chosen_by c.self.inside.entries.entries c.self.inside.idle.keys c.self.invariant key Waits Owner))

pub returns-clause-part : goal.returns-clause-part
returns-clause-part c =
    let key = c.args.key.now in
    let es = c.self.inside.entries.entries in
    let fs = c.occupy_at.new.entries.entries in
    let idle = c.self.inside.idle.keys in
    subst (λ (v : Accounts). OnOk c.occupy_at.result (Changes v (record { parts = fs; idle = idle }) key (occupied c.args.id (part_of v key)))) c.self.view_is
    (on_ok c.occupy_at.result c.occupy_at.ensures.ok (λ sets.
    changes es fs idle idle key (occupied c.args.id (unwrap_or (lookup (same_key key) es) free))
    (subst (λ o. Sets es fs key o) (kept_if_occupied es idle c.self.invariant key c.args.id) sets)))
