use Rattle.std.proofs.Common.{w64, ◌≡◌, ◌∙◌, refl, subst, ap, Some}
use Rattle.std.specs.Prelude.{unwrap_or, OnOk, ◌++◌, ◌∷◌, []}
use Rattle.std.specs.Option.{is_some}
use Rattle.std.specs.Map.{lookup}
use Rattle.std.proofs.lemmas.Int.{to_z-of_z}
use Rattle.ax_account.specs.Parts.{Part, free, waits}
use Rattle.ax_account.specs.Queues.{same_key}
use Rattle.ax_account.specs.Accounts.{Accounts, Changes, Sets, part_of, mark, idle_with}
use Rattle.ax_account.proofs.AccountLemmas.{changes, sound_waited, sound_undone, kept_waits, chosen_by, not_idle, on_ok, either_way₂}
use Rattle.ax_account.proofs.accounting.Accounting.wait_mark.Goals as goal

pub wait_at-requires : goal.wait_at-requires
wait_at-requires c = λ none. not_idle c.self.inside.entries.entries c.self.inside.idle.keys c.self.invariant c.args.key.now (ap is_some none)

pub invariant_of-self : goal.invariant_of-self
invariant_of-self c =
    let key = c.args.key.now in
    let es = c.self.inside.entries.entries in
    let fs = c.wait_at.new.entries.entries in
    let idle = c.self.inside.idle.keys in
    let item = mark c.args.epoch c.args.time in
    let part : Part = unwrap_or (lookup (same_key key) es) free in
    either_way₂ c.wait_at.result c.wait_at.ensures.ok c.wait_at.ensures.idle c.wait_at.ensures.err c.wait_at.ensures.err_idle
    (λ sets is. sound_waited es fs idle c.wait_at.new.idle.keys key item c.self.invariant refl
    (subst (λ o. Sets es fs key o) (ap (λ z. Some (waits (mark c.args.epoch z) part)) (to_z-of_z w64 c.args.time c.ranges.time) ∙ kept_waits item part) sets) is)
    (λ same same_idle. sound_undone es fs idle c.wait_at.new.idle.keys c.self.invariant same same_idle)

pub returns-clause-part : goal.returns-clause-part
returns-clause-part c =
    let key = c.args.key.now in
    let es = c.self.inside.entries.entries in
    let fs = c.wait_at.new.entries.entries in
    let idle = c.self.inside.idle.keys in
    let part : Part = unwrap_or (lookup (same_key key) es) free in
    subst (λ (v : Accounts). OnOk c.wait_at.result (Changes v (record { parts = fs; idle = c.wait_at.new.idle.keys }) key (waits (mark c.args.epoch c.args.time) (part_of v key)))) c.self.view_is
    (on_ok c.wait_at.result c.wait_at.ensures.ok (λ sets.
    changes es fs idle c.wait_at.new.idle.keys key (waits (mark c.args.epoch c.args.time) part)
    (subst (λ z. Sets es fs key z) (ap (λ z. Some (waits (mark c.args.epoch z) part)) (to_z-of_z w64 c.args.time c.ranges.time) ∙ kept_waits (mark c.args.epoch c.args.time) part) sets)))

pub returns-clause-idle : goal.returns-clause-idle
returns-clause-idle c =
    let key = c.args.key.now in
    let es = c.self.inside.entries.entries in
    let idle = c.self.inside.idle.keys in
    subst (λ (v : Accounts). OnOk c.wait_at.result (c.wait_at.new.idle.keys ≡ idle_with key (part_of v key) v.idle)) c.self.view_is
    (on_ok c.wait_at.result c.wait_at.ensures.idle (λ is. is ∙ chosen_by es idle c.self.invariant key idle (idle ++ key ∷ [])))
