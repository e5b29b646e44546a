use Rattle.std.proofs.Common.{◌≡◌, ◌∙◌, ap, subst, List, ℕ, cond, Some, []}
use Rattle.std.specs.Prelude.{◌++◌, ◌∷◌}
use Rattle.std.specs.Ordering.{nat_cmp}
use Rattle.std.specs.Map.{values_of, lookup}
use Rattle.std.specs.BTreeMap.{insert_entry, is_at}
use Rattle.ax_account.specs.Queues.{Queue, has_key, same_key}
use Rattle.ax_account.proofs.QueueLemmas.{linked_put, linked_undone, values_inserted}
use Rattle.ax_account.proofs.idle.KeyQueue.put.Goals as goal

pub invariant_of-self-2 : goal.invariant_of-self-2
invariant_of-self-2 c =
    let named = c.in_ok-named.named in
    let key = c.args.key.now in
    let keys = c.self.inside.keys.entries in
    let numbers = c.self.inside.numbers.entries in
    linked_put keys numbers c.self.inside.next c.self.invariant key c.insert-2.new.self.entries c.insert.new.self.entries
    (ap (λ (v : Queue). has_key v.keys key) c.self.view_is ∙ c.requires.absent)
    (c.in-Ok-insert.ensures.entries ∙ ap (λ k. insert_entry nat_cmp keys c.self.inside.next k) c.in_ok-listed.ensures)
    (subst (λ k. (q : List ℕ) → lookup (same_key q) c.insert.new.self.entries ≡ cond (same_key k q) (Some c.self.inside.next) (lookup (same_key q) numbers)) c.in_ok-named.ensures c.in-Ok.ensures.updates.0)
    (subst (λ k. (n : ℕ) → lookup (is_at (nat_cmp n)) c.insert-2.new.self.entries ≡ cond (is_at (nat_cmp c.self.inside.next) n) (Some k) (lookup (is_at (nat_cmp n)) keys)) c.in_ok-listed.ensures c.in-Ok-insert.ensures.updates.0)

pub invariant_of-self-in_default-insert : goal.invariant_of-self-in_default-insert
invariant_of-self-in_default-insert c =
    let key = c.args.key.now in
    let keys = c.self.inside.keys.entries in
    let numbers = c.self.inside.numbers.entries in
    linked_undone keys numbers c.self.inside.next c.self.invariant key (ap (λ (v : Queue). has_key v.keys key) c.self.view_is ∙ c.requires.absent)
    c.insert-2.new.self.entries c.insert.new.self.entries c.remove.new.self.entries
    c.in_default-insert.ensures.err
    (subst (λ k. (q : List ℕ) → lookup (same_key q) c.insert.new.self.entries ≡ cond (same_key k q) (Some c.self.inside.next) (lookup (same_key q) numbers)) c.in_ok-named.ensures c.in-Ok.ensures.updates.0)
    c.remove.ensures.updates.0

pub returns-clause-ok : goal.returns-clause-ok
returns-clause-ok c =
    ap (λ r. values_of r) (c.in-Ok-insert.ensures.entries ∙ ap (λ k. insert_entry nat_cmp c.self.inside.keys.entries c.self.inside.next k) c.in_ok-listed.ensures)
    ∙ values_inserted c.self.inside.keys.entries c.self.inside.next c.args.key.now c.self.invariant.below
    ∙ ap (λ (v : Queue). v.keys ++ c.args.key.now ∷ []) c.self.view_is
