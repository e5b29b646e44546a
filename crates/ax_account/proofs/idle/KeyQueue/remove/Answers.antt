use Rattle.std.proofs.Common.{◌∙◌, sym, ap}
use Rattle.std.specs.Map.{values_of}
use Rattle.ax_account.specs.Queues.{Queue, without}
use Rattle.ax_account.proofs.QueueLemmas.{linked_removed, keys_left, unlisted, without_absent}
use Rattle.ax_account.proofs.idle.KeyQueue.remove.Goals as goal

pub invariant_of-self : goal.invariant_of-self
invariant_of-self c =
    linked_removed c.self.inside.keys.entries c.self.inside.numbers.entries c.self.inside.next c.self.invariant c.args.key.now c.in-Some.number (sym c.in-Some.ensures.value)
    c.forget.new.keys.entries c.remove.new.self.entries c.forget.ensures.entries c.remove.ensures.updates.0 c.forget.ensures.at

pub returns-in-Some-clause-keys : goal.returns-in-Some-clause-keys
returns-in-Some-clause-keys c =
    ap (λ r. values_of r) c.forget.ensures.entries
    ∙ keys_left c.self.inside.keys.entries c.self.inside.numbers.entries c.self.inside.next c.self.invariant c.args.key.now c.in-Some.number (sym c.in-Some.ensures.value)
    ∙ ap (λ (v : Queue). without c.args.key.now v.keys) c.self.view_is

pub returns-in_default-clause-keys : goal.returns-in_default-clause-keys
returns-in_default-clause-keys c =
    sym (without_absent c.args.key.now (values_of c.self.inside.keys.entries)
    (unlisted c.self.inside.keys.entries c.self.inside.numbers.entries c.self.inside.next c.self.invariant c.args.key.now (sym c.in_default.ensures.value)))
    ∙ ap (λ (v : Queue). without c.args.key.now v.keys) c.self.view_is
