use Rattle.std.proofs.Common.{◌≡◌, ◌+◌, ◌<◌, ap, arith, length}
use Rattle.ax_account.specs.Queues.{Queue}
use Rattle.ax_account.proofs.QueueLemmas.{absent_so_far, short_so_far}
use Rattle.ax_account.proofs.idle.KeyQueue.numbered_anew.Goals as goal

pub put-requires-clause-next : goal.put-requires-clause-next
put-requires-clause-next c =
    let short : length c.loop-key.fresh.keys + 1 < 18446744073709551616 =
    short_so_far c.self.inside.keys.entries c.self.inside.numbers.entries c.self.inside.next c.self.invariant
    c.loop-key.fresh.keys c.args.self.now.keys c.loop-key.key-iterator c.next.new.self c.in-Some.key.now
    (ap (λ (v : Queue). v.keys) c.self.view_is) c.loop-key.invariant.keys c.in-Some.ensures.steps c.values-key-items.ensures.fits in
    let next : c.loop-key.fresh.next ≡ length c.loop-key.fresh.keys = c.loop-key.invariant.next in
    omega arith

pub put-requires-clause-absent : goal.put-requires-clause-absent
put-requires-clause-absent c =
    absent_so_far c.self.inside.keys.entries c.self.inside.numbers.entries c.self.inside.next c.self.invariant
    c.loop-key.fresh.keys c.args.self.now.keys c.loop-key.key-iterator c.next.new.self c.in-Some.key.now
    (ap (λ (v : Queue). v.keys) c.self.view_is) c.loop-key.invariant.keys c.in-Some.ensures.steps
