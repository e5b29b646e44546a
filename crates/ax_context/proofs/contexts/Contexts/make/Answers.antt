use Rattle.std.proofs.Common.{◌<◌, refl, arith}
use Rattle.ax_context.specs.Slots.{Slots, live_count}
use Rattle.ax_context.proofs.MadeLemmas.{sound_made}
use Rattle.ax_context.proofs.contexts.Contexts.make.Goals as goal

pub invariant_of-self : goal.invariant_of-self
invariant_of-self g c =
    let found = c.first_free-found.result in
    let s : Slots g.row.T.Denot = record { slots = c.self.inside.table.slots; limit = c.self.inside.limit; next = c.self.inside.next } in
    let few : live_count s < s.limit = rw (← c.self.view_is) at c.requires in
    let number = rw (← c.self.view_is) at c.first_free-found.ensures.number in
    let spared = rw (← c.self.view_is) at c.first_free-found.ensures.spared in
    let updates = c.insert_reserved-slot.ensures.updates in
    sound_made s _ c.insert_reserved-slot.result
    (record { payload = c.args.payload; epoch = c.args.epoch; number = found.number; count = 1 })
    c.self.inside.table.capacity _ c.self.inside.spare found.spare
    (record {
      placed = updates.changed;
      others = updates.others;
      len = c.insert_reserved-slot.ensures.len;
      limit = refl;
      next = refl;
      once = refl;
      free = number.free;
    })
    c.insert_reserved-slot.ensures.capacity few (omega arith) (omega arith) spared c.self.invariant
