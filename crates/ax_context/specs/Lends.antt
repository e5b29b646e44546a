-- What the contexts end as, where a `&mut` to a payload is returned.
use Rattle.std.specs.Borrow.{Lends, Fml, RattleType, MutBor}
use Rattle.ax_context.specs.declared.id.Id.{Id}
use Rattle.ax_context.specs.Slots.{Slots, with_payload}
use Rattle.ax_context.specs.contracts.contexts.Contexts.{the_row}

-- once the borrow r ends, the context of the id has the last payload written through r
abbrev pub lends_payload : (T : RattleType) → MutBor (Slots T.Denot) → Id → MutBor T.Denot → Fml
lends_payload T s id r = Lends (the_row T) T s r (with_payload s.now id)
