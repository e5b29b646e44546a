-- The slot that an id names.
use Rattle.std.specs.Prelude.{ℕ}
use Rattle.ax_context.specs.declared.id.Id.{Id}

abbrev pub slot_of : Id → ℕ
slot_of id = id.slot
