-- What a merge has yet to give.
use Rattle.std.specs.Prelude.{◌≡◌, ◌++◌, Option, length}
use Rattle.std.specs.Option.{option_to_list}
use Rattle.std.specs.Vec.Iter.{into_iter_items, into_iter_len}
use Rattle.std.specs.declared.vec.IntoIter.{IntoIter}
use Rattle.ax_store.specs.declared.change.Change.{Change}
use Rattle.ax_store.specs.declared.merge.Merge.{Merge}
use Rattle.ax_store.specs.Held.{Text}
use Rattle.ax_store.specs.Entries.{Layer, merged}

module _ {Z : Type 0} where
  -- the entry in hand, and those behind it
  abbrev pub queued : Option (Text × Change) → IntoIter (Text × Change) Z → Layer
  queued slot rest = option_to_list slot ++ into_iter_items rest

abbrev pub left : Merge → Layer
left m = merged (queued m.above m.newer) (queued m.below m.older)

abbrev pub IsCounted : Merge → Type 0
IsCounted m = (length (into_iter_items m.newer) ≡ into_iter_len m.newer) × (length (into_iter_items m.older) ≡ into_iter_len m.older)
