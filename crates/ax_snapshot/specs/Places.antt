-- The keys in the order of a block.
use denote.Ref.{Bor}
use Rattle.std.specs.Prelude.{List, map}
use Rattle.std.specs.BTreeMap.{BTreeMap}
use Rattle.ax_machine.specs.Entries.{Key}
use Rattle.ax_machine.specs.Blocks.{Part}
use Rattle.ax_snapshot.specs.Snaps.{shown_part}
use Rattle.ax_snapshot.specs.declared.place.Place.{Place}
use Rattle.ax_snapshot.specs.declared.snapshot.KeySnap.{KeySnap}

-- a key with its part, as the definitions place it
abbrev pub placing : Place × Bor KeySnap → Key × Part
placing e = (e.0.key.now, shown_part e.1.now)

abbrev pub shown_places : BTreeMap Place (Bor KeySnap) → List (Key × Part)
shown_places places = map placing places.entries
