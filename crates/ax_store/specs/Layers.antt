-- The layers of a store, and the map that they stand for.
use Rattle.std.specs.Prelude.{List, [], ◌∷◌, Option, Some, None}
use Rattle.std.specs.FinMap.{empty, insert, remove}
use Rattle.ax_store.specs.declared.change.Change.{Change}
use Rattle.ax_store.specs.declared.change.Change.TheVariants.{Put, Delete}
use Rattle.ax_store.specs.declared.layers.Layers.{Layers}
use Rattle.ax_store.specs.Held.{Text, Content}
use Rattle.ax_store.specs.Entries.{Layer, entry_at, merged, or_below}

-- an entry over what is below it
abbrev pub changed : Text → Change → Content → Content
changed key (Put value) below = insert below key value
changed key Delete below = remove below key

-- a layer over what is below it
abbrev pub over : Layer → Content → Content
over [] below = below
over (e ∷ es) below = changed e.0 e.1 (over es below)

-- the map of layers, from the newest on
abbrev pub content_of : List Layer → Content
content_of [] = empty
content_of (layer ∷ layers) = over layer (content_of layers)

-- the memtable, and the runs from the newest on
abbrev pub layers_of : Layers → List Layer
layers_of s = s.memtable ∷ s.runs.items

-- the newest entry of a key, where there is one
abbrev pub newest_of : List Layer → Text → Option Change
newest_of [] key = None
newest_of (layer ∷ layers) key = or_below (entry_at layer key) (newest_of layers key)

-- the two newest of some layers as one
abbrev pub merged_first : List Layer → List Layer
merged_first (newer ∷ (older ∷ layers)) = merged newer older ∷ layers
merged_first layers = layers

-- the value that an entry leaves
abbrev pub shown : Option Change → Option Text
shown (Some (Put value)) = Some value
shown (Some Delete) = None
shown None = None
