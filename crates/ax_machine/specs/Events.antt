-- What the plain thread takes, one event after another.
use Rattle.std.specs.Prelude.{ℤ, List, [], ◌∷◌, int_lt, Bool, false, ◌||◌, if◌then◌else◌}
use Rattle.std.specs.Str.{bytes_eq}
use Rattle.ax_machine.specs.Entries.{Key}

pub data Event : Type 0 where
  Row : (key : Key) → (time : ℤ) → (values : List ℤ) → Event
  -- a watermark
  Mark : (time : ℤ) → Event
  Barrier : (id : ℤ) → Event

-- whether one of the rows is of this key
abbrev pub has_row : Key → List Event → Bool
has_row k [] = false
has_row k (Row j time values ∷ es) = bytes_eq k j || has_row k es
has_row k (Mark w ∷ es) = has_row k es
has_row k (Barrier id ∷ es) = has_row k es

-- the events without the watermarks that aren't greater than each one before, where the greatest so far is `wm`
abbrev pub without_skipped : ℤ → List Event → List Event
without_skipped wm [] = []
without_skipped wm (Row k time values ∷ es) = Row k time values ∷ without_skipped wm es
without_skipped wm (Mark w ∷ es) = if int_lt wm w then Mark w ∷ without_skipped w es else without_skipped wm es
without_skipped wm (Barrier id ∷ es) = Barrier id ∷ without_skipped wm es
