-- What the plain thread holds, and what it stands for.
use Rattle.std.specs.Prelude.{◌≡◌, ℕ, false, List, [], Option, Some, None}
use Rattle.std.specs.Str.{bytes_eq}
use Rattle.std.specs.BTreeMap.{BTreeMap, get, keys}
use Rattle.ax_text.specs.declared.vocabulary.Handler.{Handler}
use Rattle.ax_text.specs.declared.vocabulary.Kind.{Kind}
use Rattle.ax_text.specs.Cells.{Cell, Cells}
use Rattle.ax_text.specs.Programs.{untouched}
use Rattle.ax_keys.specs.Keys.{key_cmp}
use Rattle.ax_state.specs.KeyCells.{shown_cells, cell_kinds}
use Rattle.ax_time.specs.declared.timer.Timer.{Timer}
use Rattle.ax_time.specs.Timers.{times_of}
use Rattle.ax_lang.specs.declared.program.Program.{Program}
use Rattle.ax_machine.specs.Entries.{Key}
use Rattle.ax_machine.specs.Events.{Event, Row, Mark, Barrier}
use Rattle.ax_machine.specs.Sync.{Map, Plain, does}
use Rattle.ax_plain.specs.Handler.{run_from}
use Rattle.ax_plain.specs.declared.handler.RunFacts.{RunFacts}
use Rattle.ax_plain.specs.declared.plain.PlainThread.{PlainThread}

-- the states that are held of each key
abbrev pub Held : Type 0
Held = BTreeMap Key (List Cell)

abbrev pub cells_or : List Kind → Option (List Cell) → Cells
cells_or kinds None = untouched kinds
cells_or kinds (Some cells) = shown_cells cells

-- what every key has; the states of a key of which nothing is held were never touched
abbrev pub map_of : List Kind → Held → List Timer → Map
map_of kinds held timers key = record { cells = cells_or kinds (get key_cmp held key); times = times_of timers key }

-- the plain thread of the definitions, of which what was written is left aside
abbrev pub shown_plain : List Kind → PlainThread → Plain
shown_plain kinds thread = record { wm = thread.wm; keys = keys thread.states; map = map_of kinds thread.states thread.timers; entries = [] }

abbrev pub FitsIfHeld : List Kind → Option (List Cell) → Type 0
FitsIfHeld kinds None = Unit {0}
FitsIfHeld kinds (Some cells) = cell_kinds cells ≡ kinds

-- what is held of each key has just these kinds, and a key of which nothing is held has no timer
pub record Fits (kinds : List Kind) (held : Held) (timers : List Timer) : Type 0 where
  pub cells : (key : Key) → FitsIfHeld kinds (get key_cmp held key)
  pub times : (key : Key) → get key_cmp held key ≡ None → times_of timers key ≡ []

abbrev pub ThreadFits : List Kind → PlainThread → Type 0
ThreadFits kinds thread = Fits kinds thread.states thread.timers

-- behind the run of a key's handler
abbrev pub run_at : Program → Handler → RunFacts → Key → Plain → Plain
run_at p handler facts key s = does key (s.map key) (run_from p handler facts (s.map key).cells) s

-- each other key has the states and times that it had
abbrev pub LeavesKeys : Key → Map → Map → Type 0
LeavesKeys key old new = (q : Key) → bytes_eq key q ≡ false → new q ≡ old q

-- what an event leaves alone, also where an error cuts it short: a row every other key, and a barrier all
abbrev pub LeavesRest : Event → Map → Map → Type 0
LeavesRest (Row key time values) old new = LeavesKeys key old new
LeavesRest (Mark time) old new = Unit {0}
LeavesRest (Barrier id) old new = new ≡ old

-- nothing is held of a key, and nothing has happened
pub record IsAbsent (kinds : List Kind) (key : Key) (old new : PlainThread) (h h' : Option (List ℕ)) : Type 0 where
  pub none : get key_cmp new.states key ≡ None
  pub same : shown_plain kinds new ≡ shown_plain kinds old
  pub silent : h' ≡ h
