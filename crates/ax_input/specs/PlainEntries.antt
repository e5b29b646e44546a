-- The entries of runs: the plain thread of a valid program takes events that lines spell.
use Rattle.std.specs.Prelude.{◌≡◌, ℕ, ◌^◌, ◌<◌, List, length, Bool, true}
use Rattle.std.specs.List.{list_all, AllByRecursion}
use Rattle.ax_text.specs.Programs.{Program}
use Rattle.ax_text.specs.Valid.{IsValid}
use Rattle.ax_machine.specs.Entries.{Entry, text_of}
use Rattle.ax_machine.specs.Events.{Event}
use Rattle.ax_machine.specs.Sync.{sync}
use Rattle.ax_machine.specs.Lawful.{LawfulFor, LawfulSoFarFor}
use Rattle.ax_input.specs.Events.{is_event}
use Rattle.ax_input.specs.Laws.{IsPlain}

-- an output of fewer than 2 ^ 63 bytes: the number of lines of each of its blocks has 64 bits
abbrev pub IsShort : List Entry → Type 0
IsShort es = length (text_of es) < 2 ^ 63

-- a valid program, and events that lines spell
pub record IsRun (p : Program) (events : List Event) : Type 0 where
  pub valid : IsValid p
  pub spelled : list_all is_event events ≡ true

-- what the plain thread writes, where there are m key groups, is spelled by lines
abbrev pub WritesPlain : ℕ → Program → List Event → Type 0
WritesPlain m p events = IsRun p events → IsShort (sync m p events).entries → AllByRecursion IsPlain (sync m p events).entries

-- so is what may have been written so far, and what may be written as a whole
abbrev pub SoFarIsPlain : ℕ → Bool → Program → List Event → List Entry → Type 0
SoFarIsPlain m serial p events written = IsRun p events → LawfulSoFarFor m serial p events written → IsShort written → AllByRecursion IsPlain written

abbrev pub WholeIsPlain : ℕ → Bool → Program → List Event → List Entry → Type 0
WholeIsPlain m serial p events written = IsRun p events → LawfulFor m serial p events written → IsShort written → AllByRecursion IsPlain written

-- of two lists that may have been written so far, the bytes determine which it is
abbrev pub BytesTell : ℕ → Bool → Program → List Event → List Entry → List Entry → Type 0
BytesTell m serial p events one two =
    IsRun p events → LawfulSoFarFor m serial p events one → LawfulSoFarFor m serial p events two → IsShort one → text_of one ≡ text_of two → one ≡ two
