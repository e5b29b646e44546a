-- What a run has done, by how it ended, in words that don't go by the status.
use Rattle.std.specs.Prelude.{◌≡◌, ℕ, List, [], Option, Some, true}
use Rattle.std.specs.Io.KnownBytes.{Appends}
use Rattle.ax_text.specs.Programs.{Program}
use Rattle.ax_machine.specs.Entries.{Entry, text_of}
use Rattle.ax_machine.specs.Lawful.{LawfulFor}
use Rattle.ax_task.specs.Parse.{Stream, Ending, Clean, Fault, BadProgram, Runs, parse}
use Rattle.ax_task.specs.Clause.{Holds}
use Rattle.ax_task.specs.Laws.{OfWholeLines, WroteWhatIsRead, WroteAPart}
use Rattle.ax_words.specs.declared.options.Options.{Options}
use Rattle.ax_cli.specs.declared.status.Status.{Status}
use Rattle.ax_cli.specs.declared.status.Status.TheVariants as status

-- the words were accepted, the bytes say a program and events that end so, and the text of a list was written that is lawful for these
-- events, in serial mode and with as many key groups as the words name
pub record WroteLawful (asked : Option Options) (out : Holds) (bytes : List ℕ) (ending : Ending) : Type 0 where
  pub options : Options
  pub accepted : asked ≡ Some options
  pub program : Program
  pub stream : Stream
  pub says : parse bytes ≡ Runs program stream
  pub ends : stream.ending ≡ ending
  pub written : List Entry
  pub lawful : LawfulFor options.max_parallelism true program stream.events written
  pub grown : Appends out.old out.new (text_of written)

-- the bytes say no program, since this line has a fault of this kind, and nothing was written
pub record WroteNothing (out : Holds) (bytes : List ℕ) (line kind : ℕ) : Type 0 where
  pub says : parse bytes ≡ BadProgram line kind
  pub same : Appends out.old out.new []

-- the words were accepted; of the bytes some were taken, and for the whole lines among them all was written that they say
pub record WroteAllThatWasRead (asked : Option Options) (out : Holds) (bytes rest : List ℕ) : Type 0 where
  pub options : Options
  pub accepted : asked ≡ Some options
  pub lines : OfWholeLines bytes rest (WroteWhatIsRead options.max_parallelism true out)

-- the same where a first part was written
pub record WroteSome (asked : Option Options) (out : Holds) (bytes rest : List ℕ) : Type 0 where
  pub options : Options
  pub accepted : asked ≡ Some options
  pub lines : OfWholeLines bytes rest (WroteAPart options.max_parallelism true out)

-- what the bytes of an input say, as a status
pub data Says (bytes : List ℕ) : Status → Type 0 where
  SaysProgramFault : (line kind : ℕ) → parse bytes ≡ BadProgram line kind → Says bytes (status.Program line kind)
  SaysEvents : (program : Program) (stream : Stream) → parse bytes ≡ Runs program stream → stream.ending ≡ Clean → Says bytes status.Ok
  SaysInputFault : (program : Program) (stream : Stream) (line kind : ℕ) → parse bytes ≡ Runs program stream → stream.ending ≡ Fault line kind → Says bytes (status.Input line kind)
