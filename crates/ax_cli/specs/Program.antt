-- What the words of the command line bring.
use Rattle.std.specs.Prelude.{◌≡◌, List, drop, Option, None, Result, Ok, Err}
use Rattle.ax_words.specs.Words.{Text}
use Rattle.ax_words.specs.Options.{options_of}
use Rattle.ax_words.specs.declared.options.Options.{Options}
use Rattle.std_io.specs.declared.io.kind.ErrorKind.{ErrorKind}
use Rattle.std_io.specs.declared.io.kind.ErrorKind.TheVariants as kind
use Rattle.ax_cli.specs.declared.status.Status.{Status}
use Rattle.ax_cli.specs.declared.status.Status.TheVariants as status

-- the status where there is no list of words: it was want of memory, or else they are refused
abbrev pub IsWithoutWords : ErrorKind → Status → Type 0
IsWithoutWords k s = (k ≡ kind.OutOfMemory → s ≡ status.NoMemory) × ((k ≡ kind.OutOfMemory → ⊥) → s ≡ status.Usage)

-- the words that the process got, where there is a list of them
abbrev pub listed : {A : Type 0} → (A → List Text) → Result A ErrorKind → Result (List Text) ErrorKind
listed f (Ok args) = Ok (f args)
listed f (Err k) = Err k

-- what the words after the program's name ask for, which stands first; nothing, where there is no list of them
abbrev pub asked_by : Result (List Text) ErrorKind → Option Options
asked_by (Ok args) = options_of (drop 1 args)
asked_by (Err k) = None

-- the status where there is no list of words
abbrev pub IsWithout : Result (List Text) ErrorKind → Status → Type 0
IsWithout (Ok args) s = Unit {0}
IsWithout (Err k) s = IsWithoutWords k s
