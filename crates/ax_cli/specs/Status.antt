-- What a whole run does, by its status.
use Rattle.std.specs.Prelude.{◌≡◌, ℕ, ◌-◌, ◌^◌, ◌<◌, List, Bool, true, Option, Some, None, ◌⊎◌}
use Rattle.std.specs.Io.KnownBytes.{Keeps}
use Rattle.ax_base.specs.Outside.{Told, Counts}
use Rattle.ax_task.specs.Parse.{Parsed, BadProgram, Runs, Ending, Clean, Fault, parse}
use Rattle.ax_task.specs.Clause.{Holds, RunEnds, Stops, RunCounts, AllStay, EndCounts}
use Rattle.ax_words.specs.declared.options.Options.{Options}
use Rattle.ax_task.specs.declared.config.Config.{Config}
use Rattle.ax_task.specs.declared.end.End.{End}
use Rattle.ax_task.specs.declared.end.End.TheVariants as end
use Rattle.ax_cli.specs.FaultLine.{WritesLine, line_of}
use Rattle.ax_cli.specs.declared.status.Status.{Status}
use Rattle.ax_cli.specs.declared.status.Status.TheVariants as status

-- how many key groups the words name; where they are refused there is no run
abbrev pub groups_by : Option Options → ℕ
groups_by None = 0
groups_by (Some options) = options.max_parallelism

-- whether watermarks wait for all that precedes them, and all that follows waits for them
abbrev pub serial : Bool
serial = true

-- how the program works by these options
abbrev pub config_for : Options → Config
config_for o = record { settings = record { serial = serial; shards = o.shards; groups = o.max_parallelism; in_flight = o.in_flight }; batch = o.batch }

-- the words are accepted
abbrev pub AreAccepted : Option Options → Type 0
AreAccepted None = ⊥
AreAccepted (Some options) = Unit {0}

-- the code with which the process ends
abbrev pub code_of : Status → ℕ
code_of status.Ok = 0
code_of status.NoMemory = 1
code_of status.Usage = 2
code_of (status.Program line kind) = 3
code_of (status.Input line kind) = 4
code_of status.Read = 5
code_of status.Write = 6

-- the end of a run that a status tells, where it tells one
abbrev pub end_of : Status → Option End
end_of status.Ok = Some end.Ok
end_of status.NoMemory = Some end.NoMemory
end_of status.Usage = None
end_of (status.Program line kind) = Some (end.Program line kind)
end_of (status.Input line kind) = Some (end.Input line kind)
end_of status.Read = Some end.Read
end_of status.Write = Some end.Write

abbrev pub IsStatus : End → Status → Type 0
IsStatus e s = end_of s ≡ Some e

-- a fact of the end that a status tells; where the words were refused, another one
abbrev pub ByEnd : Option End → Type 0 → (End → Type 0) → Type 0
ByEnd None Refused P = Refused
ByEnd (Some e) Refused P = P e

-- what a run leaves, where there are m key groups and the bytes of the input say this: `left` is what the source still has
abbrev pub StatusOf : ℕ → Holds → Parsed → List ℕ → Status → Type 0
StatusOf m out whole left s = ByEnd (end_of s) (Unit {0}) (RunEnds m serial out whole left)

-- what a run leaves that stops for a fault of its source or its sink, or for want of memory: `left` is what the source still has of
-- these bytes
abbrev pub StatusStops : ℕ → Holds → List ℕ → List ℕ → Status → Type 0
StatusStops m out bytes left s = ByEnd (end_of s) (Unit {0}) (Stops m serial out bytes left)

-- the counts of the source and the sink
abbrev pub StatusCounts : RunCounts → RunCounts → Status → Type 0
StatusCounts old new s = ByEnd (end_of s) (AllStay old new) (EndCounts old new)

-- nothing was read, written or counted
abbrev pub AreUntouched : Option (List ℕ) → Option (List ℕ) → Holds → RunCounts → RunCounts → Type 0
AreUntouched left left' out old new = Keeps left left' × Keeps out.old out.new × AllStay old new

-- a status without a run
abbrev pub IsRefused : Status → Type 0
IsRefused s = (s ≡ status.NoMemory) ⊎ (s ≡ status.Usage)

-- no fault was counted, and the count has not come to its end
abbrev pub NoFault : ℕ → ℕ → Type 0
NoFault before now = (before ≡ now) × (now < 2 ^ 64 - 1)

abbrev pub status_at : Ending → Status
status_at Clean = status.Ok
status_at (Fault line kind) = status.Input line kind

-- the status that the bytes of an input name
abbrev pub status_named : Parsed → Status
status_named (BadProgram line kind) = status.Program line kind
status_named (Runs program stream) = status_at stream.ending

-- the status that the bytes of an input name, or want of memory
abbrev pub IsNamed : Parsed → Status → Type 0
IsNamed whole s = (s ≡ status.NoMemory) ⊎ (s ≡ status_named whole)

-- the same where they name a fault of the program section
abbrev pub IsProgramNamed : Parsed → Status → Type 0
IsProgramNamed (BadProgram line kind) s = IsNamed (BadProgram line kind) s
IsProgramNamed (Runs program stream) s = Unit {0}

-- the streams of a run before it and behind it
pub record Streams : Type 0 where
  -- what the source has left
  pub left : Option (List ℕ)
  pub left_behind : Option (List ℕ)
  pub out : Holds
  -- how often the source failed, and the counts of `out`
  pub counts : RunCounts
  pub counts_behind : RunCounts
  pub err : Holds
  pub err_counts : Counts
  pub err_counts_behind : Counts

-- what a run leaves, by its status, where the words ask for this
pub record Leaves (asked : Option Options) (s : Streams) (t : Status) : Type 0 where
  pub usage : t ≡ status.Usage → asked ≡ None
  pub refused : asked ≡ None → IsRefused t
  pub untouched : asked ≡ None → AreUntouched s.left s.left_behind s.out s.counts s.counts_behind
  pub told : Told s.left s.left_behind (λ a b. StatusOf (groups_by asked) s.out (parse a) b t)
  pub stopped : Told s.left s.left_behind (λ a b. StatusStops (groups_by asked) s.out a b t)
  pub counts : StatusCounts s.counts s.counts_behind t
  pub complete : AreAccepted asked → NoFault s.counts.reads s.counts_behind.reads → NoFault s.counts.writes.faults s.counts_behind.writes.faults
      → Told s.left s.left_behind (λ a b. IsNamed (parse a) t)
  pub no_program : AreAccepted asked → NoFault s.counts.reads s.counts_behind.reads → Told s.left s.left_behind (λ a b. IsProgramNamed (parse a) t)
  pub line : WritesLine s.err s.err_counts s.err_counts_behind (line_of t)
