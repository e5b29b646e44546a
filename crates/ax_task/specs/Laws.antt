-- What the bytes of an input and those of an output tell, and what an end tells.
use Rattle.std.specs.Prelude.{◌≡◌, ◌<◌, ◌-◌, ◌^◌, ℕ, List, [], ◌∷◌, ◌++◌, map, length, Bool, Some}
use Rattle.std.specs.Io.KnownBytes.{Appends}
use Rattle.ax_base.specs.Outside.{AppendsSome}
use Rattle.ax_text.specs.Programs.{Program}
use Rattle.ax_machine.specs.Entries.{Entry, text_of}
use Rattle.ax_machine.specs.Events.{Event}
use Rattle.ax_machine.specs.Lawful.{LawfulFor, LawfulSoFarFor}
use Rattle.ax_input.specs.PlainEntries.{IsShort}
use Rattle.ax_execution.specs.MachineControls.{MachineControl, in_flight_on}
use Rattle.ax_execution.specs.ControlsAllowed.{NoneIsIdleOn}
use Rattle.ax_core.specs.declared.controller.Controller.{Controller}
use Rattle.ax_core.specs.Numbers.{Call, AreCalls, numbers_of, numbers_from}
use Rattle.ax_core.specs.Sound.{StandsFor}
use Rattle.ax_task.specs.Sections.{IsUnfinished}
use Rattle.ax_task.specs.Parse.{Parsed, BadProgram, Runs, Stream, Ending, Clean, section_in, parse}
use Rattle.ax_task.specs.Clause.{Holds, AreWholeLines}
use Rattle.ax_task.specs.Due.{IsFree}
use Rattle.ax_task.specs.Things.{NothingLeft, StepDoes}
use Rattle.ax_task.specs.Tasks.{Outer}
use Rattle.ax_task.specs.Running.{State}
use Rattle.ax_task.specs.declared.end.End.{End}
use Rattle.ax_task.specs.declared.end.End.TheVariants as end
use Rattle.ax_task.specs.declared.step.Step.TheVariants as step

-- an input that says a program, for whose events this list may be written as a whole, where there are m key groups
abbrev pub MayEndWith : ℕ → Bool → Parsed → List Entry → Type 0
MayEndWith m serial (BadProgram line kind) written = ⊥
MayEndWith m serial (Runs p s) written = LawfulFor m serial p s.events written

-- the same of a list that may be written so far
abbrev pub MayHaveWritten : ℕ → Bool → Parsed → List Entry → Type 0
MayHaveWritten m serial (BadProgram line kind) written = ⊥
MayHaveWritten m serial (Runs p s) written = LawfulSoFarFor m serial p s.events written

-- of such lists for any two inputs, with any two modes and numbers of key groups, equal texts mean equal lists
abbrev pub TextsTell : (ℕ → Bool → Parsed → List Entry → Type 0) → List ℕ → List ℕ → Type 0
TextsTell Writes input other =
    (m n : ℕ) (serial mode : Bool) (one two : List Entry) → Writes m serial (parse input) one → Writes n mode (parse other) two → IsShort one → text_of one ≡ text_of two → one ≡ two

-- a first part of the text of a list was written, which may be written so far for these events
pub record PartIsWritten (m : ℕ) (serial : Bool) (p : Program) (events : List Event) (out : Holds) : Type 0 where
  pub list : List Entry
  pub lawful : LawfulSoFarFor m serial p events list
  pub part : AppendsSome out.old out.new (text_of list)

-- nothing was written where these lines say no program
abbrev pub PartOf : ℕ → Bool → Holds → Parsed → Type 0
PartOf m serial out (BadProgram line kind) = Appends out.old out.new []
PartOf m serial out (Runs p s) = PartIsWritten m serial p s.events out

-- of the bytes of an input some were taken, and this is so of the whole lines among them
pub record OfWholeLines (bytes left : List ℕ) (P : List ℕ → Type 0) : Type 0 where
  pub taken : List ℕ
  pub lines : List ℕ
  pub all : bytes ≡ taken ++ left
  pub whole : AreWholeLines taken left lines
  pub wrote : P lines

-- the input says a program and events that end so, and the sink grew by the text of a list that is lawful for all of them
pub record WroteAll (m : ℕ) (serial : Bool) (out : Holds) (input : Parsed) (ending : Ending) : Type 0 where
  pub program : Program
  pub stream : Stream
  pub says : input ≡ Runs program stream
  pub ends : stream.ending ≡ ending
  pub list : List Entry
  pub lawful : LawfulFor m serial program stream.events list
  pub text : Appends out.old out.new (text_of list)

-- these lines say a program, and for their events a part was written
pub record WroteAPart (m : ℕ) (serial : Bool) (out : Holds) (lines : List ℕ) : Type 0 where
  pub program : Program
  pub stream : Stream
  pub says : parse lines ≡ Runs program stream
  pub part : PartIsWritten m serial program stream.events out

-- these lines end before the program section does, and nothing was written; or they say a program and events without a fault, and all was
-- written for them
pub data WroteWhatIsRead (m : ℕ) (serial : Bool) (out : Holds) (lines : List ℕ) : Type 0 where
  InSection : IsUnfinished (section_in lines) → Appends out.old out.new [] → WroteWhatIsRead m serial out lines
  InEvents : WroteAll m serial out (parse lines) Clean → WroteWhatIsRead m serial out lines

-- the ends by what was found at the input
abbrev pub IsFoundEnd : End → Type 0
IsFoundEnd end.Ok = Unit {0}
IsFoundEnd (end.Input line kind) = Unit {0}
IsFoundEnd (end.Program line kind) = ⊥
IsFoundEnd end.Read = Unit {0}
IsFoundEnd end.Write = ⊥
IsFoundEnd end.NoMemory = ⊥

-- in each control for which a controller stands nothing is in flight, no marker is to be sent, and no key is idle
pub record NothingGoesOn (a : Controller) : Type 0 where
  pub flight : (m : MachineControl) → StandsFor a m → in_flight_on m ≡ 0
  pub unsent : (m : MachineControl) → StandsFor a m → m.unsent ≡ []
  pub idle : (m : MachineControl) → StandsFor a m → NoneIsIdleOn m

-- it was found; none of the things can be done that a step does: no key may fire, no mail waits, no marker is to be sent, no event is held, no
-- request waits and no batch is out; nothing is in flight; and nothing is gathered that isn't written
pub record LeftNothing (t : State) (e : End) : Type 0 where
  pub found : t.reading.found ≡ Some e
  pub left : NothingLeft t.engine t.reading
  pub free : IsFree t.engine.core
  pub none : NothingGoesOn t.engine.core
  pub gathered : t.gathered ≡ []

-- a step of a task: what its source and its sink told before it and behind it, and the task that it leaves
pub record Stepped : Type 0 where
  pub before : Outer
  pub behind : Outer
  pub leaves : State

-- steps in their order, each of which did a thing
abbrev pub AreSteps : State → List Stepped → Type 0
AreSteps t [] = Unit {0}
AreSteps t (s ∷ ss) = StepDoes t s.leaves s.before s.behind step.Went × AreSteps s.leaves ss

-- as calls they leave these controllers, one after the other
pub record AsCalls (t : State) (steps : List Stepped) : Type 0 where
  pub calls : List Call
  pub leaves : map (λ c. c.leaves) calls ≡ map (λ s. s.leaves.engine.core) steps
  pub are : AreCalls t.engine.core calls

-- the contexts that calls made are counted from 1 on
abbrev pub AreCounted : List Call → Type 0
AreCounted calls = length (numbers_of calls) < 2 ^ 64 - 1 → numbers_of calls ≡ numbers_from 1 (length (numbers_of calls))
