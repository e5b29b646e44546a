-- What a step does: one thing, the first that can be done.
use Rattle.std.specs.Prelude.{◌≡◌, ℕ, List, [], true, false, Option, Some, None, IsSome, IfSome, Ok}
use Rattle.std.specs.Io.KnownBytes.{Appends, Keeps, append_known}
use Rattle.ax_base.specs.Outside.{Told, AppendsSome}
use Rattle.ax_base.specs.Reader.{Reader}
use Rattle.ax_machine.specs.Entries.{says, text_of}
use Rattle.ax_input.specs.Shown.{shown_event}
use Rattle.ax_input.specs.declared.event.Event.{Event as CodeEvent}
use Rattle.ax_time.specs.declared.epoch.Marker.{Marker}
use Rattle.ax_execution.specs.MachineControls.{MachineControl}
use Rattle.ax_execution.specs.ControlsAllowed.{FirstIsFinishedOn}
use Rattle.ax_core.specs.declared.effects.Fired.{Fired}
use Rattle.ax_core.specs.declared.effects.Effects.{Effects}
use Rattle.ax_core.specs.May.{may_fire, has_mail}
use Rattle.ax_core.specs.Sound.{StandsFor}
use Rattle.ax_task.specs.Passes.{events_at, feed_of, NextPasses}
use Rattle.ax_task.specs.Engines.{WroteMarker, WritesPart, may_take}
use Rattle.ax_task.specs.Calls.{HasFired, HasRun, HasSent, HasTaken}
use Rattle.ax_task.specs.Exchanged.{NothingWaits, is_something}
use Rattle.ax_task.specs.Exchanged as exchanged
use Rattle.ax_task.specs.Due.{IsLooked}
use Rattle.ax_task.specs.Tasks.{Outer, ReadsOn}
use Rattle.ax_task.specs.Running.{State}
use Rattle.ax_task.specs.declared.engine.Engine.{Engine}
use Rattle.ax_task.specs.declared.reading.Reading.{Reading}
use Rattle.ax_task.specs.declared.driver.Did.{Did}
use Rattle.ax_task.specs.declared.driver.Did.TheVariants as did
use Rattle.ax_task.specs.declared.end.End.{End}
use Rattle.ax_task.specs.declared.end.End.TheVariants as end
use Rattle.ax_task.specs.declared.step.Step.{Step}
use Rattle.ax_task.specs.declared.step.Step.TheVariants as step

-- what a sink holds, and what is gathered for it
pub record Output : Type 0 where
  pub holds : Option (List ℕ)
  pub gathered : List ℕ

abbrev pub text_in : Output → Option (List ℕ)
text_in o = append_known o.holds o.gathered

abbrev pub OutputStays : Output → Output → Type 0
OutputStays o o' = o' ≡ o

-- what a task has read and not taken, and what its reader and its source have left
pub record Input : Type 0 where
  pub reading : Reading
  pub lines : Reader
  pub left : Option (List ℕ)
  pub reads : ℕ

-- what is left to do for the events that were taken, but for requests
pub data Work : Type 0 where
  -- a key fires
  Fires : Fired → Work
  -- a callback is run
  RunsMail : Effects → Work
  -- a marker is sent
  SendsMarker : Marker → Work

-- the oldest closed epoch is finished
abbrev pub IsFinished : Engine → Type 0
IsFinished e = (m : MachineControl) → StandsFor e.core m → FirstIsFinishedOn m.unsent m

-- each comes only where none before it can be done
abbrev pub WorkComes : Engine → Work → Type 0
WorkComes e (Fires f) = may_fire e.core ≡ true
WorkComes e (RunsMail f) = (may_fire e.core ≡ false) × (has_mail e.core ≡ true)
WorkComes e (SendsMarker k) = (may_fire e.core ≡ false) × (has_mail e.core ≡ false) × IsFinished e

abbrev pub WorkLeads : Engine → Engine → Work → Type 0
WorkLeads old new (Fires f) = HasFired old new f
WorkLeads old new (RunsMail f) = HasRun old new f
WorkLeads old new (SendsMarker k) = HasSent old new k

-- what it adds to the output: the lines of a callback, a marker with all that was gathered before it, and else nothing
abbrev pub WorkWrites : Engine → Work → Output → Output → Type 0
WorkWrites new (Fires f) o o' = OutputStays o o'
WorkWrites new (RunsMail f) o o' = Appends (text_in o) (text_in o') (text_of (says f.key f.outs))
WorkWrites new (SendsMarker k) o o' = WroteMarker new k (text_in o) (text_in o') × (o'.gathered ≡ [])

-- the marker of the oldest closed epoch, which is finished, was sent
pub record SendsThrough (old new : Engine) (o o' : Output) : Type 0 where
  pub marker : Marker
  pub finished : IsFinished old
  pub sent : HasSent old new marker
  pub writes : WorkWrites new (SendsMarker marker) o o'

pub record DoesWork (old new : Engine) (o o' : Output) : Type 0 where
  pub work : Work
  pub comes : WorkComes old work
  pub leads : WorkLeads old new work
  pub writes : WorkWrites new work o o'

-- how much of its text is written where it breaks off: some first part. A key that fires has none
abbrev pub WorkCuts : Engine → Work → Output → Output → Type 0
WorkCuts new (Fires f) o o' = ⊥
WorkCuts new (RunsMail f) o o' = AppendsSome (text_in o) (text_in o') (text_of (says f.key f.outs))
WorkCuts new (SendsMarker k) o o' = WritesPart new k (text_in o) (text_in o')

-- the marker of the oldest closed epoch, which is finished, was taken, and some first part of it was written
pub record CutsThrough (old new : Engine) (o o' : Output) : Type 0 where
  pub marker : Marker
  pub finished : IsFinished old
  pub sent : HasSent old new marker
  pub writes : WorkCuts new (SendsMarker marker) o o'

-- no key may fire, no mail waits, and the oldest closed epoch, if any, isn't finished
pub record NoWork (e : Engine) : Type 0 where
  pub fires : may_fire e.core ≡ false
  pub mails : has_mail e.core ≡ false
  pub sends : (m : MachineControl) → StandsFor e.core m → FirstIsFinishedOn m.unsent m → ⊥

-- work broke off: memory was short before anything was written for it, or some first part of its text was written
pub data WorkBreaks (old new : Engine) (o o' : Output) : Type 0 where
  Short : (NoWork old → ⊥) → OutputStays o o' → WorkBreaks old new o o'
  Cut : (work : Work) → WorkComes old work → WorkLeads old new work → WorkCuts new work o o' → WorkBreaks old new o o'

-- the next event of the lines: some bytes were passed, and the event and what comes behind it are what they said
abbrev pub IsNextOf : Input → Input → CodeEvent → Type 0
IsNextOf old new event = Told old.left new.left
    (λ a b. NextPasses (events_at old.reading.events.fields old.reading.events.last old.lines) (events_at new.reading.events.fields new.reading.events.last new.lines) (feed_of old.lines a) (feed_of new.lines b) (Ok (Some event)))

-- the input was looked at: where an event was held or an end was found, nothing more was read, and else the next event of the lines is now
-- held, or an end was found
pub record Looks (old new : Input) : Type 0 where
  pub held : IsSome old.reading.next → new ≡ old
  pub ended : IsSome old.reading.found → new ≡ old
  pub next : old.reading.next ≡ None → IfSome new.reading.next (IsNextOf old new)
  pub reads : ReadsOn old.reading new.reading old.lines new.lines old.left new.left old.reads new.reads
  pub looked : IsLooked new.reading

-- what may be done behind that
pub data Next : Type 0 where
  -- the event that is held is taken
  Takes : CodeEvent → Next
  -- requests are sent, or served
  Moves : exchanged.Thing → Next

-- the event that is held, if any, can't be taken
abbrev pub CantTake : Engine → Reading → Type 0
CantTake e r = IfSome r.next (λ event. may_take e.core (shown_event event) ≡ false)

-- an event is taken only where no end was found
abbrev pub NextComes : Engine → Reading → Next → Type 0
NextComes e r (Takes event) = (r.next ≡ Some event) × (r.found ≡ None) × (may_take e.core (shown_event event) ≡ true)
NextComes e r (Moves thing) = CantTake e r × (is_something thing ≡ true) × exchanged.Comes e thing

-- the event was taken, and it is held no more
pub record TakesOf (old new : Engine) (r r' : Reading) (event : CodeEvent) : Type 0 where
  pub taken : HasTaken old new event
  pub none : r'.next ≡ None
  pub events : r'.events ≡ r.events
  pub found : r'.found ≡ r.found

abbrev pub NextLeads : Engine → Engine → Reading → Reading → Next → Type 0
NextLeads old new r r' (Takes event) = TakesOf old new r r' event
NextLeads old new r r' (Moves thing) = exchanged.LeadsTo old new thing × (r' ≡ r)

pub record DoesNext (old new : Engine) (r r' : Reading) : Type 0 where
  pub next : Next
  pub comes : NextComes old r next
  pub leads : NextLeads old new r r' next

-- nothing can be done: no event is held, no request waits and nothing is out
pub record NothingLeft (e : Engine) (r : Reading) : Type 0 where
  pub work : NoWork e
  pub held : r.next ≡ None
  pub waits : NothingWaits e

-- where nothing was done
pub record StaysDone (old new : Engine) (r r' : Reading) : Type 0 where
  pub engine : new ≡ old
  pub reading : r' ≡ r
  pub left : NothingLeft new r'

-- a task between two steps, with its source and its sink
abbrev pub input_of : State → Outer → Input
input_of t now = record { reading = t.reading; lines = t.lines; left = now.left; reads = now.reads }

abbrev pub output_of : State → Outer → Output
output_of t now = record { holds = now.holds; gathered = t.gathered }

-- what was looked for, and what was done then
pub record LooksAndDoes (old new : Engine) (i i' : Input) : Type 0 where
  pub seen : Input
  pub looks : Looks i seen
  pub does : DoesNext old new seen.reading i'.reading
  pub lines : i'.lines ≡ seen.lines
  pub left : i'.left ≡ seen.left
  pub reads : i'.reads ≡ seen.reads

pub record LooksAndRests (old new : Engine) (i i' : Input) : Type 0 where
  pub looks : Looks i i'
  pub engine : new ≡ old
  pub left : NothingLeft new i'.reading

-- one thing was done. Work comes first, and leaves the input; the input is looked at only where there is none, and the output stays then
pub data Does (t t' : State) (old now : Outer) : Type 0 where
  Works : DoesWork t.engine t'.engine (output_of t old) (output_of t' now) → input_of t' now ≡ input_of t old → Does t t' old now
  Goes : NoWork t.engine → LooksAndDoes t.engine t'.engine (input_of t old) (input_of t' now) → OutputStays (output_of t old) (output_of t' now) → Does t t' old now

-- nothing can be done any more
pub record Rests (t t' : State) (old now : Outer) : Type 0 where
  pub looks : Looks (input_of t old) (input_of t' now)
  pub engine : t'.engine ≡ t.engine
  pub left : NothingLeft t'.engine t'.reading
  pub output : OutputStays (output_of t old) (output_of t' now)

-- the same, and all that was gathered is written
pub record Ends (t t' : State) (old now : Outer) : Type 0 where
  pub looks : Looks (input_of t old) (input_of t' now)
  pub engine : t'.engine ≡ t.engine
  pub left : NothingLeft t'.engine t'.reading
  pub gathered : t'.gathered ≡ []
  pub written : Keeps (text_in (output_of t old)) now.holds

-- nothing can be done any more, and what was gathered could not all be written: it is written or gathered still
pub record EndsUnwritten (t t' : State) (old now : Outer) : Type 0 where
  pub looks : Looks (input_of t old) (input_of t' now)
  pub engine : t'.engine ≡ t.engine
  pub left : NothingLeft t'.engine t'.reading
  pub kept : Keeps (text_in (output_of t old)) (text_in (output_of t' now))

-- a step stopped the run for a fault of the sink or for want of memory: work broke off; or there was none, and memory was short for the next
-- event or for requests, and nothing was written; or what was gathered could not all be written at the end
pub data Breaks (t t' : State) (old now : Outer) : Type 0 where
  AtWork : WorkBreaks t.engine t'.engine (output_of t old) (output_of t' now) → Breaks t t' old now
  AtInput : NoWork t.engine → OutputStays (output_of t old) (output_of t' now) → Breaks t t' old now
  AtEnd : EndsUnwritten t t' old now → Breaks t t' old now

-- a fact of an end by what was found at the input; a program has no fault by then
abbrev pub ByEnd : Type 0 → End → Type 0
ByEnd P end.Ok = P
ByEnd P (end.Input line kind) = P
ByEnd P (end.Program line kind) = ⊥
ByEnd P end.Read = P
ByEnd P end.Write = Unit {0}
ByEnd P end.NoMemory = Unit {0}

-- a fact of an end by a fault of the sink or by want of memory
abbrev pub ByStop : Type 0 → End → Type 0
ByStop P end.Ok = Unit {0}
ByStop P (end.Input line kind) = Unit {0}
ByStop P (end.Program line kind) = Unit {0}
ByStop P end.Read = Unit {0}
ByStop P end.Write = P
ByStop P end.NoMemory = P

abbrev pub DidStop : Type 0 → Did → Type 0
DidStop P did.Went = Unit {0}
DidStop P did.Took = Unit {0}
DidStop P (did.End end) = ByStop P end

-- a fact where something was done, and one of an end
abbrev pub ByDid : Type 0 → Type 0 → Did → Type 0
ByDid P Q did.Went = P
ByDid P Q did.Took = P
ByDid P Q (did.End end) = ByEnd Q end

abbrev pub EndDoes : State → State → Outer → Outer → End → Type 0
EndDoes t t' old now end.Ok = Ends t t' old now
EndDoes t t' old now (end.Input line kind) = Ends t t' old now
EndDoes t t' old now (end.Program line kind) = ⊥
EndDoes t t' old now end.Read = Ends t t' old now
EndDoes t t' old now end.Write = Breaks t t' old now
EndDoes t t' old now end.NoMemory = Breaks t t' old now

abbrev pub StepDoes : State → State → Outer → Outer → Step → Type 0
StepDoes t t' old now step.Went = Does t t' old now
StepDoes t t' old now step.Wait = ⊥
StepDoes t t' old now (step.End end) = EndDoes t t' old now end
