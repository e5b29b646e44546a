-- Whole runs, of which the laws are said.
use Rattle.std.specs.Prelude.{ℕ, List}
use Rattle.ax_text.specs.Programs.{Program}
use Rattle.ax_execution.specs.Accepted.{AreAccepted}
use Rattle.ax_execution.specs.Origins.{Origin, IsOrigin}
use Rattle.ax_execution.specs.Machine.{Machine, Happening, Rules, Outcome, happens, outcome, machine_from, machine_of}
use Rattle.ax_execution.specs.Allowed.{IsRun}

-- a program whose handlers are accepted, an origin that fits it, and events from there, each allowed at its place
pub record AcceptedRun : Type 0 where
  pub rules : Rules
  -- how many key groups there are
  pub groups : ℕ
  pub program : Program
  pub from : Origin
  pub events : List Happening
  pub accepted : AreAccepted program
  pub origin : IsOrigin program from
  pub allowed : IsRun rules groups program events (machine_from from)

-- the machine behind the events
abbrev pub end_of : AcceptedRun → Machine
end_of run = machine_of run.groups run.program run.from run.events

-- behind one more event
abbrev pub end_with : AcceptedRun → Happening → Machine
end_with run e = happens run.groups run.program e (end_of run)

-- what one more event does besides
abbrev pub outcome_at : AcceptedRun → Happening → Outcome
outcome_at run e = outcome run.groups run.program e (end_of run)
