-- How the program that runs stands for the machine of seven events: its controller for the control, and what its shards hold for the states
-- of keys.
use Rattle.std.specs.Prelude.{◌≡◌, ℕ, List}
use Rattle.std.specs.List.{Contains}
use Rattle.ax_text.specs.Programs.{Program as AnyProgram}
use Rattle.ax_machine.specs.Entries.{Key, Entry}
use Rattle.ax_machine.specs.Events.{Event}
use Rattle.ax_machine.specs.Sync.{sync}
use Rattle.ax_lang.specs.declared.program.Program.{Program}
use Rattle.ax_lang.specs.Shown.{shown_program}
use Rattle.ax_buffer.specs.declared.items.Item.{Item}
use Rattle.ax_context.specs.Slots.{at}
use Rattle.ax_execution.specs.Origins.{first}
use Rattle.ax_execution.specs.Machine.{Machine, Happening, taken, machine_from, machine_of}
use Rattle.ax_execution.specs.Allowed.{IsRun}
use Rattle.ax_execution.specs.MachineControls.{control_of_machine}
use Rattle.ax_core.specs.declared.settings.Settings.{Settings}
use Rattle.ax_core.specs.declared.controller.Controller.{Controller}
use Rattle.ax_core.specs.Views.{program_of, settings_of, contexts_of}
use Rattle.ax_core.specs.Flow.{shard_of, out_of}
use Rattle.ax_core.specs.Sound.{rules_of, StandsFor}
use Rattle.ax_core.specs.Events.{Asks, names_in, key_in}
use Rattle.ax_task.specs.Serving.{Content}

-- what the states of keys hold, each in the shard of its key
abbrev pub content_over : Settings → (ℕ → Content) → Content
content_over s held k = held (shard_of s k) k

-- the machine behind events that are allowed each at its place, from before the first event: the states of keys hold this, the plain thread
-- does the same with what was read as with what the machine took, and this was written
pub record Reaches (s : Settings) (p : AnyProgram) (content : Content) (read : List Event) (written : List Entry) (m : Machine) : Type 0 where
  pub events : List Happening
  pub run : IsRun (rules_of s) s.groups p events (machine_from (first p))
  pub there : m ≡ machine_of s.groups p (first p) events
  pub states : (k : Key) → (m.parts k).said.state.cells ≡ content k
  pub same : sync s.groups p read ≡ sync s.groups p (taken events)
  pub wrote : m.written ≡ written

-- The controller stands for the control of such a machine. `content` is what the states of keys hold, those under a batch that is out as they
-- were when it left, and `out` is the batch that a shard is out with, empty where it is home: its requests wait, unserved, at their keys.
pub record Refines (s : Settings) (p : Program) (a : Controller) (content : Content) (out : ℕ → List Item) (read : List Event) (written : List Entry) : Type 0 where
  pub program : program_of a ≡ p
  pub settings : settings_of a ≡ s
  pub machine : Machine
  pub reaches : Reaches s (shown_program p) content read written machine
  pub stands : StandsFor a (control_of_machine machine)
  pub names : (shard : ℕ) → out_of a shard ≡ names_in (out shard)
  pub keys : (shard : ℕ) (i : Item) → Contains (out shard) i → key_in (at (contexts_of a) i.id) ≡ i.key
  pub asks : (shard : ℕ) (i : Item) → Contains (out shard) i → Asks a shard (control_of_machine machine) i
