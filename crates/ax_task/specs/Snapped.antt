-- What a key has: the states that its shard holds of it, and its timers.
use Rattle.ax_text.specs.KeyStates.{KeyState}
use Rattle.ax_machine.specs.Entries.{Key}
use Rattle.ax_machine.specs.Blocks.{Part}
use Rattle.ax_time.specs.Timers.{times_of}
use Rattle.ax_core.specs.Views.{timers_of}
use Rattle.ax_task.specs.Shards.{held}
use Rattle.ax_task.specs.Refined.{content_over}
use Rattle.ax_task.specs.declared.engine.Engine.{Engine}

abbrev pub state_at : Engine → Key → KeyState
state_at e k = record { cells = content_over e.settings (held e.shards) k; times = times_of (timers_of e.core) k }

abbrev pub part_at : Engine → Key → Part
part_at e k = record { key = k; state = state_at e k }
