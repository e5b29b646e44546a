-- What a snapshot holds of a key.
use Rattle.std.specs.Prelude.{List}
use Rattle.ax_text.specs.Cells.{Cell}
use Rattle.ax_time.specs.declared.timer.Timer.{Timer}
use Rattle.ax_time.specs.Timers.{times_of}
use Rattle.ax_machine.specs.Entries.{Key}
use Rattle.ax_snapshot.specs.declared.snapshot.KeySnap.{KeySnap}

-- what is held of a key, with the times of its timers
abbrev pub shown_snap : List Timer → (Key × List Cell) → KeySnap
shown_snap timers e = record { key = e.0; cells = e.1; timers = times_of timers e.0 }
