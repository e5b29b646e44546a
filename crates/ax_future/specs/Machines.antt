-- What a machine stands for.
use Rattle.ax_text.specs.Exprs.{Names}
use Rattle.ax_text.specs.Programs.{program_width}
use Rattle.ax_text.specs.Controls.{Control, Turn}
use Rattle.ax_text.specs.Sound as control
use Rattle.ax_lang.specs.declared.program.Program.{Program}
use Rattle.ax_lang.specs.Shown.{shown_program, shown_kinds}
use Rattle.ax_future.specs.declared.machine.Machine.{Machine}
use Rattle.ax_future.specs.declared.callback.Turn.{Turn as CodeTurn}
use Rattle.ax_future.specs.Nodes.{control_in}
use Rattle.ax_future.specs.Talks.{names_at, asks_in}

-- where it stands in a program
abbrev pub control_of : Program → Machine → Control
control_of p m = control_in p m.node

-- the numbers of its local names
abbrev pub names_of : Machine → Names
names_of m = names_at m.going.names.items

-- what its last callback said
abbrev pub said_by : Machine → CodeTurn
said_by m = m.going.said

-- what a callback leaves
abbrev pub left_by : Program → Machine → CodeTurn → Turn
left_by p m t = record { control = control_of p m; talk = record { names = names_of m; lines = t.outs; ops = t.timer_ops }; asks = asks_in t.asks }

-- its arms are apart and wait at different slots, at most as many requests are out as the program is wide, at slots
-- below that, the program's states serve each request that it makes, and it waits unless it is done
abbrev pub IsSound : Program → Machine → Type 0
IsSound p m = control.IsSound (program_width (shown_program p)) (shown_kinds p) (control_of p m)
