-- What the code holds, as the definitions take it.
use Rattle.std.specs.Prelude.{Option, Some, None}
use Rattle.ax_machine.specs.Events.{Event, Row, Mark as MarkEvent, Barrier}
use Rattle.ax_machine.specs.OutLines.{OutLine, Out, Mark, Head, Value, Item, Entry, Timer, End}
use Rattle.ax_input.specs.declared.event.Event.{Event as CodeEvent}
use Rattle.ax_input.specs.declared.event.Event.TheVariants as event
use Rattle.ax_input.specs.declared.line.OutLine.{OutLine as CodeLine}
use Rattle.ax_input.specs.declared.line.OutLine.TheVariants as line
use Rattle.ax_input.specs.declared.line.SnapLine.{SnapLine}
use Rattle.ax_input.specs.declared.line.SnapLine.TheVariants as snap

abbrev pub shown_event : CodeEvent → Event
shown_event (event.Row key time values) = Row key time values
shown_event (event.Mark time) = MarkEvent time
shown_event (event.Barrier id) = Barrier id

abbrev pub shown_snap : SnapLine → OutLine
shown_snap (snap.Head id wm) = Head id wm
shown_snap (snap.Value key state number) = Value key state number
shown_snap (snap.Item key state number) = Item key state number
shown_snap (snap.Entry key state at number) = Entry key state at number
shown_snap (snap.Timer key time) = Timer key time
shown_snap (snap.End id count) = End id count

abbrev pub shown_line : CodeLine → OutLine
shown_line (line.Out key values) = Out key values
shown_line (line.Mark time) = Mark time
shown_line (line.Snap snap) = shown_snap snap

abbrev pub snap_some : Option SnapLine → Option OutLine
snap_some None = None
snap_some (Some l) = Some (shown_snap l)

abbrev pub line_some : Option CodeLine → Option OutLine
line_some None = None
line_some (Some l) = Some (shown_line l)
