use Rattle.std.proofs.Common.{◌≡◌, ◌≤◌, ◌+◌, ◌*◌, length}
use Rattle.ax_text.specs.Controls.{also, begin}
use Rattle.ax_future.specs.Sizes.{sizes, cursor_width}
use Rattle.ax_future.specs.Nodes.{cursor_in, highest}
use Rattle.ax_future.specs.Talks.{known_in, talk_of, asks_in}
use Rattle.ax_future.proofs.begin.+begin.Given as goal

-- the places fall
abbrev pub decreases-begin : goal.decreases-begin
decreases-begin l = 2 * highest l.cursor.items

abbrev pub decreases-begin_arm : goal.decreases-begin_arm
decreases-begin_arm l = 2 * l.place + 1

abbrev pub invariant-begin-loop-cursor : goal.invariant-begin-loop-cursor
invariant-begin-loop-cursor l = record {
  high : highest l.cursor.items ≤ highest l.fn.cursor.items;
  narrow : length l.used + cursor_width (cursor_in l.program l.cursor.items) ≤ 256;
  same : also (asks_in l.going.said.asks) (begin (known_in l.facts) (cursor_in l.program l.cursor.items) l.used (talk_of l.going)) ≡ also (asks_in l.fn.going.said.asks) (begin (known_in l.facts) (cursor_in l.program l.fn.cursor.items) l.used (talk_of l.fn.going));
}

abbrev pub decreases-begin-loop-cursor : goal.decreases-begin-loop-cursor
decreases-begin-loop-cursor l = sizes (cursor_in l.program l.cursor.items)
