use Rattle.std.proofs.Common.{ap}
use Rattle.ax_future.specs.Nodes.{control_in, cursor_in, next_in}
use Rattle.ax_future.proofs.WayLemmas.{wait_goes_on, arms_go_on}
use Rattle.ax_future.proofs.nodes.compose.Goals as goal

pub returns-in_ok-cursor-in-Wait-clause-left : goal.returns-in_ok-cursor-in-Wait-clause-left
returns-in_ok-cursor-in-Wait-clause-left c p f answers w =
    wait_goes_on f answers (control_in p c.args.first) (cursor_in p c.in-Wait.cursor.items) (cursor_in p c.in_ok-cursor-in-Wait.cursor.items) (cursor_in p c.args.rest.items)
    c.in-Wait.slot c.in-Wait.request (next_in p c.in-Wait.next) (ap (control_in p) c.in-Wait.is) (c.in_ok-cursor-in-Wait.ensures p) w

pub returns-in_ok-cursor-in-Arms-clause-left : goal.returns-in_ok-cursor-in-Arms-clause-left
returns-in_ok-cursor-in-Arms-clause-left c p f answers w =
    arms_go_on f answers (control_in p c.args.first) (cursor_in p c.in-Arms.cursor.items) (cursor_in p c.in_ok-cursor-in-Arms.cursor.items) (cursor_in p c.args.rest.items)
    (control_in p c.in-Arms.one.value) (control_in p c.in-Arms.two.value) (ap (control_in p) c.in-Arms.is) (c.in_ok-cursor-in-Arms.ensures p) w
