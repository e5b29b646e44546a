use Rattle.std.proofs.Common.{refl}
use Rattle.ax_core.proofs.Sent.{with_epochs, next_sent, next_sound}
use Rattle.ax_core.proofs.Orders.{posts_none}
use Rattle.ax_core.proofs.controller.Controller.next_marker.Goals as goal

pub returns-clause-sound : goal.returns-clause-sound
returns-clause-sound c = next_sound c.counts_stay_law.ensures.taken c.args.self.now c.take_finished-marker.result c.barrier_left-self.result c.take_finished-marker.new.self
    c.sizes_law.ensures c.take_finished-marker.ensures.action c.take_finished-marker.ensures.book c.barrier_left-self.ensures c.requires

pub returns-clause-event : goal.returns-clause-event
returns-clause-event c = next_sent c.counts_stay_law.ensures.taken c.args.self.now c.take_finished-marker.result c.barrier_left-self.result c.take_finished-marker.new.self
    c.sizes_law.ensures c.take_finished-marker.ensures.action c.take_finished-marker.ensures.book c.barrier_left-self.ensures

pub returns-clause-order : goal.returns-clause-order
returns-clause-order c = posts_none c.args.self.now (with_epochs c.args.self.now c.barrier_left-self.result c.take_finished-marker.new.self) c.requires.flow refl refl refl
