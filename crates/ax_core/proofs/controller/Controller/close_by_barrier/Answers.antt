use Rattle.std.proofs.Common.{true, ℤ, w64, to_z, of_z, refl, sym, subst}
use Rattle.std.proofs.lemmas.Int.{to_z-of_z}
use Rattle.ax_time.specs.Epochs.{Book, Fits64}
use Rattle.ax_execution.specs.Machine.{Close, ByBarrier}
use Rattle.ax_core.specs.Sound.{IsSound}
use Rattle.ax_core.specs.Events.{Makes}
use Rattle.ax_core.proofs.Sent.{with_epochs}
use Rattle.ax_core.proofs.ClosedBy.{barrier_closes, barrier_sound}
use Rattle.ax_core.proofs.Orders.{posts_none}
use Rattle.ax_core.proofs.controller.Controller.close_by_barrier.Goals as goal

pub returns-clause-sound : goal.returns-clause-sound
returns-clause-sound c = subst (λ (book : Book). IsSound (with_epochs c.args.self.now true book)) (sym c.in_ok-close.ensures.ok)
    (barrier_sound c.counts_stay_law.ensures.closed c.args.self.now (to_z w64 (of_z w64 c.args.id)) c.sizes_law.ensures (subst Fits64 c.in_ok-close.ensures.ok c.sizes_law-2.ensures) c.requires.may c.requires.sound)

pub returns-clause-event : goal.returns-clause-event
returns-clause-event c = λ m h.
    subst (λ (z : ℤ). Makes c.args.self.now (with_epochs c.args.self.now true c.close.new.self) (Close (ByBarrier z)) m) (to_z-of_z w64 c.args.id c.ranges.id)
    (subst (λ (book : Book). Makes c.args.self.now (with_epochs c.args.self.now true book) (Close (ByBarrier (to_z w64 (of_z w64 c.args.id)))) m) (sym c.in_ok-close.ensures.ok)
    (barrier_closes c.counts_stay_law.ensures.closed c.args.self.now (to_z w64 (of_z w64 c.args.id)) c.sizes_law.ensures (subst Fits64 c.in_ok-close.ensures.ok c.sizes_law-2.ensures) c.requires.may m h))

pub returns-clause-order : goal.returns-clause-order
returns-clause-order c = posts_none c.args.self.now (with_epochs c.args.self.now true c.close.new.self) c.requires.sound.flow refl refl refl
