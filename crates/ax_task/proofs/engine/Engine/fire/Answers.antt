use Rattle.std.proofs.Common.{refl}
use Rattle.ax_task.proofs.EngineLemmas.{shards_stay, fire_moves}
use Rattle.ax_task.proofs.Lesser.{fire_less}
use Rattle.ax_task.proofs.engine.Engine.fire.Goals as goal

pub returns-clause-moves : goal.returns-clause-moves
returns-clause-moves c =
    let fired = c.in_ok-fire_next.ensures in
    fire_moves c.args.self.now _ (shards_stay _ _ refl refl refl) fired.sound fired.same fired.outs fired.keys _ fired.event

pub returns-clause-falls : goal.returns-clause-falls
returns-clause-falls c =
    let fired = c.in_ok-fire_next.ensures in
    fire_less c.args.self.now (record c.args.self.now { core = c.fire_next.new.self }) (shards_stay _ _ refl refl refl) fired.same c.requires.ready _ fired.event

pub returns-clause-fired : goal.returns-clause-fired
returns-clause-fired c =
    let fired = c.in_ok-fire_next.ensures in
    (c.in_ok-fire_next.field-0, record { event = fired.event; order = fired.order; idle = fired.idle; numbers = fired.number; shards = shards_stay _ _ refl refl refl })
