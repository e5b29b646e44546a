use Rattle.std.proofs.Common.{refl}
use Rattle.std.specs.List.{Contains}
use Rattle.ax_snapshot.proofs.PlaceLemmas.{placed_step, all_values}
use Rattle.ax_snapshot.proofs.place.place_keys.Goals as goal

pub loop-snap-preserved : goal.loop-snap-preserved
loop-snap-preserved c =
    placed_step c.args.m c.args.keys.now c.loop-snap.snap-index c.loop-snap.places.entries c.insert.new.self.entries _ _
    c.group.ensures.value refl c.loop-snap-test.true c.snap-item.is c.in-Ok.ensures.entries c.loop-snap.invariant

pub returns-clause-among : goal.returns-clause-among
returns-clause-among c = all_values (λ snap. Contains c.args.keys.now snap.now) c.loop-snap.places.entries c.loop-snap.invariant.among
