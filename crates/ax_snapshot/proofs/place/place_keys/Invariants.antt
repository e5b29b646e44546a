use Rattle.ax_snapshot.proofs.PlaceLemmas.{IsPlaced}
use Rattle.ax_snapshot.proofs.place.place_keys.Given as goal

abbrev pub invariant-loop-snap : goal.invariant-loop-snap
invariant-loop-snap l = IsPlaced l.m l.keys l.snap-index l.places.entries
