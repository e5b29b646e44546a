use Rattle.ax_serve.proofs.Places.{own}
use Rattle.ax_serve.proofs.laws.places_have_keys_of_their_own.Goals as goal

pub returns : goal.returns
returns c m p q maximum a b e = own m p q maximum a b e
