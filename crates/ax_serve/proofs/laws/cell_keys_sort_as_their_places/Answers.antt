use Rattle.ax_serve.proofs.Places.{sorted}
use Rattle.ax_serve.proofs.laws.cell_keys_sort_as_their_places.Goals as goal

pub returns : goal.returns
returns c m p q maximum a b = sorted m p q maximum a b
