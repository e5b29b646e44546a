use Rattle.ax_text.proofs.Going.{serves_at}
use Rattle.ax_text.proofs.laws.a_serve_takes_one.Goals as goal

pub returns : goal.returns
returns c f g s r = serves_at f g s r
