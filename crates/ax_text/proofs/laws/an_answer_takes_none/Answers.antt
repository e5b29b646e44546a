use Rattle.ax_text.proofs.Going.{gives_at}
use Rattle.ax_text.proofs.laws.an_answer_takes_none.Goals as goal

pub returns : goal.returns
returns c f g s a = gives_at f g s a
