use Rattle.ax_text.proofs.Telling.{begins_at_once, serves_at_once, serves_more}
use Rattle.ax_text.proofs.laws.answered_at_once_comes_to_the_run.Goals as goal

pub returns-clause-begin : goal.returns-clause-begin
returns-clause-begin c f text cells = begins_at_once f text cells

pub returns-clause-serve : goal.returns-clause-serve
returns-clause-serve c n kinds f k s r w = serves_at_once f n kinds k s r w

pub returns-clause-more : goal.returns-clause-more
returns-clause-more c n kinds f k s r w = serves_more f n kinds k s r w
