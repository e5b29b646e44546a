use Rattle.ax_future.proofs.LifeLemmas.{starts, serves, moves, ends}
use Rattle.ax_future.proofs.laws.machines_come_to_the_run.Goals as goal

pub returns-clause-start : goal.returns-clause-start
returns-clause-start c p h f cells m t = starts p h f cells m t

pub returns-clause-serve : goal.returns-clause-serve
returns-clause-serve c p h f cells m g s r = serves p h f cells m g s r

pub returns-clause-give : goal.returns-clause-give
returns-clause-give c p h f cells m g s a n t = moves p h f cells m g s a n t

pub returns-clause-done : goal.returns-clause-done
returns-clause-done c p h f cells m g = ends p h f cells m g
