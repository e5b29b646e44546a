use Rattle.ax_execution.proofs.Cut.{admit_sees, mark_sees, fire_sees, start_sees, deliver_sees, serve_sees, start_effects_see, deliver_effects_see}
use Rattle.ax_execution.proofs.laws.events_see_the_control.Goals as goal

pub returns-clause-admit : goal.returns-clause-admit
returns-clause-admit c n e f part = admit_sees n e f part

pub returns-clause-mark : goal.returns-clause-mark
returns-clause-mark c e w more part = mark_sees e w more part

pub returns-clause-fire : goal.returns-clause-fire
returns-clause-fire c n part = fire_sees n part

pub returns-clause-start : goal.returns-clause-start
returns-clause-start c p part = start_sees p part

pub returns-clause-deliver : goal.returns-clause-deliver
returns-clause-deliver c slot part = deliver_sees slot part

pub returns-clause-serve : goal.returns-clause-serve
returns-clause-serve c slot part = serve_sees slot part

pub returns-clause-started : goal.returns-clause-started
returns-clause-started c p part = start_effects_see p part.owner

pub returns-clause-delivered : goal.returns-clause-delivered
returns-clause-delivered c slot part = deliver_effects_see slot part.owner
