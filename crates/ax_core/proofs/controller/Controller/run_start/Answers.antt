use Rattle.ax_core.proofs.Ends.{starts}
use Rattle.ax_core.proofs.controller.Controller.run_start.Goals as goal

pub end_callback-requires : goal.end_callback-requires
end_callback-requires c = c.requires.ready c.begin_at.new.contexts c.begin_at.new.turn c.in_ok-begin_at.ensures

pub returns-clause-started : goal.returns-clause-started
returns-clause-started c = starts c.args.self.now c.end_callback.new.self c.begin_at.new.contexts c.args.id c.begin_at.new.turn c.end_callback.result c.in_ok-begin_at.ensures c.end_callback.ensures.ends
