use Rattle.ax_core.proofs.Ends.{replies}
use Rattle.ax_core.proofs.controller.Controller.run_reply.Goals as goal

pub end_callback-requires : goal.end_callback-requires
end_callback-requires c = c.requires.ready c.resume_at.new.contexts c.resume_at.new.turn c.in_ok-resume_at.ensures

pub returns-clause-replied : goal.returns-clause-replied
returns-clause-replied c =
    replies c.args.self.now c.end_callback.new.self c.resume_at.new.contexts c.args.id c.resume_at.new.turn c.end_callback.result c.args.slot c.args.answer c.in_ok-resume_at.ensures c.end_callback.ensures.ends
