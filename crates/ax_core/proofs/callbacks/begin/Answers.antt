use Rattle.ax_core.proofs.BegunLemmas.{begun_so}
use Rattle.ax_core.proofs.callbacks.begin.Goals as goal

pub returns : goal.returns
returns c = begun_so c.args.program.now c.args.record.now c.start_into.new.self c.start_into.new.turn c.start_into.result c.start_into.ensures.turn c.start_into.ensures.sound c.start_into.ensures.asks c.start_into.ensures.rise
