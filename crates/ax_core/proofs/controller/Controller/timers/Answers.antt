use Rattle.ax_core.proofs.controller.Controller.timers.Goals as goal

pub returns : goal.returns
returns c = λ m k stands. (stands.stands.keys k).times
