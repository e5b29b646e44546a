use Rattle.ax_lang.specs.Shown.{shown_kinds}
use Rattle.ax_text.proofs.Suiting.{request_suits}
use Rattle.ax_future.specs.Machines.{control_of}
use Rattle.ax_future.proofs.laws.requests_fit_the_program.Goals as goal

pub returns : goal.returns
returns c p m s r h e = request_suits (shown_kinds p) (control_of p m) s r h.suits e
