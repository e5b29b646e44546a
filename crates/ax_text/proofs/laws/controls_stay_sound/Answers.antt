use Rattle.ax_text.proofs.Sounding.{begin_sound, give_sound}
use Rattle.ax_text.proofs.laws.controls_stay_sound.Goals as goal

pub returns-clause-begin : goal.returns-clause-begin
returns-clause-begin c n kinds f fields locals text t = begin_sound n kinds f fields locals text t

pub returns-clause-give : goal.returns-clause-give
returns-clause-give c n kinds f k s a t = give_sound n kinds f k s a t
