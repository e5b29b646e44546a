use Rattle.ax_text.proofs.Going.{start_underway, step_underway}
use Rattle.ax_text.proofs.laws.steps_stay_underway.Goals as goal

pub returns-clause-start : goal.returns-clause-start
returns-clause-start c f t w = start_underway f t w

pub returns-clause-step : goal.returns-clause-step
returns-clause-step c f e g = step_underway f e g
