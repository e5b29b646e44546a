use Rattle.ax_serve.proofs.Places.{begins_all, begins_alone}
use Rattle.ax_serve.proofs.laws.a_prefix_is_one_state.Goals as goal

pub returns-clause-all : goal.returns-clause-all
returns-clause-all c m key state at = begins_all m key state at

pub returns-clause-alone : goal.returns-clause-alone
returns-clause-alone c m key state p maximum is_key small a h = begins_alone m key state p maximum is_key small a h
