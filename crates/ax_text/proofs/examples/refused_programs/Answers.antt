use Rattle.ax_text.proofs.ValidExamples.{no_state, other_kind, no_value, at_timer, name_past, seventeen, none, one_name, same_names, reserved}
use Rattle.ax_text.proofs.examples.refused_programs.Goals as goal

pub returns-clause-no_state : goal.returns-clause-no_state
returns-clause-no_state c = no_state

pub returns-clause-other_kind : goal.returns-clause-other_kind
returns-clause-other_kind c = other_kind

pub returns-clause-no_value : goal.returns-clause-no_value
returns-clause-no_value c = no_value

pub returns-clause-timer : goal.returns-clause-timer
returns-clause-timer c = at_timer

pub returns-clause-name : goal.returns-clause-name
returns-clause-name c = name_past

pub returns-clause-seventeen : goal.returns-clause-seventeen
returns-clause-seventeen c = seventeen

pub returns-clause-none : goal.returns-clause-none
returns-clause-none c = none

pub returns-clause-one_name : goal.returns-clause-one_name
returns-clause-one_name c = one_name

pub returns-clause-same_names : goal.returns-clause-same_names
returns-clause-same_names c = same_names

pub returns-clause-reserved : goal.returns-clause-reserved
returns-clause-reserved c = reserved
