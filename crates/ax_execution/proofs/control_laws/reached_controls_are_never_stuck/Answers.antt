use Rattle.ax_execution.proofs.ControlStuck.{stuck_on, rest_blocks, owed_flight, flight_owed, rests_sent, rests_quiet, rest_none_on}
use Rattle.ax_execution.proofs.control_laws.reached_controls_are_never_stuck.Goals as goal

pub returns-clause-stuck : goal.returns-clause-stuck
returns-clause-stuck c r p m accepted reached some none = stuck_on r p m accepted reached some none

pub returns-clause-blocked : goal.returns-clause-blocked
returns-clause-blocked c r m e rest w h = rest_blocks r m e rest w h

pub returns-clause-owed : goal.returns-clause-owed
returns-clause-owed c r p m accepted reached settled = (owed_flight r p m accepted reached settled, flight_owed r p m accepted reached)

pub returns-clause-quiet : goal.returns-clause-quiet
returns-clause-quiet c r p m accepted reached none idle unfinished = rests_quiet r p m accepted reached none idle unfinished

pub returns-clause-enough : goal.returns-clause-enough
returns-clause-enough c r p m accepted reached none sent = rests_sent r p m accepted reached none sent

pub returns-clause-needed : goal.returns-clause-needed
returns-clause-needed c m h = rest_none_on m h
