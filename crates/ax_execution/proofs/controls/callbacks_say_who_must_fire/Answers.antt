use Rattle.ax_execution.specs.ControlTurns.{start_on, deliver_on}
use Rattle.ax_execution.specs.Turns.{start, deliver}
use Rattle.ax_execution.proofs.ControlChanges.{own_must, own_fire, none_must, machine_must, says_must, says_none, machine_says}
use Rattle.ax_execution.proofs.EventControls.{fires_on}
use Rattle.ax_execution.specs.MachineControls.{control_of_machine}
use Rattle.std.proofs.Common.{◌∙◌}
use Rattle.ax_execution.proofs.controls.callbacks_say_who_must_fire.Goals as goal

pub returns-clause-start : goal.returns-clause-start
returns-clause-start c p k a m = own_must m.controls k (start_on p (m.controls k))

pub returns-clause-deliver : goal.returns-clause-deliver
returns-clause-deliver c p k slot a m = own_must m.controls k (deliver_on slot (m.controls k))

pub returns-clause-none : goal.returns-clause-none
returns-clause-none c r p e a m h s d = none_must r p e a m h s d

pub returns-clause-machine_start : goal.returns-clause-machine_start
returns-clause-machine_start c g p k m = own_fire m.parts k (start p (m.parts k))

pub returns-clause-machine_deliver : goal.returns-clause-machine_deliver
returns-clause-machine_deliver c g p k slot m = own_fire m.parts k (deliver slot (m.parts k))

pub returns-clause-machine_none : goal.returns-clause-machine_none
returns-clause-machine_none c r g p e m h s d = machine_must r g p e m h s d

pub returns-clause-says : goal.returns-clause-says
returns-clause-says c r p e a m h = says_must r p e a m h

pub returns-clause-says_none : goal.returns-clause-says_none
returns-clause-says_none c p e m s d = says_none p e m s d

pub returns-clause-machine_says : goal.returns-clause-machine_says
returns-clause-machine_says c r g p e m h = machine_says r g p e m h

pub returns-clause-machine_says_none : goal.returns-clause-machine_says_none
returns-clause-machine_says_none c g p e m s d = fires_on g p e m ∙ says_none p e (control_of_machine m) s d
