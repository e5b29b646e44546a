use Rattle.ax_execution.proofs.AllKeys.{origin_all, event_all}
use Rattle.ax_execution.proofs.controls.keys_stay_all.Goals as goal

pub returns-clause-origin : goal.returns-clause-origin
returns-clause-origin c p from fits = origin_all p from fits

pub returns-clause-event : goal.returns-clause-event
returns-clause-event c r p e a m all h = event_all m all r p e a h

pub returns-clause-busy : goal.returns-clause-busy
returns-clause-busy c m all = record { rise = all.rise; others = all.others }
