use Rattle.std.proofs.Common.{◌≡◌, true, Some, None, rules, refl}
use Rattle.ax_input.specs.Shown.{shown_event}
use Rattle.ax_task.specs.Engines.{may_take}
use Rattle.ax_task.specs.Things.{Takes}
use Rattle.ax_task.proofs.ReadingLemmas.{unfound_held}
use Rattle.ax_task.proofs.driver.Driver.take_held.Goals as goal

pub returns-clause-took : goal.returns-clause-took
returns-clause-took c = λ _.
    let held : c.args.self.now.reading.next ≡ Some c.in-Some.event = search rules in
    let can : may_take c.args.self.now.engine.core (shown_event c.in-Some.event) ≡ true = search rules in
    let none : c.take.new.self ≡ None = search rules in
    record { next = Takes c.in-Some.event; comes = (held, unfound_held c.args.self.now.reading c.in-Some.event c.requires.none held, can); leads = record { taken = c.in_ok-take.ensures.taken; none = none; events = refl; found = refl } }
