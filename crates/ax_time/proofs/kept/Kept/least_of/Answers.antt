use Rattle.std.proofs.Common.{◌∙◌, ap, sym}
use Rattle.ax_text.specs.Times.{least_time}
use Rattle.ax_time.specs.Held.{times_or}
use Rattle.ax_time.proofs.KeptLemmas.{times_seen, rising_seen, no_times}
use Rattle.ax_time.proofs.kept.Kept.least_of.Goals as goal

pub returns-in-Some-clause-least : goal.returns-in-Some-clause-least
returns-in-Some-clause-least c = c.first_time.ensures.least ∙ ap least_time (ap times_or c.in-Some.ensures.value ∙ times_seen c.args.self.now c.requires c.args.key.now)

pub returns-in-Some-clause-rising : goal.returns-in-Some-clause-rising
returns-in-Some-clause-rising c = rising_seen c.args.self.now c.requires c.args.key.now

pub returns-in-None-clause-least : goal.returns-in-None-clause-least
returns-in-None-clause-least c = sym (ap least_time (no_times c.args.self.now c.requires c.args.key.now (sym c.in-None.ensures.value)))

pub returns-in-None-clause-rising : goal.returns-in-None-clause-rising
returns-in-None-clause-rising c = rising_seen c.args.self.now c.requires c.args.key.now
