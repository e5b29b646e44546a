use Rattle.std.proofs.Common.{◌∙◌, sym, ap}
use Rattle.ax_account.specs.Queues.{first_of, Queue}
use Rattle.ax_account.proofs.QueueLemmas.{first_value}
use Rattle.ax_account.proofs.idle.KeyQueue.first.Goals as goal

pub returns-in-Some : goal.returns-in-Some
returns-in-Some c = sym (ap (λ (v : Queue). first_of v.keys) (sym c.self.view_is) ∙ first_value c.self.inside.keys.entries (c.in-Some.field-0-0.now, c.in-Some.key.now) c.in-Some.ensures.first)
