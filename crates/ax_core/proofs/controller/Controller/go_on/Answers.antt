use Rattle.std.proofs.Common.{◌≡◌, ◌∙◌, true, IsSome, ap, sym, subst}
use Rattle.ax_text.specs.Times.{least_time}
use Rattle.ax_machine.specs.Entries.{Key}
use Rattle.ax_time.specs.Timers.{times_of}
use Rattle.ax_account.specs.Parts.{next_of, is_mark, may_fire}
use Rattle.ax_account.specs.Accounts.{waiting_of}
use Rattle.ax_core.specs.Firings.{FiresAt}
use Rattle.ax_core.proofs.GoLemmas.{may_fire_there, has_timer}
use Rattle.ax_core.proofs.controller.Controller.go_on.Goals as goal

pub fire-requires-clause-mark : goal.fire-requires-clause-mark
fire-requires-clause-mark c = subst (λ (k : Key). may_fire (next_of (waiting_of c.hand_on.new.self.accounts k)) ≡ true) (sym c.in_ok-named-in-Mark.ensures)
    (may_fire_there c.args.self.now c.hand_on.new.self c.args.key.now c.hand_on.result c.hand_on.ensures.next (ap is_mark c.in-Mark.is) c.hand_on.ensures.hands)

pub fire-requires-clause-timer : goal.fire-requires-clause-timer
fire-requires-clause-timer c = subst (λ (k : Key). IsSome (least_time (times_of c.hand_on.new.self.timers k))) (sym c.in_ok-named-in-Mark.ensures)
    (has_timer c.args.self.now c.hand_on.new.self c.args.key.now c.hand_on.result c.hand_on.ensures.next (ap is_mark c.in-Mark.is) c.hand_on.ensures.hands)

pub returns-in_ok-fired-in-Mark : goal.returns-in_ok-fired-in-Mark
returns-in_ok-fired-in-Mark c =
    (c.hand_on.new.self, (c.hand_on.ensures.hands, subst (λ (k : Key). FiresAt c.hand_on.new.self c.fire.new.self k c.in_ok-fired-in-Mark.fired) c.in_ok-named-in-Mark.ensures c.in_ok-fired-in-Mark.ensures))

pub returns-in-Row : goal.returns-in-Row
returns-in-Row c = (ap is_mark (sym c.hand_on.ensures.next ∙ c.in-Row.is), c.hand_on.ensures.hands)

pub returns-in-Free : goal.returns-in-Free
returns-in-Free c = (ap is_mark (sym c.hand_on.ensures.next ∙ c.in-Free.is), c.hand_on.ensures.hands)
