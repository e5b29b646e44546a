use Rattle.std.proofs.Common.{sym, ap, ◌∙◌}
use Rattle.ax_time.proofs.KeptLemmas.{if_ok}
use Rattle.ax_core.specs.May.{has_mail}
use Rattle.std.specs.Io.KnownBytes.{append_known}
use Rattle.ax_task.proofs.EngineLemmas.{some_none, writes_none, quiet_if, true_false}
use Rattle.ax_task.proofs.Done.{works_fire, works_mail, works_marker, no_work, fire_breaks, mail_breaks, marker_breaks}
use Rattle.ax_task.proofs.Written.{at_err, on_err}
use Rattle.ax_task.proofs.engine.Engine.work.Goals as goal

pub returns-in_default-clause-part : goal.returns-in_default-clause-part
returns-in_default-clause-part g c = some_none c.args.self.now (append_known (g.K.Sink.holds c.args.out.now.inner.now) c.args.out.now.room.now)

pub returns-then-may_fire-clause-writes : goal.returns-then-may_fire-clause-writes
returns-then-may_fire-clause-writes g c = writes_none c.args.self.now c.fire.new.self (append_known (g.K.Sink.holds c.args.out.now.inner.now) c.args.out.now.room.now) c.in-Ok.ensures.moves

pub returns-clause-quiet : goal.returns-clause-quiet
returns-clause-quiet g c =
    quiet_if c.args.self.now.core c.send_marker.new.self.core c.send_marker.result c.send_marker.ensures.none c.send_marker.ensures.core
    (λ m h y. true_false (sym ((c.may_fire.ensures.exact m c.requires.ready.stands.sound h).1 y) ∙ c.if-may_fire.false))

pub returns-clause-mails : goal.returns-clause-mails
returns-clause-mails g c = if_ok c.send_marker.result (λ done same. λ h. ap has_mail (same h) ∙ (sym c.mail_waits.ensures.value ∙ c.if-mail_waits.false)) c.send_marker.ensures.core

pub returns-then-may_fire-clause-works : goal.returns-then-may_fire-clause-works
returns-then-may_fire-clause-works g c = λ _. works_fire c.args.self.now c.fire.new.self _ (sym c.may_fire.ensures.value ∙ c.if-may_fire.true) c.in-Ok.ensures.fired

pub returns-then-mail_waits-clause-works : goal.returns-then-mail_waits-clause-works
returns-then-mail_waits-clause-works g c = λ _. works_mail c.args.self.now c.run_mail.new.self _ _ (sym c.may_fire.ensures.value ∙ c.if-may_fire.false) (sym c.mail_waits.ensures.value ∙ c.if-mail_waits.true) c.in_ok-run_mail.ensures.ran

pub returns-clause-works : goal.returns-clause-works
returns-clause-works g c = works_marker c.args.self.now c.send_marker.new.self _ _ (sym c.may_fire.ensures.value ∙ c.if-may_fire.false) (sym c.mail_waits.ensures.value ∙ c.if-mail_waits.false) c.send_marker.result c.send_marker.ensures.sent

pub returns-clause-no_work : goal.returns-clause-no_work
returns-clause-no_work g c = no_work c.args.self.now c.send_marker.new.self.core (sym c.may_fire.ensures.value ∙ c.if-may_fire.false) (sym c.mail_waits.ensures.value ∙ c.if-mail_waits.false) c.send_marker.result c.send_marker.ensures.core c.send_marker.ensures.none

pub returns-in_default-clause-breaks : goal.returns-in_default-clause-breaks
returns-in_default-clause-breaks g c = fire_breaks c.args.self.now c.fire.new.self _ (sym c.may_fire.ensures.value ∙ c.if-may_fire.true)

pub returns-in_err-run_mail-clause-breaks : goal.returns-in_err-run_mail-clause-breaks
returns-in_err-run_mail-clause-breaks g c =
    let held = g.K.Sink.holds in
    at_err c.from_residual.result
    (mail_breaks c.args.out.now c.run_mail.new.out (λ k. record { holds = held k.inner.now; gathered = k.room.now }) c.args.self.now c.run_mail.new.self (sym c.may_fire.ensures.value ∙ c.if-may_fire.false) (sym c.mail_waits.ensures.value ∙ c.if-mail_waits.true)
    c.in_err-run_mail.ensures.broke)

pub returns-clause-breaks : goal.returns-clause-breaks
returns-clause-breaks g c = on_err c.send_marker.result c.send_marker.ensures.broke
    (λ x. marker_breaks c.args.self.now c.send_marker.new.self _ _ (sym c.may_fire.ensures.value ∙ c.if-may_fire.false) (sym c.mail_waits.ensures.value ∙ c.if-mail_waits.false) x)
