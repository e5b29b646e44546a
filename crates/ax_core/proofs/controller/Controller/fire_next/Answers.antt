use Rattle.std.proofs.Common.{◌≡◌, Some, sym, ap, ◌∙◌}
use Rattle.ax_lang.specs.Shown.{shown_program}
use Rattle.ax_account.specs.Queues.{first_of}
use Rattle.ax_execution.specs.Accepted.{AreAccepted}
use Rattle.ax_core.proofs.FiresStand.{mail_left, not_owned, mark_left, timer_there, fires_next, sound_next, same_next}
use Rattle.ax_core.proofs.KeysStay.{keys_made}
use Rattle.ax_core.proofs.IdleKeys.{fires_first}
use Rattle.ax_core.proofs.Orders.{posts_fires}
use Rattle.ax_core.proofs.Numbered.{fired_numbered}
use Rattle.ax_core.proofs.controller.Controller.fire_next.Goals as goal

pub fire-requires-clause-owner : goal.fire-requires-clause-owner
fire-requires-clause-owner c =
    let accepted : AreAccepted (shown_program c.args.self.now.program) = record { row = c.program_is_accepted.ensures.row c.args.self.now.program; timer = c.program_is_accepted.ensures.timer c.args.self.now.program } in
    let first : first_of c.args.self.now.accounts.idle ≡ Some c.in_ok-key.key = sym c.in-Some.ensures.value ∙ sym (ap Some c.in_ok-key.ensures) in
    not_owned c.args.self.now c.requires.sound accepted c.requires.may c.first_idle.ensures.sound c.in_ok-key.key first

pub fire-requires-clause-mark : goal.fire-requires-clause-mark
fire-requires-clause-mark c =
    let accepted : AreAccepted (shown_program c.args.self.now.program) = record { row = c.program_is_accepted.ensures.row c.args.self.now.program; timer = c.program_is_accepted.ensures.timer c.args.self.now.program } in
    let first : first_of c.args.self.now.accounts.idle ≡ Some c.in_ok-key.key = sym c.in-Some.ensures.value ∙ sym (ap Some c.in_ok-key.ensures) in
    mark_left c.args.self.now c.requires.sound accepted c.requires.may c.first_idle.ensures.sound c.in_ok-key.key first

pub fire-requires-clause-timer : goal.fire-requires-clause-timer
fire-requires-clause-timer c =
    let accepted : AreAccepted (shown_program c.args.self.now.program) = record { row = c.program_is_accepted.ensures.row c.args.self.now.program; timer = c.program_is_accepted.ensures.timer c.args.self.now.program } in
    let first : first_of c.args.self.now.accounts.idle ≡ Some c.in_ok-key.key = sym c.in-Some.ensures.value ∙ sym (ap Some c.in_ok-key.ensures) in
    timer_there c.args.self.now c.requires.sound accepted c.requires.may c.first_idle.ensures.sound c.in_ok-key.key first

pub fire-requires-clause-mails : goal.fire-requires-clause-mails
fire-requires-clause-mails c =
    let accepted : AreAccepted (shown_program c.args.self.now.program) = record { row = c.program_is_accepted.ensures.row c.args.self.now.program; timer = c.program_is_accepted.ensures.timer c.args.self.now.program } in
    mail_left c.args.self.now c.requires.sound accepted c.requires.may

pub returns-clause-sound : goal.returns-clause-sound
returns-clause-sound c =
    let accepted : AreAccepted (shown_program c.args.self.now.program) = record { row = c.program_is_accepted.ensures.row c.args.self.now.program; timer = c.program_is_accepted.ensures.timer c.args.self.now.program } in
    let first : first_of c.args.self.now.accounts.idle ≡ Some c.in_ok-key.key = sym c.in-Some.ensures.value ∙ sym (ap Some c.in_ok-key.ensures) in
    sound_next c.args.self.now c.requires.sound accepted c.requires.may c.first_idle.ensures.sound c.in_ok-key.key first c.fire.new.self c.in_ok-fired.fired c.in_ok-fired.ensures

pub returns-clause-same : goal.returns-clause-same
returns-clause-same c =
    let accepted : AreAccepted (shown_program c.args.self.now.program) = record { row = c.program_is_accepted.ensures.row c.args.self.now.program; timer = c.program_is_accepted.ensures.timer c.args.self.now.program } in
    let first : first_of c.args.self.now.accounts.idle ≡ Some c.in_ok-key.key = sym c.in-Some.ensures.value ∙ sym (ap Some c.in_ok-key.ensures) in
    same_next c.args.self.now c.requires.sound accepted c.requires.may c.first_idle.ensures.sound c.in_ok-key.key first c.fire.new.self c.in_ok-fired.fired c.in_ok-fired.ensures

pub returns-clause-event : goal.returns-clause-event
returns-clause-event c =
    let accepted : AreAccepted (shown_program c.args.self.now.program) = record { row = c.program_is_accepted.ensures.row c.args.self.now.program; timer = c.program_is_accepted.ensures.timer c.args.self.now.program } in
    let first : first_of c.args.self.now.accounts.idle ≡ Some c.in_ok-key.key = sym c.in-Some.ensures.value ∙ sym (ap Some c.in_ok-key.ensures) in
    fires_next c.args.self.now c.requires.sound accepted c.requires.may c.first_idle.ensures.sound c.in_ok-key.key first c.fire.new.self c.in_ok-fired.fired c.in_ok-fired.ensures

pub returns-clause-keys : goal.returns-clause-keys
returns-clause-keys c = keys_made c.args.self.now c.fire.new.self c.in_ok-fired.ensures.id c.requires.sound.flow c.in_ok-fired.ensures.free c.in_ok-fired.ensures.others

pub returns-clause-order : goal.returns-clause-order
returns-clause-order c = posts_fires c.args.self.now c.fire.new.self c.in_ok-key.key c.in_ok-fired.fired c.requires.sound.flow c.in_ok-fired.ensures

pub returns-clause-idle : goal.returns-clause-idle
returns-clause-idle c =
    let first : first_of c.args.self.now.accounts.idle ≡ Some c.in_ok-key.key = sym c.in-Some.ensures.value ∙ sym (ap Some c.in_ok-key.ensures) in
    fires_first c.args.self.now c.fire.new.self c.in_ok-key.key c.in_ok-fired.fired c.first_idle.ensures.sound first c.in_ok-fired.ensures

pub returns-clause-number : goal.returns-clause-number
returns-clause-number c = fired_numbered c.args.self.now c.fire.new.self c.in_ok-key.key c.in_ok-fired.fired c.in_ok-fired.ensures
