use Rattle.std.proofs.Common.{ℤ, w64, refl, ap, ◌∙◌, subst}
use Rattle.std.proofs.lemmas.Int.{to_z-of_z}
use Rattle.ax_lang.specs.Shown.{shown_program}
use Rattle.ax_context.specs.Slots.{at}
use Rattle.ax_time.specs.Epochs.{current_of}
use Rattle.ax_execution.specs.Accepted.{AreAccepted}
use Rattle.ax_core.specs.declared.record.Record.{Record}
use Rattle.ax_core.specs.declared.controller.Controller.{Controller}
use Rattle.ax_core.specs.Admissions.{row_record, TakesIn}
use Rattle.ax_core.proofs.Enters.{current_is_open}
use Rattle.ax_core.proofs.Taken.{is_there}
use Rattle.ax_core.proofs.Rows.{has_place, mail_fits, count_fits, same_rules, sound_row, makes}
use Rattle.ax_core.proofs.KeysStay.{keys_made}
use Rattle.ax_core.proofs.Orders.{posts_row}
use Rattle.ax_core.proofs.Numbered.{row_numbered}
use Rattle.ax_core.proofs.controller.Controller.admit.Goals as goal

pub take_in-requires-clause-room : goal.take_in-requires-clause-room
take_in-requires-clause-room c = has_place c.args.self.now c.requires.may

pub take_in-requires-clause-open : goal.take_in-requires-clause-open
take_in-requires-clause-open c = current_is_open c.args.self.now.epochs c.sizes_law.ensures

pub take_in-requires-clause-few : goal.take_in-requires-clause-few
take_in-requires-clause-few c = count_fits c.args.self.now c.requires.sound (record { row = c.program_is_accepted.ensures.row c.args.self.now.program; timer = c.program_is_accepted.ensures.timer c.args.self.now.program })

pub take_in-requires-clause-mails : goal.take_in-requires-clause-mails
take_in-requires-clause-mails c = mail_fits c.args.self.now c.requires.sound c.requires.may

pub number-requires : goal.number-requires
number-requires c = is_there c.on_row-record.result (current_of c.args.self.now.epochs) (at c.take_in.new.self.contexts c.in_ok-id.id) c.in_ok-id.ensures.made

pub returns-clause-sound : goal.returns-clause-sound
returns-clause-sound c =
    let a : Controller = c.args.self.now in
    let r : Record = row_record c.args.key c.args.time a.wm c.args.values in
    let taken : TakesIn a c.take_in.new.self r c.in_ok-id.id = subst (λ (v : Record). TakesIn c.args.self.now c.take_in.new.self v c.in_ok-id.id)
    (c.on_row-record.ensures ∙ ap (λ (z : ℤ). row_record c.args.key z c.args.self.now.wm c.args.values) (to_z-of_z w64 c.args.time c.ranges.time)) c.in_ok-id.ensures in
    let accepted : AreAccepted (shown_program a.program) = record { row = c.program_is_accepted.ensures.row c.args.self.now.program; timer = c.program_is_accepted.ensures.timer c.args.self.now.program } in
    sound_row a c.take_in.new.self r c.in_ok-id.id taken refl c.number.result c.args.time c.args.values refl refl c.number.ensures.value c.requires.may accepted c.sizes_law.ensures c.requires.sound

pub returns-clause-same : goal.returns-clause-same
returns-clause-same c =
    let a : Controller = c.args.self.now in
    let r : Record = row_record c.args.key c.args.time a.wm c.args.values in
    let taken : TakesIn a c.take_in.new.self r c.in_ok-id.id = subst (λ (v : Record). TakesIn c.args.self.now c.take_in.new.self v c.in_ok-id.id)
    (c.on_row-record.ensures ∙ ap (λ (z : ℤ). row_record c.args.key z c.args.self.now.wm c.args.values) (to_z-of_z w64 c.args.time c.ranges.time)) c.in_ok-id.ensures in
    same_rules a c.take_in.new.self r c.in_ok-id.id taken refl

pub returns-clause-event : goal.returns-clause-event
returns-clause-event c =
    let a : Controller = c.args.self.now in
    let r : Record = row_record c.args.key c.args.time a.wm c.args.values in
    let taken : TakesIn a c.take_in.new.self r c.in_ok-id.id = subst (λ (v : Record). TakesIn c.args.self.now c.take_in.new.self v c.in_ok-id.id)
    (c.on_row-record.ensures ∙ ap (λ (z : ℤ). row_record c.args.key z c.args.self.now.wm c.args.values) (to_z-of_z w64 c.args.time c.ranges.time)) c.in_ok-id.ensures in
    let accepted : AreAccepted (shown_program a.program) = record { row = c.program_is_accepted.ensures.row c.args.self.now.program; timer = c.program_is_accepted.ensures.timer c.args.self.now.program } in
    λ m h. makes a c.take_in.new.self r c.in_ok-id.id taken refl c.number.result c.args.time c.args.values refl refl c.number.ensures.value c.requires.sound.rooms c.requires.may accepted c.sizes_law.ensures m h

pub returns-clause-keys : goal.returns-clause-keys
returns-clause-keys c = keys_made c.args.self.now c.take_in.new.self c.in_ok-id.id c.requires.sound.flow c.in_ok-id.ensures.free c.in_ok-id.ensures.others

pub returns-clause-order : goal.returns-clause-order
returns-clause-order c =
    let a : Controller = c.args.self.now in
    let r : Record = row_record c.args.key c.args.time a.wm c.args.values in
    let taken : TakesIn a c.take_in.new.self r c.in_ok-id.id = subst (λ (v : Record). TakesIn c.args.self.now c.take_in.new.self v c.in_ok-id.id)
    (c.on_row-record.ensures ∙ ap (λ (z : ℤ). row_record c.args.key z c.args.self.now.wm c.args.values) (to_z-of_z w64 c.args.time c.ranges.time)) c.in_ok-id.ensures in
    λ m h. posts_row a c.take_in.new.self r c.in_ok-id.id c.number.result m c.requires.sound.flow h taken c.number.ensures.value

pub returns-clause-number : goal.returns-clause-number
returns-clause-number c = row_numbered c.args.self.now c.take_in.new.self c.on_row-record.result c.in_ok-id.id c.number.result c.in_ok-id.ensures c.number.ensures.value
