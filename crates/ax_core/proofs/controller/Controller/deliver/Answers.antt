use Rattle.std.proofs.Common.{◌≡◌, ◌+◌, ◌++◌, ◌∙◌, ◌≤◌, length, refl, sym, ap, subst, arith}
use Rattle.ax_mailbox.specs.Queue.{Queue}
use Rattle.ax_core.specs.declared.controller.Controller.{Controller}
use Rattle.ax_core.specs.Batches.{mails_in}
use Rattle.ax_core.proofs.Deliveries.{serves_all, sound_served, same_served, mails_fit}
use Rattle.ax_core.proofs.KeysStay.{keys_same}
use Rattle.ax_core.proofs.Orders.{posts_replies}
use Rattle.ax_core.proofs.Numbered.{same_numbers}
use Rattle.ax_core.proofs.controller.Controller.deliver.Goals as goal

pub post_all-requires : goal.post_all-requires
post_all-requires c =
    let kept : c.forget.new.self.mails ≡ c.args.self.now.mails = ap (λ (d : Controller). d.mails) c.forget.ensures.same in
    let all : length c.args.self.now.mails.mails + length c.args.r ≤ c.args.self.now.mails.room = mails_fit c.args.self.now c.requires.sound c.limit_law.ensures (length c.args.r) (omega (arith, c.forget.ensures.fewer)) in
    subst (λ (q : Queue). length q.mails + length c.args.r ≤ q.room) (sym kept) all

pub returns-clause-sound : goal.returns-clause-sound
returns-clause-sound c =
    let b : Controller = record c.forget.new.self { mails = c.post_all.new.mails } in
    sound_served c.args.self.now c.forget.new.self b c.args.r c.forget.ensures refl c.post_all.ensures.mails c.post_all.ensures.room c.requires.sound

pub returns-clause-same : goal.returns-clause-same
returns-clause-same c =
    let b : Controller = record c.forget.new.self { mails = c.post_all.new.mails } in
    same_served c.args.self.now c.forget.new.self b c.args.r c.forget.ensures refl c.post_all.ensures.mails c.post_all.ensures.room

pub returns-clause-served : goal.returns-clause-served
returns-clause-served c =
    let b : Controller = record c.forget.new.self { mails = c.post_all.new.mails } in
    λ m x. serves_all c.args.self.now c.forget.new.self b c.args.r c.forget.ensures refl c.post_all.ensures.mails c.post_all.ensures.room c.requires.sound.flow m x

pub returns-clause-keys : goal.returns-clause-keys
returns-clause-keys c = keys_same c.args.self.now (record c.forget.new.self { mails = c.post_all.new.mails }) (ap (λ (d : Controller). d.contexts) c.forget.ensures.same)

pub returns-clause-order : goal.returns-clause-order
returns-clause-order c =
    let b : Controller = record c.forget.new.self { mails = c.post_all.new.mails } in
    posts_replies c.args.self.now b c.args.r c.requires.sound.flow (ap (λ (d : Controller). d.contexts) c.forget.ensures.same) (ap (λ (d : Controller). d.buffer.queues) c.forget.ensures.same)
    (c.post_all.ensures.mails ∙ ap (λ (d : Controller). d.mails.mails ++ mails_in c.args.r) c.forget.ensures.same)

pub returns-clause-idle : goal.returns-clause-idle
returns-clause-idle c = ap (λ (d : Controller). d.accounts.idle) c.forget.ensures.same

pub returns-clause-number : goal.returns-clause-number
returns-clause-number c = same_numbers c.args.self.now (record c.forget.new.self { mails = c.post_all.new.mails }) (ap (λ (d : Controller). d.contexts) c.forget.ensures.same)
