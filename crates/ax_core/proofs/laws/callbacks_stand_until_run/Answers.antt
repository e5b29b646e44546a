use Rattle.std.proofs.Common.{◌≡◌, true, subst}
use Rattle.ax_core.specs.declared.effects.Ran.{Ran}
use Rattle.ax_core.specs.Posted.{same_callback}
use Rattle.ax_core.proofs.Posted.{to_run, stands_posted, starts_posted, replies_posted, start_allowed, reply_allowed, posted_once, callback_itself, callback_is}
use Rattle.ax_core.proofs.laws.callbacks_stand_until_run.Goals as goal

pub returns-clause-starts : goal.returns-clause-starts
returns-clause-starts c m key x =
    (starts_posted c.args.controller.now m c.requires.sound.flow x key, start_allowed c.args.controller.now m c.requires.sound.flow x c.numbers_law.ensures key)

pub returns-clause-replies : goal.returns-clause-replies
returns-clause-replies c m key slot x =
    (replies_posted c.args.controller.now m c.requires.sound.flow x key slot, reply_allowed c.args.controller.now m c.requires.sound.flow x c.numbers_law.ensures key slot)

pub returns-clause-to_run : goal.returns-clause-to_run
returns-clause-to_run c m r x = (to_run c.args.controller.now m c.requires.sound.flow x r, stands_posted c.args.controller.now m c.requires.sound.flow x r)

pub returns-clause-once : goal.returns-clause-once
returns-clause-once c = posted_once c.args.controller.now c.requires.sound.flow c.numbers_law.ensures

pub returns-clause-same : goal.returns-clause-same
returns-clause-same c r q = (callback_is r q, λ e. subst (λ (v : Ran). same_callback r v ≡ true) e (callback_itself r))
