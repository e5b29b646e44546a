use Rattle.std.proofs.Common.{◌≡◌, true, subst}
use Rattle.ax_core.specs.Order.{Asked}
use Rattle.ax_core.specs.Requests.{same_asked}
use Rattle.ax_core.proofs.Unserved.{unserved, queued_or_out, stands_there, allowed_where, requests_once, same_itself, same_is_one}
use Rattle.ax_core.proofs.AllRequests.{all_to_serve, to_serve_all}
use Rattle.ax_core.proofs.laws.requests_stand_until_served.Goals as goal

pub returns-clause-served : goal.returns-clause-served
returns-clause-served c m key slot x =
    (queued_or_out c.args.controller.now m c.requires.sound.flow x key slot, allowed_where c.args.controller.now m c.requires.sound.flow x c.numbers_law.ensures key slot)

pub returns-clause-unserved : goal.returns-clause-unserved
returns-clause-unserved c m shard r x =
    (unserved c.args.controller.now m c.requires.sound.flow x shard r, stands_there c.args.controller.now m c.requires.sound.flow x shard r)

pub returns-clause-once : goal.returns-clause-once
returns-clause-once c = requests_once c.args.controller.now c.requires.sound.flow c.numbers_law.ensures

pub returns-clause-all : goal.returns-clause-all
returns-clause-all c m r x =
    (all_to_serve c.args.controller.now m c.requires.sound.flow x r, to_serve_all c.args.controller.now m c.requires.sound.ranges c.requires.sound.flow x r)

pub returns-clause-same : goal.returns-clause-same
returns-clause-same c r q = (same_is_one r q, λ e. subst (λ (v : Asked). same_asked r v ≡ true) e (same_itself r))
