use Rattle.ax_core.proofs.Resting.{way_flight, flight_way, left_rests, rests_left, rests_admits, left_blocks, blocks_left}
use Rattle.ax_core.proofs.laws.never_stuck.Goals as goal

pub returns-clause-flight : goal.returns-clause-flight
returns-clause-flight c m h =
    (way_flight c.args.controller.now m c.requires.sound h c.accounts_law.ensures, flight_way c.args.controller.now m c.requires.sound h c.accounts_law.ensures)

pub returns-clause-rest : goal.returns-clause-rest
returns-clause-rest c m h some =
    (left_rests c.args.controller.now m c.requires.sound h c.accounts_law.ensures some, rests_left c.args.controller.now m c.requires.sound h c.accounts_law.ensures)

pub returns-clause-goes_on : goal.returns-clause-goes_on
returns-clause-goes_on c m h some left = rests_admits c.args.controller.now m c.requires.sound h c.accounts_law.ensures some
    (left_rests c.args.controller.now m c.requires.sound h c.accounts_law.ensures some left)

pub returns-clause-work : goal.returns-clause-work
returns-clause-work c m h some =
    (left_blocks c.args.controller.now m c.requires.sound h c.accounts_law.ensures some, blocks_left c.args.controller.now m c.requires.sound h c.accounts_law.ensures some)
