use Rattle.std.proofs.Common.{[], pos, refl, ap}
use Rattle.ax_text.specs.Jobs.{text_for}
use Rattle.ax_text.specs.Silent.{silent}
use Rattle.ax_lang.specs.Shown.{shown_program, text_from}
use Rattle.ax_text.proofs.LeastSlots.{takes_rise}
use Rattle.ax_future.specs.Nodes.{cursor_in}
use Rattle.ax_future.specs.Talks.{known_in, talk_of, asks_in}
use Rattle.ax_future.specs.Moves.{turn_of}
use Rattle.ax_future.proofs.MachineLemmas.{start_room, start_turn, start_sound, start_asks, start_least}
use Rattle.ax_future.proofs.machine.Machine.restart.Goals as goal

pub begin-requires : goal.begin-requires
begin-requires c =
    let p = c.args.program.now in
    start_room p c.args.handler [] (cursor_in p c.in_ok-cursor.cursor.items) (text_from p c.place_of.result) refl (c.in_ok-cursor.ensures.cursor p) c.place_of.ensures

pub returns-in-Ok-clause-turn : goal.returns-in-Ok-clause-turn
returns-in-Ok-clause-turn c =
    let p = c.args.program.now in
    start_turn (known_in c.args.facts.now) [] (talk_of c.renew-spare.new.self) (asks_in c.renew-spare.new.self.said.asks) (turn_of p c.begin.new.going c.begin.new.node)
    (cursor_in p c.in_ok-cursor.cursor.items) (text_from p c.place_of.result) (text_for (shown_program p) c.args.handler) (λ i. pos 0)
    (c.in_ok-cursor.ensures.cursor p) c.place_of.ensures refl (ap asks_in c.renew-spare.ensures.asks) c.renew-spare.ensures.talk c.in-Ok.ensures

pub returns-in-Ok-clause-sound : goal.returns-in-Ok-clause-sound
returns-in-Ok-clause-sound c =
    let p = c.args.program.now in
    start_sound p c.args.handler (known_in c.args.facts.now) (silent (λ i. pos 0)) (turn_of p c.begin.new.going c.begin.new.node) (returns-in-Ok-clause-turn c)

pub returns-in-Ok-clause-asks : goal.returns-in-Ok-clause-asks
returns-in-Ok-clause-asks c =
    let p = c.args.program.now in
    start_asks (known_in c.args.facts.now) (text_for (shown_program p) c.args.handler) (silent (λ i. pos 0)) (turn_of p c.begin.new.going c.begin.new.node) (returns-in-Ok-clause-turn c)

pub returns-in-Ok-clause-least : goal.returns-in-Ok-clause-least
returns-in-Ok-clause-least c =
    let p = c.args.program.now in
    start_least (known_in c.args.facts.now) (text_for (shown_program p) c.args.handler) (silent (λ i. pos 0)) (turn_of p c.begin.new.going c.begin.new.node) (returns-in-Ok-clause-turn c)

pub returns-in-Ok-clause-rise : goal.returns-in-Ok-clause-rise
returns-in-Ok-clause-rise c = takes_rise [] (asks_in c.begin.new.going.said.asks) (returns-in-Ok-clause-least c)
