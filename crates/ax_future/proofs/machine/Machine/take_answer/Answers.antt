use Rattle.std.proofs.Common.{refl, ap}
use Rattle.ax_text.specs.Programs.{program_width}
use Rattle.ax_text.specs.Controls.{slots, without}
use Rattle.ax_text.specs.Silent.{silent}
use Rattle.ax_lang.specs.Shown.{shown_program, shown_kinds}
use Rattle.ax_text.proofs.LeastSlots.{takes_rise}
use Rattle.ax_future.specs.Nodes.{control_in}
use Rattle.ax_future.specs.Talks.{known_in, talk_of, asks_in, names_at}
use Rattle.ax_future.specs.Moves.{turn_of}
use Rattle.ax_future.proofs.MachineLemmas.{given_sound, given_least, give_turn, give_asks, room_for}
use Rattle.ax_future.proofs.machine.Machine.take_answer.Goals as goal

pub give-requires : goal.give-requires
give-requires c =
    let p = c.args.program.now in
    let k = control_in p c.args.self.now.node in
    room_for p k k c.args.slot (without c.args.slot (slots k)) refl refl c.requires.sound.wide

pub returns-in-Ok-clause-turn : goal.returns-in-Ok-clause-turn
returns-in-Ok-clause-turn c =
    let p = c.args.program.now in
    let k = control_in p c.args.self.now.node in
    give_turn (known_in c.args.facts.now) (without c.args.slot (slots k)) (talk_of c.hush.new.self) (asks_in c.hush.new.self.said.asks) (turn_of p c.give.new.going c.give.new.node)
    k k c.args.slot c.args.answer refl c.in-Ok.ensures
    (silent (names_at c.args.self.now.going.names.items)) refl c.hush.ensures.talk (ap asks_in c.hush.ensures.asks)

pub returns-in-Ok-clause-sound : goal.returns-in-Ok-clause-sound
returns-in-Ok-clause-sound c =
    let p = c.args.program.now in
    given_sound (program_width (shown_program p)) (shown_kinds p) (known_in c.args.facts.now) (control_in p c.args.self.now.node) c.args.slot c.args.answer (silent (names_at c.args.self.now.going.names.items))
    (turn_of p c.give.new.going c.give.new.node) c.requires.sound c.requires.waits (returns-in-Ok-clause-turn c)

pub returns-in-Ok-clause-asks : goal.returns-in-Ok-clause-asks
returns-in-Ok-clause-asks c =
    let p = c.args.program.now in
    give_asks (known_in c.args.facts.now) (control_in p c.args.self.now.node) c.args.slot c.args.answer (silent (names_at c.args.self.now.going.names.items))
    (turn_of p c.give.new.going c.give.new.node) c.requires.waits (returns-in-Ok-clause-turn c)

pub returns-in-Ok-clause-least : goal.returns-in-Ok-clause-least
returns-in-Ok-clause-least c =
    let p = c.args.program.now in
    given_least (known_in c.args.facts.now) (control_in p c.args.self.now.node) c.args.slot c.args.answer (silent (names_at c.args.self.now.going.names.items))
    (turn_of p c.give.new.going c.give.new.node) c.requires.waits (returns-in-Ok-clause-turn c)

pub returns-in-Ok-clause-rise : goal.returns-in-Ok-clause-rise
returns-in-Ok-clause-rise c = takes_rise (without c.args.slot (slots (control_in c.args.program.now c.args.self.now.node))) (asks_in c.give.new.going.said.asks) (returns-in-Ok-clause-least c)
