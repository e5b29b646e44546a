use Rattle.std.proofs.Common.{◌≡◌, List, true, sym, subst}
use Rattle.ax_text.specs.declared.vocabulary.Kind.{Kind}
use Rattle.ax_text.specs.Suits.{fits_in}
use Rattle.ax_text.proofs.Suiting.{request_suits}
use Rattle.ax_text.proofs.Wakeful.{slot_waits}
use Rattle.ax_state.specs.KeyCells.{shown_cells}
use Rattle.ax_lang.specs.Shown.{shown_kinds}
use Rattle.ax_future.specs.Machines.{control_of, said_by}
use Rattle.ax_future.specs.Talks.{known_in}
use Rattle.ax_plain.proofs.RunLemmas.{takes_turn}
use Rattle.ax_plain.proofs.handler.next_turn.Goals as goal

pub apply-requires : goal.apply-requires
apply-requires c =
    let p = c.args.program.now in
    let P : List Kind → Type 0 = λ ks. fits_in ks c.in-Some.request.now ≡ true in
    subst P (sym c.requires.kinds) (request_suits (shown_kinds p) (control_of p c.args.machine.now) c.in-Some.slot c.in-Some.request.now c.requires.sound.suits (c.in-Some.ensures p c.requires.sound).stands)

pub take_answer-requires-clause-waits : goal.take_answer-requires-clause-waits
take_answer-requires-clause-waits c =
    let p = c.args.program.now in
    slot_waits (control_of p c.args.machine.now) c.in-Some.slot c.in-Some.request.now (c.in-Some.ensures p c.requires.sound).stands

pub returns-clause-turn : goal.returns-clause-turn
returns-clause-turn c =
    let p = c.args.program.now in
    takes_turn (known_in c.args.facts.now) p c.args.machine.now c.take_answer.new.self (said_by c.take_answer.new.self) c.in-Some.slot c.in-Some.request.now c.in_ok-answer.answer
    (shown_cells c.args.cells.now) (shown_cells c.apply.new.self) c.requires.sound (c.in-Some.ensures p c.requires.sound).stands c.in_ok-answer.ensures.answer c.in_ok-answer.ensures.cells c.in_ok-take_answer.ensures.turn
