use Rattle.std.proofs.Common.{◌∷◌, refl, sym, ap, subst}
use Rattle.ax_text.specs.Controls.{Rest, Begin}
use Rattle.ax_lang.specs.Forms.{Form, form_of, shown_loop, text_with}
use Rattle.ax_lang.specs.Shown.{text_from}
use Rattle.ax_future.specs.Nodes.{cursor_in}
use Rattle.ax_future.specs.Talks.{talk_of, known_in}
use Rattle.ax_future.specs.Moves.{Asks, Splits}
use Rattle.ax_future.proofs.MoveLemmas.{each_asks, both_splits}
use Rattle.ax_future.proofs.moves.take_step.Goals as goal

pub returns-in-Each-clause-moves : goal.returns-in-Each-clause-moves
returns-in-Each-clause-moves c p k h =
    let f = known_in c.args.facts.now in
    let k' = cursor_in p c.args.cursor.now.items in
    let t = talk_of c.args.going.now in
    let n = c.args.step.now.next in
    let wait = Begin (shown_loop c.in-Each.turn) (text_from p c.in-Each.body) in
    subst (λ (x : Form). Asks f (Rest (text_with (text_from p) x n) ∷ k) k' t t c.loop_request.result wait) (sym (ap form_of c.in-Each.is))
    (each_asks f k k' t t (shown_loop c.in-Each.turn) (text_from p c.in-Each.body) (text_from p n) c.loop_request.result wait h refl c.loop_request.ensures refl)

pub returns-in-Both-clause-moves : goal.returns-in-Both-clause-moves
returns-in-Both-clause-moves c p k h =
    let f = known_in c.args.facts.now in
    let k' = cursor_in p c.args.cursor.now.items in
    let t = talk_of c.args.going.now in
    let n = c.args.step.now.next in
    subst (λ (x : Form). Splits f (text_from p c.in-Both.one) (text_from p c.in-Both.two) (Rest (text_with (text_from p) x n) ∷ k) k' t t) (sym (ap form_of c.in-Both.is))
    (both_splits f k k' t t (text_from p c.in-Both.one) (text_from p c.in-Both.two) (text_from p n) h refl)
