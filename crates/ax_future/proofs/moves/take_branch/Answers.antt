use Rattle.std.proofs.Common.{◌∙◌, ◌∷◌, refl, sym, ap}
use Rattle.ax_text.specs.Controls.{Rest, Cursor}
use Rattle.ax_expr.specs.Shown.{shown_expr}
use Rattle.ax_lang.specs.Shown.{text_from}
use Rattle.ax_future.specs.Nodes.{cursor_in}
use Rattle.ax_future.specs.Talks.{talk_of, known_in}
use Rattle.ax_future.proofs.MoveLemmas.{one_goes, other_goes}
use Rattle.ax_future.proofs.moves.take_branch.Goals as goal

pub returns-in_ok-put-clause-moves : goal.returns-in_ok-put-clause-moves
returns-in_ok-put-clause-moves c p k h = other_goes (known_in c.args.facts.now) k (cursor_in p c.put.new.cursor.items) (talk_of c.args.going.now) (talk_of c.args.going.now)
    (shown_expr c.args.test.now) (text_from p c.args.parts.now.one) (text_from p c.args.parts.now.other) (text_from p c.args.parts.now.next)
    (c.in_ok-put.ensures.cursor p ∙ ap (λ (x : Cursor). Rest (text_from p c.args.parts.now.other) ∷ x) h) refl (sym c.is_zero.ensures ∙ c.if-is_zero.true)

pub returns-in_ok-put-2-clause-moves : goal.returns-in_ok-put-2-clause-moves
returns-in_ok-put-2-clause-moves c p k h = one_goes (known_in c.args.facts.now) k (cursor_in p c.put-else-is_zero.new.cursor.items) (talk_of c.args.going.now) (talk_of c.args.going.now)
    (shown_expr c.args.test.now) (text_from p c.args.parts.now.one) (text_from p c.args.parts.now.other) (text_from p c.args.parts.now.next)
    (c.in_ok-put-2.ensures.cursor p ∙ ap (λ (x : Cursor). Rest (text_from p c.args.parts.now.one) ∷ x) h) refl (sym c.is_zero.ensures ∙ c.if-is_zero.false)
