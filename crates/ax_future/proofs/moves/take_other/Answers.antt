use Rattle.std.proofs.Common.{◌≡◌, ◌∙◌, ◌++◌, ◌∷◌, [], max, sym, ap, subst, arith}
use Rattle.ax_text.specs.Controls.{Cursor}
use Rattle.ax_future.specs.declared.node.Frame.{Frame as CodeFrame}
use Rattle.ax_future.specs.declared.node.Frame.TheVariants as frame
use Rattle.ax_future.specs.Nodes.{cursor_in, highest}
use Rattle.ax_future.specs.Talks.{talk_of}
use Rattle.ax_future.specs.Moves.{Moves}
use Rattle.ax_future.proofs.CursorLemmas.{cursor_more, highest_more}
use Rattle.ax_future.proofs.moves.take_other.Goals as goal

pub returns-in_ok-taken-in-Some-Turns-clause-moves : goal.returns-in_ok-taken-in-Some-Turns-clause-moves
returns-in_ok-taken-in-Some-Turns-clause-moves c p f =
    let w = c.in-Some-Turns in
    subst (λ (k : Cursor). Moves f p k (cursor_in p c.take_turn.new.cursor.items) (talk_of c.args.going.now) (talk_of c.take_turn.new.going) c.in_ok-taken-in-Some-Turns.taken)
    (sym (ap (cursor_in p) w.ensures.items ∙ ap (λ (x : CodeFrame). cursor_in p (c.pop.new.self.items ++ x ∷ [])) w.field-0-is ∙ cursor_more p c.pop.new.self.items (frame.Turns w.repeat))) (c.in_ok-taken-in-Some-Turns.ensures.moves p f)

pub returns-in_ok-taken-in-Some-Turns-clause-places : goal.returns-in_ok-taken-in-Some-Turns-clause-places
returns-in_ok-taken-in-Some-Turns-clause-places c =
    let w = c.in-Some-Turns in
    let e : highest c.args.cursor.now.items ≡ max (highest c.pop.new.self.items) w.repeat.value.body = ap highest w.ensures.items ∙ ap (λ (x : CodeFrame). highest (c.pop.new.self.items ++ x ∷ [])) w.field-0-is ∙ highest_more c.pop.new.self.items (frame.Turns w.repeat) in
    let h = c.in_ok-taken-in-Some-Turns.ensures.places in
    omega arith
