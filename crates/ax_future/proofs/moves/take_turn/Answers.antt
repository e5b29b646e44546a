use Rattle.std.proofs.Common.{◌∙◌, ap, rules}
use Rattle.ax_lang.specs.Forms.{shown_loop}
use Rattle.ax_lang.specs.Shown.{text_from}
use Rattle.ax_future.specs.Nodes.{cursor_in}
use Rattle.ax_future.specs.Talks.{talk_of}
use Rattle.ax_future.proofs.MoveLemmas.{turn_taken, turns_over}
use Rattle.ax_future.proofs.moves.take_turn.Goals.{then-deref-len+in_ok-bind+in_ok-put+in_ok-put-2, else-deref-len}
use Rattle.ax_future.proofs.moves.take_turn.Goals as goal

pub returns-clause-moves : goal.returns-clause-moves
returns-clause-moves c p f = elim c.if-deref-len.branch [
  | then-deref-len+in_ok-bind+in_ok-put+in_ok-put-2 w ↦
      turn_taken f (cursor_in p c.args.cursor.now.items) (cursor_in p c.if-deref-len.cursor.items) (talk_of c.args.going.now) (talk_of c.if-deref-len.going) (shown_loop c.args.repeat.value.turn) c.args.repeat.value.turns c.args.repeat.value.at w.pair_at-pair.result (text_from p c.args.repeat.value.body)
      (search rules) (ap (λ v. cursor_in p v.items) w.cursor-is ∙ (w.in_ok-put-2.ensures.cursor p ∙ (search rules))) (ap talk_of w.going-is ∙ (search rules))
  | else-deref-len w ↦ turns_over f (cursor_in p c.args.cursor.now.items) (cursor_in p c.if-deref-len.cursor.items) (talk_of c.args.going.now) (talk_of c.if-deref-len.going) (shown_loop c.args.repeat.value.turn) c.args.repeat.value.turns c.args.repeat.value.at (text_from p c.args.repeat.value.body)
      (search rules) (ap (λ v. cursor_in p v.items) w.cursor-is) (ap talk_of w.going-is)
]
