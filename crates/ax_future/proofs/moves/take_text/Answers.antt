use Rattle.std.proofs.Common.{◌≡◌, ◌≤◌, ◌<◌, ◌∙◌, ◌∷◌, ◌-◌, length, take, max, refl, sym, ap, subst, arith}
use Rattle.ax_text.specs.Texts.{Text}
use Rattle.ax_text.specs.Controls.{Rest, Cursor}
use Rattle.ax_lang.specs.Forms.{top_of}
use Rattle.ax_future.specs.Nodes.{cursor_in, behind, highest}
use Rattle.ax_future.specs.Talks.{talk_of, known_in}
use Rattle.ax_future.specs.Moves.{Goes, Moves}
use Rattle.ax_future.proofs.CursorLemmas.{front_cursor, front_behind, front_highest}
use Rattle.ax_future.proofs.MoveLemmas.{stop_goes}
use Rattle.ax_future.proofs.moves.take_text.Goals as goal

pub returns-in-None-clause-moves : goal.returns-in-None-clause-moves
returns-in-None-clause-moves c =
    let f = known_in c.args.facts.now in
    let p = c.args.program.now in
    let fs = c.args.cursor.now.items in
    let k = cursor_in p fs in
    let k' = cursor_in p c.end_text.new.cursor.items in
    let t = talk_of c.args.going.now in
    let q : k' ≡ behind k = ap (cursor_in p) c.end_text.ensures ∙ sym (front_behind p fs c.args.place c.requires) in
    subst (λ (x : Cursor). Goes f x k' t t) (sym (front_cursor p fs c.args.place c.requires ∙ ap (λ (x : Text). Rest x ∷ behind k) c.in-None.ensures)) (stop_goes f (behind k) k' t t q refl)

pub returns-in-None-clause-places : goal.returns-in-None-clause-places
returns-in-None-clause-places c =
    let fs = c.args.cursor.now.items in
    let e : highest fs ≡ max (highest (take (length fs - 1) fs)) c.args.place = front_highest fs c.args.place c.requires in
    let h : highest c.end_text.new.cursor.items ≡ highest (take (length fs - 1) fs) = ap highest c.end_text.ensures in
    omega arith

pub returns-in_ok-taken-in-Some-clause-moves : goal.returns-in_ok-taken-in-Some-clause-moves
returns-in_ok-taken-in-Some-clause-moves c =
    let f = known_in c.args.facts.now in
    let p = c.args.program.now in
    let fs = c.args.cursor.now.items in
    let k = cursor_in p fs in
    subst (λ (x : Cursor). Moves f p x (cursor_in p c.take_step.new.cursor.items) (talk_of c.args.going.now) (talk_of c.take_step.new.going) c.in_ok-taken-in-Some.taken)
    (sym (front_cursor p fs c.args.place c.requires ∙ ap (λ (x : Text). Rest x ∷ behind k) c.in-Some.ensures.0))
    (c.in_ok-taken-in-Some.ensures.moves p (behind k) (c.go_to.ensures.cursor p))

pub returns-in_ok-taken-in-Some-clause-places : goal.returns-in_ok-taken-in-Some-clause-places
returns-in_ok-taken-in-Some-clause-places c =
    let fs = c.args.cursor.now.items in
    let e : highest fs ≡ max (highest (take (length fs - 1) fs)) c.args.place = front_highest fs c.args.place c.requires in
    let top : top_of c.in-Some.step.now < c.args.place = c.in-Some.ensures.1 in
    let h : highest c.take_step.new.cursor.items ≤ max (highest c.go_to.new.cursor.items) (top_of c.in-Some.step.now) = c.in_ok-taken-in-Some.ensures.places in
    let g : highest c.go_to.new.cursor.items ≤ max (highest fs) c.in-Some.step.now.next = c.go_to.ensures.highest in
    omega arith

pub returns-in_ok-taken-in-Some-clause-above : goal.returns-in_ok-taken-in-Some-clause-above
returns-in_ok-taken-in-Some-clause-above c =
    let fs = c.args.cursor.now.items in
    let e : highest fs ≡ max (highest (take (length fs - 1) fs)) c.args.place = front_highest fs c.args.place c.requires in
    let top : top_of c.in-Some.step.now < c.args.place = c.in-Some.ensures.1 in
    let h = c.in_ok-taken-in-Some.ensures.above in
    omega arith
