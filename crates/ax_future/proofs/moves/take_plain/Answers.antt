use Rattle.std.proofs.Common.{◌∙◌, sym, ap}
use Rattle.ax_lang.specs.Forms.{form_of}
use Rattle.ax_lang.specs.Shown.{text_from}
use Rattle.ax_future.specs.Talks.{known_in, talk_of, seen_question, question_in}
use Rattle.ax_future.proofs.MoveLemmas.{plain_asks, plain_goes}
use Rattle.ax_future.proofs.moves.take_plain.Goals as goal

pub returns-in-Some-clause-moves : goal.returns-in-Some-clause-moves
returns-in-Some-clause-moves c p k k' h = plain_asks (known_in c.args.facts.now) k k' (talk_of c.args.going.now) (talk_of c.args.going.now) (text_from p) c.args.step.now.next
    (form_of c.args.step.now.stmt) (question_in c.in-Some.question) (sym (ap seen_question c.in-Some.is) ∙ c.in_ok-question.ensures) h

pub returns-in_ok-act-in-None-clause-moves : goal.returns-in_ok-act-in-None-clause-moves
returns-in_ok-act-in-None-clause-moves c p k k' h = plain_goes (known_in c.args.facts.now) k k' (talk_of c.args.going.now) (talk_of c.act.new.self) (text_from p) c.args.step.now.next
    (form_of c.args.step.now.stmt) c.requires (sym (ap seen_question c.in-None.is) ∙ c.in_ok-question.ensures) h c.in_ok-act-in-None.ensures.talk
