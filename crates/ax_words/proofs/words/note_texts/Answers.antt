use Rattle.std.proofs.Common.{ℕ, List, subst}
use Rattle.std.specs.List.{All}
use Rattle.std.specs.Str.{IsUtf8}
use Rattle.std.specs.Borrow.{Bor}
use Rattle.std.proofs.lemmas.List.{take_all}
use Rattle.std.proofs.lemmas.List.Elements.{All-more, All-map}
use Rattle.ax_words.proofs.words.note_texts.Goals as goal

pub loop-word-preserved : goal.loop-word-preserved
loop-word-preserved c = All-more (λ (w : Bor (List ℕ)). IsUtf8 w.now) _ _ _ c.loop-word-test.true c.loop-word.invariant c.note_text.ensures

pub returns : goal.returns
returns c = All-map IsUtf8 (λ (w : Bor (List ℕ)). w.now) c.args.words.now
    (subst (All (λ (w : Bor (List ℕ)). IsUtf8 w.now)) (take_all c.loop-word.word-index c.args.words.now c.loop-word-test.false) c.loop-word.invariant)
