-- A program that begins each callback with nothing said, and adds what the callback says to what was said before.
use Rattle.std.specs.Prelude.{◌≡◌, ◌<◌, ℕ, pos, List, [], ◌∷◌, ◌++◌, true, Some, None}
use Rattle.ax_text.specs.declared.vocabulary.Kind.{Kind}
use Rattle.ax_text.specs.declared.vocabulary.Request.{Request}
use Rattle.ax_text.specs.declared.vocabulary.Answer.{Answer}
use Rattle.ax_text.specs.Functions.{upd}
use Rattle.ax_text.specs.Exprs.{Facts, Names}
use Rattle.ax_text.specs.Cells.{Cells, answer_of}
use Rattle.ax_text.specs.Texts.{Text}
use Rattle.ax_text.specs.Prints.{is_accepted}
use Rattle.ax_text.specs.Run.{Talk, World, apply, run, begun}
use Rattle.ax_text.specs.Controls.{Rest, Cursor, Control, Turn, Answers, Going, Give, begin, give, request_at, left, step}
use Rattle.ax_text.specs.Sound.{IsSound}

-- nothing is said yet
abbrev pub silent : Names → Talk
silent names = record { names = names; lines = []; ops = [] }

-- what is said now comes behind what was said before
abbrev pub told : Talk → Talk → Talk
told before now = record { names = now.names; lines = before.lines ++ now.lines; ops = before.ops ++ now.ops }

abbrev pub told_in : World → Talk → World
told_in w now = record { talk = told w.talk now; cells = w.cells; served = w.served }

abbrev pub turn_told : Talk → Turn → Turn
turn_told before it = record { control = it.control; talk = told before it.talk; asks = it.asks }

-- what was said before makes no difference to a callback: what it says comes behind
abbrev pub BeginTells : Facts → Cursor → List ℕ → Talk → Type 0
BeginTells f k used t = begin f k used t ≡ turn_told t (begin f k used (silent t.names))

abbrev pub GiveTells : Facts → Control → ℕ → Answer → Talk → Type 0
GiveTells f c s a t = give f c s a t ≡ turn_told t (give f c s a (silent t.names))

-- a handler on its way to whom an answer is given with nothing said before
abbrev pub given_silently : Facts → ℕ → Answer → Going → Going
given_silently f s a g =
    let it : Turn = give f g.control s a (silent g.world.talk.names) in
    record { control = it.control; answers = upd g.answers s None; world = told_in g.world it.talk }

abbrev pub StepsSilently : Facts → ℕ → Answer → Going → Type 0
StepsSilently f s a g = g.answers s ≡ Some a → step f (Give s) g ≡ given_silently f s a g

-- no request is served before its answer is given at once
abbrev pub unanswered : Answers
unanswered s = None

-- what such a handler comes to
abbrev pub at_once : Facts → Control → World → World
at_once f c w = left f unanswered c w

-- it begins, and comes to its run
abbrev pub BeginsAtOnce : Facts → Text → Cells → Type 0
BeginsAtOnce f text cells =
    is_accepted text ≡ true
    → (let it : Turn = begin f (Rest text ∷ []) [] (silent (λ i. pos 0)) in at_once f it.control (told_in (begun cells) it.talk)) ≡ run f text (begun cells)

-- what a slot asks is served and the answer given: what it comes to stays
abbrev pub ServesAtOnce : ℕ → List Kind → Facts → Control → ℕ → Request → World → Type 0
ServesAtOnce n kinds f c s r w =
    IsSound n kinds c → request_at c s ≡ Some r
    → (let it : Turn = give f c s (answer_of r w.cells) (silent w.talk.names) in at_once f it.control (told_in (apply r w) it.talk)) ≡ at_once f c w

-- while a request waits, more requests are served than were served so far
abbrev pub ServesMore : ℕ → List Kind → Facts → Control → ℕ → Request → World → Type 0
ServesMore n kinds f c s r w = IsSound n kinds c → request_at c s ≡ Some r → w.served < (at_once f c w).served
