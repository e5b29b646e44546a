-- What was said and served before makes no difference.
use Rattle.std.proofs.Common.{◌≡◌, ℕ, ℤ, pos, ◌+◌, List, [], ◌∷◌, ◌++◌, map, Bool, true, false, if◌then◌else◌, refl, ap, ◌∙◌, append_assoc, arith, Option, Some, None}
use Rattle.std.specs.Ordering.{int_eq}
use Rattle.ax_base.specs.declared.lists.Pair.{Pair}
use Rattle.ax_text.specs.declared.vocabulary.Request.{Request}
use Rattle.ax_text.specs.declared.vocabulary.Answer.{Answer}
use Rattle.ax_text.specs.declared.vocabulary.TimerOp.{TimerOp}
use Rattle.ax_text.specs.declared.vocabulary.TimerOp.TheVariants as timer
use Rattle.ax_text.specs.Exprs.{Facts, Names, value}
use Rattle.ax_text.specs.Cells.{Cells, answer_of, cells_after}
use Rattle.ax_text.specs.Texts.{Quiet, Let, Emit, Timer, Untimer, Asking, Loop, Text, Stop, Act, Ask, If, Each, Both}
use Rattle.ax_text.specs.Run.{World, with_names, request_of, after_of, take_in, talk_in, apply, act_in, ask_in, loop_request, turns_of, bind, run_turns, choose, run}
use Rattle.ax_text.specs.Controls.{Frame, Rest, Turns, Cursor, Next, Take, Begin, Control, Done, Wait, Arms, Answers, run_frame, run_cursor, finish, left_wait, left}

-- a world before which these lines were written, these operations done and so many requests served
abbrev pub behind : List (List ℤ) → List TimerOp → ℕ → World → World
behind l o n w = record { talk = record { names = w.talk.names; lines = l ++ w.talk.lines; ops = o ++ w.talk.ops }; cells = w.cells; served = n + w.served }

abbrev world : Names → List (List ℤ) → List TimerOp → Cells → ℕ → World
world names lines ops cells served = record { talk = record { names = names; lines = lines; ops = ops }; cells = cells; served = served }

module _ (f : Facts) (l : List (List ℤ)) (o : List TimerOp) (n : ℕ) where
  unfoldable pub Same : (World → World) → Type 0
  Same g = (w : World) → g (behind l o n w) ≡ behind l o n (g w)

  same_act : (q : Quiet) → Same (act_in f q)
  unfolding Same
  same_act (Let x e) w = refl
  same_act (Emit es) w = ap (λ (x : List (List ℤ)). world w.talk.names x (o ++ w.talk.ops) w.cells (n + w.served)) (append_assoc l w.talk.lines (map (value f w.talk.names) es ∷ []))
  same_act (Timer e) w = ap (λ (x : List TimerOp). world w.talk.names (l ++ w.talk.lines) x w.cells (n + w.served)) (append_assoc o w.talk.ops (timer.Set (value f w.talk.names e) ∷ []))
  same_act (Untimer e) w = ap (λ (x : List TimerOp). world w.talk.names (l ++ w.talk.lines) x w.cells (n + w.served)) (append_assoc o w.talk.ops (timer.Unset (value f w.talk.names e) ∷ []))

  same_apply : (r : Request) → Same (apply r)
  unfolding Same
  same_apply r w = ap (λ (m : ℕ). world w.talk.names (l ++ w.talk.lines) (o ++ w.talk.ops) (cells_after r w.cells) m) (one w.served) where
    one : (m : ℕ) → n + m + 1 ≡ n + (m + 1)
    one m = omega arith

  same_names : (g : Names → Names) → Same (talk_in (λ t. with_names (g t.names) t))
  unfolding Same
  same_names g w = refl

  same_ask : (a : Asking) → Same (ask_in f a)
  unfolding Same
  same_ask a w =
      let r = request_of f a w.talk.names in
      ap (talk_in (λ t. with_names (take_in (after_of f a w.talk.names) (answer_of r w.cells) t.names) t)) (same_apply r w)

  same_turns : (go : World → World) (lp : Loop) (ps : List Pair) → Same go → Same (run_turns go lp ps)
  unfolding Same
  same_turns go lp [] p w = refl
  same_turns go lp (x ∷ ps) p w =
      let v : World = talk_in (λ t. with_names (bind lp x t.names) t) w in
      ap (run_turns go lp ps) (p v) ∙ same_turns go lp ps p (go v)

  same_choose : (m : ℤ) (g h : World → World) → Same g → Same h → Same (choose m g h)
  same_choose m g h p q = of (int_eq m (pos 0)) where
    of : (b : Bool) → Same (if b then h else g)
    of true = q
    of false = p

  pub same_run : (t : Text) → Same (run f t)
  unfolding Same
  same_run Stop w = refl
  same_run (Act q t) w = ap (run f t) (same_act q w) ∙ same_run t (act_in f q w)
  same_run (Ask a t) w = ap (run f t) (same_ask a w) ∙ same_run t (ask_in f a w)
  same_run (If e a b t) w =
      let m = value f w.talk.names e in
      ap (run f t) (same_choose m (run f a) (run f b) (same_run a) (same_run b) w) ∙ same_run t (choose m (run f a) (run f b) w)
  same_run (Each lp body t) w =
      let ps = turns_of (answer_of (loop_request lp) w.cells) in
      let v : World = apply (loop_request lp) w in
      ap (run f t) (ap (run_turns (run f body) lp ps) (same_apply (loop_request lp) w) ∙ same_turns (run f body) lp ps (same_run body) v) ∙ same_run t (run_turns (run f body) lp ps v)
  same_run (Both a b t) w = ap (λ (v : World). run f t (run f b v)) (same_run a w) ∙ (ap (run f t) (same_run b (run f a w)) ∙ same_run t (run f b (run f a w)))

  same_frame : (x : Frame) → Same (run_frame f x)
  same_frame (Rest t) = same_run t
  same_frame (Turns lp ps body) = same_turns (run f body) lp ps (same_run body)

  pub same_cursor : (k : Cursor) → Same (run_cursor f k)
  unfolding Same
  same_cursor [] w = refl
  same_cursor (x ∷ k) w = ap (run_cursor f k) (same_frame x w) ∙ same_cursor k (run_frame f x w)

  same_finish : (x : Next) (a : Answer) → Same (finish f x a)
  same_finish (Take after) a = same_names (take_in after a)
  same_finish (Begin lp body) a = same_turns (run f body) lp (turns_of a) (same_run body)

  same_wait : (a : Option Answer) (r : Request) (x : Next) → Same (left_wait f a r x)
  unfolding Same
  same_wait (Some a) r x w = same_finish x a w
  same_wait None r x w = ap (finish f x (answer_of r w.cells)) (same_apply r w) ∙ same_finish x (answer_of r w.cells) (apply r w)

  pub same_left : (c : Control) (answers : Answers) → Same (left f answers c)
  unfolding Same
  same_left Done answers w = refl
  same_left (Wait s r x k) answers w = ap (run_cursor f k) (same_wait (answers s) r x w) ∙ same_cursor k (left_wait f (answers s) r x w)
  same_left (Arms one two k) answers w = ap (λ (v : World). run_cursor f k (left f answers two v)) (same_left one answers w)
      ∙ (ap (run_cursor f k) (same_left two answers (left f answers one w)) ∙ same_cursor k (left f answers two (left f answers one w)))
