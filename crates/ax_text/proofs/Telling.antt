-- What was said before makes no difference to a callback, and what it says comes behind.
use Rattle.std.proofs.Common.{◌≡◌, ℕ, ℤ, pos, ◌+◌, ◌<◌, List, [], ◌∷◌, ◌++◌, map, Bool, true, false, ◌&&◌, nat_eq, if◌then◌else◌, refl, sym, ap, ◌∙◌, append_assoc, arith, Option, Some, None}
use Rattle.std.specs.Ordering.{int_eq}
use Rattle.std.proofs.lemmas.Bool.{eq-eqb}
use Rattle.std.proofs.lemmas.List.{append-nil}
use Rattle.ax_base.specs.declared.lists.Pair.{Pair}
use Rattle.ax_text.specs.declared.vocabulary.Kind.{Kind}
use Rattle.ax_text.specs.declared.vocabulary.Request.{Request}
use Rattle.ax_text.specs.declared.vocabulary.Answer.{Answer}
use Rattle.ax_text.specs.declared.vocabulary.TimerOp.{TimerOp}
use Rattle.ax_text.specs.declared.vocabulary.TimerOp.TheVariants as timer
use Rattle.ax_text.specs.Functions.{upd}
use Rattle.ax_text.specs.Exprs.{Facts, value}
use Rattle.ax_text.specs.Cells.{Cells, answer_of}
use Rattle.ax_text.specs.Texts.{Quiet, Let, Emit, Timer, Untimer, Loop, Text, Stop, Act, Ask, If, Each, Both}
use Rattle.ax_text.specs.Run.{Talk, World, with_names, act, take_in, apply, turns_of, bind}
use Rattle.ax_text.specs.Prints.{has}
use Rattle.ax_text.specs.Controls.{Frame, Rest, Turns, Cursor, Next, Take, Begin, Control, Done, Wait, Arms, Ask' as Asked, Turn, Answers, Going, slots, is_done, ended, also, joined, begin_text, begin_turns, begin_frame, begin, resume, give_in, without, give, give_at, left}
use Rattle.ax_text.specs.Sound.{everything}
use Rattle.ax_text.specs.Silent.{silent, BeginTells, GiveTells, StepsSilently, unanswered, at_once, BeginsAtOnce, ServesAtOnce, ServesMore}
use Rattle.ax_text.proofs.Keeps.{by_cases, keeps_left}
use Rattle.ax_text.proofs.Steps.{Blank, BlankBut, Goes, IsGiven, after_talk, begin_ok, given, serve_ok, upd_at, upd_off, left_same}
use Rattle.ax_text.proofs.Wakeful.{slot_waits}
use Rattle.ax_text.proofs.Accepting.{accepted_fits}

-- what was said before these
abbrev said : List (List ℤ) → List TimerOp → Talk → Talk
said l o t = record { names = t.names; lines = l ++ t.lines; ops = o ++ t.ops }

abbrev turn_said : List (List ℤ) → List TimerOp → Turn → Turn
turn_said l o it = record { control = it.control; talk = said l o it.talk; asks = it.asks }

module _ (f : Facts) (l : List (List ℤ)) (o : List TimerOp) where
  unfoldable Tells : (Talk → Turn) → Type 0
  Tells go = (t : Talk) → go (said l o t) ≡ turn_said l o (go t)

  act_tells : (q : Quiet) (t : Talk) → act f q (said l o t) ≡ said l o (act f q t)
  act_tells (Let x e) t = refl
  act_tells (Emit es) t = ap (λ (x : List (List ℤ)). record { names = t.names; lines = x; ops = o ++ t.ops }) (append_assoc l t.lines (map (value f t.names) es ∷ []))
  act_tells (Timer e) t = ap (λ (x : List TimerOp). record { names = t.names; lines = l ++ t.lines; ops = x }) (append_assoc o t.ops (timer.Set (value f t.names e) ∷ []))
  act_tells (Untimer e) t = ap (λ (x : List TimerOp). record { names = t.names; lines = l ++ t.lines; ops = x }) (append_assoc o t.ops (timer.Unset (value f t.names e) ∷ []))

  joined_tells : (one two : Control) (asks : List Asked) (k : Cursor) (go : Talk → Turn) → Tells go → Tells (joined one two asks k go)
  unfolding Tells
  joined_tells one two asks k go g t = of (is_done one && is_done two) where
    of : (b : Bool) → (if b then also asks (go (said l o t)) else record { control = Arms one two k; talk = said l o t; asks = asks })
        ≡ turn_said l o (if b then also asks (go t) else record { control = Arms one two k; talk = t; asks = asks })
    of true = ap (also asks) (g t)
    of false = refl

  ended_tells : Tells ended
  unfolding Tells
  ended_tells t = refl

  begin_text_tells : (c : Text) (used : List ℕ) (k : Cursor) (go : Talk → Turn) → Tells go → Tells (begin_text f c used k go)
  unfolding Tells
  begin_text_tells Stop used k go g t = g t
  begin_text_tells (Act q c) used k go g t = ap (begin_text f c used k go) (act_tells q t) ∙ begin_text_tells c used k go g (act f q t)
  begin_text_tells (Ask a c) used k go g t = refl
  begin_text_tells (If e a b c) used k go g t =
      of (int_eq (value f t.names e) (pos 0)) (begin_text_tells a used (Rest c ∷ k) (begin_text f c used k go) (begin_text_tells c used k go g) t)
      (begin_text_tells b used (Rest c ∷ k) (begin_text f c used k go) (begin_text_tells c used k go g) t)
    where
      one : Talk → Turn
      one = begin_text f a used (Rest c ∷ k) (begin_text f c used k go)

      two : Talk → Turn
      two = begin_text f b used (Rest c ∷ k) (begin_text f c used k go)

      of : (x : Bool) → one (said l o t) ≡ turn_said l o (one t) → two (said l o t) ≡ turn_said l o (two t) → (if x then two else one) (said l o t) ≡ turn_said l o ((if x then two else one) t)
      of true p q = q
      of false p q = p
  begin_text_tells (Each lp body c) used k go g t = refl
  begin_text_tells (Both a b c) used k go g t =
      let one : Turn = begin_text f a used [] ended t in
      let two : Turn = begin_text f b (used ++ slots one.control) [] ended one.talk in
      ap (λ (x : Turn). (let y : Turn = begin_text f b (used ++ slots x.control) [] ended x.talk in joined x.control y.control (x.asks ++ y.asks) (Rest c ∷ k) (begin_text f c used k go) y.talk)) (begin_text_tells a used [] ended ended_tells t)
      ∙ (ap (λ (y : Turn). joined one.control y.control (one.asks ++ y.asks) (Rest c ∷ k) (begin_text f c used k go) y.talk) (begin_text_tells b (used ++ slots one.control) [] ended ended_tells one.talk)
      ∙ joined_tells one.control two.control (one.asks ++ two.asks) (Rest c ∷ k) (begin_text f c used k go) (begin_text_tells c used k go g) two.talk)

  begin_turns_tells : (lp : Loop) (ps : List Pair) (body : Text) (used : List ℕ) (k : Cursor) (go : Talk → Turn) → Tells go → Tells (begin_turns f lp ps body used k go)
  unfolding Tells
  begin_turns_tells lp [] body used k go g t = g t
  begin_turns_tells lp (p ∷ ps) body used k go g t = begin_text_tells body used (Turns lp ps body ∷ k) (begin_turns f lp ps body used k go) (begin_turns_tells lp ps body used k go g) (with_names (bind lp p t.names) t)

  begin_frame_tells : (x : Frame) (used : List ℕ) (k : Cursor) (go : Talk → Turn) → Tells go → Tells (begin_frame f x used k go)
  begin_frame_tells (Rest c) used k go g = begin_text_tells c used k go g
  begin_frame_tells (Turns lp ps body) used k go g = begin_turns_tells lp ps body used k go g

  begin_said : (k : Cursor) (used : List ℕ) → Tells (begin f k used)
  unfolding Tells begin
  begin_said [] used t = refl
  begin_said (x ∷ k) used t = begin_frame_tells x used k (begin f k used) (begin_said k used) t

  resume_said : (x : Next) (a : Answer) (k : Cursor) (used : List ℕ) → Tells (resume f x a k used)
  unfolding Tells
  resume_said (Take x) a k used t = begin_said k used (with_names (take_in x a t.names) t)
  resume_said (Begin lp body) a k used t = begin_said (Turns lp (turns_of a) body ∷ k) used t

  give_in_said : (c : Control) (s : ℕ) (a : Answer) (used : List ℕ) → Tells (give_in f c s a used)
  unfolding Tells
  give_in_said Done s a used t = refl
  give_in_said (Wait s' r x k) s a used t = resume_said x a k used t
  give_in_said (Arms one two k) s a used t = of (has s (slots one)) (give_in_said one s a used t) (give_in_said two s a used t)
    where
      first : Turn → Turn
      first it = joined it.control two it.asks k (begin f k used) it.talk

      second : Turn → Turn
      second at = joined one at.control at.asks k (begin f k used) at.talk

      of : (b : Bool) → give_in f one s a used (said l o t) ≡ turn_said l o (give_in f one s a used t) → give_in f two s a used (said l o t) ≡ turn_said l o (give_in f two s a used t)
          → (if b then first (give_in f one s a used (said l o t)) else second (give_in f two s a used (said l o t))) ≡ turn_said l o (if b then first (give_in f one s a used t) else second (give_in f two s a used t))
      of true p q = let it : Turn = give_in f one s a used t in ap first p ∙ joined_tells it.control two it.asks k (begin f k used) (begin_said k used) it.talk
      of false p q = let at : Turn = give_in f two s a used t in ap second q ∙ joined_tells one at.control at.asks k (begin f k used) (begin_said k used) at.talk

-- nothing said, and then what was said before
said_silent : (t : Talk) → said t.lines t.ops (silent t.names) ≡ t
said_silent t = λ i. record { names = t.names; lines = append-nil t.lines i; ops = append-nil t.ops i }

module _ (f : Facts) where
  pub begin_tells : (k : Cursor) (used : List ℕ) (t : Talk) → BeginTells f k used t
  unfolding Tells
  begin_tells k used t = ap (begin f k used) (sym (said_silent t)) ∙ begin_said f t.lines t.ops k used (silent t.names)

  pub give_tells : (c : Control) (s : ℕ) (a : Answer) (t : Talk) → GiveTells f c s a t
  unfolding Tells give
  give_tells c s a t = ap (give_in f c s a (without s (slots c))) (sym (said_silent t)) ∙ give_in_said f t.lines t.ops c s a (without s (slots c)) (silent t.names)

  pub steps_silently : (s : ℕ) (a : Answer) (g : Going) → StepsSilently f s a g
  steps_silently s a g h =
      ap (λ (x : Option Answer). give_at f s x g) h
      ∙ ap (λ (it : Turn). record { control = it.control; answers = upd g.answers s None; world = record { talk = it.talk; cells = g.world.cells; served = g.world.served } }) (give_tells g.control s a g.world.talk)

  pub begins_at_once : (text : Text) (cells : Cells) → BeginsAtOnce f text cells
  unfolding Goes after_talk Blank
  begins_at_once text cells a = (begin_ok f (Rest text ∷ []) everything [] (accepted_fits text a, tt) (silent (λ i. pos 0))).law unanswered (λ s h. refl) cells 0

  pub serves_at_once : (n : ℕ) (kinds : List Kind) (c : Control) (s : ℕ) (r : Request) (w : World) → ServesAtOnce n kinds f c s r w
  unfolding BlankBut
  serves_at_once n kinds c s r w h e =
      ap (λ (it : Turn). at_once f it.control (record { talk = it.talk; cells = v.cells; served = v.served })) (sym (give_tells c s a w.talk))
      ∙ (sym (left_same f it.control served unanswered cleared (record { talk = it.talk; cells = v.cells; served = v.served }))
      ∙ (gave.law answers (upd_at unanswered s (Some a) s (same s)) (λ j x z. upd_off unanswered s (Some a) j z) v.cells v.served
      ∙ serve_ok f c everything unanswered s r h.fits h.split e refl w))
    where
      a : Answer
      a = answer_of r w.cells

      v : World
      v = apply r w

      answers : Answers
      answers = upd unanswered s (Some a)

      served : Answers
      served = upd answers s None

      it : Turn
      it = give f c s a w.talk

      gave : IsGiven f everything c s a (without s (slots c)) w.talk it
      gave = given f c everything s a h.fits h.split (slot_waits c s r e) w.talk

      same : (j : ℕ) → nat_eq j j ≡ true
      same j = eq-eqb j j refl

      cleared : (j : ℕ) → has j (slots it.control) ≡ true → served j ≡ unanswered j
      cleared j x = by_cases (nat_eq s j) (λ y. upd_at answers s None j y) (λ y. upd_off answers s None j y ∙ upd_off unanswered s (Some a) j y)

  pub serves_more : (n : ℕ) (kinds : List Kind) (c : Control) (s : ℕ) (r : Request) (w : World) → ServesMore n kinds f c s r w
  serves_more n kinds c s r w h e =
      let a : Answer = answer_of r w.cells in
      let same = serve_ok f c everything unanswered s r h.fits h.split e refl w in
      let more = (keeps_left f c (upd unanswered s (Some a)) everything h.fits).counts (apply r w) (apply r w) (record { names = λ n x. refl; cells = λ m x. refl }) in
      let total = ap (λ (x : World). x.served) same in
      less more.0 (left f (upd unanswered s (Some a)) c (apply r w)).served (at_once f c w).served more.1 total
    where
      less : (m x y : ℕ) → x ≡ m + (w.served + 1) → x ≡ y → w.served < y
      less m x y p q = omega arith
