-- At most as many requests wait as the text is wide.
use Rattle.std.proofs.Common.{◌≡◌, ℕ, pos, ◌+◌, ◌≤◌, length, List, [], ◌∷◌, ◌++◌, Bool, true, false, ◌&&◌, if◌then◌else◌, arith, length-append, Option, Some, None}
use Rattle.std.specs.Ordering.{int_eq}
use Rattle.ax_base.specs.declared.lists.Pair.{Pair}
use Rattle.ax_text.specs.declared.vocabulary.Answer.{Answer}
use Rattle.ax_text.specs.declared.vocabulary.Request.{Request}
use Rattle.ax_text.specs.Exprs.{Facts, value}
use Rattle.ax_text.specs.Texts.{Loop, Text, Stop, Act, Ask, If, Each, Both}
use Rattle.ax_text.specs.Cells.{Cells}
use Rattle.ax_text.specs.Run.{Talk, with_names, act, take_in, turns_of, bind, begun}
use Rattle.ax_text.specs.Programs.{width}
use Rattle.ax_text.specs.Widths.{FrameWide, CursorWide, NextWide, ControlWide}
use Rattle.ax_text.specs.Prints.{has}
use Rattle.ax_text.specs.Controls.{Frame, Rest, Turns, Cursor, Next, Take, Begin, Control, Done, Wait, Arms, Ask' as Asked, Turn, slots, is_done, ended, also, joined, begin_text, begin_turns, begin_frame, begin, resume, give_in, give, without, request_at, Going, Event, Serve, Give, started, serve_at, give_at, step, steps}
use Rattle.ax_text.specs.Futures.{going, StaysWithin}

pub slots_wide : (n : ℕ) (c : Control) → ControlWide n c → length (slots c) ≤ n
unfolding ControlWide
slots_wide n Done h = omega arith
slots_wide n (Wait s r x k) h = h.0
slots_wide n (Arms one two k) h =
    let a : length (slots one) ≤ h.0 = slots_wide h.0 one h.3 in
    let b : length (slots two) ≤ h.1 = slots_wide h.1 two h.4 in
    let c : h.0 + h.1 ≤ n = h.2 in
    let e : length (slots one ++ slots two) ≡ length (slots one) + length (slots two) = length-append (slots one) (slots two) in
    omega arith

joined_wide : (n a b : ℕ) (one two : Control) (asks : List Asked) (k : Cursor) (go : Talk → Turn) (t : Talk) → a + b ≤ n → ControlWide a one → ControlWide b two → CursorWide n k → ControlWide n (go t).control
    → ControlWide n (joined one two asks k go t).control
unfolding ControlWide
joined_wide n a b one two asks k go t l p q r g = of (is_done one && is_done two) where
  of : (x : Bool) → ControlWide n (if x then also asks (go t) else record { control = Arms one two k; talk = t; asks = asks }).control
  of true = g
  of false = (a, b, l, p, q, r)

module _ (f : Facts) where
  begin_text_wide : (n : ℕ) (c : Text) (used : List ℕ) (k : Cursor) (go : Talk → Turn) → width c ≤ n → CursorWide n k → ((t : Talk) → ControlWide n (go t).control) → (t : Talk) → ControlWide n (begin_text f c used k go t).control
  unfolding ControlWide CursorWide FrameWide NextWide
  begin_text_wide n Stop used k go h r g t = g t
  begin_text_wide n (Act q c) used k go h r g t = begin_text_wide n c used k go h r g (act f q t)
  begin_text_wide n (Ask a c) used k go h r g t = (omega arith, tt, (omega arith, r))
  begin_text_wide n (If e a b c) used k go h r g t =
      let rest : width c ≤ n = omega arith in
      of (int_eq (value f t.names e) (pos 0)) (begin_text_wide n a used (Rest c ∷ k) (begin_text f c used k go) (omega arith) (rest, r) (begin_text_wide n c used k go rest r g) t)
      (begin_text_wide n b used (Rest c ∷ k) (begin_text f c used k go) (omega arith) (rest, r) (begin_text_wide n c used k go rest r g) t)
    where
      of : (x : Bool) → ControlWide n (begin_text f a used (Rest c ∷ k) (begin_text f c used k go) t).control → ControlWide n (begin_text f b used (Rest c ∷ k) (begin_text f c used k go) t).control
          → ControlWide n ((if x then begin_text f b used (Rest c ∷ k) (begin_text f c used k go) else begin_text f a used (Rest c ∷ k) (begin_text f c used k go)) t).control
      of true p q = q
      of false p q = p
  begin_text_wide n (Each l body c) used k go h r g t = (omega arith, omega arith, (omega arith, r))
  begin_text_wide n (Both a b c) used k go h r g t =
      let one : Turn = begin_text f a used [] ended t in
      let two : Turn = begin_text f b (used ++ slots one.control) [] ended one.talk in
      let rest : width c ≤ n = omega arith in
      joined_wide n (width a) (width b) one.control two.control (one.asks ++ two.asks) (Rest c ∷ k) (begin_text f c used k go) two.talk (omega arith)
      (begin_text_wide (width a) a used [] ended (omega arith) tt (λ u. tt) t) (begin_text_wide (width b) b (used ++ slots one.control) [] ended (omega arith) tt (λ u. tt) one.talk)
      (rest, r) (begin_text_wide n c used k go rest r g two.talk)

  begin_turns_wide : (n : ℕ) (l : Loop) (ps : List Pair) (body : Text) (used : List ℕ) (k : Cursor) (go : Talk → Turn) → width body ≤ n → CursorWide n k → ((t : Talk) → ControlWide n (go t).control) → (t : Talk) → ControlWide n (begin_turns f l ps body used k go t).control
  unfolding CursorWide FrameWide
  begin_turns_wide n l [] body used k go h r g t = g t
  begin_turns_wide n l (p ∷ ps) body used k go h r g t = begin_text_wide n body used (Turns l ps body ∷ k) (begin_turns f l ps body used k go) h (h, r) (begin_turns_wide n l ps body used k go h r g) (with_names (bind l p t.names) t)

  begin_frame_wide : (n : ℕ) (x : Frame) (used : List ℕ) (k : Cursor) (go : Talk → Turn) → FrameWide n x → CursorWide n k → ((t : Talk) → ControlWide n (go t).control) → (t : Talk) → ControlWide n (begin_frame f x used k go t).control
  unfolding FrameWide
  begin_frame_wide n (Rest c) used k go h r g t = begin_text_wide n c used k go h r g t
  begin_frame_wide n (Turns l ps body) used k go h r g t = begin_turns_wide n l ps body used k go h r g t

  pub begin_wide : (n : ℕ) (k : Cursor) (used : List ℕ) (t : Talk) → CursorWide n k → ControlWide n (begin f k used t).control
  unfolding begin CursorWide ControlWide
  begin_wide n [] used t h = tt
  begin_wide n (x ∷ k) used t h = begin_frame_wide n x used k (begin f k used) h.0 h.1 (λ u. begin_wide n k used u h.1) t

  resume_wide : (n : ℕ) (x : Next) (a : Answer) (k : Cursor) (used : List ℕ) (t : Talk) → NextWide n x → CursorWide n k → ControlWide n (resume f x a k used t).control
  unfolding NextWide CursorWide FrameWide
  resume_wide n (Take x) a k used t h r = begin_wide n k used (with_names (take_in x a t.names) t) r
  resume_wide n (Begin l body) a k used t h r = begin_wide n (Turns l (turns_of a) body ∷ k) used t (h, r)

  pub give_in_wide : (n : ℕ) (c : Control) (s : ℕ) (a : Answer) (used : List ℕ) (t : Talk) → ControlWide n c → ControlWide n (give_in f c s a used t).control
  unfolding ControlWide
  give_in_wide n Done s a used t h = tt
  give_in_wide n (Wait s' r x k) s a used t h = resume_wide n x a k used t h.1 h.2
  give_in_wide n (Arms one two k) s a used t h = of (has s (slots one)) (give_in_wide h.0 one s a used t h.3) (give_in_wide h.1 two s a used t h.4) where
    it : Turn
    it = give_in f one s a used t

    at : Turn
    at = give_in f two s a used t

    of : (b : Bool) → ControlWide h.0 it.control → ControlWide h.1 at.control → ControlWide n (if b then joined it.control two it.asks k (begin f k used) it.talk else joined one at.control at.asks k (begin f k used) at.talk).control
    of true p q = joined_wide n h.0 h.1 it.control two it.asks k (begin f k used) it.talk h.2 p h.4 h.5 (begin_wide n k used it.talk h.5)
    of false p q = joined_wide n h.0 h.1 one at.control at.asks k (begin f k used) at.talk h.2 h.3 q h.5 (begin_wide n k used at.talk h.5)

  pub step_wide : (n : ℕ) (e : Event) (g : Going) → ControlWide n g.control → ControlWide n (step f e g).control
  unfolding give
  step_wide n (Serve s) g h = of (request_at g.control s) (g.answers s) where
    of : (q : Option Request) (a : Option Answer) → ControlWide n (serve_at s q a g).control
    of None a = h
    of (Some q) None = h
    of (Some q) (Some a) = h
  step_wide n (Give s) g h = of (g.answers s) where
    of : (a : Option Answer) → ControlWide n (give_at f s a g).control
    of None = h
    of (Some a) = give_in_wide n g.control s a (without s (slots g.control)) g.world.talk h

  steps_wide : (n : ℕ) (es : List Event) (g : Going) → ControlWide n g.control → ControlWide n (steps f es g).control
  steps_wide n [] g h = h
  steps_wide n (e ∷ es) g h = steps_wide n es (step f e g) (step_wide n e g h)

  pub stays_within : (t : Text) (cells : Cells) (es : List Event) → StaysWithin f t cells es
  unfolding CursorWide FrameWide
  stays_within t cells es = slots_wide (width t) (going f t cells es).control (steps_wide (width t) es (started f t (begun cells)) (begin_wide (width t) (Rest t ∷ []) [] (begun cells).talk (omega arith, tt)))
