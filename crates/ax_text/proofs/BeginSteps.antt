-- What each statement does to a cursor that begins: what a loop over a stack of frames needs.
use Rattle.std.proofs.Common.{◌≡◌, ◌∙◌, ℕ, pos, ◌+◌, ◌*◌, length, List, [], ◌∷◌, ◌++◌, true, false, refl, ap}
use Rattle.std.specs.Ordering.{int_eq}
use Rattle.ax_base.specs.declared.lists.Pair.{Pair}
use Rattle.ax_text.specs.Exprs.{Facts, Expr, value}
use Rattle.ax_text.specs.Texts.{Quiet, Asking, Loop, Text, Stop, Act, Ask, If, Each, Both}
use Rattle.ax_text.specs.Run.{Talk, with_names, act, request_of, after_of, loop_request, bind}
use Rattle.ax_text.specs.Controls.{Frame, Rest, Turns, Cursor, Take, Begin, Turn, slots, least_free, ended, waits, joined, begin_text, begin}

module _ (f : Facts) (k : Cursor) (used : List ℕ) (t : Talk) where
  pub stop_step : begin f (Rest Stop ∷ k) used t ≡ begin f k used t
  unfolding begin
  stop_step = refl

  pub act_step : (q : Quiet) (c : Text) → begin f (Rest (Act q c) ∷ k) used t ≡ begin f (Rest c ∷ k) used (act f q t)
  unfolding begin
  act_step q c = refl

  pub ask_step : (a : Asking) (c : Text) → begin f (Rest (Ask a c) ∷ k) used t ≡ waits (least_free used) (request_of f a t.names) (Take (after_of f a t.names)) (Rest c ∷ k) t
  unfolding begin
  ask_step a c = refl

  pub if_one : (e : Expr) (a b c : Text) → int_eq (value f t.names e) (pos 0) ≡ false → begin f (Rest (If e a b c) ∷ k) used t ≡ begin f (Rest a ∷ Rest c ∷ k) used t
  unfolding begin
  if_one e a b c h = rw h refl

  pub if_other : (e : Expr) (a b c : Text) → int_eq (value f t.names e) (pos 0) ≡ true → begin f (Rest (If e a b c) ∷ k) used t ≡ begin f (Rest b ∷ Rest c ∷ k) used t
  unfolding begin
  if_other e a b c h = rw h refl

  pub each_step : (l : Loop) (body c : Text) → begin f (Rest (Each l body c) ∷ k) used t ≡ waits (least_free used) (loop_request l) (Begin l body) (Rest c ∷ k) t
  unfolding begin
  each_step l body c = refl

  pub turn_step : (l : Loop) (p : Pair) (ps : List Pair) (body : Text) → begin f (Turns l (p ∷ ps) body ∷ k) used t ≡ begin f (Rest body ∷ Turns l ps body ∷ k) used (with_names (bind l p t.names) t)
  unfolding begin
  turn_step l p ps body = refl

  pub turns_end : (l : Loop) (body : Text) → begin f (Turns l [] body ∷ k) used t ≡ begin f k used t
  unfolding begin
  turns_end l body = refl

  pub both_step : (a b c : Text) (one two : Turn) → begin f (Rest a ∷ []) used t ≡ one → begin f (Rest b ∷ []) (used ++ slots one.control) one.talk ≡ two
      → begin f (Rest (Both a b c) ∷ k) used t ≡ joined one.control two.control (one.asks ++ two.asks) (Rest c ∷ k) (begin f (Rest c ∷ k) used) two.talk
  unfolding begin
  both_step a b c one two p q =
      ap (λ (x : Turn). (let y : Turn = begin_text f b (used ++ slots x.control) [] ended x.talk in joined x.control y.control (x.asks ++ y.asks) (Rest c ∷ k) (begin_text f c used k (begin f k used)) y.talk)) p
      ∙ ap (λ (y : Turn). joined one.control y.control (one.asks ++ y.asks) (Rest c ∷ k) (begin_text f c used k (begin f k used)) y.talk) q

-- how far a cursor has to go at most
abbrev pub size : Text → ℕ
size Stop = 1
size (Act q c) = 1 + size c
size (Ask a c) = 1 + size c
size (If e a b c) = 1 + (size a + (size b + size c))
size (Each l body c) = 1 + (size body + size c)
size (Both a b c) = 1 + (size a + (size b + size c))

abbrev pub frame_size : Frame → ℕ
frame_size (Rest c) = size c
frame_size (Turns l ps body) = 1 + length ps * (1 + size body)

abbrev pub sizes : Cursor → ℕ
sizes [] = 0
sizes (x ∷ k) = frame_size x + sizes k
