-- An answer moves its control.
use Rattle.std.proofs.Common.{◌≡◌, ◌≢◌, ℕ, pos, ◌+◌, ◌<◌, ◌≤◌, length, List, [], ◌∷◌, ◌++◌, Bool, true, false, ◌&&◌, if◌then◌else◌, refl, ap, subst, arith, ◌⊎◌, inl, inr, ⊎_elim}
use Rattle.std.specs.Ordering.{int_eq}
use Rattle.std.proofs.lemmas.Bool.{both_ways}
use Rattle.ax_base.specs.declared.lists.Pair.{Pair}
use Rattle.ax_text.specs.declared.vocabulary.Request.{Request}
use Rattle.ax_text.specs.declared.vocabulary.Answer.{Answer}
use Rattle.ax_text.specs.Exprs.{Facts, value}
use Rattle.ax_text.specs.Texts.{Loop, Text, Stop, Act, Ask, If, Each, Both}
use Rattle.ax_text.specs.Run.{Talk, with_names, act, take_in, turns_of, bind}
use Rattle.ax_text.specs.Prints.{has}
use Rattle.ax_text.specs.Controls.{Frame, Rest, Turns, Cursor, Next, Take, Begin, Control, Done, Wait, Arms, Ask' as Asked, Turn, slots, is_done, ended, also, joined, begin_text, begin_turns, begin_frame, begin, resume, give_in, without, give}
use Rattle.ax_text.proofs.Steps.{mem_either}
use Rattle.ax_text.proofs.BeginSteps.{size, frame_size, sizes}

-- a cursor that is longer than n, or has less to go than m
Off : ℕ → ℕ → Cursor → Type 0
Off n m k = (n < length k) ⊎ (sizes k < m)

unfoldable Stops : ℕ → ℕ → Control → Type 0
Stops n m Done = Unit {0}
Stops n m (Wait s r x k) = Off n m k
Stops n m (Arms one two k) = Off n m k

module _ (f : Facts) (n m : ℕ) where
  joined_stops : (one two : Control) (asks : List Asked) (k : Cursor) (go : Talk → Turn) (t : Talk) → Off n m k → Stops n m (go t).control → Stops n m (joined one two asks k go t).control
  unfolding Stops
  joined_stops one two asks k go t h g = of (is_done one && is_done two) where
    of : (x : Bool) → Stops n m (if x then also asks (go t) else record { control = Arms one two k; talk = t; asks = asks }).control
    of true = g
    of false = h

  -- a text that is left: the cursor behind it is long, or with the text it has little to go
  Room : ℕ → Cursor → Type 0
  Room s k = (n ≤ length k) ⊎ (s + sizes k ≤ m)

  rest_off : (s : ℕ) (c : Text) (k : Cursor) → size c < s → Room s k → Off n m (Rest c ∷ k)
  unfolding Room Off
  rest_off s c k l (inl h) = inl (omega arith)
  rest_off s c k l (inr h) = inr (omega arith)

  rest_room : (s b : ℕ) (c : Text) (k : Cursor) → b + size c ≤ s → Room s k → Room b (Rest c ∷ k)
  unfolding Room
  rest_room s b c k l (inl h) = inl (omega arith)
  rest_room s b c k l (inr h) = inr (omega arith)

  less_room : (s b : ℕ) (k : Cursor) → b ≤ s → Room s k → Room b k
  unfolding Room
  less_room s b k l (inl h) = inl h
  less_room s b k l (inr h) = inr (omega arith)

  begin_text_stops : (c : Text) (used : List ℕ) (k : Cursor) (go : Talk → Turn) → Room (size c) k → ((t : Talk) → Stops n m (go t).control) → (t : Talk) → Stops n m (begin_text f c used k go t).control
  unfolding Stops
  begin_text_stops Stop used k go h g t = g t
  begin_text_stops (Act q c) used k go h g t = begin_text_stops c used k go (less_room (size (Act q c)) (size c) k (omega arith) h) g (act f q t)
  begin_text_stops (Ask a c) used k go h g t = rest_off (size (Ask a c)) c k (omega arith) h
  begin_text_stops (If e a b c) used k go h g t =
      of (int_eq (value f t.names e) (pos 0))
      (begin_text_stops a used (Rest c ∷ k) (begin_text f c used k go) (rest_room (size (If e a b c)) (size a) c k (omega arith) h) (begin_text_stops c used k go (less_room (size (If e a b c)) (size c) k (omega arith) h) g) t)
      (begin_text_stops b used (Rest c ∷ k) (begin_text f c used k go) (rest_room (size (If e a b c)) (size b) c k (omega arith) h) (begin_text_stops c used k go (less_room (size (If e a b c)) (size c) k (omega arith) h) g) t)
    where
      of : (x : Bool) → Stops n m (begin_text f a used (Rest c ∷ k) (begin_text f c used k go) t).control → Stops n m (begin_text f b used (Rest c ∷ k) (begin_text f c used k go) t).control
          → Stops n m ((if x then begin_text f b used (Rest c ∷ k) (begin_text f c used k go) else begin_text f a used (Rest c ∷ k) (begin_text f c used k go)) t).control
      of true p q = q
      of false p q = p
  begin_text_stops (Each l body c) used k go h g t = rest_off (size (Each l body c)) c k (omega arith) h
  begin_text_stops (Both a b c) used k go h g t =
      let one : Turn = begin_text f a used [] ended t in
      let two : Turn = begin_text f b (used ++ slots one.control) [] ended one.talk in
      joined_stops one.control two.control (one.asks ++ two.asks) (Rest c ∷ k) (begin_text f c used k go) two.talk (rest_off (size (Both a b c)) c k (omega arith) h)
      (begin_text_stops c used k go (less_room (size (Both a b c)) (size c) k (omega arith) h) g two.talk)

  turns_room : (l : Loop) (p : Pair) (ps : List Pair) (body : Text) (k : Cursor) → Room (frame_size (Turns l (p ∷ ps) body)) k → Room (size body) (Turns l ps body ∷ k)
  unfolding Room
  turns_room l p ps body k (inl h) = inl (omega arith)
  turns_room l p ps body k (inr h) = inr (omega arith)

  fewer_turns : (l : Loop) (p : Pair) (ps : List Pair) (body : Text) → frame_size (Turns l ps body) ≤ frame_size (Turns l (p ∷ ps) body)
  fewer_turns l p ps body = omega arith

  begin_turns_stops : (l : Loop) (ps : List Pair) (body : Text) (used : List ℕ) (k : Cursor) (go : Talk → Turn) → Room (frame_size (Turns l ps body)) k → ((t : Talk) → Stops n m (go t).control) → (t : Talk) → Stops n m (begin_turns f l ps body used k go t).control
  begin_turns_stops l [] body used k go h g t = g t
  begin_turns_stops l (p ∷ ps) body used k go h g t =
      begin_text_stops body used (Turns l ps body ∷ k) (begin_turns f l ps body used k go) (turns_room l p ps body k h)
      (begin_turns_stops l ps body used k go (less_room (frame_size (Turns l (p ∷ ps) body)) (frame_size (Turns l ps body)) k (fewer_turns l p ps body) h) g) (with_names (bind l p t.names) t)

  begin_frame_stops : (x : Frame) (used : List ℕ) (k : Cursor) (go : Talk → Turn) → Room (frame_size x) k → ((t : Talk) → Stops n m (go t).control) → (t : Talk) → Stops n m (begin_frame f x used k go t).control
  begin_frame_stops (Rest c) used k go h g t = begin_text_stops c used k go h g t
  begin_frame_stops (Turns l ps body) used k go h g t = begin_turns_stops l ps body used k go h g t

  -- with little to go
  begin_stops : (k : Cursor) (used : List ℕ) (t : Talk) → sizes k ≤ m → Stops n m (begin f k used t).control
  unfolding Stops begin Room
  begin_stops [] used t h = tt
  begin_stops (x ∷ k) used t h = begin_frame_stops x used k (begin f k used) (inr h) (λ u. begin_stops k used u (omega arith)) t

module _ (f : Facts) (used : List ℕ) where
  -- where a cursor goes on, or an `each` over it begins, it stops elsewhere
  resume_stops : (x : Next) (a : Answer) (k : Cursor) (t : Talk) → Stops (length k) (sizes k) (resume f x a k used t).control
  unfolding begin Room
  resume_stops (Take x) a k t = begin_stops f (length k) (sizes k) k used (with_names (take_in x a t.names) t) (omega arith)
  resume_stops (Begin l body) a k t = begin_turns_stops f (length k) (sizes k) l (turns_of a) body used k (begin f k used) (inl (omega arith)) (λ u. begin_stops f (length k) (sizes k) k used u (omega arith)) t

  not_off : (k : Cursor) → Off (length k) (sizes k) k → ⊥
  unfolding Off
  not_off k (inl h) = omega arith
  not_off k (inr h) = omega arith

  wait_moved : (s : ℕ) (r : Request) (x : Next) (k : Cursor) (c : Control) → Stops (length k) (sizes k) c → c ≡ Wait s r x k → ⊥
  unfolding Stops
  wait_moved s r x k c h e = not_off k (subst (Stops (length k) (sizes k)) e h)

  arms_moved : (one two : Control) (k : Cursor) (c : Control) → Stops (length k) (sizes k) c → c ≡ Arms one two k → ⊥
  unfolding Stops
  arms_moved one two k c h e = not_off k (subst (Stops (length k) (sizes k)) e h)

  first_arm : Control → Control
  first_arm Done = Done
  first_arm (Wait s r x k) = Done
  first_arm (Arms one two k) = one

  second_arm : Control → Control
  second_arm Done = Done
  second_arm (Wait s r x k) = Done
  second_arm (Arms one two k) = two

  joined_moved : (one two one' two' : Control) (asks : List Asked) (k : Cursor) (t : Talk) → (one' ≡ one → two' ≡ two → ⊥) → (joined one' two' asks k (begin f k used) t).control ≡ Arms one two k → ⊥
  unfolding first_arm second_arm
  joined_moved one two one' two' asks k t h = of (is_done one' && is_done two') where
    of : (x : Bool) → (if x then also asks (begin f k used t) else record { control = Arms one' two' k; talk = t; asks = asks }).control ≡ Arms one two k → ⊥
    of true e = arms_moved one two k (begin f k used t).control (begin_stops f (length k) (sizes k) k used t (omega arith)) e
    of false e = h (ap first_arm e) (ap second_arm e)

  give_in_moves : (c : Control) (s : ℕ) (a : Answer) (t : Talk) → has s (slots c) ≡ true → (give_in f c s a used t).control ≡ c → ⊥
  give_in_moves Done s a t h e = both_ways false refl h
  give_in_moves (Wait s' r x k) s a t h e = wait_moved s' r x k (resume f x a k used t).control (resume_stops x a k t) e
  give_in_moves (Arms one two k) s a t h e = of (has s (slots one)) refl (give_in_moves one s a t) (give_in_moves two s a t) e
    where
      it : Turn
      it = give_in f one s a used t

      at : Turn
      at = give_in f two s a used t

      of : (b : Bool) → has s (slots one) ≡ b → (has s (slots one) ≡ true → it.control ≡ one → ⊥) → (has s (slots two) ≡ true → at.control ≡ two → ⊥)
          → (if b then joined it.control two it.asks k (begin f k used) it.talk else joined one at.control at.asks k (begin f k used) at.talk).control ≡ Arms one two k → ⊥
      of true y p q d = joined_moved one two it.control two it.asks k it.talk (λ u v. p y u) d
      of false y p q d = joined_moved one two one at.control at.asks k at.talk (λ u v. q (⊎_elim (λ z. absurd (both_ways (has s (slots one)) y z)) (λ z. z) (mem_either s (slots one) (slots two) h)) v) d

pub give_moves : (f : Facts) (c : Control) (s : ℕ) (a : Answer) (t : Talk) → has s (slots c) ≡ true → (give f c s a t).control ≢ c
unfolding give
give_moves f c s a t h e = give_in_moves f (without s (slots c)) c s a t h e
