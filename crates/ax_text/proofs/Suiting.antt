-- What a text that fits asks is what its states serve.
use Rattle.std.proofs.Common.{◌≡◌, ℕ, pos, List, [], ◌∷◌, ◌++◌, length, Bool, true, false, ◌&&◌, if◌then◌else◌, refl, subst, Some, None, nat_eq, nat_lt}
use Rattle.std.specs.Ordering.{int_eq}
use Rattle.std.specs.List.{slice_index_or}
use Rattle.std.proofs.lemmas.Bool.{and_parts}
use Rattle.ax_base.specs.declared.lists.Pair.{Pair}
use Rattle.ax_text.specs.declared.vocabulary.Kind.{Kind}
use Rattle.ax_text.specs.declared.vocabulary.Kind.TheVariants as kind
use Rattle.ax_text.specs.declared.vocabulary.Request.{Request}
use Rattle.ax_text.specs.declared.vocabulary.Answer.{Answer}
use Rattle.ax_text.specs.Exprs.{Facts, Names, value}
use Rattle.ax_text.specs.Cells.{is_value, is_list, is_map}
use Rattle.ax_text.specs.Texts.{Asking, Get, GetAt, Has, Empty, Put, PutAt, PutAll, Add, Remove, Clear, Loop, Items, Entries, Text, Stop, Act, Ask, If, Each, Both}
use Rattle.ax_text.specs.Run.{Talk, with_names, act, request_of, take_in, loop_request, turns_of, bind}
use Rattle.ax_text.specs.Valid.{same_kind, has_kind, expr_fits, quiet_fits, asking_fits, loop_fits, text_fits}
use Rattle.ax_text.specs.Prints.{has}
use Rattle.ax_text.specs.Controls.{Frame, Rest, Turns, Cursor, Next, Take, Begin, Control, Done, Wait, Arms, Ask' as Asked, Turn, slots, waiting, is_done, ended, also, joined, begin_text, begin_turns, begin_frame, begin, resume, give_in, without, give, request_at}
use Rattle.ax_text.specs.Suits.{fits_in, TextSuits, FrameSuits, CursorSuits, NextSuits, Suits, AsksSuit}

value_same : (k : Kind) → same_kind k kind.Value ≡ is_value k
value_same kind.Value = refl
value_same kind.List = refl
value_same kind.Map = refl

list_same : (k : Kind) → same_kind k kind.List ≡ is_list k
list_same kind.Value = refl
list_same kind.List = refl
list_same kind.Map = refl

map_same : (k : Kind) → same_kind k kind.Map ≡ is_map k
map_same kind.Value = refl
map_same kind.List = refl
map_same kind.Map = refl

module _ (kinds : List Kind) (s : ℕ) where
  of_value : has_kind kinds s kind.Value ≡ true → (nat_lt s (length kinds) && is_value (slice_index_or kinds s kind.Value)) ≡ true
  of_value h = rw (value_same (slice_index_or kinds s kind.Value)) at h

  of_list : has_kind kinds s kind.List ≡ true → (nat_lt s (length kinds) && is_list (slice_index_or kinds s kind.Value)) ≡ true
  of_list h = rw (list_same (slice_index_or kinds s kind.Value)) at h

  of_map : has_kind kinds s kind.Map ≡ true → (nat_lt s (length kinds) && is_map (slice_index_or kinds s kind.Value)) ≡ true
  of_map h = rw (map_same (slice_index_or kinds s kind.Value)) at h

  of_any : nat_lt s (length kinds) ≡ true → (nat_lt s (length kinds) && true) ≡ true
  of_any h = rw h refl

asked_suits : (fields locals : ℕ) (kinds : List Kind) (a : Asking) → asking_fits fields locals kinds a ≡ true → (f : Facts) (names : Names) → fits_in kinds (request_of f a names) ≡ true
asked_suits fields locals kinds (Get x s e) h f names = of_value kinds s (and_parts _ _ (and_parts _ _ h).0).1
asked_suits fields locals kinds (GetAt x s d e) h f names = of_map kinds s (and_parts _ _ (and_parts _ _ h).0).1
asked_suits fields locals kinds (Has x s d) h f names = of_map kinds s (and_parts _ _ (and_parts _ _ h).0).1
asked_suits fields locals kinds (Empty x s) h f names = of_map kinds s (and_parts _ _ h).1
asked_suits fields locals kinds (Put s e) h f names = of_value kinds s (and_parts _ _ h).0
asked_suits fields locals kinds (PutAt s d e) h f names = of_map kinds s (and_parts _ _ h).0
asked_suits fields locals kinds (PutAll s es) h f names = of_list kinds s (and_parts _ _ h).0
asked_suits fields locals kinds (Add s e) h f names = of_list kinds s (and_parts _ _ h).0
asked_suits fields locals kinds (Remove s d) h f names = of_map kinds s (and_parts _ _ h).0
asked_suits fields locals kinds (Clear s) h f names = of_any kinds s h

loop_suits : (locals : ℕ) (kinds : List Kind) (l : Loop) → loop_fits locals kinds l ≡ true → fits_in kinds (loop_request l) ≡ true
loop_suits locals kinds (Items x s) h = of_list kinds s (and_parts _ _ h).1
loop_suits locals kinds (Entries x y s) h = of_map kinds s (and_parts _ _ h).1

-- what a text that fits asks suits
pub text_suits : (fields locals : ℕ) (kinds : List Kind) (t : Text) → text_fits fields locals kinds t ≡ true → TextSuits kinds t
unfolding TextSuits
text_suits fields locals kinds Stop h = tt
text_suits fields locals kinds (Act q t) h = text_suits fields locals kinds t (and_parts (quiet_fits fields locals q) (text_fits fields locals kinds t) h).1
text_suits fields locals kinds (Ask a t) h =
    let x = and_parts (asking_fits fields locals kinds a) (text_fits fields locals kinds t) h in
    (asked_suits fields locals kinds a x.0, text_suits fields locals kinds t x.1)
text_suits fields locals kinds (If e a b t) h =
    let x = and_parts (expr_fits fields locals e && text_fits fields locals kinds a) (text_fits fields locals kinds b && text_fits fields locals kinds t) h in
    let y = and_parts (expr_fits fields locals e) (text_fits fields locals kinds a) x.0 in
    let z = and_parts (text_fits fields locals kinds b) (text_fits fields locals kinds t) x.1 in
    (text_suits fields locals kinds a y.1, text_suits fields locals kinds b z.0, text_suits fields locals kinds t z.1)
text_suits fields locals kinds (Each l a t) h =
    let x = and_parts (loop_fits locals kinds l && text_fits fields locals kinds a) (text_fits fields locals kinds t) h in
    let y = and_parts (loop_fits locals kinds l) (text_fits fields locals kinds a) x.0 in
    (loop_suits locals kinds l y.0, text_suits fields locals kinds a y.1, text_suits fields locals kinds t x.1)
text_suits fields locals kinds (Both a b t) h =
    let x = and_parts (text_fits fields locals kinds a && text_fits fields locals kinds b) (text_fits fields locals kinds t) h in
    let y = and_parts (text_fits fields locals kinds a) (text_fits fields locals kinds b) x.0 in
    (text_suits fields locals kinds a y.0, text_suits fields locals kinds b y.1, text_suits fields locals kinds t x.1)

module _ (kinds : List Kind) where
  joined_suits : (one two : Control) (asks : List Asked) (k : Cursor) (go : Talk → Turn) (t : Talk) → Suits kinds one → Suits kinds two → CursorSuits kinds k → Suits kinds (go t).control
      → Suits kinds (joined one two asks k go t).control
  unfolding Suits
  joined_suits one two asks k go t p q r g = of (is_done one && is_done two) where
    of : (x : Bool) → Suits kinds (if x then also asks (go t) else record { control = Arms one two k; talk = t; asks = asks }).control
    of true = g
    of false = (p, q, r)

  module _ (f : Facts) where
    begin_text_suits : (c : Text) (used : List ℕ) (k : Cursor) (go : Talk → Turn) → TextSuits kinds c → CursorSuits kinds k → ((t : Talk) → Suits kinds (go t).control) → (t : Talk) → Suits kinds (begin_text f c used k go t).control
    unfolding TextSuits FrameSuits CursorSuits NextSuits Suits
    begin_text_suits Stop used k go h r g t = g t
    begin_text_suits (Act q c) used k go h r g t = begin_text_suits c used k go h r g (act f q t)
    begin_text_suits (Ask a c) used k go h r g t = (h.0 f t.names, tt, (h.1, r))
    begin_text_suits (If e a b c) used k go h r g t =
        of (int_eq (value f t.names e) (pos 0)) (begin_text_suits a used (Rest c ∷ k) (begin_text f c used k go) h.0 (h.2, r) (begin_text_suits c used k go h.2 r g) t)
        (begin_text_suits b used (Rest c ∷ k) (begin_text f c used k go) h.1 (h.2, r) (begin_text_suits c used k go h.2 r g) t)
      where
        of : (x : Bool) → Suits kinds (begin_text f a used (Rest c ∷ k) (begin_text f c used k go) t).control → Suits kinds (begin_text f b used (Rest c ∷ k) (begin_text f c used k go) t).control
            → Suits kinds ((if x then begin_text f b used (Rest c ∷ k) (begin_text f c used k go) else begin_text f a used (Rest c ∷ k) (begin_text f c used k go)) t).control
        of true p q = q
        of false p q = p
    begin_text_suits (Each l body c) used k go h r g t = (h.0, h.1, (h.2, r))
    begin_text_suits (Both a b c) used k go h r g t =
        let one : Turn = begin_text f a used [] ended t in
        let two : Turn = begin_text f b (used ++ slots one.control) [] ended one.talk in
        joined_suits one.control two.control (one.asks ++ two.asks) (Rest c ∷ k) (begin_text f c used k go) two.talk
        (begin_text_suits a used [] ended h.0 tt (λ u. tt) t) (begin_text_suits b (used ++ slots one.control) [] ended h.1 tt (λ u. tt) one.talk)
        (h.2, r) (begin_text_suits c used k go h.2 r g two.talk)

    begin_turns_suits : (l : Loop) (ps : List Pair) (body : Text) (used : List ℕ) (k : Cursor) (go : Talk → Turn) → TextSuits kinds body → CursorSuits kinds k → ((t : Talk) → Suits kinds (go t).control)
        → (t : Talk) → Suits kinds (begin_turns f l ps body used k go t).control
    unfolding FrameSuits CursorSuits
    begin_turns_suits l [] body used k go h r g t = g t
    begin_turns_suits l (p ∷ ps) body used k go h r g t = begin_text_suits body used (Turns l ps body ∷ k) (begin_turns f l ps body used k go) h (h, r) (begin_turns_suits l ps body used k go h r g) (with_names (bind l p t.names) t)

    begin_frame_suits : (x : Frame) (used : List ℕ) (k : Cursor) (go : Talk → Turn) → FrameSuits kinds x → CursorSuits kinds k → ((t : Talk) → Suits kinds (go t).control) → (t : Talk) → Suits kinds (begin_frame f x used k go t).control
    unfolding FrameSuits
    begin_frame_suits (Rest c) used k go h r g t = begin_text_suits c used k go h r g t
    begin_frame_suits (Turns l ps body) used k go h r g t = begin_turns_suits l ps body used k go h r g t

    pub begin_suits : (k : Cursor) (used : List ℕ) (t : Talk) → CursorSuits kinds k → Suits kinds (begin f k used t).control
    unfolding begin CursorSuits Suits
    begin_suits [] used t h = tt
    begin_suits (x ∷ k) used t h = begin_frame_suits x used k (begin f k used) h.0 h.1 (λ u. begin_suits k used u h.1) t

    resume_suits : (x : Next) (a : Answer) (k : Cursor) (used : List ℕ) (t : Talk) → NextSuits kinds x → CursorSuits kinds k → Suits kinds (resume f x a k used t).control
    unfolding NextSuits CursorSuits FrameSuits
    resume_suits (Take x) a k used t h r = begin_suits k used (with_names (take_in x a t.names) t) r
    resume_suits (Begin l body) a k used t h r = begin_suits (Turns l (turns_of a) body ∷ k) used t (h, r)

    give_in_suits : (c : Control) (s : ℕ) (a : Answer) (used : List ℕ) (t : Talk) → Suits kinds c → Suits kinds (give_in f c s a used t).control
    unfolding Suits
    give_in_suits Done s a used t h = tt
    give_in_suits (Wait s' r x k) s a used t h = resume_suits x a k used t h.1 h.2
    give_in_suits (Arms one two k) s a used t h = of (has s (slots one)) (give_in_suits one s a used t h.0) (give_in_suits two s a used t h.1) where
      it : Turn
      it = give_in f one s a used t

      at : Turn
      at = give_in f two s a used t

      of : (b : Bool) → Suits kinds it.control → Suits kinds at.control → Suits kinds (if b then joined it.control two it.asks k (begin f k used) it.talk else joined one at.control at.asks k (begin f k used) at.talk).control
      of true p q = joined_suits it.control two it.asks k (begin f k used) it.talk p h.1 h.2 (begin_suits k used it.talk h.2)
      of false p q = joined_suits one at.control at.asks k (begin f k used) at.talk h.0 q h.2 (begin_suits k used at.talk h.2)

    pub give_suits : (c : Control) (s : ℕ) (a : Answer) (t : Talk) → Suits kinds c → Suits kinds (give f c s a t).control
    unfolding give
    give_suits c s a t h = give_in_suits c s a (without s (slots c)) t h

  asks_append : (as' bs : List Asked) → AsksSuit kinds as' → AsksSuit kinds bs → AsksSuit kinds (as' ++ bs)
  unfolding AsksSuit
  asks_append [] bs p q = q
  asks_append (a ∷ as') bs p q = (p.0, asks_append as' bs p.1 q)

  -- what waits suits
  pub waiting_suits : (c : Control) → Suits kinds c → AsksSuit kinds (waiting c)
  unfolding Suits AsksSuit
  waiting_suits Done h = tt
  waiting_suits (Wait s r x k) h = (h.0, tt)
  waiting_suits (Arms one two k) h = asks_append (waiting one) (waiting two) (waiting_suits one h.0) (waiting_suits two h.1)

  pub request_suits : (c : Control) (s : ℕ) (r : Request) → Suits kinds c → request_at c s ≡ Some r → fits_in kinds r ≡ true
  unfolding Suits
  request_suits Done s r h e = absurd (cc e)
  request_suits (Wait s' r' x k) s r h e = of (nat_eq s s') e where
    same : Some r' ≡ Some r → r' ≡ r
    same q = cc q

    of : (b : Bool) → (if b then Some r' else None) ≡ Some r → fits_in kinds r ≡ true
    of true q = subst (λ (x : Request). fits_in kinds x ≡ true) (same q) h.0
    of false q = absurd (cc q)
  request_suits (Arms one two k) s r h e = of (has s (slots one)) e (request_suits one s r h.0) (request_suits two s r h.1) where
    of : (b : Bool) → (if b then request_at one s else request_at two s) ≡ Some r → (request_at one s ≡ Some r → fits_in kinds r ≡ true) → (request_at two s ≡ Some r → fits_in kinds r ≡ true) → fits_in kinds r ≡ true
    of true q x y = x q
    of false q x y = y q
