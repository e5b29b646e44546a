-- What a callback asks is what waits behind it and didn't before.
use Rattle.std.proofs.Common.{◌≡◌, ℕ, pos, List, [], ◌∷◌, ◌++◌, Bool, true, false, ◌&&◌, nat_eq, if◌then◌else◌, refl, sym, ap, ap₂, ◌∙◌, append_assoc, map, ⊎_elim}
use Rattle.std.specs.Ordering.{int_eq}
use Rattle.std.proofs.lemmas.Bool.{and_parts, both_ways}
use Rattle.std.proofs.lemmas.List.{append-nil, map-append}
use Rattle.ax_base.specs.declared.lists.Pair.{Pair}
use Rattle.ax_text.specs.declared.vocabulary.Answer.{Answer}
use Rattle.ax_text.specs.Exprs.{Facts, value}
use Rattle.ax_text.specs.Texts.{Loop, Text, Stop, Act, Ask, If, Each, Both}
use Rattle.ax_text.specs.Run.{Talk, with_names, act, take_in, turns_of, bind}
use Rattle.ax_text.specs.Prints.{has}
use Rattle.ax_text.specs.Controls.{Frame, Rest, Turns, Cursor, Next, Take, Begin, Control, Done, Wait, Arms, Ask' as Asked, Turn, slots, waiting, replaced, is_done, ended, also, joined, begin_text, begin_turns, begin_frame, begin, resume, give_in, give, without}
use Rattle.ax_text.specs.Futures.{AsksAtBegin, AsksAtGive}
use Rattle.ax_text.proofs.Keeps.{by_cases}
use Rattle.ax_text.proofs.Steps.{mem_either}

unfoldable AreAsked : Turn → Type 0
AreAsked it = waiting it.control ≡ it.asks

pub none_wait : (c : Control) → is_done c ≡ true → waiting c ≡ []
none_wait Done h = refl
none_wait (Wait s r n k) h = absurd (cc h)
none_wait (Arms one two k) h = absurd (cc h)

joined_asked : (one two : Control) (asks : List Asked) (k : Cursor) (go : Talk → Turn) (t : Talk) → waiting one ++ waiting two ≡ asks → AreAsked (go t) → AreAsked (joined one two asks k go t)
unfolding AreAsked
joined_asked one two asks k go t e g = of (is_done one && is_done two) refl where
  of : (b : Bool) → (is_done one && is_done two) ≡ b → AreAsked (if b then also asks (go t) else record { control = Arms one two k; talk = t; asks = asks })
  of true h =
      let d = and_parts (is_done one) (is_done two) h in
      g ∙ ap (λ (as' : List Asked). as' ++ (go t).asks) (sym (ap₂ (λ (x y : List Asked). x ++ y) (none_wait one d.0) (none_wait two d.1)) ∙ e)
  of false h = e

module _ (f : Facts) where
  begin_text_asked : (c : Text) (used : List ℕ) (k : Cursor) (go : Talk → Turn) → ((t : Talk) → AreAsked (go t)) → (t : Talk) → AreAsked (begin_text f c used k go t)
  unfolding AreAsked
  begin_text_asked Stop used k go g t = g t
  begin_text_asked (Act q c) used k go g t = begin_text_asked c used k go g (act f q t)
  begin_text_asked (Ask a c) used k go g t = refl
  begin_text_asked (If e a b c) used k go g t =
      of (int_eq (value f t.names e) (pos 0)) (begin_text_asked a used (Rest c ∷ k) (begin_text f c used k go) (begin_text_asked c used k go g) t) (begin_text_asked b used (Rest c ∷ k) (begin_text f c used k go) (begin_text_asked c used k go g) t)
    where
      of : (x : Bool) → AreAsked (begin_text f a used (Rest c ∷ k) (begin_text f c used k go) t) → AreAsked (begin_text f b used (Rest c ∷ k) (begin_text f c used k go) t)
          → AreAsked ((if x then begin_text f b used (Rest c ∷ k) (begin_text f c used k go) else begin_text f a used (Rest c ∷ k) (begin_text f c used k go)) t)
      of true p q = q
      of false p q = p
  begin_text_asked (Each l body c) used k go g t = refl
  begin_text_asked (Both a b c) used k go g t =
      let one : Turn = begin_text f a used [] ended t in
      let two : Turn = begin_text f b (used ++ slots one.control) [] ended one.talk in
      joined_asked one.control two.control (one.asks ++ two.asks) (Rest c ∷ k) (begin_text f c used k go) two.talk
      (ap₂ (λ (x y : List Asked). x ++ y) (begin_text_asked a used [] ended (λ u. refl) t) (begin_text_asked b (used ++ slots one.control) [] ended (λ u. refl) one.talk))
      (begin_text_asked c used k go g two.talk)

  begin_turns_asked : (l : Loop) (ps : List Pair) (body : Text) (used : List ℕ) (k : Cursor) (go : Talk → Turn) → ((t : Talk) → AreAsked (go t)) → (t : Talk) → AreAsked (begin_turns f l ps body used k go t)
  begin_turns_asked l [] body used k go g t = g t
  begin_turns_asked l (p ∷ ps) body used k go g t = begin_text_asked body used (Turns l ps body ∷ k) (begin_turns f l ps body used k go) (begin_turns_asked l ps body used k go g) (with_names (bind l p t.names) t)

  begin_frame_asked : (x : Frame) (used : List ℕ) (k : Cursor) (go : Talk → Turn) → ((t : Talk) → AreAsked (go t)) → (t : Talk) → AreAsked (begin_frame f x used k go t)
  begin_frame_asked (Rest c) used k go g t = begin_text_asked c used k go g t
  begin_frame_asked (Turns l ps body) used k go g t = begin_turns_asked l ps body used k go g t

  pub begin_asked : (k : Cursor) (used : List ℕ) (t : Talk) → AsksAtBegin f k used t
  unfolding AreAsked begin
  begin_asked [] used t = refl
  begin_asked (x ∷ k) used t = begin_frame_asked x used k (begin f k used) (begin_asked k used) t

  resume_asked : (n : Next) (a : Answer) (k : Cursor) (used : List ℕ) (t : Talk) → AreAsked (resume f n a k used t)
  unfolding AreAsked
  resume_asked (Take x) a k used t = begin_asked k used (with_names (take_in x a t.names) t)
  resume_asked (Begin l body) a k used t = begin_asked (Turns l (turns_of a) body ∷ k) used t

-- a slot among those in front, and among those behind

pub slots_waiting : (c : Control) → slots c ≡ map (λ (a : Asked). a.slot) (waiting c)
slots_waiting Done = refl
slots_waiting (Wait s r n k) = refl
slots_waiting (Arms one two k) = ap₂ (λ (x y : List ℕ). x ++ y) (slots_waiting one) (slots_waiting two) ∙ sym (map-append (λ (a : Asked). a.slot) (waiting one) (waiting two))

replaced_front : (s : ℕ) (x as' bs : List Asked) → has s (map (λ (a : Asked). a.slot) as') ≡ true → replaced s x (as' ++ bs) ≡ replaced s x as' ++ bs
replaced_front s x [] bs h = absurd (both_ways false refl h)
replaced_front s x (a ∷ as') bs h = by_cases (nat_eq s a.slot)
    (λ e. rw e (sym (append_assoc x as' bs)))
    (λ e. rw e (ap (λ (cs : List Asked). a ∷ cs) (replaced_front s x as' bs (rw e at h))))

replaced_behind : (s : ℕ) (x as' bs : List Asked) → has s (map (λ (a : Asked). a.slot) as') ≡ false → replaced s x (as' ++ bs) ≡ as' ++ replaced s x bs
replaced_behind s x [] bs h = refl
replaced_behind s x (a ∷ as') bs h = by_cases (nat_eq s a.slot)
    (λ e. absurd (both_ways true (rw e at h) refl))
    (λ e. rw e (ap (λ (cs : List Asked). a ∷ cs) (replaced_behind s x as' bs (rw e at h))))

-- where all that waited is gone, what comes behind is all
none_left : (s : ℕ) (x y as' : List Asked) → has s (map (λ (a : Asked). a.slot) as') ≡ true → replaced s x as' ≡ [] → replaced s (x ++ y) as' ≡ y
none_left s x y [] h e = absurd (both_ways false refl h)
none_left s x y (a ∷ as') h e = of (nat_eq s a.slot) e where
  no : {z : Asked} {zs : List Asked} → (z ∷ zs) ≡ [] → ⊥
  no q = cc q

  empty : (xs ys : List Asked) → xs ++ ys ≡ [] → (xs ++ y) ++ ys ≡ y
  empty [] [] q = append-nil y
  empty [] (z ∷ ys) q = absurd (no q)
  empty (z ∷ xs) ys q = absurd (no q)

  of : (b : Bool) → (if b then x ++ as' else a ∷ replaced s x as') ≡ [] → (if b then (x ++ y) ++ as' else a ∷ replaced s (x ++ y) as') ≡ y
  of true q = empty x as' q
  of false q = absurd (no q)

in_slots : (s : ℕ) (c : Control) (b : Bool) → has s (slots c) ≡ b → has s (map (λ (a : Asked). a.slot) (waiting c)) ≡ b
in_slots s c b h = sym (ap (has s) (slots_waiting c)) ∙ h

joined_given : (one two : Control) (asks : List Asked) (k : Cursor) (go : Talk → Turn) (t : Talk) (s : ℕ) (before : List Asked) → has s (map (λ (a : Asked). a.slot) before) ≡ true
    → waiting one ++ waiting two ≡ replaced s asks before → AreAsked (go t)
    → waiting (joined one two asks k go t).control ≡ replaced s (joined one two asks k go t).asks before
unfolding AreAsked
joined_given one two asks k go t s before h e g = of (is_done one && is_done two) refl where
  of : (b : Bool) → (is_done one && is_done two) ≡ b → waiting (if b then also asks (go t) else record { control = Arms one two k; talk = t; asks = asks }).control
      ≡ replaced s (if b then also asks (go t) else record { control = Arms one two k; talk = t; asks = asks }).asks before
  of true d =
      let p = and_parts (is_done one) (is_done two) d in
      g ∙ sym (none_left s asks (go t).asks before h (sym e ∙ ap₂ (λ (x y : List Asked). x ++ y) (none_wait one p.0) (none_wait two p.1)))
  of false d = e

module _ (f : Facts) where
  pub give_in_asked : (c : Control) (s : ℕ) (a : Answer) (used : List ℕ) (t : Talk) → has s (slots c) ≡ true → waiting (give_in f c s a used t).control ≡ replaced s (give_in f c s a used t).asks (waiting c)
  unfolding AreAsked
  give_in_asked Done s a used t h = absurd (both_ways false refl h)
  give_in_asked (Wait s' r n k) s a used t h = by_cases (nat_eq s s')
      (λ e. rw e (resume_asked f n a k used t ∙ sym (append-nil (resume f n a k used t).asks)))
      (λ e. absurd (both_ways false refl (rw e at h)))
  give_in_asked (Arms one two k) s a used t h = of (has s (slots one)) refl (give_in_asked one s a used t) (give_in_asked two s a used t)
    where
      before : List Asked
      before = waiting one ++ waiting two

      all : has s (map (λ (x : Asked). x.slot) before) ≡ true
      all = in_slots s (Arms one two k) true h

      it : Turn
      it = give_in f one s a used t

      at : Turn
      at = give_in f two s a used t

      of : (b : Bool) → has s (slots one) ≡ b → (has s (slots one) ≡ true → waiting it.control ≡ replaced s it.asks (waiting one)) → (has s (slots two) ≡ true → waiting at.control ≡ replaced s at.asks (waiting two))
          → waiting (if b then joined it.control two it.asks k (begin f k used) it.talk else joined one at.control at.asks k (begin f k used) at.talk).control
          ≡ replaced s (if b then joined it.control two it.asks k (begin f k used) it.talk else joined one at.control at.asks k (begin f k used) at.talk).asks before
      of true e p q = joined_given it.control two it.asks k (begin f k used) it.talk s before all
          (ap (λ (x : List Asked). x ++ waiting two) (p e) ∙ sym (replaced_front s it.asks (waiting one) (waiting two) (in_slots s one true e))) (begin_asked f k used it.talk)
      of false e p q = joined_given one at.control at.asks k (begin f k used) at.talk s before all
          (ap (λ (x : List Asked). waiting one ++ x) (q in_two) ∙ sym (replaced_behind s at.asks (waiting one) (waiting two) (in_slots s one false e))) (begin_asked f k used at.talk)
        where
          in_two : has s (slots two) ≡ true
          in_two = ⊎_elim (λ y. absurd (both_ways (has s (slots one)) e y)) (λ y. y) (mem_either s (slots one) (slots two) h)

  pub give_asked : (c : Control) (s : ℕ) (a : Answer) (t : Talk) → AsksAtGive f c s a t
  unfolding give
  give_asked c s a t h = give_in_asked c s a (without s (slots c)) t h
