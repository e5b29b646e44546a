-- Two arms that are done never stand in a control: what comes behind them has begun. So a control that isn't done waits.
use Rattle.std.proofs.Common.{◌≡◌, ℕ, pos, List, [], ◌∷◌, ◌++◌, Bool, true, false, ◌&&◌, nat_eq, if◌then◌else◌, refl, ap₂, Some, None}
use Rattle.std.specs.Ordering.{int_eq}
use Rattle.std.proofs.lemmas.Bool.{both_ways, eq-eqb}
use Rattle.ax_base.specs.declared.lists.Pair.{Pair}
use Rattle.ax_text.specs.declared.vocabulary.Request.{Request}
use Rattle.ax_text.specs.declared.vocabulary.Answer.{Answer}
use Rattle.ax_text.specs.Exprs.{Facts, value}
use Rattle.ax_text.specs.Texts.{Loop, Text, Stop, Act, Ask, If, Each, Both}
use Rattle.ax_text.specs.Run.{Talk, with_names, act, take_in, turns_of, bind}
use Rattle.ax_text.specs.Prints.{has}
use Rattle.ax_text.specs.Controls.{Frame, Rest, Turns, Cursor, Next, Take, Begin, Control, Done, Wait, Arms, Ask' as Asked, Turn, slots, is_done, ended, also, joined, begin_text, begin_turns, begin_frame, begin, resume, give_in, without, give, request_at}
use Rattle.ax_text.specs.Sound.{Split, IsWakeful, IsWaiting}
use Rattle.ax_text.proofs.Keeps.{by_cases}
use Rattle.ax_text.proofs.Steps.{mem_one, mem_two}

joined_wakes : (one two : Control) (asks : List Asked) (k : Cursor) (go : Talk → Turn) (t : Talk) → IsWakeful one → IsWakeful two → IsWakeful (go t).control
    → IsWakeful (joined one two asks k go t).control
unfolding IsWakeful
joined_wakes one two asks k go t a b g = of (is_done one && is_done two) refl where
  of : (x : Bool) → (is_done one && is_done two) ≡ x → IsWakeful (if x then also asks (go t) else record { control = Arms one two k; talk = t; asks = asks }).control
  of true e = g
  of false e = (e, a, b)

module _ (f : Facts) where
  begin_text_wakes : (c : Text) (used : List ℕ) (k : Cursor) (go : Talk → Turn) → ((t : Talk) → IsWakeful (go t).control) → (t : Talk) → IsWakeful (begin_text f c used k go t).control
  unfolding IsWakeful
  begin_text_wakes Stop used k go g t = g t
  begin_text_wakes (Act q c) used k go g t = begin_text_wakes c used k go g (act f q t)
  begin_text_wakes (Ask a c) used k go g t = tt
  begin_text_wakes (If e a b c) used k go g t =
      of (int_eq (value f t.names e) (pos 0)) (begin_text_wakes a used (Rest c ∷ k) (begin_text f c used k go) (begin_text_wakes c used k go g) t) (begin_text_wakes b used (Rest c ∷ k) (begin_text f c used k go) (begin_text_wakes c used k go g) t)
    where
      of : (x : Bool) → IsWakeful (begin_text f a used (Rest c ∷ k) (begin_text f c used k go) t).control → IsWakeful (begin_text f b used (Rest c ∷ k) (begin_text f c used k go) t).control
          → IsWakeful ((if x then begin_text f b used (Rest c ∷ k) (begin_text f c used k go) else begin_text f a used (Rest c ∷ k) (begin_text f c used k go)) t).control
      of true p q = q
      of false p q = p
  begin_text_wakes (Each l body c) used k go g t = tt
  begin_text_wakes (Both a b c) used k go g t =
      let one : Turn = begin_text f a used [] ended t in
      let two : Turn = begin_text f b (used ++ slots one.control) [] ended one.talk in
      joined_wakes one.control two.control (one.asks ++ two.asks) (Rest c ∷ k) (begin_text f c used k go) two.talk
      (begin_text_wakes a used [] ended (λ u. tt) t) (begin_text_wakes b (used ++ slots one.control) [] ended (λ u. tt) one.talk)
      (begin_text_wakes c used k go g two.talk)

  begin_turns_wakes : (l : Loop) (ps : List Pair) (body : Text) (used : List ℕ) (k : Cursor) (go : Talk → Turn) → ((t : Talk) → IsWakeful (go t).control) → (t : Talk) → IsWakeful (begin_turns f l ps body used k go t).control
  begin_turns_wakes l [] body used k go g t = g t
  begin_turns_wakes l (p ∷ ps) body used k go g t = begin_text_wakes body used (Turns l ps body ∷ k) (begin_turns f l ps body used k go) (begin_turns_wakes l ps body used k go g) (with_names (bind l p t.names) t)

  begin_frame_wakes : (x : Frame) (used : List ℕ) (k : Cursor) (go : Talk → Turn) → ((t : Talk) → IsWakeful (go t).control) → (t : Talk) → IsWakeful (begin_frame f x used k go t).control
  begin_frame_wakes (Rest c) used k go g t = begin_text_wakes c used k go g t
  begin_frame_wakes (Turns l ps body) used k go g t = begin_turns_wakes l ps body used k go g t

  pub begin_wakes : (k : Cursor) (used : List ℕ) (t : Talk) → IsWakeful (begin f k used t).control
  unfolding IsWakeful begin
  begin_wakes [] used t = tt
  begin_wakes (x ∷ k) used t = begin_frame_wakes x used k (begin f k used) (begin_wakes k used) t

  resume_wakes : (n : Next) (a : Answer) (k : Cursor) (used : List ℕ) (t : Talk) → IsWakeful (resume f n a k used t).control
  resume_wakes (Take x) a k used t = begin_wakes k used (with_names (take_in x a t.names) t)
  resume_wakes (Begin l body) a k used t = begin_wakes (Turns l (turns_of a) body ∷ k) used t

  give_in_wakes : (c : Control) (s : ℕ) (a : Answer) (used : List ℕ) (t : Talk) → IsWakeful c → IsWakeful (give_in f c s a used t).control
  unfolding IsWakeful
  give_in_wakes Done s a used t h = tt
  give_in_wakes (Wait s' r n k) s a used t h = resume_wakes n a k used t
  give_in_wakes (Arms one two k) s a used t h = of (has s (slots one)) (give_in_wakes one s a used t h.1) (give_in_wakes two s a used t h.2)
    where
      it : Turn
      it = give_in f one s a used t

      at : Turn
      at = give_in f two s a used t

      of : (b : Bool) → IsWakeful it.control → IsWakeful at.control
          → IsWakeful (if b then joined it.control two it.asks k (begin f k used) it.talk else joined one at.control at.asks k (begin f k used) at.talk).control
      of true p q = joined_wakes it.control two it.asks k (begin f k used) it.talk p h.2 (begin_wakes k used it.talk)
      of false p q = joined_wakes one at.control at.asks k (begin f k used) at.talk h.1 q (begin_wakes k used at.talk)

  pub give_wakes : (c : Control) (s : ℕ) (a : Answer) (t : Talk) → IsWakeful c → IsWakeful (give f c s a t).control
  unfolding give
  give_wakes c s a t h = give_in_wakes c s a (without s (slots c)) t h

none_some : {A : Type 0} {y : A} → None ≡ Some y → ⊥
none_some h = cc h

-- a request stands only at a slot that waits
pub slot_waits : (c : Control) (n : ℕ) (q : Request) → request_at c n ≡ Some q → has n (slots c) ≡ true
slot_waits Done n q e = absurd (none_some e)
slot_waits (Wait s r x k) n q e = by_cases (nat_eq n s) (λ y. rw y refl) (λ y. absurd (none_some (rw y at e)))
slot_waits (Arms one two k) n q e = by_cases (has n (slots one))
    (λ x. mem_one n (slots one) (slots two) x)
    (λ x. mem_two n (slots one) (slots two) (slot_waits two n q (rw x at e)))

pub waits_for : (c : Control) → IsWakeful c → Split c → is_done c ≡ false → IsWaiting c
unfolding IsWakeful Split
waits_for Done h d e = absurd (both_ways true e refl)
waits_for (Wait s r n k) h d e = record { slot = s; request = r; stands = rw (eq-eqb s s refl) refl }
waits_for (Arms one two k) h d e = of (is_done one) refl h.0 (waits_for one h.1 d.1) (waits_for two h.2 d.2)
  where
    in_one : IsWaiting one → IsWaiting (Arms one two k)
    in_one w = record { slot = w.slot; request = w.request; stands = rw (slot_waits one w.slot w.request w.stands) w.stands }

    in_two : IsWaiting two → IsWaiting (Arms one two k)
    in_two w = record { slot = w.slot; request = w.request; stands = rw free w.stands }
      where
        free : has w.slot (slots one) ≡ false
        free = by_cases (has w.slot (slots one)) (λ x. absurd (both_ways (has w.slot (slots two)) (d.0 w.slot x) (slot_waits two w.slot w.request w.stands))) (λ x. x)

    of : (b : Bool) → is_done one ≡ b → (b && is_done two) ≡ false → (is_done one ≡ false → IsWaiting one) → (is_done two ≡ false → IsWaiting two) → IsWaiting (Arms one two k)
    of true x y p q = in_two (q y)
    of false x y p q = in_one (p x)

-- where no slot waits, it is done
pub none_waits : (c : Control) → IsWakeful c → slots c ≡ [] → c ≡ Done
unfolding IsWakeful
none_waits Done h e = refl
none_waits (Wait s r n k) h e = absurd (cc e)
none_waits (Arms one two k) h e =
    let p = parts (slots one) (slots two) e in
    absurd (both_ways (is_done one && is_done two) h.0 (ap₂ (λ (x y : Control). is_done x && is_done y) (none_waits one h.1 p.0) (none_waits two h.2 p.1)))
  where
    parts : (xs ys : List ℕ) → xs ++ ys ≡ [] → (xs ≡ []) × (ys ≡ [])
    parts [] ys q = (refl, q)
    parts (x ∷ xs) ys q = absurd (cc q)
