-- Each new request takes the least slot that is free then.
use Rattle.std.proofs.Common.{◌≡◌, ◌∙◌, ℕ, pos, suc, ◌≤◌, ◌<◌, map, List, [], ◌∷◌, ◌++◌, Bool, true, false, ◌&&◌, nat_eq, if◌then◌else◌, refl, sym, ap, ap₂, subst, arith, append_assoc, nat_lt, ⊎_elim}
use Rattle.std.specs.List.{AllByRecursion}
use Rattle.std.specs.Ordering.{int_eq}
use Rattle.std.proofs.lemmas.Bool.{and_parts, both_ways, eq-eqb, ltb-true, ltb-false}
use Rattle.std.proofs.lemmas.List.{append-nil}
use Rattle.ax_base.specs.declared.lists.Pair.{Pair}
use Rattle.ax_text.specs.declared.vocabulary.Answer.{Answer}
use Rattle.ax_text.specs.Exprs.{Facts, value}
use Rattle.ax_text.specs.Texts.{Loop, Text, Stop, Act, Ask, If, Each, Both}
use Rattle.ax_text.specs.Run.{Talk, with_names, act, take_in, turns_of, bind}
use Rattle.ax_text.specs.Prints.{has}
use Rattle.ax_text.specs.Controls.{Frame, Rest, Turns, Cursor, Next, Take, Begin, Control, Done, Wait, Arms, Ask' as Asked, Turn, slots, waiting, replaced, is_done, least_free, ended, also, joined, begin_text, begin_turns, begin_frame, begin, resume, give_in, give, without}
use Rattle.ax_text.specs.Underway.{TakesLeast, BeginTakesLeast, GiveTakesLeast, IsLeastFree, SlotsRise}
use Rattle.ax_text.proofs.Keeps.{by_cases}
use Rattle.ax_text.proofs.Steps.{mem_one, mem_two, mem_either, fresh_ok}
use Rattle.ax_text.proofs.Asked.{begin_asked, slots_waiting, none_wait, give_in_asked}
use Rattle.ax_text.proofs.FreeSlots.{Filled, filled_more, least_filled}

abbrev slots_in : List Asked → List ℕ
slots_in as' = map (λ (a : Asked). a.slot) as'

takes_append : (used : List ℕ) (as' bs : List Asked) → TakesLeast used as' → TakesLeast (used ++ slots_in as') bs → TakesLeast used (as' ++ bs)
unfolding TakesLeast
takes_append used [] bs h g = subst (λ (us : List ℕ). TakesLeast us bs) (append-nil used) g
takes_append used (a ∷ as') bs h g = (h.0, takes_append (used ++ a.slot ∷ []) as' bs h.1 (subst (λ (us : List ℕ). TakesLeast us bs) (sym (append_assoc used (a.slot ∷ []) (slots_in as'))) g))

unfoldable Takes : List ℕ → Turn → Type 0
Takes used it = TakesLeast used it.asks

-- where two arms are done, they asked nothing
joined_takes : (used : List ℕ) (one two : Control) (asks : List Asked) (k : Cursor) (go : Talk → Turn) (t : Talk) → ((is_done one && is_done two) ≡ true → asks ≡ []) → TakesLeast used asks → Takes used (go t)
    → Takes used (joined one two asks k go t)
unfolding Takes
joined_takes used one two asks k go t n h g = of (is_done one && is_done two) refl where
  of : (b : Bool) → (is_done one && is_done two) ≡ b → Takes used (if b then also asks (go t) else record { control = Arms one two k; talk = t; asks = asks })
  of true e = subst (λ (as' : List Asked). TakesLeast used (as' ++ (go t).asks)) (sym (n e)) g
  of false e = h

asked_slots : (it : Turn) → waiting it.control ≡ it.asks → slots it.control ≡ slots_in it.asks
asked_slots it h = slots_waiting it.control ∙ ap slots_in h

arms_none : (one two : Turn) → waiting one.control ≡ one.asks → waiting two.control ≡ two.asks → (is_done one.control && is_done two.control) ≡ true → one.asks ++ two.asks ≡ []
arms_none one two p q e =
    let d = and_parts (is_done one.control) (is_done two.control) e in
    ap₂ (λ (x y : List Asked). x ++ y) (sym p ∙ none_wait one.control d.0) (sym q ∙ none_wait two.control d.1)

nothing : (xs ys : List Asked) → xs ++ ys ≡ [] → xs ≡ []
nothing [] ys e = refl
nothing (x ∷ xs) ys e = absurd (cc e)

-- nothing is left in the place of a request only where nothing came there
no_asks : (s : ℕ) (x as' : List Asked) → has s (slots_in as') ≡ true → replaced s x as' ≡ [] → x ≡ []
no_asks s x [] h e = absurd (both_ways false refl h)
no_asks s x (a ∷ as') h e = of (nat_eq s a.slot) e where
  no : {z : Asked} {zs : List Asked} → (z ∷ zs) ≡ [] → ⊥
  no q = cc q

  of : (b : Bool) → (if b then x ++ as' else a ∷ replaced s x as') ≡ [] → x ≡ []
  of true q = nothing x as' q
  of false q = absurd (no q)

module _ (f : Facts) where
  begin_text_takes : (c : Text) (used : List ℕ) (k : Cursor) (go : Talk → Turn) → ((t : Talk) → Takes used (go t)) → (t : Talk) → Takes used (begin_text f c used k go t)
  unfolding Takes TakesLeast begin
  begin_text_takes Stop used k go g t = g t
  begin_text_takes (Act q c) used k go g t = begin_text_takes c used k go g (act f q t)
  begin_text_takes (Ask a c) used k go g t = (refl, tt)
  begin_text_takes (If e a b c) used k go g t = by_cases (int_eq (value f t.names e) (pos 0))
      (λ h. rw h (begin_text_takes b used (Rest c ∷ k) (begin_text f c used k go) (begin_text_takes c used k go g) t))
      (λ h. rw h (begin_text_takes a used (Rest c ∷ k) (begin_text f c used k go) (begin_text_takes c used k go g) t))
  begin_text_takes (Each l body c) used k go g t = (refl, tt)
  begin_text_takes (Both a b c) used k go g t =
      let one : Turn = begin_text f a used [] ended t in
      let two : Turn = begin_text f b (used ++ slots one.control) [] ended one.talk in
      let p : waiting one.control ≡ one.asks = begin_asked f (Rest a ∷ []) used t in
      let q : waiting two.control ≡ two.asks = begin_asked f (Rest b ∷ []) (used ++ slots one.control) one.talk in
      joined_takes used one.control two.control (one.asks ++ two.asks) (Rest c ∷ k) (begin_text f c used k go) two.talk (arms_none one two p q)
      (takes_append used one.asks two.asks (begin_text_takes a used [] ended (λ u. tt) t)
      (subst (λ (us : List ℕ). TakesLeast (used ++ us) two.asks) (asked_slots one p) (begin_text_takes b (used ++ slots one.control) [] ended (λ u. tt) one.talk)))
      (begin_text_takes c used k go g two.talk)

  begin_turns_takes : (l : Loop) (ps : List Pair) (body : Text) (used : List ℕ) (k : Cursor) (go : Talk → Turn) → ((t : Talk) → Takes used (go t)) → (t : Talk) → Takes used (begin_turns f l ps body used k go t)
  begin_turns_takes l [] body used k go g t = g t
  begin_turns_takes l (p ∷ ps) body used k go g t = begin_text_takes body used (Turns l ps body ∷ k) (begin_turns f l ps body used k go) (begin_turns_takes l ps body used k go g) (with_names (bind l p t.names) t)

  begin_frame_takes : (x : Frame) (used : List ℕ) (k : Cursor) (go : Talk → Turn) → ((t : Talk) → Takes used (go t)) → (t : Talk) → Takes used (begin_frame f x used k go t)
  begin_frame_takes (Rest c) used k go g t = begin_text_takes c used k go g t
  begin_frame_takes (Turns l ps body) used k go g t = begin_turns_takes l ps body used k go g t

  begin_takes : (k : Cursor) (used : List ℕ) (t : Talk) → Takes used (begin f k used t)
  unfolding begin Takes TakesLeast
  begin_takes [] used t = tt
  begin_takes (x ∷ k) used t = begin_frame_takes x used k (begin f k used) (begin_takes k used) t

  resume_takes : (n : Next) (a : Answer) (k : Cursor) (used : List ℕ) (t : Talk) → Takes used (resume f n a k used t)
  resume_takes (Take x) a k used t = begin_takes k used (with_names (take_in x a t.names) t)
  resume_takes (Begin l body) a k used t = begin_takes (Turns l (turns_of a) body ∷ k) used t

  -- where an arm is done behind an answer, it asked nothing
  given_none : (c : Control) (s : ℕ) (a : Answer) (used : List ℕ) (t : Talk) → has s (slots c) ≡ true → is_done (give_in f c s a used t).control ≡ true → (give_in f c s a used t).asks ≡ []
  given_none c s a used t h d =
      let it : Turn = give_in f c s a used t in
      let none : replaced s it.asks (waiting c) ≡ [] = sym (give_in_asked f c s a used t h) ∙ none_wait it.control d in
      no_asks s it.asks (waiting c) (sym (ap (has s) (slots_waiting c)) ∙ h) none

  give_in_takes : (c : Control) (s : ℕ) (a : Answer) (used : List ℕ) (t : Talk) → has s (slots c) ≡ true → Takes used (give_in f c s a used t)
  unfolding Takes TakesLeast
  give_in_takes Done s a used t h = tt
  give_in_takes (Wait s' r n k) s a used t h = resume_takes n a k used t
  give_in_takes (Arms one two k) s a used t h = of (has s (slots one)) refl (give_in_takes one s a used t) (give_in_takes two s a used t)
    where
      it : Turn
      it = give_in f one s a used t

      at : Turn
      at = give_in f two s a used t

      of : (b : Bool) → has s (slots one) ≡ b → (has s (slots one) ≡ true → Takes used it) → (has s (slots two) ≡ true → Takes used at)
          → Takes used (if b then joined it.control two it.asks k (begin f k used) it.talk else joined one at.control at.asks k (begin f k used) at.talk)
      of true x p q = joined_takes used it.control two it.asks k (begin f k used) it.talk (λ e. given_none one s a used t x (and_parts (is_done it.control) (is_done two) e).0) (p x) (begin_takes k used it.talk)
      of false x p q = joined_takes used one at.control at.asks k (begin f k used) at.talk (λ e. given_none two s a used t in_two (and_parts (is_done one) (is_done at.control) e).1) (q in_two) (begin_takes k used at.talk)
        where
          in_two : has s (slots two) ≡ true
          in_two = ⊎_elim (λ z. absurd (both_ways (has s (slots one)) x z)) (λ z. z) (mem_either s (slots one) (slots two) h)

  pub begin_least : (k : Cursor) (used : List ℕ) (t : Talk) → BeginTakesLeast f k used t
  unfolding Takes
  begin_least k used t = begin_takes k used t

  pub give_least : (c : Control) (s : ℕ) (a : Answer) (t : Talk) → GiveTakesLeast f c s a t
  unfolding Takes give
  give_least c s a t h = give_in_takes c s a (without s (slots c)) t h

-- slots that are taken so rise

filled_wider : (n : ℕ) (used more : List ℕ) → Filled n used → Filled n (used ++ more)
filled_wider n used more h m l = mem_one m used more (h m l)

filled_next : (used : List ℕ) → Filled (suc (least_free used)) (used ++ least_free used ∷ [])
filled_next used = filled_more (least_free used) (used ++ least_free used ∷ []) (filled_wider (least_free used) used (least_free used ∷ []) (least_filled used))
    (mem_two (least_free used) used (least_free used ∷ []) (rw (eq-eqb (least_free used) (least_free used) refl) refl))

above : (n : ℕ) (used : List ℕ) → Filled (suc n) used → n < least_free used
above n used h = by_cases (nat_lt n (least_free used)) (λ e. ltb-true n (least_free used) e)
    (λ e. let l : least_free used ≤ n = ltb-false n (least_free used) e in absurd (both_ways (has (least_free used) used) (fresh_ok used) (h (least_free used) (omega arith))))

all_above : (n : ℕ) (used : List ℕ) (as' : List Asked) → Filled (suc n) used → TakesLeast used as' → AllByRecursion (λ b. n < b.slot) as'
unfolding TakesLeast
all_above n used [] h t = tt
all_above n used (a ∷ as') h t = (let l : n < least_free used = above n used h in let e = t.0 in omega arith, all_above n (used ++ a.slot ∷ []) as' (filled_wider (suc n) used (a.slot ∷ []) h) t.1)

pub takes_rise : (used : List ℕ) (as' : List Asked) → TakesLeast used as' → SlotsRise as'
unfolding TakesLeast SlotsRise
takes_rise used [] t = tt
takes_rise used (a ∷ as') t = (
  all_above a.slot (used ++ a.slot ∷ []) as' (subst (λ (s : ℕ). Filled (suc s) (used ++ s ∷ [])) (sym t.0) (filled_next used)) t.1,
  takes_rise (used ++ a.slot ∷ []) as' t.1,
)

pub is_least : (used : List ℕ) → IsLeastFree used (least_free used)
is_least used = record { free = fresh_ok used; least = least_filled used }
