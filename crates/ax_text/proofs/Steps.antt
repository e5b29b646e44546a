-- Each step of a control keeps what it fits and what it has left to do.
use Rattle.std.proofs.Common.{◌≡◌, ℕ, ℤ, pos, zero, suc, ◌+◌, ◌<◌, ◌≤◌, List, [], ◌∷◌, ◌++◌, Bool, true, false, ◌&&◌, ◌||◌, nat_eq, if◌then◌else◌, refl, sym, ap, ◌∙◌, arith, subst, Option, Some, None, ◌⊎◌, inl, inr, ⊎_elim}
use Rattle.std.specs.Ordering.{int_eq}
use Rattle.std.proofs.lemmas.Bool.{and_parts, both_ways, eqb-true, eq-eqb}
use Rattle.ax_base.specs.declared.lists.Pair.{Pair}
use Rattle.ax_text.specs.declared.vocabulary.Request.{Request}
use Rattle.ax_text.specs.declared.vocabulary.Answer.{Answer}
use Rattle.ax_text.specs.Functions.{upd}
use Rattle.ax_text.specs.Exprs.{Facts, value}
use Rattle.ax_text.specs.Cells.{Cells, answer_of}
use Rattle.ax_text.specs.Texts.{Loop, Text, Stop, Act, Ask, If, Each, Both}
use Rattle.ax_text.specs.Run.{Talk, World, with_names, act, request_of, after_of, take_in, apply, loop_request, turns_of, bind, run_turns, choose, run}
use Rattle.ax_text.specs.Prints.{has, loop_print}
use Rattle.ax_text.specs.Controls.{Frame, Rest, Turns, Cursor, Next, Take, Begin, Control, Done, Wait, Arms, Ask' as Asked, Turn, Answers, slots, is_done, free_from, total, least_free, ended, also, waits, joined, begin_text, begin_turns, begin_frame, begin, resume, give_in, without, give, request_at, run_frame, run_cursor, finish, left_wait, left}
use Rattle.ax_text.specs.Footprints.{Footprint, AreArms, LineFits, Fits, FrameFits, CursorFits, RequestFits, NextFits, ControlFits}
use Rattle.ax_text.specs.Sound.{Split}
use Rattle.ax_text.proofs.Keeps.{by_cases, commute, keeps_run, keeps_left, request_fits, after_fits, loop_fits}

-- members

pub mem_append : (s : ℕ) (xs ys : List ℕ) → has s (xs ++ ys) ≡ has s xs || has s ys
mem_append s [] ys = refl
mem_append s (x ∷ xs) ys = of (mem_append s xs ys) (nat_eq s x)
  where
    of : has s (xs ++ ys) ≡ (has s xs || has s ys) → (b : Bool) → (b || has s (xs ++ ys)) ≡ ((b || has s xs) || has s ys)
    of ih true = refl
    of ih false = ih

pub mem_left : (s : ℕ) (xs ys : List ℕ) → has s (xs ++ ys) ≡ false → has s xs ≡ false
mem_left s xs ys h = of (has s xs) (has s ys) (sym (mem_append s xs ys) ∙ h)
  where
    of : (a b : Bool) → (a || b) ≡ false → a ≡ false
    of true b e = e
    of false b e = refl

pub mem_right : (s : ℕ) (xs ys : List ℕ) → has s (xs ++ ys) ≡ false → has s ys ≡ false
mem_right s xs ys h = of (has s xs) (has s ys) (sym (mem_append s xs ys) ∙ h)
  where
    of : (a b : Bool) → (a || b) ≡ false → b ≡ false
    of true b e = absurd (both_ways true e refl)
    of false b e = e

pub mem_either : (s : ℕ) (xs ys : List ℕ) → has s (xs ++ ys) ≡ true → (has s xs ≡ true) ⊎ (has s ys ≡ true)
mem_either s xs ys h = of (has s xs) (has s ys) (sym (mem_append s xs ys) ∙ h)
  where
    of : (a b : Bool) → (a || b) ≡ true → (a ≡ true) ⊎ (b ≡ true)
    of true b e = inl refl
    of false b e = inr e

pub mem_one : (s : ℕ) (xs ys : List ℕ) → has s xs ≡ true → has s (xs ++ ys) ≡ true
mem_one s xs ys h = mem_append s xs ys ∙ ap (λ (b : Bool). b || has s ys) h

pub mem_two : (s : ℕ) (xs ys : List ℕ) → has s ys ≡ true → has s (xs ++ ys) ≡ true
mem_two s xs ys h = mem_append s xs ys ∙ (ap (λ (b : Bool). has s xs || b) h ∙ of (has s xs))
  where
    of : (a : Bool) → (a || true) ≡ true
    of true = refl
    of false = refl

pub mem_le : (n : ℕ) (xs : List ℕ) → has n xs ≡ true → n ≤ total xs
mem_le n [] h = absurd (both_ways false refl h)
mem_le n (x ∷ xs) h = by_cases (nat_eq n x)
    (λ e. let s : n ≡ x = eqb-true n x e in omega arith)
    (λ e. let i : n ≤ total xs = mem_le n xs (rw e at h) in omega arith)

free_ok : (more n : ℕ) (used : List ℕ) → total used < n + more → has (free_from more n used) used ≡ false
free_ok zero n used h = by_cases (has n used) (λ e. let i : n ≤ total used = mem_le n used e in absurd (omega arith)) (λ e. e)
free_ok (suc more) n used h = of (has n used) refl (free_ok more (suc n) used (omega arith))
  where
    of : (b : Bool) → has n used ≡ b → has (free_from more (suc n) used) used ≡ false → has (if b then free_from more (suc n) used else n) used ≡ false
    of true e i = i
    of false e i = e

pub fresh_ok : (used : List ℕ) → has (least_free used) used ≡ false
unfolding least_free
fresh_ok used = free_ok (suc (total used)) 0 used (omega arith)

-- no answer stands at a slot that isn't used
unfoldable pub Blank : List ℕ → Answers → Type 0
Blank used answers = (s : ℕ) → has s used ≡ false → answers s ≡ None

world : Talk → Cells → ℕ → World
world t cells n = record { talk = t; cells = cells; served = n }

pub upd_at : {A : Type 0} (f : ℕ → A) (i : ℕ) (v : A) (j : ℕ) → nat_eq i j ≡ true → upd f i v j ≡ v
upd_at f i v j h = rw h refl

pub upd_off : {A : Type 0} (f : ℕ → A) (i : ℕ) (v : A) (j : ℕ) → nat_eq i j ≡ false → upd f i v j ≡ f j
upd_off f i v j h = rw h refl

off : (s : ℕ) (xs : List ℕ) → has s xs ≡ false → (j : ℕ) → has j xs ≡ true → nat_eq s j ≡ false
off s xs h j m = by_cases (nat_eq s j) (λ x. absurd (both_ways (has s xs) h (ap (λ (i : ℕ). has i xs) (eqb-true s j x) ∙ m))) (λ x. x)

pub without_keeps : (s : ℕ) (xs : List ℕ) (j : ℕ) → has j xs ≡ true → nat_eq s j ≡ false → has j (without s xs) ≡ true
without_keeps s [] j m h = m
without_keeps s (x ∷ xs) j m h = of (nat_eq s x) refl (without_keeps s xs j)
  where
    of : (b : Bool) → nat_eq s x ≡ b → (has j xs ≡ true → nat_eq s j ≡ false → has j (without s xs) ≡ true) → has j (if b then without s xs else x ∷ without s xs) ≡ true
    of true e ih = by_cases (nat_eq j x)
        (λ v. absurd (both_ways (nat_eq s j) h (eq-eqb s j (eqb-true s x e ∙ sym (eqb-true j x v)))))
        (λ v. ih (rw v at m) h)
    of false e ih = by_cases (nat_eq j x) (λ v. rw v refl) (λ v. rw v (ih (rw v at m) h))

one_slot : (s f : ℕ) (used : List ℕ) → has f used ≡ false → has s (f ∷ []) ≡ true → has s used ≡ false
one_slot s f used h e = by_cases (nat_eq s f)
    (λ x. subst (λ (i : ℕ). has i used ≡ false) (sym (eqb-true s f x)) h)
    (λ x. absurd (both_ways false refl (rw x at e)))

picked : {A : Type 0} (b : Bool) (x y z : A) → (if b then x else y) ≡ z → (b ≡ true → x ≡ z) × (b ≡ false → y ≡ z)
picked true x y z e = (λ h. e, λ h. absurd (both_ways true h refl))
picked false x y z e = (λ h. absurd (both_ways false refl h), λ h. e)

module _ (fs : Facts) where
  -- where nothing is answered at the free slots, a callback leaves what it should
  pub record IsStep (F : Footprint) (used : List ℕ) (it : Turn) (end : Cells → ℕ → World) : Type 0 where
    pub fits : ControlFits it.control F
    pub split : Split it.control
    pub unused : (s : ℕ) → has s (slots it.control) ≡ true → has s used ≡ false
    pub law : (answers : Answers) → Blank used answers → (cells : Cells) (n : ℕ) → left fs answers it.control (record { talk = it.talk; cells = cells; served = n }) ≡ end cells n

  step_to : (F : Footprint) (used : List ℕ) (it : Turn) (a b : Cells → ℕ → World) → ((cells : Cells) (n : ℕ) → a cells n ≡ b cells n) → IsStep F used it a → IsStep F used it b
  step_to F used it a b e p = record { fits = p.fits; split = p.split; unused = p.unused; law = λ answers h cells n. p.law answers h cells n ∙ e cells n }

  pub done_left : (c : Control) (answers : Answers) → is_done c ≡ true → (w : World) → left fs answers c w ≡ w
  done_left Done answers h w = refl
  done_left (Wait s r after k) answers h w = absurd (cc h)
  done_left (Arms one two k) answers h w = absurd (cc h)

  unfoldable pub after_talk : (World → World) → Talk → Cells → ℕ → World
  after_talk f t cells n = f (record { talk = t; cells = cells; served = n })

  unfoldable pub Goes : Footprint → List ℕ → Cursor → (Talk → Turn) → Type 0
  Goes F used k go = (t : Talk) → IsStep F used (go t) (after_talk (run_cursor fs k) t)

  -- a wait at the least_free slot
  waits_ok : (F : Footprint) (used : List ℕ) (r : Request) (after : Next) (k : Cursor) (t : Talk) → RequestFits r F → NextFits after F → CursorFits k F
      → IsStep F used (waits (least_free used) r after k t) (after_talk (λ w. run_cursor fs k (finish fs after (answer_of r w.cells) (apply r w))) t)
  unfolding Split Blank after_talk
  waits_ok F used r after k t p q h = record {
    fits = (p, q, h);
    split = tt;
    unused = λ s e. one_slot s (least_free used) used (fresh_ok used) e;
    law = λ answers b cells n. ap (λ (o : Option Answer). run_cursor fs k (left_wait fs o r after (record { talk = t; cells = cells; served = n }))) (b (least_free used) (fresh_ok used));
  }

  also_ok : (F : Footprint) (used : List ℕ) (asks : List Asked) (it : Turn) (end : Cells → ℕ → World) → IsStep F used it end → IsStep F used (also asks it) end
  also_ok F used asks it end p = record { fits = p.fits; split = p.split; unused = p.unused; law = p.law }

  pub finished : (F : Footprint) (used : List ℕ) → Goes F used [] ended
  unfolding Goes Split after_talk
  finished F used t = record { fits = tt; split = tt; unused = λ s e. absurd (both_ways false refl e); law = λ answers b cells n. refl }

  choose_ok : (n : ℤ) (F : Footprint) (used : List ℕ) (one two : Talk → Turn) (f g end : World → World) (t : Talk)
      → IsStep F used (one t) (after_talk (λ w. end (f w)) t) → IsStep F used (two t) (after_talk (λ w. end (g w)) t) → IsStep F used (choose n one two t) (after_talk (λ w. end (choose n f g w)) t)
  unfolding after_talk
  choose_ok n F used one two f g end t p q = of (int_eq n (pos 0)) where
    of : (b : Bool) → IsStep F used ((if b then two else one) t) (after_talk (λ w. end ((if b then g else f) w)) t)
    of true = q
    of false = p

  -- the two arms of a `both`, begun one after the other
  arms_meet : (G H F : Footprint) (used : List ℕ) (a b : Text) (one two : Turn) (t : Talk) → AreArms G H F → Fits b H
      → IsStep G used one (after_talk (run fs a) t) → IsStep H (used ++ slots one.control) two (after_talk (run fs b) one.talk)
      → (answers : Answers) → Blank used answers → (cells : Cells) (n : ℕ)
      → left fs answers two.control (left fs answers one.control (record { talk = two.talk; cells = cells; served = n })) ≡ run fs b (run fs a (record { talk = t; cells = cells; served = n }))
  unfolding after_talk Blank
  arms_meet G H F used a b one two t arms fits p q answers h cells n =
      commute G H (left fs answers one.control) (left fs answers two.control) arms.apart (keeps_left fs one.control answers G p.fits) (keeps_left fs two.control answers H q.fits) (record { talk = two.talk; cells = cells; served = n })
      ∙ (ap (left fs answers one.control) (q.law answers (λ s e. h s (mem_left s used (slots one.control) e)) cells n)
      ∙ (sym (commute G H (left fs answers one.control) (run fs b) arms.apart (keeps_left fs one.control answers G p.fits) (keeps_run fs b H fits) (record { talk = one.talk; cells = cells; served = n }))
      ∙ ap (run fs b) (p.law answers h cells n)))

  both_ok : (G H F : Footprint) (used : List ℕ) (a b c : Text) (k : Cursor) (go : Talk → Turn) (one two : Turn) (t : Talk) → AreArms G H F → Fits b H → Fits c F → CursorFits k F
      → IsStep G used one (after_talk (run fs a) t) → IsStep H (used ++ slots one.control) two (after_talk (run fs b) one.talk) → Goes F used (Rest c ∷ k) go
      → IsStep F used (joined one.control two.control (one.asks ++ two.asks) (Rest c ∷ k) go two.talk) (after_talk (λ w. run_cursor fs k (run fs c (run fs b (run fs a w)))) t)
  unfolding Goes Split after_talk Blank
  both_ok G H F used a b c k go one two t arms fb fc fk p q g = of (is_done one.control && is_done two.control) refl
    where
      asks : List Asked
      asks = one.asks ++ two.asks

      meets : (answers : Answers) → Blank used answers → (cells : Cells) (n : ℕ)
          → left fs answers two.control (left fs answers one.control (record { talk = two.talk; cells = cells; served = n })) ≡ run fs b (run fs a (record { talk = t; cells = cells; served = n }))
      meets = arms_meet G H F used a b one two t arms fb p q

      ends : (is_done one.control && is_done two.control) ≡ true → (answers : Answers) (w : World) → left fs answers two.control (left fs answers one.control w) ≡ w
      ends e answers w = ap (left fs answers two.control) (done_left one.control answers (and_parts (is_done one.control) (is_done two.control) e).0 w) ∙ done_left two.control answers (and_parts (is_done one.control) (is_done two.control) e).1 w

      of : (x : Bool) → (is_done one.control && is_done two.control) ≡ x → IsStep F used (if x then also asks (go two.talk) else record { control = Arms one.control two.control (Rest c ∷ k); talk = two.talk; asks = asks }) (after_talk (λ w. run_cursor fs k (run fs c (run fs b (run fs a w)))) t)
      of true e = also_ok F used asks (go two.talk) _ (record {
        fits = (g two.talk).fits;
        split = (g two.talk).split;
        unused = (g two.talk).unused;
        law = λ answers h cells n. (g two.talk).law answers h cells n ∙ ap (λ (w : World). run_cursor fs k (run fs c w)) (sym (ends e answers (record { talk = two.talk; cells = cells; served = n })) ∙ meets answers h cells n);
      })
      of false e = record {
        fits = (G, H, arms, p.fits, q.fits, (fc, fk));
        split = (λ s m. by_cases (has s (slots two.control)) (λ x. absurd (both_ways (has s (slots one.control)) (mem_right s used (slots one.control) (q.unused s x)) m)) (λ x. x), p.split, q.split);
        unused = λ s m. ⊎_elim (λ x. p.unused s x) (λ x. mem_left s used (slots one.control) (q.unused s x)) (mem_either s (slots one.control) (slots two.control) m);
        law = λ answers h cells n. ap (λ (w : World). run_cursor fs k (run fs c w)) (meets answers h cells n);
      }

  pub begin_text_ok : (c : Text) (F : Footprint) (used : List ℕ) (k : Cursor) (go : Talk → Turn) → Fits c F → CursorFits k F → Goes F used k go
      → (t : Talk) → IsStep F used (begin_text fs c used k go t) (after_talk (λ w. run_cursor fs k (run fs c w)) t)
  unfolding Goes after_talk
  begin_text_ok Stop F used k go h r g t = g t
  begin_text_ok (Act q c) F used k go h r g t = begin_text_ok c F used k go h.1 r g (act fs q t)
  begin_text_ok (Ask a c) F used k go h r g t =
      waits_ok F used (request_of fs a t.names) (Take (after_of fs a t.names)) (Rest c ∷ k) t (request_fits fs a F t.names h.0) (after_fits fs a F t.names h.0) (h.1, r)
  begin_text_ok (If e a b c) F used k go h r g t = choose_ok (value fs t.names e) F used
      (begin_text fs a used (Rest c ∷ k) (begin_text fs c used k go)) (begin_text fs b used (Rest c ∷ k) (begin_text fs c used k go))
      (run fs a) (run fs b) (λ v. run_cursor fs k (run fs c v)) t
      (begin_text_ok a F used (Rest c ∷ k) (begin_text fs c used k go) h.1 (h.3, r) (begin_text_ok c F used k go h.3 r g) t)
      (begin_text_ok b F used (Rest c ∷ k) (begin_text fs c used k go) h.2 (h.3, r) (begin_text_ok c F used k go h.3 r g) t)
  begin_text_ok (Each l body c) F used k go h r g t = waits_ok F used (loop_request l) (Begin l body) (Rest c ∷ k) t (loop_fits fs l F h.0) (h.0, h.1) (h.2, r)
  begin_text_ok (Both a b c) F used k go h r g t =
      let one : Turn = begin_text fs a used [] ended t in
      let two : Turn = begin_text fs b (used ++ slots one.control) [] ended one.talk in
      both_ok h.0 h.1 F used a b c k (begin_text fs c used k go) one two t h.2 h.4 h.5 r
      (begin_text_ok a h.0 used [] ended h.3 tt (finished h.0 used) t)
      (begin_text_ok b h.1 (used ++ slots one.control) [] ended h.4 tt (finished h.1 (used ++ slots one.control)) one.talk)
      (begin_text_ok c F used k go h.5 r g)

  begin_turns_ok : (l : Loop) (ps : List Pair) (body : Text) (F : Footprint) (used : List ℕ) (k : Cursor) (go : Talk → Turn)
      → LineFits (loop_print l) F → Fits body F → CursorFits k F → Goes F used k go
      → (t : Talk) → IsStep F used (begin_turns fs l ps body used k go t) (after_talk (λ w. run_cursor fs k (run_turns (run fs body) l ps w)) t)
  unfolding Goes after_talk
  begin_turns_ok l [] body F used k go s h r g t = g t
  begin_turns_ok l (p ∷ ps) body F used k go s h r g t =
      begin_text_ok body F used (Turns l ps body ∷ k) (begin_turns fs l ps body used k go) h ((s, h), r) (begin_turns_ok l ps body F used k go s h r g) (with_names (bind l p t.names) t)

  begin_frame_ok : (f : Frame) (F : Footprint) (used : List ℕ) (k : Cursor) (go : Talk → Turn) → FrameFits f F → CursorFits k F → Goes F used k go
      → (t : Talk) → IsStep F used (begin_frame fs f used k go t) (after_talk (λ w. run_cursor fs k (run_frame fs f w)) t)
  begin_frame_ok (Rest c) F used k go h r g t = begin_text_ok c F used k go h r g t
  begin_frame_ok (Turns l ps body) F used k go h r g t = begin_turns_ok l ps body F used k go h.0 h.1 r g t

  pub begin_ok : (k : Cursor) (F : Footprint) (used : List ℕ) → CursorFits k F → Goes F used k (begin fs k used)
  unfolding Goes begin
  begin_ok [] F used r t = finished F used t
  begin_ok (f ∷ k) F used r t = begin_frame_ok f F used k (begin fs k used) r.0 r.1 (begin_ok k F used r.1) t

  pub resume_ok : (after : Next) (answer : Answer) (k : Cursor) (F : Footprint) (used : List ℕ) → NextFits after F → CursorFits k F
      → (t : Talk) → IsStep F used (resume fs after answer k used t) (after_talk (λ w. run_cursor fs k (finish fs after answer w)) t)
  unfolding Goes after_talk
  resume_ok (Take x) answer k F used h r t = begin_ok k F used r (with_names (take_in x answer t.names) t)
  resume_ok (Begin l body) answer k F used h r t = begin_ok (Turns l (turns_of answer) body ∷ k) F used ((h.0, h.1), r) t

  -- a control sees only the answers at its slots

  same_after : (k : Cursor) (x y : World) → x ≡ y → run_cursor fs k x ≡ run_cursor fs k y
  same_after k x y e = ap (run_cursor fs k) e

  pub left_same : (c : Control) (answers others : Answers) → ((s : ℕ) → has s (slots c) ≡ true → answers s ≡ others s) → (w : World) → left fs answers c w ≡ left fs others c w
  left_same Done answers others h w = refl
  left_same (Wait s r after k) answers others h w = ap (λ (o : Option Answer). run_cursor fs k (left_wait fs o r after w)) (h s (rw (eq-eqb s s refl) refl))
  left_same (Arms one two k) answers others h w = ap (run_cursor fs k)
      (ap (left fs answers two) (left_same one answers others (λ s m. h s (mem_one s (slots one) (slots two) m)) w)
      ∙ left_same two answers others (λ s m. h s (mem_two s (slots one) (slots two) m)) (left fs others one w))

  -- what stands at another slot is not seen
  pub left_off : (c : Control) (answers : Answers) (s : ℕ) (o : Option Answer) → has s (slots c) ≡ false → (w : World) → left fs (upd answers s o) c w ≡ left fs answers c w
  left_off c answers s o h w = left_same c (upd answers s o) answers (λ j m. upd_off answers s o j (off s (slots c) h j m)) w

  -- a request of a slot is served

  serve_wait : (s s' : ℕ) (r r' : Request) (after : Next) (k : Cursor) (answers : Answers) (w : World) → (if nat_eq s s' then Some r' else None) ≡ Some r → answers s ≡ None
      → run_cursor fs k (left_wait fs (upd answers s (Some (answer_of r w.cells)) s') r' after (apply r w)) ≡ run_cursor fs k (left_wait fs (answers s') r' after w)
  serve_wait s s' r r' after k answers w e n = by_cases (nat_eq s s')
      (λ x. let same : r' ≡ r = found x in
      let here : answers s' ≡ None = ap answers (sym (eqb-true s s' x)) ∙ n in
      ap (λ (o : Option Answer). run_cursor fs k (left_wait fs o r' after (apply r w))) (upd_at answers s (Some (answer_of r w.cells)) s' x)
      ∙ (ap (λ (q : Request). run_cursor fs k (finish fs after (answer_of q w.cells) (apply q w))) (sym same)
      ∙ ap (λ (o : Option Answer). run_cursor fs k (left_wait fs o r' after w)) (sym here)))
      (λ x. absurd (lost x))
    where
      some_same : {x y : Request} → Some x ≡ Some y → x ≡ y
      some_same h = cc h

      none_some : {y : Request} → None ≡ Some y → ⊥
      none_some h = cc h

      found : nat_eq s s' ≡ true → r' ≡ r
      found x = some_same (rw x at e)

      lost : nat_eq s s' ≡ false → ⊥
      lost x = none_some (rw x at e)

  pub serve_ok : (c : Control) (F : Footprint) (answers : Answers) (s : ℕ) (r : Request) → ControlFits c F → Split c → request_at c s ≡ Some r → answers s ≡ None
      → (w : World) → left fs (upd answers s (Some (answer_of r w.cells))) c (apply r w) ≡ left fs answers c w
  unfolding Split
  serve_ok Done F answers s r h d e n w = absurd (cc e)
  serve_ok (Wait s' r' after k) F answers s r h d e n w = serve_wait s s' r r' after k answers w e n
  serve_ok (Arms one two k) F answers s r h d e n w = by_cases (has s (slots one))
      (λ x. ap (run_cursor fs k)
      (left_off two answers s (Some (answer_of r w.cells)) (d.0 s x) _
      ∙ ap (left fs answers two) (serve_ok one h.0 answers s r h.3 d.1 ((picked (has s (slots one)) (request_at one s) (request_at two s) (Some r) e).0 x) n w)))
      (λ x. ap (run_cursor fs k)
      (ap (left fs (upd answers s (Some (answer_of r w.cells))) two) (left_off one answers s (Some (answer_of r w.cells)) x (apply r w))
      ∙ (commute h.0 h.1 (left fs answers one) (left fs (upd answers s (Some (answer_of r w.cells))) two) h.2.apart (keeps_left fs one answers h.0 h.3) (keeps_left fs two (upd answers s (Some (answer_of r w.cells))) h.1 h.4) (apply r w)
      ∙ (ap (left fs answers one) (serve_ok two h.1 answers s r h.4 d.2 ((picked (has s (slots one)) (request_at one s) (request_at two s) (Some r) e).1 x) n w)
      ∙ sym (commute h.0 h.1 (left fs answers one) (left fs answers two) h.2.apart (keeps_left fs one answers h.0 h.3) (keeps_left fs two answers h.1 h.4) w)))))

  -- an answer is given

  -- no answer stands at a slot that isn't used, but at s
  unfoldable pub BlankBut : ℕ → List ℕ → Answers → Type 0
  BlankBut s used answers = (j : ℕ) → has j used ≡ false → nat_eq s j ≡ false → answers j ≡ None

  pub record IsGiven (F : Footprint) (c : Control) (s : ℕ) (answer : Answer) (used : List ℕ) (t : Talk) (it : Turn) : Type 0 where
    pub fits : ControlFits it.control F
    pub split : Split it.control
    pub kept : (j : ℕ) → has j (slots it.control) ≡ true → ((has j (slots c) ≡ true) × (nat_eq s j ≡ false)) ⊎ (has j used ≡ false)
    pub others : (j : ℕ) → has j (slots c) ≡ true → nat_eq s j ≡ false → has j (slots it.control) ≡ true
    pub law : (answers : Answers) → answers s ≡ Some answer → BlankBut s used answers → (cells : Cells) (n : ℕ)
        → left fs (upd answers s None) it.control (record { talk = it.talk; cells = cells; served = n }) ≡ left fs answers c (record { talk = t; cells = cells; served = n })

  blank_cleared : (s : ℕ) (used : List ℕ) (answers : Answers) → BlankBut s used answers → Blank used (upd answers s None)
  unfolding Blank BlankBut
  blank_cleared s used answers h j m = by_cases (nat_eq s j) (λ x. upd_at answers s None j x) (λ x. upd_off answers s None j x ∙ h j m x)

  no_slot : (c : Control) → is_done c ≡ true → (j : ℕ) → has j (slots c) ≡ true → ⊥
  no_slot Done h j m = both_ways false refl m
  no_slot (Wait s r after k) h j m = cc h
  no_slot (Arms one two k) h j m = cc h

  given_joined : (G H F : Footprint) (c one two : Control) (asks : List Asked) (k : Cursor) (s : ℕ) (answer : Answer) (used : List ℕ) (t u : Talk) (mid : Answers → World → World)
      → AreArms G H F → ControlFits one G → ControlFits two H → CursorFits k F → Split one → Split two
      → ((j : ℕ) → has j (slots one) ≡ true → has j (slots two) ≡ false)
      → ((j : ℕ) → has j (slots (Arms one two k)) ≡ true → ((has j (slots c) ≡ true) × (nat_eq s j ≡ false)) ⊎ (has j used ≡ false))
      → ((j : ℕ) → has j (slots c) ≡ true → nat_eq s j ≡ false → has j (slots (Arms one two k)) ≡ true)
      → ((answers : Answers) → answers s ≡ Some answer → BlankBut s used answers → (cells : Cells) (n : ℕ)
      → left fs (upd answers s None) two (left fs (upd answers s None) one (record { talk = u; cells = cells; served = n })) ≡ mid answers (record { talk = t; cells = cells; served = n }))
      → ((answers : Answers) (w : World) → left fs answers c w ≡ run_cursor fs k (mid answers w))
      → IsGiven F c s answer used t (joined one two asks k (begin fs k used) u)
  unfolding Goes Split after_talk
  given_joined G H F c one two asks k s answer used t u mid arms p q r d e x y o meets whole = of (is_done one && is_done two) refl
    where
      g : IsStep F used (begin fs k used u) (after_talk (run_cursor fs k) u)
      g = begin_ok k F used r u

      ends : (is_done one && is_done two) ≡ true → (answers : Answers) (w : World) → left fs answers two (left fs answers one w) ≡ w
      ends b answers w = ap (left fs answers two) (done_left one answers (and_parts (is_done one) (is_done two) b).0 w) ∙ done_left two answers (and_parts (is_done one) (is_done two) b).1 w

      of : (b : Bool) → (is_done one && is_done two) ≡ b → IsGiven F c s answer used t (if b then also asks (begin fs k used u) else record { control = Arms one two k; talk = u; asks = asks })
      of true b = record {
        fits = g.fits;
        split = g.split;
        kept = λ j m. inr (g.unused j m);
        others = λ j m z. absurd (⊎_elim (λ v. no_slot one (and_parts (is_done one) (is_done two) b).0 j v) (λ v. no_slot two (and_parts (is_done one) (is_done two) b).1 j v) (mem_either j (slots one) (slots two) (o j m z)));
        law = λ answers f h cells n. g.law (upd answers s None) (blank_cleared s used answers h) cells n
            ∙ (ap (run_cursor fs k) (sym (ends b (upd answers s None) (record { talk = u; cells = cells; served = n })) ∙ meets answers f h cells n)
            ∙ sym (whole answers (record { talk = t; cells = cells; served = n })));
      }
      of false b = record {
        fits = (G, H, arms, p, q, r);
        split = (x, d, e);
        kept = y;
        others = o;
        law = λ answers f h cells n. ap (run_cursor fs k) (meets answers f h cells n) ∙ sym (whole answers (record { talk = t; cells = cells; served = n }));
      }

  pub give_ok : (c : Control) (F : Footprint) (s : ℕ) (answer : Answer) (used : List ℕ) → ControlFits c F → Split c → has s (slots c) ≡ true
      → ((j : ℕ) → has j (slots c) ≡ true → nat_eq s j ≡ false → has j used ≡ true)
      → (t : Talk) → IsGiven F c s answer used t (give_in fs c s answer used t)
  unfolding Split after_talk
  give_ok Done F s answer used h d m o t = absurd (both_ways false refl m)
  give_ok (Wait s' r after k) F s answer used h d m o t = record {
    fits = g.fits;
    split = g.split;
    kept = λ j x. inr (g.unused j x);
    others = λ j x z. absurd (both_ways false refl (off_one j x z));
    law = λ answers f b cells n. g.law (upd answers s None) (blank_cleared s used answers b) cells n
        ∙ ap (λ (a : Option Answer). run_cursor fs k (left_wait fs a r after (record { talk = t; cells = cells; served = n }))) (sym (ap answers (sym here) ∙ f));
  }
    where
      g : IsStep F used (resume fs after answer k used t) (after_talk (λ w. run_cursor fs k (finish fs after answer w)) t)
      g = resume_ok after answer k F used h.1 h.2 t

      here : s ≡ s'
      here = by_cases (nat_eq s s') (λ x. eqb-true s s' x) (λ x. absurd (both_ways false refl (rw x at m)))

      off_one : (j : ℕ) → has j (s' ∷ []) ≡ true → nat_eq s j ≡ false → false ≡ true
      off_one j x z = by_cases (nat_eq j s') (λ v. sym z ∙ eq-eqb s j (here ∙ sym (eqb-true j s' v))) (λ v. (rw v at x))
  give_ok (Arms one two k) F s answer used h d m o t = of (has s (slots one)) refl (λ x. give_ok one h.0 s answer used h.3 d.1 x (λ j y z. o j (mem_one j (slots one) (slots two) y) z) t)
      (λ x. give_ok two h.1 s answer used h.4 d.2 x (λ j y z. o j (mem_two j (slots one) (slots two) y) z) t)
    where
      it : Turn
      it = give_in fs one s answer used t

      at : Turn
      at = give_in fs two s answer used t

      of : (b : Bool) → has s (slots one) ≡ b → (has s (slots one) ≡ true → IsGiven h.0 one s answer used t it) → (has s (slots two) ≡ true → IsGiven h.1 two s answer used t at)
          → IsGiven F (Arms one two k) s answer used t (if b then joined it.control two it.asks k (begin fs k used) it.talk else joined one at.control at.asks k (begin fs k used) at.talk)
      of true x p q = given_joined h.0 h.1 F (Arms one two k) it.control two it.asks k s answer used t it.talk (λ answers w. left fs answers two (left fs answers one w))
          h.2 (p x).fits h.4 h.5 (p x).split d.2
          (λ j y. ⊎_elim (λ z. d.0 j z.0)
          (λ z. by_cases (has j (slots two)) (λ v. absurd (both_ways (has j used) z (o j (mem_two j (slots one) (slots two) v) (off s (slots two) (d.0 s x) j v)))) (λ v. v)) ((p x).kept j y))
          (λ j y. ⊎_elim (λ z. ⊎_elim (λ v. inl (mem_one j (slots one) (slots two) v.0, v.1)) (λ v. inr v) ((p x).kept j z))
          (λ z. inl (mem_two j (slots one) (slots two) z, off s (slots two) (d.0 s x) j z)) (mem_either j (slots it.control) (slots two) y))
          (λ j y z. ⊎_elim (λ v. mem_one j (slots it.control) (slots two) ((p x).others j v z)) (λ v. mem_two j (slots it.control) (slots two) v) (mem_either j (slots one) (slots two) y))
          (λ answers f b cells n. ap (left fs (upd answers s None) two) ((p x).law answers f b cells n) ∙ left_off two answers s None (d.0 s x) _)
          (λ answers w. refl)
      of false x p q = given_joined h.0 h.1 F (Arms one two k) one at.control at.asks k s answer used t at.talk (λ answers w. left fs answers two (left fs answers one w))
          h.2 h.3 g.fits h.5 d.1 g.split
          (λ j y. by_cases (has j (slots at.control)) (λ v. absurd (⊎_elim (λ z. both_ways (has j (slots two)) (d.0 j y) z.0) (λ z. both_ways (has j used) z (o j (mem_one j (slots one) (slots two) y) (off s (slots one) x j y))) (g.kept j v))) (λ v. v))
          (λ j y. ⊎_elim (λ z. inl (mem_one j (slots one) (slots two) z, off s (slots one) x j z))
          (λ z. ⊎_elim (λ v. inl (mem_two j (slots one) (slots two) v.0, v.1)) (λ v. inr v) (g.kept j z)) (mem_either j (slots one) (slots at.control) y))
          (λ j y z. ⊎_elim (λ v. mem_one j (slots one) (slots at.control) v) (λ v. mem_two j (slots one) (slots at.control) (g.others j v z)) (mem_either j (slots one) (slots two) y))
          (λ answers f b cells n.
          ap (left fs (upd answers s None) at.control) (left_off one answers s None x (record { talk = at.talk; cells = cells; served = n }))
          ∙ (commute h.0 h.1 (left fs answers one) (left fs (upd answers s None) at.control) h.2.apart (keeps_left fs one answers h.0 h.3) (keeps_left fs at.control (upd answers s None) h.1 g.fits) (record { talk = at.talk; cells = cells; served = n })
          ∙ (ap (left fs answers one) (g.law answers f b cells n)
          ∙ sym (commute h.0 h.1 (left fs answers one) (left fs answers two) h.2.apart (keeps_left fs one answers h.0 h.3) (keeps_left fs two answers h.1 h.4) (record { talk = t; cells = cells; served = n })))))
          (λ answers w. refl)
        where
          in_two : has s (slots two) ≡ true
          in_two = ⊎_elim (λ y. absurd (both_ways (has s (slots one)) x y)) (λ y. y) (mem_either s (slots one) (slots two) m)

          g : IsGiven h.1 two s answer used t at
          g = q in_two

  -- at the control of a context

  pub given : (c : Control) (F : Footprint) (s : ℕ) (answer : Answer) → ControlFits c F → Split c → has s (slots c) ≡ true
      → (t : Talk) → IsGiven F c s answer (without s (slots c)) t (give fs c s answer t)
  unfolding give
  given c F s answer h d m t = give_ok c F s answer (without s (slots c)) h d m (λ j x z. without_keeps s (slots c) j x z) t
