-- Whatever is served and given in whatever order, a handler comes to what its run comes to.
use Rattle.std.proofs.Common.{◌≡◌, ℕ, List, [], ◌∷◌, true, false, nat_eq, refl, sym, ap, ◌∙◌, subst, arith, suc, ◌+◌, ◌-◌, ◌≤◌, Option, Some, None}
use Rattle.std.proofs.lemmas.Bool.{both_ways, eqb-true}
use Rattle.ax_text.specs.declared.vocabulary.Request.{Request}
use Rattle.ax_text.specs.declared.vocabulary.Answer.{Answer}
use Rattle.ax_text.specs.Functions.{upd}
use Rattle.ax_text.specs.Exprs.{Facts}
use Rattle.ax_text.specs.Cells.{Cells, answer_of}
use Rattle.ax_text.specs.Texts.{Text}
use Rattle.ax_text.specs.Run.{World, run, begun}
use Rattle.ax_text.specs.Prints.{has, is_accepted}
use Rattle.ax_text.specs.Controls.{Rest, Control, Turn, Answers, slots, begin, without, give, request_at, left, Going, Event, Serve, Give, started, serve_at, give_at, step, steps, comes_to}
use Rattle.ax_text.specs.Futures.{going, ComesToRun, EndsAsRun}
use Rattle.ax_text.specs.Counts.{LeftCounts}
use Rattle.ax_text.proofs.Keeps.{by_cases, keeps_left}
use Rattle.ax_text.proofs.Steps.{Blank, BlankBut, Goes, IsStep, IsGiven, after_talk, begin_ok, given, serve_ok, upd_at, upd_off, without_keeps}
use Rattle.ax_text.proofs.Wakeful.{slot_waits, begin_wakes, give_wakes}
use Rattle.ax_text.proofs.Moving.{give_moves}
use Rattle.ax_text.proofs.Accepting.{accepted_fits}
use Rattle.ax_text.specs.Sound.{everything}
use Rattle.ax_text.specs.Underway.{IsUnderway, ServesOne, GivesOn, ServesAt, GivesAt, StartsUnderway, StepsUnderway}

none_some : {A : Type 0} {y : A} → None ≡ Some y → ⊥
none_some h = cc h

some_none : {A : Type 0} {y : A} → Some y ≡ None → ⊥
some_none h = cc h

blank_served : (c : Control) (answers : Answers) (n : ℕ) (o : Option Answer) → has n (slots c) ≡ true → Blank (slots c) answers → Blank (slots c) (upd answers n o)
unfolding Blank
blank_served c answers n o m h j x = by_cases (nat_eq n j)
    (λ y. absurd (both_ways (has j (slots c)) x (ap (λ (i : ℕ). has i (slots c)) (sym (eqb-true n j y)) ∙ m)))
    (λ y. upd_off answers n o j y ∙ h j x)

-- of an accepted text
pub left_counts : (fs : Facts) (answers : Answers) (c : Control) (w : World) → LeftCounts fs answers c w
left_counts fs answers c w h =
    let more = (keeps_left fs c answers everything h).counts w w (record { names = λ n x. refl; cells = λ m x. refl }) in
    least more.0 (left fs answers c w).served more.1
  where
    least : (m x : ℕ) → x ≡ m + w.served → w.served ≤ x
    least m x p = omega arith

module _ (fs : Facts) where
  pub Kept : Going → Going → Type 0
  Kept g h = IsUnderway h × (comes_to fs h ≡ comes_to fs g)

  serves_ok : (q : Option Request) (a : Option Answer) (s : ℕ) (g : Going) → request_at g.control s ≡ q → g.answers s ≡ a → IsUnderway g → Kept g (serve_at s q a g)
  unfolding Kept Blank
  serves_ok None a s g e f h = (h, refl)
  serves_ok (Some q) (Some a) s g e f h = (h, refl)
  serves_ok (Some q) None s g e f h = (
    record { fits = h.fits; split = h.split; wakeful = h.wakeful; blank = blank_served g.control g.answers s (Some (answer_of q g.world.cells)) (slot_waits g.control s q e) h.blank },
    serve_ok fs g.control everything g.answers s q h.fits h.split e f g.world,
  )

  pub waits_here : (a : Answer) (s : ℕ) (g : Going) → g.answers s ≡ Some a → IsUnderway g → has s (slots g.control) ≡ true
  waits_here a s g f h = by_cases (has s (slots g.control)) (λ x. x) (λ x. absurd (some_none (sym f ∙ h.blank s x)))

  gives_ok : (a : Option Answer) (s : ℕ) (g : Going) → g.answers s ≡ a → IsUnderway g → Kept g (give_at fs s a g)
  unfolding Kept BlankBut
  gives_ok None s g f h = (h, refl)
  gives_ok (Some a) s g f h = (
    record { fits = it.fits; split = it.split; wakeful = give_wakes fs g.control s a g.world.talk h.wakeful; blank = λ j x. by_cases (nat_eq s j) (λ y. upd_at g.answers s None j y) (λ y. upd_off g.answers s None j y ∙ h.blank j (gone j x y)) },
    it.law g.answers f blank g.world.cells g.world.served,
  )
    where
      at : Turn
      at = give fs g.control s a g.world.talk

      it : IsGiven fs everything g.control s a (without s (slots g.control)) g.world.talk at
      it = given fs g.control everything s a h.fits h.split (waits_here a s g f h) g.world.talk

      gone : (j : ℕ) → has j (slots at.control) ≡ false → nat_eq s j ≡ false → has j (slots g.control) ≡ false
      gone j x y = by_cases (has j (slots g.control)) (λ z. absurd (both_ways (has j (slots at.control)) x (it.others j z y))) (λ z. z)

      blank : (j : ℕ) → has j (without s (slots g.control)) ≡ false → nat_eq s j ≡ false → g.answers j ≡ None
      blank j x y = h.blank j (by_cases (has j (slots g.control)) (λ z. absurd (both_ways (has j (without s (slots g.control))) x (without_keeps s (slots g.control) j z y))) (λ z. z))

  pub step_ok : (e : Event) (g : Going) → IsUnderway g → Kept g (step fs e g)
  step_ok (Serve s) g h = serves_ok (request_at g.control s) (g.answers s) s g refl refl h
  step_ok (Give s) g h = gives_ok (g.answers s) s g refl h

  pub step_underway : (e : Event) (g : Going) → StepsUnderway fs e g
  unfolding Kept
  step_underway e g h = (step_ok e g h).0

  pub steps_ok : (es : List Event) (g : Going) → IsUnderway g → Kept g (steps fs es g)
  unfolding Kept
  steps_ok [] g h = (h, refl)
  steps_ok (e ∷ es) g h =
      let a = step_ok e g h in
      let b = steps_ok es (step fs e g) a.0 in
      (b.0, b.1 ∙ a.1)

  pub started_ok : (t : Text) (w : World) → is_accepted t ≡ true → IsUnderway (started fs t w) × (comes_to fs (started fs t w) ≡ run fs t w)
  unfolding Blank after_talk Goes
  started_ok t w a = (record { fits = it.fits; split = it.split; wakeful = begin_wakes fs (Rest t ∷ []) [] w.talk; blank = λ s h. refl }, it.law (λ s. None) (λ s h. refl) w.cells w.served)
    where
      it : IsStep fs everything [] (begin fs (Rest t ∷ []) [] w.talk) (after_talk fs (λ v. run fs t v) w.talk)
      it = begin_ok fs (Rest t ∷ []) everything [] (accepted_fits t a, tt) w.talk

  pub start_underway : (t : Text) (w : World) → StartsUnderway fs t w
  start_underway t w a = (started_ok t w a).0

  pub comes_to_run : (t : Text) (cells : Cells) (es : List Event) → ComesToRun fs t cells es
  unfolding Kept
  comes_to_run t cells es a =
      let s = started_ok t (begun cells) a in
      (steps_ok es (started fs t (begun cells)) s.0).1 ∙ s.1

  pub ends_as_run : (t : Text) (cells : Cells) (es : List Event) → EndsAsRun fs t cells es
  ends_as_run t cells es a d =
      let g = going fs t cells es in
      sym (ap (λ (c : Control). left fs g.answers c g.world) d) ∙ comes_to_run t cells es a

  -- one step

  pub serves_at : (g : Going) (s : ℕ) (r : Request) → ServesAt fs g s r
  unfolding Kept
  serves_at g s r h e n = subst (ServesOne fs g) (sym at) (record {
    one = fewer (comes_to fs g).served (comes_to fs next).served (ap (λ (w : World). w.served) kept.1) (left_counts fs next.answers next.control next.world kept.0.fits);
    same = kept.1;
    control = refl;
    talk = refl;
  })
    where
      next : Going
      next = serve_at s (Some r) None g

      at : step fs (Serve s) g ≡ next
      at = ap (λ (q : Option Request). serve_at s q (g.answers s) g) e ∙ ap (λ (a : Option Answer). serve_at s (Some r) a g) n

      kept : Kept g next
      kept = serves_ok (Some r) None s g e n h

      fewer : (x y : ℕ) → y ≡ x → g.world.served + 1 ≤ y → x - g.world.served ≡ suc (y - (g.world.served + 1))
      fewer x y p q = omega arith

  pub gives_at : (g : Going) (s : ℕ) (a : Answer) → GivesAt fs g s a
  unfolding Kept
  gives_at g s a h e = subst (GivesOn fs g) (sym at) (record {
    none = ap (λ (w : World). w.served - g.world.served) kept.1;
    same = kept.1;
    control = give_moves fs g.control s a g.world.talk (waits_here a s g e h);
    cells = refl;
    served = refl;
  })
    where
      next : Going
      next = give_at fs s (Some a) g

      at : step fs (Give s) g ≡ next
      at = ap (λ (o : Option Answer). give_at fs s o g) e

      kept : Kept g next
      kept = gives_ok (Some a) s g e h
