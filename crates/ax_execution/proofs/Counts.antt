-- How many answers are served and not delivered: serving makes it one more, and giving one fewer.
use Rattle.std.proofs.Common.{◌≡◌, ℕ, suc, ◌+◌, List, [], ◌∷◌, ◌++◌, Bool, true, false, ◌&&◌, nat_eq, if◌then◌else◌, refl, sym, ap, ap₂, ◌∙◌, arith, Option, Some, None, ⊎_elim}
use Rattle.std.proofs.lemmas.Bool.{and_parts, both_ways, eqb-true, eq-eqb}
use Rattle.ax_text.specs.declared.vocabulary.Request.{Request}
use Rattle.ax_text.specs.declared.vocabulary.Answer.{Answer}
use Rattle.ax_text.specs.Functions.{upd}
use Rattle.ax_text.specs.Exprs.{Facts}
use Rattle.ax_text.specs.Run.{Talk}
use Rattle.ax_text.specs.Prints.{has}
use Rattle.ax_text.specs.Controls.{Cursor, Control, Done, Wait, Arms, Ask' as Asked, Turn, Answers, slots, is_done, also, joined, begin, resume, give_in, without, give, request_at}
use Rattle.ax_text.specs.Footprints.{Footprint, ControlFits}
use Rattle.ax_text.specs.Sound.{Split}
use Rattle.ax_text.proofs.Keeps.{by_cases}
use Rattle.ax_text.proofs.Steps.{upd_at, upd_off, mem_one, mem_two, mem_either, without_keeps, begin_ok, resume_ok, Goes}
use Rattle.ax_execution.specs.Rest.{one_if, served_at}

none_some : {A : Type 0} {x : A} → None ≡ Some x → ⊥
none_some h = cc h

served_append : (answers : Answers) (xs ys : List ℕ) → served_at answers (xs ++ ys) ≡ served_at answers xs + served_at answers ys
served_append answers [] ys = omega arith
served_append answers (x ∷ xs) ys = omega (arith, served_append answers xs ys)

-- what stands at another slot isn't counted
served_off : (answers : Answers) (s : ℕ) (o : Option Answer) (xs : List ℕ) → has s xs ≡ false → served_at (upd answers s o) xs ≡ served_at answers xs
served_off answers s o [] h = refl
served_off answers s o (x ∷ xs) h = by_cases (nat_eq s x)
    (λ e. absurd (both_ways true (rw e at h) refl))
    (λ e. ap₂ (λ (a : Option Answer) (n : ℕ). one_if a + n) (upd_off answers s o x e) (served_off answers s o xs (rw e at h)))

served_none : (answers : Answers) (xs : List ℕ) → ((s : ℕ) → has s xs ≡ true → answers s ≡ None) → served_at answers xs ≡ 0
served_none answers [] h = refl
served_none answers (x ∷ xs) h = ap₂ (λ (a : Option Answer) (n : ℕ). one_if a + n) (h x (rw (eq-eqb x x refl) refl)) (served_none answers xs (λ s m. h s (mem_two s (x ∷ []) xs m)))

pub serve_counts : (c : Control) (answers : Answers) (slot : ℕ) (q : Request) (a : Answer) → Split c → request_at c slot ≡ Some q → answers slot ≡ None
    → served_at (upd answers slot (Some a)) (slots c) ≡ suc (served_at answers (slots c))
unfolding Split
serve_counts Done answers slot q a d e h = absurd (none_some e)
serve_counts (Wait s r n k) answers slot q a d e h = by_cases (nat_eq slot s)
    (λ x. ap (λ (o : Option Answer). one_if o + 0) (upd_at answers slot (Some a) s x) ∙ ap (λ (o : Option Answer). suc (one_if o + 0)) (sym (ap answers (sym (eqb-true slot s x)) ∙ h)))
    (λ x. absurd (none_some (rw x at e)))
serve_counts (Arms one two k) answers slot q a d e h = by_cases (has slot (slots one))
    (λ x. omega (arith, front, behind, serve_counts one answers slot q a d.1 (rw x at e) h, served_off answers slot (Some a) (slots two) (d.0 slot x)))
    (λ x. omega (arith, front, behind, serve_counts two answers slot q a d.2 (rw x at e) h, served_off answers slot (Some a) (slots one) x))
  where
    front : served_at answers (slots one ++ slots two) ≡ served_at answers (slots one) + served_at answers (slots two)
    front = served_append answers (slots one) (slots two)

    behind : served_at (upd answers slot (Some a)) (slots one ++ slots two) ≡ served_at (upd answers slot (Some a)) (slots one) + served_at (upd answers slot (Some a)) (slots two)
    behind = served_append (upd answers slot (Some a)) (slots one) (slots two)

done_none : (answers : Answers) (c : Control) → is_done c ≡ true → served_at answers (slots c) ≡ 0
done_none answers Done h = refl
done_none answers (Wait s r n k) h = absurd (cc h)
done_none answers (Arms one two k) h = absurd (cc h)

joined_counts : (answers : Answers) (one two : Control) (asks : List Asked) (k : Cursor) (go : Talk → Turn) (t : Talk) → served_at answers (slots (go t).control) ≡ 0
    → served_at answers (slots (joined one two asks k go t).control) ≡ served_at answers (slots one) + served_at answers (slots two)
joined_counts answers one two asks k go t g = of (is_done one && is_done two) refl where
  of : (b : Bool) → (is_done one && is_done two) ≡ b
      → served_at answers (slots (if b then also asks (go t) else record { control = Arms one two k; talk = t; asks = asks }).control) ≡ served_at answers (slots one) + served_at answers (slots two)
  of true e =
      let d = and_parts (is_done one) (is_done two) e in
      omega (arith, g, done_none answers one d.0, done_none answers two d.1)
  of false e = served_append answers (slots one) (slots two)

module _ (f : Facts) (s : ℕ) (a : Answer) (used : List ℕ) (answers : Answers) (here : answers s ≡ Some a) (blank : (j : ℕ) → has j used ≡ false → nat_eq s j ≡ false → answers j ≡ None) where
  cleared : Answers
  cleared = upd answers s None

  cleared_blank : (j : ℕ) → has j used ≡ false → cleared j ≡ None
  unfolding cleared
  cleared_blank j h = by_cases (nat_eq s j) (λ x. upd_at answers s None j x) (λ x. upd_off answers s None j x ∙ blank j h x)

  give_in_counts : (c : Control) (F : Footprint) → ControlFits c F → Split c → has s (slots c) ≡ true → ((j : ℕ) → has j (slots c) ≡ true → nat_eq s j ≡ false → has j used ≡ true) → (t : Talk)
      → suc (served_at (upd answers s None) (slots (give_in f c s a used t).control)) ≡ served_at answers (slots c)
  unfolding Split Goes cleared
  give_in_counts Done F h d m o t = absurd (both_ways false refl m)
  give_in_counts (Wait s' r n k) F h d m o t = by_cases (nat_eq s s')
      (λ x.
      let new : served_at (upd answers s None) (slots (resume f n a k used t).control) ≡ 0 = served_none (upd answers s None) (slots (resume f n a k used t).control) (λ j y. cleared_blank j ((resume_ok f n a k F used h.1 h.2 t).unused j y)) in
      ap suc new ∙ ap (λ (o : Option Answer). one_if o + 0) (sym (ap answers (sym (eqb-true s s' x)) ∙ here)))
      (λ x. absurd (both_ways false refl (rw x at m)))
  give_in_counts (Arms one two k) F h d m o t = of (has s (slots one)) refl
      (λ x. give_in_counts one h.0 h.3 d.1 x (λ j y z. o j (mem_one j (slots one) (slots two) y) z) t)
      (λ x. give_in_counts two h.1 h.4 d.2 x (λ j y z. o j (mem_two j (slots one) (slots two) y) z) t)
    where
      it : Turn
      it = give_in f one s a used t

      at : Turn
      at = give_in f two s a used t

      left : Answers
      left = upd answers s None

      new : (u : Talk) → served_at left (slots (begin f k used u).control) ≡ 0
      new u = served_none left (slots (begin f k used u).control) (λ j y. cleared_blank j ((begin_ok f k F used h.5 u).unused j y))

      before : served_at answers (slots one ++ slots two) ≡ served_at answers (slots one) + served_at answers (slots two)
      before = served_append answers (slots one) (slots two)

      of : (b : Bool) → has s (slots one) ≡ b → (has s (slots one) ≡ true → suc (served_at left (slots it.control)) ≡ served_at answers (slots one))
          → (has s (slots two) ≡ true → suc (served_at left (slots at.control)) ≡ served_at answers (slots two))
          → suc (served_at left (slots (if b then joined it.control two it.asks k (begin f k used) it.talk else joined one at.control at.asks k (begin f k used) at.talk).control)) ≡ served_at answers (slots one ++ slots two)
      of true x p q = omega (arith, before, p x, joined_counts left it.control two it.asks k (begin f k used) it.talk (new it.talk), served_off answers s None (slots two) (d.0 s x))
      of false x p q = omega (arith, before, q in_two, joined_counts left one at.control at.asks k (begin f k used) at.talk (new at.talk), served_off answers s None (slots one) x)
        where
          in_two : has s (slots two) ≡ true
          in_two = ⊎_elim (λ y. absurd (both_ways (has s (slots one)) x y)) (λ y. y) (mem_either s (slots one) (slots two) m)

pub give_counts : (f : Facts) (c : Control) (F : Footprint) (answers : Answers) (s : ℕ) (a : Answer) (t : Talk) → ControlFits c F → Split c → has s (slots c) ≡ true → answers s ≡ Some a
    → ((j : ℕ) → has j (slots c) ≡ false → answers j ≡ None) → suc (served_at (upd answers s None) (slots (give f c s a t).control)) ≡ served_at answers (slots c)
unfolding give
give_counts f c F answers s a t h d m here blank =
    give_in_counts f s a (without s (slots c)) answers here
    (λ j x y. blank j (by_cases (has j (slots c)) (λ z. absurd (both_ways (has j (without s (slots c))) x (without_keeps s (slots c) j z y))) (λ z. z)))
    c F h d m (λ j x z. without_keeps s (slots c) j x z) t
