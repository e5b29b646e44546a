-- What stands at the places of a table of steps, and a table with one step more.
use Rattle.std.proofs.Common.{◌≡◌, ◌∙◌, ℕ, zero, suc, ◌+◌, ◌≤◌, ◌<◌, List, [], ◌∷◌, ◌++◌, length, get_or, refl, sym, ap, arith, length-append, true, ◌&&◌, nat_le}
use Rattle.std.proofs.lemmas.Bool.{and_parts, and_from, le-leb, leb-true}
use Rattle.ax_text.specs.declared.vocabulary.Kind.{Kind}
use Rattle.ax_text.specs.Texts.{Text, Stop, Act, Ask}
use Rattle.ax_lang.specs.declared.step.Step.{Step}
use Rattle.ax_lang.specs.Forms.{Form, Acts, Asks, Branches, Repeats, Splits, form_of, text_with, form_top, top_of}
use Rattle.ax_lang.specs.Steps.{stmt_fits, text_in, texts_from, text_at, steps_fit}

pub text_more : (xs ys : List Text) (p : ℕ) → p ≤ length xs → text_in (xs ++ ys) p ≡ text_in xs p
text_more xs ys zero h = refl
text_more [] ys (suc i) h = absurd (omega arith)
text_more (x ∷ xs) ys (suc zero) h = refl
text_more (x ∷ xs) ys (suc (suc i)) h = text_more xs ys (suc i) (omega arith)

text_last : (xs : List Text) (x : Text) → text_in (xs ++ x ∷ []) (suc (length xs)) ≡ x
text_last [] x = refl
text_last (y ∷ xs) x = text_last xs x

-- the texts so far stay
texts_stay : (ss : List Step) (xs : List Text) (p : ℕ) → p ≤ length xs → text_in (texts_from xs ss) p ≡ text_in xs p
texts_stay [] xs p h = refl
texts_stay (s ∷ ss) xs p h =
    let x = text_with (text_in xs) (form_of s.stmt) s.next in
    let e : length (xs ++ x ∷ []) ≡ length xs + 1 = length-append xs (x ∷ []) in
    texts_stay ss (xs ++ x ∷ []) p (omega arith) ∙ text_more xs (x ∷ []) p h

-- a statement's text depends on the texts of the places that it names
text_same : (at to : ℕ → Text) (form : Form) (next n : ℕ) → next ≤ n → form_top form ≤ n → ((p : ℕ) → p ≤ n → at p ≡ to p) → text_with at form next ≡ text_with to form next
text_same at to (Acts q) next n h k e = ap (Act q) (e next h)
text_same at to (Asks a) next n h k e = ap (Ask a) (e next h)
text_same at to (Branches x one other) next n h k e = cc (e one (omega arith), e other (omega arith), e next h)
text_same at to (Repeats l body) next n h k e = cc (e body k, e next h)
text_same at to (Splits one two) next n h k e = cc (e one (omega arith), e two (omega arith), e next h)

fits_here : (fields locals n : ℕ) (ks : List Kind) (s : Step) (ss : List Step) → steps_fit fields locals ks n (s ∷ ss) ≡ true
    → (top_of s ≤ n) × (stmt_fits fields locals ks s.stmt ≡ true) × (steps_fit fields locals ks (suc n) ss ≡ true)
fits_here fields locals n ks s ss h =
    let a = and_parts (nat_le (top_of s) n && stmt_fits fields locals ks s.stmt) (steps_fit fields locals ks (suc n) ss) h in
    let b = and_parts (nat_le (top_of s) n) (stmt_fits fields locals ks s.stmt) a.0 in
    (leb-true (top_of s) n b.0, b.1, a.1)

-- a step's text is its statement over the texts of the places that it names
pub step_stands : (ss : List Step) (xs : List Text) (fields locals n : ℕ) (ks : List Kind) (i q : ℕ) (d : Step) → n ≡ length xs → q ≡ n + i → steps_fit fields locals ks n ss ≡ true → i < length ss
    → (text_in (texts_from xs ss) (suc q) ≡ text_with (text_in (texts_from xs ss)) (form_of (get_or ss i d).stmt) (get_or ss i d).next) × (top_of (get_or ss i d) ≤ q) × (stmt_fits fields locals ks (get_or ss i d).stmt ≡ true)
step_stands [] xs fields locals n ks i q d m w f h = absurd (omega arith)
step_stands (s ∷ ss) xs fields locals n ks zero q d m w f h =
    let x : Text = text_with (text_in xs) (form_of s.stmt) s.next in
    let ys : List Text = xs ++ x ∷ [] in
    let e : length ys ≡ length xs + 1 = length-append xs (x ∷ []) in
    let g = fits_here fields locals n ks s ss f in
    let low : top_of s ≤ n = g.0 in
    let here : suc q ≡ suc (length xs) = omega arith in (
      ap (λ (p : ℕ). text_in (texts_from ys ss) p) here ∙ (texts_stay ss ys (suc (length xs)) (omega arith) ∙ (text_last xs x
          ∙ text_same (text_in xs) (text_in (texts_from ys ss)) (form_of s.stmt) s.next (length xs) (omega arith) (omega arith)
          (λ p k. sym (texts_stay ss ys p (omega arith) ∙ text_more xs (x ∷ []) p k)))),
      omega arith,
      g.1,
    )
step_stands (s ∷ ss) xs fields locals n ks (suc i) q d m w f h =
    let x : Text = text_with (text_in xs) (form_of s.stmt) s.next in
    let ys : List Text = xs ++ x ∷ [] in
    let e : length ys ≡ length xs + 1 = length-append xs (x ∷ []) in
    step_stands ss ys fields locals (suc n) ks i q d (omega arith) (omega arith) (fits_here fields locals n ks s ss f).2 (omega arith)

-- past the last place nothing stands
pub nothing_past : (ts : List Text) (i : ℕ) → length ts ≤ i → text_in ts (suc i) ≡ Stop
nothing_past [] i h = refl
nothing_past (t ∷ ts) zero h = absurd (omega arith)
nothing_past (t ∷ ts) (suc i) h = nothing_past ts i (omega arith)

pub texts_length : (ss : List Step) (xs : List Text) → length (texts_from xs ss) ≡ length xs + length ss
texts_length [] xs = omega arith
texts_length (s ∷ ss) xs =
    let x : Text = text_with (text_in xs) (form_of s.stmt) s.next in
    let e : length (xs ++ x ∷ []) ≡ length xs + 1 = length-append xs (x ∷ []) in
    texts_length ss (xs ++ x ∷ []) ∙ omega arith

-- one step more

texts_last : (ss : List Step) (xs : List Text) (s : Step) → texts_from xs (ss ++ s ∷ []) ≡ texts_from xs ss ++ text_with (text_in (texts_from xs ss)) (form_of s.stmt) s.next ∷ []
texts_last [] xs s = refl
texts_last (r ∷ ss) xs s = texts_last ss (xs ++ text_with (text_in xs) (form_of r.stmt) r.next ∷ []) s

pub text_pushed : (ss : List Step) (s : Step) → text_at (ss ++ s ∷ []) (suc (length ss)) ≡ text_with (text_at ss) (form_of s.stmt) s.next
unfolding text_at
text_pushed ss s =
    let ts = texts_from [] ss in
    let f : length ts ≡ length ss = texts_length ss [] ∙ omega arith in
    let e : length ss ≡ length ts = omega arith in
    ap (λ (n : ℕ). text_in (texts_from [] (ss ++ s ∷ [])) (suc n)) e
    ∙ (ap (λ (us : List Text). text_in us (suc (length ts))) (texts_last ss [] s) ∙ text_last ts _)

-- what stands at the places so far stays
pub text_kept : (ss : List Step) (s : Step) (p : ℕ) → p ≤ length ss → text_at (ss ++ s ∷ []) p ≡ text_at ss p
unfolding text_at
text_kept ss s p h =
    let ts = texts_from [] ss in
    let e : length ts ≡ length ss = texts_length ss [] ∙ omega arith in
    ap (λ (us : List Text). text_in us p) (texts_last ss [] s) ∙ text_more ts _ p (omega arith)

pub text_end : (ss : List Step) → text_at ss 0 ≡ Stop
unfolding text_at
text_end ss = refl

pub fits_pushed : (ss : List Step) (s : Step) (fields locals n : ℕ) (ks : List Kind) → steps_fit fields locals ks n ss ≡ true → top_of s ≤ n + length ss → stmt_fits fields locals ks s.stmt ≡ true → steps_fit fields locals ks n (ss ++ s ∷ []) ≡ true
fits_pushed [] s fields locals n ks f h g = and_from (nat_le (top_of s) n && stmt_fits fields locals ks s.stmt) true (and_from (nat_le (top_of s) n) (stmt_fits fields locals ks s.stmt) (le-leb (top_of s) n (omega arith)) g) refl
fits_pushed (r ∷ ss) s fields locals n ks f h g =
    let a = and_parts (nat_le (top_of r) n && stmt_fits fields locals ks r.stmt) (steps_fit fields locals ks (suc n) ss) f in
    and_from (nat_le (top_of r) n && stmt_fits fields locals ks r.stmt) (steps_fit fields locals ks (suc n) (ss ++ s ∷ [])) a.0 (fits_pushed ss s fields locals (suc n) ks a.1 (omega arith) g)
