-- Well-formed lines that make an accepted text pass the tests.
use Rattle.std.proofs.Common.{◌≡◌, ◌∙◌, ℕ, List, [], ◌∷◌, ◌++◌, map, true, false, refl, sym, ap, subst, append_assoc}
use Rattle.std.specs.Prelude.{not, ◌&&◌}
use Rattle.std.proofs.lemmas.Bool.{and_from, and_parts, both_ways}
use Rattle.std.proofs.lemmas.List.{append-nil}
use Rattle.ax_text.specs.Texts.{Text, Stop, Act, Ask, If, Each, Both}
use Rattle.ax_text.specs.Prints.{Print, quiet_print, asking_print, loop_print, test_print, prints, clash, are_silent, is_apart, are_apart, is_accepted}
use Rattle.ax_text.specs.Rows.{HandlerLine, ActLine, AskLine, IfLine, EachLine, BothLine, SecondLine, EndLine, Level, level, top, below, with_text, levels_of, text_of, Part, Yes', No', Body, One, Two, Wide, wide, raised, closed, turned, block_width, other, has_second, may_follow, follow, Lines, part_ok, row_ok, note, new, turned_lines, all_ok, IsTested}
use Rattle.ax_text.proofs.RowsAccepted.{Silent, ApartFrom, Apart, Accepted, PartGood, Good, not_true, from_tested}

-- the open blocks by their parts, seen in two ways; the handler itself is the outermost of the widths
abbrev SameParts : List Wide → List Lines → Type 0
SameParts [] bs = ⊥
SameParts (w ∷ []) [] = Unit {0}
SameParts (w ∷ []) (b ∷ bs) = ⊥
SameParts (w ∷ v ∷ ws) [] = ⊥
SameParts (w ∷ v ∷ ws) (b ∷ bs) = (w.part ≡ b.part) × SameParts (v ∷ ws) bs

-- where no second part is to come there is none
abbrev NoneToCome : List Lines → List Level → Type 0
NoneToCome [] ls = Unit {0}
NoneToCome (b ∷ bs) ls = (has_second b.part ≡ false → (top ls).second ≡ Stop) × NoneToCome bs (below ls)

-- a text's test, as what it says

silent_from : (ps : List Print) → are_silent ps ≡ true → Silent ps
silent_from [] h = tt
silent_from (p ∷ ps) h =
    let x = and_parts (not p.loud) (are_silent ps) h in
    (not_true p.loud x.0, silent_from ps x.1)

apart_from : (ps qs : List Print) → are_apart ps qs ≡ true → Apart ps qs
apart_from ps [] h = tt
apart_from ps (q ∷ qs) h =
    let x = and_parts (is_apart ps q) (are_apart ps qs) h in
    (from_tested q ps x.0, apart_from ps qs x.1)

accepted_from : (t : Text) → is_accepted t ≡ true → Accepted t
unfolding is_accepted
accepted_from Stop h = tt
accepted_from (Act q t) h = accepted_from t h
accepted_from (Ask a t) h = accepted_from t h
accepted_from (If e a b t) h =
    let x = and_parts (is_accepted a) (is_accepted b && is_accepted t) h in
    let y = and_parts (is_accepted b) (is_accepted t) x.1 in
    (accepted_from a x.0, accepted_from b y.0, accepted_from t y.1)
accepted_from (Each l a t) h =
    let x = and_parts (is_accepted a) (is_accepted t) h in
    (accepted_from a x.0, accepted_from t x.1)
accepted_from (Both a b t) h =
    let x = and_parts (are_silent (prints a) && are_silent (prints b)) (are_apart (prints a) (prints b) && (is_accepted a && (is_accepted b && is_accepted t))) h in
    let q = and_parts (are_silent (prints a)) (are_silent (prints b)) x.0 in
    let y = and_parts (are_apart (prints a) (prints b)) (is_accepted a && (is_accepted b && is_accepted t)) x.1 in
    let u = and_parts (is_accepted a) (is_accepted b && is_accepted t) y.1 in
    let v = and_parts (is_accepted b) (is_accepted t) u.1 in
    (silent_from (prints a) q.0, silent_from (prints b) q.1, apart_from (prints a) (prints b) y.0, accepted_from a u.0, accepted_from b v.0, accepted_from t v.1)

-- the first of the lines to come is one that was

from_back : (p : Print) (hs xs : List Print) (q : Print) → ApartFrom (hs ++ (p ∷ xs)) q → ApartFrom ((p ∷ hs) ++ xs) q
from_back p [] xs q s = s
from_back p (a ∷ hs) xs q s =
    let r : ApartFrom ((p ∷ hs) ++ xs) q = from_back p hs xs q s.1 in
    (r.0, (s.0, r.1))

apart_back : (p : Print) (hs xs qs : List Print) → Apart (hs ++ (p ∷ xs)) qs → Apart ((p ∷ hs) ++ xs) qs
apart_back p hs xs [] s = tt
apart_back p hs xs (q ∷ qs) s = (from_back p hs xs q s.0, apart_back p hs xs qs s.1)

apart_test : (ps : List Print) (q : Print) → ApartFrom ps q → is_apart ps q ≡ true
apart_test [] q h = refl
apart_test (p ∷ ps) q h = and_from (not (clash p q)) (is_apart ps q) (ap not h.0) (apart_test ps q h.1)

part_release : (a : Part) (p : Print) (first this mine second : List Print) → PartGood a first this (p ∷ mine) second → (part_ok a p first ≡ true) × PartGood a first (p ∷ this) mine second
part_release Yes' p first this mine second g = (refl, tt)
part_release No' p first this mine second g = (refl, tt)
part_release Body p first this mine second g = (refl, tt)
part_release One p first this mine second g = (ap not g.0.0, (g.0.1, g.1, apart_back p this mine second g.2))
part_release Two p first this mine second g = (and_from (not p.loud) (is_apart first p) (ap not g.0.0) (apart_test first p g.1.0), (g.0.1, g.1.1))

release : (bs : List Lines) (p : Print) (ls : List Level) (inner : List Print) → Good bs ls (p ∷ inner) → (row_ok p bs ≡ true) × Good (map (note p) bs) ls inner
release [] p ls inner g = (refl, g)
release (b ∷ bs) p ls inner g =
    let part = part_release b.part p b.first b.this (inner ++ prints (top ls).text) (prints (top ls).second) g.2 in
    let outer = release bs p (below ls) (inner ++ (prints (top ls).text ++ prints (top ls).second)) g.3 in
    (and_from (part_ok b.part p b.first) (row_ok p bs) part.0 outer.0, (g.0, g.1, part.1, outer.1))

-- a text's lines are the lines within and the text behind them
leave : (bs : List Lines) (ls : List Level) (inner : List Print) (x : Text) → Good bs (with_text x ls) [] → (Accepted x → Accepted (top ls).text) → prints x ≡ inner ++ prints (top ls).text → Good bs ls inner
leave [] ls inner x g a e = a g
leave (b ∷ bs) ls inner x g a e =
    let P : List Print → Type 0 = λ ps. PartGood b.part b.first b.this ps (prints (top ls).second) in
    let Q : List Print → Type 0 = λ ps. Good bs (below ls) ps in (
      a g.0,
      g.1,
      subst P e g.2,
      subst Q (ap (λ (ps : List Print). ps ++ prints (top ls).second) e ∙ append_assoc inner (prints (top ls).text) (prints (top ls).second)) g.3,
    )

line_accepted : (bs : List Lines) (x : Text) (ls : List Level) → Good bs (with_text x ls) [] → Accepted x
line_accepted [] x ls g = g
line_accepted (b ∷ bs) x ls g = g.0

-- parts and what is to come, line by line

raised_parts : (n : ℕ) (ws : List Wide) (bs : List Lines) → SameParts ws bs → SameParts (raised n ws) bs
raised_parts n [] bs s = s
raised_parts n (w ∷ []) [] s = tt
raised_parts n (w ∷ []) (b ∷ bs) s = s
raised_parts n (w ∷ v ∷ ws) [] s = s
raised_parts n (w ∷ v ∷ ws) (b ∷ bs) s = s

noted_parts : (p : Print) (ws : List Wide) (bs : List Lines) → SameParts ws bs → SameParts ws (map (note p) bs)
noted_parts p [] bs s = absurd s
noted_parts p (w ∷ []) [] s = tt
noted_parts p (w ∷ []) (b ∷ bs) s = absurd s
noted_parts p (w ∷ v ∷ ws) [] s = absurd s
noted_parts p (w ∷ v ∷ ws) (b ∷ bs) s = (s.0, noted_parts p (v ∷ ws) bs s.1)

opened_parts : (a : Part) (first now : ℕ) (ws : List Wide) (bs : List Lines) → SameParts ws bs → SameParts (wide a first now ∷ ws) (new a ∷ bs)
opened_parts a first now [] bs s = absurd s
opened_parts a first now (w ∷ ws) bs s = (refl, s)

text_none : (bs : List Lines) (ls : List Level) (x : Text) → NoneToCome bs ls → NoneToCome bs (with_text x ls)
text_none [] ls x n = tt
text_none (b ∷ bs) ls x n = n

nothing_to_come : (bs : List Lines) → NoneToCome bs []
nothing_to_come [] = tt
nothing_to_come (b ∷ bs) = (λ h. refl, nothing_to_come bs)

coming : (rs : List HandlerLine) (ws : List Wide) (bs : List Lines) → follow rs ws ≡ true → SameParts ws bs → NoneToCome bs (levels_of rs)
coming [] ws bs h s = nothing_to_come bs
coming (ActLine q ∷ rs) ws bs h s = text_none bs (levels_of rs) (Act q (top (levels_of rs)).text) (coming rs ws bs (and_parts (may_follow (ActLine q) ws) (follow rs ws) h).1 s)
coming (AskLine a ∷ rs) ws bs h s =
    text_none bs (levels_of rs) (Ask a (top (levels_of rs)).text) (coming rs (raised 1 ws) bs (and_parts (may_follow (AskLine a) ws) (follow rs (raised 1 ws)) h).1 (raised_parts 1 ws bs s))
coming (IfLine e ∷ rs) ws bs h s =
    let ls : List Level = levels_of rs in
    text_none bs (below ls) (If e (top ls).text (top ls).second (top (below ls)).text)
    (coming rs (wide Yes' 0 0 ∷ ws) (new Yes' ∷ bs) (and_parts (may_follow (IfLine e) ws) (follow rs (wide Yes' 0 0 ∷ ws)) h).1 (opened_parts Yes' 0 0 ws bs s)).1
coming (EachLine l ∷ rs) ws bs h s =
    let ls : List Level = levels_of rs in
    text_none bs (below ls) (Each l (top ls).text (top (below ls)).text)
    (coming rs (wide Body 0 1 ∷ ws) (new Body ∷ bs) (and_parts (may_follow (EachLine l) ws) (follow rs (wide Body 0 1 ∷ ws)) h).1 (opened_parts Body 0 1 ws bs s)).1
coming (BothLine ∷ rs) ws bs h s =
    let ls : List Level = levels_of rs in
    text_none bs (below ls) (Both (top ls).text (top ls).second (top (below ls)).text)
    (coming rs (wide One 0 0 ∷ ws) (new One ∷ bs) (and_parts (may_follow BothLine ws) (follow rs (wide One 0 0 ∷ ws)) h).1 (opened_parts One 0 0 ws bs s)).1
coming (SecondLine ∷ rs) [] bs h s = absurd s
coming (SecondLine ∷ rs) (w ∷ []) [] h s = tt
coming (SecondLine ∷ rs) (w ∷ []) (b ∷ bs) h s = absurd s
coming (SecondLine ∷ rs) (w ∷ v ∷ ws) [] h s = absurd s
coming (SecondLine ∷ rs) (w ∷ v ∷ ws) (b ∷ bs) h s =
    let x = and_parts (has_second w.part) (follow rs (turned (w ∷ v ∷ ws))) h in
    (λ n. absurd (both_ways (has_second b.part) n (ap has_second (sym s.0) ∙ x.0)), (coming rs (turned (w ∷ v ∷ ws)) (turned_lines (b ∷ bs)) x.1 (ap other s.0, s.1)).1)
coming (EndLine ∷ rs) [] bs h s = absurd s
coming (EndLine ∷ rs) (w ∷ []) [] h s = tt
coming (EndLine ∷ rs) (w ∷ []) (b ∷ bs) h s = absurd s
coming (EndLine ∷ rs) (w ∷ v ∷ ws) [] h s = absurd s
coming (EndLine ∷ rs) (w ∷ v ∷ ws) (b ∷ bs) h s = (λ n. refl, coming rs (closed (w ∷ v ∷ ws)) bs h (raised_parts (block_width w.part w.first w.now) (v ∷ ws) bs s.1))

second_comes_once : (a : Part) → has_second (other a) ≡ false
second_comes_once Yes' = refl
second_comes_once No' = refl
second_comes_once Body = refl
second_comes_once One = refl
second_comes_once Two = refl

part_turns : (a : Part) (first this mine : List Print) → has_second a ≡ true → PartGood a first this [] mine → PartGood (other a) this [] mine []
part_turns Yes' first this mine h g = tt
part_turns No' first this mine h g = tt
part_turns Body first this mine h g = tt
part_turns One first this mine h g = let P : List Print → Type 0 = λ ps. Apart ps mine in (g.1, subst P (append-nil this) g.2)
part_turns Two first this mine h g = absurd (both_ways false refl h)

-- where a second part is none, what is said of it and of the lines around is easily so
turns : (b : Lines) (bs : List Lines) (ls : List Level) → has_second b.part ≡ true → (top ls).second ≡ Stop → Good (b ∷ bs) (level Stop (top ls).text ∷ below ls) [] → Good (turned_lines (b ∷ bs)) ls []
turns b bs ls two e g =
    let t : List Print = prints (top ls).text in
    let P : Text → Type 0 = λ x. PartGood (other b.part) b.this [] t (prints x) in
    let Q : Text → Type 0 = λ x. Good bs (below ls) (t ++ prints x) in
    let R : List Print → Type 0 = λ ps. Good bs (below ls) ps in
    (g.1, subst Accepted (sym e) tt, subst P (sym e) (part_turns b.part b.first b.this t two g.2), subst Q (sym e) (subst R (sym (append-nil t)) g.3))

tested_in : (rs : List HandlerLine) (ws : List Wide) (bs : List Lines) → follow rs ws ≡ true → SameParts ws bs → Good bs (levels_of rs) [] → all_ok rs bs ≡ true
tested_in [] ws bs h s g = refl
tested_in (ActLine q ∷ rs) ws bs h s g =
    let p : Print = quiet_print q in
    let ls : List Level = levels_of rs in
    let r = release bs p ls [] (leave bs ls (p ∷ []) (Act q (top ls).text) g (λ a. a) refl) in
    and_from (row_ok p bs) (all_ok rs (map (note p) bs)) r.0
    (tested_in rs ws (map (note p) bs) (and_parts (may_follow (ActLine q) ws) (follow rs ws) h).1 (noted_parts p ws bs s) r.1)
tested_in (AskLine a ∷ rs) ws bs h s g =
    let p : Print = asking_print a in
    let ls : List Level = levels_of rs in
    let r = release bs p ls [] (leave bs ls (p ∷ []) (Ask a (top ls).text) g (λ x. x) refl) in
    and_from (row_ok p bs) (all_ok rs (map (note p) bs)) r.0
    (tested_in rs (raised 1 ws) (map (note p) bs) (and_parts (may_follow (AskLine a) ws) (follow rs (raised 1 ws)) h).1 (noted_parts p (raised 1 ws) bs (raised_parts 1 ws bs s)) r.1)
tested_in (IfLine e ∷ rs) ws bs h s g =
    let p : Print = test_print e in
    let ls : List Level = levels_of rs in
    let a : List Print = prints (top ls).text in
    let b : List Print = prints (top ls).second in
    let t : Text = If e (top ls).text (top ls).second (top (below ls)).text in
    let within : Good bs (below ls) (p ∷ (a ++ b)) = leave bs (below ls) (p ∷ (a ++ b)) t g (λ x. x.2) (ap (λ (ps : List Print). p ∷ ps) (sym (append_assoc a b (prints (top (below ls)).text)))) in
    let r = release bs p (below ls) (a ++ b) within in
    let x = line_accepted bs t (below ls) g in
    and_from (row_ok p bs) (all_ok rs (new Yes' ∷ map (note p) bs)) r.0
    (tested_in rs (wide Yes' 0 0 ∷ ws) (new Yes' ∷ map (note p) bs) (and_parts (may_follow (IfLine e) ws) (follow rs (wide Yes' 0 0 ∷ ws)) h).1
    (opened_parts Yes' 0 0 ws (map (note p) bs) (noted_parts p ws bs s)) (x.0, x.1, tt, r.1))
tested_in (EachLine l ∷ rs) ws bs h s g =
    let p : Print = loop_print l in
    let ls : List Level = levels_of rs in
    let a : List Print = prints (top ls).text in
    let t : Text = Each l (top ls).text (top (below ls)).text in
    let inner : List Lines = map (note p) bs in
    let r = release bs p (below ls) a (leave bs (below ls) (p ∷ a) t g (λ x. x.1) refl) in
    let x = line_accepted bs t (below ls) g in
    let more : follow rs (wide Body 0 1 ∷ ws) ≡ true = (and_parts (may_follow (EachLine l) ws) (follow rs (wide Body 0 1 ∷ ws)) h).1 in
    let parts : SameParts (wide Body 0 1 ∷ ws) (new Body ∷ inner) = opened_parts Body 0 1 ws inner (noted_parts p ws bs s) in
    let none : (top ls).second ≡ Stop = (coming rs (wide Body 0 1 ∷ ws) (new Body ∷ inner) more parts).0 refl in
    let Q : Text → Type 0 = λ y. Good inner (below ls) (a ++ prints y) in
    let R : List Print → Type 0 = λ ps. Good inner (below ls) ps in
    and_from (row_ok p bs) (all_ok rs (new Body ∷ inner)) r.0
    (tested_in rs (wide Body 0 1 ∷ ws) (new Body ∷ inner) more parts (x.0, subst Accepted (sym none) tt, tt, subst Q (sym none) (subst R (sym (append-nil a)) r.1)))
tested_in (BothLine ∷ rs) ws bs h s g =
    let ls : List Level = levels_of rs in
    let a : List Print = prints (top ls).text in
    let b : List Print = prints (top ls).second in
    let t : Text = Both (top ls).text (top ls).second (top (below ls)).text in
    let x = line_accepted bs t (below ls) g in
    tested_in rs (wide One 0 0 ∷ ws) (new One ∷ bs) (and_parts (may_follow BothLine ws) (follow rs (wide One 0 0 ∷ ws)) h).1 (opened_parts One 0 0 ws bs s)
    (x.3, x.4, (x.0, x.1, x.2), leave bs (below ls) (a ++ b) t g (λ y. y.5) (sym (append_assoc a b (prints (top (below ls)).text))))
tested_in (SecondLine ∷ rs) [] bs h s g = absurd s
tested_in (SecondLine ∷ rs) (w ∷ []) bs h s g = absurd (both_ways false refl h)
tested_in (SecondLine ∷ rs) (w ∷ v ∷ ws) [] h s g = absurd s
tested_in (SecondLine ∷ rs) (w ∷ v ∷ ws) (b ∷ bs) h s g =
    let x = and_parts (has_second w.part) (follow rs (turned (w ∷ v ∷ ws))) h in
    let parts : SameParts (turned (w ∷ v ∷ ws)) (turned_lines (b ∷ bs)) = (ap other s.0, s.1) in
    let none : (top (levels_of rs)).second ≡ Stop = (coming rs (turned (w ∷ v ∷ ws)) (turned_lines (b ∷ bs)) x.1 parts).0 (second_comes_once b.part) in
    tested_in rs (turned (w ∷ v ∷ ws)) (turned_lines (b ∷ bs)) x.1 parts (turns b bs (levels_of rs) (ap has_second (sym s.0) ∙ x.0) none g)
tested_in (EndLine ∷ rs) [] bs h s g = absurd s
tested_in (EndLine ∷ rs) (w ∷ []) bs h s g = absurd (both_ways false refl h)
tested_in (EndLine ∷ rs) (w ∷ v ∷ ws) [] h s g = absurd s
tested_in (EndLine ∷ rs) (w ∷ v ∷ ws) (b ∷ bs) h s g = tested_in rs (closed (w ∷ v ∷ ws)) bs h (raised_parts (block_width w.part w.first w.now) (v ∷ ws) bs s.1) g.3

pub tested : (rows : List HandlerLine) → IsTested rows
unfolding text_of
tested rows h a = tested_in rows (wide Body 0 0 ∷ []) [] h tt (accepted_from (top (levels_of rows)).text a)
