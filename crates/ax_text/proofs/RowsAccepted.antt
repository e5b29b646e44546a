-- Lines that pass the tests make an accepted text.
use Rattle.std.proofs.Common.{◌≡◌, ◌∙◌, List, [], ◌∷◌, ◌++◌, map, Bool, true, false, refl, sym, ap, subst, append_assoc}
use Rattle.std.specs.Prelude.{not, ◌&&◌}
use Rattle.std.proofs.lemmas.Bool.{and_from}
use Rattle.std.proofs.lemmas.List.{append-nil}
use Rattle.ax_text.specs.Texts.{Text, Stop, Act, Ask, If, Each, Both}
use Rattle.ax_text.specs.Prints.{Print, quiet_print, asking_print, loop_print, test_print, prints, clash, are_silent, is_apart, are_apart, is_accepted}
use Rattle.ax_text.specs.Rows.{HandlerLine, ActLine, AskLine, IfLine, EachLine, BothLine, SecondLine, EndLine, Level, level, top, below, with_text, levels_of, text_of, Part, Yes', No', Body, One, Two, Lines, part_ok, row_ok, note, new, other, turned_lines, closed_lines, all_ok, IsAccepted}

abbrev pub Silent : List Print → Type 0
Silent [] = Unit {0}
Silent (p ∷ ps) = (p.loud ≡ false) × Silent ps

abbrev pub ApartFrom : List Print → Print → Type 0
ApartFrom [] q = Unit {0}
ApartFrom (p ∷ ps) q = (clash p q ≡ false) × ApartFrom ps q

abbrev pub Apart : List Print → List Print → Type 0
Apart ps [] = Unit {0}
Apart ps (q ∷ qs) = ApartFrom ps q × Apart ps qs

abbrev pub Accepted : Text → Type 0
Accepted Stop = Unit {0}
Accepted (Act q t) = Accepted t
Accepted (Ask a t) = Accepted t
Accepted (If e a b t) = Accepted a × Accepted b × Accepted t
Accepted (Each l a t) = Accepted a × Accepted t
Accepted (Both a b t) = Silent (prints a) × Silent (prints b) × Apart (prints a) (prints b) × Accepted a × Accepted b × Accepted t

-- what a block asks of the lines to come: those of its part, and those of its second part
abbrev pub PartGood : Part → List Print → List Print → List Print → List Print → Type 0
PartGood Yes' first this mine second = Unit {0}
PartGood No' first this mine second = Unit {0}
PartGood Body first this mine second = Unit {0}
PartGood One first this mine second = Silent mine × Silent second × Apart (this ++ mine) second
PartGood Two first this mine second = Silent mine × Apart first mine

-- inner: the lines to come of the blocks within
abbrev pub Good : List Lines → List Level → List Print → Type 0
Good [] ls inner = Accepted (top ls).text
Good (b ∷ bs) ls inner = Accepted (top ls).text × Accepted (top ls).second × PartGood b.part b.first b.this (inner ++ prints (top ls).text) (prints (top ls).second)
    × Good bs (below ls) (inner ++ (prints (top ls).text ++ prints (top ls).second))

pub and_left : (a b : Bool) → a && b ≡ true → a ≡ true
and_left true b h = refl
and_left false b h = cc

pub and_right : (a b : Bool) → a && b ≡ true → b ≡ true
and_right true b h = h
and_right false b h = cc

pub not_true : (a : Bool) → not a ≡ true → a ≡ false
not_true true h = cc
not_true false h = refl

-- lists of lines

silent_skip : (xs ys zs : List Print) → Silent ((xs ++ ys) ++ zs) → Silent (xs ++ zs)
silent_skip [] [] zs s = s
silent_skip [] (y ∷ ys) zs s = silent_skip [] ys zs s.1
silent_skip (x ∷ xs) ys zs s = (s.0, silent_skip xs ys zs s.1)

apart_skip_right : (ps xs ys zs : List Print) → Apart ps ((xs ++ ys) ++ zs) → Apart ps (xs ++ zs)
apart_skip_right ps [] [] zs s = s
apart_skip_right ps [] (y ∷ ys) zs s = apart_skip_right ps [] ys zs s.1
apart_skip_right ps (x ∷ xs) ys zs s = (s.0, apart_skip_right ps xs ys zs s.1)

from_skip : (hs xs ys zs : List Print) (q : Print) → ApartFrom (hs ++ ((xs ++ ys) ++ zs)) q → ApartFrom (hs ++ (xs ++ zs)) q
from_skip (a ∷ hs) xs ys zs q s = (s.0, from_skip hs xs ys zs q s.1)
from_skip [] (x ∷ xs) ys zs q s = (s.0, from_skip [] xs ys zs q s.1)
from_skip [] [] (y ∷ ys) zs q s = from_skip [] [] ys zs q s.1
from_skip [] [] [] zs q s = s

apart_skip_left : (hs xs ys zs qs : List Print) → Apart (hs ++ ((xs ++ ys) ++ zs)) qs → Apart (hs ++ (xs ++ zs)) qs
apart_skip_left hs xs ys zs [] s = tt
apart_skip_left hs xs ys zs (q ∷ qs) s = (from_skip hs xs ys zs q s.0, apart_skip_left hs xs ys zs qs s.1)

from_move : (p : Print) (hs xs : List Print) (q : Print) → ApartFrom ((p ∷ hs) ++ xs) q → ApartFrom (hs ++ (p ∷ xs)) q
from_move p [] xs q s = s
from_move p (a ∷ hs) xs q s = (s.1.0, from_move p hs xs q (s.0, s.1.1))

apart_move : (p : Print) (hs xs qs : List Print) → Apart ((p ∷ hs) ++ xs) qs → Apart (hs ++ (p ∷ xs)) qs
apart_move p hs xs [] s = tt
apart_move p hs xs (q ∷ qs) s = (from_move p hs xs q s.0, apart_move p hs xs qs s.1)

pub from_tested : (p : Print) (first : List Print) → is_apart first p ≡ true → ApartFrom first p
from_tested p [] h = tt
from_tested p (f ∷ fs) h = (not_true (clash f p) (and_left (not (clash f p)) (is_apart fs p) h), from_tested p fs (and_right (not (clash f p)) (is_apart fs p) h))

-- a line is taken from those to come

part_absorb : (a : Part) (p : Print) (first this mine second : List Print) → part_ok a p first ≡ true → PartGood a first (p ∷ this) mine second → PartGood a first this (p ∷ mine) second
part_absorb Yes' p first this mine second h g = tt
part_absorb No' p first this mine second h g = tt
part_absorb Body p first this mine second h g = tt
part_absorb One p first this mine second h g = ((not_true p.loud h, g.0), g.1, apart_move p this mine second g.2)
part_absorb Two p first this mine second h g = ((not_true p.loud (and_left (not p.loud) (is_apart first p) h), g.0), (from_tested p first (and_right (not p.loud) (is_apart first p) h), g.1))

absorb : (bs : List Lines) (p : Print) (ls : List Level) (inner : List Print) → row_ok p bs ≡ true → Good (map (note p) bs) ls inner → Good bs ls (p ∷ inner)
absorb [] p ls inner h g = g
absorb (b ∷ bs) p ls inner h g = (
  g.0,
  g.1,
  part_absorb b.part p b.first b.this (inner ++ prints (top ls).text) (prints (top ls).second) (and_left (part_ok b.part p b.first) (row_ok p bs) h) g.2,
  absorb bs p (below ls) (inner ++ (prints (top ls).text ++ prints (top ls).second)) (and_right (part_ok b.part p b.first) (row_ok p bs) h) g.3,
)

pub top_accepted : (bs : List Lines) (ls : List Level) (inner : List Print) → Good bs ls inner → Accepted (top ls).text
top_accepted [] ls inner g = g
top_accepted (b ∷ bs) ls inner g = g.0

-- the lines within become part of the text
enter : (bs : List Lines) (ls : List Level) (inner : List Print) (x : Text) → Good bs ls inner → Accepted x → prints x ≡ inner ++ prints (top ls).text → Good bs (with_text x ls) []
enter [] ls inner x g a e = a
enter (b ∷ bs) ls inner x g a e =
    let P : List Print → Type 0 = λ ps. PartGood b.part b.first b.this ps (prints (top ls).second) in
    let Q : List Print → Type 0 = λ ps. Good bs (below ls) ps in (
      a,
      g.1,
      subst P (sym e) g.2,
      subst Q (sym (append_assoc inner (prints (top ls).text) (prints (top ls).second)) ∙ ap (λ (ps : List Print). ps ++ prints (top ls).second) (sym e)) g.3,
    )

part_weaken : (a : Part) (first this xs ys zs second : List Print) → PartGood a first this ((xs ++ ys) ++ zs) second → PartGood a first this (xs ++ zs) second
part_weaken Yes' first this xs ys zs second g = tt
part_weaken No' first this xs ys zs second g = tt
part_weaken Body first this xs ys zs second g = tt
part_weaken One first this xs ys zs second g = (silent_skip xs ys zs g.0, g.1, apart_skip_left this xs ys zs second g.2)
part_weaken Two first this xs ys zs second g = (silent_skip xs ys zs g.0, apart_skip_right first xs ys zs g.1)

weaken : (bs : List Lines) (ls : List Level) (xs ys zs : List Print) → Good bs ls ((xs ++ ys) ++ zs) → Good bs ls (xs ++ zs)
weaken [] ls xs ys zs g = g
weaken (b ∷ bs) ls xs ys zs g =
    let t : List Print = prints (top ls).text in
    let w : List Print = t ++ prints (top ls).second in
    let P : List Print → Type 0 = λ ps. PartGood b.part b.first b.this ps (prints (top ls).second) in
    let Q : List Print → Type 0 = λ ps. Good bs (below ls) ps in (
      g.0,
      g.1,
      subst P (sym (append_assoc xs zs t)) (part_weaken b.part b.first b.this xs ys (zs ++ t) (prints (top ls).second) (subst P (append_assoc (xs ++ ys) zs t) g.2)),
      subst Q (sym (append_assoc xs zs w)) (weaken bs (below ls) xs ys (zs ++ w) (subst Q (append_assoc (xs ++ ys) zs w) g.3)),
    )

-- at the end, or behind a part

part_none : (a : Part) (first this : List Print) → PartGood a first this [] []
part_none Yes' first this = tt
part_none No' first this = tt
part_none Body first this = tt
part_none One first this = (tt, tt, tt)
part_none Two first this = (tt, tt)

good_none : (bs : List Lines) → Good bs [] []
good_none [] = tt
good_none (b ∷ bs) = (tt, tt, part_none b.part b.first b.this, good_none bs)

part_turned : (a : Part) (first this mine second : List Print) → PartGood (other a) this [] mine second → PartGood a first this [] mine
part_turned Yes' first this mine second g = tt
part_turned No' first this mine second g = tt
part_turned Body first this mine second g = tt
part_turned One first this mine second g = let P : List Print → Type 0 = λ ps. Apart ps mine in (tt, g.0, subst P (sym (append-nil this)) g.1)
part_turned Two first this mine second g = (tt, tt)

turn : (bs : List Lines) (ls : List Level) → Good (turned_lines bs) ls [] → Good bs (level Stop (top ls).text ∷ below ls) []
turn [] ls g = tt
turn (b ∷ bs) ls g =
    let t : List Print = prints (top ls).text in
    let Q : List Print → Type 0 = λ ps. Good bs (below ls) ps in (
      tt,
      g.0,
      part_turned b.part b.first b.this t (prints (top ls).second) g.2,
      subst Q (append-nil t) (weaken bs (below ls) t (prints (top ls).second) [] (subst Q (sym (append-nil (t ++ prints (top ls).second))) g.3)),
    )

close : (bs : List Lines) (ls : List Level) → Good (closed_lines bs) ls [] → Good bs (level Stop Stop ∷ ls) []
close [] ls g = tt
close (b ∷ bs) ls g = (tt, tt, part_none b.part b.first b.this, g)

-- a line that begins no block
good_line : (rs : List HandlerLine) (bs : List Lines) (p : Print) (x : Text) → row_ok p bs ≡ true → Good (map (note p) bs) (levels_of rs) [] → (Accepted (top (levels_of rs)).text → Accepted x)
    → prints x ≡ p ∷ prints (top (levels_of rs)).text → Good bs (with_text x (levels_of rs)) []
good_line rs bs p x h g a e = enter bs (levels_of rs) (p ∷ []) x (absorb bs p (levels_of rs) [] h g) (a (top_accepted (map (note p) bs) (levels_of rs) [] g)) e

good : (rs : List HandlerLine) (bs : List Lines) → all_ok rs bs ≡ true → Good bs (levels_of rs) []
good [] bs h = good_none bs
good (ActLine q ∷ rs) bs h =
    let p : Print = quiet_print q in
    good_line rs bs p (Act q (top (levels_of rs)).text) (and_left (row_ok p bs) (all_ok rs (map (note p) bs)) h) (good rs (map (note p) bs) (and_right (row_ok p bs) (all_ok rs (map (note p) bs)) h)) (λ x. x) refl
good (AskLine a ∷ rs) bs h =
    let p : Print = asking_print a in
    good_line rs bs p (Ask a (top (levels_of rs)).text) (and_left (row_ok p bs) (all_ok rs (map (note p) bs)) h) (good rs (map (note p) bs) (and_right (row_ok p bs) (all_ok rs (map (note p) bs)) h)) (λ x. x) refl
good (IfLine e ∷ rs) bs h =
    let p : Print = test_print e in
    let ls : List Level = levels_of rs in
    let a : List Print = prints (top ls).text in
    let b : List Print = prints (top ls).second in
    let g : Good (new Yes' ∷ map (note p) bs) ls [] = good rs (new Yes' ∷ map (note p) bs) (and_right (row_ok p bs) (all_ok rs (new Yes' ∷ map (note p) bs)) h) in
    enter bs (below ls) (p ∷ (a ++ b)) (If e (top ls).text (top ls).second (top (below ls)).text)
    (absorb bs p (below ls) (a ++ b) (and_left (row_ok p bs) (all_ok rs (new Yes' ∷ map (note p) bs)) h) g.3)
    (g.0, g.1, top_accepted (map (note p) bs) (below ls) (a ++ b) g.3)
    (ap (λ (ps : List Print). p ∷ ps) (sym (append_assoc a b (prints (top (below ls)).text))))
good (EachLine l ∷ rs) bs h =
    let p : Print = loop_print l in
    let ls : List Level = levels_of rs in
    let a : List Print = prints (top ls).text in
    let b : List Print = prints (top ls).second in
    let inner : List Lines = map (note p) bs in
    let g : Good (new Body ∷ inner) ls [] = good rs (new Body ∷ inner) (and_right (row_ok p bs) (all_ok rs (new Body ∷ inner)) h) in
    let Q : List Print → Type 0 = λ ps. Good inner (below ls) ps in
    let only : Good inner (below ls) a = subst Q (append-nil a) (weaken inner (below ls) a b [] (subst Q (sym (append-nil (a ++ b))) g.3)) in
    enter bs (below ls) (p ∷ a) (Each l (top ls).text (top (below ls)).text)
    (absorb bs p (below ls) a (and_left (row_ok p bs) (all_ok rs (new Body ∷ inner)) h) only)
    (g.0, top_accepted inner (below ls) a only) refl
good (BothLine ∷ rs) bs h =
    let ls : List Level = levels_of rs in
    let a : List Print = prints (top ls).text in
    let b : List Print = prints (top ls).second in
    let g : Good (new One ∷ bs) ls [] = good rs (new One ∷ bs) h in
    enter bs (below ls) (a ++ b) (Both (top ls).text (top ls).second (top (below ls)).text) g.3
    (g.2.0, g.2.1, g.2.2, g.0, g.1, top_accepted bs (below ls) (a ++ b) g.3)
    (sym (append_assoc a b (prints (top (below ls)).text)))
good (SecondLine ∷ rs) bs h = turn bs (levels_of rs) (good rs (turned_lines bs) h)
good (EndLine ∷ rs) bs h = close bs (levels_of rs) (good rs (closed_lines bs) h)

-- as tests

silent_test : (ps : List Print) → Silent ps → are_silent ps ≡ true
silent_test [] h = refl
silent_test (p ∷ ps) h = and_from (not p.loud) (are_silent ps) (ap not h.0) (silent_test ps h.1)

from_test : (ps : List Print) (q : Print) → ApartFrom ps q → is_apart ps q ≡ true
from_test [] q h = refl
from_test (p ∷ ps) q h = and_from (not (clash p q)) (is_apart ps q) (ap not h.0) (from_test ps q h.1)

apart_test : (ps qs : List Print) → Apart ps qs → are_apart ps qs ≡ true
apart_test ps [] h = refl
apart_test ps (q ∷ qs) h = and_from (is_apart ps q) (are_apart ps qs) (from_test ps q h.0) (apart_test ps qs h.1)

accepted_test : (t : Text) → Accepted t → is_accepted t ≡ true
unfolding is_accepted
accepted_test Stop h = refl
accepted_test (Act q t) h = accepted_test t h
accepted_test (Ask a t) h = accepted_test t h
accepted_test (If e a b t) h = and_from (is_accepted a) _ (accepted_test a h.0) (and_from (is_accepted b) _ (accepted_test b h.1) (accepted_test t h.2))
accepted_test (Each l a t) h = and_from (is_accepted a) _ (accepted_test a h.0) (accepted_test t h.1)
accepted_test (Both a b t) h = and_from (are_silent (prints a) && are_silent (prints b)) _ (and_from (are_silent (prints a)) _ (silent_test (prints a) h.0) (silent_test (prints b) h.1))
    (and_from (are_apart (prints a) (prints b)) _ (apart_test (prints a) (prints b) h.2) (and_from (is_accepted a) _ (accepted_test a h.3) (and_from (is_accepted b) _ (accepted_test b h.4) (accepted_test t h.5))))

pub accepted : (rows : List HandlerLine) → IsAccepted rows
unfolding text_of
accepted rows h = accepted_test (top (levels_of rows)).text (good rows [] h)
