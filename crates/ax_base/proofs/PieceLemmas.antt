-- The cut of bytes, from its front.
use Rattle.std.proofs.Common.{◌≡◌, ℕ, ◌+◌, ◌-◌, ◌≤◌, ◌<◌, List, [], ◌∷◌, ◌++◌, Bool, true, false, cond, length, take, drop, get_or, refl, sym, ap, ◌∙◌, arith, eqb}
use Rattle.std.specs.Prelude.{nat_lt, nat_le}
use Rattle.std.proofs.lemmas.Bool.Decides.{nat_tests}
use Rattle.std.proofs.lemmas.Bool.{false≢true}
use Rattle.std.proofs.lemmas.List.{length-append, append-nil, append_assoc, take-append-drop, take-take, drop_more, take_more, length-take-le, length-drop, take_at, nil_from_length}
use Rattle.ax_base.specs.Pieces.{Cut, cut_onto, cut_of, Whole, TooLong, TooMuch, is_too_long, pieces_of_tail, pieces_from, pieces_of}
use Rattle.std.specs.Io.KnownBytes.{Consumes, IsAtEnd}
use Rattle.std.proofs.Common.{Option, Some, None}
use Rattle.ax_base.specs.Lines.{no_feed}
use Rattle.ax_base.specs.Outside.{Told}

-- bytes with no line feed, in front of a cut
abbrev pub cut_behind : List ℕ → List (List ℕ) → List ℕ → Cut
cut_behind t [] tail = record { ended = []; tail = t ++ tail }
cut_behind t (u ∷ us) tail = record { ended = (t ++ u) ∷ us; tail = tail }

cut_onto-behind : (b : ℕ) (t : List ℕ) (us : List (List ℕ)) (tail : List ℕ) → cut_onto b (cut_behind t us tail).ended (cut_behind t us tail).tail ≡ cut_behind (b ∷ t) us tail
cut_onto-behind b t [] tail = refl
cut_onto-behind b t (u ∷ us) tail = refl

cut_behind-nil : (us : List (List ℕ)) (tail : List ℕ) → cut_behind [] us tail ≡ record { ended = us; tail = tail }
cut_behind-nil [] tail = refl
cut_behind-nil (u ∷ us) tail = refl

first_no_feed : (b : ℕ) (bs : List ℕ) → no_feed (b ∷ bs) ≡ true → eqb b 10 ≡ false
first_no_feed b bs e = by_cases (eqb b 10) (no_feed bs) e where
  by_cases : (t u : Bool) → cond t false u ≡ true → t ≡ false
  by_cases true u e = absurd (false≢true e)
  by_cases false u e = refl

rest_no_feed : (b : ℕ) (bs : List ℕ) → no_feed (b ∷ bs) ≡ true → no_feed bs ≡ true
rest_no_feed b bs e = sym (ap (λ t. cond t false (no_feed bs)) (first_no_feed b bs e)) ∙ e

-- the cut goes on behind bytes with no line feed
pub cut_of-append : (t more : List ℕ) → no_feed t ≡ true → cut_of (t ++ more) ≡ cut_behind t (cut_of more).ended (cut_of more).tail
cut_of-append [] more e = sym (cut_behind-nil (cut_of more).ended (cut_of more).tail)
cut_of-append (b ∷ t) more e =
    let rest = cut_of (t ++ more) in
    ap (λ x. cond x (record { ended = [] ∷ rest.ended; tail = rest.tail }) (cut_onto b rest.ended rest.tail)) (first_no_feed b t e)
    ∙ ap (λ (c : Cut). cut_onto b c.ended c.tail) (cut_of-append t more (rest_no_feed b t e))
    ∙ cut_onto-behind b t (cut_of more).ended (cut_of more).tail

pub no_feed-append : (xs ys : List ℕ) → no_feed xs ≡ true → no_feed ys ≡ true → no_feed (xs ++ ys) ≡ true
no_feed-append [] ys e f = f
no_feed-append (b ∷ xs) ys e f =
    ap (λ t. cond t false (no_feed (xs ++ ys))) (first_no_feed b xs e) ∙ no_feed-append xs ys (rest_no_feed b xs e) f

tail_long : (limit : ℕ) (s : List ℕ) → is_too_long (length s) limit ≡ true → pieces_of_tail limit s ≡ TooLong ∷ []
tail_long limit [] e = absurd (false≢true e)
tail_long limit (b ∷ bs) e = ap (λ t. cond t (TooLong ∷ []) (cond (nat_le (length (b ∷ bs)) limit) (Whole (b ∷ bs) ∷ []) (TooMuch ∷ []))) e

tail_much : (limit : ℕ) (s : List ℕ) → limit ≤ 65536 → limit < length s → pieces_of_tail limit s ≡ TooMuch ∷ []
tail_much limit [] small more = absurd (omega arith)
tail_much limit (b ∷ bs) small more =
    let long : is_too_long (length (b ∷ bs)) limit ≡ false = grind (arith, nat_tests) in
    let past : nat_le (length (b ∷ bs)) limit ≡ false = grind (arith, nat_tests) in
    ap (λ t. cond t (TooLong ∷ []) (cond (nat_le (length (b ∷ bs)) limit) (Whole (b ∷ bs) ∷ []) (TooMuch ∷ []))) long
    ∙ ap (λ t. cond t (Whole (b ∷ bs) ∷ []) (TooMuch ∷ [])) past

tail_whole : (limit : ℕ) (s : List ℕ) → 0 < length s → length s ≤ 65536 → length s ≤ limit → pieces_of_tail limit s ≡ Whole s ∷ []
tail_whole limit [] some short within = absurd (omega arith)
tail_whole limit (b ∷ bs) some short within =
    let long : is_too_long (length (b ∷ bs)) limit ≡ false = grind (arith, nat_tests) in
    let inside : nat_le (length (b ∷ bs)) limit ≡ true = grind (arith, nat_tests) in
    ap (λ t. cond t (TooLong ∷ []) (cond (nat_le (length (b ∷ bs)) limit) (Whole (b ∷ bs) ∷ []) (TooMuch ∷ []))) long
    ∙ ap (λ t. cond t (Whole (b ∷ bs) ∷ []) (TooMuch ∷ [])) inside

front_long : (limit : ℕ) (t : List ℕ) (us : List (List ℕ)) (tail : List ℕ) → is_too_long (length t) limit ≡ true → pieces_from limit (cut_behind t us tail).ended (cut_behind t us tail).tail ≡ TooLong ∷ []
front_long limit t [] tail e =
    let long : is_too_long (length (t ++ tail)) limit ≡ true = grind (arith, nat_tests, length-append t tail) in
    tail_long limit (t ++ tail) long
front_long limit t (u ∷ us) tail e =
    let long : is_too_long (length (t ++ u)) limit ≡ true = grind (arith, nat_tests, length-append t u) in
    ap (λ x. cond x (TooLong ∷ []) (cond (nat_lt (length (t ++ u)) limit) (Whole (t ++ u) ∷ pieces_from (limit - (length (t ++ u) + 1)) us tail) (TooMuch ∷ []))) long

front_much : (limit : ℕ) (t : List ℕ) (us : List (List ℕ)) (tail : List ℕ) → limit ≤ 65536 → limit < length t → pieces_from limit (cut_behind t us tail).ended (cut_behind t us tail).tail ≡ TooMuch ∷ []
front_much limit t [] tail small more = tail_much limit (t ++ tail) small (omega (arith, length-append t tail))
front_much limit t (u ∷ us) tail small more =
    let long : is_too_long (length (t ++ u)) limit ≡ false = grind (arith, nat_tests) in
    let past : nat_lt (length (t ++ u)) limit ≡ false = grind (arith, nat_tests, length-append t u) in
    ap (λ x. cond x (TooLong ∷ []) (cond (nat_lt (length (t ++ u)) limit) (Whole (t ++ u) ∷ pieces_from (limit - (length (t ++ u) + 1)) us tail) (TooMuch ∷ []))) long
    ∙ ap (λ x. cond x (Whole (t ++ u) ∷ pieces_from (limit - (length (t ++ u) + 1)) us tail) (TooMuch ∷ [])) past

-- more than 65,536 bytes with no line feed stand in front
pub pieces_of-long : (limit : ℕ) (t more : List ℕ) → no_feed t ≡ true → is_too_long (length t) limit ≡ true → pieces_of limit (t ++ more) ≡ TooLong ∷ []
pieces_of-long limit t more e long =
    ap (λ (c : Cut). pieces_from limit c.ended c.tail) (cut_of-append t more e) ∙ front_long limit t (cut_of more).ended (cut_of more).tail long

-- more bytes than the limit, with no line feed, stand in front
pub pieces_of-much : (limit : ℕ) (t more : List ℕ) → no_feed t ≡ true → limit ≤ 65536 → limit < length t → pieces_of limit (t ++ more) ≡ TooMuch ∷ []
pieces_of-much limit t more e small past =
    ap (λ (c : Cut). pieces_from limit c.ended c.tail) (cut_of-append t more e) ∙ front_much limit t (cut_of more).ended (cut_of more).tail small past

cut_of-line : (t rest : List ℕ) → no_feed t ≡ true → cut_of (t ++ 10 ∷ rest) ≡ record { ended = t ∷ (cut_of rest).ended; tail = (cut_of rest).tail }
cut_of-line t rest e = cut_of-append t (10 ∷ rest) e ∙ ap (λ u. record { ended = u ∷ (cut_of rest).ended; tail = (cut_of rest).tail }) (append-nil t)

-- a whole line stands in front
pub pieces_of-line : (limit : ℕ) (t rest : List ℕ) → no_feed t ≡ true → is_too_long (length t) limit ≡ false → length t < limit → pieces_of limit (t ++ 10 ∷ rest) ≡ Whole t ∷ pieces_of (limit - (length t + 1)) rest
pieces_of-line limit t rest e long within =
    let inside : nat_lt (length t) limit ≡ true = grind (arith, nat_tests) in
    let next = pieces_of (limit - (length t + 1)) rest in
    ap (λ (c : Cut). pieces_from limit c.ended c.tail) (cut_of-line t rest e)
    ∙ ap (λ x. cond x (TooLong ∷ []) (cond (nat_lt (length t) limit) (Whole t ∷ next) (TooMuch ∷ []))) long
    ∙ ap (λ x. cond x (Whole t ∷ next) (TooMuch ∷ [])) inside

pub pieces_of-line_much : (limit : ℕ) (t rest : List ℕ) → no_feed t ≡ true → is_too_long (length t) limit ≡ false → limit ≤ length t → pieces_of limit (t ++ 10 ∷ rest) ≡ TooMuch ∷ []
pieces_of-line_much limit t rest e long past =
    let outside : nat_lt (length t) limit ≡ false = grind (arith, nat_tests) in
    let next = pieces_of (limit - (length t + 1)) rest in
    ap (λ (c : Cut). pieces_from limit c.ended c.tail) (cut_of-line t rest e)
    ∙ ap (λ x. cond x (TooLong ∷ []) (cond (nat_lt (length t) limit) (Whole t ∷ next) (TooMuch ∷ []))) long
    ∙ ap (λ x. cond x (Whole t ∷ next) (TooMuch ∷ [])) outside

cut_of-alone : (t : List ℕ) → no_feed t ≡ true → cut_of t ≡ record { ended = []; tail = t }
cut_of-alone [] e = refl
cut_of-alone (b ∷ t) e =
    let rest = cut_of t in
    ap (λ x. cond x (record { ended = [] ∷ rest.ended; tail = rest.tail }) (cut_onto b rest.ended rest.tail)) (first_no_feed b t e)
    ∙ ap (λ (c : Cut). cut_onto b c.ended c.tail) (cut_of-alone t (rest_no_feed b t e))

-- the last line stands alone
pub pieces_of-last : (limit : ℕ) (t : List ℕ) → no_feed t ≡ true → 0 < length t → length t ≤ 65536 → length t ≤ limit → pieces_of limit t ≡ Whole t ∷ []
pieces_of-last limit t e some short within =
    ap (λ (c : Cut). pieces_from limit c.ended c.tail) (cut_of-alone t e) ∙ tail_whole limit t some short within

-- held bytes, at a line feed
pub split_at_feed : (held : List ℕ) (n : ℕ) → n < length held → get_or held n 0 ≡ 10 → held ≡ take n held ++ 10 ∷ drop (n + 1) held
split_at_feed held n h e = sym (take-append-drop n held) ∙ ap (λ s. take n held ++ s) (drop_more held n 0 h ∙ ap (λ b. b ∷ drop (n + 1) held) e)

pub at_feed : (held more : List ℕ) (n : ℕ) → n < length held → get_or held n 0 ≡ 10 → held ++ more ≡ take n held ++ 10 ∷ (drop (n + 1) held ++ more)
at_feed held more n h e = ap (λ s. s ++ more) (split_at_feed held n h e) ∙ append_assoc (take n held) (10 ∷ drop (n + 1) held) more

no_feed-front : (xs ys : List ℕ) → no_feed (xs ++ ys) ≡ true → no_feed xs ≡ true
no_feed-front [] ys e = refl
no_feed-front (b ∷ xs) ys e =
    ap (λ t. cond t false (no_feed xs)) (first_no_feed b (xs ++ ys) e) ∙ no_feed-front xs ys (rest_no_feed b (xs ++ ys) e)

-- nor among the first m
pub no_feed-take : (xs : List ℕ) (m : ℕ) → no_feed xs ≡ true → no_feed (take m xs) ≡ true
no_feed-take xs m e = no_feed-front (take m xs) (drop m xs) (ap no_feed (take-append-drop m xs) ∙ e)

pub no_feed-fewer : (xs : List ℕ) (m n : ℕ) → m ≤ n → no_feed (take n xs) ≡ true → no_feed (take m xs) ≡ true
no_feed-fewer xs m n le e = ap no_feed (sym (take-take m n xs le)) ∙ no_feed-take (take n xs) m e

pub no_feed_more : (held : List ℕ) (i : ℕ) → i < length held → no_feed (take i held) ≡ true → (get_or held i 0 ≡ 10 → ⊥) → no_feed (take (i + 1) held) ≡ true
no_feed_more held i h e ne =
    let other : eqb (get_or held i 0) 10 ≡ false = grind (arith, nat_tests) in
    ap no_feed (take_more held i 0 h) ∙ no_feed-append (take i held) (get_or held i 0 ∷ []) e (ap (λ t. cond t false true) other)

-- what held bytes show, with their first line feed at n or none among the first n
split_more : (held more : List ℕ) (n : ℕ) → held ++ more ≡ take n held ++ (drop n held ++ more)
split_more held more n = ap (λ s. s ++ more) (sym (take-append-drop n held)) ∙ append_assoc (take n held) (drop n held) more

pub shows_long : (held : List ℕ) (n limit : ℕ) → n ≤ length held → no_feed (take n held) ≡ true → 65536 < n → 65536 < limit → (more : List ℕ) → pieces_of limit (held ++ more) ≡ TooLong ∷ []
shows_long held n limit h e p q more =
    let long : is_too_long (length (take n held)) limit ≡ true = grind (arith, nat_tests, length-take-le n held h) in
    ap (pieces_of limit) (split_more held more n) ∙ pieces_of-long limit (take n held) (drop n held ++ more) e long

pub shows_much : (held : List ℕ) (limit : ℕ) → no_feed held ≡ true → limit ≤ 65536 → limit < length held → (more : List ℕ) → pieces_of limit (held ++ more) ≡ TooMuch ∷ []
shows_much held limit e small past more = pieces_of-much limit held more e small past

pub shows_line_much : (held : List ℕ) (n limit : ℕ) → n < length held → no_feed (take n held) ≡ true → get_or held n 0 ≡ 10 → limit ≤ 65536 → limit ≤ n → (more : List ℕ) → pieces_of limit (held ++ more) ≡ TooMuch ∷ []
shows_line_much held n limit h e feed small past more =
    let size = length-take-le n held (omega arith) in
    let long : is_too_long (length (take n held)) limit ≡ false = grind (arith, nat_tests) in
    ap (pieces_of limit) (at_feed held more n h feed) ∙ pieces_of-line_much limit (take n held) (drop (n + 1) held ++ more) e long (omega (arith, size))

pub shows_line : (held : List ℕ) (n limit : ℕ) → n < length held → no_feed (take n held) ≡ true → get_or held n 0 ≡ 10 → n ≤ 65536 → n < limit → (more : List ℕ) → pieces_of limit (held ++ more) ≡ Whole (take n held) ∷ pieces_of (limit - (n + 1)) (drop (n + 1) held ++ more)
shows_line held n limit h e feed short within more =
    let size : length (take n held) ≡ n = length-take-le n held (omega arith) in
    let long : is_too_long (length (take n held)) limit ≡ false = grind (arith, nat_tests) in
    ap (pieces_of limit) (at_feed held more n h feed) ∙ pieces_of-line limit (take n held) (drop (n + 1) held ++ more) e long (omega (arith, size))
    ∙ ap (λ k. Whole (take n held) ∷ pieces_of (limit - (k + 1)) (drop (n + 1) held ++ more)) size

-- at the end of the source, the last line is what is held
last_line : (w0 w1 w2 a x y d : List ℕ) (limit k : ℕ) → k ≡ length w1 → w0 ++ a ≡ w1 ++ x → x ≡ [] → x ≡ d ++ y → w2 ≡ w1 ++ d → d ≡ drop k w2 → d ≡ []
    → no_feed w1 ≡ true → 0 < length w1 → length w1 ≤ 65536 → length w1 ≤ limit
    → pieces_of limit (w0 ++ a) ≡ Whole (take k w2) ∷ pieces_of (limit - k) (drop k w2 ++ y)
last_line w0 w1 w2 a x y d limit k size same end came more at none e some short within =
    let whole : w0 ++ a ≡ w1 = same ∙ ap (λ s. w1 ++ s) end ∙ append-nil w1 in
    let front : take k w2 ≡ w1 = ap (take k) more ∙ take_at w1 d k (sym size) in
    let rest : drop k w2 ++ y ≡ [] = ap (λ s. s ++ y) (sym at) ∙ sym came ∙ end in
    ap (pieces_of limit) whole ∙ pieces_of-last limit w1 e some short within
    ∙ sym (ap (λ t. Whole t ∷ pieces_of (limit - k) (drop k w2 ++ y)) front ∙ ap (λ s. Whole w1 ∷ pieces_of (limit - k) s) rest)

pub last_told : (l0 l1 l2 : Option (List ℕ)) (w0 w1 w2 : List ℕ) (limit k : ℕ) → k ≡ length w1
    → Told l0 l1 (λ a b. w0 ++ a ≡ w1 ++ b) → IsAtEnd l1 → Consumes l1 l2 (drop (length w1) w2) → w2 ≡ w1 ++ drop (length w1) w2 → length w2 ≡ length w1 + 0
    → no_feed w1 ≡ true → 0 < length w1 → length w1 ≤ 65536 → length w1 ≤ limit
    → Told l0 l2 (λ a b. pieces_of limit (w0 ++ a) ≡ Whole (take k w2) ∷ pieces_of (limit - k) (drop k w2 ++ b))
last_told None l1 l2 w0 w1 w2 limit k size same end came more count e some short within = tt
last_told (Some a) None l2 w0 w1 w2 limit k size same end came more count e some short within = absurd same
last_told (Some a) (Some x) None w0 w1 w2 limit k size same end came more count e some short within = absurd came
last_told (Some a) (Some x) (Some y) w0 w1 w2 limit k size same end came more count e some short within =
    let d = drop (length w1) w2 in
    last_line w0 w1 w2 a x y d limit k size same end came more (ap (λ n. drop n w2) (sym size)) (nil_from_length d (omega (arith, length-drop (length w1) w2))) e some short within
