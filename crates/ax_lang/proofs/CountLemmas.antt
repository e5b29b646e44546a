-- How many local names lines have, and their text.
use Rattle.std.proofs.Common.{◌≡◌, ◌∙◌, ℕ, max, List, [], ◌∷◌, ◌++◌, map, refl, sym, ap, arith, Bool, true, false, Option, Some, None, Vec, if◌then◌else◌}
use Rattle.std.proofs.lemmas.Bool.{and_parts, both_ways}
use Rattle.std.specs.declared.alloc.Global.{Global}
use Rattle.ax_text.specs.Texts.{Text, Stop, Act, Ask, If, Each, Both}
use Rattle.ax_text.specs.Rows.{HandlerLine, ActLine, AskLine, IfLine, EachLine, BothLine, SecondLine, EndLine, Level, top, below, with_text, before, levels_of, Part, Yes', No', Body, One, Two, Wide, wide, other, block_width, has_second, may_follow, follow, widened, text_of}
use Rattle.ax_lang.specs.declared.step.Step.{Step}
use Rattle.ax_lang.specs.declared.step.HandlerLine.{HandlerLine as CodeLine}
use Rattle.ax_lang.specs.Forms.{shown_row}
use Rattle.ax_lang.specs.Steps.{rows_some, text_if, text_at, text_some}
use Rattle.ax_lang.specs.Names.{quiet_names, asking_names, loop_names, text_names, names_some, row_names, rows_names}
use Rattle.ax_lang.specs.Rows.{HandlerLines, no_rows, with_row}

-- lines and the text that they make

-- the names of what is left of a block, where this part of it is open
block_names : Part → Text → Text → ℕ
block_names Yes' text second = max (text_names text) (text_names second)
block_names No' text second = text_names text
block_names Body text second = text_names text
block_names One text second = max (text_names text) (text_names second)
block_names Two text second = text_names text

-- the names of all that is left, where these blocks are open
left_names : List Wide → List Level → ℕ
left_names [] ls = 0
left_names (b ∷ []) ls = text_names (top ls).text
left_names (b ∷ c ∷ bs) ls = max (block_names b.part (top ls).text (top ls).second) (left_names (c ∷ bs) (below ls))

zero_first : (n : ℕ) → max 0 n ≡ n
zero_first n = omega arith

block_more : (p : Part) (n : ℕ) (x text second : Text) → text_names x ≡ max n (text_names text) → block_names p x second ≡ max n (block_names p text second)
unfolding block_names
block_more Yes' n x text second e = omega arith
block_more No' n x text second e = e
block_more Body n x text second e = e
block_more One n x text second e = omega arith
block_more Two n x text second e = e

-- a text with more names
more_names : (n : ℕ) (b : Wide) (bs : List Wide) (ls : List Level) (x : Text) → text_names x ≡ max n (text_names (top ls).text) → left_names (b ∷ bs) (with_text x ls) ≡ max n (left_names (b ∷ bs) ls)
unfolding left_names
more_names n b [] ls x e = e
more_names n b (c ∷ bs) ls x e =
    let m : block_names b.part x (top ls).second ≡ max n (block_names b.part (top ls).text (top ls).second) = block_more b.part n x (top ls).text (top ls).second e in
    omega arith

-- how wide a part is doesn't matter
same_part : (b : Wide) (first now : ℕ) (bs : List Wide) (ls : List Level) → left_names (wide b.part first now ∷ bs) ls ≡ left_names (b ∷ bs) ls
unfolding left_names
same_part b first now [] ls = refl
same_part b first now (c ∷ bs) ls = refl

turn_names : (p : Part) (text second : Text) → has_second p ≡ true → block_names (other p) text second ≡ block_names p Stop text
unfolding block_names
turn_names Yes' text second h = omega arith
turn_names No' text second h = absurd (both_ways false refl h)
turn_names Body text second h = absurd (both_ways false refl h)
turn_names One text second h = omega arith
turn_names Two text second h = absurd (both_ways false refl h)

end_names : (p : Part) → block_names p Stop Stop ≡ 0
unfolding block_names
end_names Yes' = omega arith
end_names No' = refl
end_names Body = refl
end_names One = omega arith
end_names Two = refl

max_among : (a b c : ℕ) → max a (max b c) ≡ max (max a b) c
max_among a b c = omega arith

-- one line
row_left : (r : HandlerLine) (bs : List Wide) (ls : List Level) → may_follow r bs ≡ true → max (row_names r) (left_names (widened r bs) ls) ≡ left_names bs (before r ls)
unfolding left_names block_names
row_left (ActLine q) [] ls h = absurd (both_ways false refl h)
row_left (ActLine q) (b ∷ bs) ls h = sym (more_names (quiet_names q) b bs ls (Act q (top ls).text) refl)
row_left (AskLine a) [] ls h = absurd (both_ways false refl h)
row_left (AskLine a) (b ∷ bs) ls h = ap (λ (n : ℕ). max (asking_names a) n) (same_part b b.first (max b.now 1) bs ls) ∙ sym (more_names (asking_names a) b bs ls (Ask a (top ls).text) refl)
row_left (IfLine e) [] ls h = absurd (both_ways false refl h)
row_left (IfLine e) (b ∷ bs) ls h =
    let n = max (text_names (top ls).text) (text_names (top ls).second) in
    zero_first (max n (left_names (b ∷ bs) (below ls))) ∙ sym (more_names n b bs (below ls) (If e (top ls).text (top ls).second (top (below ls)).text) refl)
row_left (EachLine l) [] ls h = absurd (both_ways false refl h)
row_left (EachLine l) (b ∷ bs) ls h =
    let n = text_names (top ls).text in
    max_among (loop_names l) n (left_names (b ∷ bs) (below ls)) ∙ sym (more_names (max (loop_names l) n) b bs (below ls) (Each l (top ls).text (top (below ls)).text) refl)
row_left BothLine [] ls h = absurd (both_ways false refl h)
row_left BothLine (b ∷ bs) ls h =
    let n = max (text_names (top ls).text) (text_names (top ls).second) in
    zero_first (max n (left_names (b ∷ bs) (below ls))) ∙ sym (more_names n b bs (below ls) (Both (top ls).text (top ls).second (top (below ls)).text) refl)
row_left SecondLine [] ls h = absurd (both_ways false refl h)
row_left SecondLine (b ∷ []) ls h = absurd (both_ways false refl h)
row_left SecondLine (b ∷ c ∷ bs) ls h =
    let n = left_names (c ∷ bs) (below ls) in
    zero_first (max (block_names (other b.part) (top ls).text (top ls).second) n) ∙ ap (λ (m : ℕ). max m n) (turn_names b.part (top ls).text (top ls).second h)
row_left EndLine [] ls h = absurd (both_ways false refl h)
row_left EndLine (b ∷ []) ls h = absurd (both_ways false refl h)
row_left EndLine (b ∷ c ∷ bs) ls h =
    let n = left_names (c ∷ bs) ls in
    zero_first (left_names (widened EndLine (b ∷ c ∷ bs)) ls) ∙ (same_part c c.first (max c.now (block_width b.part b.first b.now)) bs ls ∙ sym (ap (λ (m : ℕ). max m n) (end_names b.part) ∙ zero_first n))

rows_left : (rs : List HandlerLine) (bs : List Wide) → follow rs bs ≡ true → rows_names rs ≡ left_names bs (levels_of rs)
unfolding left_names
rows_left [] [] h = refl
rows_left [] (b ∷ []) h = refl
rows_left [] (b ∷ c ∷ bs) h = absurd (both_ways false refl h)
rows_left (r ∷ rs) bs h =
    let x = and_parts (may_follow r bs) (follow rs (widened r bs)) h in
    ap (λ (n : ℕ). max (row_names r) n) (rows_left rs (widened r bs) x.1) ∙ row_left r bs (levels_of rs) x.0

text_has : (rs : List HandlerLine) → follow rs (wide Body 0 0 ∷ []) ≡ true → rows_names rs ≡ text_names (text_of rs)
unfolding left_names text_of
text_has rs h = rows_left rs (wide Body 0 0 ∷ []) h

timer_has : (rows : Option (Vec CodeLine Global)) → follow (rows_some rows) (wide Body 0 0 ∷ []) ≡ true → rows_names (rows_some rows) ≡ names_some (text_if rows)
timer_has None h = refl
timer_has (Some rows) h = text_has (map shown_row rows.items) h

-- a program has the names of its lines
pub numbered : (n : ℕ) (rows : List CodeLine) (timer : Option (Vec CodeLine Global)) (more : List Step) (place : ℕ) (due : Option ℕ) → text_at more place ≡ text_of (map shown_row rows) → text_some more due ≡ text_if timer
    → follow (map shown_row rows) (wide Body 0 0 ∷ []) ≡ true → follow (rows_some timer) (wide Body 0 0 ∷ []) ≡ true
    → n ≡ max (rows_names (map shown_row rows)) (rows_names (rows_some timer)) → n ≡ max (text_names (text_at more place)) (names_some (text_some more due))
numbered n rows timer more place due e f a b h =
    let one : rows_names (map shown_row rows) ≡ text_names (text_at more place) = text_has (map shown_row rows) a ∙ sym (ap text_names e) in
    let two : rows_names (rows_some timer) ≡ names_some (text_some more due) = timer_has timer b ∙ sym (ap names_some f) in
    omega arith

-- one line more

abbrev pub some_names : Option HandlerLine → ℕ
some_names None = 0
some_names (Some r) = row_names r

-- the lines of the last handler
abbrev pub last_rows : Bool → HandlerLines → List HandlerLine
last_rows true rows = rows.timer
last_rows false rows = rows.row

abbrev pub most_names : HandlerLines → ℕ
most_names rows = max (rows_names rows.row) (rows_names rows.timer)

rows_more : (rs : List HandlerLine) (r : HandlerLine) → rows_names (rs ++ r ∷ []) ≡ max (rows_names rs) (row_names r)
rows_more [] r = omega arith
rows_more (x ∷ xs) r = let e : rows_names (xs ++ r ∷ []) ≡ max (rows_names xs) (row_names r) = rows_more xs r in omega arith

pub last_more : (timer : Bool) (o : Option HandlerLine) (rows : HandlerLines) (l n : ℕ) → l ≡ rows_names (last_rows timer rows) → n ≡ max l (some_names o) → n ≡ rows_names (last_rows timer (with_row timer o rows))
last_more true None rows l n a b = omega arith
last_more false None rows l n a b = omega arith
last_more true (Some r) rows l n a b = let e : rows_names (rows.timer ++ r ∷ []) ≡ max (rows_names rows.timer) (row_names r) = rows_more rows.timer r in omega arith
last_more false (Some r) rows l n a b = let e : rows_names (rows.row ++ r ∷ []) ≡ max (rows_names rows.row) (row_names r) = rows_more rows.row r in omega arith

pub most_more : (timer : Bool) (o : Option HandlerLine) (rows : HandlerLines) (l m n : ℕ) → l ≡ rows_names (last_rows timer rows) → m ≡ most_names rows → n ≡ max l (some_names o) → max m n ≡ most_names (with_row timer o rows)
most_more true None rows l m n a b c = omega arith
most_more false None rows l m n a b c = omega arith
most_more true (Some r) rows l m n a b c = let e : rows_names (rows.timer ++ r ∷ []) ≡ max (rows_names rows.timer) (row_names r) = rows_more rows.timer r in omega arith
most_more false (Some r) rows l m n a b c = let e : rows_names (rows.row ++ r ∷ []) ≡ max (rows_names rows.row) (row_names r) = rows_more rows.row r in omega arith

-- a line that assigns no name
pub none_more : (n : ℕ) → n ≡ max n 0
none_more n = omega arith

pub none_yet : (timer : Bool) (rows : HandlerLines) → rows ≡ no_rows → 0 ≡ rows_names (last_rows timer rows)
none_yet true rows e = ap (λ (rs : HandlerLines). rows_names rs.timer) (sym e)
none_yet false rows e = ap (λ (rs : HandlerLines). rows_names rs.row) (sym e)
