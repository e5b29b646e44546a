-- What the tables count line by line is the width of the text.
use Rattle.std.proofs.Common.{◌≡◌, ◌∙◌, ℕ, ◌+◌, max, List, [], ◌∷◌, true, false, refl, sym, ap, arith}
use Rattle.ax_text.specs.Texts.{Text, Act, Ask, If, Each, Both}
use Rattle.ax_text.specs.Programs.{width}
use Rattle.std.proofs.lemmas.Bool.{and_parts, both_ways}
use Rattle.ax_text.specs.Rows.{has_second, may_follow, follow, widened_by, now_of, text_of, HandlerLine, ActLine, AskLine, IfLine, EachLine, BothLine, SecondLine, EndLine, Level, top, below, with_text, before, levels_of, Part, Yes', No', Body, One, Two, Wide, wide, raised, other, block_width, widened}

-- how wide a block comes to be, where this is left of its part, and this is its second part
comes : Part → ℕ → ℕ → ℕ → ℕ → ℕ
comes Yes' first now text second = max (max now text) second
comes No' first now text second = max first (max now text)
comes Body first now text second = max first (max now text)
comes One first now text second = max now text + second
comes Two first now text second = first + max now text

-- how wide the handler comes to be, where these are the levels to come, and the innermost part is raised to n
pub total : ℕ → List Wide → List Level → ℕ
total n [] ls = 0
total n (b ∷ []) ls = max (max b.now n) (width (top ls).text)
total n (b ∷ c ∷ bs) ls = total (comes b.part b.first (max b.now n) (width (top ls).text) (width (top ls).second)) (c ∷ bs) (below ls)

comes_raised : (p : Part) (first now n m text second : ℕ) → m ≡ max n text → comes p first (max now n) text second ≡ comes p first now m second
unfolding comes
comes_raised Yes' first now n m text second e = omega arith
comes_raised No' first now n m text second e = omega arith
comes_raised Body first now n m text second e = omega arith
comes_raised One first now n m text second e = omega arith
comes_raised Two first now n m text second e = omega arith

comes_twice : (p : Part) (first now n m text second : ℕ) → comes p first (max (max now n) m) text second ≡ comes p first (max now (max n m)) text second
unfolding comes
comes_twice Yes' first now n m text second = omega arith
comes_twice No' first now n m text second = omega arith
comes_twice Body first now n m text second = omega arith
comes_twice One first now n m text second = omega arith
comes_twice Two first now n m text second = omega arith

-- what raises the innermost part, raises its text
raise : (m : ℕ) (bs : List Wide) (ls : List Level) (n : ℕ) (x : Text) → width x ≡ max n (width (top ls).text) → total (max n m) bs ls ≡ total m bs (with_text x ls)
unfolding total
raise m [] ls n x e = refl
raise m (b ∷ []) ls n x e = omega arith
raise m (b ∷ c ∷ bs) ls n x e = ap (λ (k : ℕ). total k (c ∷ bs) (below ls)) (of b.part) where
  of : (p : Part) → comes p b.first (max b.now (max n m)) (width (top ls).text) (width (top ls).second) ≡ comes p b.first (max b.now m) (width x) (width (top ls).second)
  of p = (ap (λ (k : ℕ). comes p b.first k (width (top ls).text) (width (top ls).second)) swap) ∙ comes_raised p b.first (max b.now m) n (width x) (width (top ls).text) (width (top ls).second) e where
    swap : max b.now (max n m) ≡ max (max b.now m) n
    swap = omega arith

total_raised : (n m : ℕ) (bs : List Wide) (ls : List Level) → total m (raised n bs) ls ≡ total (max n m) bs ls
unfolding total
total_raised n m [] ls = refl
total_raised n m (b ∷ []) ls = omega arith
total_raised n m (b ∷ c ∷ bs) ls = ap (λ (k : ℕ). total k (c ∷ bs) (below ls)) (comes_twice b.part b.first b.now n m (width (top ls).text) (width (top ls).second))

end_comes : (p : Part) (first now : ℕ) → comes p first (max now 0) 0 0 ≡ block_width p first now
unfolding comes
end_comes Yes' first now = omega arith
end_comes No' first now = omega arith
end_comes Body first now = omega arith
end_comes One first now = omega arith
end_comes Two first now = omega arith

turn_comes : (p : Part) (first now text second : ℕ) → has_second p ≡ true → comes (other p) now (max 0 0) text second ≡ comes p first (max now 0) 0 text
unfolding comes
turn_comes Yes' first now text second h = omega arith
turn_comes No' first now text second h = absurd (both_ways false refl h)
turn_comes Body first now text second h = absurd (both_ways false refl h)
turn_comes One first now text second h = omega arith
turn_comes Two first now text second h = absurd (both_ways false refl h)

-- one row
row_total : (r : HandlerLine) (bs : List Wide) (ls : List Level) → may_follow r bs ≡ true → total 0 (widened r bs) ls ≡ total 0 bs (before r ls)
unfolding total comes
row_total (ActLine q) bs ls h = ap (λ (k : ℕ). total k bs ls) zero_max ∙ raise 0 bs ls 0 (Act q (top ls).text) (omega arith) where
  zero_max : 0 ≡ max 0 0
  zero_max = omega arith
row_total (AskLine a) bs ls h = total_raised 1 0 bs ls ∙ raise 0 bs ls 1 (Ask a (top ls).text) refl
row_total (IfLine e) [] ls h = absurd (both_ways false refl h)
row_total (IfLine e) (b ∷ bs) ls h =
    ap (λ (k : ℕ). total k (b ∷ bs) (below ls)) (max_more (width (top ls).text) (width (top ls).second)) ∙ raise 0 (b ∷ bs) (below ls) (max (width (top ls).text) (width (top ls).second)) (If e (top ls).text (top ls).second (top (below ls)).text) refl where
      max_more : (x y : ℕ) → max (max (max 0 0) x) y ≡ max (max x y) 0
      max_more x y = omega arith
row_total (EachLine l) [] ls h = absurd (both_ways false refl h)
row_total (EachLine l) (b ∷ bs) ls h =
    ap (λ (k : ℕ). total k (b ∷ bs) (below ls)) (max_more (width (top ls).text)) ∙ raise 0 (b ∷ bs) (below ls) (max 1 (width (top ls).text)) (Each l (top ls).text (top (below ls)).text) refl where
      max_more : (x : ℕ) → max 0 (max (max 1 0) x) ≡ max (max 1 x) 0
      max_more x = omega arith
row_total BothLine [] ls h = absurd (both_ways false refl h)
row_total BothLine (b ∷ bs) ls h =
    ap (λ (k : ℕ). total k (b ∷ bs) (below ls)) (max_more (width (top ls).text) (width (top ls).second)) ∙ raise 0 (b ∷ bs) (below ls) (width (top ls).text + width (top ls).second) (Both (top ls).text (top ls).second (top (below ls)).text) refl where
      max_more : (x y : ℕ) → max (max 0 0) x + y ≡ max (x + y) 0
      max_more x y = omega arith
row_total SecondLine [] ls h = absurd (both_ways false refl h)
row_total SecondLine (b ∷ []) ls h = absurd (both_ways false refl h)
row_total SecondLine (b ∷ c ∷ bs) ls h = ap (λ (k : ℕ). total k (c ∷ bs) (below ls)) (turn_comes b.part b.first b.now (width (top ls).text) (width (top ls).second) h)
row_total EndLine [] ls h = absurd (both_ways false refl h)
row_total EndLine (b ∷ []) ls h = absurd (both_ways false refl h)
row_total EndLine (b ∷ c ∷ bs) ls h = total_raised (block_width b.part b.first b.now) 0 (c ∷ bs) ls ∙ ap (λ (k : ℕ). total k (c ∷ bs) ls) (more (block_width b.part b.first b.now) ∙ sym (end_comes b.part b.first b.now)) where
  more : (x : ℕ) → max x 0 ≡ x
  more x = omega arith

rows_total : (rs : List HandlerLine) (bs : List Wide) → follow rs bs ≡ true → now_of (widened_by rs bs) ≡ total 0 bs (levels_of rs)
unfolding total
rows_total [] [] h = refl
rows_total [] (b ∷ []) h = omega arith
rows_total [] (b ∷ c ∷ bs) h = absurd (both_ways false refl h)
rows_total (r ∷ rs) bs h =
    let x : (may_follow r bs ≡ true) × (follow rs (widened r bs) ≡ true) = and_parts (may_follow r bs) (follow rs (widened r bs)) h in
    rows_total rs (widened r bs) x.1 ∙ row_total r bs (levels_of rs) x.0

-- what was counted forward over the rows of a handler is the width of its text
pub counted_width : (rs : List HandlerLine) → follow rs (wide Body 0 0 ∷ []) ≡ true → now_of (widened_by rs (wide Body 0 0 ∷ [])) ≡ width (text_of rs)
unfolding total text_of
counted_width rs h = rows_total rs (wide Body 0 0 ∷ []) h ∙ zero (width (top (levels_of rs)).text) where
  zero : (n : ℕ) → max (max 0 0) n ≡ n
  zero n = omega arith
