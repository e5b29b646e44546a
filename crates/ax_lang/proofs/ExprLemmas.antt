-- Expressions of lines without fault: what they speak of exists.
use Rattle.std.proofs.Common.{◌≡◌, ◌∙◌, ℕ, zero, suc, ◌+◌, ◌-◌, ◌≤◌, ◌<◌, ◌^◌, ℤ, pos, neg_ℤ, List, [], ◌∷◌, map, length, refl, sym, ap, subst, arith, Bool, true, false, not, ◌&&◌, ◌||◌, nat_le, nat_lt, ◌==◌, Option, Some, None, if◌then◌else◌, is_some}
use Rattle.std.specs.List.{list_all, list_any}
use Rattle.std.proofs.lemmas.Bool.{and_parts, and_from, leb-true, le-leb, lt-ltb, true≢false, false≢true, or_parts, or_left, or_right, not-false, not-true, not_from_false}
use Rattle.std.proofs.lemmas.List.{length-map}
use lib.Chars.{codes}
use Rattle.ax_base.specs.Numbers.{value_from, are_digits, positive, negative, unsigned_by, number_of, is_number}
use Rattle.ax_base.proofs.NumberLemmas.{number_fits}
use Rattle.ax_text.specs.declared.vocabulary.Op.{Op}
use Rattle.ax_text.specs.declared.vocabulary.Atom.{Atom}
use Rattle.ax_text.specs.declared.vocabulary.Atom.TheVariants as atom
use Rattle.ax_text.specs.declared.vocabulary.Keyword.{Keyword}
use Rattle.ax_text.specs.declared.vocabulary.Keyword.TheVariants as k
use Rattle.ax_text.specs.Names.{Word, same_word, keyword_of, is_value_word, is_name, mem}
use Rattle.ax_text.specs.Exprs.{Expr, Leaf, Join}
use Rattle.ax_text.specs.Valid.{atom_fits, expr_fits, exprs_fit}
use Rattle.ax_syntax.specs.Words.{from_one_to_sixteen, unpadded, field_number, sign_of, is_moment, is_operand}
use Rattle.ax_syntax.specs.Shapes.{goes_on, is_expr, is_exprs, onto_first, parts_of}
use Rattle.ax_syntax.proofs.PartLemmas.{parts_of_some}
use Rattle.ax_expr.specs.declared.tree.Token.{Token}
use Rattle.ax_expr.specs.declared.tree.Token.TheVariants as token
use Rattle.ax_expr.specs.Levels.{level_of}
use Rattle.ax_expr.specs.Reading.{Waiting, Opened, Before, joined, whole, closed, with_some, walk, tree_of}
use Rattle.ax_rules.specs.declared.tables.Tables.{Tables}
use Rattle.ax_rules.specs.Parts.{index_of}
use Rattle.ax_rules.specs.Faults.{is_state, is_local, is_up_to, is_unknown_name, is_unknown_value, is_unknown}
use Rattle.ax_lang.specs.Rows.{place_or, place_in, number_or, moment_or, field_or, atom_of, sign_or, token_of, tree_or, tree_in}
use Rattle.ax_lang.specs.Programs.{fields_or}

-- tests

-- the second, where the first is not
or_second : (a b : Bool) → a ≡ false → (a || b) ≡ true → b ≡ true
or_second true b f h = absurd (true≢false f)
or_second false b f h = h

or_first : (a b : Bool) → b ≡ false → (a || b) ≡ true → a ≡ true
or_first true b f h = refl
or_first false b f h = absurd (true≢false (sym h ∙ f))

and_second : (a b : Bool) → a ≡ true → (a && b) ≡ false → b ≡ false
and_second true b t h = h
and_second false b t h = absurd (false≢true t)

-- trees of tokens whose operands fit

abbrev pub token_fits : ℕ → ℕ → Token → Bool
token_fits f n (token.Operand a) = atom_fits f n a
token_fits f n token.Open = true
token_fits f n token.Close = true
token_fits f n (token.Sign o) = true

abbrev waiting_fits : ℕ → ℕ → List Waiting → Bool
waiting_fits f n [] = true
waiting_fits f n (Opened ∷ ws) = waiting_fits f n ws
waiting_fits f n (Before left o ∷ ws) = expr_fits f n left && waiting_fits f n ws

abbrev SomeFits : ℕ → ℕ → Option Expr → Type 0
SomeFits f n None = Unit {0}
SomeFits f n (Some x) = expr_fits f n x ≡ true

joined_fits : (f n level : ℕ) (x : Expr) (ws : List Waiting) → expr_fits f n x ≡ true → waiting_fits f n ws ≡ true → (expr_fits f n (joined level x ws).value ≡ true) × (waiting_fits f n (joined level x ws).waiting ≡ true)
joined_fits f n level x [] h g = (h, g)
joined_fits f n level x (Opened ∷ ws) h g = (h, g)
joined_fits f n level x (Before left o ∷ ws) h g =
    let a = and_parts (expr_fits f n left) (waiting_fits f n ws) g in
    cases (nat_le level (level_of o)) (joined_fits f n level (Join o left x) ws (and_from (expr_fits f n left) (expr_fits f n x) a.0 h) a.1)
  where
    cases : (b : Bool) → (expr_fits f n (joined level (Join o left x) ws).value ≡ true) × (waiting_fits f n (joined level (Join o left x) ws).waiting ≡ true)
        → (expr_fits f n (if b then joined level (Join o left x) ws else record { value = x; waiting = Before left o ∷ ws }).value ≡ true)
        × (waiting_fits f n (if b then joined level (Join o left x) ws else record { value = x; waiting = Before left o ∷ ws }).waiting ≡ true)
    cases true r = r
    cases false r = (h, g)

whole_fits : (f n : ℕ) (x : Expr) (ws : List Waiting) → expr_fits f n x ≡ true → SomeFits f n (whole x ws)
whole_fits f n x [] h = h
whole_fits f n x (w ∷ ws) h = tt

closed_fits : (f n : ℕ) (ws : List Waiting) (go : List Waiting → Option Expr) → waiting_fits f n ws ≡ true
    → ((rest : List Waiting) → waiting_fits f n rest ≡ true → SomeFits f n (go rest)) → SomeFits f n (with_some (closed ws) go)
closed_fits f n [] go h g = tt
closed_fits f n (Opened ∷ ws) go h g = g ws h
closed_fits f n (Before left o ∷ ws) go h g = tt

walk_fits : (f n : ℕ) (ms : List Token) (x : Option Expr) (ws : List Waiting) → list_all (token_fits f n) ms ≡ true → SomeFits f n x → waiting_fits f n ws ≡ true → SomeFits f n (walk x ws ms)
walk_fits f n [] None ws m h g = tt
walk_fits f n [] (Some x) ws m h g = let j = joined_fits f n 0 x ws h g in whole_fits f n (joined 0 x ws).value (joined 0 x ws).waiting j.0
walk_fits f n (token.Operand a ∷ ms) None ws m h g = let p = and_parts (atom_fits f n a) (list_all (token_fits f n) ms) m in walk_fits f n ms (Some (Leaf a)) ws p.1 p.0 g
walk_fits f n (token.Open ∷ ms) None ws m h g = walk_fits f n ms None (Opened ∷ ws) m tt g
walk_fits f n (token.Close ∷ ms) None ws m h g = tt
walk_fits f n (token.Sign o ∷ ms) None ws m h g = tt
walk_fits f n (token.Operand a ∷ ms) (Some x) ws m h g = tt
walk_fits f n (token.Open ∷ ms) (Some x) ws m h g = tt
walk_fits f n (token.Close ∷ ms) (Some x) ws m h g =
    let j = joined_fits f n 0 x ws h g in
    closed_fits f n (joined 0 x ws).waiting (λ rest. walk (Some (joined 0 x ws).value) rest ms) j.1 (λ rest r. walk_fits f n ms (Some (joined 0 x ws).value) rest m j.0 r)
walk_fits f n (token.Sign o ∷ ms) (Some x) ws m h g =
    let j = joined_fits f n (level_of o) x ws h g in
    walk_fits f n ms None (Before (joined (level_of o) x ws).value o ∷ (joined (level_of o) x ws).waiting) m tt
    (and_from (expr_fits f n (joined (level_of o) x ws).value) (waiting_fits f n (joined (level_of o) x ws).waiting) j.0 j.1)

or_fits : (f n : ℕ) (x : Option Expr) → SomeFits f n x → expr_fits f n (tree_or x) ≡ true
or_fits f n None h = refl
or_fits f n (Some x) h = h

-- words of expressions

abbrev pub is_expr_word : Word → Bool
is_expr_word w = (same_word w (codes "(") || same_word w (codes ")")) || (is_some (sign_of w) || is_operand w)

open_word : (w : Word) (ws : List Word) (n : ℕ) (b : Bool) → same_word w (codes "(") ≡ b
    → (if b then goes_on (n + 1) false ws else (is_operand w && goes_on n true ws)) ≡ true
    → (goes_on (n + 1) false ws ≡ true → list_all is_expr_word ws ≡ true) → (goes_on n true ws ≡ true → list_all is_expr_word ws ≡ true)
    → list_all is_expr_word (w ∷ ws) ≡ true
open_word w ws n true e h f g = and_from (is_expr_word w) (list_all is_expr_word ws) (or_left (same_word w (codes "(") || same_word w (codes ")")) _ (or_left (same_word w (codes "(")) _ e)) (f h)
open_word w ws n false e h f g =
    let a = and_parts (is_operand w) (goes_on n true ws) h in
    and_from (is_expr_word w) (list_all is_expr_word ws) (or_right (same_word w (codes "(") || same_word w (codes ")")) _ (or_right (is_some (sign_of w)) _ a.0)) (g a.1)

end_word : (w : Word) (ws : List Word) (n : ℕ) (b : Bool) → same_word w (codes ")") ≡ b
    → (if b then (nat_lt 0 n && goes_on (n - 1) true ws) else (is_some (sign_of w) && goes_on n false ws)) ≡ true
    → (goes_on (n - 1) true ws ≡ true → list_all is_expr_word ws ≡ true) → (goes_on n false ws ≡ true → list_all is_expr_word ws ≡ true)
    → list_all is_expr_word (w ∷ ws) ≡ true
end_word w ws n true e h f g =
    let a = and_parts (nat_lt 0 n) (goes_on (n - 1) true ws) h in
    and_from (is_expr_word w) (list_all is_expr_word ws) (or_left (same_word w (codes "(") || same_word w (codes ")")) _ (or_right (same_word w (codes "(")) _ e)) (f a.1)
end_word w ws n false e h f g =
    let a = and_parts (is_some (sign_of w)) (goes_on n false ws) h in
    and_from (is_expr_word w) (list_all is_expr_word ws) (or_right (same_word w (codes "(") || same_word w (codes ")")) _ (or_left (is_some (sign_of w)) _ a.0)) (g a.1)

words_on : (ws : List Word) (n : ℕ) (ended : Bool) → goes_on n ended ws ≡ true → list_all is_expr_word ws ≡ true
words_on [] n ended h = refl
words_on (w ∷ ws) n false h = open_word w ws n (same_word w (codes "(")) refl h (words_on ws (n + 1) false) (words_on ws n true)
words_on (w ∷ ws) n true h = end_word w ws n (same_word w (codes ")")) refl h (words_on ws (n - 1) true) (words_on ws n false)

pub expr_words : (ws : List Word) → is_expr ws ≡ true → list_all is_expr_word ws ≡ true
unfolding is_expr
expr_words ws h = words_on ws 0 false h

-- what words say

-- a word that names a value

abbrev pub Counts : Bool → Option ℕ → Type 0
Counts b None = Unit {0}
Counts b (Some n) = (b ≡ true) × (1 ≤ n)

negative_counts : (b : Bool) (n : ℕ) → Counts b (from_one_to_sixteen (negative n))
negative_counts b n = cases (nat_le n (2 ^ 63)) n where
  cases : (t : Bool) (n : ℕ) → Counts b (from_one_to_sixteen (if t then Some (neg_ℤ (pos n)) else None))
  cases false n = tt
  cases true zero = tt
  cases true (suc n) = tt

small_counts : (m : ℕ) → Counts true (if nat_le 1 m && nat_le m 16 then Some m else None)
small_counts m = cases (nat_le 1 m && nat_le m 16) refl where
  cases : (t : Bool) → (nat_le 1 m && nat_le m 16) ≡ t → Counts true (if t then Some m else None)
  cases true e = (refl, leb-true 1 m (and_parts (nat_le 1 m) (nat_le m 16) e).0)
  cases false e = tt

positive_counts : (n : ℕ) → Counts true (from_one_to_sixteen (positive n))
positive_counts n = cases (nat_lt n (2 ^ 63)) where
  cases : (t : Bool) → Counts true (from_one_to_sixteen (if t then Some (pos n) else None))
  cases true = small_counts n
  cases false = tt

unsigned_counts : (b : Bool) (f : ℕ → Option ℤ) (bs : List ℕ) → (are_digits bs ≡ true → (n : ℕ) → Counts b (from_one_to_sixteen (f n))) → Counts b (from_one_to_sixteen (unsigned_by f bs))
unsigned_counts b f bs g = cases (are_digits bs) refl where
  cases : (t : Bool) → are_digits bs ≡ t → Counts b (from_one_to_sixteen (if t then f (value_from 0 bs) else None))
  cases true e = g e (value_from 0 bs)
  cases false e = tt

digits_count : (bs : List ℕ) → Counts (are_digits bs) (from_one_to_sixteen (number_of bs))
digits_count [] = tt
digits_count (c ∷ cs) = cases (c == 45) where
  cases : (t : Bool) → Counts (are_digits (c ∷ cs)) (from_one_to_sixteen (if t then unsigned_by negative cs else unsigned_by positive (c ∷ cs)))
  cases true = unsigned_counts (are_digits (c ∷ cs)) negative cs (λ e n. negative_counts (are_digits (c ∷ cs)) n)
  cases false = unsigned_counts (are_digits (c ∷ cs)) positive (c ∷ cs) (λ e n. subst (λ (t : Bool). Counts t (from_one_to_sixteen (positive n))) (sym e) (positive_counts n))

unpadded_count : (bs : List ℕ) → Counts (are_digits bs) (unpadded bs)
unpadded_count [] = tt
unpadded_count (c ∷ cs) = cases (c == 48) where
  cases : (t : Bool) → Counts (are_digits (c ∷ cs)) (if t then None else from_one_to_sixteen (number_of (c ∷ cs)))
  cases true = tt
  cases false = digits_count (c ∷ cs)

pub field_counts : (w : Word) → Counts (is_value_word w) (field_number w)
unfolding field_number
field_counts [] = tt
field_counts (b ∷ bs) = cases (b == 118) where
  cases : (t : Bool) → Counts (t && are_digits bs) (if t then unpadded bs else None)
  cases true = unpadded_count bs
  cases false = tt

-- how many values the handler that is open has
abbrev pub values_of : Tables → ℕ
values_of t = if t.timer then 0 else fields_or t.fields

abbrev pub is_known : Tables → Word → Bool
is_known t w = not (is_unknown t w) && not (is_state t w)

up_to : (n : ℕ) (fields : Option ℕ) → is_up_to (Some n) fields ≡ true → n ≤ fields_or fields
up_to n None h = absurd (false≢true h)
up_to n (Some m) h = leb-true n m h

-- a value that is known
pub value_known : (t : Tables) (w : Word) → is_value_word w ≡ true → is_unknown_value t w ≡ false → (t.timer ≡ false) × (is_up_to (field_number w) t.fields ≡ true)
value_known t w v h =
    let a = or_parts t.timer (not (is_up_to (field_number w) t.fields)) (and_second (is_value_word w) _ v h) in
    (a.0, not-false (is_up_to (field_number w) t.fields) a.1)

field_fits : (t : Tables) (w : Word) (n : ℕ) → is_unknown_value t w ≡ false → field_number w ≡ Some n → nat_lt (n - 1) (values_of t) ≡ true
field_fits t w n h e =
    let c : Counts (is_value_word w) (Some n) = subst (Counts (is_value_word w)) e (field_counts w) in
    let v = value_known t w c.0 h in
    let low : n ≤ fields_or t.fields = up_to n t.fields (subst (λ (o : Option ℕ). is_up_to o t.fields ≡ true) e v.1) in
    let one : 1 ≤ n = c.1 in
    ap (λ (b : Bool). nat_lt (n - 1) (if b then 0 else fields_or t.fields)) v.0 ∙ lt-ltb (n - 1) (fields_or t.fields) (omega arith)

place_below : (n : ℕ) (ws : List Word) (w : Word) → mem w ws ≡ true → place_or (index_of n ws w) < n + length ws
place_below n [] w h = absurd (false≢true h)
place_below n (x ∷ xs) w h = cases (λ g. place_below (n + 1) xs w g) (same_word x w) h where
  cases : (mem w xs ≡ true → place_or (index_of (n + 1) xs w) < n + 1 + length xs) → (b : Bool) → (b || mem w xs) ≡ true → place_or (if b then Some n else index_of (n + 1) xs w) < n + length (x ∷ xs)
  cases go true g = omega arith
  cases go false g = let r = go g in omega arith

pub place_fits : (ws : List Word) (w : Word) → mem w ws ≡ true → place_in ws w < length ws
place_fits ws w h = let r : place_in ws w < 0 + length ws = place_below 0 ws w h in omega arith

number_case : (f n : ℕ) (o : Option ℤ) (a : Atom) → ((z : ℤ) → o ≡ Some z → is_number z ≡ true) → (o ≡ None → atom_fits f n a ≡ true) → atom_fits f n (number_or o a) ≡ true
number_case f n None a h g = g refl
number_case f n (Some z) a h g = h z refl

moment_case : (f n : ℕ) (o : Option Keyword) (a : Atom) → (is_moment o ≡ false → atom_fits f n a ≡ true) → atom_fits f n (moment_or o a) ≡ true
moment_case f n (Some k.Time) a g = refl
moment_case f n (Some k.Wm) a g = refl
moment_case f n _ a g = g refl

field_case : (f n : ℕ) (o : Option ℕ) (a : Atom) → ((i : ℕ) → o ≡ Some i → nat_lt (i - 1) f ≡ true) → (o ≡ None → atom_fits f n a ≡ true) → atom_fits f n (field_or o a) ≡ true
field_case f n None a h g = g refl
field_case f n (Some i) a h g = h i refl

-- an operand that is none of the others is a name
operand_name : (t : Tables) (w : Word) → is_operand w ≡ true → is_unknown_value t w ≡ false → number_of w ≡ None → is_moment (keyword_of w) ≡ false → field_number w ≡ None → is_name w ≡ true
unfolding is_operand
operand_name t w o u e m f =
    let no_value : is_value_word w ≡ false = cases (is_value_word w) refl in
    let some = or_first ((is_some (number_of w) || is_name w) || is_moment (keyword_of w)) (is_value_word w) no_value o in
    let named = or_first (is_some (number_of w) || is_name w) (is_moment (keyword_of w)) m some in
    or_second (is_some (number_of w)) (is_name w) (ap is_some e) named
  where
    cases : (b : Bool) → is_value_word w ≡ b → is_value_word w ≡ false
    cases true g = absurd (false≢true (sym (ap (λ (i : Option ℕ). is_up_to i t.fields) f) ∙ (value_known t w g u).1))
    cases false g = g

atom_known : (t : Tables) (names : List Word) (n : ℕ) (w : Word) → is_operand w ≡ true → is_known t w ≡ true → (mem w t.locals ≡ true → mem w names ≡ true) → length names ≤ n → atom_fits (values_of t) n (atom_of names w) ≡ true
atom_known t names n w o known more few =
    let parts = and_parts (not (is_unknown t w)) (not (is_state t w)) known in
    let u = or_parts (is_unknown_name t w) (is_unknown_value t w) (not-true (is_unknown t w) parts.0) in
    let f : ℕ = values_of t in
    let name : Atom = atom.Name (place_in names w) in
    number_case f n (number_of w) _ (number_fits w) (λ e.
    moment_case f n (keyword_of w) _ (λ m.
    field_case f n (field_number w) name (λ i. field_fits t w i u.1) (λ g.
    let named = operand_name t w o u.1 e m g in
    let there = or_second (is_state t w) (is_local t w) (not-true (is_state t w) parts.1) (not-false (is_state t w || is_local t w) (and_second (is_name w) _ named u.0)) in
    let low : place_in names w < length names = place_fits names w (more there) in
    lt-ltb (place_in names w) n (omega arith))))

sign_case : (f n : ℕ) (o : Option Op) (m : Token) → (o ≡ None → token_fits f n m ≡ true) → token_fits f n (sign_or o m) ≡ true
sign_case f n None m g = g refl
sign_case f n (Some o) m g = refl

token_known : (t : Tables) (names : List Word) (n : ℕ) (w : Word) → is_expr_word w ≡ true → is_known t w ≡ true → (mem w t.locals ≡ true → mem w names ≡ true) → length names ≤ n → token_fits (values_of t) n (token_of names w) ≡ true
unfolding token_of
token_known t names n w e known more few = cases (same_word w (codes "(")) refl where
  last : (b : Bool) → same_word w (codes "(") ≡ false → same_word w (codes ")") ≡ b → token_fits (values_of t) n (if b then token.Close else sign_or (sign_of w) (token.Operand (atom_of names w))) ≡ true
  last true p q = refl
  last false p q = sign_case (values_of t) n (sign_of w) (token.Operand (atom_of names w)) (λ s.
      let rest = or_second (same_word w (codes "(") || same_word w (codes ")")) _ (ap (λ (b : Bool). b || same_word w (codes ")")) p ∙ q) e in
      atom_known t names n w (or_second (is_some (sign_of w)) (is_operand w) (ap is_some s) rest) known more few)

  cases : (b : Bool) → same_word w (codes "(") ≡ b → token_fits (values_of t) n (if b then token.Open else (if same_word w (codes ")") then token.Close else sign_or (sign_of w) (token.Operand (atom_of names w)))) ≡ true
  cases true p = refl
  cases false p = last (same_word w (codes ")")) p refl

abbrev pub Known : Tables → List Word → Type 0
Known t names = (w : Word) → mem w t.locals ≡ true → mem w names ≡ true

tokens_known : (t : Tables) (names : List Word) (n : ℕ) (ws : List Word) → list_all is_expr_word ws ≡ true → list_all (is_known t) ws ≡ true → Known t names → length names ≤ n → list_all (token_fits (values_of t) n) (map (token_of names) ws) ≡ true
tokens_known t names n [] e known more few = refl
tokens_known t names n (w ∷ ws) e known more few =
    let a = and_parts (is_expr_word w) (list_all is_expr_word ws) e in
    let b = and_parts (is_known t w) (list_all (is_known t) ws) known in
    and_from (token_fits (values_of t) n (token_of names w)) (list_all (token_fits (values_of t) n) (map (token_of names) ws)) (token_known t names n w a.0 b.0 (more w) few) (tokens_known t names n ws a.1 b.1 more few)

-- an expression of known words
pub expr_known : (t : Tables) (names : List Word) (n : ℕ) (ws : List Word) → is_expr ws ≡ true → list_all (is_known t) ws ≡ true → Known t names → length names ≤ n → expr_fits (values_of t) n (tree_in names ws) ≡ true
unfolding tree_in
expr_known t names n ws e known more few =
    or_fits (values_of t) n (tree_of (map (token_of names) ws)) (walk_fits (values_of t) n (map (token_of names) ws) None [] (tokens_known t names n ws (expr_words ws e) known more few) tt refl)

pub all_known : (t : Tables) (ws : List Word) → list_any (is_unknown t) ws ≡ false → list_any (is_state t) ws ≡ false → list_all (is_known t) ws ≡ true
all_known t [] u s = refl
all_known t (w ∷ ws) u s =
    let a = or_parts (is_unknown t w) (list_any (is_unknown t) ws) u in
    let b = or_parts (is_state t w) (list_any (is_state t) ws) s in
    and_from (is_known t w) (list_all (is_known t) ws) (and_from (not (is_unknown t w)) (not (is_state t w)) (not_from_false (is_unknown t w) a.0) (not_from_false (is_state t w) b.0)) (all_known t ws a.1 b.1)

-- expressions with commas between them

onto_all : (p : Word → Bool) (w : Word) (ps : List (List Word)) → p w ≡ true → list_all (list_all p) ps ≡ true → list_all (list_all p) (onto_first w ps) ≡ true
onto_all p w [] h g = and_from (list_all p (w ∷ [])) true (and_from (p w) true h refl) refl
onto_all p w (q ∷ qs) h g =
    let a = and_parts (list_all p q) (list_all (list_all p) qs) g in
    and_from (list_all p (w ∷ q)) (list_all (list_all p) qs) (and_from (p w) (list_all p q) h a.0) a.1

pub parts_all : (p : Word → Bool) (ws : List Word) → list_all p ws ≡ true → list_all (list_all p) (parts_of ws) ≡ true
parts_all p [] h = refl
parts_all p (w ∷ ws) h =
    let a = and_parts (p w) (list_all p ws) h in
    cases (same_word w (codes ",")) a.0 (parts_all p ws a.1)
  where
    cases : (b : Bool) → p w ≡ true → list_all (list_all p) (parts_of ws) ≡ true → list_all (list_all p) (if b then [] ∷ parts_of ws else onto_first w (parts_of ws)) ≡ true
    cases true x y = y
    cases false x y = onto_all p w (parts_of ws) x y

trees_known : (t : Tables) (names : List Word) (n : ℕ) (ps : List (List Word)) → list_all is_expr ps ≡ true → list_all (list_all (is_known t)) ps ≡ true → Known t names → length names ≤ n → list_all (expr_fits (values_of t) n) (map (tree_in names) ps) ≡ true
trees_known t names n [] e known more few = refl
trees_known t names n (p ∷ ps) e known more few =
    let a = and_parts (is_expr p) (list_all is_expr ps) e in
    let b = and_parts (list_all (is_known t) p) (list_all (list_all (is_known t)) ps) known in
    and_from (expr_fits (values_of t) n (tree_in names p)) (list_all (expr_fits (values_of t) n) (map (tree_in names) ps)) (expr_known t names n p a.0 b.0 more few) (trees_known t names n ps a.1 b.1 more few)

-- 1 to 16 expressions of known words
pub exprs_known : (t : Tables) (names : List Word) (n : ℕ) (ws : List Word) → is_exprs ws ≡ true → list_all (is_known t) ws ≡ true → Known t names → length names ≤ n → exprs_fit (values_of t) n (map (tree_in names) (parts_of ws)) ≡ true
unfolding is_exprs
exprs_known t names n ws e known more few =
    let a = and_parts (list_all is_expr (parts_of ws)) (nat_le (length (parts_of ws)) 16) e in
    let values = map (tree_in names) (parts_of ws) in
    let same : length (parts_of ws) ≡ length values = sym (length-map (parts_of ws) (tree_in names)) in
    let some : 1 ≤ length (parts_of ws) = parts_of_some ws in
    and_from (nat_le 1 (length values) && nat_le (length values) 16) (list_all (expr_fits (values_of t) n) values)
    (subst (λ (m : ℕ). (nat_le 1 m && nat_le m 16) ≡ true) same (and_from (nat_le 1 (length (parts_of ws))) (nat_le (length (parts_of ws)) 16) (le-leb 1 (length (parts_of ws)) some) a.1))
    (trees_known t names n (parts_of ws) a.0 (parts_all (is_known t) ws known) more few)
