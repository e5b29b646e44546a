-- The names that a tree reads are those of its words, in order.
use Rattle.std.proofs.Common.{◌≡◌, ◌∙◌, ℕ, ◌+◌, ℤ, List, [], ◌∷◌, ◌++◌, map, refl, sym, ap, subst, Bool, true, false, not, ◌&&◌, ◌||◌, nat_le, ◌==◌, Option, Some, None, is_some, is_none, if◌then◌else◌, append_assoc, append-nil, arith}
use Rattle.std.specs.List.{list_all}
use Rattle.std.proofs.lemmas.Bool.{and_parts, true≢false, false≢true, or_left, not-true}
use Rattle.std.proofs.lemmas.Bool.Decides.{nat_tests}
use lib.Chars.{codes}
use Rattle.ax_base.specs.Numbers.{is_digit, negative, positive, unsigned_by, number_of, value_from}
use Rattle.ax_text.specs.declared.vocabulary.Op.{Op}
use Rattle.ax_text.specs.declared.vocabulary.Atom.{Atom}
use Rattle.ax_text.specs.declared.vocabulary.Atom.TheVariants as atom
use Rattle.ax_text.specs.declared.vocabulary.Keyword.{Keyword}
use Rattle.ax_text.specs.declared.vocabulary.Keyword.TheVariants as k
use Rattle.ax_text.specs.Names.{Word, same_word, is_letter, is_name_byte, is_lettered, keyword_of, is_value_word, is_name, mem}
use Rattle.ax_text.specs.Exprs.{Expr, Leaf, Join}
use Rattle.ax_text.specs.Prints.{name_in, names_in, names_in_all}
use Rattle.ax_syntax.specs.Words.{field_number, sign_of, is_moment, is_operand}
use Rattle.ax_syntax.specs.Shapes.{is_expr, is_exprs, onto_first, parts_of}
use Rattle.ax_expr.specs.declared.tree.Token.{Token}
use Rattle.ax_expr.specs.declared.tree.Token.TheVariants as token
use Rattle.ax_expr.specs.Levels.{level_of}
use Rattle.ax_expr.specs.Reading.{Waiting, Opened, Before, joined, whole, closed, with_some, walk, tree_of}
use Rattle.ax_rules.specs.Parts.{numbers_in, onto, index_of}
use Rattle.ax_lang.specs.Rows.{place_or, place_in, number_or, moment_or, field_or, atom_of, sign_or, token_of, tree_or, tree_in}
use Rattle.ax_lang.proofs.TokenLemmas.{if_false, apart, same_equal, sign_none, token_open, token_close, token_rest, has_tree}
use Rattle.ax_lang.proofs.ExprLemmas.{Counts, field_counts, is_expr_word, expr_words}

-- trees of tokens

abbrev token_names : Token → List ℕ
token_names (token.Operand a) = name_in a
token_names token.Open = []
token_names token.Close = []
token_names (token.Sign o) = []

abbrev tokens_names : List Token → List ℕ
tokens_names [] = []
tokens_names (m ∷ ms) = token_names m ++ tokens_names ms

-- what stands on the left of an operand, in order
abbrev waiting_names : List Waiting → List ℕ
waiting_names [] = []
waiting_names (Opened ∷ ws) = waiting_names ws
waiting_names (Before left o ∷ ws) = waiting_names ws ++ names_in left

abbrev some_names : Option Expr → List ℕ
some_names None = []
some_names (Some x) = names_in x

abbrev SomeNames : List ℕ → Option Expr → Type 0
SomeNames ns None = Unit {0}
SomeNames ns (Some t) = names_in t ≡ ns

joined_names : (level : ℕ) (x : Expr) (ws : List Waiting) → (waiting_names (joined level x ws).waiting ++ names_in (joined level x ws).value) ≡ (waiting_names ws ++ names_in x)
joined_names level x [] = refl
joined_names level x (Opened ∷ ws) = refl
joined_names level x (Before left o ∷ ws) = cases (nat_le level (level_of o)) (joined_names level (Join o left x) ws) where
  cases : (b : Bool) → (waiting_names (joined level (Join o left x) ws).waiting ++ names_in (joined level (Join o left x) ws).value) ≡ (waiting_names ws ++ (names_in left ++ names_in x))
      → (waiting_names (if b then joined level (Join o left x) ws else record { value = x; waiting = Before left o ∷ ws }).waiting
      ++ names_in (if b then joined level (Join o left x) ws else record { value = x; waiting = Before left o ∷ ws }).value) ≡ ((waiting_names ws ++ names_in left) ++ names_in x)
  cases true h = h ∙ sym (append_assoc (waiting_names ws) (names_in left) (names_in x))
  cases false h = refl

whole_names : (ns : List ℕ) (x : Expr) (ws : List Waiting) → ns ≡ (waiting_names ws ++ names_in x) → SomeNames ns (whole x ws)
whole_names ns x [] h = sym h
whole_names ns x (w ∷ ws) h = tt

closed_names : (ns : List ℕ) (ws : List Waiting) (go : List Waiting → Option Expr) → ((rest : List Waiting) → waiting_names ws ≡ waiting_names rest → SomeNames ns (go rest)) → SomeNames ns (with_some (closed ws) go)
closed_names ns [] go g = tt
closed_names ns (Opened ∷ ws) go g = g ws refl
closed_names ns (Before left o ∷ ws) go g = tt

-- what was read moves to the operand on the left
moved : (ns : List ℕ) (level : ℕ) (x : Expr) (ws : List Waiting) (ms : List ℕ) → ns ≡ (waiting_names ws ++ (names_in x ++ ms)) → ns ≡ ((waiting_names (joined level x ws).waiting ++ names_in (joined level x ws).value) ++ ms)
moved ns level x ws ms h = h ∙ (sym (append_assoc (waiting_names ws) (names_in x) ms) ∙ ap (λ (is : List ℕ). is ++ ms) (sym (joined_names level x ws)))

walk_names : (ms : List Token) (o : Option Expr) (ws : List Waiting) (ns : List ℕ) → ns ≡ (waiting_names ws ++ (some_names o ++ tokens_names ms)) → SomeNames ns (walk o ws ms)
walk_names [] None ws ns h = tt
walk_names [] (Some x) ws ns h = whole_names ns (joined 0 x ws).value (joined 0 x ws).waiting (h ∙ (ap (λ (is : List ℕ). waiting_names ws ++ is) (append-nil (names_in x)) ∙ sym (joined_names 0 x ws)))
walk_names (token.Operand a ∷ ms) None ws ns h = walk_names ms (Some (Leaf a)) ws ns h
walk_names (token.Open ∷ ms) None ws ns h = walk_names ms None (Opened ∷ ws) ns h
walk_names (token.Close ∷ ms) None ws ns h = tt
walk_names (token.Sign o ∷ ms) None ws ns h = tt
walk_names (token.Operand a ∷ ms) (Some x) ws ns h = tt
walk_names (token.Open ∷ ms) (Some x) ws ns h = tt
walk_names (token.Close ∷ ms) (Some x) ws ns h =
    closed_names ns (joined 0 x ws).waiting (λ rest. walk (Some (joined 0 x ws).value) rest ms) (λ rest e.
    walk_names ms (Some (joined 0 x ws).value) rest ns
    (moved ns 0 x ws (tokens_names ms) h
    ∙ (append_assoc (waiting_names (joined 0 x ws).waiting) (names_in (joined 0 x ws).value) (tokens_names ms)
    ∙ ap (λ (is : List ℕ). is ++ (names_in (joined 0 x ws).value ++ tokens_names ms)) e)))
walk_names (token.Sign o ∷ ms) (Some x) ws ns h =
    walk_names ms None (Before (joined (level_of o) x ws).value o ∷ (joined (level_of o) x ws).waiting) ns (moved ns (level_of o) x ws (tokens_names ms) h)

tree_names : (ms : List Token) (t : Expr) → tree_of ms ≡ Some t → names_in (tree_or (tree_of ms)) ≡ tokens_names ms
tree_names ms t e = ap (λ (o : Option Expr). names_in (tree_or o)) e ∙ subst (SomeNames (tokens_names ms)) e (walk_names ms None [] (tokens_names ms) refl)

-- words

is_none_none : {A : Type 0} (o : Option A) → is_none o ≡ true → o ≡ None
is_none_none None h = refl
is_none_none (Some x) h = absurd (false≢true h)

-- a word that is no name isn't among names
pub not_there : (names : List Word) (w : Word) (n : ℕ) → list_all is_name names ≡ true → is_name w ≡ false → index_of n names w ≡ None
not_there [] w n h f = refl
not_there (x ∷ xs) w n h f =
    let a = and_parts (is_name x) (list_all is_name xs) h in
    if_false (same_word x w) _ _ (apart is_name x w f a.0) ∙ not_there xs w (n + 1) a.1 f

pub there : (names : List Word) (w : Word) (n : ℕ) → mem w names ≡ true → index_of n names w ≡ Some (place_or (index_of n names w))
there [] w n h = absurd (false≢true h)
there (x ∷ xs) w n h = cases (same_word x w) h (there xs w (n + 1)) where
  cases : (b : Bool) → (b || mem w xs) ≡ true → (mem w xs ≡ true → index_of (n + 1) xs w ≡ Some (place_or (index_of (n + 1) xs w)))
      → (if b then Some n else index_of (n + 1) xs w) ≡ Some (place_or (if b then Some n else index_of (n + 1) xs w))
  cases true g go = refl
  cases false g go = go g

letter_no_digit : (b : ℕ) → is_letter b ≡ true → ((b == 45) ≡ false) × (is_digit b ≡ false)
letter_no_digit b h = (grind (arith, nat_tests), grind (arith, nat_tests))

-- a word that begins with a letter spells no number
pub lettered_number : (w : Word) → is_lettered w ≡ true → number_of w ≡ None
lettered_number [] h = refl
lettered_number (b ∷ bs) h =
    let a = and_parts (is_letter b && list_all is_name_byte bs) _ h in
    let l = letter_no_digit b (and_parts (is_letter b) (list_all is_name_byte bs) a.0).0 in
    if_false (b == 45) (unsigned_by negative bs) (unsigned_by positive (b ∷ bs)) l.0
    ∙ ap (λ (t : Bool). if (t && list_all is_digit bs) then positive (value_from 0 (b ∷ bs)) else None) l.1

-- a name is no value of the row
no_field : (w : Word) → is_value_word w ≡ false → field_number w ≡ None
no_field w h = cases (field_number w) refl where
  cases : (o : Option ℕ) → field_number w ≡ o → o ≡ None
  cases None e = refl
  cases (Some n) e =
      let c : Counts (is_value_word w) (Some n) = subst (Counts (is_value_word w)) e (field_counts w) in
      absurd (true≢false (sym c.0 ∙ h))

pub name_atom : (locals : List Word) (w : Word) → is_name w ≡ true → atom_of locals w ≡ atom.Name (place_in locals w)
unfolding is_name
name_atom locals w h =
    let a = and_parts (is_lettered w && is_none (keyword_of w)) (not (is_value_word w)) h in
    let b = and_parts (is_lettered w) (is_none (keyword_of w)) a.0 in
    let name : Atom = atom.Name (place_in locals w) in
    ap (λ (o : Option ℤ). number_or o (moment_or (keyword_of w) (field_or (field_number w) name))) (lettered_number w b.0)
    ∙ (ap (λ (o : Option Keyword). moment_or o (field_or (field_number w) name)) (is_none_none (keyword_of w) b.1)
    ∙ ap (λ (o : Option ℕ). field_or o name) (no_field w (not-true (is_value_word w) a.1)))

number_case : (o : Option ℤ) (a : Atom) → (o ≡ None → name_in a ≡ []) → name_in (number_or o a) ≡ []
number_case None a g = g refl
number_case (Some n) a g = refl

moment_case : (o : Option Keyword) (a : Atom) → (is_moment o ≡ false → name_in a ≡ []) → name_in (moment_or o a) ≡ []
moment_case None a g = g refl
moment_case (Some k.Time) a g = refl
moment_case (Some k.Wm) a g = refl
moment_case (Some _) a g = g refl

field_case : (o : Option ℕ) (a : Atom) → (o ≡ None → name_in a ≡ []) → name_in (field_or o a) ≡ []
field_case None a g = g refl
field_case (Some n) a g = refl

-- a number, `time`, `wm`, or a value of the row
nothing_else : (a b c d : Bool) → (((a || b) || c) || d) ≡ true → a ≡ false → b ≡ false → c ≡ false → d ≡ true
nothing_else true b c d h e f g = absurd (true≢false e)
nothing_else false true c d h e f g = absurd (true≢false f)
nothing_else false false true d h e f g = absurd (true≢false g)
nothing_else false false false d h e f g = h

other_atom : (locals : List Word) (w : Word) → is_name w ≡ false → is_operand w ≡ true → (is_value_word w ≡ true → is_some (field_number w) ≡ true) → name_in (atom_of locals w) ≡ []
unfolding is_operand
other_atom locals w h o v =
    number_case (number_of w) _ (λ e.
    moment_case (keyword_of w) _ (λ m.
    field_case (field_number w) (atom.Name (place_in locals w)) (λ f.
    let value = nothing_else (is_some (number_of w)) (is_name w) (is_moment (keyword_of w)) (is_value_word w) o (ap is_some e) h m in
    absurd (false≢true (sym (ap is_some f) ∙ v value)))))

-- a name that a word reads has a number, and a value that it reads is there
abbrev pub Readable : List Word → Word → Type 0
Readable names w = (is_name w ≡ true → mem w names ≡ true) × (is_value_word w ≡ true → is_some (field_number w) ≡ true)

operand_names : (locals : List Word) (w : Word) → list_all is_name locals ≡ true → is_operand w ≡ true → Readable locals w → name_in (atom_of locals w) ≡ onto (index_of 0 locals w) []
operand_names locals w n o r = cases (is_name w) refl where
  cases : (b : Bool) → is_name w ≡ b → name_in (atom_of locals w) ≡ onto (index_of 0 locals w) []
  cases true e = ap name_in (name_atom locals w e) ∙ sym (ap (λ (i : Option ℕ). onto i []) (there locals w 0 (r.0 e)))
  cases false e = other_atom locals w e o r.1 ∙ sym (ap (λ (i : Option ℕ). onto i []) (not_there locals w 0 n e))

-- a sign is no name
pub sign_no_name : (w : Word) (o : Op) → sign_of w ≡ Some o → is_name w ≡ false
unfolding is_operand
sign_no_name w o e = cases (is_name w) refl where
  cases : (b : Bool) → is_name w ≡ b → b ≡ false
  cases true h = absurd (true≢false (sym (ap is_some e) ∙ ap is_some (sign_none w (is_operand_name (is_some (number_of w)) (is_name w) (is_moment (keyword_of w)) (is_value_word w) h)))) where
    is_operand_name : (a b c d : Bool) → b ≡ true → (((a || b) || c) || d) ≡ true
    is_operand_name true b c d h = refl
    is_operand_name false true c d h = refl
    is_operand_name false false c d h = absurd (false≢true h)
  cases false h = refl

silent_word : (locals : List Word) (w : Word) (m : Token) → list_all is_name locals ≡ true → is_name w ≡ false → token_of locals w ≡ m → token_names m ≡ [] → token_names (token_of locals w) ≡ onto (index_of 0 locals w) []
silent_word locals w m n f e h = ap token_names e ∙ (h ∙ sym (ap (λ (i : Option ℕ). onto i []) (not_there locals w 0 n f)))

bracket_no_name : (w : Word) → (same_word w (codes "(") || same_word w (codes ")")) ≡ true → is_name w ≡ false
unfolding is_name keyword_of
bracket_no_name w h = cases (same_word w (codes "(")) refl h where
  cases : (b : Bool) → same_word w (codes "(") ≡ b → (b || same_word w (codes ")")) ≡ true → is_name w ≡ false
  cases true e g = ap is_name (same_equal w (codes "(") e)
  cases false e g = ap is_name (same_equal w (codes ")") g)

word_names : (locals : List Word) (w : Word) → list_all is_name locals ≡ true → is_expr_word w ≡ true → Readable locals w → token_names (token_of locals w) ≡ onto (index_of 0 locals w) []
word_names locals w n x r = cases (same_word w (codes "(")) (same_word w (codes ")")) refl refl where
  signs : (o : Option Op) → same_word w (codes "(") ≡ false → same_word w (codes ")") ≡ false → sign_of w ≡ o → (is_some o || is_operand w) ≡ true → token_names (sign_or o (token.Operand (atom_of locals w))) ≡ onto (index_of 0 locals w) []
  signs (Some o) p q e g = sym (ap (λ (i : Option ℕ). onto i []) (not_there locals w 0 n (sign_no_name w o e)))
  signs None p q e g = operand_names locals w n g r

  cases : (b c : Bool) → same_word w (codes "(") ≡ b → same_word w (codes ")") ≡ c → token_names (token_of locals w) ≡ onto (index_of 0 locals w) []
  cases true c p q = silent_word locals w token.Open n (bracket_no_name w (or_left (same_word w (codes "(")) (same_word w (codes ")")) p)) (token_open locals w p) refl
  cases false true p q = silent_word locals w token.Close n (bracket_no_name w (ap (λ (t : Bool). t || same_word w (codes ")")) p ∙ q)) (token_close locals w q) refl
  cases false false p q =
      ap token_names (token_rest locals w p q)
      ∙ signs (sign_of w) p q refl (ap (λ (t : Bool). t || (is_some (sign_of w) || is_operand w)) (sym (ap (λ (t : Bool). t || same_word w (codes ")")) p ∙ q)) ∙ x)

-- words that each is readable
abbrev pub AllReadable : List Word → List Word → Type 0
AllReadable names [] = Unit {0}
AllReadable names (w ∷ ws) = Readable names w × AllReadable names ws

onto_append : (i : Option ℕ) (is : List ℕ) → (onto i [] ++ is) ≡ onto i is
onto_append None is = refl
onto_append (Some i) is = refl

words_names : (locals ws : List Word) → list_all is_name locals ≡ true → list_all is_expr_word ws ≡ true → AllReadable locals ws → tokens_names (map (token_of locals) ws) ≡ numbers_in locals ws
words_names locals [] n x r = refl
words_names locals (w ∷ ws) n x r =
    let a = and_parts (is_expr_word w) (list_all is_expr_word ws) x in
    ap (λ (is : List ℕ). is ++ tokens_names (map (token_of locals) ws)) (word_names locals w n a.0 r.0)
    ∙ (onto_append (index_of 0 locals w) (tokens_names (map (token_of locals) ws))
    ∙ ap (onto (index_of 0 locals w)) (words_names locals ws n a.1 r.1))

-- the names of an expression
pub expr_names : (locals ws : List Word) → list_all is_name locals ≡ true → is_expr ws ≡ true → AllReadable locals ws → names_in (tree_in locals ws) ≡ numbers_in locals ws
unfolding tree_in
expr_names locals ws n x r =
    let t = has_tree locals ws x in
    tree_names (map (token_of locals) ws) t.0 t.1 ∙ words_names locals ws n (expr_words ws x) r

-- expressions with commas between them

abbrev parts_numbers : List Word → List (List Word) → List ℕ
parts_numbers names [] = []
parts_numbers names (p ∷ ps) = numbers_in names p ++ parts_numbers names ps

onto_numbers : (names : List Word) (w : Word) (ps : List (List Word)) → parts_numbers names (onto_first w ps) ≡ onto (index_of 0 names w) (parts_numbers names ps)
onto_numbers names w [] = append-nil (onto (index_of 0 names w) [])
onto_numbers names w (p ∷ ps) = cases (index_of 0 names w) where
  cases : (i : Option ℕ) → (onto i (numbers_in names p) ++ parts_numbers names ps) ≡ onto i (numbers_in names p ++ parts_numbers names ps)
  cases None = refl
  cases (Some i) = refl

comma_no_name : (w : Word) → same_word w (codes ",") ≡ true → is_name w ≡ false
unfolding is_name keyword_of
comma_no_name w h = ap is_name (same_equal w (codes ",") h)

parts_all_numbers : (names ws : List Word) → list_all is_name names ≡ true → parts_numbers names (parts_of ws) ≡ numbers_in names ws
parts_all_numbers names [] n = refl
parts_all_numbers names (w ∷ ws) n = cases (parts_all_numbers names ws n) (same_word w (codes ",")) refl where
  cases : parts_numbers names (parts_of ws) ≡ numbers_in names ws → (b : Bool) → same_word w (codes ",") ≡ b → parts_numbers names (if b then [] ∷ parts_of ws else onto_first w (parts_of ws)) ≡ onto (index_of 0 names w) (numbers_in names ws)
  cases h true e = h ∙ sym (ap (λ (i : Option ℕ). onto i (numbers_in names ws)) (not_there names w 0 n (comma_no_name w e)))
  cases h false e = onto_numbers names w (parts_of ws) ∙ ap (onto (index_of 0 names w)) h

abbrev AllPartsReadable : List Word → List (List Word) → Type 0
AllPartsReadable names [] = Unit {0}
AllPartsReadable names (p ∷ ps) = AllReadable names p × AllPartsReadable names ps

onto_readable : (names : List Word) (w : Word) (ps : List (List Word)) → Readable names w → AllPartsReadable names ps → AllPartsReadable names (onto_first w ps)
onto_readable names w [] r h = ((r, tt), tt)
onto_readable names w (p ∷ ps) r h = ((r, h.0), h.1)

parts_readable : (names ws : List Word) → AllReadable names ws → AllPartsReadable names (parts_of ws)
parts_readable names [] r = (tt, tt)
parts_readable names (w ∷ ws) r = cases (parts_readable names ws r.1) (same_word w (codes ",")) where
  cases : AllPartsReadable names (parts_of ws) → (b : Bool) → AllPartsReadable names (if b then [] ∷ parts_of ws else onto_first w (parts_of ws))
  cases h true = (tt, h)
  cases h false = onto_readable names w (parts_of ws) r.0 h

trees_names : (locals : List Word) (ps : List (List Word)) → list_all is_name locals ≡ true → list_all is_expr ps ≡ true → AllPartsReadable locals ps → names_in_all (map (tree_in locals) ps) ≡ parts_numbers locals ps
trees_names locals [] n x r = refl
trees_names locals (p ∷ ps) n x r =
    let a = and_parts (is_expr p) (list_all is_expr ps) x in
    ap (λ (is : List ℕ). is ++ names_in_all (map (tree_in locals) ps)) (expr_names locals p n a.0 r.0)
    ∙ ap (λ (is : List ℕ). numbers_in locals p ++ is) (trees_names locals ps n a.1 r.1)

-- the names of expressions with commas between them
pub exprs_names : (locals ws : List Word) → list_all is_name locals ≡ true → is_exprs ws ≡ true → AllReadable locals ws → names_in_all (map (tree_in locals) (parts_of ws)) ≡ numbers_in locals ws
unfolding is_exprs
exprs_names locals ws n x r =
    trees_names locals (parts_of ws) n (and_parts (list_all is_expr (parts_of ws)) _ x).0 (parts_readable locals ws r)
    ∙ parts_all_numbers locals ws n
