-- Words are read as the expression that they spell.
use Rattle.std.proofs.Common.{◌≡◌, ◌∙◌, ℕ, ◌+◌, ◌-◌, ◌≤◌, ◌<◌, ℤ, List, [], ◌∷◌, map, refl, sym, ap, subst, arith, Bool, true, false, not, ◌&&◌, ◌||◌, ◌==◌, nat_lt, Option, Some, None, is_some, is_none, if◌then◌else◌}
use Rattle.std.specs.List.{list_all}
use Rattle.std.proofs.lemmas.Bool.{and_parts, and_from, eqb-true, true≢false, false≢true, leb-true, le-leb, not-true, or_left, or_right}
use Rattle.std.proofs.lemmas.Option.{none-some}
use lib.Chars.{codes}
use Rattle.ax_base.specs.Numbers.{are_digits, number_of}
use Rattle.ax_text.specs.declared.vocabulary.Op.{Op}
use Rattle.ax_text.specs.declared.vocabulary.Atom.{Atom}
use Rattle.ax_text.specs.declared.vocabulary.Atom.TheVariants as atom
use Rattle.ax_text.specs.declared.vocabulary.Keyword.{Keyword}
use Rattle.ax_text.specs.declared.vocabulary.Keyword.TheVariants as k
use Rattle.ax_text.specs.Names.{Word, same_word, is_lettered, keyword_of, is_value_word, is_name, mem}
use Rattle.ax_text.specs.Exprs.{Expr}
use Rattle.ax_syntax.specs.Words.{field_number, sign_of, is_moment, is_operand}
use Rattle.ax_syntax.specs.Shapes.{goes_on, is_expr}
use Rattle.ax_expr.specs.declared.tree.Token.{Token}
use Rattle.ax_expr.specs.declared.tree.Token.TheVariants as token
use Rattle.ax_expr.specs.Balance.{goes_on as balances}
use Rattle.ax_expr.specs.Reading.{tree_of}
use Rattle.ax_expr.specs.Grammar.{Spells}
use Rattle.ax_expr.proofs.GrammarLemmas.{is_reading}
use Rattle.ax_expr.proofs.DerivationLemmas.{is_grammatical, spells_where_balanced}
use Rattle.ax_rules.specs.Parts.{index_of}
use Rattle.ax_rules.specs.Faults.{is_up_to}
use Rattle.ax_lang.specs.Rows.{place_or, place_in, number_or, moment_or, field_or, atom_of, sign_or, token_of, tree_or, tree_in}
use Rattle.ax_lang.specs.Spelling.{Operands, Says, Say, WordsSpell, HasForm, StandsFor, is_there, TestsForm, ReadsSpelled, SpellOne}
use Rattle.ax_lang.proofs.TokenLemmas.{if_false, apart, same_equal, sign_none, token_rest, has_tree}
use Rattle.ax_lang.proofs.ExprLemmas.{Counts, field_counts, is_expr_word, expr_words}
use Rattle.ax_lang.proofs.PrintLemmas.{there, lettered_number, name_atom, sign_no_name}

-- the test goes on as tokens balance

operand_at : (w : Word) (ws : List Word) (n : ℕ) → is_operand w ≡ true → goes_on n true ws ≡ true → goes_on n false (w ∷ ws) ≡ true
unfolding is_operand is_name keyword_of
operand_at w ws n o h = if_false (same_word w (codes "(")) (goes_on (n + 1) false ws) (is_operand w && goes_on n true ws) (apart is_operand w (codes "(") refl o) ∙ and_from (is_operand w) (goes_on n true ws) o h

sign_at : (w : Word) (ws : List Word) (n : ℕ) (o : Op) → sign_of w ≡ Some o → goes_on n false ws ≡ true → goes_on n true (w ∷ ws) ≡ true
unfolding sign_of
sign_at w ws n o e h =
    if_false (same_word w (codes ")")) (nat_lt 0 n && goes_on (n - 1) true ws) (is_some (sign_of w) && goes_on n false ws) (apart (λ v. is_some (sign_of v)) w (codes ")") refl (ap is_some e))
    ∙ and_from (is_some (sign_of w)) (goes_on n false ws) (ap is_some e) h

say_goes : (P : Operands) → ((w : Word) (a : Atom) → P w a → is_operand w ≡ true) → (ms : List Token) (ws : List Word) (n : ℕ) (ended : Bool) → Say P ws ms → balances n ended ms ≡ true → goes_on n ended ws ≡ true
say_goes P f [] [] n ended s h = h
say_goes P f [] (w ∷ ws) n ended s h = absurd s
say_goes P f (m ∷ ms) [] n ended s h = absurd s
say_goes P f (token.Operand a ∷ ms) (w ∷ ws) n false s h = operand_at w ws n (f w a s.0) (say_goes P f ms ws n true s.1 h)
say_goes P f (token.Operand a ∷ ms) (w ∷ ws) n true s h = absurd (false≢true h)
say_goes P f (token.Open ∷ ms) (w ∷ ws) n false s h = subst (λ (v : Word). goes_on n false (v ∷ ws) ≡ true) (sym s.0) (say_goes P f ms ws (n + 1) false s.1 h)
say_goes P f (token.Open ∷ ms) (w ∷ ws) n true s h = absurd (false≢true h)
say_goes P f (token.Close ∷ ms) (w ∷ ws) n false s h = absurd (false≢true h)
say_goes P f (token.Close ∷ ms) (w ∷ ws) n true s h =
    let a = and_parts (nat_lt 0 n) (balances (n - 1) true ms) h in
    subst (λ (v : Word). goes_on n true (v ∷ ws) ≡ true) (sym s.0) (and_from (nat_lt 0 n) (goes_on (n - 1) true ws) a.0 (say_goes P f ms ws (n - 1) true s.1 a.1))
say_goes P f (token.Sign o ∷ ms) (w ∷ ws) n false s h = absurd (false≢true h)
say_goes P f (token.Sign o ∷ ms) (w ∷ ws) n true s h = sign_at w ws n o s.0 (say_goes P f ms ws n false s.1 h)

-- what is spelled passes the test
pub passes : (P : Operands) → ((w : Word) (a : Atom) → P w a → is_operand w ≡ true) → (ws : List Word) (e : Expr) → WordsSpell P ws e → is_expr ws ≡ true
unfolding is_expr
passes P f ws e s = say_goes P f s.0 ws 0 false s.1 ((spells_where_balanced s.0).1 (e, s.2))

-- words of expressions say their tokens

word_says : (P : Operands) (locals : List Word) (w : Word) → (is_operand w ≡ true → P w (atom_of locals w)) → is_expr_word w ≡ true → Says P w (token_of locals w)
unfolding token_of
word_says P locals w f h = first (same_word w (codes "(")) refl h where
  signs : (o : Option Op) → sign_of w ≡ o → (is_some o || is_operand w) ≡ true → Says P w (sign_or o (token.Operand (atom_of locals w)))
  signs (Some o) e g = e
  signs None e g = f g

  second : (b : Bool) → same_word w (codes ")") ≡ b → (b || (is_some (sign_of w) || is_operand w)) ≡ true → Says P w (if b then token.Close else sign_or (sign_of w) (token.Operand (atom_of locals w)))
  second true e g = same_equal w (codes ")") e
  second false e g = signs (sign_of w) refl g

  first : (b : Bool) → same_word w (codes "(") ≡ b → ((b || same_word w (codes ")")) || (is_some (sign_of w) || is_operand w)) ≡ true
      → Says P w (if b then token.Open else (if same_word w (codes ")") then token.Close else sign_or (sign_of w) (token.Operand (atom_of locals w))))
  first true e g = same_equal w (codes "(") e
  first false e g = second (same_word w (codes ")")) refl g

words_say : (P : Operands) (q : Word → Bool) (locals : List Word) → ((w : Word) → q w ≡ true → is_operand w ≡ true → P w (atom_of locals w)) → (ws : List Word) → list_all is_expr_word ws ≡ true → list_all q ws ≡ true → Say P ws (map (token_of locals) ws)
words_say P q locals f [] h g = tt
words_say P q locals f (w ∷ ws) h g =
    let a = and_parts (is_expr_word w) (list_all is_expr_word ws) h in
    let b = and_parts (q w) (list_all q ws) g in
    (word_says P locals w (f w b.0) a.0, words_say P q locals f ws a.1 b.1)

or_tree : (o : Option Expr) (e : Expr) → o ≡ Some e → tree_or o ≡ e
or_tree o e h = ap tree_or h

-- what passes the test is spelled
pub spelled : (P : Operands) (q : Word → Bool) (locals : List Word) → ((w : Word) → q w ≡ true → is_operand w ≡ true → P w (atom_of locals w)) → (ws : List Word) → is_expr ws ≡ true → list_all q ws ≡ true → WordsSpell P ws (tree_in locals ws)
unfolding tree_in
spelled P q locals f ws h g =
    let t = has_tree locals ws h in
    let ms : List Token = map (token_of locals) ws in
    (ms, words_say P q locals f ws (expr_words ws h) g, subst (Spells ms) (sym (or_tree (tree_of ms) t.0 t.1)) (is_grammatical ms t.0 t.1))

pub tests_form : (ws : List Word) → TestsForm ws
tests_form ws = (λ h. (tree_in [] ws, spelled HasForm is_expr_word [] (λ w g o. o) ws h (expr_words ws h)), λ s. passes HasForm (λ w a o. o) ws s.0 s.1)

-- tests

implies : (a b : Bool) → (a ≡ true → b ≡ true) → (not a || b) ≡ true
implies true b f = f refl
implies false b f = refl

pub implied : (a b : Bool) → (not a || b) ≡ true → a ≡ true → b ≡ true
implied true b h e = h
implied false b h e = absurd (false≢true e)

only_name : (a b c d : Bool) → (((a || b) || c) || d) ≡ true → a ≡ false → c ≡ false → d ≡ false → b ≡ true
only_name true b c d h e f g = absurd (true≢false e)
only_name false true c d h e f g = refl
only_name false false true d h e f g = absurd (true≢false f)
only_name false false false d h e f g = absurd (true≢false (sym h ∙ g))

-- the forms of operands

operand_number : (w : Word) → is_some (number_of w) ≡ true → is_operand w ≡ true
unfolding is_operand
operand_number w h =
    or_left ((is_some (number_of w) || is_name w) || is_moment (keyword_of w)) (is_value_word w)
    (or_left (is_some (number_of w) || is_name w) (is_moment (keyword_of w)) (or_left (is_some (number_of w)) (is_name w) h))

operand_name : (w : Word) → is_name w ≡ true → is_operand w ≡ true
unfolding is_operand
operand_name w h =
    or_left ((is_some (number_of w) || is_name w) || is_moment (keyword_of w)) (is_value_word w)
    (or_left (is_some (number_of w) || is_name w) (is_moment (keyword_of w)) (or_right (is_some (number_of w)) (is_name w) h))

operand_value : (w : Word) → is_value_word w ≡ true → is_operand w ≡ true
unfolding is_operand
operand_value w h = or_right ((is_some (number_of w) || is_name w) || is_moment (keyword_of w)) (is_value_word w) h

-- a name is no number, and no value of the row
name_number : (w : Word) → is_name w ≡ true → number_of w ≡ None
unfolding is_name
name_number w h = lettered_number w (and_parts (is_lettered w) (is_none (keyword_of w)) (and_parts (is_lettered w && is_none (keyword_of w)) (not (is_value_word w)) h).0).0

name_value : (w : Word) → is_name w ≡ true → is_value_word w ≡ false
unfolding is_name
name_value w h = not-true (is_value_word w) (and_parts (is_lettered w && is_none (keyword_of w)) (not (is_value_word w)) h).1

value_field : (w : Word) (n : ℕ) → field_number w ≡ Some n → (is_value_word w ≡ true) × (1 ≤ n)
value_field w n e = subst (Counts (is_value_word w)) e (field_counts w)

-- a value of the row is no number, and neither `time` nor `wm`
value_number : (w : Word) → is_value_word w ≡ true → number_of w ≡ None
value_number [] h = absurd (false≢true h)
value_number (b ∷ bs) h = subst (λ (c : ℕ). number_of (c ∷ bs) ≡ None) (sym (eqb-true b 118 (and_parts (b == 118) (are_digits bs) h).0)) refl

value_moment : (w : Word) → is_value_word w ≡ true → is_moment (keyword_of w) ≡ false
unfolding keyword_of
value_moment [] h = absurd (false≢true h)
value_moment (b ∷ bs) h = subst (λ (c : ℕ). is_moment (keyword_of (c ∷ bs)) ≡ false) (sym (eqb-true b 118 (and_parts (b == 118) (are_digits bs) h).0)) (cases (same_word bs (codes "alue"))) where
  cases : (t : Bool) → is_moment (if t then Some k.Value else None) ≡ false
  cases true = refl
  cases false = refl

moment_other : (o : Option Keyword) (a : Atom) → is_moment o ≡ false → moment_or o a ≡ a
moment_other None a h = refl
moment_other (Some k.Time) a h = absurd (true≢false h)
moment_other (Some k.Wm) a h = absurd (true≢false h)
moment_other (Some _) a h = refl

past : (y x : Keyword) (b : Bool) (rest : Option Keyword) → is_moment (Some y) ≡ false → is_moment (Some x) ≡ true → (if b then Some y else rest) ≡ Some x → rest ≡ Some x
past y x true rest f m h = absurd (true≢false (sym m ∙ (ap is_moment (sym h) ∙ f)))
past y x false rest f m h = h

-- `time` and `wm` are the last of the reserved words
last : (w : Word) (x : Keyword) → is_moment (Some x) ≡ true → keyword_of w ≡ Some x → (if same_word w (codes "time") then Some k.Time else (if same_word w (codes "wm") then Some k.Wm else None)) ≡ Some x
unfolding keyword_of
last w x m e =
    past k.Untimer x (same_word w (codes "untimer")) _ refl m
    (past k.Emit x (same_word w (codes "emit")) _ refl m
    (past k.With x (same_word w (codes "with")) _ refl m
    (past k.Both x (same_word w (codes "both")) _ refl m
    (past k.In x (same_word w (codes "in")) _ refl m
    (past k.Each x (same_word w (codes "each")) _ refl m
    (past k.Else x (same_word w (codes "else")) _ refl m
    (past k.If x (same_word w (codes "if")) _ refl m
    (past k.Clear x (same_word w (codes "clear")) _ refl m
    (past k.Remove x (same_word w (codes "remove")) _ refl m
    (past k.Add x (same_word w (codes "add")) _ refl m
    (past k.Put x (same_word w (codes "put")) _ refl m
    (past k.Empty x (same_word w (codes "empty")) _ refl m
    (past k.Has x (same_word w (codes "has")) _ refl m
    (past k.Or x (same_word w (codes "or")) _ refl m
    (past k.Get x (same_word w (codes "get")) _ refl m
    (past k.Let x (same_word w (codes "let")) _ refl m
    (past k.End x (same_word w (codes "end")) _ refl m
    (past k.Timer x (same_word w (codes "timer")) _ refl m
    (past k.Row x (same_word w (codes "row")) _ refl m
    (past k.On x (same_word w (codes "on")) _ refl m
    (past k.Max x (same_word w (codes "max")) _ refl m
    (past k.Min x (same_word w (codes "min")) _ refl m
    (past k.Sum x (same_word w (codes "sum")) _ refl m
    (past k.Reducing x (same_word w (codes "reducing")) _ refl m
    (past k.Map x (same_word w (codes "map")) _ refl m
    (past k.List x (same_word w (codes "list")) _ refl m
    (past k.Value x (same_word w (codes "value")) _ refl m
    (past k.State x (same_word w (codes "state")) _ refl m
    (past k.Input x (same_word w (codes "input")) _ refl m e)))))))))))))))))))))))))))))

is_time : Option Keyword → Bool
is_time (Some k.Time) = true
is_time _ = false

time_word : (w : Word) → keyword_of w ≡ Some k.Time → w ≡ codes "time"
unfolding is_time
time_word w e = cases (same_word w (codes "time")) (same_word w (codes "wm")) refl (last w k.Time refl e) where
  cases : (b c : Bool) → same_word w (codes "time") ≡ b → (if b then Some k.Time else (if c then Some k.Wm else None)) ≡ Some k.Time → w ≡ codes "time"
  cases true c p h = same_equal w (codes "time") p
  cases false true p h = absurd (false≢true (ap is_time h))
  cases false false p h = absurd (false≢true (ap is_time h))

wm_word : (w : Word) → keyword_of w ≡ Some k.Wm → w ≡ codes "wm"
unfolding is_time
wm_word w e = cases (same_word w (codes "time")) (same_word w (codes "wm")) refl (last w k.Wm refl e) where
  cases : (b c : Bool) → same_word w (codes "wm") ≡ c → (if b then Some k.Time else (if c then Some k.Wm else None)) ≡ Some k.Wm → w ≡ codes "wm"
  cases true c p h = absurd (true≢false (ap is_time h))
  cases false true p h = same_equal w (codes "wm") p
  cases false false p h = absurd (none-some k.Wm h)

-- what an operand stands for is its atom

pub stands_operand : (locals : List Word) (values : ℕ) (w : Word) (a : Atom) → StandsFor locals values w a → is_operand w ≡ true
unfolding is_operand is_name keyword_of
stands_operand locals values w (atom.Number n) s = operand_number w (ap is_some s)
stands_operand locals values w (atom.Name i) s = operand_name w s.0
stands_operand locals values w (atom.Field i) s = operand_value w (value_field w (i + 1) s.0).0
stands_operand locals values w atom.Time s = subst (λ (v : Word). is_operand v ≡ true) (sym s) refl
stands_operand locals values w atom.Watermark s = subst (λ (v : Word). is_operand v ≡ true) (sym s) refl

stands_atom : (locals : List Word) (values : ℕ) (w : Word) (a : Atom) → StandsFor locals values w a → atom_of locals w ≡ a
unfolding keyword_of
stands_atom locals values w (atom.Number n) s = ap (λ (o : Option ℤ). number_or o (moment_or (keyword_of w) (field_or (field_number w) (atom.Name (place_in locals w))))) s
stands_atom locals values w (atom.Name i) s = name_atom locals w s.0 ∙ ap (λ (o : Option ℕ). atom.Name (place_or o)) s.1
stands_atom locals values w (atom.Field i) s =
    let v = value_field w (i + 1) s.0 in
    let name : Atom = atom.Name (place_in locals w) in
    let e : i + 1 - 1 ≡ i = omega arith in
    ap (λ (o : Option ℤ). number_or o (moment_or (keyword_of w) (field_or (field_number w) name))) (value_number w v.0)
    ∙ (moment_other (keyword_of w) (field_or (field_number w) name) (value_moment w v.0)
    ∙ (ap (λ (o : Option ℕ). field_or o name) s.0 ∙ ap (λ (j : ℕ). atom.Field j) e))
stands_atom locals values w atom.Time s = ap (atom_of locals) s
stands_atom locals values w atom.Watermark s = ap (atom_of locals) s

says_token : (locals : List Word) (values : ℕ) (w : Word) (m : Token) → Says (StandsFor locals values) w m → token_of locals w ≡ m
unfolding token_of sign_of is_operand is_name keyword_of
says_token locals values w (token.Operand a) s =
    let o = stands_operand locals values w a s in
    token_rest locals w (apart is_operand w (codes "(") refl o) (apart is_operand w (codes ")") refl o)
    ∙ (ap (λ (i : Option Op). sign_or i (token.Operand (atom_of locals w))) (sign_none w o) ∙ ap (λ (x : Atom). token.Operand x) (stands_atom locals values w a s))
says_token locals values w token.Open s = ap (token_of locals) s
says_token locals values w token.Close s = ap (token_of locals) s
says_token locals values w (token.Sign o) s =
    token_rest locals w (apart (λ v. is_some (sign_of v)) w (codes "(") refl (ap is_some s)) (apart (λ v. is_some (sign_of v)) w (codes ")") refl (ap is_some s))
    ∙ ap (λ (i : Option Op). sign_or i (token.Operand (atom_of locals w))) s

say_tokens : (locals : List Word) (values : ℕ) (ws : List Word) (ms : List Token) → Say (StandsFor locals values) ws ms → map (token_of locals) ws ≡ ms
say_tokens locals values [] [] s = refl
say_tokens locals values [] (m ∷ ms) s = absurd s
say_tokens locals values (w ∷ ws) [] s = absurd s
say_tokens locals values (w ∷ ws) (m ∷ ms) s = ap (λ (x : Token). x ∷ map (token_of locals) ws) (says_token locals values w m s.0) ∙ ap (λ (xs : List Token). m ∷ xs) (say_tokens locals values ws ms s.1)

-- what is spelled speaks of what is there

pub there_from : (locals : List Word) (values : ℕ) (w : Word) → (is_name w ≡ true → mem w locals ≡ true) → (is_value_word w ≡ true → is_up_to (field_number w) (Some values) ≡ true) → is_there locals values w ≡ true
there_from locals values w f g = and_from (not (is_name w) || mem w locals) (not (is_value_word w) || is_up_to (field_number w) (Some values)) (implies (is_name w) (mem w locals) f) (implies (is_value_word w) (is_up_to (field_number w) (Some values)) g)

at_place : (names : List Word) (w : Word) (n i : ℕ) → index_of n names w ≡ Some i → mem w names ≡ true
at_place [] w n i h = absurd (none-some i h)
at_place (x ∷ xs) w n i h = cases (same_word x w) h (at_place xs w (n + 1) i) where
  cases : (b : Bool) → (if b then Some n else index_of (n + 1) xs w) ≡ Some i → (index_of (n + 1) xs w ≡ Some i → mem w xs ≡ true) → (b || mem w xs) ≡ true
  cases true g go = refl
  cases false g go = go g

stands_there : (locals : List Word) (values : ℕ) (w : Word) (a : Atom) → StandsFor locals values w a → is_there locals values w ≡ true
unfolding is_name keyword_of
stands_there locals values w (atom.Number n) s = there_from locals values w (λ h. absurd (none-some n (sym (name_number w h) ∙ s))) (λ h. absurd (none-some n (sym (value_number w h) ∙ s)))
stands_there locals values w (atom.Name i) s = there_from locals values w (λ h. at_place locals w 0 i s.1) (λ h. absurd (true≢false (sym h ∙ name_value w s.0)))
stands_there locals values w (atom.Field i) s =
    let v = (value_field w (i + 1) s.0).0 in
    let low : i < values = s.1 in
    there_from locals values w (λ h. absurd (true≢false (sym v ∙ name_value w h))) (λ h. ap (λ (o : Option ℕ). is_up_to o (Some values)) s.0 ∙ le-leb (i + 1) values (omega arith))
stands_there locals values w atom.Time s = subst (λ (v : Word). is_there locals values v ≡ true) (sym s) refl
stands_there locals values w atom.Watermark s = subst (λ (v : Word). is_there locals values v ≡ true) (sym s) refl

says_there : (locals : List Word) (values : ℕ) (w : Word) (m : Token) → Says (StandsFor locals values) w m → is_there locals values w ≡ true
unfolding is_name keyword_of
says_there locals values w (token.Operand a) s = stands_there locals values w a s
says_there locals values w token.Open s = subst (λ (v : Word). is_there locals values v ≡ true) (sym s) refl
says_there locals values w token.Close s = subst (λ (v : Word). is_there locals values v ≡ true) (sym s) refl
says_there locals values w (token.Sign o) s =
    there_from locals values w (λ h. absurd (true≢false (sym h ∙ sign_no_name w o s))) (λ h. absurd (none-some o (sym (sign_none w (operand_value w h)) ∙ s)))

pub say_there : (locals : List Word) (values : ℕ) (ws : List Word) (ms : List Token) → Say (StandsFor locals values) ws ms → list_all (is_there locals values) ws ≡ true
say_there locals values [] ms s = refl
say_there locals values (w ∷ ws) [] s = absurd s
say_there locals values (w ∷ ws) (m ∷ ms) s = and_from (is_there locals values w) (list_all (is_there locals values) ws) (says_there locals values w m s.0) (say_there locals values ws ms s.1)

-- an operand that is there stands for its atom
pub means : (locals : List Word) (values : ℕ) (w : Word) → is_there locals values w ≡ true → is_operand w ≡ true → StandsFor locals values w (atom_of locals w)
unfolding is_operand
means locals values w h o = by_number (number_of w) refl where
  named : is_name w ≡ true → mem w locals ≡ true
  named = implied (is_name w) (mem w locals) (and_parts (not (is_name w) || mem w locals) _ h).0

  valued : is_value_word w ≡ true → is_up_to (field_number w) (Some values) ≡ true
  valued = implied (is_value_word w) (is_up_to (field_number w) (Some values)) (and_parts (not (is_name w) || mem w locals) _ h).1

  no_value : field_number w ≡ None → (b : Bool) → is_value_word w ≡ b → b ≡ false
  no_value g true e = absurd (false≢true (sym (ap (λ (i : Option ℕ). is_up_to i (Some values)) g) ∙ valued e))
  no_value g false e = refl

  by_field : (i : Option ℕ) → number_of w ≡ None → is_moment (keyword_of w) ≡ false → field_number w ≡ i → StandsFor locals values w (field_or i (atom.Name (place_in locals w)))
  by_field (Some n) e m g =
      let v = value_field w n g in
      let one : 1 ≤ n = v.1 in
      let up : n ≤ values = leb-true n values (subst (λ (j : Option ℕ). is_up_to j (Some values) ≡ true) g (valued v.0)) in
      let back : n ≡ n - 1 + 1 = omega arith in
      (g ∙ ap Some back, omega arith)
  by_field None e m g =
      let is : is_name w ≡ true = only_name (is_some (number_of w)) (is_name w) (is_moment (keyword_of w)) (is_value_word w) o (ap is_some e) m (no_value g (is_value_word w) refl) in
      (is, there locals w 0 (named is))

  by_keyword : (x : Option Keyword) → number_of w ≡ None → keyword_of w ≡ x → StandsFor locals values w (moment_or x (field_or (field_number w) (atom.Name (place_in locals w))))
  by_keyword None e g = by_field (field_number w) e (ap is_moment g) refl
  by_keyword (Some k.Time) e g = time_word w g
  by_keyword (Some k.Wm) e g = wm_word w g
  by_keyword (Some _) e g = by_field (field_number w) e (ap is_moment g) refl

  by_number : (n : Option ℤ) → number_of w ≡ n → StandsFor locals values w (number_or n (moment_or (keyword_of w) (field_or (field_number w) (atom.Name (place_in locals w)))))
  by_number (Some n) e = e
  by_number None e = by_keyword (keyword_of w) e refl

reads_as : (locals : List Word) (values : ℕ) (ws : List Word) (e : Expr) → WordsSpell (StandsFor locals values) ws e → tree_in locals ws ≡ e
unfolding tree_in
reads_as locals values ws e s = or_tree (tree_of (map (token_of locals) ws)) e (ap tree_of (say_tokens locals values ws s.0 s.1) ∙ is_reading s.0 e s.2)

pub reads_spelled : (locals : List Word) (values : ℕ) (ws : List Word) (e : Expr) → ReadsSpelled locals values ws e
reads_spelled locals values ws e = (
  λ s. (passes (StandsFor locals values) (stands_operand locals values) ws e s, say_there locals values ws s.0 s.1, reads_as locals values ws e s),
  λ r. subst (λ (f : Expr). WordsSpell (StandsFor locals values) ws f) r.2 (spelled (StandsFor locals values) (is_there locals values) locals (means locals values) ws r.0 r.1),
)

pub spell_one : (locals : List Word) (values : ℕ) (ws : List Word) → SpellOne locals values ws
spell_one locals values ws e f s t = sym (reads_as locals values ws e s) ∙ reads_as locals values ws f t
