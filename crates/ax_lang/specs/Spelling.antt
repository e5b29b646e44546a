-- Which expressions words spell: by the grammar, with any parentheses.
use Rattle.std.specs.Prelude.{◌≡◌, ◌↔◌, ◌<◌, ◌+◌, ℕ, max, length, List, [], ◌∷◌, Bool, true, false, not, Some, ◌&&◌, ◌||◌, nat_lt, if◌then◌else◌}
use Rattle.std.specs.List.{list_all, list_any}
use lib.Chars.{codes}
use Rattle.ax_base.specs.Numbers.{number_of}
use Rattle.ax_text.specs.declared.vocabulary.Atom.{Atom}
use Rattle.ax_text.specs.declared.vocabulary.Atom.TheVariants as atom
use Rattle.ax_text.specs.Exprs.{Expr}
use Rattle.ax_syntax.specs.Words.{Word, is_name, is_value_word, is_operand, field_number, sign_of}
use Rattle.ax_syntax.specs.Shapes.{Shape, Let, Get, GetAt, Has, Put, Add, Remove, If, Emit, Timer, Untimer, is_expr, parts_of}
use Rattle.ax_expr.specs.declared.tree.Token.{Token}
use Rattle.ax_expr.specs.declared.tree.Token.TheVariants as token
use Rattle.ax_expr.specs.Grammar.{Derivation, Single, Enclosed, Signed, tokens_of, Spells}
use Rattle.ax_rules.specs.Parts.{mem, index_of}
use Rattle.ax_rules.specs.Lines.{fields_of, has_timer, locals_of, tables_of}
use Rattle.ax_rules.specs.Faults.{is_state, is_up_to, is_unknown, is_long, goes_deep}
use Rattle.ax_lang.specs.Rows.{tree_in}
use Rattle.ax_lang.specs.Clean.{Clean}
use Rattle.ax_lang.specs.Programs.{fields_or}

-- which words are which operands
abbrev pub Operands : Type 1
Operands = Word → Atom → Type 0

-- what a word says: a parenthesis, a sign, or an operand
abbrev pub Says : Operands → Word → Token → Type 0
Says P w (token.Operand a) = P w a
Says P w token.Open = w ≡ codes "("
Says P w token.Close = w ≡ codes ")"
Says P w (token.Sign o) = sign_of w ≡ Some o

-- word by word
abbrev pub Say : Operands → List Word → List Token → Type 0
Say P [] [] = Unit {0}
Say P (w ∷ ws) (m ∷ ms) = Says P w m × Say P ws ms
Say P _ _ = ⊥

-- by the grammar these words, all of them, spell the expression
abbrev pub WordsSpell : Operands → List Word → Expr → Type 0
WordsSpell P ws e = (ms : List Token) × Say P ws ms × Spells ms e

-- an operand by its form alone, whatever it stands for
abbrev pub HasForm : Operands
HasForm w a = is_operand w ≡ true

-- an operand among these local names and so many values: a number, a name by its place, `vK` for the value K, `time` or `wm`
abbrev pub StandsFor : List Word → ℕ → Operands
StandsFor locals values w (atom.Number n) = number_of w ≡ Some n
StandsFor locals values w (atom.Name i) = (is_name w ≡ true) × (index_of 0 locals w ≡ Some i)
StandsFor locals values w (atom.Field i) = (field_number w ≡ Some (i + 1)) × (i < values)
StandsFor locals values w atom.Time = w ≡ codes "time"
StandsFor locals values w atom.Watermark = w ≡ codes "wm"

-- a name is one of these, and `vK` one of so many values
abbrev pub is_there : List Word → ℕ → Word → Bool
is_there locals values w = (not (is_name w) || mem w locals) && (not (is_value_word w) || is_up_to (field_number w) (Some values))

-- words pass the test exactly where they have the form of an expression
abbrev pub TestsForm : List Word → Type 0
TestsForm ws = is_expr ws ≡ true ↔ ((e : Expr) × WordsSpell HasForm ws e)

-- words spell an expression exactly where they pass the test, speak of what is there, and are read as this expression
abbrev pub ReadsSpelled : List Word → ℕ → List Word → Expr → Type 0
ReadsSpelled locals values ws e = WordsSpell (StandsFor locals values) ws e ↔ ((is_expr ws ≡ true) × (list_all (is_there locals values) ws ≡ true) × (tree_in locals ws ≡ e))

-- no two expressions have the same words
abbrev pub SpellOne : List Word → ℕ → List Word → Type 0
SpellOne locals values ws = (e f : Expr) → WordsSpell (StandsFor locals values) ws e → WordsSpell (StandsFor locals values) ws f → e ≡ f

-- how many parentheses stand in one another
abbrev pub nesting : Derivation → ℕ
nesting (Single a) = 0
nesting (Enclosed d) = nesting d + 1
nesting (Signed l o r) = max (nesting l) (nesting r)

-- an expression is too deep where more than 32 parentheses stand in one another, and too long where it has more than 256 tokens
abbrev pub LimitsTell : List Word → Derivation → Type 0
LimitsTell ws d = Say HasForm ws (tokens_of d) → (goes_deep 0 ws ≡ nat_lt 32 (nesting d)) × (is_long ws ≡ nat_lt 256 (length (tokens_of d)))

-- how many values the handler has that is open behind these lines
abbrev pub values_behind : List Shape → ℕ
values_behind ls = if has_timer ls then 0 else fields_or (fields_of ls)

-- behind these lines, words without a state's name pass the test and are known exactly where they spell an expression
abbrev pub KnownSpell : List Shape → List Word → Type 0
KnownSpell before ws = list_any (is_state (tables_of before)) ws ≡ false
    → ((is_expr ws ≡ true) × (list_any (is_unknown (tables_of before)) ws ≡ false)) ↔ ((e : Expr) × WordsSpell (StandsFor (locals_of before) (values_behind before)) ws e)

-- the expressions of a line, each as its words
abbrev pub exprs_of : Shape → List (List Word)
exprs_of (Let name value) = value ∷ []
exprs_of (Get name state missing) = missing ∷ []
exprs_of (GetAt name state at missing) = at ∷ missing ∷ []
exprs_of (Has name state at) = at ∷ []
exprs_of (Put state values) = parts_of values
exprs_of (Add state value) = value ∷ []
exprs_of (Remove state at) = at ∷ []
exprs_of (If test) = test ∷ []
exprs_of (Emit values) = parts_of values
exprs_of (Timer time) = time ∷ []
exprs_of (Untimer time) = time ∷ []
exprs_of _ = []

-- each of these words spell the expression that is read of them
abbrev pub AreSpelled : List Word → ℕ → List (List Word) → Type 0
AreSpelled locals values [] = Unit {0}
AreSpelled locals values (ws ∷ parts) = WordsSpell (StandsFor locals values) ws (tree_in locals ws) × AreSpelled locals values parts

-- the words of a line without fault spell the expressions of its row
abbrev pub LineSpells : List Shape → Shape → Type 0
LineSpells before s = Clean (s ∷ before) → AreSpelled (locals_of (s ∷ before)) (values_behind before) (exprs_of s)
