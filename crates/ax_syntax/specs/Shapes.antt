-- The shapes of lines: their words alone, before any look at the lines around them.
use Rattle.std.specs.Prelude.{ℕ, ℤ, pos, negsuc, ◌+◌, ◌-◌, List, [], ◌∷◌, length, Bool, true, false, Option, Some, None, if◌then◌else◌, ◌==◌, ◌&&◌, nat_le, nat_lt, is_some}
use Rattle.std.specs.List.{list_all}
use lib.Chars.{codes}
use Rattle.ax_base.specs.Numbers.{number_of}
use Rattle.ax_text.specs.declared.vocabulary.Keyword.{Keyword}
use Rattle.ax_text.specs.declared.vocabulary.Keyword.TheVariants as k
use Rattle.ax_syntax.specs.declared.shape.KindWord.{KindWord}
use Rattle.ax_syntax.specs.declared.shape.KindWord.TheVariants as kind
use Rattle.ax_syntax.specs.declared.shape.Shape.{Shape as CodeShape}
use Rattle.ax_syntax.specs.declared.shape.Shape.TheVariants as code
use Rattle.ax_syntax.specs.Words.{Word, same_word, keyword_of, is_name, is_operand, sign_of}

-- a line as its words stand; an expression is its words, and expressions keep the commas between them
pub data Shape : Type 0 where
  Input : (fields : ℕ) → Shape
  State : (name : Word) → (kind : KindWord) → Shape
  OnRow : Shape
  OnTimer : Shape
  End : Shape
  Let : (name : Word) → (value : List Word) → Shape
  Get : (name state : Word) → (missing : List Word) → Shape
  GetAt : (name state : Word) → (at missing : List Word) → Shape
  Has : (name state : Word) → (at : List Word) → Shape
  Empty : (name state : Word) → Shape
  Put : (state : Word) → (values : List Word) → Shape
  Add : (state : Word) → (value : List Word) → Shape
  Remove : (state : Word) → (at : List Word) → Shape
  Clear : (state : Word) → Shape
  If : (test : List Word) → Shape
  Else : Shape
  Each : (name state : Word) → Shape
  EachPair : (key number state : Word) → Shape
  Both : Shape
  With : Shape
  Emit : (values : List Word) → Shape
  Timer : (time : List Word) → Shape
  Untimer : (time : List Word) → Shape

-- operands and signs take turns, and parentheses balance: how many are open, and whether an operand has just ended
abbrev pub goes_on : ℕ → Bool → List Word → Bool
goes_on opened ended [] = ended && (opened == 0)
goes_on opened false (w ∷ ws) = if same_word w (codes "(") then goes_on (opened + 1) false ws else (is_operand w && goes_on opened true ws)
goes_on opened true (w ∷ ws) = if same_word w (codes ")") then (nat_lt 0 opened && goes_on (opened - 1) true ws) else (is_some (sign_of w) && goes_on opened false ws)

unfoldable pub is_expr : List Word → Bool
is_expr ws = goes_on 0 false ws

abbrev pub onto_first : Word → List (List Word) → List (List Word)
onto_first w [] = (w ∷ []) ∷ []
onto_first w (p ∷ ps) = (w ∷ p) ∷ ps

-- what stands between commas
abbrev pub parts_of : List Word → List (List Word)
parts_of [] = [] ∷ []
parts_of (w ∷ ws) = if same_word w (codes ",") then [] ∷ parts_of ws else onto_first w (parts_of ws)

-- 1 to 16 expressions, with commas between them
unfoldable pub is_exprs : List Word → Bool
is_exprs ws = list_all is_expr (parts_of ws) && nat_le (length (parts_of ws)) 16

abbrev pub when : Bool → Shape → Option Shape
when b s = if b then Some s else None

abbrev pub fields_of : Option ℤ → Option Shape
fields_of None = None
fields_of (Some (pos n)) = when (nat_le n 16) (Input n)
fields_of (Some (negsuc n)) = None

abbrev pub input_of : List Word → Option Shape
input_of (n ∷ []) = fields_of (number_of n)
input_of _ = None

abbrev pub kind_word : Option Keyword → Option KindWord
kind_word (Some k.Value) = Some kind.Value
kind_word (Some k.List) = Some kind.List
kind_word (Some k.Map) = Some kind.Map
kind_word _ = None

abbrev pub state_by : Word → Option KindWord → Option Shape
state_by name None = None
state_by name (Some kind) = when (is_name name) (State name kind)

abbrev pub state_of : List Word → Option Shape
state_of (name ∷ kind ∷ []) = state_by name (kind_word (keyword_of kind))
state_of _ = None

abbrev pub on_by : Option Keyword → Option Shape
on_by (Some k.Row) = Some OnRow
on_by (Some k.Timer) = Some OnTimer
on_by _ = None

abbrev pub on_of : List Word → Option Shape
on_of (w ∷ []) = on_by (keyword_of w)
on_of _ = None

abbrev pub is_equals : Word → Bool
is_equals w = same_word w (codes "=")

abbrev pub let_of : List Word → Option Shape
let_of (name ∷ eq ∷ value) = when ((is_name name && is_equals eq) && is_expr value) (Let name value)
let_of _ = None

abbrev pub is_or : Option Keyword → Bool
is_or (Some k.Or) = true
is_or _ = false

-- the words before the first `or`
abbrev pub before_or : List Word → List Word
before_or [] = []
before_or (w ∷ ws) = if is_or (keyword_of w) then [] else w ∷ before_or ws

-- the words behind the first `or`; no expression is empty
abbrev pub behind_or : List Word → List Word
behind_or [] = []
behind_or (w ∷ ws) = if is_or (keyword_of w) then ws else behind_or ws

abbrev pub get_by : Word → Word → List Word → List Word → Option Shape
get_by name state [] missing = when (is_expr missing) (Get name state missing)
get_by name state (w ∷ ws) missing = when (is_expr (w ∷ ws) && is_expr missing) (GetAt name state (w ∷ ws) missing)

abbrev pub get_of : Word → List Word → Option Shape
get_of name [] = None
get_of name (state ∷ rest) = if is_name state then get_by name state (before_or rest) (behind_or rest) else None

abbrev pub has_of : Word → List Word → Option Shape
has_of name (state ∷ at) = when (is_name state && is_expr at) (Has name state at)
has_of name [] = None

abbrev pub empty_of : Word → List Word → Option Shape
empty_of name (state ∷ []) = when (is_name state) (Empty name state)
empty_of name _ = None

-- behind `NAME =`
abbrev pub assigned_by : Option Keyword → Word → List Word → Option Shape
assigned_by (Some k.Get) name ws = get_of name ws
assigned_by (Some k.Has) name ws = has_of name ws
assigned_by (Some k.Empty) name ws = empty_of name ws
assigned_by _ name ws = None

abbrev pub assign_of : Word → List Word → Option Shape
assign_of name (eq ∷ verb ∷ ws) = if is_name name && is_equals eq then assigned_by (keyword_of verb) name ws else None
assign_of name _ = None

abbrev pub put_of : List Word → Option Shape
put_of (state ∷ values) = when (is_name state && is_exprs values) (Put state values)
put_of [] = None

abbrev pub add_of : List Word → Option Shape
add_of (state ∷ value) = when (is_name state && is_expr value) (Add state value)
add_of [] = None

abbrev pub remove_of : List Word → Option Shape
remove_of (state ∷ at) = when (is_name state && is_expr at) (Remove state at)
remove_of [] = None

abbrev pub clear_of : List Word → Option Shape
clear_of (state ∷ []) = when (is_name state) (Clear state)
clear_of _ = None

abbrev pub is_in : Option Keyword → Bool
is_in (Some k.In) = true
is_in _ = false

abbrev pub each_of : List Word → Option Shape
each_of (name ∷ in_word ∷ state ∷ []) = when ((is_name name && is_in (keyword_of in_word)) && is_name state) (Each name state)
each_of (key ∷ number ∷ in_word ∷ state ∷ []) = when ((is_name key && is_name number) && (is_in (keyword_of in_word) && is_name state)) (EachPair key number state)
each_of _ = None

abbrev pub alone : Shape → List Word → Option Shape
alone s [] = Some s
alone s (w ∷ ws) = None

abbrev pub shape_by : Option Keyword → Word → List Word → Option Shape
shape_by None w ws = assign_of w ws
shape_by (Some k.Input) w ws = input_of ws
shape_by (Some k.State) w ws = state_of ws
shape_by (Some k.On) w ws = on_of ws
shape_by (Some k.End) w ws = alone End ws
shape_by (Some k.Let) w ws = let_of ws
shape_by (Some k.Put) w ws = put_of ws
shape_by (Some k.Add) w ws = add_of ws
shape_by (Some k.Remove) w ws = remove_of ws
shape_by (Some k.Clear) w ws = clear_of ws
shape_by (Some k.If) w ws = when (is_expr ws) (If ws)
shape_by (Some k.Else) w ws = alone Else ws
shape_by (Some k.Each) w ws = each_of ws
shape_by (Some k.Both) w ws = alone Both ws
shape_by (Some k.With) w ws = alone With ws
shape_by (Some k.Emit) w ws = when (is_exprs ws) (Emit ws)
shape_by (Some k.Timer) w ws = when (is_expr ws) (Timer ws)
shape_by (Some k.Untimer) w ws = when (is_expr ws) (Untimer ws)
shape_by (Some _) w ws = None

-- the shape of a line of these words; a line that has none is refused
unfoldable pub shape_of : List Word → Option Shape
shape_of [] = None
shape_of (w ∷ ws) = shape_by (keyword_of w) w ws

-- what the code holds
abbrev pub shown_shape : CodeShape → Shape
shown_shape (code.Input fields) = Input fields
shown_shape (code.State name kind) = State name.now kind
shown_shape code.OnRow = OnRow
shown_shape code.OnTimer = OnTimer
shown_shape code.End = End
shown_shape (code.Let name value) = Let name.now value.now
shown_shape (code.Get name state missing) = Get name.now state.now missing.now
shown_shape (code.GetAt name state at missing) = GetAt name.now state.now at.now missing.now
shown_shape (code.Has name state at) = Has name.now state.now at.now
shown_shape (code.Empty name state) = Empty name.now state.now
shown_shape (code.Put state values) = Put state.now values.now
shown_shape (code.Add state value) = Add state.now value.now
shown_shape (code.Remove state at) = Remove state.now at.now
shown_shape (code.Clear state) = Clear state.now
shown_shape (code.If test) = If test.now
shown_shape code.Else = Else
shown_shape (code.Each name state) = Each name.now state.now
shown_shape (code.EachPair key number state) = EachPair key.now number.now state.now
shown_shape code.Both = Both
shown_shape code.With = With
shown_shape (code.Emit values) = Emit values.now
shown_shape (code.Timer time) = Timer time.now
shown_shape (code.Untimer time) = Untimer time.now

abbrev pub shape_some : Option CodeShape → Option Shape
shape_some None = None
shape_some (Some s) = Some (shown_shape s)
