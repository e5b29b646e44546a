-- What the words of a shape have by their form.
use Rattle.std.proofs.Common.{◌≡◌, ℤ, pos, negsuc, List, [], ◌∷◌, refl, Bool, true, false, ◌&&◌, nat_le, Option, Some, None, if◌then◌else◌}
use Rattle.std.proofs.lemmas.Bool.{leb-true, and_parts}
use Rattle.ax_base.specs.Numbers.{number_of}
use Rattle.ax_text.specs.declared.vocabulary.Keyword.{Keyword}
use Rattle.ax_text.specs.declared.vocabulary.Keyword.TheVariants as k
use Rattle.ax_syntax.specs.declared.shape.KindWord.{KindWord}
use Rattle.ax_syntax.specs.Words.{Word, keyword_of, is_name}
use Rattle.ax_syntax.specs.Shapes.{Shape, Input, State, GetAt, Has, Empty, Let, Get, Put, Add, Remove, Clear, If, Each, EachPair, Emit, Timer, Untimer, when, fields_of, input_of, kind_word, state_by, state_of, on_by, on_of, is_equals, is_expr, is_in, let_of, is_exprs, before_or, behind_or, get_by, get_of, has_of, empty_of, assigned_by, assign_of, put_of, add_of, remove_of, clear_of, each_of, alone, shape_by, shape_of}
use Rattle.ax_lang.specs.Clean.{WellShaped}

abbrev pub WellShapedIf : Option Shape → Type 0
WellShapedIf None = Unit {0}
WellShapedIf (Some s) = WellShaped s

when_well : (b : Bool) (s : Shape) → (b ≡ true → WellShaped s) → WellShapedIf (when b s)
when_well true s h = h refl
when_well false s h = tt

if_well : (b : Bool) (s : Option Shape) → (b ≡ true → WellShapedIf s) → WellShapedIf (if b then s else None)
if_well true s h = h refl
if_well false s h = tt

alone_well : (s : Shape) (ws : List Word) → WellShaped s → WellShapedIf (alone s ws)
alone_well s [] h = h
alone_well s (w ∷ ws) h = tt

fields_well : (n : Option ℤ) → WellShapedIf (fields_of n)
fields_well None = tt
fields_well (Some (pos n)) = cases (nat_le n 16) refl where
  cases : (b : Bool) → nat_le n 16 ≡ b → WellShapedIf (when b (Input n))
  cases true h = leb-true n 16 h
  cases false h = tt
fields_well (Some (negsuc n)) = tt

input_well : (ws : List Word) → WellShapedIf (input_of ws)
input_well [] = tt
input_well (n ∷ []) = fields_well (number_of n)
input_well (n ∷ m ∷ ws) = tt

state_by_well : (name : Word) (kind : Option KindWord) → WellShapedIf (state_by name kind)
state_by_well name None = tt
state_by_well name (Some kind) = when_well (is_name name) (State name kind) (λ h. h)

state_well : (ws : List Word) → WellShapedIf (state_of ws)
state_well [] = tt
state_well (name ∷ []) = tt
state_well (name ∷ kind ∷ []) = state_by_well name (kind_word (keyword_of kind))
state_well (name ∷ kind ∷ w ∷ ws) = tt

on_by_well : (o : Option Keyword) → WellShapedIf (on_by o)
on_by_well (Some k.Row) = tt
on_by_well (Some k.Timer) = tt
on_by_well _ = tt

on_well : (ws : List Word) → WellShapedIf (on_of ws)
on_well [] = tt
on_well (w ∷ []) = on_by_well (keyword_of w)
on_well (w ∷ v ∷ ws) = tt

let_well : (ws : List Word) → WellShapedIf (let_of ws)
let_well [] = tt
let_well (name ∷ []) = tt
let_well (name ∷ eq ∷ value) = when_well _ (Let name value) (λ h. let p = and_parts (is_name name && is_equals eq) (is_expr value) h in ((and_parts (is_name name) (is_equals eq) p.0).0, p.1))

get_by_well : (name state : Word) (at missing : List Word) → is_name name ≡ true → WellShapedIf (get_by name state at missing)
get_by_well name state [] missing n = when_well _ (Get name state missing) (λ h. (n, h))
get_by_well name state (w ∷ ws) missing n = when_well _ (GetAt name state (w ∷ ws) missing) (λ h. let p = and_parts (is_expr (w ∷ ws)) (is_expr missing) h in (n, p.0, p.1))

get_well : (name : Word) (ws : List Word) → is_name name ≡ true → WellShapedIf (get_of name ws)
get_well name [] n = tt
get_well name (state ∷ rest) n = if_well (is_name state) _ (λ h. get_by_well name state (before_or rest) (behind_or rest) n)

has_well : (name : Word) (ws : List Word) → is_name name ≡ true → WellShapedIf (has_of name ws)
has_well name [] n = tt
has_well name (state ∷ at) n = when_well _ (Has name state at) (λ h. (n, (and_parts (is_name state) (is_expr at) h).1))

empty_well : (name : Word) (ws : List Word) → is_name name ≡ true → WellShapedIf (empty_of name ws)
empty_well name [] n = tt
empty_well name (state ∷ []) n = when_well _ (Empty name state) (λ h. n)
empty_well name (state ∷ w ∷ ws) n = tt

assigned_well : (o : Option Keyword) (name : Word) (ws : List Word) → is_name name ≡ true → WellShapedIf (assigned_by o name ws)
assigned_well (Some k.Get) name ws n = get_well name ws n
assigned_well (Some k.Has) name ws n = has_well name ws n
assigned_well (Some k.Empty) name ws n = empty_well name ws n
assigned_well _ name ws n = tt

assign_well : (name : Word) (ws : List Word) → WellShapedIf (assign_of name ws)
assign_well name [] = tt
assign_well name (eq ∷ []) = tt
assign_well name (eq ∷ verb ∷ ws) = if_well (is_name name && is_equals eq) _ (λ h. assigned_well (keyword_of verb) name ws (and_parts (is_name name) (is_equals eq) h).0)

put_well : (ws : List Word) → WellShapedIf (put_of ws)
put_well [] = tt
put_well (state ∷ values) = when_well _ (Put state values) (λ h. (and_parts (is_name state) (is_exprs values) h).1)

add_well : (ws : List Word) → WellShapedIf (add_of ws)
add_well [] = tt
add_well (state ∷ value) = when_well _ (Add state value) (λ h. (and_parts (is_name state) (is_expr value) h).1)

remove_well : (ws : List Word) → WellShapedIf (remove_of ws)
remove_well [] = tt
remove_well (state ∷ at) = when_well _ (Remove state at) (λ h. (and_parts (is_name state) (is_expr at) h).1)

clear_well : (ws : List Word) → WellShapedIf (clear_of ws)
clear_well [] = tt
clear_well (state ∷ []) = when_well _ (Clear state) (λ h. tt)
clear_well (state ∷ w ∷ ws) = tt

each_well : (ws : List Word) → WellShapedIf (each_of ws)
each_well [] = tt
each_well (a ∷ []) = tt
each_well (a ∷ b ∷ []) = tt
each_well (a ∷ b ∷ c ∷ []) = when_well _ (Each a c) (λ h. (and_parts (is_name a) _ (and_parts (is_name a && is_in (keyword_of b)) (is_name c) h).0).0)
each_well (a ∷ b ∷ c ∷ d ∷ []) = when_well _ (EachPair a b d) (λ h. and_parts (is_name a) (is_name b) (and_parts (is_name a && is_name b) (is_in (keyword_of c) && is_name d) h).0)
each_well (a ∷ b ∷ c ∷ d ∷ e ∷ ws) = tt

shape_by_well : (o : Option Keyword) (w : Word) (ws : List Word) → WellShapedIf (shape_by o w ws)
shape_by_well None w ws = assign_well w ws
shape_by_well (Some k.Input) w ws = input_well ws
shape_by_well (Some k.State) w ws = state_well ws
shape_by_well (Some k.On) w ws = on_well ws
shape_by_well (Some k.End) w ws = alone_well _ ws tt
shape_by_well (Some k.Let) w ws = let_well ws
shape_by_well (Some k.Put) w ws = put_well ws
shape_by_well (Some k.Add) w ws = add_well ws
shape_by_well (Some k.Remove) w ws = remove_well ws
shape_by_well (Some k.Clear) w ws = clear_well ws
shape_by_well (Some k.If) w ws = when_well _ (If ws) (λ h. h)
shape_by_well (Some k.Else) w ws = alone_well _ ws tt
shape_by_well (Some k.Each) w ws = each_well ws
shape_by_well (Some k.Both) w ws = alone_well _ ws tt
shape_by_well (Some k.With) w ws = alone_well _ ws tt
shape_by_well (Some k.Emit) w ws = when_well _ (Emit ws) (λ h. h)
shape_by_well (Some k.Timer) w ws = when_well _ (Timer ws) (λ h. h)
shape_by_well (Some k.Untimer) w ws = when_well _ (Untimer ws) (λ h. h)
shape_by_well (Some _) w ws = tt

pub shape_well : (ws : List Word) → WellShapedIf (shape_of ws)
unfolding shape_of
shape_well [] = tt
shape_well (w ∷ ws) = shape_by_well (keyword_of w) w ws
