-- The tree of a list of tokens.
use Rattle.std.specs.Prelude.{ℕ, ◌≡◌, List, [], ◌∷◌, ◌++◌, Option, Some, None, if◌then◌else◌, nat_le, Result, Ok, Err}
use Rattle.ax_text.specs.declared.vocabulary.Op.{Op}
use Rattle.ax_expr.specs.declared.tree.Token.{Token}
use Rattle.ax_expr.specs.declared.tree.Token.TheVariants.{Operand, Open, Close, Sign}
use Rattle.ax_expr.specs.declared.tree.Expr.{Expr as Code}
use Rattle.ax_expr.specs.declared.read.Pending.{Pending}
use Rattle.ax_expr.specs.declared.read.Pending.TheVariants as pending
use Rattle.ax_expr.specs.declared.read.Refusal.{Refusal}
use Rattle.ax_expr.specs.declared.read.Refusal.TheVariants as refusal
use Rattle.ax_text.specs.Exprs.{Expr, Leaf, Join}
use Rattle.ax_expr.specs.Levels.{level_of}
use Rattle.ax_expr.specs.Shown.{shown_expr}

-- what stands on the left of an operand, the nearest first
pub data Waiting : Type 0 where
  Opened : Waiting
  Before : (left : Expr) → (op : Op) → Waiting

pub record Joined : Type 0 where
  pub value : Expr
  pub waiting : List Waiting

-- joins an operand with what stands on its left and binds at least as tightly
abbrev pub joined : ℕ → Expr → List Waiting → Joined
joined level x [] = record { value = x; waiting = [] }
joined level x (Opened ∷ ws) = record { value = x; waiting = Opened ∷ ws }
joined level x (Before left op ∷ ws) = if nat_le level (level_of op) then joined level (Join op left x) ws else record { value = x; waiting = Before left op ∷ ws }

-- at the end no parenthesis is open
abbrev pub whole : Expr → List Waiting → Option Expr
whole x [] = Some x
whole x (w ∷ ws) = None

-- a parenthesis closes the last one that is open
abbrev pub closed : List Waiting → Option (List Waiting)
closed [] = None
closed (Opened ∷ ws) = Some ws
closed (Before left op ∷ ws) = None

abbrev pub with_some : {A B : Type 0} → Option A → (A → Option B) → Option B
with_some None f = None
with_some (Some x) f = f x

-- the operand so far, if there is one, what stands on its left, and the tokens to come
abbrev pub walk : Option Expr → List Waiting → List Token → Option Expr
walk None ws [] = None
walk None ws (Operand a ∷ ms) = walk (Some (Leaf a)) ws ms
walk None ws (Open ∷ ms) = walk None (Opened ∷ ws) ms
walk None ws (Close ∷ ms) = None
walk None ws (Sign o ∷ ms) = None
walk (Some x) ws [] = whole (joined 0 x ws).value (joined 0 x ws).waiting
walk (Some x) ws (Operand a ∷ ms) = None
walk (Some x) ws (Open ∷ ms) = None
walk (Some x) ws (Close ∷ ms) = with_some (closed (joined 0 x ws).waiting) (λ rest. walk (Some (joined 0 x ws).value) rest ms)
walk (Some x) ws (Sign o ∷ ms) = walk None (Before (joined (level_of o) x ws).value o ∷ (joined (level_of o) x ws).waiting) ms

abbrev pub tree_of : List Token → Option Expr
tree_of tokens = walk None [] tokens

-- what the code holds

abbrev pub shown_waiting : Pending → Waiting
shown_waiting pending.Open = Opened
shown_waiting (pending.Before left op) = Before (shown_expr left) op

-- the last one is the nearest
abbrev pub stack_of : List Pending → List Waiting
stack_of [] = []
stack_of (p ∷ ps) = stack_of ps ++ shown_waiting p ∷ []

abbrev pub expr_some : Option Code → Option Expr
expr_some None = None
expr_some (Some x) = Some (shown_expr x)

-- the walk goes on, or there is no tree
abbrev pub Steps : Option Expr → (Option Expr → Option Expr) → Result (Option Code) Refusal → Type 0
Steps before go (Ok x) = before ≡ go (expr_some x)
Steps before go (Err refusal.NoMemory) = Unit {0}
Steps before go (Err refusal.Word) = before ≡ None

abbrev pub Reads : Option Expr → Result Code Refusal → Type 0
Reads tree (Ok x) = tree ≡ Some (shown_expr x)
Reads tree (Err refusal.NoMemory) = Unit {0}
Reads tree (Err refusal.Word) = tree ≡ None

abbrev pub Tightens : Joined → List Waiting → Result Code Refusal → Type 0
Tightens it now (Ok x) = (it.value ≡ shown_expr x) × (it.waiting ≡ now)
Tightens it now (Err refusal.NoMemory) = Unit {0}
Tightens it now (Err refusal.Word) = ⊥

-- a fault is want of memory
abbrev pub OnlyMemory : {T : Type 0} → Result T Refusal → Type 0
OnlyMemory (Ok x) = Unit {0}
OnlyMemory (Err refusal.NoMemory) = Unit {0}
OnlyMemory (Err refusal.Word) = ⊥
