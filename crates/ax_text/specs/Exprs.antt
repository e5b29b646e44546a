-- Expressions and their values.
use Rattle.std.specs.Prelude.{ℕ, ℤ, pos, Bool, List, if◌then◌else◌, not, int_rem, int_lt, int_le}
use Rattle.std.specs.List.{slice_index_or}
use Rattle.std.specs.Ordering.{int_eq}
use Rattle.std.specs.Int.{w64, int_wrapping_add, int_wrapping_sub, int_wrapping_mul, int_wrapping_div}
use Rattle.ax_text.specs.declared.vocabulary.Op.{Op}
use Rattle.ax_text.specs.declared.vocabulary.Op.TheVariants as op
use Rattle.ax_text.specs.declared.vocabulary.Atom.{Atom}
use Rattle.ax_text.specs.declared.vocabulary.Atom.TheVariants as atom

pub data Expr : Type 0 where
  Leaf : (atom : Atom) → Expr
  Join : (op : Op) → (left right : Expr) → Expr

-- what a handler knows besides the state of its key
pub record Facts : Type 0 where
  -- the time of the row, or of the timer
  pub time : ℤ
  -- the greatest watermark before the row, or the one that fires
  pub wm : ℤ
  -- the values of the row
  pub values : List ℤ

-- the numbers of the local names
abbrev pub Names : Type 0
Names = ℕ → ℤ

abbrev pub flag : Bool → ℤ
flag b = if b then pos 1 else pos 0

-- sums, differences and products wrap at 64 bits, and a division by 0 gives 0
unfoldable pub apply_op : Op → ℤ → ℤ → ℤ
apply_op op.Less x y = flag (int_lt x y)
apply_op op.AtMost x y = flag (int_le x y)
apply_op op.Equal x y = flag (int_eq x y)
apply_op op.Differs x y = flag (not (int_eq x y))
apply_op op.AtLeast x y = flag (int_le y x)
apply_op op.Greater x y = flag (int_lt y x)
apply_op op.Add x y = int_wrapping_add w64 x y
apply_op op.Subtract x y = int_wrapping_sub w64 x y
apply_op op.Multiply x y = int_wrapping_mul w64 x y
apply_op op.Divide x y = if int_eq y (pos 0) then pos 0 else int_wrapping_div w64 x y
apply_op op.Remainder x y = if int_eq y (pos 0) then pos 0 else int_rem x y

abbrev pub atom_value : Facts → Names → Atom → ℤ
atom_value f names (atom.Number n) = n
atom_value f names (atom.Name i) = names i
atom_value f names (atom.Field i) = slice_index_or f.values i (pos 0)
atom_value f names atom.Time = f.time
atom_value f names atom.Watermark = f.wm

abbrev pub value : Facts → Names → Expr → ℤ
value f names (Leaf a) = atom_value f names a
value f names (Join o a b) = apply_op o (value f names a) (value f names b)
