-- How tightly a sign binds: a comparison joins sums, a sum products, a product atoms.
use Rattle.std.specs.Prelude.{ℕ}
use Rattle.ax_text.specs.declared.vocabulary.Op.{Op}
use Rattle.ax_text.specs.declared.vocabulary.Op.TheVariants as op

abbrev pub level_of : Op → ℕ
level_of op.Less = 1
level_of op.AtMost = 1
level_of op.Equal = 1
level_of op.Differs = 1
level_of op.AtLeast = 1
level_of op.Greater = 1
level_of op.Add = 2
level_of op.Subtract = 2
level_of op.Multiply = 3
level_of op.Divide = 3
level_of op.Remainder = 3
