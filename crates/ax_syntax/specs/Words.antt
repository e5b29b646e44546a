-- What the words of a line are.
use Rattle.std.specs.Prelude.{ℕ, ℤ, pos, negsuc, List, [], ◌∷◌, Bool, true, false, Option, Some, None, if◌then◌else◌, ◌==◌, ◌&&◌, ◌||◌, nat_le, is_some}
use lib.Chars.{codes}
use Rattle.ax_base.specs.Numbers.{number_of}
pub use Rattle.ax_text.specs.Names.{Word, same_word, is_letter, is_name_byte, is_lettered, is_value_word}
unfoldable pub use Rattle.ax_text.specs.Names.{keyword_of, is_name}
use Rattle.ax_text.specs.declared.vocabulary.Op.{Op}
use Rattle.ax_text.specs.declared.vocabulary.Op.TheVariants as op
use Rattle.ax_text.specs.declared.vocabulary.Keyword.{Keyword}
use Rattle.ax_text.specs.declared.vocabulary.Keyword.TheVariants as k

abbrev pub from_one_to_sixteen : Option ℤ → Option ℕ
from_one_to_sixteen None = None
from_one_to_sixteen (Some (pos n)) = if nat_le 1 n && nat_le n 16 then Some n else None
from_one_to_sixteen (Some (negsuc n)) = None

-- the number of a value, spelled without a leading zero
abbrev pub unpadded : Word → Option ℕ
unpadded [] = None
unpadded (b ∷ bs) = if b == 48 then None else from_one_to_sixteen (number_of (b ∷ bs))

-- the value, from 1 to 16, that a word names
unfoldable pub field_number : Word → Option ℕ
field_number [] = None
field_number (b ∷ bs) = if b == 118 then unpadded bs else None

-- the sign that a word is
unfoldable pub sign_of : Word → Option Op
sign_of w =
    if same_word w (codes "<") then Some op.Less else
    if same_word w (codes "<=") then Some op.AtMost else
    if same_word w (codes "==") then Some op.Equal else
    if same_word w (codes "!=") then Some op.Differs else
    if same_word w (codes ">=") then Some op.AtLeast else
    if same_word w (codes ">") then Some op.Greater else
    if same_word w (codes "+") then Some op.Add else
    if same_word w (codes "-") then Some op.Subtract else
    if same_word w (codes "*") then Some op.Multiply else
    if same_word w (codes "/") then Some op.Divide else
    if same_word w (codes "%") then Some op.Remainder else None

abbrev pub is_moment : Option Keyword → Bool
is_moment (Some k.Time) = true
is_moment (Some k.Wm) = true
is_moment _ = false

-- a number, a name, `time`, `wm`, or a value of the row
unfoldable pub is_operand : Word → Bool
is_operand w = ((is_some (number_of w) || is_name w) || is_moment (keyword_of w)) || is_value_word w
