-- Which words are names.
use Rattle.std.specs.Prelude.{ℕ, List, [], ◌∷◌, length, Bool, true, false, not, Option, Some, None, if◌then◌else◌, ◌==◌, ◌&&◌, ◌||◌, nat_le, is_none}
use Rattle.std.specs.List.{list_all}
use lib.Chars.{codes}
use Rattle.ax_base.specs.Numbers.{is_digit, are_digits}
use Rattle.ax_text.specs.declared.vocabulary.Keyword.{Keyword}
use Rattle.ax_text.specs.declared.vocabulary.Keyword.TheVariants as k

abbrev pub Word : Type 0
Word = List ℕ

abbrev pub same_word : Word → Word → Bool
same_word [] [] = true
same_word [] (y ∷ ys) = false
same_word (x ∷ xs) [] = false
same_word (x ∷ xs) (y ∷ ys) = (x == y) && same_word xs ys

-- the reserved word that a word is
unfoldable pub keyword_of : Word → Option Keyword
keyword_of w =
    if same_word w (codes "input") then Some k.Input else
    if same_word w (codes "state") then Some k.State else
    if same_word w (codes "value") then Some k.Value else
    if same_word w (codes "list") then Some k.List else
    if same_word w (codes "map") then Some k.Map else
    if same_word w (codes "reducing") then Some k.Reducing else
    if same_word w (codes "sum") then Some k.Sum else
    if same_word w (codes "min") then Some k.Min else
    if same_word w (codes "max") then Some k.Max else
    if same_word w (codes "on") then Some k.On else
    if same_word w (codes "row") then Some k.Row else
    if same_word w (codes "timer") then Some k.Timer else
    if same_word w (codes "end") then Some k.End else
    if same_word w (codes "let") then Some k.Let else
    if same_word w (codes "get") then Some k.Get else
    if same_word w (codes "or") then Some k.Or else
    if same_word w (codes "has") then Some k.Has else
    if same_word w (codes "empty") then Some k.Empty else
    if same_word w (codes "put") then Some k.Put else
    if same_word w (codes "add") then Some k.Add else
    if same_word w (codes "remove") then Some k.Remove else
    if same_word w (codes "clear") then Some k.Clear else
    if same_word w (codes "if") then Some k.If else
    if same_word w (codes "else") then Some k.Else else
    if same_word w (codes "each") then Some k.Each else
    if same_word w (codes "in") then Some k.In else
    if same_word w (codes "both") then Some k.Both else
    if same_word w (codes "with") then Some k.With else
    if same_word w (codes "emit") then Some k.Emit else
    if same_word w (codes "untimer") then Some k.Untimer else
    if same_word w (codes "time") then Some k.Time else
    if same_word w (codes "wm") then Some k.Wm else None

abbrev pub is_letter : ℕ → Bool
is_letter b = nat_le 97 b && nat_le b 122

-- a byte of a name behind its first
abbrev pub is_name_byte : ℕ → Bool
is_name_byte b = (is_letter b || is_digit b) || (b == 95)

-- a letter and up to 31 letters, digits and `_`
abbrev pub is_lettered : Word → Bool
is_lettered [] = false
is_lettered (b ∷ bs) = (is_letter b && list_all is_name_byte bs) && nat_le (length bs) 31

-- `v` and one or more digits: a value of the row
abbrev pub is_value_word : Word → Bool
is_value_word [] = false
is_value_word (b ∷ bs) = (b == 118) && are_digits bs

-- a name isn't reserved
unfoldable pub is_name : Word → Bool
is_name w = (is_lettered w && is_none (keyword_of w)) && not (is_value_word w)

-- whether a word is among others
abbrev pub mem : Word → List Word → Bool
mem w [] = false
mem w (x ∷ xs) = same_word x w || mem w xs

-- each word stands once
abbrev pub are_distinct : List Word → Bool
are_distinct [] = true
are_distinct (w ∷ ws) = not (mem w ws) && are_distinct ws
