-- The options that the words of a command line give.
use Rattle.std.specs.Prelude.{ℕ, ◌==◌, ℤ, pos, negsuc, Bool, true, false, List, [], ◌∷◌, ◌++◌, Option, Some, None, codes, find, map, is_some, nat_le, ◌&&◌, option_map, option_and_then, unwrap_or, if◌then◌else◌}
use Rattle.std.specs.List.{list_any, list_all}
use Rattle.std.specs.Str.{bytes_eq}
use Rattle.clap.specs.Lexer.{long_of}
use Rattle.ax_base.specs.Numbers.{number_of}

abbrev pub Text : Type 0
Text = List ℕ

-- what an option takes: nothing; a number, from the least to the greatest; one of some words
pub data Takes : Type 0 where
  Nothing : Takes
  Number : (least greatest : ℕ) → Takes
  Word : (words : List Text) → Takes

-- an option, with the value that it has where the words don't give it; one without such a value is off then
pub record Rule : Type 0 where
  pub name : Text
  pub takes : Takes
  pub default : Option Text

-- ---- which options stand in the words

-- the name of an option, and whether it takes a value
abbrev pub Spelling : Type 0
Spelling = Text × Bool

abbrev pub takes_value : Takes → Bool
takes_value Nothing = false
takes_value _ = true

abbrev pub spellings_of : List Rule → List Spelling
spellings_of rules = map (λ r. (r.name, takes_value r.takes)) rules

-- the options that were given, in order, each with its value; a flag has the value `true`
abbrev pub Given : Type 0
Given = List (Text × Text)

-- whether an option of this name takes a value, where there is one
abbrev pub value_wanted : List Spelling → Text → Option Bool
value_wanted spellings name = option_map (λ o. o.1) (find (λ o. bytes_eq o.0 name) spellings)

abbrev pub is_given : Given → Text → Bool
is_given given name = list_any (λ o. bytes_eq o.0 name) given

-- what looks like an option, and so is no value of another: a hyphen and more
abbrev pub is_dashed : Text → Bool
is_dashed (b ∷ (d ∷ bs)) = b == 45
is_dashed bs = false

-- what is read of the words behind an option: first which option wants the next word as its value, then those given so far
abbrev pub Rest : Type 0
Rest = Option Text → Given → Option Given

-- an option with its value; it stands at most once
abbrev pub put : Text → Text → Given → Rest → Option Given
put name value given rest = if is_given given name then None else rest None (given ++ (name, value) ∷ [])

-- an option by whether it takes a value, with what stands behind its `=`
abbrev pub option_read : Option Bool → Text → Option Text → Given → Rest → Option Given
option_read None name value given rest = None
option_read (Some true) name (Some value) given rest = put name value given rest
option_read (Some true) name None given rest = rest (Some name) given
option_read (Some false) name (Some value) given rest = None
option_read (Some false) name None given rest = put name (codes "true") given rest

-- `--name` or `--name=value`
abbrev pub word_read : List Spelling → Option (Text × Option Text) → Given → Rest → Option Given
word_read spellings None given rest = None
word_read spellings (Some p) given rest = option_read (value_wanted spellings p.0) p.0 p.1 given rest

-- `--` is the last word
abbrev pub at_end : Given → List Text → Option Given
at_end given [] = Some given
at_end given (word ∷ words) = None

-- the options that the words give, where each is spelled well; the second argument is the option whose value is the next word
unfoldable pub given_by : List Spelling → Option Text → Given → List Text → Option Given
given_by spellings None given [] = Some given
given_by spellings (Some name) given [] = None
given_by spellings (Some name) given (word ∷ words) =
    if is_dashed word then None else put name word given (λ w g. given_by spellings w g words)
given_by spellings None given (word ∷ words) =
    if bytes_eq word (45 ∷ 45 ∷ []) then at_end given words
    else word_read spellings (long_of word) given (λ w g. given_by spellings w g words)

-- ---- their values

-- the value that is given to the option of a name
abbrev pub Values : Type 0
Values = Text → Option Text

abbrev pub value_of : Given → Values
value_of given name = option_map (λ o. o.1) (find (λ o. bytes_eq o.0 name) given)

abbrev pub begins_with_hyphen : Text → Bool
begins_with_hyphen [] = false
begins_with_hyphen (b ∷ bs) = b == 45

abbrev pub within : ℕ → ℕ → Option ℤ → Option ℕ
within least greatest (Some (pos n)) = if nat_le least n && nat_le n greatest then Some n else None
within least greatest (Some (negsuc n)) = None
within least greatest None = None

-- the number in this range that a value spells
abbrev pub number_in : ℕ → ℕ → Text → Option ℕ
number_in least greatest value = if begins_with_hyphen value then None else within least greatest (number_of value)

abbrev pub is_value : Takes → Text → Bool
is_value Nothing value = true
is_value (Number least greatest) value = is_some (number_in least greatest value)
is_value (Word words) value = list_any (λ w. bytes_eq w value) words

-- a value, where there is one, is one that the option takes
abbrev pub is_fine : Takes → Option Text → Bool
is_fine takes None = true
is_fine takes (Some value) = is_value takes value

-- each option that is given a value takes it
abbrev pub are_allowed : List Rule → Values → Bool
are_allowed rules values = list_all (λ r. is_fine r.takes (values r.name)) rules

-- ---- what an option has

-- whether a flag stands in the words
abbrev pub is_on : Values → Rule → Bool
is_on values r = is_true (values r.name)
  where
    is_true : Option Text → Bool
    is_true (Some value) = bytes_eq value (codes "true")
    is_true None = false

-- the value that an option is given, or its default
abbrev pub text_of : Values → Rule → Option Text
text_of values r = or_default (values r.name)
  where
    or_default : Option Text → Option Text
    or_default (Some value) = Some value
    or_default None = r.default

abbrev pub word_taken : Takes → Text → Option Text
word_taken (Word words) value = find (λ w. bytes_eq w value) words
word_taken _ value = None

-- the word of an option that takes one, where it isn't off
abbrev pub word_of : Values → Rule → Option Text
word_of values r = option_and_then (word_taken r.takes) (text_of values r)

abbrev pub number_taken : Takes → Text → Option ℕ
number_taken (Number least greatest) value = number_in least greatest value
number_taken _ value = None

-- the number of an option that takes one, where it isn't off
abbrev pub number_if_on : Values → Rule → Option ℕ
number_if_on values r = option_and_then (number_taken r.takes) (text_of values r)

-- the number of an option that takes one and has a default
abbrev pub number : Values → Rule → ℕ
number values r = unwrap_or (number_if_on values r) 0

-- ---- what words ask for

-- what the words ask for, by what the values of the options do, where the words are accepted
abbrev pub read_by : {X : Type 0} → List Rule → (Values → Option X) → List Text → Option X
read_by rules asked words = option_and_then (λ given. asked (value_of given)) (given_by (spellings_of rules) None [] words)
