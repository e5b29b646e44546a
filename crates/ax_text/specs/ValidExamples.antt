-- Small programs that are valid or not by one thing alone.
use Rattle.std.specs.Prelude.{ℕ, zero, suc, pos, List, [], ◌∷◌, Some, None}
use lib.Chars.{codes}
use Rattle.ax_text.specs.declared.vocabulary.Kind.TheVariants as kind
use Rattle.ax_text.specs.declared.vocabulary.Atom.TheVariants as atom
use Rattle.ax_text.specs.Exprs.{Expr, Leaf}
use Rattle.ax_text.specs.Texts.{Text, Stop, Act, Ask, Each, Let, Emit, Timer, Put, Entries}
use Rattle.ax_text.specs.Programs.{State, Program}

abbrev pub one : Expr
one = Leaf (atom.Number (pos 1))

-- c holds a number, m a map
abbrev pub c : State
c = record { name = codes "c"; kind = kind.Value }

abbrev pub m : State
m = record { name = codes "m"; kind = kind.Map }

-- rows have one value
abbrev pub with_states : List State → Program
with_states states = record { fields = 1; states = states; row = Stop; timer = None }

abbrev pub with_row : Text → Program
with_row text = record { fields = 1; states = c ∷ m ∷ []; row = text; timer = None }

abbrev pub with_timer : Text → Program
with_timer text = record { fields = 1; states = c ∷ m ∷ []; row = Stop; timer = Some text }

-- 1 is put to a state
abbrev pub putting : ℕ → Text
putting state = Ask (Put state one) Stop

-- a timer is set by the value of the row at a place
abbrev pub timing : ℕ → Text
timing field = Act (Timer (Leaf (atom.Field field))) Stop

-- a local name becomes 1
abbrev pub letting : ℕ → Text
letting name = Act (Let name one) Stop

abbrev pub ones : ℕ → List Expr
ones zero = []
ones (suc n) = one ∷ ones n

-- so many ones are written
abbrev pub emitting : ℕ → Text
emitting n = Act (Emit (ones n)) Stop

-- an `each` over the entries of m, by two names
abbrev pub going_over : ℕ → ℕ → Text
going_over key number = Each (Entries key number 1) Stop Stop
