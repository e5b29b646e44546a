-- Programs in which everything exists that a statement or an expression speaks of.
use Rattle.std.specs.Prelude.{◌≡◌, ◌≤◌, ℕ, List, length, map, Bool, true, false, not, ◌&&◌, nat_eq, nat_le, nat_lt, Option, None, Some}
use Rattle.std.specs.List.{list_all, slice_index_or}
use Rattle.ax_base.specs.Numbers.{is_number}
use Rattle.ax_text.specs.declared.vocabulary.Kind.{Kind}
use Rattle.ax_text.specs.declared.vocabulary.Kind.TheVariants as kind
use Rattle.ax_text.specs.declared.vocabulary.Atom.{Atom}
use Rattle.ax_text.specs.declared.vocabulary.Atom.TheVariants as atom
use Rattle.ax_text.specs.Names.{Word, is_name, are_distinct}
use Rattle.ax_text.specs.Exprs.{Expr, Leaf, Join}
use Rattle.ax_text.specs.Texts.{Quiet, Let, Emit, Timer, Untimer, Asking, Get, GetAt, Has, Empty, Put, PutAt, PutAll, Add, Remove, Clear, Loop, Items, Entries, Text, Stop, Act, Ask, If, Each, Both}
use Rattle.ax_text.specs.Programs.{State, Program, kinds_of}

abbrev pub same_kind : Kind → Kind → Bool
same_kind kind.Value kind.Value = true
same_kind kind.List kind.List = true
same_kind kind.Map kind.Map = true
same_kind _ _ = false

-- whether there is a state of that number, of that kind
abbrev pub has_kind : List Kind → ℕ → Kind → Bool
has_kind kinds state wanted = nat_lt state (length kinds) && same_kind (slice_index_or kinds state kind.Value) wanted

-- where a row has so many values, and there are so many local names
abbrev pub atom_fits : ℕ → ℕ → Atom → Bool
atom_fits fields locals (atom.Number n) = is_number n
atom_fits fields locals (atom.Name i) = nat_lt i locals
atom_fits fields locals (atom.Field i) = nat_lt i fields
atom_fits fields locals atom.Time = true
atom_fits fields locals atom.Watermark = true

abbrev pub expr_fits : ℕ → ℕ → Expr → Bool
expr_fits fields locals (Leaf a) = atom_fits fields locals a
expr_fits fields locals (Join o a b) = expr_fits fields locals a && expr_fits fields locals b

-- 1 to 16 expressions
abbrev pub exprs_fit : ℕ → ℕ → List Expr → Bool
exprs_fit fields locals values = (nat_le 1 (length values) && nat_le (length values) 16) && list_all (expr_fits fields locals) values

abbrev pub quiet_fits : ℕ → ℕ → Quiet → Bool
quiet_fits fields locals (Let name e) = nat_lt name locals && expr_fits fields locals e
quiet_fits fields locals (Emit values) = exprs_fit fields locals values
quiet_fits fields locals (Timer time) = expr_fits fields locals time
quiet_fits fields locals (Untimer time) = expr_fits fields locals time

-- with states of these kinds
abbrev pub asking_fits : ℕ → ℕ → List Kind → Asking → Bool
asking_fits fields locals kinds (Get name state missing) = (nat_lt name locals && has_kind kinds state kind.Value) && expr_fits fields locals missing
asking_fits fields locals kinds (GetAt name state place missing) = (nat_lt name locals && has_kind kinds state kind.Map) && (expr_fits fields locals place && expr_fits fields locals missing)
asking_fits fields locals kinds (Has name state place) = (nat_lt name locals && has_kind kinds state kind.Map) && expr_fits fields locals place
asking_fits fields locals kinds (Empty name state) = nat_lt name locals && has_kind kinds state kind.Map
asking_fits fields locals kinds (Put state number) = has_kind kinds state kind.Value && expr_fits fields locals number
asking_fits fields locals kinds (PutAt state place number) = has_kind kinds state kind.Map && (expr_fits fields locals place && expr_fits fields locals number)
asking_fits fields locals kinds (PutAll state numbers) = has_kind kinds state kind.List && exprs_fit fields locals numbers
asking_fits fields locals kinds (Add state number) = has_kind kinds state kind.List && expr_fits fields locals number
asking_fits fields locals kinds (Remove state place) = has_kind kinds state kind.Map && expr_fits fields locals place
asking_fits fields locals kinds (Clear state) = nat_lt state (length kinds)

-- the two names of an `each` of a map differ
abbrev pub loop_fits : ℕ → List Kind → Loop → Bool
loop_fits locals kinds (Items name state) = nat_lt name locals && has_kind kinds state kind.List
loop_fits locals kinds (Entries key number state) = ((nat_lt key locals && nat_lt number locals) && not (nat_eq key number)) && has_kind kinds state kind.Map

abbrev pub text_fits : ℕ → ℕ → List Kind → Text → Bool
text_fits fields locals kinds Stop = true
text_fits fields locals kinds (Act q t) = quiet_fits fields locals q && text_fits fields locals kinds t
text_fits fields locals kinds (Ask a t) = asking_fits fields locals kinds a && text_fits fields locals kinds t
text_fits fields locals kinds (If e a b t) = (expr_fits fields locals e && text_fits fields locals kinds a) && (text_fits fields locals kinds b && text_fits fields locals kinds t)
text_fits fields locals kinds (Each l body t) = (loop_fits locals kinds l && text_fits fields locals kinds body) && text_fits fields locals kinds t
text_fits fields locals kinds (Both a b t) = (text_fits fields locals kinds a && text_fits fields locals kinds b) && text_fits fields locals kinds t

-- a timer has no values
abbrev pub timer_fits : ℕ → List Kind → Option Text → Bool
timer_fits locals kinds None = true
timer_fits locals kinds (Some text) = text_fits 0 locals kinds text

abbrev pub names_of : List State → List Word
names_of states = map (λ s. s.name) states

pub record IsValid (p : Program) : Type 0 where
  -- a row has at most 16 values
  pub fields : p.fields ≤ 16
  -- at most 64 states, whose names are names and differ
  pub states : length p.states ≤ 64
  pub named : list_all is_name (names_of p.states) ≡ true
  pub distinct : are_distinct (names_of p.states) ≡ true
  -- how many local names a handler has at most
  pub locals : ℕ
  pub few : locals ≤ 256
  pub row : text_fits p.fields locals (kinds_of p.states) p.row ≡ true
  pub timer : timer_fits locals (kinds_of p.states) p.timer ≡ true
