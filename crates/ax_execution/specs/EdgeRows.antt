-- Worked rows of the machine's rarer turns.
use Rattle.std.specs.Prelude.{pos, List, [], ◌∷◌, ◌++◌, Some}
use lib.Chars.{codes}
use Rattle.ax_text.specs.declared.vocabulary.Kind.TheVariants as kind
use Rattle.ax_text.specs.declared.vocabulary.Atom.TheVariants as atom
use Rattle.ax_text.specs.Exprs.{Leaf}
use Rattle.ax_text.specs.Texts.{Stop, Act, Ask, Emit, Timer, Get}
use Rattle.ax_text.specs.Programs.{Program}
use Rattle.ax_execution.specs.Machine.{Happening, Admit, Close, ByWatermark, Fire, Start, Serve, Deliver}
use Rattle.ax_execution.specs.Rows.{a, b}

-- two rows that haven't begun
abbrev pub two_owners : List Happening
two_owners = Admit 1 a (pos 1) (pos 5 ∷ []) ∷ Admit 2 b (pos 2) (pos 1 ∷ []) ∷ []

-- a row of the alarm that sets its timer at 9, and behind it a mark that won't fire
abbrev pub marked : List Happening
marked = Admit 1 a (pos 1) (pos 9 ∷ []) ∷ Close (ByWatermark (pos 3)) ∷ []

-- a row behind its own key's mark; then the row before both is given up
abbrev pub row_behind_mark : List Happening
row_behind_mark = Admit 1 a (pos 1) (pos 9 ∷ []) ∷ Close (ByWatermark (pos 3)) ∷ Admit 2 a (pos 4) (pos 9 ∷ []) ∷ Start a ∷ []

-- two timers of a key are due at one watermark, and the first fires
abbrev pub fires_first : List Happening
fires_first = Admit 1 a (pos 1) (pos 3 ∷ []) ∷ Start a ∷ Admit 2 a (pos 2) (pos 4 ∷ []) ∷ Start a ∷ Close (ByWatermark (pos 5)) ∷ Fire 3 a ∷ []

-- and has run
abbrev pub fires_twice : List Happening
fires_twice = fires_first ++ Start a ∷ []

-- at a row: timer v1; at a timer: x = get c or 0, emit x
abbrev pub waking : Program
waking = record {
  fields = 1;
  states = record { name = codes "c"; kind = kind.Value } ∷ [];
  row = Act (Timer (Leaf (atom.Field 0))) Stop;
  timer = Some (Ask (Get 0 0 (Leaf (atom.Number (pos 0)))) (Act (Emit (Leaf (atom.Name 0) ∷ [])) Stop));
}

-- a firing whose request was served
abbrev pub firing_asks : List Happening
firing_asks = Admit 1 a (pos 1) (pos 3 ∷ []) ∷ Start a ∷ Close (ByWatermark (pos 3)) ∷ Fire 2 a ∷ Start a ∷ Serve a 0 ∷ []

-- both arms of a handler wait, and both answers are served before one is handed over
abbrev pub both_served : List Happening
both_served = Admit 1 a (pos 1) [] ∷ Start a ∷ Serve a 1 ∷ Serve a 0 ∷ []

abbrev pub both_go_on : List Happening
both_go_on = Deliver a 0 ∷ Deliver a 1 ∷ Serve a 0 ∷ Deliver a 0 ∷ Serve a 0 ∷ Deliver a 0 ∷ []
