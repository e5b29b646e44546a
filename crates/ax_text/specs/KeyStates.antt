-- What a key has.
use Rattle.std.specs.Prelude.{ℤ, List, []}
use Rattle.ax_text.specs.declared.vocabulary.Kind.{Kind}
use Rattle.ax_text.specs.Cells.{Cells}
use Rattle.ax_text.specs.Programs.{untouched}

pub record KeyState : Type 0 where
  -- what its states hold
  pub cells : Cells
  -- the times of its timers, rising, each once
  pub times : List ℤ

-- a key that was never touched, where these states are declared
abbrev pub fresh : List Kind → KeyState
fresh kinds = record { cells = untouched kinds; times = [] }
