-- A line that is being put behind bytes.
use Rattle.std.specs.Prelude.{ℕ, List}

pub record Drafted : Type 0 where
  pub front : List ℕ
  -- what was put of the line
  pub line : List ℕ
