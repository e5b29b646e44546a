-- A block that is being put together.
use Rattle.std.specs.Prelude.{◌≡◌, ℕ, ◌+◌, List, ◌++◌, length}
use Rattle.ax_machine.specs.OutLines.{OutLine, lines_text}

-- the text so far, and how many lines there are behind the head
pub record Put : Type 0 where
  pub text : List ℕ
  pub count : ℕ

-- these lines were put behind those of a block
pub record Adds (old new : Put) (lines : List OutLine) : Type 0 where
  pub text : new.text ≡ old.text ++ lines_text lines
  pub count : new.count ≡ old.count + length lines
