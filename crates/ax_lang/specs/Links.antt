-- A table that is made from the last line of a handler backwards, where the open blocks are known by places.
use Rattle.std.specs.Prelude.{◌≡◌, ◌≤◌, ℕ, List, [], ◌∷◌, ◌++◌, length, true}
use Rattle.std.specs.List.{list_all}
use Rattle.ax_text.specs.declared.vocabulary.Kind.{Kind}
use Rattle.ax_text.specs.Rows.{HandlerLine, Level, level, top, below, before}
use Rattle.ax_lang.specs.declared.step.Stmt.{Stmt}
use Rattle.ax_lang.specs.declared.step.Step.{Step}
use Rattle.ax_lang.specs.declared.link.Starts.{Starts}
use Rattle.ax_lang.specs.Forms.{form_of, form_top, text_with}
use Rattle.ax_lang.specs.Steps.{row_fits, stmt_fits, steps_fit, text_at, GoesOn}

abbrev pub level_at : List Step → Starts → Level
level_at steps s = level (text_at steps s.text) (text_at steps s.second)

-- the blocks that are open; the innermost is the last
abbrev pub levels_at : List Step → List Starts → List Level
levels_at steps [] = []
levels_at steps (s ∷ ss) = levels_at steps ss ++ level_at steps s ∷ []

-- their places are those of the first n steps
abbrev pub AllUpTo : ℕ → List Starts → Type 0
AllUpTo n [] = Unit {0}
AllUpTo n (s ∷ ss) = (s.text ≤ n) × (s.second ≤ n) × AllUpTo n ss

-- the innermost block is taken off, or a block of nothing where none is open
pub record Taken (blocks : List Starts) (s : Starts) (rest : List Starts) : Type 0 where
  pub first : (steps : List Step) → top (levels_at steps blocks) ≡ level_at steps s
  pub others : (steps : List Step) → below (levels_at steps blocks) ≡ levels_at steps rest
  pub text : (n : ℕ) → AllUpTo n blocks → s.text ≤ n
  pub second : (n : ℕ) → AllUpTo n blocks → s.second ≤ n
  pub up : (n : ℕ) → AllUpTo n blocks → AllUpTo n rest

-- a step can stand behind a table: it names places of the table alone
abbrev pub CanStand : List Step → List Starts → Starts → Stmt → Type 0
CanStand steps blocks s stmt = AllUpTo (length steps) blocks × (s.text ≤ length steps) × (s.second ≤ length steps) × (form_top (form_of stmt) ≤ length steps)

-- a statement stands first in the block that these places describe
pub record Added (steps : List Step) (blocks : List Starts) (s : Starts) (stmt : Stmt) (steps' : List Step) (blocks' : List Starts) : Type 0 where
  pub levels : levels_at steps' blocks' ≡ level (text_with (text_at steps) (form_of stmt) s.text) (text_at steps s.second) ∷ levels_at steps blocks
  pub up : AllUpTo (length steps') blocks'
  pub longer : length steps ≤ length steps'
  pub stays : GoesOn steps steps'
  pub fits : (fields locals : ℕ) → (kinds : List Kind) → steps_fit fields locals kinds 0 steps ≡ true → stmt_fits fields locals kinds stmt ≡ true → steps_fit fields locals kinds 0 steps' ≡ true

-- a line stands before those that are linked
pub record Linked (r : HandlerLine) (steps : List Step) (blocks : List Starts) (steps' : List Step) (blocks' : List Starts) : Type 0 where
  pub levels : levels_at steps' blocks' ≡ before r (levels_at steps blocks)
  pub up : AllUpTo (length steps') blocks'
  pub longer : length steps ≤ length steps'
  pub stays : GoesOn steps steps'
  pub fits : (fields locals : ℕ) → (kinds : List Kind) → steps_fit fields locals kinds 0 steps ≡ true → row_fits fields locals kinds r ≡ true → steps_fit fields locals kinds 0 steps' ≡ true

-- where the table fits and so do these lines, the table with them does
abbrev pub FitsWith : List HandlerLine → List Step → List Step → Type 0
FitsWith rows steps steps' = (fields locals : ℕ) → (kinds : List Kind) → steps_fit fields locals kinds 0 steps ≡ true → list_all (row_fits fields locals kinds) rows ≡ true → steps_fit fields locals kinds 0 steps' ≡ true
