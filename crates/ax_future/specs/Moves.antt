-- What one step of a handler does to what it has still to run.
use Rattle.std.specs.Prelude.{◌≡◌, ◌≤◌, ◌<◌, ◌+◌, ℕ, suc, max, List, [], ◌∷◌, ◌++◌}
use Rattle.ax_text.specs.declared.vocabulary.Request.{Request}
use Rattle.ax_text.specs.Exprs.{Facts}
use Rattle.ax_text.specs.Texts.{Text}
use Rattle.ax_text.specs.Programs.{width}
use Rattle.ax_text.specs.Run.{Talk}
use Rattle.ax_text.specs.Controls.{Rest, Cursor, Next, Turn, slots, least_free, waits, joined, begin}
use Rattle.ax_lang.specs.declared.program.Program.{Program}
use Rattle.ax_future.specs.declared.moves.Move.{Move}
use Rattle.ax_future.specs.declared.moves.Move.TheVariants as move
use Rattle.ax_future.specs.declared.node.Node.{Node}
use Rattle.ax_future.specs.declared.going.Going.{Going}
use Rattle.ax_lang.specs.Forms.{Form, Acts, Asks as AsksOnce, Branches, Repeats, Splits as SplitsIn}
use Rattle.ax_lang.specs.Shown.{text_from}
use Rattle.ax_future.specs.Sizes.{sizes, cursor_width}
use Rattle.ax_future.specs.Nodes.{next_in, control_in}
use Rattle.ax_future.specs.Talks.{talk_of, asks_in}

-- a statement that names no places
abbrev pub IsPlain : Form → Type 0
IsPlain (Acts q) = Unit {0}
IsPlain (AsksOnce a) = Unit {0}
IsPlain (Branches e one other) = ⊥
IsPlain (Repeats l body) = ⊥
IsPlain (SplitsIn one two) = ⊥

-- it goes on, and nears its end
pub record Goes (f : Facts) (k k' : Cursor) (t t' : Talk) : Type 0 where
  pub same : (used : List ℕ) → begin f k used t ≡ begin f k' used t'
  pub less : sizes k' < sizes k
  pub narrow : cursor_width k' ≤ cursor_width k

-- it asks, and waits
pub record Asks (f : Facts) (k k' : Cursor) (t t' : Talk) (r : Request) (n : Next) : Type 0 where
  pub same : (used : List ℕ) → begin f k used t ≡ waits (least_free used) r n k' t'
  pub wide : 1 ≤ cursor_width k

-- two arms begin, and it goes on behind them
pub record Splits (f : Facts) (one two : Text) (k k' : Cursor) (t t' : Talk) : Type 0 where
  pub same : (used : List ℕ) (x y : Turn) → begin f (Rest one ∷ []) used t' ≡ x → begin f (Rest two ∷ []) (used ++ slots x.control) x.talk ≡ y
      → begin f k used t ≡ joined x.control y.control (x.asks ++ y.asks) k' (begin f k' used) y.talk
  pub less : sizes k' < sizes k
  pub narrow : cursor_width k' ≤ cursor_width k
  pub wide : width one + width two ≤ cursor_width k

-- nothing is left to be run
pub record Ends (k : Cursor) (t t' : Talk) : Type 0 where
  pub none : k ≡ []
  pub same : t' ≡ t

abbrev pub Moves : Facts → Program → Cursor → Cursor → Talk → Talk → Move → Type 0
Moves f p k k' t t' move.End = Ends k t t'
Moves f p k k' t t' move.Go = Goes f k k' t t'
Moves f p k k' t t' (move.Wait request next) = Asks f k k' t t' request (next_in p next)
Moves f p k k' t t' (move.Split one two) = Splits f (text_from p one) (text_from p two) k k' t t'

-- what stands above the places that a move names
abbrev pub above : Move → ℕ
above move.End = 0
above move.Go = 0
above (move.Wait request next) = 0
above (move.Split one two) = suc (max one two)

-- what a callback leaves
abbrev pub turn_of : Program → Going → Node → Turn
turn_of p g node = record { control = control_in p node; talk = talk_of g; asks = asks_in g.said.asks }
