-- What a batch of requests does to the states of the keys of a shard, and what it answers.
use Rattle.std.specs.Prelude.{◌≡◌, ℕ, List, [], ◌∷◌, take, true, if◌then◌else◌, Option, Some, None, Result, Ok, Err}
use Rattle.std.specs.List.{All}
use Rattle.std.specs.Map.{lookup}
use Rattle.std.specs.BTreeMap.{is_at}
use Rattle.std.specs.Str.{bytes_eq}
use Rattle.ax_base.specs.declared.outside.NoMemory.{NoMemory}
use Rattle.ax_keys.specs.Keys.{key_cmp}
use Rattle.ax_text.specs.declared.vocabulary.Kind.{Kind}
use Rattle.ax_text.specs.Cells.{Cell, Cells, answer_of, cells_after}
use Rattle.ax_text.specs.Programs.{untouched}
use Rattle.ax_text.specs.Suits.{fits_in}
use Rattle.ax_state.specs.KeyCells.{shown_cells, cell_kinds}
use Rattle.ax_buffer.specs.declared.items.Item.{Item}
use Rattle.ax_buffer.specs.declared.items.Reply.{Reply}
use Rattle.ax_machine.specs.Entries.{Key}

-- what the states of every key hold
abbrev pub Content : Type 0
Content = Key → Cells

-- the answer to a request, for the context and the slot that asked
abbrev pub reply_to : Item → Content → Reply
reply_to i content = record { id = i.id; slot = i.slot; answer = answer_of i.request (content i.key) }

-- the content behind a request, which touches the states of its own key alone
abbrev pub content_with : Item → Content → Content
content_with i content q = if bytes_eq i.key q then cells_after i.request (content i.key) else content q

-- a batch is served request by request
abbrev pub replies_to : List Item → Content → List Reply
replies_to [] content = []
replies_to (i ∷ is) content = reply_to i content ∷ replies_to is (content_with i content)

abbrev pub content_after : List Item → Content → Content
content_after [] content = content
content_after (i ∷ is) content = content_after is (content_with i content)

-- the requests of a batch are served; where memory was short, only so many of them
pub record IsPartServed (is : List Item) (old new : Content) : Type 0 where
  pub count : ℕ
  pub content : new ≡ content_after (take count is) old

pub record IsServed (is : List Item) (old new : Content) (rs : List Reply) : Type 0 where
  pub replies : rs ≡ replies_to is old
  pub content : new ≡ content_after is old

abbrev pub Serves : List Item → Content → Result (List Reply) NoMemory → Content → Type 0
Serves is old (Ok rs) new = IsServed is old new rs
Serves is old (Err e) new = ∥ IsPartServed is old new ∥₁

-- each request of a batch can be served where states of these kinds are declared
abbrev pub AllFit : List Kind → List Item → Type 0
AllFit kinds is = All (λ i. fits_in kinds i.request ≡ true) is

-- what is held: the states of each key that had a request, by rising key
pub record Holding : Type 0 where
  -- the kinds of the declared states
  pub kinds : List Kind
  pub entries : List (Key × List Cell)

abbrev pub cells_or : List Kind → Option (List Cell) → Cells
cells_or kinds None = untouched kinds
cells_or kinds (Some cells) = shown_cells cells

-- the states of a key of which nothing is held were never touched
abbrev pub content_in : List Kind → List (Key × List Cell) → Content
content_in kinds entries q = cells_or kinds (lookup (is_at (key_cmp q)) entries)

abbrev pub content_of : Holding → Content
content_of h = content_in h.kinds h.entries

-- what is held of a key are states of the declared kinds
abbrev pub FitsIfHeld : List Kind → Option (List Cell) → Type 0
FitsIfHeld kinds None = Unit {0}
FitsIfHeld kinds (Some cells) = cell_kinds cells ≡ kinds

abbrev pub HoldsKinds : List Kind → List (Key × List Cell) → Type 0
HoldsKinds kinds entries = (q : Key) → FitsIfHeld kinds (lookup (is_at (key_cmp q)) entries)
