-- The machine of seven events.
use Rattle.std.specs.Prelude.{◌≡◌, ℕ, suc, ◌+◌, ℤ, List, [], ◌∷◌, ◌++◌, length, Bool, false, if◌then◌else◌, Option, Some, None}
use Rattle.std.specs.Str.{bytes_eq}
use Rattle.std.specs.BTreeSet.{insert_key}
use Rattle.ax_keys.specs.Keys.{key_cmp}
use Rattle.ax_text.specs.Programs.{Program}
use Rattle.ax_machine.specs.Entries.{Key, Entry, Watermark, Block, says}
use Rattle.ax_machine.specs.Entries as entry
use Rattle.ax_machine.specs.Events.{Event}
use Rattle.ax_machine.specs.Events as event
use Rattle.ax_machine.specs.Firings.{most_firings}
use Rattle.ax_execution.specs.Sums.{total}
use Rattle.ax_machine.specs.Blocks.{block_text}
use Rattle.ax_machine.specs.Sync.{parts_of}
use Rattle.ax_text.specs.Controls.{Ask'}
use Rattle.ax_execution.specs.Groups.{row_facts}
use Rattle.ax_execution.specs.Origins.{Origin, said_from}
use Rattle.ax_execution.specs.Contexts.{Part, contexts_in, is_idle}
use Rattle.ax_execution.specs.Rest.{part_work}
use Rattle.ax_execution.specs.Turns.{Effects, start_effects, deliver_effects, admit, mark, fire, start, serve, deliver}

-- what closed an epoch
pub data Closing : Type 0 where
  ByWatermark : (time : ℤ) → Closing
  ByBarrier : (id : ℤ) → Closing

-- a closed epoch whose marker isn't sent
pub record Closed : Type 0 where
  pub epoch : ℕ
  pub closing : Closing

pub record Machine : Type 0 where
  pub wm : ℤ
  -- the number of the current epoch
  pub epoch : ℕ
  -- the keys of the rows so far, rising by their bytes, each once
  pub keys : List Key
  pub parts : Key → Part
  -- the key that must fire next
  pub must : Option Key
  -- the oldest first
  pub unsent : List Closed
  pub written : List Entry

-- an event; a context is named by the key that it owns
pub data Happening : Type 0 where
  Admit : (number : ℕ) → (key : Key) → (time : ℤ) → (values : List ℤ) → Happening
  Close : (closing : Closing) → Happening
  Fire : (number : ℕ) → (key : Key) → Happening
  Start : (key : Key) → Happening
  Serve : (key : Key) → (slot : ℕ) → Happening
  Deliver : (key : Key) → (slot : ℕ) → Happening
  Send : Happening

-- the options that the machine knows: the mode, and how many contexts may be in flight
pub record Rules : Type 0 where
  pub serial : Bool
  pub limit : ℕ

abbrev pub part_at : (Key → Part) → Key → Part → Key → Part
part_at parts k part q = if bytes_eq k q then part else parts q

-- a key that is idle must fire next
abbrev pub must_fire : Key → Part → Option Key
must_fire k part = if is_idle part then Some k else None

-- a key goes on, and these lines of it are written
abbrev pub goes_on : Key → Option Key → List (List ℤ) → Part → Machine → Machine
goes_on k must lines part m = record {
  wm = m.wm;
  epoch = m.epoch;
  keys = m.keys;
  unsent = m.unsent;
  parts = part_at m.parts k part;
  must = must;
  written = m.written ++ says k lines;
}

-- a callback of a key's owner ends
abbrev pub calls_back : Key → Effects → Part → Machine → Machine
calls_back k effects part m = goes_on k (must_fire k part) effects.lines part m

abbrev pub marker_of : ℕ → Program → Closing → Machine → entry.Marker
marker_of g p (ByWatermark time) m = Watermark time
marker_of g p (ByBarrier id) m = Block (block_text g p.states id m.wm (parts_of m.keys (λ k. (m.parts k).said.state)))

abbrev pub send_first : ℕ → Program → List Closed → Machine → Machine
send_first g p [] m = m
send_first g p (c ∷ cs) m = record { wm = m.wm; epoch = m.epoch; keys = m.keys; parts = m.parts; must = m.must; unsent = cs; written = m.written ++ entry.Mark (marker_of g p c.closing m) ∷ [] }

abbrev pub close : Closing → (Key → Part) → ℤ → Machine → Machine
close c parts wm m = record {
  wm = wm;
  epoch = suc m.epoch;
  keys = m.keys;
  parts = parts;
  must = m.must;
  unsent = m.unsent ++ record { epoch = m.epoch; closing = c } ∷ [];
  written = m.written;
}

-- where there are g key groups
abbrev pub happens : ℕ → Program → Happening → Machine → Machine
happens g p (Admit n k time values) m = record {
  wm = m.wm;
  epoch = m.epoch;
  must = m.must;
  unsent = m.unsent;
  written = m.written;
  keys = insert_key key_cmp m.keys k;
  parts = part_at m.parts k (admit n m.epoch (row_facts m.wm time values) (m.parts k));
}
happens g p (Close (ByWatermark w)) m = close (ByWatermark w) (λ k. mark m.epoch w most_firings (m.parts k)) w m
happens g p (Close (ByBarrier id)) m = close (ByBarrier id) m.parts m.wm m
happens g p (Fire n k) m = goes_on k None [] (fire n (m.parts k)) m
happens g p (Start k) m = calls_back k (start_effects p (m.parts k)) (start p (m.parts k)) m
happens g p (Serve k slot) m = goes_on k m.must [] (serve slot (m.parts k)) m
happens g p (Deliver k slot) m = calls_back k (deliver_effects slot (m.parts k)) (deliver slot (m.parts k)) m
happens g p Send m = send_first g p m.unsent m

-- what an event does besides changing the machine's state: the entries that it writes, the requests that it asks, in the order
-- of their slots, whether a context is given up, and which key must fire behind it
pub record Outcome : Type 0 where
  pub entries : List Entry
  pub asks : List Ask'
  pub gone : Bool
  pub fires : Option Key

abbrev pub no_outcome : Outcome
no_outcome = record { entries = []; asks = []; gone = false; fires = None }

-- of a callback that leaves its key so
abbrev pub outcome_of : Key → Effects → Part → Outcome
outcome_of k effects part = record { entries = says k effects.lines; asks = effects.asks; gone = effects.gone; fires = must_fire k part }

abbrev pub sends_first : ℕ → Program → List Closed → Machine → Outcome
sends_first g p [] m = no_outcome
sends_first g p (c ∷ cs) m = record { entries = entry.Mark (marker_of g p c.closing m) ∷ []; asks = []; gone = false; fires = None }

abbrev pub outcome : ℕ → Program → Happening → Machine → Outcome
outcome g p (Admit n k time values) m = no_outcome
outcome g p (Close c) m = no_outcome
outcome g p (Fire n k) m = no_outcome
outcome g p (Start k) m = outcome_of k (start_effects p (m.parts k)) (start p (m.parts k))
outcome g p (Serve k slot) m = no_outcome
outcome g p (Deliver k slot) m = outcome_of k (deliver_effects slot (m.parts k)) (deliver slot (m.parts k))
outcome g p Send m = sends_first g p m.unsent m

-- the contexts that were made and not given up, waiting rows among them
abbrev pub in_flight : Machine → ℕ
in_flight m = total m.keys (λ k. contexts_in (m.parts k))

abbrev pub after_all : ℕ → Program → List Happening → Machine → Machine
after_all g p [] m = m
after_all g p (e ∷ es) m = after_all g p es (happens g p e m)

-- the events of the input that were taken
abbrev pub taken : List Happening → List Event
taken [] = []
taken (Admit n k time values ∷ es) = event.Row k time values ∷ taken es
taken (Close (ByWatermark w) ∷ es) = event.Mark w ∷ taken es
taken (Close (ByBarrier id) ∷ es) = event.Barrier id ∷ taken es
taken (Fire n k ∷ es) = taken es
taken (Start k ∷ es) = taken es
taken (Serve k slot ∷ es) = taken es
taken (Deliver k slot ∷ es) = taken es
taken (Send ∷ es) = taken es

abbrev pub machine_from : Origin → Machine
machine_from from = record {
  wm = from.wm;
  epoch = 0;
  keys = from.keys;
  must = None;
  unsent = [];
  written = [];
  parts = λ k. record { owner = None; waiting = []; said = said_from from k };
}

-- the machine behind these events, from an origin
abbrev pub machine_of : ℕ → Program → Origin → List Happening → Machine
machine_of g p from es = after_all g p es (machine_from from)

-- the work left: that of each key, and one for each marker to be sent
abbrev pub work : Program → Machine → ℕ
work p m = total m.keys (λ k. part_work p (m.parts k)) + length m.unsent

-- nothing is in flight, every key is free, and every marker is sent
pub record IsAtRest (m : Machine) : Type 0 where
  pub owners : (k : Key) → (m.parts k).owner ≡ None
  pub waiting : (k : Key) → (m.parts k).waiting ≡ []
  pub unsent : m.unsent ≡ []

-- the events that take nothing of the input
abbrev pub IsWork : Happening → Type 0
IsWork (Admit n k time values) = ⊥
IsWork (Close c) = ⊥
IsWork (Fire n k) = Unit {0}
IsWork (Start k) = Unit {0}
IsWork (Serve k slot) = Unit {0}
IsWork (Deliver k slot) = Unit {0}
IsWork Send = Unit {0}
