-- What of the machine a controller knows: the control of each key, and neither cells nor what was said or written.
use Rattle.std.specs.Prelude.{ℕ, suc, ◌+◌, ℤ, List, [], ◌∷◌, ◌++◌, Bool, false, if◌then◌else◌, Option, Some, None, length}
use Rattle.std.specs.Str.{bytes_eq}
use Rattle.std.specs.BTreeSet.{insert_key}
use Rattle.ax_keys.specs.Keys.{key_cmp}
use Rattle.ax_text.specs.declared.vocabulary.Answer.{Answer}
use Rattle.ax_text.specs.Cells.{Cells}
use Rattle.ax_text.specs.Programs.{Program}
use Rattle.ax_text.specs.Controls.{Ask'}
use Rattle.ax_machine.specs.Entries.{Key, Entry, says}
use Rattle.ax_machine.specs.Entries as entry
use Rattle.ax_machine.specs.Firings.{most_firings}
use Rattle.ax_execution.specs.Sums.{total}
use Rattle.ax_execution.specs.Groups.{row_facts}
use Rattle.ax_execution.specs.Origins.{Origin}
use Rattle.ax_execution.specs.Rest.{part_work}
use Rattle.ax_execution.specs.Turns.{Effects, owner_starts, owner_gives}
use Rattle.ax_execution.specs.KeyControls.{KeyControl, control_of, owner_answer, keeps_answer}
use Rattle.ax_execution.specs.ControlTurns.{is_idle_on, contexts_on, start_on, deliver_on, fire_on, admit_on, mark_on}
use Rattle.ax_execution.specs.Machine.{Closing, ByWatermark, ByBarrier, Closed, Machine, Happening, Admit, Close, Fire, Start, Serve, Deliver, Send, marker_of}
use Rattle.ax_execution.specs.Counts.{owner_of_epoch, waiting_of_epoch, owner_numbered, rows_numbered, owner_references}

pub record MachineControl : Type 0 where
  pub wm : ℤ
  -- the number of the current epoch
  pub epoch : ℕ
  -- the keys of the rows so far, rising by their bytes, each once
  pub keys : List Key
  pub controls : Key → KeyControl
  -- the key that must fire next
  pub must : Option Key
  -- the oldest first
  pub unsent : List Closed

abbrev pub control_of_machine : Machine → MachineControl
control_of_machine m = record {
  wm = m.wm;
  epoch = m.epoch;
  keys = m.keys;
  controls = λ k. control_of (m.parts k);
  must = m.must;
  unsent = m.unsent;
}

abbrev pub at_origin : Origin → MachineControl
at_origin from = record {
  wm = from.wm;
  epoch = 0;
  keys = from.keys;
  controls = λ k. record { owner = None; waiting = []; times = (from.map k).times };
  must = None;
  unsent = [];
}

abbrev pub control_at : (Key → KeyControl) → Key → KeyControl → Key → KeyControl
control_at controls k c q = if bytes_eq k q then c else controls q

-- a key that is idle must fire next
abbrev pub must_fire_on : Key → KeyControl → Option Key
must_fire_on k c = if is_idle_on c then Some k else None

-- a key goes on
abbrev pub control_goes_on : Key → Option Key → KeyControl → MachineControl → MachineControl
control_goes_on k must c m = record {
  wm = m.wm;
  epoch = m.epoch;
  keys = m.keys;
  unsent = m.unsent;
  controls = control_at m.controls k c;
  must = must;
}

-- a callback of a key's owner ends
abbrev pub calls_back_on : Key → KeyControl → MachineControl → MachineControl
calls_back_on k c m = control_goes_on k (must_fire_on k c) c m

abbrev pub close_on : Closing → (Key → KeyControl) → ℤ → MachineControl → MachineControl
close_on c controls wm m = record {
  wm = wm;
  epoch = suc m.epoch;
  keys = m.keys;
  controls = controls;
  must = m.must;
  unsent = m.unsent ++ record { epoch = m.epoch; closing = c } ∷ [];
}

abbrev pub send_first_on : List Closed → MachineControl → MachineControl
send_first_on [] m = m
send_first_on (c ∷ cs) m = record { wm = m.wm; epoch = m.epoch; keys = m.keys; controls = m.controls; must = m.must; unsent = cs }

-- an event; at a serve, with the answer that the cells give
abbrev pub happens_on : Program → Happening → Option Answer → MachineControl → MachineControl
happens_on p (Admit n k time values) answer m = record {
  wm = m.wm;
  epoch = m.epoch;
  must = m.must;
  unsent = m.unsent;
  keys = insert_key key_cmp m.keys k;
  controls = control_at m.controls k (admit_on n m.epoch (row_facts m.wm time values) (m.controls k));
}
happens_on p (Close (ByWatermark w)) answer m = close_on (ByWatermark w) (λ k. mark_on m.epoch w most_firings (m.controls k)) w m
happens_on p (Close (ByBarrier id)) answer m = close_on (ByBarrier id) m.controls m.wm m
happens_on p (Fire n k) answer m = control_goes_on k None (fire_on n (m.controls k)) m
happens_on p (Start k) answer m = calls_back_on k (start_on p (m.controls k)) m
happens_on p (Serve k slot) answer m = control_goes_on k m.must (keeps_answer slot answer (m.controls k)) m
happens_on p (Deliver k slot) answer m = calls_back_on k (deliver_on slot (m.controls k)) m
happens_on p Send answer m = send_first_on m.unsent m

-- the answer that the cells give, where an event serves a request
abbrev pub answer_of_event : Happening → Machine → Option Answer
answer_of_event (Admit n k time values) m = None
answer_of_event (Close c) m = None
answer_of_event (Fire n k) m = None
answer_of_event (Start k) m = None
answer_of_event (Serve k slot) m = owner_answer slot (m.parts k).owner (m.parts k).said.state.cells
answer_of_event (Deliver k slot) m = None
answer_of_event Send m = None

-- what an event does besides: the lines that it writes, the requests that it asks, in the order of their slots, whether a context
-- is given up, which key must fire behind it, and what closed the epoch whose marker it sends
pub record ControlOutcome : Type 0 where
  pub lines : List Entry
  pub asks : List Ask'
  pub gone : Bool
  pub fires : Option Key
  pub sent : Option Closing

abbrev pub says_nothing : Option Closing → ControlOutcome
says_nothing sent = record { lines = []; asks = []; gone = false; fires = None; sent = sent }

-- of a callback that leaves its key so
abbrev pub outcome_of_effects : Key → Effects → KeyControl → ControlOutcome
outcome_of_effects k effects c = record { lines = says k effects.lines; asks = effects.asks; gone = effects.gone; fires = must_fire_on k c; sent = None }

abbrev pub first_closing : List Closed → Option Closing
first_closing [] = None
first_closing (c ∷ cs) = Some c.closing

abbrev pub outcome_on : Program → Happening → MachineControl → ControlOutcome
outcome_on p (Admit n k time values) m = says_nothing None
outcome_on p (Close c) m = says_nothing None
outcome_on p (Fire n k) m = says_nothing None
outcome_on p (Start k) m = outcome_of_effects k (owner_starts p (m.controls k).owner) (start_on p (m.controls k))
outcome_on p (Serve k slot) m = says_nothing None
outcome_on p (Deliver k slot) m = outcome_of_effects k (owner_gives slot (m.controls k).owner) (deliver_on slot (m.controls k))
outcome_on p Send m = says_nothing (first_closing m.unsent)

-- the marker of what closed an epoch, if any is sent; its text is what the cells have
abbrev pub sent_entries : ℕ → Program → Option Closing → Machine → List Entry
sent_entries g p None m = []
sent_entries g p (Some c) m = entry.Mark (marker_of g p c m) ∷ []

-- the contexts that were made and not given up
abbrev pub in_flight_on : MachineControl → ℕ
in_flight_on m = total m.keys (λ k. contexts_on (m.controls k))

-- the contexts of rows of an epoch, and its marks
abbrev pub control_of_epoch : ℕ → KeyControl → ℕ
control_of_epoch e c = owner_of_epoch e c.owner + waiting_of_epoch e c.waiting

abbrev pub epoch_count_on : ℕ → MachineControl → ℕ
epoch_count_on e m = total m.keys (λ k. control_of_epoch e (m.controls k))

-- the contexts that have a number
abbrev pub control_numbered : ℕ → KeyControl → ℕ
control_numbered n c = owner_numbered n c.owner + rows_numbered n c.waiting

abbrev pub number_count_on : ℕ → MachineControl → ℕ
number_count_on n m = total m.keys (λ k. control_numbered n (m.controls k))

-- the references of the contexts that have a number
abbrev pub control_references : ℕ → KeyControl → ℕ
control_references n c = owner_references n c.owner + rows_numbered n c.waiting

abbrev pub reference_count_on : ℕ → MachineControl → ℕ
reference_count_on n m = total m.keys (λ k. control_references n (m.controls k))

-- the work left of a key with this control and these cells
abbrev pub control_work : Program → KeyControl → Cells → ℕ
control_work p c cells = part_work p (record { owner = c.owner; waiting = c.waiting; said = record { state = record { cells = cells; times = c.times }; groups = [] } })

-- the work left, where the keys have these cells: that of each key, and one for each marker to be sent
abbrev pub work_on : Program → (Key → Cells) → MachineControl → ℕ
work_on p cells m = total m.keys (λ k. control_work p (m.controls k) (cells k)) + length m.unsent
