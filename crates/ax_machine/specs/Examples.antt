-- Small programs and events, worked out: what the plain thread writes for them.
use Rattle.std.specs.Prelude.{ℕ, ℤ, pos, List, [], ◌∷◌, ◌++◌, Some, None}
use Rattle.std.specs.List.{flat_map}
use lib.Chars.{codes}
use Rattle.ax_text.specs.declared.vocabulary.Kind.TheVariants as kind
use Rattle.ax_text.specs.declared.vocabulary.Op.TheVariants as op
use Rattle.ax_text.specs.declared.vocabulary.Atom.TheVariants as atom
use Rattle.ax_text.specs.Exprs.{Expr, Leaf, Join}
use Rattle.ax_text.specs.Texts.{Stop, Act, Ask, Emit, Timer, Get, Put}
use Rattle.ax_text.specs.Programs.{Program}
use Rattle.ax_text.specs.Jobs.{Job, Group}
use Rattle.ax_machine.specs.Entries.{Entry, Out, Watermark, Block}
use Rattle.ax_machine.specs.Entries as entry
use Rattle.ax_machine.specs.Events.{Event, Row, Mark, Barrier}

-- x + v1
abbrev pub count : Expr
count = Join op.Add (Leaf (atom.Name 0)) (Leaf (atom.Field 0))

-- x = get c or 0, put c x + v1, emit x + v1
abbrev pub counting : Program
counting = record {
  fields = 1;
  states = record { name = codes "c"; kind = kind.Value } ∷ [];
  row = Ask (Get 0 0 (Leaf (atom.Number (pos 0)))) (Ask (Put 0 count) (Act (Emit (count ∷ [])) Stop));
  timer = None;
}

abbrev pub row_of : List ℕ → ℤ → ℤ → Event
row_of key time value = Row key time (value ∷ [])

-- two keys by turns
abbrev pub clicks : List Event
clicks = row_of (codes "a") (pos 1) (pos 5) ∷ row_of (codes "b") (pos 2) (pos 1) ∷ row_of (codes "a") (pos 3) (pos 7) ∷ []

-- a line of one number
abbrev pub line : List ℕ → ℤ → Entry
line key number = Out key (number ∷ [])

-- at a row: timer v1, emit 1 , time; at a timer: emit 2 , time , wm
abbrev pub alarm : Program
alarm = record {
  fields = 1;
  states = [];
  row = Act (Timer (Leaf (atom.Field 0))) (Act (Emit (Leaf (atom.Number (pos 1)) ∷ Leaf atom.Time ∷ [])) Stop);
  timer = Some (Act (Emit (Leaf (atom.Number (pos 2)) ∷ Leaf atom.Time ∷ Leaf atom.Watermark ∷ [])) Stop);
}

-- a timer that a row sets below the present watermark
abbrev pub late_alarm : List Event
late_alarm = Mark (pos 5) ∷ row_of (codes "a") (pos 1) (pos 3) ∷ Mark (pos 6) ∷ []

-- one timer, set twice
abbrev pub same_alarm : List Event
same_alarm = row_of (codes "a") (pos 1) (pos 3) ∷ row_of (codes "a") (pos 2) (pos 3) ∷ Mark (pos 6) ∷ Mark (pos 7) ∷ []

-- timers of three keys, two of them at one time
abbrev pub three_alarms : List Event
three_alarms = row_of (codes "b") (pos 1) (pos 3) ∷ row_of (codes "a") (pos 1) (pos 3) ∷ row_of (codes "c") (pos 1) (pos 2) ∷ Mark (pos 3) ∷ []

-- at a row: timer v1; at a timer: emit time, timer time + 1
abbrev pub ticking : Program
ticking = record {
  fields = 1;
  states = [];
  row = Act (Timer (Leaf (atom.Field 0))) Stop;
  timer = Some (Act (Emit (Leaf atom.Time ∷ [])) (Act (Timer (Join op.Add (Leaf atom.Time) (Leaf (atom.Number (pos 1))))) Stop));
}

abbrev pub ticks : List Event
ticks = row_of (codes "a") (pos 1) (pos 2) ∷ Mark (pos 4) ∷ Mark (pos 5) ∷ []

-- a watermark at which more timers fall due than may fire
abbrev pub many_ticks : List Event
many_ticks = row_of (codes "a") (pos 1) (pos 0) ∷ Mark (pos 100000) ∷ []

-- x = get c or 0, put c x + v1, timer time; a timer does nothing
abbrev pub lasting : Program
lasting = record {
  fields = 1;
  states = record { name = codes "c"; kind = kind.Value } ∷ [];
  row = Ask (Get 0 0 (Leaf (atom.Number (pos 0)))) (Ask (Put 0 count) (Act (Timer (Leaf atom.Time)) Stop));
  timer = None;
}

-- the clicks, a watermark at which one timer is left, and a barrier
abbrev pub saved : List Event
saved = clicks ++ (Mark (pos 2) ∷ Barrier (pos 1) ∷ [])

abbrev pub watermark : ℤ → Entry
watermark time = entry.Mark (Watermark time)

-- a block of these lines
abbrev pub block : List (List ℕ) → Entry
block lines = entry.Mark (Block (flat_map (λ line. line ++ 10 ∷ []) lines))

-- a timer that fires, a row behind its watermark, a barrier, and a row behind that
abbrev pub mixed : List Event
mixed = row_of (codes "a") (pos 1) (pos 3) ∷ Mark (pos 3) ∷ row_of (codes "b") (pos 4) (pos 9) ∷ Barrier (pos 1) ∷ row_of (codes "a") (pos 5) (pos 9) ∷ []

-- what they write, entry by entry
abbrev pub first_a : Entry
first_a = Out (codes "a") (pos 1 ∷ pos 1 ∷ [])

abbrev pub firing_a : Entry
firing_a = Out (codes "a") (pos 2 ∷ pos 3 ∷ pos 3 ∷ [])

abbrev pub mark_3 : Entry
mark_3 = watermark (pos 3)

abbrev pub row_b : Entry
row_b = Out (codes "b") (pos 1 ∷ pos 4 ∷ [])

abbrev pub block_1 : Entry
block_1 = block (codes "s 1 3" ∷ codes "t b 9" ∷ codes "e 1 1" ∷ [])

abbrev pub last_a : Entry
last_a = Out (codes "a") (pos 1 ∷ pos 5 ∷ [])

abbrev pub mixed_entries : List Entry
mixed_entries = first_a ∷ firing_a ∷ mark_3 ∷ row_b ∷ block_1 ∷ last_a ∷ []

-- a job, its lines, and how many of its requests were served
abbrev pub group : Job → List (List ℤ) → ℕ → Group
group job lines served = record { job = job; lines = lines; served = served }
