-- Which lists of entries are lawful, where the plain thread writes another list.
use Rattle.std.specs.Prelude.{◌≡◌, ℕ, suc, ◌≤◌, List, [], ◌∷◌, ◌++◌, length, Bool, true, if◌then◌else◌}
use Rattle.std.specs.Str.{bytes_eq}
use Rattle.ax_text.specs.Programs.{Program}
use Rattle.ax_machine.specs.Entries.{Key, Marker, Watermark, Block, Entry, Out, Mark, lines_of}
use Rattle.ax_machine.specs.Events.{Event}
use Rattle.ax_machine.specs.Sync.{sync}

abbrev pub IsPrefix : {A : Type 0} → List A → List A → Type 0
IsPrefix {A} xs ys = (rest : List A) × (ys ≡ xs ++ rest)

-- a marker, and how many lines each key has before it
pub record Cut : Type 0 where
  pub marker : Marker
  pub lines : Key → ℕ

-- one line more for a key
abbrev pub one_more : (Key → ℕ) → Key → Key → ℕ
one_more n k q = if bytes_eq k q then suc (n q) else n q

-- the cuts of entries that stand behind so many lines of each key
abbrev pub cuts_from : (Key → ℕ) → List Entry → List Cut
cuts_from n [] = []
cuts_from n (Out k line ∷ es) = cuts_from (one_more n k) es
cuts_from n (Mark m ∷ es) = record { marker = m; lines = n } ∷ cuts_from n es

abbrev pub cuts : List Entry → List Cut
cuts es = cuts_from (λ k. 0) es

abbrev pub markers : List Cut → List Marker
markers [] = []
markers (c ∷ cs) = c.marker ∷ markers cs

-- before each marker, each key has at least the lines that it has there in the plain thread
abbrev pub HasAll : List Cut → List Cut → Type 0
HasAll [] ds = Unit {0}
HasAll (c ∷ cs) [] = ⊥
HasAll (c ∷ cs) (d ∷ ds) = ((k : Key) → d.lines k ≤ c.lines k) × HasAll cs ds

-- a marker that no later line may precede: a block, and in serial mode a watermark too
abbrev pub IsStrict : Bool → Marker → Type 0
IsStrict serial (Watermark time) = serial ≡ true
IsStrict serial (Block text) = Unit {0}

-- before each strict marker, each key has at most the lines that it has there in the plain thread;
-- where the marker isn't written yet, this is said of all lines
abbrev pub HasNoMore : Bool → (Key → ℕ) → List Cut → List Cut → Type 0
HasNoMore serial all cs [] = Unit {0}
HasNoMore serial all [] (d ∷ ds) = (IsStrict serial d.marker → (k : Key) → all k ≤ d.lines k) × HasNoMore serial all [] ds
HasNoMore serial all (c ∷ cs) (d ∷ ds) = (IsStrict serial d.marker → (k : Key) → c.lines k ≤ d.lines k) × HasNoMore serial all cs ds

abbrev pub line_count : List Entry → Key → ℕ
line_count es k = length (lines_of k es)

-- `written` may have been written so far, where the plain thread writes `plain`
pub record LawfulSoFar (serial : Bool) (written plain : List Entry) : Type 0 where
  pub lines : (k : Key) → IsPrefix (lines_of k written) (lines_of k plain)
  pub markers : IsPrefix (markers (cuts written)) (markers (cuts plain))
  pub has_all : HasAll (cuts written) (cuts plain)
  pub has_no_more : HasNoMore serial (line_count written) (cuts written) (cuts plain)

-- `written` is a whole list that may be written, where the plain thread writes `plain`
pub record Lawful (serial : Bool) (written plain : List Entry) : Type 0 where
  pub lines : (k : Key) → lines_of k written ≡ lines_of k plain
  pub markers : markers (cuts written) ≡ markers (cuts plain)
  pub has_all : HasAll (cuts written) (cuts plain)
  pub has_no_more : HasNoMore serial (line_count written) (cuts written) (cuts plain)

-- what a program may have written for all of these events, where there are m key groups
abbrev pub LawfulFor : ℕ → Bool → Program → List Event → List Entry → Type 0
LawfulFor m serial p events written = Lawful serial written (sync m p events).entries

-- what it may have written so far
abbrev pub LawfulSoFarFor : ℕ → Bool → Program → List Event → List Entry → Type 0
LawfulSoFarFor m serial p events written = LawfulSoFar serial written (sync m p events).entries

-- the place in the plain thread's list of a marker before which `front` was written: no marker is left out before it,
-- each key has at least the lines that it has there in the plain thread, and where the marker is strict just those
pub record HasPlace (serial : Bool) (front : List Entry) (marker : Marker) (plain : List Entry) : Type 0 where
  pub before : List Entry
  pub behind : List Entry
  pub stands : plain ≡ before ++ Mark marker ∷ behind
  pub markers : markers (cuts front) ≡ markers (cuts before)
  pub has_all : (k : Key) → IsPrefix (lines_of k before) (lines_of k front)
  pub has_no_more : IsStrict serial marker → (k : Key) → lines_of k front ≡ lines_of k before
