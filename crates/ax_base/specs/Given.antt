-- What a call of `next` answers.
use Rattle.std.specs.Prelude.{◌≡◌, ◌+◌, ◌≤◌, ◌<◌, ℕ, List, [], ◌∷◌, ◌++◌, length, true, false, Option, Some, None, Result, Ok, Err, ◌⊎◌}
use Rattle.std.specs.Io.KnownBytes.{Consumes}
use Rattle.ax_base.specs.Outside.{RoseByOne}
use Rattle.ax_base.specs.Pieces.{Piece, Whole, pieces_of}
use Rattle.ax_base.specs.Pieces as piece
use Rattle.ax_base.specs.Reader.{Reader}
use Rattle.ax_base.specs.Lines.{no_feed, NothingLeft, BeginsTooLong, BeginsTooMuch}
use Rattle.ax_base.specs.declared.lines.Line.{Line}
use Rattle.ax_base.specs.declared.lines.LineFault.{LineFault}
use Rattle.ax_base.specs.declared.lines.LineFault.TheVariants as fault

-- the pieces that lie before a reader whose source has these bytes left
abbrev pub ahead : Reader → List ℕ → List Piece
ahead r left = pieces_of r.limit (r.held ++ left)

-- the answer and the pieces after it are the pieces before it; `rest` is all bytes still to come
abbrev pub Gives : List Piece → List Piece → List ℕ → Result (Option Line) LineFault → Type 0
Gives before after rest (Ok (Some line)) = before ≡ Whole line.text ∷ after
Gives before after rest (Ok None) = (before ≡ []) × (after ≡ []) × (rest ≡ [])
Gives before after rest (Err fault.Read) = before ≡ after
Gives before after rest (Err (fault.TooLong n)) = before ≡ piece.TooLong ∷ []
Gives before after rest (Err (fault.TooMuch n)) = before ≡ piece.TooMuch ∷ []
Gives before after rest (Err fault.NoMemory) = Unit {0}

-- a line of these bytes: its line feed follows, or the bytes and the source end with it
abbrev pub Ends : Type 0 → Reader → List ℕ → List ℕ → Reader → Type 0
Ends Ended old bytes text new =
    ((bytes ≡ text ++ 10 ∷ new.held) × (length text + 1 + new.limit ≡ old.limit))
    ⊎ ((bytes ≡ text) × (new.held ≡ []) × (0 < length text) × (length text + new.limit ≡ old.limit) × Ended)

-- what the bytes that a reader held or read show, whether or not its source tells what is left
abbrev pub Shows : Type 0 → Reader → List ℕ → Reader → Result (Option Line) LineFault → Type 0
Shows Ended old bytes new (Ok (Some line)) = (no_feed line.text ≡ true) × (length line.text ≤ 65536) × Ends Ended old bytes line.text new
Shows Ended old bytes new (Ok None) = (bytes ≡ []) × (new.held ≡ []) × Ended
Shows Ended old bytes new (Err fault.Read) = new.held ≡ bytes
Shows Ended old bytes new (Err (fault.TooLong n)) = BeginsTooLong bytes old.limit
Shows Ended old bytes new (Err (fault.TooMuch n)) = BeginsTooMuch bytes old.limit
Shows Ended old bytes new (Err fault.NoMemory) = Unit {0}

-- the answer follows from the bytes held before and those read in this call
abbrev pub ReadsMore : Option (List ℕ) → Option (List ℕ) → Reader → Reader → Result (Option Line) LineFault → Type 0
ReadsMore left left' old new result = (more : List ℕ) × Consumes left left' more × Shows (NothingLeft left left') old (old.held ++ more) new result

-- numbers rise by one and the limit falls by what was given, at a line alone; a fault is the last
-- answer
abbrev pub Advances : Reader → Reader → Result (Option Line) LineFault → Type 0
Advances old new (Ok (Some line)) = (line.number ≡ old.number + 1) × (new.number ≡ old.number + 1) × (new.limit < old.limit) × (length line.text + new.limit ≤ old.limit) × (new.failed ≡ false)
Advances old new (Ok None) = (new.number ≡ old.number) × (new.limit ≡ old.limit) × (new.failed ≡ false)
Advances old new (Err fault.Read) = (new.number ≡ old.number) × (new.limit ≡ old.limit) × (new.failed ≡ true)
Advances old new (Err (fault.TooLong n)) = (n ≡ old.number + 1) × (new.number ≡ old.number) × (new.limit ≡ old.limit) × (new.failed ≡ true)
Advances old new (Err (fault.TooMuch n)) = (n ≡ old.number + 1) × (new.number ≡ old.number) × (new.limit ≡ old.limit) × (new.failed ≡ true)
Advances old new (Err fault.NoMemory) = (new.number ≡ old.number) × (new.limit ≡ old.limit) × (new.failed ≡ true)

abbrev pub IsReadFault : Result (Option Line) LineFault → Type 0
IsReadFault (Ok o) = ⊥
IsReadFault (Err fault.Read) = Unit {0}
IsReadFault (Err (fault.TooLong n)) = ⊥
IsReadFault (Err (fault.TooMuch n)) = ⊥
IsReadFault (Err fault.NoMemory) = ⊥

-- the count of the source's faults rises by one where it could not be read, and stays at every other answer
abbrev pub LineCount : ℕ → ℕ → Result (Option Line) LineFault → Type 0
LineCount before now (Ok o) = now ≡ before
LineCount before now (Err fault.Read) = RoseByOne before now
LineCount before now (Err (fault.TooLong n)) = now ≡ before
LineCount before now (Err (fault.TooMuch n)) = now ≡ before
LineCount before now (Err fault.NoMemory) = now ≡ before

-- what was read and not given goes at most one byte past the limit, and lies within it where a read failed
abbrev pub StaysNear : Reader → Result (Option Line) LineFault → Type 0
StaysNear new (Ok o) = length new.held ≤ new.limit + 1
StaysNear new (Err fault.Read) = length new.held ≤ new.limit
StaysNear new (Err (fault.TooLong n)) = length new.held ≤ new.limit + 1
StaysNear new (Err (fault.TooMuch n)) = length new.held ≤ new.limit + 1
StaysNear new (Err fault.NoMemory) = length new.held ≤ new.limit + 1
