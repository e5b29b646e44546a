-- What a reader of lines has before it, and what a call gives.
use Rattle.std.specs.Prelude.{◌≡◌, ◌≤◌, ◌<◌, ◌+◌, ◌-◌, ℕ, List, [], ◌∷◌, ◌++◌, length, take, drop, Bool, true, false, if◌then◌else◌, ◌==◌, Option, Some, None, Result, Ok, Err, ◌⊎◌}
use Rattle.std.specs.Io.KnownBytes.{Consumes}
use Rattle.ax_base.specs.Pieces.{pieces_of}
use Rattle.ax_base.specs.Pieces as piece
use Rattle.ax_base.specs.Outside.{Told, RoseByOne}
use Rattle.ax_base.specs.declared.find.Found.{Found}
use Rattle.ax_base.specs.declared.find.Found.TheVariants as found
use Rattle.ax_base.specs.declared.find.Stop.{Stop}
use Rattle.ax_base.specs.declared.find.Stop.TheVariants as stop

-- no line feed stands in the bytes
abbrev pub no_feed : List ℕ → Bool
no_feed [] = true
no_feed (b ∷ bs) = if b == 10 then false else no_feed bs

-- more than 65,536 bytes stand before any line feed, and that many lie within the limit
abbrev pub BeginsTooLong : List ℕ → ℕ → Type 0
BeginsTooLong bytes limit = (n : ℕ) × (65536 < n) × (n ≤ length bytes) × (65536 < limit) × (no_feed (take n bytes) ≡ true)

-- the next line does not end within the limit, and passes it before it is too long
abbrev pub BeginsTooMuch : List ℕ → ℕ → Type 0
BeginsTooMuch bytes limit = (limit < length bytes) × (limit ≤ 65536) × (no_feed (take limit bytes) ≡ true)

-- a line's text, its line feed, and what follows
abbrev pub SplitsAt : List ℕ → ℕ → Type 0
SplitsAt held n = (n ≤ 65536) × (no_feed (take n held) ≡ true) × (held ≡ take n held ++ 10 ∷ drop (n + 1) held)

-- what held bytes show of the next line, whatever comes behind them
abbrev pub Sees : List ℕ → ℕ → Found → Type 0
Sees held limit (found.Line n) = (n < length held) × (n < limit) × ((more : List ℕ) → pieces_of limit (held ++ more) ≡ piece.Whole (take n held) ∷ pieces_of (limit - (n + 1)) (drop (n + 1) held ++ more)) × SplitsAt held n
Sees held limit found.Long = ((more : List ℕ) → pieces_of limit (held ++ more) ≡ piece.TooLong ∷ []) × BeginsTooLong held limit
Sees held limit found.Much = ((more : List ℕ) → pieces_of limit (held ++ more) ≡ piece.TooMuch ∷ []) × BeginsTooMuch held limit
Sees held limit found.Rest = (no_feed held ≡ true) × (length held ≤ 65536) × (length held ≤ limit)

-- the source has nothing left, where it tells what it has
abbrev pub NothingLeft : Option (List ℕ) → Option (List ℕ) → Type 0
NothingLeft left left' = Told left left' (λ a b. b ≡ [])

-- the text ends with a line feed, or is all that is held at the end of the source
abbrev pub EndsAt : Type 0 → List ℕ → ℕ → ℕ → Type 0
EndsAt Ended held text whole = ((whole ≡ text + 1) × SplitsAt held text) ⊎ ((whole ≡ text) × (length held ≡ text) × (text ≤ 65536) × (no_feed held ≡ true) × Ended)

-- how much of what is held is the next line's text, and how much goes with it
abbrev pub IsIn : Type 0 → List ℕ → ℕ → Result (Option (ℕ × ℕ)) Stop → Type 0
IsIn Ended held limit (Ok None) = (held ≡ []) × Ended
IsIn Ended held limit (Ok (Some p)) = (p.0 ≤ p.1) × (0 < p.1) × (p.1 ≤ length held) × (p.1 ≤ limit) × EndsAt Ended held p.0 p.1
IsIn Ended held limit (Err stop.Read) = (no_feed held ≡ true) × (length held ≤ 65536) × (length held ≤ limit)
IsIn Ended held limit (Err stop.Long) = BeginsTooLong held limit
IsIn Ended held limit (Err stop.Much) = BeginsTooMuch held limit

-- bytes were read behind what was held
abbrev pub Grows : Option (List ℕ) → Option (List ℕ) → List ℕ → List ℕ → Type 0
Grows left left' held held' = (more : List ℕ) × Consumes left left' more × (held' ≡ held ++ more)

abbrev pub Finds : ℕ → List ℕ → List ℕ → List ℕ → Result (Option (ℕ × ℕ)) Stop → Type 0
Finds limit whole held left (Ok None) = (pieces_of limit whole ≡ []) × (left ≡ [])
Finds limit whole held left (Ok (Some p)) = pieces_of limit whole ≡ piece.Whole (take p.0 held) ∷ pieces_of (limit - p.1) (drop p.1 held ++ left)
Finds limit whole held left (Err stop.Read) = whole ≡ held ++ left
Finds limit whole held left (Err stop.Long) = pieces_of limit whole ≡ piece.TooLong ∷ []
Finds limit whole held left (Err stop.Much) = pieces_of limit whole ≡ piece.TooMuch ∷ []

-- the count of the source's faults rises where it could not be read, and nowhere else
abbrev pub FindCount : ℕ → ℕ → Result (Option (ℕ × ℕ)) Stop → Type 0
FindCount before now (Ok o) = now ≡ before
FindCount before now (Err stop.Read) = RoseByOne before now
FindCount before now (Err stop.Long) = now ≡ before
FindCount before now (Err stop.Much) = now ≡ before
