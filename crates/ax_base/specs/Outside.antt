-- What the calls of a source and a sink do.
use Rattle.std.specs.Prelude.{◌≡◌, ◌≢◌, ℕ, ◌+◌, ◌-◌, ◌^◌, ◌<◌, List, length, take, Option, Some, None, Result, Ok, Err, ◌⊎◌}
use Rattle.std.specs.Io.KnownBytes.{Appends}
use Rattle.ax_base.specs.declared.outside.Failed.{Failed}
use Rattle.ax_base.specs.declared.outside.SinkFault.{SinkFault}
use Rattle.ax_base.specs.declared.outside.SinkFault.TheVariants as fault

-- a count is greater by one, or stands at the end of its type
abbrev pub RoseByOne : ℕ → ℕ → Type 0
RoseByOne before now = (before ≢ 2 ^ 64 - 1 → now ≡ before + 1) × (before ≡ 2 ^ 64 - 1 → now ≡ before)

-- the count of a source's faults, by an answer: a fault raises it, and nothing else does
abbrev pub ReadCount : {T : Type 0} → ℕ → ℕ → Result T Failed → Type 0
ReadCount before now (Ok x) = now ≡ before
ReadCount before now (Err f) = RoseByOne before now

-- how often a sink failed, and how often memory was short in it
pub record Counts : Type 0 where
  pub faults : ℕ
  pub short : ℕ

-- the counts of a sink, by an answer: a fault raises its own, and nothing else does
abbrev pub WriteCounts : {T : Type 0} → Counts → Counts → Result T SinkFault → Type 0
WriteCounts old new (Ok x) = new ≡ old
WriteCounts old new (Err fault.Failed) = RoseByOne old.faults new.faults × (new.short ≡ old.short)
WriteCounts old new (Err fault.NoMemory) = (new.faults ≡ old.faults) × RoseByOne old.short new.short

-- the same for a call that takes memory of its own: where that was short, the sink's counts stay
abbrev pub OwnCounts : {T : Type 0} → Counts → Counts → Result T SinkFault → Type 0
OwnCounts old new (Ok x) = new ≡ old
OwnCounts old new (Err fault.Failed) = RoseByOne old.faults new.faults × (new.short ≡ old.short)
OwnCounts old new (Err fault.NoMemory) = (new.faults ≡ old.faults) × ((new.short ≡ old.short) ⊎ RoseByOne old.short new.short)

-- known bytes grew by a prefix of these
abbrev pub AppendsSome : Option (List ℕ) → Option (List ℕ) → List ℕ → Type 0
AppendsSome old new bytes = (n : ℕ) × Appends old new (take n bytes)

-- known bytes grew by a proper prefix of these
abbrev pub AppendsPart : Option (List ℕ) → Option (List ℕ) → List ℕ → Type 0
AppendsPart old new bytes = (n : ℕ) × (n < length bytes) × Appends old new (take n bytes)

-- a fact of the bytes known before and after, where the source tells them
abbrev pub Told : Option (List ℕ) → Option (List ℕ) → (List ℕ → List ℕ → Type 0) → Type 0
Told None new P = Unit {0}
Told (Some a) None P = ⊥
Told (Some a) (Some b) P = P a b
