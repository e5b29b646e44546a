-- Sources and sinks as their callers see them.
use Rattle.std.specs.Prelude.{◌≡◌, ℕ, ◌+◌, ◌-◌, ◌^◌, ℤ, pos, negsuc, List, ◌++◌, length, take, drop, Option, Result, Ok, Err, Bool, true, false, nat_eq, min}
use Rattle.std.specs.List.{list_any}
use Rattle.ax_base.specs.Outside.{Counts}
use Rattle.ax_base.specs.declared.outside.Failed.{Failed}
use Rattle.ax_base.specs.declared.outside.SinkFault.{SinkFault}
use Rattle.ax_base.specs.declared.outside.SinkFault.TheVariants as fault

-- a sink in memory
pub record Written : Type 0 where
  pub bytes : List ℕ
  -- how often memory was short
  pub short : ℕ

-- a reader or a writer, with a count of its faults
pub record Counted : Type 0 where
  -- the bytes still to come, or taken so far, where they are told
  pub bytes : Option (List ℕ)
  pub faults : ℕ

-- which calls fail, and what was counted so far
pub record Script : Type 0 where
  -- at most so many bytes a call
  pub most : ℕ
  -- the numbers, from 1, of the calls that fail
  pub failing : List ℤ
  pub calls : ℕ
  pub faults : ℕ
  -- how often memory was short
  pub short : ℕ

-- the counts of a sink that goes by a script
abbrev pub counts_of : Script → Counts
counts_of s = record { faults = s.faults; short = s.short }

-- bytes in memory that come or go by a script
pub record Scripted : Type 0 where
  -- the bytes still to come, or taken so far
  pub bytes : List ℕ
  pub script : Script

-- one more, in a count that stands still at the end of its type
abbrev pub one_more : ℕ → ℕ
one_more n = min (n + 1) (2 ^ 64 - 1)

-- whether this number names that call
abbrev pub names_call : ℕ → ℤ → Bool
names_call call (pos n) = nat_eq n call
names_call call (negsuc n) = false

-- whether the next call is one that fails
abbrev pub fails_next : Script → Bool
fails_next s = list_any (names_call (one_more s.calls)) s.failing

-- the script after one more call
abbrev pub called : Script → Script
called s = record { most = s.most; failing = s.failing; calls = one_more s.calls; faults = s.faults; short = s.short }

-- after one more call, which failed
abbrev pub failed : Script → Script
failed s = record { most = s.most; failing = s.failing; calls = one_more s.calls; faults = one_more s.faults; short = s.short }

-- after one more call, for which memory was short
abbrev pub lacking : Script → Script
lacking s = record { most = s.most; failing = s.failing; calls = one_more s.calls; faults = s.faults; short = one_more s.short }

-- a read gives as many bytes as it may, the room takes and there are, and fails where the script says
abbrev pub ReadsBy : Scripted → Scripted → ℕ → Result ℕ Failed → Type 0
ReadsBy old new room (Ok n) = (fails_next old.script ≡ false)
    × (n ≡ min (min room old.script.most) (length old.bytes))
    × (new ≡ record { bytes = drop n old.bytes; script = called old.script })
ReadsBy old new room (Err e) = (fails_next old.script ≡ true) × (new ≡ record { bytes = old.bytes; script = failed old.script })

-- a write takes as many bytes as it may, and fails where the script says
abbrev pub WritesBy : Scripted → Scripted → List ℕ → Result ℕ SinkFault → Type 0
WritesBy old new piece (Ok n) = (fails_next old.script ≡ false)
    × (n ≡ min (length piece) old.script.most)
    × (new ≡ record { bytes = old.bytes ++ take n piece; script = called old.script })
WritesBy old new piece (Err fault.Failed) = (fails_next old.script ≡ true) × (new ≡ record { bytes = old.bytes; script = failed old.script })
WritesBy old new piece (Err fault.NoMemory) = (fails_next old.script ≡ false) × (new ≡ record { bytes = old.bytes; script = lacking old.script })
