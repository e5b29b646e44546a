-- Wherever it begins, the plain thread of all keys has of a key what that key's own thread has.
use Rattle.std.proofs.Common.{ℕ, List, refl, ap}
use Rattle.std.specs.List.Sorted.{IsStrictlySortedBy}
use Rattle.ax_text.specs.KeyStates.{KeyState}
use Rattle.ax_text.specs.Programs.{Program}
use Rattle.ax_machine.specs.Entries.{Key}
use Rattle.ax_machine.specs.Events.{Event}
use Rattle.ax_machine.proofs.KeyLemmas.{Flat, AreCovered, IsSeen, steps_of}
use Rattle.ax_machine.proofs.RisingLemmas.{AreRising, steps_rise}
use Rattle.ax_execution.specs.Origins.{Origin, IsOrigin, first, plain_from, sync_from, said_from, key_sync_from, IsProjectedFrom}

covered : (p : Program) (from : Origin) → IsOrigin p from → AreCovered from.keys from.map
covered p from fits = record { none = λ k h. ap (λ (s : KeyState). s.times) (fits.others k h) }

pub projected_from : (m : ℕ) (p : Program) (from : Origin) → IsOrigin p from → (k : Key) (es : List Event) → IsProjectedFrom m p from k es
projected_from m p from fits k es =
    let same : IsSeen k (sync_from m p from es) (key_sync_from p from k es) =
    steps_of m p k es (plain_from from) (record { wm = from.wm; said = said_from from k }) (covered p from fits) (record { wm = refl; said = refl }) in
    record {
      wm = same.wm;
      state = ap (λ (f : Flat). f.state) same.said;
      lines = ap (λ (f : Flat). f.lines) same.said;
    }

pub rises_from : (m : ℕ) (p : Program) (from : Origin) → IsOrigin p from → (es : List Event) → AreRising (sync_from m p from es)
rises_from m p from fits es = steps_rise m p es (plain_from from) (record { keys = fits.keys; times = fits.times })

pub first_fits : (p : Program) → IsOrigin p (first p)
unfolding IsStrictlySortedBy
first_fits p = record { keys = tt; times = λ k. tt; others = λ k h. refl }
