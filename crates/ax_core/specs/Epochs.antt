-- The book of epochs, and what it stands for.
use Rattle.std.specs.Prelude.{◌≡◌, ◌≤◌, ℕ, ◌+◌, Bool, not, List, [], ◌∷◌, length}
use Rattle.ax_time.specs.declared.epoch.Marker.{Marker}
use Rattle.ax_time.specs.declared.epoch.Marker.TheVariants as marker
use Rattle.ax_time.specs.Epochs.{Book, current_of, count_of, markers_of}
use Rattle.ax_execution.specs.Machine.{Closing, ByWatermark, ByBarrier, Closed}
use Rattle.ax_execution.specs.Tests.{no_barrier}
use Rattle.ax_execution.specs.MachineControls.{MachineControl, epoch_count_on}
use Rattle.ax_core.specs.Contexts.{wrapped}

abbrev pub marker_of : Closing → Marker
marker_of (ByWatermark time) = marker.Mark time
marker_of (ByBarrier id) = marker.Barrier id

abbrev pub closing_of : Marker → Closing
closing_of (marker.Mark time) = ByWatermark time
closing_of (marker.Barrier id) = ByBarrier id

-- the markers of closed epochs, the oldest first
abbrev pub MarkersStand : List Marker → List Closed → Type 0
MarkersStand [] [] = Unit {0}
MarkersStand [] (c ∷ cs) = ⊥
MarkersStand (m ∷ ms) [] = ⊥
MarkersStand (m ∷ ms) (c ∷ cs) = (m ≡ marker_of c.closing) × MarkersStand ms cs

-- the current epoch, the closed ones whose markers aren't sent, and how much of each is left
pub record EpochsStand (book : Book) (closing : Bool) (m : MachineControl) : Type 0 where
  pub current : current_of book ≡ wrapped m.epoch
  pub markers : MarkersStand (markers_of book.closed) m.unsent
  pub counts : (e : ℕ) → e ≤ m.epoch → m.epoch ≤ e + length m.unsent → count_of book (wrapped e) ≡ epoch_count_on e m
  pub barrier : closing ≡ not (no_barrier m.unsent)
