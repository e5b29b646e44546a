-- What a snapshot holds, as the plain thread has it.
use Rattle.std.proofs.Common.{◌≡◌, List, [], ◌∷◌, map, Option, Some, refl, sym, ap₂}
use Rattle.std.proofs.lemmas.List.Elements.{All-from_recursion, recursion_from_All}
use Rattle.std.specs.List.{All, AllByRecursion}
use Rattle.std.specs.Map.{keys_of}
use Rattle.std.specs.BTreeMap.{get}
use Rattle.ax_text.specs.declared.vocabulary.Kind.{Kind}
use Rattle.ax_text.specs.Cells.{Cell}
use Rattle.ax_keys.specs.Keys.{key_cmp}
use Rattle.ax_state.specs.KeyCells.{cell_kinds}
use Rattle.ax_time.specs.declared.timer.Timer.{Timer}
use Rattle.ax_time.specs.Timers.{times_of}
use Rattle.ax_machine.specs.Entries.{Key}
use Rattle.ax_machine.specs.Blocks.{Part}
use Rattle.ax_machine.specs.Sync.{parts_of}
use Rattle.ax_snapshot.specs.declared.snapshot.KeySnap.{KeySnap}
use Rattle.ax_snapshot.specs.Snaps.{shown_part}
use Rattle.ax_plain.specs.Plain.{Held, cells_or, map_of, Fits}
use Rattle.ax_plain.specs.Snaps.{shown_snap}
use Rattle.ax_plain.proofs.ThreadLemmas.{key_state, held_fits}

module _ (kinds : List Kind) (m : Held) (t : List Timer) where
  parts_from : (es : List (Key × List Cell)) → AllByRecursion (λ e. get key_cmp m e.0 ≡ Some e.1) es → map shown_part (map (shown_snap t) es) ≡ parts_of (keys_of es) (map_of kinds m t)
  parts_from [] a = refl
  parts_from (e ∷ es) a = ap₂ (λ (o : Option (List Cell)) (ps : List Part). record { key = e.0; state = key_state (cells_or kinds o) (times_of t e.0) } ∷ ps) (sym a.0) (parts_from es a.1)

  fits_from : Fits kinds m t → (es : List (Key × List Cell)) → AllByRecursion (λ e. get key_cmp m e.0 ≡ Some e.1) es → AllByRecursion (λ (k : KeySnap). cell_kinds k.cells ≡ kinds) (map (shown_snap t) es)
  fits_from f [] a = tt
  fits_from f (e ∷ es) a = (held_fits kinds (get key_cmp m e.0) e.1 (sym a.0) (f.cells e.0), fits_from f es a.1)

  -- the parts of the block
  pub parts_snapped : (es : List (Key × List Cell)) → All (λ e. get key_cmp m e.0 ≡ Some e.1) es → map shown_part (map (shown_snap t) es) ≡ parts_of (keys_of es) (map_of kinds m t)
  parts_snapped es a = parts_from es (recursion_from_All (λ e. get key_cmp m e.0 ≡ Some e.1) es a)

  -- the states in it are of the declared kinds
  pub fits_snapped : Fits kinds m t → (es : List (Key × List Cell)) → All (λ e. get key_cmp m e.0 ≡ Some e.1) es → All (λ (k : KeySnap). cell_kinds k.cells ≡ kinds) (map (shown_snap t) es)
  fits_snapped f es a = All-from_recursion (λ (k : KeySnap). cell_kinds k.cells ≡ kinds) (map (shown_snap t) es) (fits_from f es (recursion_from_All (λ e. get key_cmp m e.0 ≡ Some e.1) es a))
