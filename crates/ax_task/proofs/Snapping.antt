-- What a block has of each key: what its shard holds, and its timers.
use Rattle.std.proofs.Common.{◌≡◌, ℕ, zero, suc, ℤ, List, [], ◌∷◌, ◌++◌, ◌≤◌, length, drop, get_or, Bool, true, false, ◌||◌, Some, None, map, refl, sym, ap, ap₂, ◌∙◌, subst, arith}
use Rattle.std.proofs.lemmas.Bool.{cond-false, both_ways}
use Rattle.std.proofs.lemmas.List.{map-append, append_assoc, append-nil}
use Rattle.std.proofs.lemmas.List.Elements.{All-append, All-from_recursion}
use Rattle.std.proofs.lemmas.List.Folds.{list_any-append}
use Rattle.std.specs.Str.{bytes_eq}
use Rattle.std.specs.List.{All, list_any}
use Rattle.std.specs.Map.{lookup, keys_of}
use Rattle.std.specs.BTreeMap.{is_at}
use Rattle.ax_keys.specs.Keys.{key_cmp}
use Rattle.ax_text.specs.declared.vocabulary.Kind.{Kind}
use Rattle.ax_text.specs.Cells.{Cell, Cells}
use Rattle.ax_text.specs.KeyStates.{KeyState, fresh}
use Rattle.ax_text.specs.Programs.{kinds_of, untouched}
use Rattle.ax_state.specs.KeyCells.{shown_cells, cell_kinds}
use Rattle.ax_machine.specs.Entries.{Key}
use Rattle.ax_machine.specs.Blocks.{Part, part_lines, lines_among}
use Rattle.ax_machine.specs.Sync.{parts_of}
use Rattle.ax_machine.proofs.BlockLemmas.{fresh_lines}
use Rattle.ax_machine.proofs.FiringLemmas.{key_is, same_key as itself}
use Rattle.ax_lang.specs.Shown.{shown_program}
use Rattle.ax_time.specs.declared.timer.Timer.{Timer}
use Rattle.ax_time.specs.Timers.{times_of}
use Rattle.ax_time.proofs.KeptLemmas.{same_key}
use Rattle.ax_snapshot.specs.declared.snapshot.KeySnap.{KeySnap}
use Rattle.ax_snapshot.specs.Snaps.{shown_part}
use Rattle.ax_execution.proofs.Upto.{by_cases}
use Rattle.ax_execution.specs.MachineControls.{MachineControl, control_of_machine}
use Rattle.ax_core.specs.Flow.{shard_of}
use Rattle.ax_core.specs.Sound.{StandsFor}
use Rattle.ax_task.specs.Serving.{Holding, cells_or}
use Rattle.ax_task.specs.Shards.{Serving, AreSound, nothing_held, holding_of, held}
use Rattle.ax_task.specs.Refined.{content_over}
use Rattle.ax_task.specs.HeldKeys.{held_keys}
use Rattle.ax_task.specs.Engines.{IsReady}
use Rattle.ax_task.specs.Snapped.{state_at, part_at}
use Rattle.ax_task.specs.declared.engine.Engine.{Engine}
use Rattle.ax_task.proofs.Blocks.{among, not_among}

pub neither : (a b : Bool) → (a || b) ≡ false → (a ≡ false) × (b ≡ false)
neither true b h = absurd (both_ways true h refl)
neither false b h = (refl, h)

-- keys that aren't listed

module _ (q : Key) where
  none_found : (es : List (Key × List Cell)) → list_any (is_at (key_cmp q)) (keys_of es) ≡ false → lookup (is_at (key_cmp q)) es ≡ None
  none_found [] h = refl
  none_found (e ∷ es) h =
      let both : (is_at (key_cmp q) e.0 ≡ false) × (list_any (is_at (key_cmp q)) (keys_of es) ≡ false) = neither (is_at (key_cmp q) e.0) (list_any (is_at (key_cmp q)) (keys_of es)) h in
      cond-false (is_at (key_cmp q) e.0) (Some e.1) (lookup (is_at (key_cmp q)) es) both.0 ∙ none_found es both.1

  none_held : (kinds : List Kind) (hs : List Holding) (s : ℕ) → list_any (is_at (key_cmp q)) (held_keys hs) ≡ false → lookup (is_at (key_cmp q)) (get_or hs s (nothing_held kinds)).entries ≡ None
  none_held kinds [] s h = refl
  none_held kinds (x ∷ xs) s h =
      let both : (list_any (is_at (key_cmp q)) (keys_of x.entries) ≡ false) × (list_any (is_at (key_cmp q)) (held_keys xs) ≡ false) =
      neither (list_any (is_at (key_cmp q)) (keys_of x.entries)) (list_any (is_at (key_cmp q)) (held_keys xs)) (sym (list_any-append (is_at (key_cmp q)) (keys_of x.entries) (held_keys xs)) ∙ h) in
      of s (none_found x.entries both.0) (λ t. none_held kinds xs t both.1)
    where
      of : (s : ℕ) → lookup (is_at (key_cmp q)) x.entries ≡ None → ((t : ℕ) → lookup (is_at (key_cmp q)) (get_or xs t (nothing_held kinds)).entries ≡ None)
          → lookup (is_at (key_cmp q)) (get_or (x ∷ xs) s (nothing_held kinds)).entries ≡ None
      of zero here rest = here
      of (suc t) here rest = rest t

  -- were never touched
  pub never_touched : (v : Serving) → AreSound v → (s : ℕ) → list_any (is_at (key_cmp q)) (held_keys v.shards) ≡ false → held v s q ≡ untouched v.kinds
  never_touched v sound s h = ap (cells_or (holding_of v s).kinds) (none_held v.kinds v.shards s h) ∙ ap untouched (sound.kinds s)

  -- and have no timer
  pub never_timed : (ts : List Timer) → list_any (λ (t : Timer). is_at (key_cmp q) t.key) ts ≡ false → times_of ts q ≡ []
  never_timed [] h = refl
  never_timed (t ∷ ts) h =
      let both : (is_at (key_cmp q) t.key ≡ false) × (list_any (λ (t : Timer). is_at (key_cmp q) t.key) ts ≡ false) = neither (is_at (key_cmp q) t.key) (list_any (λ (t : Timer). is_at (key_cmp q) t.key) ts) h in
      let other : bytes_eq t.key q ≡ false = by_cases (bytes_eq t.key q)
      (λ x. absurd (both_ways (is_at (key_cmp q) t.key) both.0 (same_key q t.key ∙ (ap (λ (k : Key). bytes_eq q k) (key_is t.key q x) ∙ itself q))))
      (λ x. x) in
      cond-false (bytes_eq t.key q) (t.time ∷ times_of ts q) (times_of ts q) other ∙ never_timed ts both.1

-- what a key has

abbrev with_times : Cells → List ℤ → KeyState
with_times cells times = record { cells = cells; times = times }

module _ (e : Engine) (x : IsReady e) (now : List Timer) (shows : (m : MachineControl) (k : Key) → StandsFor e.core m → times_of now k ≡ (m.controls k).times) where
  same_times : (k : Key) → times_of now k ≡ times_of e.core.timers k
  same_times k = shows (control_of_machine x.stands.refines.machine) k x.stands.refines.stands ∙ sym (x.stands.refines.stands.stands.keys k).times

  pub snapped : (k key : Key) (cells : List Cell) (timers : List ℤ) (shard : ℕ) → key ≡ k → shard ≡ shard_of e.settings k → ((s : ℕ) → shown_cells cells s ≡ held e.shards shard k s) → timers ≡ times_of now k
      → shown_part (record { key = key; cells = cells; timers = timers }) ≡ part_at e k
  snapped k key cells timers shard same placed shown timed =
      let it : shown_cells cells ≡ held e.shards shard k = λ i s. shown s i in
      ap₂ (λ (j : Key) (state : KeyState). record { key = j; state = state }) same
      (ap₂ with_times (it ∙ ap (λ (t : ℕ). held e.shards t k) placed) (timed ∙ same_times k))

  -- the lines of a key are those of what it has, listed or not
  module _ (keys : List Key) (states : (s : ℕ) (q : Key) → list_any (is_at (key_cmp q)) keys ≡ false → held e.shards s q ≡ untouched e.shards.kinds)
      (timers : (q : Key) → list_any (is_at (key_cmp q)) keys ≡ false → times_of now q ≡ []) where
    listed : (k : Key) (ks : List Key) → list_any (bytes_eq k) ks ≡ list_any (is_at (key_cmp k)) ks
    listed k [] = refl
    listed k (j ∷ js) = ap₂ (λ (a b : Bool). a || b) (sym (same_key k j)) (listed k js)

    blank : (k : Key) → list_any (bytes_eq k) keys ≡ false → part_lines (shown_program e.core.program).states (part_at e k) ≡ []
    blank k h =
        let none : list_any (is_at (key_cmp k)) keys ≡ false = sym (listed k keys) ∙ h in
        let cells : content_over e.settings (held e.shards) k ≡ untouched (kinds_of (shown_program e.core.program).states) =
        states (shard_of e.settings k) k none ∙ (ap untouched x.stands.kinds ∙ ap (λ (p : _). untouched (kinds_of (shown_program p).states)) (sym x.stands.refines.program)) in
        let is_fresh : state_at e k ≡ fresh (kinds_of (shown_program e.core.program).states) = ap₂ with_times cells (sym (same_times k) ∙ timers k none) in
        ap (λ (t : KeyState). part_lines (shown_program e.core.program).states (record { key = k; state = t })) is_fresh ∙ fresh_lines (shown_program e.core.program).states k

    pub lines_of : (k : Key) → lines_among (shown_program e.core.program).states k (parts_of keys (state_at e)) ≡ part_lines (shown_program e.core.program).states (part_at e k)
    lines_of k = by_cases (list_any (bytes_eq k) keys)
        (λ y. among (shown_program e.core.program).states (state_at e) k [] keys y)
        (λ y. not_among (shown_program e.core.program).states (state_at e) k keys y ∙ sym (blank k y))

-- one more key

pub snaps_more : (snaps new : List KeySnap) (snap : KeySnap) (k : Key) (its rest all : List Key) (m : Key → KeyState) → its ≡ k ∷ rest → map shown_part snaps ++ parts_of its m ≡ parts_of all m
    → new ≡ snaps ++ snap ∷ [] → shown_part snap ≡ record { key = k; state = m k } → map shown_part new ++ parts_of rest m ≡ parts_of all m
snaps_more snaps new snap k its rest all m front before pushed is =
    ap (λ (ss : List KeySnap). map shown_part ss ++ parts_of rest m) pushed
    ∙ (ap (λ (ps : List Part). ps ++ parts_of rest m) (map-append shown_part snaps (snap ∷ []))
    ∙ (append_assoc (map shown_part snaps) (shown_part snap ∷ []) (parts_of rest m)
    ∙ (ap (λ (p : Part). map shown_part snaps ++ (p ∷ parts_of rest m)) is
    ∙ (ap (λ (ks : List Key). map shown_part snaps ++ parts_of ks m) (sym front) ∙ before))))

pub kinds_more : (kinds : List Kind) (snaps new : List KeySnap) (snap : KeySnap) → All (λ (k : KeySnap). cell_kinds k.cells ≡ kinds) snaps → new ≡ snaps ++ snap ∷ [] → cell_kinds snap.cells ≡ kinds
    → All (λ (k : KeySnap). cell_kinds k.cells ≡ kinds) new
kinds_more kinds snaps new snap before pushed is =
    subst (All (λ (k : KeySnap). cell_kinds k.cells ≡ kinds)) (sym pushed)
    (All-append (λ (k : KeySnap). cell_kinds k.cells ≡ kinds) snaps (snap ∷ []) before (All-from_recursion (λ (k : KeySnap). cell_kinds k.cells ≡ kinds) (snap ∷ []) (is, tt)))

-- the greatest watermark
pub wm_is : (e : Engine) (x : IsReady e) (wm : ℤ) → ((m : MachineControl) → StandsFor e.core m → wm ≡ m.wm) → wm ≡ e.core.wm
wm_is e x wm h = h (control_of_machine x.stands.refines.machine) x.stands.refines.stands ∙ sym x.stands.refines.stands.stands.wm

-- the same of the shards as they are seen
pub untouched_as : (q : Key) (v w : Serving) → v ≡ w → AreSound v → (s : ℕ) → list_any (is_at (key_cmp q)) (held_keys w.shards) ≡ false → held w s q ≡ untouched w.kinds
untouched_as q v w e sound s h = never_touched q w (subst AreSound e sound) s h

-- all shards were listed
pub all_listed : (keys : List Key) (items all : List Holding) (n : ℕ) → length items ≤ n → keys ++ held_keys (drop n items) ≡ held_keys all → keys ≡ held_keys all
all_listed keys items all n past h = sym (append-nil keys) ∙ (ap (λ (hs : List Holding). keys ++ held_keys hs) (sym (drop_all items n past)) ∙ h)
  where
    drop_all : (hs : List Holding) (k : ℕ) → length hs ≤ k → drop k hs ≡ []
    drop_all [] zero l = refl
    drop_all [] (suc k) l = refl
    drop_all (x ∷ xs) zero l = absurd (omega (arith, l))
    drop_all (x ∷ xs) (suc k) l = drop_all xs k (omega (arith, l))
