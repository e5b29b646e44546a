-- What the plain thread holds, when what is held of one key changes.
use Rattle.std.proofs.Common.{◌≡◌, ℕ, ℤ, Bool, true, false, cond, List, [], ◌∷◌, Option, Some, None, IsSome, Result, Ok, Err, OnOk, refl, sym, ap, ap₂, ◌∙◌, subst}
use Rattle.std.proofs.lemmas.Map.Made.{is_some-lookup}
use Rattle.std.proofs.lemmas.Map.Lookups.{exact_bytes}
use Rattle.std.specs.Cmp.Lexicographic.{nat_list_cmp_total}
use Rattle.std.specs.Io.KnownBytes.{Appends}
use Rattle.std.specs.Ordering.{match_ordering}
use Rattle.std.specs.declared.cmp.Ordering.{Ordering}
use Rattle.std.specs.declared.cmp.Ordering.TheVariants.{Less, Equal, Greater}
use Rattle.std.specs.Str.{bytes_eq}
use Rattle.std.specs.Map.{keys_of}
use Rattle.std.specs.BTreeMap.{IsOrdered, get, insert_entry, is_at, keys}
use Rattle.std.specs.BTreeSet.{insert_key}
use mathlib.Core.Path.{fun_ext}
use Rattle.ax_text.specs.declared.vocabulary.Handler.TheVariants as handler
use Rattle.ax_text.specs.declared.vocabulary.Kind.{Kind}
use Rattle.ax_text.specs.Cells.{Cell, Cells}
use Rattle.ax_text.specs.Exprs.{Facts}
use Rattle.ax_text.specs.KeyStates.{KeyState}
use Rattle.ax_text.specs.Programs.{untouched}
use Rattle.ax_text.specs.Run.{World, run, begun, state_after, times_after}
use Rattle.ax_keys.specs.Keys.{key_cmp}
use Rattle.ax_state.specs.KeyCells.{shown_cells, cell_kinds}
use Rattle.ax_time.specs.declared.timer.Timer.{Timer}
use Rattle.ax_time.specs.Timers.{times_of, PutsTimes}
use Rattle.ax_time.proofs.KeptLemmas.{same_key}
use Rattle.ax_time.proofs.SetLemmas.{inserted_again}
use Rattle.ax_machine.specs.Entries.{Key, text_of}
use Rattle.ax_machine.specs.Sync.{Map, Plain, put_at, does, knows, row_step, silent}
use Rattle.ax_machine.proofs.FiringLemmas.{key_is}
use Rattle.ax_lang.specs.declared.program.Program.{Program}
use Rattle.ax_lang.specs.Shown.{shown_program}
use Rattle.ax_plain.specs.declared.handler.RunFacts.{RunFacts}
use Rattle.ax_plain.specs.Handler.{shown_run_facts, LeavesOthers}
use Rattle.ax_base.specs.Outside.{AppendsSome}
use Rattle.ax_plain.specs.Plain.{Held, cells_or, map_of, FitsIfHeld, Fits, run_at, LeavesKeys}

abbrev pub key_state : Cells → List ℤ → KeyState
key_state cells times = record { cells = cells; times = times }

abbrev pub plain : ℤ → List Key → Map → Plain
plain wm ks map = record { wm = wm; keys = ks; map = map; entries = [] }

-- what is held of one key is now this
abbrev pub Holds : Held → Held → Key → List Cell → Type 0
Holds m n k cells = (q : Key) → get key_cmp n q ≡ cond (is_at (key_cmp k) q) (Some cells) (get key_cmp m q)

holds_by : (m n : Held) (k : Key) (cells : List Cell) → Holds m n k cells → (q : Key) (b : Bool) → bytes_eq k q ≡ b → get key_cmp n q ≡ cond b (Some cells) (get key_cmp m q)
holds_by m n k cells h q b e = h q ∙ ap (λ (c : Bool). cond c (Some cells) (get key_cmp m q)) (same_key k q ∙ e)

pub held_fits : (kinds : List Kind) (o : Option (List Cell)) (cells : List Cell) → Some cells ≡ o → FitsIfHeld kinds o → cell_kinds cells ≡ kinds
held_fits kinds o cells e h = subst (FitsIfHeld kinds) (sym e) h

-- a key of which something is held is among the keys
pub known : (m : Held) (k : Key) → IsOrdered key_cmp m → IsSome (get key_cmp m k) → insert_key key_cmp (keys m) k ≡ keys m
known m k s h = inserted_again nat_list_cmp_total exact_bytes k (keys m) s (sym (is_some-lookup (is_at (key_cmp k)) m.entries) ∙ h)

pub keys_inserted : {K X : Type 0} (cmp : K → K → Ordering) (k : K) (v : X) (es : List (K × X)) → keys_of (insert_entry cmp es k v) ≡ insert_key cmp (keys_of es) k
keys_inserted cmp k v [] = refl
keys_inserted cmp k v (e ∷ es) = by (cmp k e.0) ∙ ap (λ l. match_ordering (cmp k e.0) (k ∷ e.0 ∷ keys_of es) (e.0 ∷ keys_of es) (e.0 ∷ l)) (keys_inserted cmp k v es)
  where
    by : (o : Ordering) → keys_of (match_ordering o ((k, v) ∷ e ∷ es) ((e.0, v) ∷ es) (e ∷ insert_entry cmp es k v)) ≡ match_ordering o (k ∷ e.0 ∷ keys_of es) (e.0 ∷ keys_of es) (e.0 ∷ keys_of (insert_entry cmp es k v))
    by Less = refl
    by Equal = refl
    by Greater = refl

module _ (kinds : List Kind) (m n : Held) (t u : List Timer) (k : Key) (cells : List Cell) (h : Holds m n k cells) where
  -- behind a run on what is held of the key
  ran_map : (w : World) → shown_cells cells ≡ w.cells → PutsTimes t u k (times_after w.talk.ops (times_of t k))
      → map_of kinds n u ≡ put_at (map_of kinds m t) k (state_after (map_of kinds m t k) w)
  ran_map w e p = fun_ext (λ q. ap₂ key_state (ap (cells_or kinds) (holds_by m n k cells h q (bytes_eq k q) refl)) (p q) ∙ by_key q (bytes_eq k q)) where
    by_key : (q : Key) (b : Bool) → key_state (cells_or kinds (cond b (Some cells) (get key_cmp m q))) (cond b (times_after w.talk.ops (times_of t k)) (times_of t q))
        ≡ cond b (key_state w.cells (times_after w.talk.ops (times_of t k))) (key_state (cells_or kinds (get key_cmp m q)) (times_of t q))
    by_key q true = ap (λ c. key_state c (times_after w.talk.ops (times_of t k))) e
    by_key q false = refl

  pub ran_plain : (wm : ℤ) (w : World) → keys n ≡ keys m → shown_cells cells ≡ w.cells → PutsTimes t u k (times_after w.talk.ops (times_of t k))
      → plain wm (keys n) (map_of kinds n u) ≡ silent (does k (map_of kinds m t k) w (plain wm (keys m) (map_of kinds m t)))
  ran_plain wm w ks e p = ap₂ (plain wm) ks (ran_map w e p)

  put_fits : (FitsIfHeld kinds (Some cells)) → Fits kinds m t → (q : Key) (b : Bool) → bytes_eq k q ≡ b → FitsIfHeld kinds (get key_cmp n q)
  put_fits f a q true e = subst (FitsIfHeld kinds) (sym (holds_by m n k cells h q true e)) f
  put_fits f a q false e = subst (FitsIfHeld kinds) (sym (holds_by m n k cells h q false e)) (a.cells q)

  no_times : Fits kinds m t → LeavesOthers k t u → (q : Key) → get key_cmp n q ≡ None → (b : Bool) → bytes_eq k q ≡ b → times_of u q ≡ []
  no_times a p q none true e = let held : Some cells ≡ None = sym (holds_by m n k cells h q true e) ∙ none in absurd (cc)
  no_times a p q none false e = p q e ∙ a.times q (sym (holds_by m n k cells h q false e) ∙ none)

  pub ran_fits : cell_kinds cells ≡ kinds → Fits kinds m t → LeavesOthers k t u → Fits kinds n u
  ran_fits f a p = record {
    cells = λ q. put_fits f a q (bytes_eq k q) refl;
    times = λ q none. no_times a p q none (bytes_eq k q) refl;
  }

  -- what other keys have stays
  pub ran_others : LeavesOthers k t u → LeavesKeys k (map_of kinds m t) (map_of kinds n u)
  ran_others p q e = ap₂ key_state (ap (cells_or kinds) (holds_by m n k cells h q false e)) (p q e)

-- nothing was held of a key, and now its untouched states are
module _ (kinds : List Kind) (m n : Held) (t : List Timer) (k : Key) (cells : List Cell) (none : get key_cmp m k ≡ None) (h : Holds m n k cells) where
  held_map : shown_cells cells ≡ untouched kinds → map_of kinds n t ≡ map_of kinds m t
  held_map e = fun_ext (λ q. ap (λ c. key_state c (times_of t q)) (by_key q (bytes_eq k q) refl)) where
    by_key : (q : Key) (b : Bool) → bytes_eq k q ≡ b → cells_or kinds (get key_cmp n q) ≡ cells_or kinds (get key_cmp m q)
    by_key q true f = ap (cells_or kinds) (holds_by m n k cells h q true f) ∙ e ∙ sym (ap (cells_or kinds) none) ∙ ap (λ x. cells_or kinds (get key_cmp m x)) (key_is k q f)
    by_key q false f = ap (cells_or kinds) (holds_by m n k cells h q false f)

  pub held_others : shown_cells cells ≡ untouched kinds → LeavesKeys k (map_of kinds m t) (map_of kinds n t)
  held_others e q f = ap (λ (x : Map). x q) (held_map e)

  pub held_plain : (wm : ℤ) → n.entries ≡ insert_entry key_cmp m.entries k cells → shown_cells cells ≡ untouched kinds
      → plain wm (keys n) (map_of kinds n t) ≡ knows k (plain wm (keys m) (map_of kinds m t))
  held_plain wm es e = ap₂ (plain wm) (ap keys_of es ∙ keys_inserted key_cmp k cells m.entries) (held_map e)

knows_again : (k : Key) (s : Plain) → insert_key key_cmp s.keys k ≡ s.keys → s ≡ knows k s
knows_again k s e = ap (λ (ks : List Key). record { wm = s.wm; keys = ks; map = s.map; entries = s.entries }) (sym e)

-- a row's run is the step of the row
pub row_is : (p : Program) (facts : RunFacts) (k : Key) (time : ℤ) (values : List ℤ) (s s' : Plain)
    → shown_run_facts facts ≡ record { time = time; wm = s.wm; values = values } → s' ≡ knows k s
    → run_at p handler.Row facts k s' ≡ row_step (shown_program p) k time values s
row_is p facts k time values s s' ef es =
    ap (run_at p handler.Row facts k) es
    ∙ ap (λ (f : Facts). does k (s.map k) (run f (shown_program p).row (begun (s.map k).cells)) (knows k s)) ef

-- of a key that is known
pub row_known : (p : Program) (facts : RunFacts) (k : Key) (time : ℤ) (values : List ℤ) (s : Plain)
    → shown_run_facts facts ≡ record { time = time; wm = s.wm; values = values } → insert_key key_cmp s.keys k ≡ s.keys
    → run_at p handler.Row facts k s ≡ row_step (shown_program p) k time values s
row_known p facts k time values s ef known = row_is p facts k time values s s ef (knows_again k s known)

-- what was written, where nothing was written before it
pub wrote_all : (h h' h'' : Option (List ℕ)) (s s' : Plain) → h' ≡ h → s ≡ s' → Appends h' h'' (text_of s.entries) → Appends h h'' (text_of s'.entries)
wrote_all h h' h'' s s' e f a =
    let P : Option (List ℕ) → Type 0 = λ x. Appends x h'' (text_of s'.entries) in
    let Q : Plain → Type 0 = λ x. Appends h' h'' (text_of x.entries) in
    subst P e (subst Q f a)

pub wrote_some : (h h' h'' : Option (List ℕ)) (s s' : Plain) → h' ≡ h → s ≡ s' → AppendsSome h' h'' (text_of s.entries) → AppendsSome h h'' (text_of s'.entries)
wrote_some h h' h'' s s' e f a =
    let P : Option (List ℕ) → Type 0 = λ x. AppendsSome x h'' (text_of s'.entries) in
    let Q : Plain → Type 0 = λ x. AppendsSome h' h'' (text_of x.entries) in
    subst P e (subst Q f a)

pub on_ok : {T E P Q : Type 0} (r : Result T E) → OnOk r P → (P → Q) → OnOk r Q
on_ok (Ok x) p f = f p
on_ok (Err e) p f = tt
