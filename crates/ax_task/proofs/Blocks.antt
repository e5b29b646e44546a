-- The block of a barrier: the lines of each key are those of what the shards hold and of its timers.
use Rattle.std.proofs.Common.{◌≡◌, ℕ, ℤ, List, [], ◌∷◌, ◌++◌, Bool, true, false, cond, ◌||◌, Option, Some, None, refl, sym, ap, ap₂, ◌∙◌, subst, inr}
use Rattle.std.proofs.lemmas.Bool.{cond-true, cond-false, both_ways}
use Rattle.std.specs.Str.{bytes_eq}
use Rattle.std.specs.List.{list_any}
use Rattle.ax_keys.specs.Keys.{key_cmp}
use Rattle.std.specs.BTreeSet.{insert_key}
use Rattle.ax_text.specs.Cells.{Cells}
use Rattle.ax_text.specs.KeyStates.{KeyState, fresh}
use Rattle.ax_text.specs.Programs.{Program as AnyProgram, State, kinds_of, untouched}
use Rattle.ax_machine.specs.Entries.{Key, Block, Entry}
use Rattle.ax_machine.specs.Events.{Event}
use Rattle.ax_machine.specs.OutLines.{OutLine}
use Rattle.ax_machine.specs.Blocks.{Part, part_lines, lines_from, lines_among, block_text}
use Rattle.ax_machine.specs.Sync.{Map, parts_of}
use Rattle.ax_machine.proofs.BlockLemmas.{same_block, fresh_lines}
use Rattle.ax_machine.proofs.FiringLemmas.{key_is, same_key, has_inserted}
use Rattle.ax_lang.specs.declared.program.Program.{Program}
use Rattle.ax_lang.specs.Shown.{shown_program}
use Rattle.ax_buffer.specs.declared.items.Item.{Item}
use Rattle.ax_time.specs.Timers.{times_of}
use Rattle.ax_execution.specs.Accepted.{AreAccepted}
use Rattle.ax_execution.specs.Contexts.{Context}
use Rattle.ax_execution.specs.Origins.{first}
use Rattle.ax_execution.specs.Rest.{silent}
use Rattle.ax_execution.specs.Machine.{ByWatermark, ByBarrier, Closed, Machine, Happening, Admit, Close, Fire, Start, Serve, Deliver, Send, Rules, send_first, happens, after_all, machine_from, marker_of}
use Rattle.ax_execution.specs.Allowed.{StageAsks, OfOwner, Allowed, IsRun}
use Rattle.ax_execution.specs.MachineControls.{control_of_machine}
use Rattle.ax_execution.specs.Reached.{IsUntouched}
use Rattle.ax_execution.proofs.CellsKept.{only_serve}
use Rattle.ax_execution.proofs.ReachedLemmas.{machine_reached}
use Rattle.ax_execution.proofs.ReachedOrderly.{reached_orderly}
use Rattle.ax_execution.proofs.Upto.{by_cases}
use Rattle.ax_execution.proofs.Projected.{first_fits}
use Rattle.ax_core.specs.declared.settings.Settings.{Settings}
use Rattle.ax_core.specs.declared.controller.Controller.{Controller}
use Rattle.ax_core.specs.Sound.{rules_of}
use Rattle.ax_core.proofs.Sends.{accepted}
use Rattle.ax_task.specs.Serving.{Content}
use Rattle.ax_task.specs.Refined.{Refines}
use Rattle.ax_task.proofs.Refining.{run_append, after_append, reached_by}

-- a key that no row was of has never been touched

silent_none : (o : Option Context) → silent o ≡ None → o ≡ None
silent_none None h = refl
silent_none (Some c) h = absurd (cc h)

keys_before : (g : ℕ) (p : AnyProgram) (e : Happening) (m : Machine) (k : Key) → list_any (bytes_eq k) (happens g p e m).keys ≡ false → list_any (bytes_eq k) m.keys ≡ false
keys_before g p (Admit n j time values) m k h = by_cases (list_any (bytes_eq k) m.keys)
    (λ x. absurd (both_ways (list_any (bytes_eq k) (insert_key key_cmp m.keys j)) h (has_inserted k j m.keys (inr x))))
    (λ x. x)
keys_before g p (Close (ByWatermark w)) m k h = h
keys_before g p (Close (ByBarrier id)) m k h = h
keys_before g p (Fire n j) m k h = h
keys_before g p (Start j) m k h = h
keys_before g p (Serve j slot) m k h = h
keys_before g p (Deliver j slot) m k h = h
keys_before g p Send m k h = of m.unsent h
  where
    of : (cs : List Closed) → list_any (bytes_eq k) (send_first g p cs m).keys ≡ false → list_any (bytes_eq k) m.keys ≡ false
    of [] h = h
    of (c ∷ cs) h = h

abbrev IsBlank : AnyProgram → Machine → Type 0
IsBlank p m = (k : Key) → list_any (bytes_eq k) m.keys ≡ false → (m.parts k).said.state.cells ≡ untouched (kinds_of p.states)

module _ (r : Rules) (g : ℕ) (p : AnyProgram) (accepted : AreAccepted p) where
  abbrev from : Machine
  from = machine_from (first p)

  absent : (done : List Happening) → IsRun r g p done from → (k : Key) → list_any (bytes_eq k) (after_all g p done from).keys ≡ false → IsUntouched ((control_of_machine (after_all g p done from)).controls k)
  absent done run = (reached_orderly r p (control_of_machine (after_all g p done from)) accepted (machine_reached r g p (first p) done (first_fits p) run)).absent

  stays_blank : (done : List Happening) (e : Happening) → IsRun r g p done from → Allowed r e (after_all g p done from) → IsBlank p (after_all g p done from) → IsBlank p (happens g p e (after_all g p done from))
  stays_blank done e run allowed blank k h =
      let m : Machine = after_all g p done from in
      let before : list_any (bytes_eq k) m.keys ≡ false = keys_before g p e m k h in
      let none : (m.parts k).owner ≡ None = silent_none (m.parts k).owner (absent done run k before).owner in
      only_serve g p e m k (λ slot x.
      let serves : Allowed r (Serve k slot) m = subst (λ (d : Happening). Allowed r d m) x allowed in
      subst (OfOwner (StageAsks slot)) none serves.1) ∙ blank k before

  all_blank : (es done : List Happening) → IsRun r g p done from → IsBlank p (after_all g p done from) → IsRun r g p es (after_all g p done from) → IsBlank p (after_all g p es (after_all g p done from))
  all_blank [] done run blank h = blank
  all_blank (e ∷ es) done run blank h =
      let next : after_all g p (done ++ e ∷ []) from ≡ happens g p e (after_all g p done from) = after_append g p done (e ∷ []) from in
      subst (λ (m : Machine). IsBlank p (after_all g p es m)) next
      (all_blank es (done ++ e ∷ []) (run_append r g p done (e ∷ []) from run (h.0, tt)) (subst (IsBlank p) (sym next) (stays_blank done e run h.0 blank)) (subst (IsRun r g p es) (sym next) h.1))

  pub always_blank : (es : List Happening) → IsRun r g p es from → IsBlank p (after_all g p es from)
  always_blank es h = all_blank es [] tt (λ k x. refl) h

-- the lines of one key among those of many
module _ (states : List State) (map : Map) (k : Key) where
  abbrev its : List OutLine
  its = part_lines states (record { key = k; state = map k })

  once_found : (found : List OutLine) (keys : List Key) → found ≡ its → lines_from states k found (parts_of keys map) ≡ its
  once_found found [] e = e
  once_found found (j ∷ js) e = once_found (cond (bytes_eq j k) (part_lines states (record { key = j; state = map j })) found) js (by_cases (bytes_eq j k)
      (λ x. cond-true (bytes_eq j k) (part_lines states (record { key = j; state = map j })) found x ∙ ap (λ (i : Key). part_lines states (record { key = i; state = map i })) (key_is j k x))
      (λ x. cond-false (bytes_eq j k) (part_lines states (record { key = j; state = map j })) found x ∙ e))

  pub among : (found : List OutLine) (keys : List Key) → list_any (bytes_eq k) keys ≡ true → lines_from states k found (parts_of keys map) ≡ its
  among found [] h = absurd (both_ways false refl h)
  among found (j ∷ js) h = by_cases (bytes_eq j k)
      (λ x. once_found (cond (bytes_eq j k) (part_lines states (record { key = j; state = map j })) found) js
      (cond-true (bytes_eq j k) (part_lines states (record { key = j; state = map j })) found x ∙ ap (λ (i : Key). part_lines states (record { key = i; state = map i })) (key_is j k x)))
      (λ x. among (cond (bytes_eq j k) (part_lines states (record { key = j; state = map j })) found) js (rest (bytes_eq k j) refl x h))
    where
      rest : (b : Bool) → bytes_eq k j ≡ b → bytes_eq j k ≡ false → (b || list_any (bytes_eq k) js) ≡ true → list_any (bytes_eq k) js ≡ true
      rest true e x y = absurd (both_ways (bytes_eq j k) x (ap (λ (i : Key). bytes_eq j i) (key_is k j e) ∙ same_key j))
      rest false e x y = y

  pub not_among : (keys : List Key) → list_any (bytes_eq k) keys ≡ false → lines_from states k [] (parts_of keys map) ≡ []
  not_among [] h = refl
  not_among (j ∷ js) h = of (bytes_eq k j) refl h (not_among js)
    where
      of : (b : Bool) → bytes_eq k j ≡ b → (b || list_any (bytes_eq k) js) ≡ false → (list_any (bytes_eq k) js ≡ false → lines_from states k [] (parts_of js map) ≡ []) → lines_from states k (cond (bytes_eq j k) (part_lines states (record { key = j; state = map j })) []) (parts_of js map) ≡ []
      of true e y rest = absurd (both_ways true y refl)
      of false e y rest =
          let other : bytes_eq j k ≡ false = by_cases (bytes_eq j k) (λ x. absurd (both_ways (bytes_eq k j) e (ap (λ (i : Key). bytes_eq k i) (key_is j k x) ∙ same_key k))) (λ x. x) in
          ap (λ (found : List OutLine). lines_from states k found (parts_of js map)) (cond-false (bytes_eq j k) (part_lines states (record { key = j; state = map j })) [] other) ∙ rest y

module _ (s : Settings) (p : Program) (a : Controller) (content : Content) (out : ℕ → List Item) (read : List Event) (written : List Entry) (x : Refines s p a content out read written) where
  abbrev map : Map
  map k = (x.machine.parts k).said.state

  -- what a key has
  state_is : (k : Key) → record { cells = content k; times = times_of a.timers k } ≡ map k
  state_is k = ap₂ with_times (sym (x.reaches.states k)) (x.stands.stands.keys k).times
    where
      with_times : Cells → List ℤ → KeyState
      with_times cells times = record { cells = cells; times = times }

  absent_fresh : (k : Key) → list_any (bytes_eq k) x.machine.keys ≡ false → part_lines (shown_program p).states (record { key = k; state = map k }) ≡ []
  absent_fresh k h = ap (λ (t : KeyState). part_lines (shown_program p).states (record { key = k; state = t })) is_fresh ∙ fresh_lines (shown_program p).states k
    where
      blank : (x.machine.parts k).said.state.cells ≡ untouched (kinds_of (shown_program p).states)
      blank = subst (IsBlank (shown_program p)) (sym x.reaches.there) (always_blank (rules_of s) s.groups (shown_program p) (accepted p) x.reaches.events x.reaches.run) k h

      none : (x.machine.parts k).said.state.times ≡ []
      none = ((reached_orderly (rules_of s) (shown_program p) (control_of_machine x.machine) (accepted p) (reached_by s (shown_program p) content read written x.machine x.reaches)).absent k h).times

      with_times : Cells → List ℤ → KeyState
      with_times cells times = record { cells = cells; times = times }

      is_fresh : map k ≡ fresh (kinds_of (shown_program p).states)
      is_fresh = ap₂ with_times blank none

  -- parts in which each key has the lines of what the shards hold and of its timers
  pub block_is : (id : ℤ) (parts : List Part) → ((k : Key) → lines_among (shown_program p).states k parts ≡ part_lines (shown_program p).states (record { key = k; state = record { cells = content k; times = times_of a.timers k } }))
      → marker_of s.groups (shown_program p) (ByBarrier id) x.machine ≡ Block (block_text s.groups (shown_program p).states id a.wm parts)
  block_is id parts h =
      ap (λ (w : ℤ). Block (block_text s.groups (shown_program p).states id w (parts_of x.machine.keys map))) (sym x.stands.stands.wm)
      ∙ ap Block (same_block s.groups (shown_program p).states id a.wm (parts_of x.machine.keys map) parts (λ k. its_lines k ∙ sym (h k ∙ ap (λ (t : KeyState). part_lines (shown_program p).states (record { key = k; state = t })) (state_is k))))
    where
      its_lines : (k : Key) → lines_among (shown_program p).states k (parts_of x.machine.keys map) ≡ part_lines (shown_program p).states (record { key = k; state = map k })
      its_lines k = by_cases (list_any (bytes_eq k) x.machine.keys)
          (λ y. among (shown_program p).states map k [] x.machine.keys y)
          (λ y. not_among (shown_program p).states map k x.machine.keys y ∙ sym (absent_fresh k y))
