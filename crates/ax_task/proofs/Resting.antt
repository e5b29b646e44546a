-- What was written may have been written so far, and where nothing is left to do it is whole.
use Rattle.std.proofs.Common.{◌≡◌, ℕ, ◌+◌, ◌≤◌, ◌<◌, List, [], ◌∷◌, true, false, Option, Some, None, refl, sym, ap, ap₂, ◌∙◌, subst, arith}
use Rattle.std.specs.Str.{bytes_eq}
use Rattle.std.specs.List.{list_any}
use Rattle.ax_machine.specs.Entries.{Key, Entry}
use Rattle.ax_machine.specs.Events.{Event}
use Rattle.ax_machine.specs.Sync.{Plain, sync}
use Rattle.ax_machine.specs.Lawful.{Lawful, LawfulSoFar, LawfulFor, LawfulSoFarFor}
use Rattle.ax_lang.specs.declared.program.Program.{Program}
use Rattle.ax_lang.specs.Shown.{shown_program}
use Rattle.ax_buffer.specs.declared.items.Item.{Item}
use Rattle.ax_execution.specs.Contexts.{Context, Waiting, Row, Mark, owners, rows_in, is_idle_with}
use Rattle.ax_execution.specs.Origins.{first}
use Rattle.ax_execution.specs.Rest.{silent}
use Rattle.ax_execution.specs.Machine.{Closed, Machine, machine_of, taken, IsAtRest}
use Rattle.ax_execution.specs.Allowed.{OwnedLater, WaitLater}
use Rattle.ax_execution.specs.ControlTurns.{is_idle_on, contexts_on}
use Rattle.ax_execution.specs.MachineControls.{MachineControl, control_of_machine, in_flight_on}
use Rattle.ax_execution.specs.ControlsAllowed.{FirstIsFinishedOn}
use Rattle.ax_execution.specs.Reached.{IsOrderly}
use Rattle.ax_execution.proofs.Handlers.{Good, handles}
use Rattle.ax_execution.proofs.KeySums.{in_total}
use Rattle.ax_execution.proofs.Lawfully as lawfully
use Rattle.ax_execution.proofs.Lawfully.{IsInStep, always_in_step}
use Rattle.ax_execution.proofs.Projected.{first_fits}
use Rattle.ax_execution.proofs.ReachedOrderly.{reached_orderly}
use Rattle.ax_execution.proofs.Upto.{by_cases}
use Rattle.ax_core.specs.declared.settings.Settings.{Settings}
use Rattle.ax_core.specs.declared.controller.Controller.{Controller}
use Rattle.ax_core.specs.Sound.{rules_of}
use Rattle.ax_core.specs.Events.{MayFireOn}
use Rattle.ax_core.proofs.Sends.{accepted}
use Rattle.ax_task.specs.Serving.{Content}
use Rattle.ax_task.specs.Refined.{Refines}
use Rattle.ax_task.proofs.Refining.{reached_by}

true_false : true ≡ false → ⊥
true_false e = cc e

no_owner : (o : Option Context) → owners o ≡ 0 → o ≡ None
no_owner None h = refl
no_owner (Some c) h = absurd (omega (arith, h))

silent_none : (o : Option Context) → silent o ≡ None → o ≡ None
silent_none None h = refl
silent_none (Some c) h = absurd (cc h)

module _ (s : Settings) (p : Program) (a : Controller) (content : Content) (out : ℕ → List Item) (read : List Event) (written : List Entry) (x : Refines s p a content out read written) where
  abbrev c : MachineControl
  c = control_of_machine x.machine

  step : IsInStep s.groups (shown_program p) Good (handles (shown_program p) (accepted p)) (first (shown_program p)) (first_fits (shown_program p)) s.serial
      (machine_of s.groups (shown_program p) (first (shown_program p)) x.reaches.events) (taken x.reaches.events)
  step = always_in_step s.groups (shown_program p) Good (handles (shown_program p) (accepted p)) (first (shown_program p)) (first_fits (shown_program p)) s.serial (rules_of s) refl x.reaches.events x.reaches.run

  -- at any moment
  pub so_far : LawfulSoFarFor s.groups s.serial (shown_program p) read written
  so_far = subst (λ (t : Plain). LawfulSoFar s.serial written t.entries) (sym x.reaches.same)
      (subst (λ (es : List Entry). LawfulSoFar s.serial es (sync s.groups (shown_program p) (taken x.reaches.events)).entries) (ap (λ (m : Machine). m.written) (sym x.reaches.there) ∙ x.reaches.wrote)
      (lawfully.so_far s.groups (shown_program p) Good (handles (shown_program p) (accepted p)) (first (shown_program p)) (first_fits (shown_program p)) s.serial
      (machine_of s.groups (shown_program p) (first (shown_program p)) x.reaches.events) (taken x.reaches.events) step))

  -- at rest
  pub whole : IsAtRest x.machine → LawfulFor s.groups s.serial (shown_program p) read written
  whole rest = subst (λ (t : Plain). Lawful s.serial written t.entries) (sym x.reaches.same)
      (subst (λ (es : List Entry). Lawful s.serial es (sync s.groups (shown_program p) (taken x.reaches.events)).entries) (ap (λ (m : Machine). m.written) (sym x.reaches.there) ∙ x.reaches.wrote)
      (lawfully.at_rest s.groups (shown_program p) Good (handles (shown_program p) (accepted p)) (first (shown_program p)) (first_fits (shown_program p)) s.serial
      (machine_of s.groups (shown_program p) (first (shown_program p)) x.reaches.events) (taken x.reaches.events) step (subst IsAtRest x.reaches.there rest)))

  -- nothing is in flight, no key is left to fire, and no marker to be sent
  module _ (some : 0 < s.in_flight) (none : in_flight_on c ≡ 0) (fired : MayFireOn a c → ⊥) (sent : FirstIsFinishedOn c.unsent c → ⊥) where
    orderly : IsOrderly (rules_of s) c
    orderly = reached_orderly (rules_of s) (shown_program p) c (accepted p) (reached_by s (shown_program p) content read written x.machine x.reaches)

    empty : (k : Key) → contexts_on (c.controls k) ≡ 0
    empty k = by_cases (list_any (bytes_eq k) c.keys)
        (λ y. let z : contexts_on (c.controls k) ≤ in_flight_on c = in_total c.keys (λ j. contexts_on (c.controls j)) k y in omega arith)
        (λ y. ap₂ (λ (o : Option Context) (is : List Waiting). owners o + rows_in is) (orderly.absent k y).owner (orderly.absent k y).waiting)

    free : (k : Key) → (c.controls k).owner ≡ None
    free k = no_owner (c.controls k).owner (let z : contexts_on (c.controls k) ≡ 0 = empty k in omega arith)

    not_idle : (k : Key) → is_idle_on (c.controls k) ≡ false
    not_idle k = by_cases (is_idle_on (c.controls k))
        (λ y. absurd (fired (record { key = k; idle = y; room = subst (λ (n : ℕ). n < a.settings.in_flight) (sym none) (subst (λ (t : Settings). 0 < t.in_flight) (sym x.settings) some) })))
        (λ y. y)

    none_waits : (k : Key) → (c.controls k).waiting ≡ []
    none_waits k = of (c.controls k).waiting refl
      where
        of : (is : List Waiting) → (c.controls k).waiting ≡ is → (c.controls k).waiting ≡ []
        of [] e = e
        of (Row n f facts ∷ is) e = absurd (let z : contexts_on (c.controls k) ≡ 0 = empty k in let y : rows_in (c.controls k).waiting ≡ 1 + rows_in is = ap rows_in e in omega arith)
        of (Mark f w more ∷ is) e = absurd (true_false (sym (ap₂ is_idle_with (free k) e) ∙ not_idle k))

    none_unsent : x.machine.unsent ≡ []
    none_unsent = of x.machine.unsent refl
      where
        of : (cs : List Closed) → x.machine.unsent ≡ cs → x.machine.unsent ≡ []
        of [] e = e
        of (d ∷ ds) e = absurd (sent (subst (λ (cs : List Closed). FirstIsFinishedOn cs c) (sym e)
            (λ k. (subst (OwnedLater d.epoch) (sym (free k)) tt, subst (WaitLater d.epoch) (sym (none_waits k)) tt))))

    pub rests : IsAtRest x.machine
    rests = record { owners = λ k. silent_none (x.machine.parts k).owner (free k); waiting = none_waits; unsent = none_unsent }
