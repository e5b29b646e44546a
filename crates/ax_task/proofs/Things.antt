-- What each thing that the task does makes of the machine: a key fires, a mail is run, a marker is sent, a row or a marker is taken.
use Rattle.std.proofs.Common.{◌≡◌, ℕ, ℤ, int_lt, List, [], ◌∷◌, ◌++◌, Option, Some, None, refl, sym, ap, ◌∙◌, subst, false}
use Rattle.std.proofs.lemmas.Bool.{cond-false}
use Rattle.std.proofs.lemmas.List.{append-nil}
use Rattle.ax_text.specs.Programs.{Program as AnyProgram}
use Rattle.ax_machine.specs.Entries.{Key, Watermark, Entry, says}
use Rattle.ax_machine.specs.Entries as entry
use Rattle.ax_machine.specs.Events.{Event}
use Rattle.ax_machine.specs.Events as event
use Rattle.ax_machine.specs.Sync.{Plain, sync, all_fired, at_watermark, writes}
use Rattle.ax_lang.specs.declared.program.Program.{Program}
use Rattle.ax_lang.specs.Shown.{shown_program}
use Rattle.ax_buffer.specs.declared.items.Item.{Item}
use Rattle.ax_time.specs.declared.epoch.Marker.{Marker}
use Rattle.ax_time.specs.declared.epoch.Marker.TheVariants as marker
use Rattle.ax_execution.specs.Origins.{first}
use Rattle.ax_execution.specs.Machine.{Closing, Closed, Machine, Happening, Admit, Close, Fire, Send, happens, outcome, sends_first, marker_of, taken}
use Rattle.ax_execution.specs.MachineControls.{MachineControl, control_of_machine, happens_on, outcome_on, sent_entries}
use Rattle.ax_execution.specs.ControlsAllowed.{AllowedOn, IsAnswered}
use Rattle.ax_execution.proofs.Alone.{sync_next, goes_as_alone}
use Rattle.ax_execution.proofs.EventControls.{entries_on}
use Rattle.ax_execution.proofs.Handlers.{Good, handles}
use Rattle.ax_execution.proofs.Projected.{first_fits}
use Rattle.ax_core.specs.declared.settings.Settings.{Settings}
use Rattle.ax_core.specs.declared.effects.Fired.{Fired}
use Rattle.ax_core.specs.declared.effects.Ran.{Ran}
use Rattle.ax_core.specs.declared.effects.Ran.TheVariants as ran
use Rattle.ax_core.specs.declared.effects.Effects.{Effects}
use Rattle.ax_core.specs.declared.controller.Controller.{Controller}
use Rattle.ax_core.specs.Epochs.{closing_of}
use Rattle.ax_core.specs.Sound.{rules_of, StandsFor}
use Rattle.ax_core.specs.Events.{Makes, Fires, event_of, FiresNext, Runs, IsFirstClosed, Sends}
use Rattle.ax_core.proofs.Sends.{accepted}
use Rattle.ax_task.specs.Serving.{Content}
use Rattle.ax_task.specs.Refined.{Reaches, Refines}
use Rattle.ax_task.proofs.Refining.{control_behind, reaches_one, AllAsk, all_ask, Leaves, stands_behind, made}

-- the event that closes an epoch
abbrev pub marker_event : Marker → Event
marker_event (marker.Mark time) = event.Mark time
marker_event (marker.Barrier id) = event.Barrier id

closes_by : (k : Marker) → taken (Close (closing_of k) ∷ []) ≡ marker_event k ∷ []
closes_by (marker.Mark time) = refl
closes_by (marker.Barrier id) = refl

callback : (k : Key) (c : Ran) → IsAnswered (event_of k c) None
callback k (ran.Start n) = tt
callback k (ran.Reply n slot) = tt

callback_takes : (k : Key) (c : Ran) → taken (event_of k c ∷ []) ≡ []
callback_takes k (ran.Start n) = refl
callback_takes k (ran.Reply n slot) = refl

callback_sends : (p : AnyProgram) (k : Key) (c : Ran) (m : MachineControl) → (outcome_on p (event_of k c) m).sent ≡ None
callback_sends p k (ran.Start n) m = refl
callback_sends p k (ran.Reply n slot) m = refl

module _ (s : Settings) (p : Program) (a b : Controller) (content : Content) (out : ℕ → List Item) (read : List Event) (written : List Entry) (x : Refines s p a content out read written) where
  abbrev c : MachineControl
  c = control_of_machine x.machine

  -- nothing more was read, or nothing more was written
  no_read : (d : Controller) (more : List Entry) → Refines s p d content out (read ++ []) (written ++ more) → Refines s p d content out read (written ++ more)
  no_read d more y = subst (λ (es : List Event). Refines s p d content out es (written ++ more)) (append-nil read) y

  no_more : (d : Controller) (new : List Event) → Refines s p d content out new (written ++ []) → Refines s p d content out new written
  no_more d new y = subst (λ (es : List Entry). Refines s p d content out new es) (append-nil written) y

  -- a key fires
  pub fires_on : (f : Fired) → Leaves a b → Fires a b f c → Refines s p b content out read written
  fires_on f l h = no_more b read (no_read b [] (made s p a b content out read written x l (Fire f.context f.key) tt h.made [] [] refl refl))

  -- a row comes in
  pub admits_on : (n : ℕ) (key : Key) (time : ℤ) (values : List ℤ) → Leaves a b → Makes a b (Admit n key time values) c → Refines s p b content out (read ++ event.Row key time values ∷ []) written
  admits_on n key time values l h = no_more b (read ++ event.Row key time values ∷ []) (made s p a b content out read written x l (Admit n key time values) tt h (event.Row key time values ∷ []) [] refl refl)

  -- an epoch is closed
  pub closes_on : (k : Marker) → Leaves a b → Makes a b (Close (closing_of k)) c → Refines s p b content out (read ++ marker_event k ∷ []) written
  closes_on k l h = no_more b (read ++ marker_event k ∷ []) (made s p a b content out read written x l (Close (closing_of k)) tt h (marker_event k ∷ []) [] (closes_by k) refl)

  -- the oldest marker is sent
  pub sends_on : (k : Marker) → Leaves a b → Sends a b k c → Refines s p b content out read (written ++ entry.Mark (marker_of s.groups (shown_program p) (closing_of k) x.machine) ∷ [])
  sends_on k l h = no_read b (it ∷ []) (made s p a b content out read written x l Send tt h.made [] (it ∷ []) refl (says x.machine.unsent h.first))
    where
      it : Entry
      it = entry.Mark (marker_of s.groups (shown_program p) (closing_of k) x.machine)

      says : (cs : List Closed) → IsFirstClosed k cs → (sends_first s.groups (shown_program p) cs x.machine).entries ≡ entry.Mark (marker_of s.groups (shown_program p) (closing_of k) x.machine) ∷ []
      says [] e = absurd e
      says (d ∷ ds) e = ap (λ (y : Closing). entry.Mark (marker_of s.groups (shown_program p) y x.machine) ∷ []) (sym e)

  -- a callback runs, and the next timer of its key fires where it must
  module _ (f : Effects) (l : Leaves a b) (h : Runs a b f c) where
    e : Happening
    e = event_of f.key f.ran

    m : Machine
    m = happens s.groups (shown_program p) (event_of f.key f.ran) x.machine

    allowed : AllowedOn (rules_of s) (event_of f.key f.ran) c
    allowed = subst (λ (t : Settings). AllowedOn (rules_of t) (event_of f.key f.ran) c) x.settings h.allowed

    path : control_of_machine m ≡ happens_on (shown_program p) (event_of f.key f.ran) None c
    unfolding m
    path = control_behind s.groups (shown_program p) (event_of f.key f.ran) x.machine (callback f.key f.ran)

    lines : (outcome s.groups (shown_program p) (event_of f.key f.ran) x.machine).entries ≡ says f.key f.outs
    lines =
        entries_on s.groups (shown_program p) (event_of f.key f.ran) x.machine
        ∙ (ap (λ (t : Option Closing). (outcome_on (shown_program p) (event_of f.key f.ran) c).lines ++ sent_entries s.groups (shown_program p) t x.machine) (callback_sends (shown_program p) f.key f.ran c)
        ∙ (append-nil (outcome_on (shown_program p) (event_of f.key f.ran) c).lines
        ∙ (ap (λ (t : Program). (outcome_on (shown_program t) (event_of f.key f.ran) c).lines) (sym x.program) ∙ h.lines)))

    reaches : Reaches s (shown_program p) content (read ++ []) (written ++ says f.key f.outs) m
    unfolding m
    reaches = reaches_one s (shown_program p) content read [] written (says f.key f.outs) x.machine x.reaches (event_of f.key f.ran) (callback f.key f.ran) allowed (callback_takes f.key f.ran) lines

    asks : AllAsk a out (control_of_machine m)
    unfolding m
    asks = all_ask s p a out content read written x.machine x.reaches (event_of f.key f.ran) (callback f.key f.ran) allowed x.asks

    next : FiresNext a b f.fired (control_of_machine m)
    next = subst (FiresNext a b f.fired) (ap (λ (t : Program). happens_on (shown_program t) (event_of f.key f.ran) None c) x.program ∙ sym path) h.next

    pub runs_on : Refines s p b content out read (written ++ says f.key f.outs)
    runs_on = of f.fired next
      where
        of : (o : Option Fired) → FiresNext a b o (control_of_machine m) → Refines s p b content out read (written ++ says f.key f.outs)
        of None y = no_read b (says f.key f.outs) (stands_behind s p a b content out read written x l (read ++ []) (written ++ says f.key f.outs) m reaches asks y)
        of (Some t) y =
            let go : AllowedOn (rules_of s) (Fire t.context t.key) (control_of_machine m) = subst (λ (u : Settings). AllowedOn (rules_of u) (Fire t.context t.key) (control_of_machine m)) x.settings y.1.made.allowed in
            let stands : StandsFor b (happens_on (shown_program p) (Fire t.context t.key) None (control_of_machine m)) = subst (λ (u : Program). StandsFor b (happens_on (shown_program u) (Fire t.context t.key) None (control_of_machine m))) x.program y.1.made.stands in
            let all : Refines s p b content out ((read ++ []) ++ []) ((written ++ says f.key f.outs) ++ []) =
            stands_behind s p a b content out read written x l ((read ++ []) ++ []) ((written ++ says f.key f.outs) ++ []) (happens s.groups (shown_program p) (Fire t.context t.key) m)
            (reaches_one s (shown_program p) content (read ++ []) [] (written ++ says f.key f.outs) [] m reaches (Fire t.context t.key) tt go refl refl)
            (all_ask s p a out content (read ++ []) (written ++ says f.key f.outs) m reaches (Fire t.context t.key) tt go asks)
            (subst (StandsFor b) (sym (control_behind s.groups (shown_program p) (Fire t.context t.key) m tt)) stands) in
            no_read b (says f.key f.outs)
            (subst (λ (es : List Event). Refines s p b content out es (written ++ says f.key f.outs)) (append-nil (read ++ []))
            (subst (λ (es : List Entry). Refines s p b content out ((read ++ []) ++ []) es) (append-nil (written ++ says f.key f.outs)) all))

-- a watermark that isn't greater than each one before is skipped
module _ (s : Settings) (p : Program) (a : Controller) (content : Content) (out : ℕ → List Item) (read : List Event) (written : List Entry) (x : Refines s p a content out read written) where
  plain_wm : a.wm ≡ (sync s.groups (shown_program p) read).wm
  plain_wm =
      x.stands.stands.wm
      ∙ (ap (λ (m : Machine). m.wm) x.reaches.there
      ∙ ((goes_as_alone s.groups (shown_program p) Good (handles (shown_program p) (accepted p)) (first (shown_program p)) (first_fits (shown_program p)) (rules_of s) x.reaches.events x.reaches.run).wm
      ∙ ap (λ (t : Plain). t.wm) (sym x.reaches.same)))

  skips : (w : ℤ) → int_lt a.wm w ≡ false → sync s.groups (shown_program p) (read ++ event.Mark w ∷ []) ≡ sync s.groups (shown_program p) read
  skips w h =
      sync_next s.groups (shown_program p) (first (shown_program p)) read (event.Mark w)
      ∙ cond-false (int_lt (sync s.groups (shown_program p) read).wm w) (writes (Watermark w) (all_fired (shown_program p) (at_watermark w (sync s.groups (shown_program p) read)))) (sync s.groups (shown_program p) read)
      (ap (λ (v : ℤ). int_lt v w) (sym plain_wm) ∙ h)

  pub skips_on : (w : ℤ) → int_lt a.wm w ≡ false → Refines s p a content out (read ++ event.Mark w ∷ []) written
  skips_on w h = record {
    program = x.program;
    settings = x.settings;
    machine = x.machine;
    reaches = record { events = x.reaches.events; run = x.reaches.run; there = x.reaches.there; states = x.reaches.states; same = skips w h ∙ x.reaches.same; wrote = x.reaches.wrote };
    stands = x.stands;
    names = x.names;
    keys = x.keys;
    asks = x.asks;
  }
