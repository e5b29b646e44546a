-- What is left to do falls with each thing that the task does and that takes nothing of the input.
use Rattle.std.proofs.Common.{◌≡◌, ℕ, suc, ◌+◌, ◌*◌, ◌≤◌, ◌<◌, List, [], ◌∷◌, ◌++◌, length, set, Option, Some, None, refl, sym, ap, ap₂, ◌∙◌, subst, arith, length-append, mul-le-mul_right}
use Rattle.std.proofs.Math.Nat.{suc-mul}
use Rattle.std.proofs.lemmas.List.{length-map}
use Rattle.ax_text.specs.Programs.{Program as AnyProgram, program_width}
use Rattle.ax_machine.specs.Entries.{Key, Entry}
use Rattle.ax_machine.specs.Events.{Event}
use Rattle.ax_lang.specs.declared.program.Program.{Program}
use Rattle.ax_lang.specs.Shown.{shown_program}
use Rattle.ax_buffer.specs.declared.items.Item.{Item}
use Rattle.ax_buffer.specs.Buffer.{total}
use Rattle.ax_buffer.proofs.ListLemmas.{total-set}
use Rattle.ax_time.specs.declared.epoch.Marker.{Marker}
use Rattle.ax_execution.specs.Origins.{first}
use Rattle.ax_execution.specs.Machine.{Machine, Happening, Fire, Serve, Send, happens, after_all, machine_from, outcome, taken, work, IsWork}
use Rattle.ax_execution.specs.Allowed.{Allowed, IsRun}
use Rattle.ax_execution.specs.MachineControls.{MachineControl, control_of_machine, happens_on, in_flight_on, work_on}
use Rattle.ax_execution.specs.ControlsAllowed.{AllowedOn, IsAnswered}
use Rattle.ax_execution.specs.Reached.{owed_in}
use Rattle.ax_execution.proofs.CellsKept.{only_serve}
use Rattle.ax_execution.proofs.ControlsAllowed.{allowed_from}
use Rattle.ax_execution.proofs.Falls as falls
use Rattle.ax_execution.proofs.Handlers.{Good, handles}
use Rattle.ax_execution.proofs.Projected.{first_fits}
use Rattle.ax_execution.proofs.ReachedOrderly.{reached_orderly}
use Rattle.ax_core.specs.declared.settings.Settings.{Settings}
use Rattle.ax_core.specs.declared.controller.Controller.{Controller}
use Rattle.ax_core.specs.Flow.{out_of}
use Rattle.ax_core.specs.Sound.{rules_of, StandsFor}
use Rattle.ax_core.specs.declared.effects.Fired.{Fired}
use Rattle.ax_core.specs.declared.effects.Ran.{Ran}
use Rattle.ax_core.specs.declared.effects.Ran.TheVariants as ran
use Rattle.ax_core.specs.declared.effects.Effects.{Effects}
use Rattle.ax_core.specs.Events.{SameRules, Makes, Fires, Sends, Runs, FiresNext, event_of, names_in}
use Rattle.ax_core.proofs.Deliveries.{owed_bound}
use Rattle.ax_core.proofs.Sends.{accepted}
use Rattle.ax_task.specs.Serving.{Content}
use Rattle.ax_task.specs.Refined.{Reaches, Refines}
use Rattle.ax_task.specs.Work.{work_in, on_hand, most_on_hand, left_to_do}
use Rattle.ax_task.proofs.Refining.{run_append, after_append, no_serve, control_behind, reaches_one}
use Rattle.ax_task.proofs.Served.{Holds, serve_events}
use Rattle.ax_task.proofs.Working.{work_stands, work_machine}

-- the machine's work

module _ (s : Settings) (p : Program) where
  abbrev q : AnyProgram
  q = shown_program p

  abbrev from : Machine
  from = machine_from (first q)

  -- an event that takes nothing of the input
  pub falls_at : (es : List Happening) → IsRun (rules_of s) s.groups q es from → (e : Happening) → IsWork e → Allowed (rules_of s) e (after_all s.groups q es from)
      → suc (work q (happens s.groups q e (after_all s.groups q es from))) ≡ work q (after_all s.groups q es from)
  falls_at es run e i h = falls.work_falls q Good (handles q (accepted p)) s.groups (first q) (first_fits q) (rules_of s) es run e i h

  pub falls_one : (content : Content) (read : List Event) (written : List Entry) (m : Machine) → Reaches s q content read written m → (e : Happening) → IsWork e → AllowedOn (rules_of s) e (control_of_machine m)
      → suc (work q (happens s.groups q e m)) ≡ work q m
  falls_one content read written m x e i h = subst (λ (n : Machine). suc (work q (happens s.groups q e n)) ≡ work q n) (sym x.there)
      (falls_at x.events x.run e i (subst (Allowed (rules_of s) e) x.there (allowed_from (rules_of s) e m h)))

  -- each request of a batch
  serves_fall : (is : List Item) (es : List Happening) → IsRun (rules_of s) s.groups q es from → IsRun (rules_of s) s.groups q (serve_events is) (after_all s.groups q es from)
      → work q (after_all s.groups q (serve_events is) (after_all s.groups q es from)) + length is ≡ work q (after_all s.groups q es from)
  serves_fall [] es run h = omega arith
  serves_fall (i ∷ is) es run h =
      let e : Happening = Serve i.key i.slot in
      let m : Machine = after_all s.groups q es from in
      let next : after_all s.groups q (es ++ e ∷ []) from ≡ happens s.groups q e m = after_append s.groups q es (e ∷ []) from in
      let one : suc (work q (happens s.groups q e m)) ≡ work q m = falls_at es run e tt h.0 in
      let rest : work q (after_all s.groups q (serve_events is) (happens s.groups q e m)) + length is ≡ work q (happens s.groups q e m) =
      subst (λ (n : Machine). work q (after_all s.groups q (serve_events is) n) + length is ≡ work q n) next
      (serves_fall is (es ++ e ∷ []) (run_append (rules_of s) s.groups q es (e ∷ []) from run (h.0, tt)) (subst (IsRun (rules_of s) s.groups q (serve_events is)) (sym next) h.1)) in
      omega arith

  pub falls_served : (content : Content) (read : List Event) (written : List Entry) (m : Machine) → Reaches s q content read written m → (is : List Item) → IsRun (rules_of s) s.groups q (serve_events is) m
      → work q (after_all s.groups q (serve_events is) m) + length is ≡ work q m
  falls_served content read written m x is h = subst (λ (n : Machine). work q (after_all s.groups q (serve_events is) n) + length is ≡ work q n) (sym x.there)
      (serves_fall is x.events x.run (subst (IsRun (rules_of s) s.groups q (serve_events is)) x.there h))

-- the controller's

pub work_now : (s : Settings) (p : Program) (b : Controller) (content : Content) (m : Machine) → b.program ≡ p → StandsFor b (control_of_machine m) → Holds m content → work_in b content ≡ work (shown_program p) m
work_now s p b content m e x holds = work_machine b content m x holds ∙ ap (λ (t : Program). work (shown_program t) m) e

-- on hand, beside what is out, is what owners owe
hand_is : (a : Controller) (c : MachineControl) → StandsFor a c → on_hand a + total length a.outs.items ≡ owed_in c
hand_is a c x = omega (arith, x.stands.way)

pub hand_fits : (a : Controller) (c : MachineControl) → StandsFor a c → on_hand a ≤ most_on_hand a
hand_fits a c x =
    let one : on_hand a + total length a.outs.items ≡ owed_in c = hand_is a c x in
    let two : owed_in c ≤ in_flight_on c * (program_width (shown_program a.program) + 1) = owed_bound a c x.stands in
    let few : in_flight_on c ≤ a.settings.in_flight = (reached_orderly (rules_of a.settings) (shown_program a.program) c (accepted a.program) x.reached).limit in
    let three : in_flight_on c * (program_width (shown_program a.program) + 1) ≤ a.settings.in_flight * (program_width (shown_program a.program) + 1) = mul-le-mul_right (program_width (shown_program a.program) + 1) few in
    omega arith

same_most : (a b : Controller) → SameRules a b → most_on_hand b ≡ most_on_hand a
same_most a b same = ap₂ (λ (t : Settings) (u : Program). t.in_flight * (program_width (shown_program u) + 1)) same.settings same.program

less : (v w most m n : ℕ) → v < w → m ≤ most → v * (most + 1) + m < w * (most + 1) + n
less v w most m n h k =
    let one : suc v * (most + 1) ≤ w * (most + 1) = mul-le-mul_right (most + 1) h in
    let two : suc v * (most + 1) ≡ v * (most + 1) + (most + 1) = suc-mul v (most + 1) in
    omega arith

-- less work is left
pub less_left : (a b : Controller) (content content' : Content) (c : MachineControl) → SameRules a b → StandsFor b c → work_in b content' < work_in a content → left_to_do b content' < left_to_do a content
less_left a b content content' c same x h =
    subst (λ (n : ℕ). work_in b content' * (n + 1) + on_hand b < work_in a content * (most_on_hand a + 1) + on_hand a) (sym (same_most a b same))
    (less (work_in b content') (work_in a content) (most_on_hand a) (on_hand b) (on_hand a) h (subst (λ (n : ℕ). on_hand b ≤ n) (same_most a b same) (hand_fits b c x)))

-- a batch goes out
module _ (a b : Controller) (content : Content) (c : MachineControl) (same : SameRules a b) (x : StandsFor a c) (y : StandsFor b c) (shard : ℕ) (batch : List Item) (inside : shard < length a.outs.items)
    (outs : b.outs.items ≡ set a.outs.items shard (out_of a shard ++ names_in batch)) (some : 0 < length batch) where
  same_work : work_in b content ≡ work_in a content
  same_work = work_stands b content c y ∙ (ap (λ (t : Program). work_on (shown_program t) content c) same.program ∙ sym (work_stands a content c x))

  fewer : on_hand b < on_hand a
  fewer =
      let one : total length (set a.outs.items shard (out_of a shard ++ names_in batch)) + length (out_of a shard) ≡ total length a.outs.items + length (out_of a shard ++ names_in batch) =
      total-set length a.outs.items shard (out_of a shard ++ names_in batch) [] inside in
      let two : length (out_of a shard ++ names_in batch) ≡ length (out_of a shard) + length (names_in batch) = length-append (out_of a shard) (names_in batch) in
      let three : length (names_in batch) ≡ length batch = length-map batch (λ (i : Item). record { id = i.id; slot = i.slot }) in
      let four : total length b.outs.items ≡ total length (set a.outs.items shard (out_of a shard ++ names_in batch)) = ap (total length) outs in
      let here : on_hand a + total length a.outs.items ≡ owed_in c = hand_is a c x in
      let there : on_hand b + total length b.outs.items ≡ owed_in c = hand_is b c y in
      omega arith

  pub posts_fall : left_to_do b content < left_to_do a content
  posts_fall = subst (λ (n : ℕ). n * (most_on_hand b + 1) + on_hand b < left_to_do a content) (sym same_work)
      (subst (λ (n : ℕ). work_in a content * (n + 1) + on_hand b < left_to_do a content) (sym (same_most a b same)) (let l : on_hand b < on_hand a = fewer in omega arith))

-- an event that serves nothing
module _ (s : Settings) (p : Program) (a b : Controller) (content : Content) (out : ℕ → List Item) (read : List Event) (written : List Entry) (x : Refines s p a content out read written) (same : SameRules a b) where
  abbrev c : MachineControl
  c = control_of_machine x.machine

  before : work_in a content ≡ work (shown_program p) x.machine
  before = work_now s p a content x.machine x.program x.stands x.reaches.states

  module _ (m : Machine) (e : Happening) (none : IsAnswered e None) (holds : Holds m content) where
    holds_next : Holds (happens s.groups (shown_program p) e m) content
    holds_next k = only_serve s.groups (shown_program p) e m k (no_serve e none k) ∙ holds k

    -- the controller behind it has the machine's work
    work_behind : StandsFor b (happens_on (shown_program b.program) e None (control_of_machine m)) → work_in b content ≡ work (shown_program p) (happens s.groups (shown_program p) e m)
    work_behind stands = work_now s p b content (happens s.groups (shown_program p) e m) (same.program ∙ x.program)
        (subst (StandsFor b) (ap (λ (t : Program). happens_on (shown_program t) e None (control_of_machine m)) (same.program ∙ x.program) ∙ sym (control_behind s.groups (shown_program p) e m none)) stands) holds_next

  of_old : (e : Happening) (d : MachineControl) → StandsFor b (happens_on (shown_program a.program) e None d) → StandsFor b (happens_on (shown_program b.program) e None d)
  of_old e d h = subst (λ (t : Program). StandsFor b (happens_on (shown_program t) e None d)) (sym same.program) h

  allows : (e : Happening) (d : MachineControl) → AllowedOn (rules_of a.settings) e d → AllowedOn (rules_of s) e d
  allows e d h = subst (λ (t : Settings). AllowedOn (rules_of t) e d) x.settings h

  makes_fall : (e : Happening) → IsAnswered e None → IsWork e → Makes a b e c → left_to_do b content < left_to_do a content
  makes_fall e none i h = less_left a b content content (happens_on (shown_program a.program) e None c) same h.stands
      (let one : suc (work (shown_program p) (happens s.groups (shown_program p) e x.machine)) ≡ work (shown_program p) x.machine = falls_one s p content read written x.machine x.reaches e i (allows e c h.allowed) in
      let now : work_in b content ≡ work (shown_program p) (happens s.groups (shown_program p) e x.machine) = work_behind x.machine e none x.reaches.states (of_old e c h.stands) in
      let was : work_in a content ≡ work (shown_program p) x.machine = before in
      omega arith)

  pub fires_fall : (f : Fired) → Fires a b f c → left_to_do b content < left_to_do a content
  fires_fall f h = makes_fall (Fire f.context f.key) tt tt h.made

  pub sends_fall : (k : Marker) → Sends a b k c → left_to_do b content < left_to_do a content
  sends_fall k h = makes_fall Send tt tt h.made

  callback_works : (k : Key) (r : Ran) → IsWork (event_of k r)
  callback_works k (ran.Start n) = tt
  callback_works k (ran.Reply n slot) = tt

  callback_serves : (k : Key) (r : Ran) → IsAnswered (event_of k r) None
  callback_serves k (ran.Start n) = tt
  callback_serves k (ran.Reply n slot) = tt

  pub runs_fall : (f : Effects) → Runs a b f c → left_to_do b content < left_to_do a content
  runs_fall f h = of f.fired h.next
    where
      one : suc (work (shown_program p) (happens s.groups (shown_program p) (event_of f.key f.ran) x.machine)) ≡ work (shown_program p) x.machine
      one = falls_one s p content read written x.machine x.reaches (event_of f.key f.ran) (callback_works f.key f.ran) (allows (event_of f.key f.ran) c h.allowed)

      reaches : Reaches s (shown_program p) content (read ++ taken (event_of f.key f.ran ∷ [])) (written ++ (outcome s.groups (shown_program p) (event_of f.key f.ran) x.machine).entries) (happens s.groups (shown_program p) (event_of f.key f.ran) x.machine)
      reaches = reaches_one s (shown_program p) content read (taken (event_of f.key f.ran ∷ [])) written (outcome s.groups (shown_program p) (event_of f.key f.ran) x.machine).entries x.machine x.reaches (event_of f.key f.ran) (callback_serves f.key f.ran)
          (allows (event_of f.key f.ran) c h.allowed) refl refl

      path : happens_on (shown_program a.program) (event_of f.key f.ran) None c ≡ control_of_machine (happens s.groups (shown_program p) (event_of f.key f.ran) x.machine)
      path = ap (λ (t : Program). happens_on (shown_program t) (event_of f.key f.ran) None c) x.program ∙ sym (control_behind s.groups (shown_program p) (event_of f.key f.ran) x.machine (callback_serves f.key f.ran))

      of : (o : Option Fired) → FiresNext a b o (happens_on (shown_program a.program) (event_of f.key f.ran) None c) → left_to_do b content < left_to_do a content
      of None y = less_left a b content content (happens_on (shown_program a.program) (event_of f.key f.ran) None c) same y
          (let first : suc (work (shown_program p) (happens s.groups (shown_program p) (event_of f.key f.ran) x.machine)) ≡ work (shown_program p) x.machine = one in
          let now : work_in b content ≡ work (shown_program p) (happens s.groups (shown_program p) (event_of f.key f.ran) x.machine) =
          work_behind x.machine (event_of f.key f.ran) (callback_serves f.key f.ran) x.reaches.states (of_old (event_of f.key f.ran) c y) in
          let was : work_in a content ≡ work (shown_program p) x.machine = before in
          omega arith)
      of (Some t) y =
          let mid : Machine = happens s.groups (shown_program p) (event_of f.key f.ran) x.machine in
          let z : Fires a b t (control_of_machine mid) = subst (λ (d : MachineControl). Fires a b t d) path y.1 in
          less_left a b content content (happens_on (shown_program a.program) (Fire t.context t.key) None (control_of_machine mid)) same z.made.stands
          (let first : suc (work (shown_program p) mid) ≡ work (shown_program p) x.machine = one in
          let second : suc (work (shown_program p) (happens s.groups (shown_program p) (Fire t.context t.key) mid)) ≡ work (shown_program p) mid =
          falls_one s p content _ _ mid reaches (Fire t.context t.key) tt (allows (Fire t.context t.key) (control_of_machine mid) z.made.allowed) in
          let now : work_in b content ≡ work (shown_program p) (happens s.groups (shown_program p) (Fire t.context t.key) mid) =
          work_behind mid (Fire t.context t.key) tt reaches.states (of_old (Fire t.context t.key) (control_of_machine mid) z.made.stands) in
          let was : work_in a content ≡ work (shown_program p) x.machine = before in
          omega arith)
