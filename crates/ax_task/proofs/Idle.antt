-- Where no request waits, nothing is out, no mail waits, no key may fire and no marker is to be sent, nothing is in flight.
use Rattle.std.proofs.Common.{◌≡◌, ◌<◌, ◌≤◌, ℕ, suc, ◌+◌, List, [], ◌∷◌, ◌++◌, length, length-append, get_or, false, not, Option, Some, None, refl, sym, ap, ap₂, ◌∙◌, subst, arith}
use Rattle.std.proofs.lemmas.Bool.{cond-true, cond-false}
use Rattle.std.specs.Str.{bytes_eq}
use Rattle.std.specs.List.{list_any}
use Rattle.ax_text.specs.declared.vocabulary.Request.{Request}
use Rattle.ax_text.specs.Controls.{Control, Done, Wait, Arms, slots, request_at}
use Rattle.ax_text.specs.Prints.{has}
use Rattle.ax_machine.specs.Entries.{Key, Entry}
use Rattle.ax_machine.specs.Events.{Event}
use Rattle.ax_lang.specs.declared.program.Program.{Program}
use Rattle.ax_lang.specs.Shown.{shown_program}
use Rattle.ax_buffer.specs.declared.items.Item.{Item}
use Rattle.ax_buffer.specs.Buffer.{total as total_of}
use Rattle.ax_mailbox.specs.declared.mail.Mail.{Mail}
use Rattle.ax_execution.specs.Contexts.{Running, Stage, Unbegun, Begun, Context, is_idle_with}
use Rattle.ax_execution.specs.Origins.{first}
use Rattle.ax_execution.specs.Machine.{Machine, Happening, Admit, Close, Fire, Start, Serve, Deliver, Send, IsAtRest, IsWork}
use Rattle.ax_execution.specs.Allowed.{StageUnbegun, StageAsks, StageHas, OfOwner, Allowed}
use Rattle.ax_execution.specs.MachineControls.{MachineControl, control_of_machine, in_flight_on}
use Rattle.ax_execution.specs.ControlsAllowed.{AllowedOn, FirstIsFinishedOn, NoneIsIdleOn}
use Rattle.ax_execution.specs.Rest.{silent}
use Rattle.ax_execution.specs.Reached.{IsOrderly, owed_to, owed_in}
use Rattle.ax_execution.proofs.ControlsAllowed.{allowed_to, flight_on}
use Rattle.ax_execution.proofs.Handlers.{Good, handles}
use Rattle.ax_execution.proofs.KeySums.{in_total}
use Rattle.ax_execution.proofs.Orderly.{never_stuck}
use Rattle.ax_execution.proofs.Outside.{rest_none}
use Rattle.ax_execution.proofs.Projected.{first_fits}
use Rattle.ax_execution.proofs.ReachedOrderly.{reached_orderly}
use Rattle.ax_execution.proofs.Upto.{by_cases}
use Rattle.ax_core.specs.declared.settings.Settings.{Settings}
use Rattle.ax_core.specs.declared.controller.Controller.{Controller}
use Rattle.ax_core.specs.May.{is_empty, has_mail}
use Rattle.ax_core.specs.Sound.{rules_of}
use Rattle.ax_core.specs.Events.{MayFireOn, names_in}
use Rattle.ax_core.proofs.Sends.{accepted}
use Rattle.ax_task.specs.Serving.{Content}
use Rattle.ax_task.specs.Shards.{held, out}
use Rattle.ax_task.specs.Refined.{content_over, Refines}
use Rattle.ax_task.specs.Engines.{Stands, IsReady, IsQuiet}
use Rattle.ax_task.specs.Exchanged.{NothingWaits}
use Rattle.ax_task.specs.declared.engine.Engine.{Engine}
use Rattle.ax_task.proofs.Refining.{reached_by}

-- a control without slots has no request and no answer

no_slots : (ss : List ℕ) → length ss ≡ 0 → ss ≡ []
no_slots [] h = refl
no_slots (s ∷ ss) h = absurd (omega (arith, h))

no_request : (t : Control) (slot : ℕ) (q : Request) → length (slots t) ≡ 0 → request_at t slot ≡ Some q → ⊥
no_request Done slot q h e = cc e
no_request (Wait s r n k) slot q h e = omega (arith, h)
no_request (Arms one two k) slot q h e =
    let both : length (slots one ++ slots two) ≡ length (slots one) + length (slots two) = length-append (slots one) (slots two) in
    by_cases (has slot (slots one))
    (λ x. no_request one slot q (omega (arith, h, both)) (sym (cond-true (has slot (slots one)) (request_at one slot) (request_at two slot) x) ∙ e))
    (λ x. no_request two slot q (omega (arith, h, both)) (sym (cond-false (has slot (slots one)) (request_at one slot) (request_at two slot) x) ∙ e))

none_some : {A : Type 0} {x : A} → None ≡ Some x → ⊥
none_some h = cc h

-- an owner that owes nothing has no callback to be run, and no request to be served

owes_start : (o : Option Context) → owed_to o ≡ 0 → OfOwner StageUnbegun o → ⊥
owes_start None h y = y
owes_start (Some c) h y = of c.stage h y
  where
    of : (st : Stage) → owed_to (Some (record { number = c.number; epoch = c.epoch; job = c.job; stage = st })) ≡ 0 → StageUnbegun st → ⊥
    of Unbegun h y = omega (arith, h)
    of (Begun r) h y = y

owes_serve : (slot : ℕ) (o : Option Context) → owed_to o ≡ 0 → OfOwner (StageAsks slot) o → ⊥
owes_serve slot None h y = y
owes_serve slot (Some c) h y = of c.stage h y
  where
    of : (st : Stage) → owed_to (Some (record { number = c.number; epoch = c.epoch; job = c.job; stage = st })) ≡ 0 → StageAsks slot st → ⊥
    of Unbegun h y = y
    of (Begun r) h y = no_request r.control slot y.0.0 h y.0.1

owes_reply : (slot : ℕ) (o : Option Context) → owed_to o ≡ 0 → ((c : Context) (r : Running) → o ≡ Some c → c.stage ≡ Begun r → has slot (slots r.control) ≡ false → r.answers slot ≡ None) → OfOwner (StageHas slot) o → ⊥
owes_reply slot None h none y = y
owes_reply slot (Some c) h none y = of c.stage refl h y
  where
    of : (st : Stage) → c.stage ≡ st → owed_to (Some (record { number = c.number; epoch = c.epoch; job = c.job; stage = st })) ≡ 0 → StageHas slot st → ⊥
    of Unbegun e h y = y
    of (Begun r) e h y = none_some (sym (none c r refl e (ap (has slot) (no_slots (slots r.control) h))) ∙ y.1)

module _ (s : Settings) (p : Program) (a : Controller) (content : Content) (out : ℕ → List Item) (read : List Event) (written : List Entry) (x : Refines s p a content out read written)
    (some : 0 < s.in_flight) (owed : owed_in (control_of_machine x.machine) ≡ 0) (fired : MayFireOn a (control_of_machine x.machine) → ⊥)
    (sent : FirstIsFinishedOn (control_of_machine x.machine).unsent (control_of_machine x.machine) → ⊥) where
  abbrev c : MachineControl
  c = control_of_machine x.machine

  orderly : IsOrderly (rules_of s) c
  orderly = reached_orderly (rules_of s) (shown_program p) c (accepted p) (reached_by s (shown_program p) content read written x.machine x.reaches)

  owes : (k : Key) → owed_to (c.controls k).owner ≡ 0
  owes k = by_cases (list_any (bytes_eq k) c.keys)
      (λ y. let most : owed_to (c.controls k).owner ≤ owed_in c = in_total c.keys (λ j. owed_to (c.controls j).owner) k y in omega (arith, most, owed))
      (λ y. ap owed_to (orderly.absent k y).owner)

  blocked : (e : Happening) → IsWork e → AllowedOn (rules_of s) e c → ⊥
  blocked (Admit n k time values) w h = w
  blocked (Close k) w h = w
  blocked (Fire n k) w h = fired (record { key = k; idle = h.1; room = subst (λ (t : Settings). in_flight_on c < t.in_flight) (sym x.settings) h.2 })
  blocked (Start k) w h = owes_start (c.controls k).owner (owes k) h.1
  blocked (Serve k slot) w h = owes_serve slot (c.controls k).owner (owes k) h.1
  blocked (Deliver k slot) w h = owes_reply slot (c.controls k).owner (owes k) (λ d r e f g. orderly.answers k d r slot e f g) h.1
  blocked Send w h = sent h.1

  pub idle_rests : IsAtRest x.machine
  idle_rests = subst IsAtRest (sym x.reaches.there)
      (never_stuck s.groups (shown_program p) Good (handles (shown_program p) (accepted p)) (first (shown_program p)) (first_fits (shown_program p)) (rules_of s) x.reaches.events x.reaches.run some
      (λ e w h. blocked e w (allowed_to (rules_of s) e x.machine (subst (Allowed (rules_of s) e) (sym x.reaches.there) h))))

-- what the engine has of it

none_in_all : {X : Type 0} (xs : List (List X)) → ((i : ℕ) → i < length xs → get_or xs i [] ≡ []) → total_of length xs ≡ 0
none_in_all [] h = refl
none_in_all (x ∷ xs) h =
    let here : length x ≡ 0 = ap length (h 0 (omega arith)) in
    let rest : total_of length xs ≡ 0 = none_in_all xs (λ i l. h (suc i) (omega (arith, l))) in
    omega (arith, here, rest)

no_mails : (ms : List Mail) → not (is_empty ms) ≡ false → length ms ≡ 0
no_mails [] h = refl
no_mails (m ∷ ms) h = absurd (cc h)

module _ (e : Engine) (r : IsReady e) (waits : NothingWaits e) (quiet : IsQuiet e.core) (mails : has_mail e.core ≡ false) where
  abbrev x : Stands r.settings r.program e r.read r.written
  x = r.stands

  abbrev m : Machine
  m = r.stands.refines.machine

  same_settings : e.settings ≡ e.core.settings
  same_settings = x.settings ∙ sym x.refines.settings

  nothing_owed : owed_in (control_of_machine m) ≡ 0
  nothing_owed =
      let queues : total_of length e.core.buffer.queues ≡ 0 =
      none_in_all e.core.buffer.queues (λ i l. waits.queues i (subst (λ (n : ℕ). i < n) (x.sound.flow.shards.0 ∙ sym (ap (λ (t : Settings). t.shards) same_settings)) l)) in
      let outs : total_of length e.core.outs.items ≡ 0 = none_in_all e.core.outs.items (λ i l. x.refines.names i ∙ ap names_in (waits.home i)) in
      let none : length e.core.mails.mails ≡ 0 = no_mails e.core.mails.mails mails in
      omega (arith, x.refines.stands.stands.way, queues, outs, none)

  rest : IsAtRest m
  rest = idle_rests r.settings r.program e.core (content_over r.settings (held e.shards)) (out e.shards) r.read r.written x.refines x.some nothing_owed
      (quiet.fires (control_of_machine m) x.refines.stands) (quiet.sends (control_of_machine m) x.refines.stands)

  pub none_in_flight : in_flight_on (control_of_machine m) ≡ 0
  none_in_flight = flight_on m ∙ (rest_none m rest).0

  pub none_unsent : (control_of_machine m).unsent ≡ []
  none_unsent = (rest_none m rest).1

  pub none_idle : NoneIsIdleOn (control_of_machine m)
  none_idle k = ap₂ is_idle_with (ap silent (rest.owners k)) (rest.waiting k)
