-- What the sums, the epochs and the keys are behind a callback of a key's owner.
use Rattle.std.proofs.Common.{◌≡◌, ℕ, ◌+◌, ◌<◌, ◌≤◌, ℤ, Bool, true, false, cond, List, [], ◌∷◌, map, length, Option, Some, None, refl, sym, ap, ◌∙◌, subst, arith}
use Rattle.std.specs.Str.{bytes_eq}
use Rattle.std.specs.List.{list_any}
use Rattle.std.proofs.lemmas.Bool.{cond-true, cond-false}
use Rattle.ax_text.specs.Controls.{Turn, slots, is_done}
use Rattle.ax_text.specs.Programs.{program_width}
use Rattle.ax_text.specs.Run.{times_after}
use Rattle.ax_text.proofs.Wide.{slots_wide}
use Rattle.ax_lang.specs.Shown.{shown_program, shown_kinds}
use Rattle.ax_lang.proofs.ProgramLemmas.{few_wide}
use Rattle.ax_future.specs.declared.callback.Turn.{Turn as CodeTurn}
use Rattle.ax_future.specs.declared.machine.Machine.{Machine}
use Rattle.ax_future.specs.Machines as machine
use Rattle.ax_machine.specs.Entries.{Key}
use Rattle.ax_context.specs.declared.id.Id.{Id}
use Rattle.ax_context.specs.declared.contexts.Context.{Context as Held}
use Rattle.ax_context.specs.Slots.{Slots, at, OthersStay}
use Rattle.ax_account.specs.Parts.{Part, taken_up}
use Rattle.ax_account.specs.Accounts.{Accounts, total, part_of, waiting_of, Changes}
use Rattle.ax_mailbox.specs.declared.mail.Mail.{Mail}
use Rattle.ax_time.specs.declared.timer.Timer.{Timer}
use Rattle.ax_time.specs.Epochs.{Fits64}
use Rattle.ax_time.specs.Timers.{times_of, PutsTimes}
use Rattle.ax_execution.specs.Contexts.{Begun, Context, Waiting, Row, Mark, owners, rows_in, may_fire}
use Rattle.ax_execution.specs.Counts.{one_at, row_of_epoch, owner_of_epoch, waiting_of_epoch}
use Rattle.ax_execution.specs.ControlChanges.{marks_off}
use Rattle.ax_execution.specs.KeyControls.{KeyControl}
use Rattle.ax_execution.specs.Machine.{Happening}
use Rattle.ax_execution.specs.Turns.{staged}
use Rattle.ax_execution.specs.ControlTurns.{contexts_on, handed_on, paused, called_back_on}
use Rattle.ax_execution.specs.MachineControls.{MachineControl, control_at, must_fire_on, calls_back_on, in_flight_on, control_of_epoch, epoch_count_on}
use Rattle.ax_execution.specs.Reached.{IsOpenEpoch, OwnerOpen, IsOrderly, owed_to, owed_in}
use Rattle.ax_execution.proofs.SingleKeys.{keyed, flight_goes_on, owed_goes_on, epoch_goes_on}
use Rattle.ax_execution.proofs.Upto.{by_cases}
use Rattle.ax_core.specs.declared.record.Record.{Record}
use Rattle.ax_core.specs.declared.controller.Controller.{Controller}
use Rattle.ax_core.specs.Contexts.{wrapped, IsContext, ContextStands}
use Rattle.ax_core.specs.Keys.{ItemsStand, PartStands}
use Rattle.ax_core.specs.Epochs.{EpochsStand}
use Rattle.ax_core.specs.Sound.{rules_of, StandsFor}
use Rattle.ax_core.specs.Callbacks.{with_machine, behind_marks, ended, all_left, AllMayLeave, row_epochs}
use Rattle.ax_core.specs.Calls.{MayEnd}
use Rattle.ax_core.proofs.Fronts.{behind_mail}
use Rattle.ax_core.proofs.CallLemmas.{is_gone, is_live, held_on}
use Rattle.ax_core.proofs.Called.{Calls}
use Rattle.ax_core.proofs.EventLemmas.{no_row_numbered, own_items, keys_called}
use Rattle.ax_core.proofs.HandLemmas.{ends_gone, ends_live, ended_on, how_many, marks_counted, ended_as}
use Rattle.ax_core.proofs.LeaveLemmas.{ended_open, epochs_called}

-- ---- a key that is handed over

module _ (times : List ℤ) where
  handed_contexts : (ws : List Waiting) → contexts_on (handed_on ws times) ≡ rows_in ws
  handed_contexts [] = refl
  handed_contexts (Row n e f ∷ ws) = refl
  handed_contexts (Mark e w more ∷ ws) = of (may_fire w more times) (handed_contexts ws)
    where
      of : (b : Bool) → contexts_on (handed_on ws times) ≡ rows_in ws → contexts_on (cond b (keyed None (Mark e w more ∷ ws) times) (handed_on ws times)) ≡ rows_in ws
      of true h = omega arith
      of false h = h

  -- a row that owns it hasn't begun
  handed_owed : (ws : List Waiting) → owed_to (handed_on ws times).owner ≡ owners (handed_on ws times).owner
  handed_owed [] = refl
  handed_owed (Row n e f ∷ ws) = refl
  handed_owed (Mark e w more ∷ ws) = of (may_fire w more times) (handed_owed ws)
    where
      of : (b : Bool) → owed_to (handed_on ws times).owner ≡ owners (handed_on ws times).owner
          → owed_to (cond b (keyed None (Mark e w more ∷ ws) times) (handed_on ws times)).owner ≡ owners (cond b (keyed None (Mark e w more ∷ ws) times) (handed_on ws times)).owner
      of true h = refl
      of false h = h

  handed_epoch : (u : ℕ) (ws : List Waiting) → control_of_epoch u (handed_on ws times) + marks_off u ws times ≡ waiting_of_epoch u ws
  handed_epoch u [] = refl
  handed_epoch u (Row n e f ∷ ws) = omega arith
  handed_epoch u (Mark e w more ∷ ws) = of (may_fire w more times) (handed_epoch u ws)
    where
      of : (b : Bool) → control_of_epoch u (handed_on ws times) + marks_off u ws times ≡ waiting_of_epoch u ws
          → control_of_epoch u (cond b (keyed None (Mark e w more ∷ ws) times) (handed_on ws times)) + cond b 0 (one_at u e + marks_off u ws times) ≡ one_at u e + waiting_of_epoch u ws
      of true h = omega arith
      of false h = omega arith

none_some : {X : Type 0} {x : X} → None ≡ Some x → ⊥
none_some e = cc e

module _ (a : Controller) (m : MachineControl) (ns : List Mail) (id : Id) (h : Held Record) (after : Machine) (t : CodeTurn) (e : Happening) (c : Calls a m ns id h after t e)
    (x : StandsFor a m) (orderly : IsOrderly (rules_of a.settings) m) where
  abbrev key : Key
  key = h.payload.facts.key

  -- the timers of the key, and its control, behind the callback
  abbrev pub times_behind : List ℤ
  times_behind = times_after t.timer_ops (times_of a.timers key)

  abbrev pub control_behind : KeyControl
  control_behind = called_back_on c.context c.turn c.answers (m.controls key).waiting times_behind

  abbrev pub call_behind : MachineControl
  call_behind = calls_back_on key control_behind m

  known : list_any (bytes_eq key) m.keys ≡ true
  known = by_cases (list_any (bytes_eq key) m.keys) (λ y. y) (λ y. absurd (none_some (sym (orderly.absent key y).owner ∙ c.owner)))

  slots_behind : length (slots c.turn.control) ≡ length (slots (machine.control_of a.program after))
  slots_behind = ap (λ (y : Turn). length (slots y.control)) c.left

  -- whether the handler has ended, by the references that are left
  pub ends_where : h.count + length t.asks ≡ 1 → is_done c.turn.control ≡ true
  ends_where one =
      ap (λ (y : Turn). is_done y.control) c.left
      ∙ is_gone (program_width (shown_program a.program)) (shown_kinds a.program) (machine.control_of a.program after) c.sound (sym c.count ∙ one)

  pub waits_where : 1 < h.count + length t.asks → is_done c.turn.control ≡ false
  waits_where more =
      ap (λ (y : Turn). is_done y.control) c.left
      ∙ is_live (program_width (shown_program a.program)) (shown_kinds a.program) (machine.control_of a.program after) c.sound (subst (λ (n : ℕ). 1 < n) c.count more)

  was_contexts : contexts_on (m.controls key) ≡ 1 + rows_in (m.controls key).waiting
  was_contexts = ap (λ (o : Option Context). owners o + rows_in (m.controls key).waiting) c.owner

  was_owed : owed_to (m.controls key).owner ≡ h.count
  was_owed = ap owed_to c.owner ∙ sym c.stands.count

  was_epoch : (u : ℕ) → control_of_epoch u (m.controls key) ≡ row_of_epoch u c.context.job.handler c.context.epoch + waiting_of_epoch u (m.controls key).waiting
  was_epoch u = ap (λ (o : Option Context). owner_of_epoch u o + waiting_of_epoch u (m.controls key).waiting) c.owner

  flight_goes : in_flight_on call_behind + contexts_on (m.controls key) ≡ in_flight_on m + contexts_on control_behind
  flight_goes = flight_goes_on m orderly.rise key known (must_fire_on key control_behind) control_behind

  owed_goes : owed_in call_behind + owed_to (m.controls key).owner ≡ owed_in m + owed_to control_behind.owner
  owed_goes = owed_goes_on m orderly.rise key known (must_fire_on key control_behind) control_behind

  epoch_goes : (u : ℕ) → epoch_count_on u call_behind + control_of_epoch u (m.controls key) ≡ epoch_count_on u m + control_of_epoch u control_behind
  epoch_goes u = epoch_goes_on m orderly.rise key known (must_fire_on key control_behind) control_behind u

  -- the rows that wait behind the owner stay
  module _ (s : Slots Record) (others : OthersStay a.contexts s id) where
    own_there : ContextStands a.program a.mails.mails key id (at a.contexts id) c.context
    own_there = subst (λ (o : Option (Held Record)). ContextStands a.program a.mails.mails key id o c.context) (sym c.here) c.stands

    items_there : ItemsStand a.program ns s key (waiting_of a.accounts key) (m.controls key).waiting
    items_there = own_items a.program a.mails.mails ns a.contexts s id key c.context own_there others c.others (waiting_of a.accounts key) (m.controls key).waiting
        (no_row_numbered m key c.context orderly.numbers known c.owner) (x.stands.keys key).items

    keys_there : (b : Accounts) (us : List Timer) (part : Part) → Changes a.accounts b key part → PutsTimes a.timers us key times_behind → PartStands a.program ns s key part times_behind control_behind
        → (q : Key) → PartStands a.program ns s q (part_of b q) (times_of us q) (control_at m.controls key control_behind q)
    keys_there b us part changes puts there = keys_called a.program a.mails.mails ns a.contexts s id key c.context own_there others c.others a.accounts b a.timers us times_behind part control_behind m.controls
        changes puts there x.stands.keys

  -- ---- the handler waits on

  module _ (waits : is_done c.turn.control ≡ false) where
    pub control_waits : control_behind ≡ keyed (Some (staged c.context (Begun (paused c.turn c.answers)))) (m.controls key).waiting times_behind
    control_waits = cond-false (is_done c.turn.control) (handed_on (m.controls key).waiting times_behind) (keyed (Some (staged c.context (Begun (paused c.turn c.answers)))) (m.controls key).waiting times_behind) waits

    pub flight_waits : in_flight_on call_behind ≡ in_flight_on m
    flight_waits =
        let now : contexts_on control_behind ≡ 1 + rows_in (m.controls key).waiting = ap contexts_on control_waits in
        omega (arith, flight_goes, was_contexts, now)

    pub owed_waits : owed_in call_behind + 1 ≡ owed_in m + length t.asks
    owed_waits =
        let now : owed_to control_behind.owner ≡ length (slots c.turn.control) = ap (λ (q : KeyControl). owed_to q.owner) control_waits in
        omega (arith, owed_goes, was_owed, now, slots_behind, c.count)

    pub epoch_waits : (u : ℕ) → epoch_count_on u call_behind ≡ epoch_count_on u m
    epoch_waits u =
        let now : control_of_epoch u control_behind ≡ row_of_epoch u c.context.job.handler c.context.epoch + waiting_of_epoch u (m.controls key).waiting = ap (control_of_epoch u) control_waits in
        omega (arith, epoch_goes u, was_epoch u, now)

    -- where the context is held with its new machine and what is left of its references
    pub keys_wait : (s : Slots Record) (us : List Timer) (g : Held Record) → OthersStay a.contexts s id → PutsTimes a.timers us key times_behind → at s id ≡ Some g
        → g.payload ≡ with_machine h.payload after → g.number ≡ h.number → g.epoch ≡ h.epoch → g.count + 1 ≡ h.count + length t.asks
        → (q : Key) → PartStands a.program ns s q (part_of a.accounts q) (times_of us q) (control_at m.controls key control_behind q)
    keys_wait s us g others puts there payload number epoch count =
        let refs : g.count ≡ length (slots (machine.control_of a.program after)) = omega (arith, count, c.count) in
        let held : IsContext a.program ns key id g (staged c.context (Begun (paused c.turn c.answers))) =
        held_on a.program a.mails.mails ns key id h g c.context c.turn c.answers after t c.stands c.left c.sound payload number epoch refs c.given in
        let part : Part = record { owner = Some id; waiting = waiting_of a.accounts key } in
        let stays : part_of a.accounts key ≡ part = ap (λ (o : Option Id). record { owner = o; waiting = waiting_of a.accounts key }) c.owns in
        keys_there s others a.accounts us part
        (record { own = stays; others = λ q differ. refl; totals = λ f none. ap (λ (y : Part). total f a.accounts + f y) stays })
        puts
        (ends_live a.program ns s key times_behind id c.context c.turn c.answers (waiting_of a.accounts key) (m.controls key).waiting waits
        (subst (λ (o : Option (Held Record)). ContextStands a.program ns key id o (staged c.context (Begun (paused c.turn c.answers)))) (sym there) held) (items_there s others))

  -- ---- the handler has ended

  module _ (done : is_done c.turn.control ≡ true) where
    pub control_ends : control_behind ≡ handed_on (m.controls key).waiting times_behind
    control_ends = cond-true (is_done c.turn.control) (handed_on (m.controls key).waiting times_behind) (keyed (Some (staged c.context (Begun (paused c.turn c.answers)))) (m.controls key).waiting times_behind) done

    pub flight_ends : in_flight_on call_behind + 1 ≡ in_flight_on m
    flight_ends =
        let now : contexts_on control_behind ≡ rows_in (m.controls key).waiting = ap contexts_on control_ends ∙ handed_contexts times_behind (m.controls key).waiting in
        omega (arith, flight_goes, was_contexts, now)

    pub owed_ends : h.count + length t.asks ≡ 1 → owed_in call_behind + 1 ≡ owed_in m + (length t.asks + owners (handed_on (m.controls key).waiting times_behind).owner)
    owed_ends last =
        let now : owed_to control_behind.owner ≡ owners (handed_on (m.controls key).waiting times_behind).owner = ap (λ (q : KeyControl). owed_to q.owner) control_ends ∙ handed_owed times_behind (m.controls key).waiting in
        omega (arith, owed_goes, was_owed, now, last)

    pub epoch_ends : (u : ℕ) → epoch_count_on u call_behind + (row_of_epoch u c.context.job.handler c.context.epoch + how_many u (ended_on times_behind (m.controls key).waiting)) ≡ epoch_count_on u m
    epoch_ends u =
        let now : control_of_epoch u control_behind ≡ control_of_epoch u (handed_on (m.controls key).waiting times_behind) = ap (control_of_epoch u) control_ends in
        omega (arith, epoch_goes u, was_epoch u, now, handed_epoch times_behind u (m.controls key).waiting, marks_counted u times_behind (m.controls key).waiting)

    pub keys_end : (s : Slots Record) (us : List Timer) (b : Accounts) → OthersStay a.contexts s id → PutsTimes a.timers us key times_behind
        → Changes a.accounts b key (taken_up (behind_marks times_behind (waiting_of a.accounts key)))
        → (q : Key) → PartStands a.program ns s q (part_of b q) (times_of us q) (control_at m.controls key control_behind q)
    keys_end s us b others puts changes = keys_there s others b us (taken_up (behind_marks times_behind (waiting_of a.accounts key))) changes puts
        (ends_gone a.program ns s key times_behind id c.context c.turn c.answers (waiting_of a.accounts key) (m.controls key).waiting done (items_there s others))

    -- the row leaves its epoch, and the marks that are taken off leave theirs
    abbrev Leave : List ℕ → List ℕ → Type 0
    Leave rows marks = EpochsStand (all_left marks (all_left rows a.epochs)) a.barrier call_behind × (AllMayLeave rows a.epochs × AllMayLeave marks (all_left rows a.epochs))

    owner_open : IsOpenEpoch m c.context.epoch
    owner_open = subst (λ (o : Option Context). OwnerOpen m o) c.owner (orderly.owners key)

    rows_left : row_epochs c.context.job.handler (wrapped c.context.epoch) ≡ row_epochs h.payload.handler h.epoch
    rows_left = (λ i. row_epochs (sym c.stands.job.handler i) (sym c.stands.epoch i))

    marks_left : map wrapped (ended_on times_behind (m.controls key).waiting) ≡ ended times_behind (waiting_of a.accounts key)
    marks_left = sym (ended_as a.program a.mails.mails a.contexts key times_behind (waiting_of a.accounts key) (m.controls key).waiting (x.stands.keys key).items)

    pub epochs_end : Fits64 a.epochs → Leave (row_epochs h.payload.handler h.epoch) (ended times_behind (waiting_of a.accounts key))
    epochs_end fits =
        let all : Leave (row_epochs c.context.job.handler (wrapped c.context.epoch)) (map wrapped (ended_on times_behind (m.controls key).waiting)) =
        epochs_called a.epochs a.barrier m call_behind c.context.job.handler c.context.epoch (ended_on times_behind (m.controls key).waiting) fits x.stands.epochs refl refl owner_open
        (ended_open m times_behind (m.controls key).waiting (orderly.waiting key)) epoch_ends in
        subst (λ (rows : List ℕ). Leave rows (ended times_behind (waiting_of a.accounts key))) rows_left
        (subst (λ (marks : List ℕ). Leave (row_epochs c.context.job.handler (wrapped c.context.epoch)) marks) marks_left all)

  -- ---- the end of the callback may come

  few_left : h.count + length t.asks ≤ 17
  few_left =
      let wide : length (slots (machine.control_of a.program after)) ≤ program_width (shown_program a.program) = slots_wide (program_width (shown_program a.program)) (machine.control_of a.program after) c.sound.wide in
      omega (arith, wide, few_wide a.program, c.count)

  pub may_end : (s : Slots Record) → Fits64 a.epochs → MayEnd (record (behind_mail a ns) { contexts = s }) id t (record h { payload = with_machine h.payload after })
  may_end s fits = record {
    few = few_left;
    owner = c.owns;
    left = λ last. (epochs_end (ends_where last) fits).1;
  }
