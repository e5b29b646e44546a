-- A callback of the context that owns a key, as an event of the control.
use Rattle.std.proofs.Common.{◌≡◌, ◌≢◌, ℕ, ◌+◌, nat_eq, true, false, List, ◌∷◌, length, Option, Some, None, refl, sym, ap, ◌∙◌}
use Rattle.std.proofs.lemmas.Bool.{eq-eqb}
use Rattle.ax_text.specs.declared.vocabulary.Answer.{Answer}
use Rattle.ax_text.specs.Controls.{Answers, Turn, slots, is_done}
use Rattle.ax_text.specs.Functions.{upd}
use Rattle.ax_text.specs.Run.{times_after}
use Rattle.ax_text.specs.Silent.{unanswered}
use Rattle.ax_lang.specs.Shown.{shown_program}
use Rattle.ax_future.specs.declared.callback.Turn.{Turn as CodeTurn}
use Rattle.ax_future.specs.declared.machine.Machine.{Machine}
use Rattle.ax_future.specs.Machines as machine
use Rattle.ax_machine.specs.Entries.{Key, says}
use Rattle.ax_context.specs.declared.id.Id.{Id}
use Rattle.ax_context.specs.declared.contexts.Context.{Context as Held}
use Rattle.ax_context.specs.Slots.{Slots, at}
use Rattle.ax_account.specs.Accounts.{owner_of}
use Rattle.ax_mailbox.specs.declared.mail.Mail.{Mail}
use Rattle.ax_mailbox.specs.declared.mail.Mail.TheVariants as mail
use Rattle.ax_time.specs.Timers.{times_of}
use Rattle.ax_execution.specs.Contexts.{Stage, Unbegun, Begun, Context}
use Rattle.ax_execution.specs.Counts.{references}
use Rattle.ax_execution.specs.Turns.{Effects, begins, gives}
use Rattle.ax_execution.specs.ControlTurns.{called_back_on}
use Rattle.ax_execution.specs.KeyControls.{KeyControl}
use Rattle.ax_execution.specs.Machine.{Happening, Start, Deliver}
use Rattle.ax_execution.specs.MachineControls.{MachineControl, calls_back_on, happens_on, outcome_on}
use Rattle.ax_execution.specs.ControlsAllowed.{AllowedOn, IsAnswered}
use Rattle.ax_execution.proofs.Upto.{by_cases}
use Rattle.ax_core.specs.declared.record.Record.{Record}
use Rattle.ax_core.specs.declared.controller.Controller.{Controller}
use Rattle.ax_core.specs.Contexts.{same_id, answer_in, StageStands, IsContext}
use Rattle.ax_core.specs.Flow.{IsFlow}
use Rattle.ax_core.specs.Sound.{rules_of, StandsFor}
use Rattle.ax_core.specs.Callbacks.{with_machine, Resumed, ResumedAt, HasBegun, HasResumed}
use Rattle.ax_core.proofs.Flows.{same_self, same_is}
use Rattle.ax_core.proofs.Fronts.{HeldAs, held_as, IsStartOf, start_answers, IsToStart, is_to_start_there, start_unanswered, IsToGive, is_to_give_there}
use Rattle.ax_core.proofs.Owners.{RunsAt, runs_at}
use Rattle.ax_core.proofs.CallLemmas.{turn_begins, turn_gives, begun_references, given_references, none_answers, given_answers, answer_given, others_answered}
use Rattle.ax_core.proofs.CalledLemmas.{start_is, starts_are, may_start, deliver_is, gives_are, may_deliver}

-- the context of an id owns its key, the callback that left `after` and the turn t is the event e of its key, and ns are the mails behind the one that was taken
pub record Calls (a : Controller) (m : MachineControl) (ns : List Mail) (id : Id) (h : Held Record) (after : Machine) (t : CodeTurn) (e : Happening) : Type 0 where
  pub here : at a.contexts id ≡ Some h
  pub owns : owner_of a.accounts h.payload.facts.key ≡ Some id
  pub context : Context
  pub owner : (m.controls h.payload.facts.key).owner ≡ Some context
  pub stands : IsContext a.program a.mails.mails h.payload.facts.key id h context
  pub allowed : AllowedOn (rules_of a.settings) e m
  pub answered : IsAnswered e None
  pub turn : Turn
  pub answers : Answers
  pub left : turn ≡ machine.left_by a.program after t
  pub sound : machine.IsSound a.program after
  -- what happens, and what it does besides
  pub goes : happens_on (shown_program a.program) e None m ≡ calls_back_on h.payload.facts.key
      (called_back_on context turn answers (m.controls h.payload.facts.key).waiting (times_after t.timer_ops (times_of a.timers h.payload.facts.key))) m
  pub lines : (outcome_on (shown_program a.program) e m).lines ≡ says h.payload.facts.key turn.talk.lines
  pub asks : (outcome_on (shown_program a.program) e m).asks ≡ turn.asks
  pub gone : (outcome_on (shown_program a.program) e m).gone ≡ is_done turn.control
  -- each request that waits behind it, and the one reference that is given up
  pub count : h.count + length t.asks ≡ 1 + length (slots (machine.control_of a.program after))
  -- the answers behind it
  pub given : (slot : ℕ) → answer_in ns id slot ≡ answers slot
  pub others : (i : Id) → i ≢ id → (slot : ℕ) → answer_in ns i slot ≡ answer_in a.mails.mails i slot

none_some : {X : Type 0} {x : X} → None ≡ Some x → ⊥
none_some e = cc e

pub others_differ : (id i : Id) → i ≢ id → same_id id i ≡ false
others_differ id i differ = by_cases (same_id id i) (λ x. absurd (differ (sym (same_is id i x)))) (λ x. x)

-- ---- a handler begins

pub is_unbegun : (a : Controller) (id : Id) (o : Option Machine) (stage : Stage) → o ≡ None → StageStands a.program a.mails.mails id o stage → stage ≡ Unbegun
is_unbegun a id None Unbegun e y = refl
is_unbegun a id None (Begun r) e y = absurd y
is_unbegun a id (Some code) stage e y = absurd (none_some (sym e))

pub calls_start : (a : Controller) (m : MachineControl) (first : Mail) (ns : List Mail) (id : Id) (h : Held Record) (s : Slots Record) (t : CodeTurn) → IsFlow a → StandsFor a m → a.mails.mails ≡ first ∷ ns → IsStartOf id first
    → at a.contexts id ≡ Some h → (b : HasBegun a.program a.contexts s id h t) → Calls a m ns id h b.begins.after t (Start h.payload.facts.key)
calls_start a m first ns id h s t flow x taken starts here b =
    let key : Key = h.payload.facts.key in
    let it : IsToStart a ns id h = is_to_start_there a first ns id h flow taken starts here in
    let own : HeldAs a.program a.mails.mails h.payload.facts.key id h (m.controls h.payload.facts.key).owner =
    held_as a.program a.mails.mails a.contexts h.payload.facts.key id h here (owner_of a.accounts h.payload.facts.key) (m.controls h.payload.facts.key).owner it.owns (x.stands.keys h.payload.facts.key).owner in
    let stage : own.context.stage ≡ Unbegun = is_unbegun a id h.payload.machine own.context.stage it.unbegun own.stands.stage in
    let left : begins (shown_program a.program) own.context.job ≡ machine.left_by a.program b.begins.after t =
    turn_begins a.program h.payload.facts.key h.payload b.payload t own.context.job own.stands.job b.begins in
    let one : h.count ≡ 1 = own.stands.count ∙ ap references stage in
    let more : 1 + length t.asks ≡ 1 + length (slots (machine.control_of a.program b.begins.after)) = begun_references a.program h.payload b.payload t b.begins in
    record {
      here = here;
      owns = it.owns;
      context = own.context;
      owner = own.owner;
      stands = own.stands;
      allowed = (x.settled, may_start (m.controls key) own.context own.owner stage);
      answered = tt;
      turn = begins (shown_program a.program) own.context.job;
      answers = unanswered;
      left = left;
      sound = b.begins.sound;
      goes = ap (λ (q : KeyControl). calls_back_on key q m) (start_is (m.controls key) own.context own.owner (shown_program a.program) stage
          ∙ (λ i. called_back_on own.context (begins (shown_program a.program) own.context.job) unanswered (m.controls key).waiting
          (times_after (left i).talk.ops (sym (x.stands.keys key).times i))));
      lines = ap (λ (y : Effects). says key y.lines) (starts_are (m.controls key) own.context own.owner (shown_program a.program) stage);
      asks = ap (λ (y : Effects). y.asks) (starts_are (m.controls key) own.context own.owner (shown_program a.program) stage);
      gone = ap (λ (y : Effects). y.gone) (starts_are (m.controls key) own.context own.owner (shown_program a.program) stage);
      count = ap (λ (n : ℕ). n + length t.asks) one ∙ more;
      given = λ slot. none_answers ns id slot (start_unanswered a first ns id h flow taken starts here it.unbegun slot);
      others = λ i differ slot. start_answers id first ns starts i slot ∙ sym (ap (λ (ms : List Mail). answer_in ms i slot) taken);
    }

-- ---- a handler is given an answer

same_slot : (slot : ℕ) → nat_eq slot slot ≡ true
same_slot slot = eq-eqb slot slot refl

module _ (a : Controller) (m : MachineControl) (ns : List Mail) (id : Id) (slot : ℕ) (answer : Answer) (h : Held Record) (next : Record) (t : CodeTurn)
    (flow : IsFlow a) (x : StandsFor a m) (taken : a.mails.mails ≡ mail.Reply id slot answer ∷ ns) (here : at a.contexts id ≡ Some h) where
  pub calls_given : (code : Machine) → h.payload.machine ≡ Some code → (g : Resumed a.program h.payload next code slot answer t) → Calls a m ns id h g.after t (Deliver h.payload.facts.key slot)
  calls_given code begun g =
      let key : Key = h.payload.facts.key in
      let it : IsToGive a ns id slot h code = is_to_give_there a ns id slot answer h code flow taken here begun in
      let runs : RunsAt a.program a.mails.mails key id h code (m.controls key).owner =
      runs_at a.program a.mails.mails a.contexts key id h code begun (owner_of a.accounts key) (m.controls key).owner it.owns here (x.stands.keys key).owner in
      let before : (s : ℕ) → answer_in (mail.Reply id slot answer ∷ ns) id s ≡ runs.running.answers s = λ s. sym (ap (λ (ms : List Mail). answer_in ms id s) taken) ∙ runs.runs.answers s in
      let there : runs.running.answers slot ≡ Some answer = answer_given ns id slot answer runs.running.answers (same_self id) (same_slot slot) before in
      let left : gives runs.context.job runs.running slot answer ≡ machine.left_by a.program g.after t =
      turn_gives a.program key a.mails.mails id h.payload next code slot answer t runs.context.job runs.running runs.stands.job runs.runs g in
      let was : h.count ≡ length (slots (machine.control_of a.program code)) = runs.stands.count ∙ ap references runs.stage ∙ sym (λ i. length (slots (runs.runs.control i))) in
      let more : length (slots (machine.control_of a.program code)) + length t.asks ≡ 1 + length (slots (machine.control_of a.program g.after)) =
      given_references a.program h.payload next code slot answer t g it.waits in
      record {
        here = here;
        owns = it.owns;
        context = runs.context;
        owner = runs.owner;
        stands = runs.stands;
        allowed = (x.settled, may_deliver (m.controls key) runs.context runs.owner runs.running slot answer runs.stage there);
        answered = tt;
        turn = gives runs.context.job runs.running slot answer;
        answers = upd runs.running.answers slot None;
        left = left;
        sound = g.sound;
        goes = ap (λ (q : KeyControl). calls_back_on key q m) (deliver_is (m.controls key) runs.context runs.owner runs.running slot answer runs.stage there
            ∙ (λ i. called_back_on runs.context (gives runs.context.job runs.running slot answer) (upd runs.running.answers slot None) (m.controls key).waiting
            (times_after (left i).talk.ops (sym (x.stands.keys key).times i))));
        lines = ap (λ (y : Effects). says key y.lines) (gives_are (m.controls key) runs.context runs.owner runs.running slot answer runs.stage there);
        asks = ap (λ (y : Effects). y.asks) (gives_are (m.controls key) runs.context runs.owner runs.running slot answer runs.stage there);
        gone = ap (λ (y : Effects). y.gone) (gives_are (m.controls key) runs.context runs.owner runs.running slot answer runs.stage there);
        count = ap (λ (n : ℕ). n + length t.asks) was ∙ more;
        given = given_answers ns id slot answer runs.running.answers (same_self id) before it.once;
        others = λ i differ s. sym (others_answered ns id i slot s answer (others_differ id i differ)) ∙ sym (ap (λ (ms : List Mail). answer_in ms i s) taken);
      }

-- the machine behind the answer, and the callback
pub record CallsBy (a : Controller) (m : MachineControl) (ns : List Mail) (id : Id) (h : Held Record) (next : Record) (t : CodeTurn) (e : Happening) : Type 0 where
  pub after : Machine
  pub payload : next ≡ with_machine h.payload after
  pub calls : Calls a m ns id h after t e

pub calls_reply : (a : Controller) (m : MachineControl) (ns : List Mail) (id : Id) (slot : ℕ) (answer : Answer) (h : Held Record) (s : Slots Record) (t : CodeTurn) → IsFlow a → StandsFor a m
    → a.mails.mails ≡ mail.Reply id slot answer ∷ ns → at a.contexts id ≡ Some h → (b : HasResumed a.program a.contexts s id h slot answer t) → CallsBy a m ns id h b.payload t (Deliver h.payload.facts.key slot)
calls_reply a m ns id slot answer h s t flow x taken here b = of h.payload.machine refl b.resumed
  where
    of : (o : Option Machine) → h.payload.machine ≡ o → ResumedAt a.program h.payload b.payload o slot answer t → CallsBy a m ns id h b.payload t (Deliver h.payload.facts.key slot)
    of None e r = absurd r
    of (Some code) e r = record { after = r.after; payload = r.there; calls = calls_given a m ns id slot answer h b.payload t flow x taken here code e r }
