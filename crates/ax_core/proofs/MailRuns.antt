-- A mail that was run: the controller is sound behind it, and its callback is told.
use Rattle.std.proofs.Common.{◌≡◌, ◌∷◌, ℕ, Option, Some, None, Result, Ok, Err, IfOk, OnOk, sym, ap, ◌∙◌, subst}
use Rattle.ax_base.specs.declared.outside.NoMemory.{NoMemory}
use Rattle.ax_text.specs.declared.vocabulary.Answer.{Answer}
use Rattle.ax_lang.specs.Shown.{shown_program}
use Rattle.ax_context.specs.declared.id.Id.{Id}
use Rattle.ax_context.specs.Slots.{Has}
use Rattle.ax_mailbox.specs.declared.mail.Mail.{Mail}
use Rattle.ax_mailbox.specs.declared.mail.Mail.TheVariants as mail
use Rattle.ax_mailbox.specs.Queue.{Queue}
use Rattle.ax_time.specs.Epochs.{Fits64}
use Rattle.ax_execution.specs.Accepted.{AreAccepted}
use Rattle.ax_execution.specs.Machine.{Fire}
use Rattle.ax_execution.specs.MachineControls.{MachineControl, happens_on}
use Rattle.ax_core.specs.declared.effects.Fired.{Fired}
use Rattle.ax_core.specs.declared.effects.Effects.{Effects}
use Rattle.ax_core.specs.declared.effects.Ran.TheVariants as ran
use Rattle.ax_core.specs.declared.controller.Controller.{Controller}
use Rattle.ax_core.specs.Sound.{InRange, StandsFor, IsSound}
use Rattle.ax_core.specs.Events.{SameRules, FiresNext, Runs, event_of, KeysStay}
use Rattle.ax_core.specs.Order.{RunsFirst, idle_in}
use Rattle.ax_core.specs.Numbers.{NumbersBehind}
use Rattle.ax_core.specs.Calls.{MayStart, MayReply, Started, Replied}
use Rattle.ax_core.proofs.CallOrder.{first_start, first_reply}
use Rattle.ax_core.proofs.Fronts.{behind_mail, IsStartOf}
use Rattle.ax_core.proofs.CalledRuns.{runs_start, runs_reply}
use Rattle.ax_core.proofs.CallFlows.{Follows, follows_rules, follows_rooms, start_follows, reply_follows}
use Rattle.ax_core.proofs.Conditions.{may_start, may_reply}
use Rattle.ax_core.proofs.IdleKeys.{started_idle, replied_idle}
use Rattle.ax_core.proofs.Numbered.{started_numbers, replied_numbers}

-- behind the callback, and the firing if any, it stands for what is left
stands_next : (a b : Controller) (fired : Option Fired) (m : MachineControl) → FiresNext a b fired m → (n : MachineControl) × StandsFor b n
stands_next a b None m x = (m, x)
stands_next a b (Some f) m x = (happens_on (shown_program a.program) (Fire f.context f.key) None m, x.1.made.stands)

-- what is told of a mail that was run
pub record HasRun (a b : Controller) (f : Effects) : Type 0 where
  pub sound : IsSound b
  pub same : SameRules a b
  pub outs : b.outs ≡ a.outs
  pub event : (m : MachineControl) → StandsFor a m → Runs a b f m
  pub keys : KeysStay a b
  pub order : (m : MachineControl) → StandsFor a m → RunsFirst a b f m
  pub idle : idle_in b ≡ idle_in a
  pub number : NumbersBehind a b f.fired

has_run : (a b : Controller) (f : Effects) → IsSound a → Follows a b → ((m : MachineControl) → StandsFor a m → Runs a b f m) → ((m : MachineControl) → StandsFor a m → Runs a b f m → RunsFirst a b f m) → idle_in b ≡ idle_in a → NumbersBehind a b f.fired → HasRun a b f
has_run a b f x follows runs first idle number =
    let run : Runs a b f x.control = runs x.control x.stands in
    let next : (n : MachineControl) × StandsFor b n = stands_next a b f.fired (happens_on (shown_program a.program) (event_of f.key f.ran) None x.control) run.next in
    record {
      sound = record { ranges = subst InRange (sym follows.settings) x.ranges; rooms = follows_rooms a b follows x.rooms; flow = follows.flow; control = next.0; stands = next.1 };
      same = follows_rules a b follows;
      outs = follows.outs;
      event = runs;
      keys = follows.keys;
      order = λ m y. first m y (runs m y);
      idle = idle;
      number = number;
    }

-- each clause of it
pub run_sound : (a b : Controller) (result : Result Effects NoMemory) → IfOk result (HasRun a b) → OnOk result (IsSound b)
run_sound a b (Ok f) x = x.sound
run_sound a b (Err e) x = tt

pub run_same : (a b : Controller) (result : Result Effects NoMemory) → IfOk result (HasRun a b) → OnOk result (SameRules a b)
run_same a b (Ok f) x = x.same
run_same a b (Err e) x = tt

pub run_outs : (a b : Controller) (result : Result Effects NoMemory) → IfOk result (HasRun a b) → OnOk result (b.outs ≡ a.outs)
run_outs a b (Ok f) x = x.outs
run_outs a b (Err e) x = tt

pub run_event : (a b : Controller) (result : Result Effects NoMemory) → IfOk result (HasRun a b) → IfOk result (λ f. (m : MachineControl) → StandsFor a m → Runs a b f m)
run_event a b (Ok f) x = x.event
run_event a b (Err e) x = tt

pub run_keys : (a b : Controller) (result : Result Effects NoMemory) → IfOk result (HasRun a b) → OnOk result (KeysStay a b)
run_keys a b (Ok f) x = x.keys
run_keys a b (Err e) x = tt

pub run_order : (a b : Controller) (result : Result Effects NoMemory) → IfOk result (HasRun a b) → IfOk result (λ f. (m : MachineControl) → StandsFor a m → RunsFirst a b f m)
run_order a b (Ok f) x = x.order
run_order a b (Err e) x = tt

pub run_idle : (a b : Controller) (result : Result Effects NoMemory) → IfOk result (HasRun a b) → OnOk result (idle_in b ≡ idle_in a)
run_idle a b (Ok f) x = x.idle
run_idle a b (Err e) x = tt

pub run_number : (a b : Controller) (result : Result Effects NoMemory) → IfOk result (HasRun a b) → IfOk result (λ f. NumbersBehind a b f.fired)
run_number a b (Ok f) x = x.number
run_number a b (Err e) x = tt

-- a mail was taken from the mailbox of a sound controller
pub record IsTaken (a : Controller) (left : Queue) (first : Mail) : Type 0 where
  pub sound : IsSound a
  pub accepted : AreAccepted (shown_program a.program)
  pub fits : Fits64 a.epochs
  pub mails : a.mails.mails ≡ first ∷ left.mails
  pub room : left.room ≡ a.mails.room

module _ (a : Controller) (left : Queue) (first : Mail) (taken : IsTaken a left first) (id : Id) where
  kept : record { mails = left.mails; room = a.mails.room } ≡ left
  kept = ap (λ (n : ℕ). record { mails = left.mails; room = n }) (sym taken.room)

  pub start_may : IsStartOf id first → MayStart (record a { mails = left }) id
  start_may starts = subst (λ (q : Queue). MayStart (record a { mails = q }) id) kept (may_start a taken.sound first left.mails taken.mails taken.accepted taken.fits id starts)

  pub reply_may : (slot : ℕ) (answer : Answer) → first ≡ mail.Reply id slot answer → MayReply (record a { mails = left }) id slot answer
  reply_may slot answer replies = subst (λ (q : Queue). MayReply (record a { mails = q }) id slot answer) kept (may_reply a taken.sound first left.mails taken.mails taken.accepted taken.fits id slot answer replies)

  module _ (b : Controller) where
    pub start_has_run : (result : Result Effects NoMemory) → IsStartOf id first → IfOk result (λ f. Has a.contexts id (λ h. f.ran ≡ ran.Start h.number))
        → IfOk result (λ f. Has a.contexts id (Started (record a { mails = left }) b id f)) → IfOk result (HasRun a b)
    start_has_run (Ok f) starts said started =
        has_run a b f taken.sound (start_follows a id first left.mails taken.sound taken.mails starts b f as_left)
        (runs_start a b first left.mails id f taken.sound taken.accepted taken.fits taken.mails starts said as_left)
        (λ m y runs. first_start a b id first left.mails f taken.sound taken.mails m y runs starts said as_left)
        (started_idle a b left id f started)
        (started_numbers a b left id f started)
      where
        as_left : Has a.contexts id (Started (behind_mail a left.mails) b id f)
        as_left = subst (λ (q : Queue). Has a.contexts id (Started (record a { mails = q }) b id f)) (sym kept) started
    start_has_run (Err e) starts said started = tt

    pub reply_has_run : (result : Result Effects NoMemory) (slot : ℕ) (answer : Answer) → first ≡ mail.Reply id slot answer → IfOk result (λ f. Has a.contexts id (λ h. f.ran ≡ ran.Reply h.number slot))
        → IfOk result (λ f. Has a.contexts id (Replied (record a { mails = left }) b id slot answer f)) → IfOk result (HasRun a b)
    reply_has_run (Ok f) slot answer replies said replied =
        has_run a b f taken.sound (reply_follows a id slot answer left.mails taken.sound (taken.mails ∙ ap (λ (y : Mail). y ∷ left.mails) replies) b f as_left)
        (runs_reply a b first left.mails id f taken.sound taken.accepted taken.fits taken.mails slot answer replies said as_left)
        (λ m y runs. first_reply a b id first left.mails f taken.sound taken.mails m y runs slot answer replies said as_left)
        (replied_idle a b left id f slot answer replied)
        (replied_numbers a b left id f slot answer replied)
      where
        as_left : Has a.contexts id (Replied (behind_mail a left.mails) b id slot answer f)
        as_left = subst (λ (q : Queue). Has a.contexts id (Replied (record a { mails = q }) b id slot answer f)) (sym kept) replied
    reply_has_run (Err e) slot answer replies said replied = tt
