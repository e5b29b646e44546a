-- A mail in front names a context that may be called.
use Rattle.std.proofs.Common.{◌≡◌, ℕ, ◌+◌, ◌≤◌, ◌<◌, Bool, true, false, List, ◌∷◌, length, Option, Some, None, IsSome, IsSomeAnd, refl, sym, ap, ◌∙◌, subst, arith}
use Rattle.ax_text.specs.declared.vocabulary.Answer.{Answer}
use Rattle.ax_text.specs.Programs.{program_width}
use Rattle.ax_text.specs.Controls.{slots}
use Rattle.ax_text.proofs.Wide.{slots_wide}
use Rattle.ax_lang.specs.Shown.{shown_program}
use Rattle.ax_future.specs.declared.callback.Turn.{Turn}
use Rattle.ax_future.specs.declared.machine.Machine.{Machine as CodeMachine}
use Rattle.ax_future.specs.Machines as machine
use Rattle.ax_machine.specs.Entries.{Key}
use Rattle.ax_context.specs.declared.id.Id.{Id}
use Rattle.ax_context.specs.declared.contexts.Context.{Context as Held}
use Rattle.ax_context.specs.Slots.{Slots, at, Has, IsLive, IsPaid, live_count}
use Rattle.ax_account.specs.Accounts.{part_of}
use Rattle.ax_mailbox.specs.declared.mail.Mail.{Mail}
use Rattle.ax_mailbox.specs.declared.mail.Mail.TheVariants as mail
use Rattle.ax_time.specs.Epochs.{Fits64}
use Rattle.ax_execution.specs.Accepted.{AreAccepted}
use Rattle.ax_execution.specs.Machine.{Happening, Start, Deliver}
use Rattle.ax_execution.specs.Counts.{references}
use Rattle.ax_execution.specs.Reached.{IsOrderly}
use Rattle.ax_execution.proofs.ReachedOrderly.{reached_orderly}
use Rattle.ax_core.specs.declared.record.Record.{Record}
use Rattle.ax_core.specs.declared.controller.Controller.{Controller}
use Rattle.ax_core.specs.Flow.{one_if, in_queues, in_outs, starts_as, started_as, answers_as, answered_as, is_to_start, waits_for}
use Rattle.ax_core.specs.Contexts.{waits_at}
use Rattle.ax_core.specs.Sound.{rules_of, IsSound}
use Rattle.ax_core.specs.Callbacks.{WaitsAt, HasBegun, HasResumed}
use Rattle.ax_core.specs.Calls.{MayEnd, IsReady, MayStart, MayReply}
use Rattle.ax_core.proofs.Called.{Calls, CallsBy, calls_start, calls_reply}
use Rattle.ax_core.proofs.CalledRuns.{ends_start, ends_reply}
use Rattle.ax_core.proofs.CallRooms.{requests_fit, contexts_fit}
use Rattle.ax_core.proofs.Deliveries.{mails_fit}
use Rattle.ax_core.proofs.Ends.{has_held, held_has, has_at}
use Rattle.ax_core.proofs.Fronts.{behind_mail, IsStartOf, start_counts}
use Rattle.ax_core.proofs.Owners.{RunsAt, runs_at, names_itself}
use Rattle.ax_core.proofs.Serves.{WaitsAt as Waiter, waits_there}

pub at_least : (b : Bool) → 1 ≤ one_if b → b ≡ true
at_least true h = refl
at_least false h = absurd (omega arith)

starts_live : (a : Controller) (id : Id) (o : Option (Held Record)) → is_to_start a id o ≡ true → IsSome o
starts_live a id None h = absurd (cc h)
starts_live a id (Some h) x = refl

module _ (a : Controller) (x : IsSound a) (m : Mail) (ns : List Mail) (first : a.mails.mails ≡ m ∷ ns) where
  -- what is to be started is live
  pub live_start : (id : Id) → starts_as id m ≡ 1 → IsLive a.contexts id
  live_start id one =
      let all : started_as id a.mails.mails ≡ starts_as id m + started_as id ns = ap (started_as id) first in
      let once : started_as id a.mails.mails ≡ one_if (is_to_start a id (at a.contexts id)) = x.flow.starts id in
      starts_live a id (at a.contexts id) (at_least (is_to_start a id (at a.contexts id)) (omega (arith, all, once, one)))

  module _ (id : Id) (slot : ℕ) (one : answers_as id slot m ≡ 1) where
    -- what is answered waits
    answered_waits : Waiter a id slot
    answered_waits =
        let all : answered_as id slot a.mails.mails ≡ answers_as id slot m + answered_as id slot ns = ap (answered_as id slot) first in
        let once : in_queues a id slot + (in_outs a id slot + answered_as id slot a.mails.mails) ≡ one_if (waits_for (waits_at a.program (at a.contexts id)) slot) = x.flow.once id slot in
        waits_there a id slot x.flow (at_least (waits_for (waits_at a.program (at a.contexts id)) slot) (omega (arith, all, once, one)))

    pub waits_reply : Has a.contexts id (λ h. WaitsAt a.program h.payload.machine slot)
    waits_reply =
        let w : Waiter a id slot = answered_waits in
        let key : Key = w.held.payload.facts.key in
        let runs : RunsAt a.program a.mails.mails key id w.held w.code (x.control.controls key).owner =
        runs_at a.program a.mails.mails a.contexts key id w.held w.code w.begun (part_of a.accounts key).owner (x.control.controls key).owner w.owns w.there (x.stands.stands.keys key).owner in
        subst (λ (o : Option (Held Record)). IsSomeAnd o (λ h. WaitsAt a.program h.payload.machine slot)) (sym w.there)
        (subst (λ (o : Option CodeMachine). WaitsAt a.program o slot) (sym w.begun) (runs.runs.sound, w.waits))

  -- a callback of a key's owner may end
  module _ (accepted : AreAccepted (shown_program a.program)) (id : Id) (h : Held Record) (s : Slots Record) (payload : Record) (t : Turn) (after : CodeMachine) (e : Happening)
      (calls : Calls a x.control ns id h after t e) (paid : IsPaid a.contexts s id payload) (may : MayEnd (record (behind_mail a ns) { contexts = s }) id t (record h { payload = payload })) where
    is_ready : IsReady (record (behind_mail a ns) { contexts = s }) id t
    is_ready =
        let orderly : IsOrderly (rules_of a.settings) x.control = reached_orderly (rules_of a.settings) (shown_program a.program) x.control accepted x.stands.reached in
        let longer : length a.mails.mails ≡ length (m ∷ ns) = ap (λ (ms : List Mail). length ms) first in
        let some : 0 < length a.mails.mails = omega (arith, longer) in
        let fit : live_count a.contexts ≤ a.contexts.limit = contexts_fit a x x.control x.stands orderly in
        let all : length a.mails.mails + 0 ≤ a.mails.room = mails_fit a x fit 0 (omega arith) in
        let there : at s id ≡ Some (record h { payload = payload }) = has_at (λ (c : Held Record). at s id ≡ Some (record c { payload = payload })) (at a.contexts id) h calls.here paid.paid in
        let left : ℕ = length (slots (machine.control_of a.program after)) in
        let counted : references calls.context.stage + length t.asks ≡ 1 + length (slots (machine.control_of a.program after)) = ap (λ (n : ℕ). n + length t.asks) (sym calls.stands.count) ∙ calls.count in
        record {
          may = held_has (MayEnd (record (behind_mail a ns) { contexts = s }) id t) (at s id) (record h { payload = payload }) there may;
          ranges = x.ranges;
          shards = x.flow.shards.0;
          requests = requests_fit a x x.control x.stands orderly h.payload.facts.key calls.context calls.owner some (length t.asks) left counted
              (slots_wide (program_width (shown_program a.program)) (machine.control_of a.program after) calls.sound.wide);
          contexts = omega (arith, fit, paid.len, paid.limit);
          mails = omega (arith, longer, all);
        }

  module _ (accepted : AreAccepted (shown_program a.program)) (fits : Fits64 a.epochs) (id : Id) where
    pub may_start : IsStartOf id m → MayStart (behind_mail a ns) id
    may_start starts = record {
      live = live_start id (start_counts id m starts);
      ready = λ s t it. of s t (has_held (λ (h : Held Record). HasBegun a.program a.contexts s id h t) (at a.contexts id) it);
    }
      where
        of : (s : Slots Record) (t : Turn) → (h : Held Record) × ((at a.contexts id ≡ Some h) × HasBegun a.program a.contexts s id h t) → IsReady (record (behind_mail a ns) { contexts = s }) id t
        of s t it = is_ready accepted id it.0 s it.1.1.payload t it.1.1.begins.after (Start it.0.payload.facts.key)
            (calls_start a x.control m ns id it.0 s t x.flow x.stands first starts it.1.0 it.1.1) it.1.1.paid
            (ends_start a m ns id x accepted fits first starts s t it.0 it.1.0 it.1.1)

    pub may_reply : (slot : ℕ) (answer : Answer) → m ≡ mail.Reply id slot answer → MayReply (behind_mail a ns) id slot answer
    may_reply slot answer replies = record {
      waits = waits_reply id slot (ap (answers_as id slot) replies ∙ ap one_if (names_itself id slot));
      ready = λ s t it. of s t (has_held (λ (h : Held Record). HasResumed a.program a.contexts s id h slot answer t) (at a.contexts id) it);
    }
      where
        of : (s : Slots Record) (t : Turn) → (h : Held Record) × ((at a.contexts id ≡ Some h) × HasResumed a.program a.contexts s id h slot answer t) → IsReady (record (behind_mail a ns) { contexts = s }) id t
        of s t it =
            let by : CallsBy a x.control ns id it.0 it.1.1.payload t (Deliver it.0.payload.facts.key slot) =
            calls_reply a x.control ns id slot answer it.0 s t x.flow x.stands (first ∙ ap (λ (y : Mail). y ∷ ns) replies) it.1.0 it.1.1 in
            is_ready accepted id it.0 s it.1.1.payload t by.after (Deliver it.0.payload.facts.key slot) by.calls it.1.1.paid
            (ends_reply a m ns id x accepted fits first slot answer replies s t it.0 it.1.0 it.1.1)
