-- The owner of a key that has begun, as a context of the machine.
use Rattle.std.proofs.Common.{◌≡◌, ℕ, zero, suc, ◌≤◌, ◌<◌, List, [], ◌∷◌, length, get_or, inl, inr, refl, sym, ap, subst, Bool, true, false, Option, Some, None, Contains, eq-eqb, arith}
use Rattle.ax_lang.specs.declared.program.Program.{Program}
use Rattle.ax_future.specs.declared.machine.Machine.{Machine as CodeMachine}
use Rattle.ax_machine.specs.Entries.{Key}
use Rattle.ax_buffer.specs.declared.items.Item.{Item}
use Rattle.ax_buffer.specs.Buffer.{queue_of}
use Rattle.ax_buffer.proofs.ListLemmas.{total-at}
use Rattle.ax_context.specs.declared.id.Id.{Id}
use Rattle.ax_context.specs.declared.contexts.Context.{Context as Held}
use Rattle.ax_context.specs.Slots.{Slots, at}
use Rattle.ax_mailbox.specs.declared.mail.Mail.{Mail}
use Rattle.ax_mailbox.specs.declared.mail.Mail.TheVariants as mail
use Rattle.ax_execution.specs.Contexts.{Running, Stage, Unbegun, Begun, Context}
use Rattle.ax_core.specs.declared.record.Record.{Record}
use Rattle.ax_core.specs.Contexts.{answer_if, answer_in, IsRunning, StageStands, IsContext, ContextStands}
use Rattle.ax_core.specs.Keys.{OwnerStands}
use Rattle.ax_core.specs.declared.controller.Controller.{Controller}
use Rattle.ax_core.specs.Flow.{one_if, names_request, queued_as, answered_as, in_queues}
use Rattle.ax_core.proofs.Counting.{inside_or}
use Rattle.ax_core.proofs.Replaced.{contains_none}

pub none_some : {X : Type 0} {x : X} → None ≡ Some x → ⊥
none_some e = cc

pub record RunsAt (p : Program) (mails : List Mail) (key : Key) (id : Id) (h : Held Record) (m : CodeMachine) (o : Option Context) : Type 0 where
  pub context : Context
  pub running : Running
  pub owner : o ≡ Some context
  pub stage : context.stage ≡ Begun running
  pub stands : IsContext p mails key id h context
  pub runs : IsRunning p mails id m running

module _ (p : Program) (mails : List Mail) (s : Slots Record) (key : Key) (id : Id) (h : Held Record) (m : CodeMachine) (has : h.payload.machine ≡ Some m) where
  begun : (c : Context) (stage : Stage) → c.stage ≡ stage → IsContext p mails key id h c → StageStands p mails id (Some m) stage → RunsAt p mails key id h m (Some c)
  begun c Unbegun e x y = absurd y
  begun c (Begun r) e x y = record { context = c; running = r; owner = refl; stage = e; stands = x; runs = y }

  held : (o : Option (Held Record)) (c : Context) → o ≡ Some h → ContextStands p mails key id o c → RunsAt p mails key id h m (Some c)
  held o c e x =
      let there : IsContext p mails key id h c = subst (λ (o : Option (Held Record)). ContextStands p mails key id o c) e x in
      begun c c.stage refl there (subst (λ (o : Option CodeMachine). StageStands p mails id o c.stage) has there.stage)

  pub runs_at : (o : Option Id) (c : Option Context) → o ≡ Some id → at s id ≡ Some h → OwnerStands p mails s key o c → RunsAt p mails key id h m c
  runs_at None c e f x = absurd (none_some e)
  runs_at (Some j) None e f x = absurd x
  runs_at (Some j) (Some c) e f x =
      let same : j ≡ id = cc in
      held (at s id) c f (subst (λ (j : Id). ContextStands p mails key j (at s j) c) same x)

-- a slot has no answer where no mail answers it
pub unanswered : (mails : List Mail) (id : Id) (slot : ℕ) → answered_as id slot mails ≡ 0 → answer_in mails id slot ≡ None
unanswered [] id slot e = refl
unanswered (mail.Start i ∷ ms) id slot e = unanswered ms id slot (omega arith)
unanswered (mail.Fire i ∷ ms) id slot e = unanswered ms id slot (omega arith)
unanswered (mail.Reply i s a ∷ ms) id slot e = of (names_request id slot i s) (unanswered ms id slot (omega arith)) (omega arith)
  where
    of : (b : Bool) → answer_in ms id slot ≡ None → one_if b ≡ 0 → answer_if b a (answer_in ms id slot) ≡ None
    of true h z = absurd (omega arith)
    of false h z = h

pub names_itself : (id : Id) (slot : ℕ) → names_request id slot id slot ≡ true
names_itself id slot = rw (eq-eqb slot slot refl) (rw (eq-eqb id.slot id.slot refl) refl)

queued_at : (i : Item) (is : List Item) (k : ℕ) → k < length is → get_or is k i ≡ i → 1 ≤ queued_as i.id i.slot is
queued_at i [] k lt e = absurd (omega arith)
queued_at i (x ∷ xs) zero lt e =
    let named : names_request i.id i.slot x.id x.slot ≡ true = subst (λ (j : Item). names_request i.id i.slot j.id j.slot ≡ true) (sym e) (names_itself i.id i.slot) in
    omega (arith, ap one_if named)
queued_at i (x ∷ xs) (suc k) lt e = omega (arith, queued_at i xs k (omega arith) e)

-- what stands in a queue is counted there
pub queued_there : (i : Item) (is : List Item) → Contains is i → 1 ≤ queued_as i.id i.slot is
queued_there i is c = queued_at i is c.0 c.1 c.2

-- and in all queues
pub in_queues_there : (a : Controller) (shard : ℕ) (i : Item) → Contains (queue_of a.buffer shard) i → 1 ≤ in_queues a i.id i.slot
in_queues_there a shard i c =
    let here : 1 ≤ queued_as i.id i.slot (queue_of a.buffer shard) = queued_there i (queue_of a.buffer shard) c in
    elim (inside_or shard a.buffer.queues) [
      | inl x ↦ (let all : queued_as i.id i.slot (queue_of a.buffer shard) ≤ in_queues a i.id i.slot = total-at (queued_as i.id i.slot) a.buffer.queues shard [] x in omega (arith, here, all))
      | inr x ↦ absurd (contains_none i (subst (λ (is : List Item). Contains is i) x c))
    ]
