-- The requests of a batch fit the declared states.
use Rattle.std.proofs.Common.{◌≡◌, ℕ, zero, suc, ◌<◌, List, [], ◌∷◌, true, length, get_or, take, drop, refl, ap, ◌∙◌, subst, Option, Some, None, Contains, arith}
use Rattle.std.specs.List.{All}
use Rattle.std.proofs.lemmas.List.{take-append-drop}
use Rattle.std.proofs.lemmas.List.Elements.{All-weaker, All-contains_itself, Contains-append_left}
use Rattle.ax_text.specs.declared.vocabulary.Kind.{Kind}
use Rattle.ax_text.specs.Controls.{Ask' as Asked}
use Rattle.ax_text.specs.Suits.{fits_in, AsksSuit}
use Rattle.ax_text.proofs.Suiting.{waiting_suits}
use Rattle.ax_lang.specs.Shown.{shown_kinds}
use Rattle.ax_future.specs.declared.machine.Machine.{Machine as CodeMachine}
use Rattle.ax_future.specs.Machines as machine
use Rattle.ax_buffer.specs.declared.items.Item.{Item}
use Rattle.ax_buffer.specs.Buffer.{queue_of}
use Rattle.ax_context.specs.declared.contexts.Context.{Context as Held}
use Rattle.ax_context.specs.Slots.{at}
use Rattle.ax_account.specs.Accounts.{owner_of, part_of}
use Rattle.ax_execution.specs.MachineControls.{MachineControl}
use Rattle.ax_core.specs.declared.record.Record.{Record}
use Rattle.ax_core.specs.declared.controller.Controller.{Controller}
use Rattle.ax_core.specs.Contexts.{waits_in}
use Rattle.ax_core.specs.Flow.{OwnsBegun, OwnsOnceBegun, IsAsked, QueuedStands, IsFlow}
use Rattle.ax_core.specs.Stands.{Stands}
use Rattle.ax_core.proofs.Owners.{runs_at}

suited : (kinds : List Kind) (as' : List Asked) (k : ℕ) (b : Asked) → AsksSuit kinds as' → k < length as' → get_or as' k b ≡ b → fits_in kinds b.request ≡ true
unfolding AsksSuit
suited kinds [] k b s lt e = absurd (omega arith)
suited kinds (x ∷ xs) zero b s lt e = subst (λ (y : Asked). fits_in kinds y.request ≡ true) e s.0
suited kinds (x ∷ xs) (suc k) b s lt e = suited kinds xs k b s.1 (omega arith) e

module _ (a : Controller) (m : MachineControl) (flow : IsFlow a) (stands : Stands a m) where
  -- what waits in a queue is asked by a sound machine
  fit_one : (shard : ℕ) (i : Item) → Contains (queue_of a.buffer shard) i → fits_in (shown_kinds a.program) i.request ≡ true
  fit_one shard i h = of (at a.contexts i.id) refl (flow.queued shard i h)
    where
      ran : (held : Held Record) (code : Option CodeMachine) → at a.contexts i.id ≡ Some held → held.payload.machine ≡ code → IsAsked a.program a.settings shard i held
          → OwnsOnceBegun a i.id (Some held) → fits_in (shown_kinds a.program) i.request ≡ true
      ran held None e f x own =
          let none : Contains (waits_in a.program None) (record { slot = i.slot; request = i.request }) = subst (λ (o : Option CodeMachine). Contains (waits_in a.program o) (record { slot = i.slot; request = i.request })) f x.waits in
          absurd (omega (arith, none.1))
      ran held (Some code) e f x own =
          let owns : owner_of a.accounts held.payload.facts.key ≡ Some i.id = subst (λ (o : Option CodeMachine). OwnsBegun a i.id o held.payload.facts.key) f own in
          let r = runs_at a.program a.mails.mails a.contexts i.key i.id held code f (part_of a.accounts i.key).owner (m.controls i.key).owner (ap (owner_of a.accounts) x.key ∙ owns) e (stands.keys i.key).owner in
          let waits : Contains (waits_in a.program (Some code)) (record { slot = i.slot; request = i.request }) = subst (λ (o : Option CodeMachine). Contains (waits_in a.program o) (record { slot = i.slot; request = i.request })) f x.waits in
          suited (shown_kinds a.program) (waits_in a.program (Some code)) waits.0 (record { slot = i.slot; request = i.request })
          (waiting_suits (shown_kinds a.program) (machine.control_of a.program code) r.runs.sound.suits) waits.1 waits.2

      of : (o : Option (Held Record)) → at a.contexts i.id ≡ o → QueuedStands a shard i o → fits_in (shown_kinds a.program) i.request ≡ true
      of None e x = absurd x
      of (Some held) e x = ran held held.payload.machine e refl x (subst (OwnsOnceBegun a i.id) e (flow.begun i.id))

  fit_all : (shard : ℕ) (is : List Item) → ((i : Item) → Contains is i → Contains (queue_of a.buffer shard) i) → All (λ i. fits_in (shown_kinds a.program) i.request ≡ true) is
  fit_all shard is h = All-weaker (Contains is) (λ i. fits_in (shown_kinds a.program) i.request ≡ true) (λ i c. fit_one shard i (h i c)) is (All-contains_itself is)

  pub fit_batch : (shard max : ℕ) → All (λ i. fits_in (shown_kinds a.program) i.request ≡ true) (take max (queue_of a.buffer shard))
  fit_batch shard max = fit_all shard (take max (queue_of a.buffer shard))
      (λ i h. subst (λ (is : List Item). Contains is i) (take-append-drop max (queue_of a.buffer shard)) (Contains-append_left (take max (queue_of a.buffer shard)) (drop max (queue_of a.buffer shard)) i h))
