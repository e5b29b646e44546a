-- The end of a callback, from what its parts do.
use Rattle.std.proofs.Common.{◌≡◌, ◌<◌, ℕ, ◌+◌, ℤ, List, [], length, true, false, Option, Some, None, IsSomeAnd, Result, IfOk, refl, sym, ap, ◌∙◌, subst, arith}
use Rattle.ax_base.specs.declared.outside.NoMemory.{NoMemory}
use Rattle.ax_text.specs.declared.vocabulary.Answer.{Answer}
use Rattle.ax_text.specs.declared.vocabulary.Handler.{Handler}
use Rattle.ax_text.specs.declared.vocabulary.TimerOp.{TimerOp}
use Rattle.ax_text.specs.Run.{times_after}
use Rattle.ax_future.specs.declared.callback.Ask.{Ask}
use Rattle.ax_future.specs.declared.callback.Turn.{Turn}
use Rattle.ax_machine.specs.Entries.{Key}
use Rattle.ax_buffer.specs.Buffer.{Buffer}
use Rattle.ax_context.specs.declared.id.Id.{Id}
use Rattle.ax_context.specs.declared.contexts.Context.{Context as Held}
use Rattle.ax_context.specs.declared.contexts.Released.TheVariants as released
use Rattle.ax_context.specs.Released.{Answers, left}
use Rattle.ax_context.specs.Slots.{Slots, at, Has, IsPaid}
use Rattle.ax_account.specs.Accounts.{waiting_of}
use Rattle.ax_time.specs.declared.timer.Timer.{Timer}
use Rattle.ax_time.specs.Epochs.{Book}
use Rattle.ax_time.specs.Timers.{PutsTimes, times_of}
use Rattle.ax_core.specs.declared.record.Record.{Record}
use Rattle.ax_core.specs.declared.effects.Fired.{Fired}
use Rattle.ax_core.specs.declared.effects.Effects.{Effects}
use Rattle.ax_core.specs.declared.effects.Ran.{Ran}
use Rattle.ax_core.specs.declared.controller.Controller.{Controller}
use Rattle.ax_core.specs.Flow.{shard_of}
use Rattle.ax_core.specs.Callbacks.{HasBegun, HasResumed, items_for, IsHeld, IsQueued, ended, all_left, AllMayLeave, row_epochs, GoesOn}
use Rattle.ax_core.specs.Calls.{Leaves, IsLast, IsDone, CallEnds, MayEnd, Started, Replied}
use Rattle.ax_core.proofs.AskLemmas.{held_none, queued_none}
use Rattle.ax_core.proofs.GetLemmas.{if_ok}
use Rattle.ax_core.proofs.TimerLemmas.{puts_at}

-- what a live context has, it has as it is held
pub has_held : (P : Held Record → Type 0) (o : Option (Held Record)) → IsSomeAnd o P → (h : Held Record) × ((o ≡ Some h) × P h)
has_held P None x = absurd x
has_held P (Some h) x = (h, (refl, x))

pub held_has : (P : Held Record → Type 0) (o : Option (Held Record)) (h : Held Record) → o ≡ Some h → P h → IsSomeAnd o P
held_has P o h e x = subst (λ (q : Option (Held Record)). IsSomeAnd q P) (sym e) x

pub has_at : (P : Held Record → Type 0) (o : Option (Held Record)) (h : Held Record) → o ≡ Some h → IsSomeAnd o P → P h
has_at P o h e x = subst (λ (q : Option (Held Record)). IsSomeAnd q P) e x

-- its timers are set, and its requests asked
pub record Asks (a : Controller) (id : Id) (t : Turn) (key : Key) (timers : List Timer) (contexts : Slots Record) (buffer : Buffer) (h : Held Record) : Type 0 where
  pub there : at a.contexts id ≡ Some h
  pub may : MayEnd a id t h
  pub named : key ≡ h.payload.facts.key
  pub done : IsDone a (record a { contexts = contexts; buffer = buffer; timers = timers }) id h t

pub asks_here : (a : Controller) (id : Id) (t : Turn) (key : Key) (got : Record) (ops : List TimerOp) (timers : List Timer) (contexts : Slots Record) (buffer : Buffer) (shard : ℕ)
    → Has a.contexts id (MayEnd a id t) → Has a.contexts id (λ h. got ≡ h.payload) → key ≡ got.facts.key → ops ≡ t.timer_ops → PutsTimes a.timers timers key (times_after ops (times_of a.timers key))
    → shard ≡ shard_of a.settings key → IsHeld a.contexts contexts id (length t.asks) → IsQueued a.buffer buffer shard (items_for id key t.asks) → (h : Held Record) × Asks a id t key timers contexts buffer h
asks_here a id t key got ops timers contexts buffer shard may is_got copied all times placed held queued = of (has_held (MayEnd a id t) (at a.contexts id) may)
  where
    of : (h : Held Record) × ((at a.contexts id ≡ Some h) × MayEnd a id t h) → (h : Held Record) × Asks a id t key timers contexts buffer h
    of it =
        let named : key ≡ it.0.payload.facts.key = copied ∙ ap (λ (r : Record). r.facts.key) (has_at (λ (h : Held Record). got ≡ h.payload) (at a.contexts id) it.0 it.1.0 is_got) in (
          it.0,
          record {
            there = it.1.0;
            may = it.1.1;
            named = named;
            done = record {
              times = subst (λ (k : Key). PutsTimes a.timers timers k (times_after t.timer_ops (times_of a.timers k))) named
                  (subst (λ (os : List TimerOp). PutsTimes a.timers timers key (times_after os (times_of a.timers key))) all times);
              held = held;
              queued = subst (λ (k : Key). IsQueued a.buffer buffer (shard_of a.settings k) (items_for id k t.asks)) named (subst (λ (n : ℕ). IsQueued a.buffer buffer n (items_for id key t.asks)) placed queued);
              same = refl;
            };
          },
        )

-- a callback that asks nothing, and which of its context's last reference is given up
pub asks_ended : (a : Controller) (id : Id) (t : Turn) (key : Key) (got : Record) (ops : List TimerOp) (timers : List Timer) (s : Slots Record) (handler : Handler) (epoch : ℕ)
    → Has a.contexts id (MayEnd a id t) → Has a.contexts id (λ h. got ≡ h.payload) → t.asks ≡ [] → ops ≡ t.timer_ops → PutsTimes a.timers timers got.facts.key (times_after ops (times_of a.timers got.facts.key))
    → IsLast a.contexts s id key handler epoch → (h : Held Record) × Asks a id t key timers a.contexts a.buffer h
asks_ended a id t key got ops timers s handler epoch may is_got silent all times last =
    let it : (h : Held Record) × Asks a id t got.facts.key timers a.contexts a.buffer h = asks_here a id t got.facts.key got ops timers a.contexts a.buffer (shard_of a.settings got.facts.key) may is_got refl all times refl
    (subst (λ (asks : List Ask). IsHeld a.contexts a.contexts id (length asks)) (sym silent) (held_none a.contexts id (MayEnd a id t) may))
    (subst (λ (asks : List Ask). IsQueued a.buffer a.buffer (shard_of a.settings got.facts.key) (items_for id got.facts.key asks)) (sym silent) (queued_none a.buffer (shard_of a.settings got.facts.key))) in
    let gone : Answers it.0 (released.Gone last.payload epoch last.number) = has_at (λ (c : Held Record). Answers c (released.Gone last.payload epoch last.number)) (at a.contexts id) it.0 it.1.there last.leaves.answer in
    let same : got.facts.key ≡ key = it.1.named ∙ sym (last.named ∙ ap (λ (r : Record). r.facts.key) gone.1) in
    (it.0, subst (λ (k : Key). Asks a id t k timers a.contexts a.buffer it.0) same it.1)

module _ (a : Controller) (id : Id) (t : Turn) (key : Key) (timers : List Timer) (contexts : Slots Record) (buffer : Buffer) (h : Held Record) (asks : Asks a id t key timers contexts buffer h) (s : Slots Record) where
  -- with the references of its requests
  abbrev more : Held Record
  more = record h { count = h.count + length t.asks }

  counted_more : at contexts id ≡ Some more
  counted_more = has_at (λ (c : Held Record). at contexts id ≡ Some (record c { count = c.count + length t.asks })) (at a.contexts id) h asks.there asks.done.held.counted

  -- there are several
  pub several : Has a.contexts id (λ g. 1 < g.count + length t.asks) → Has contexts id (λ c. 1 < c.count)
  several x = held_has (λ (c : Held Record). 1 < c.count) (at contexts id) more counted_more (has_at (λ (g : Held Record). 1 < g.count + length t.asks) (at a.contexts id) h asks.there x)

  -- and it waits on
  pub call_waits : Leaves contexts s id released.Live → (ran : Ran)
      → Has a.contexts id (λ g. CallEnds a (record a { contexts = s; buffer = buffer; timers = timers }) id g t (record { key = key; ran = ran; outs = t.outs; gone = false; fired = None }))
  call_waits leaves ran = held_has (λ (g : Held Record). CallEnds a (record a { contexts = s; buffer = buffer; timers = timers }) id g t (record { key = key; ran = ran; outs = t.outs; gone = false; fired = None }))
      (at a.contexts id) h asks.there (record {
        mid = record a { contexts = contexts; buffer = buffer; timers = timers };
        done = asks.done;
        ends = record {
          more = has_at (λ (c : Held Record). Answers c released.Live) (at contexts id) more counted_more leaves.answer;
          left = has_at (λ (c : Held Record). at s id ≡ left c released.Live) (at contexts id) more counted_more leaves.counted;
          others = leaves.others;
          len = omega (arith, leaves.len);
          limit = leaves.limit;
          next = leaves.next;
          same = refl;
        };
        key = asks.named;
        outs = refl;
      })

  -- or it is given up
  module _ (payload : Record) (epoch number : ℕ) (leaves : Leaves contexts s id (released.Gone payload epoch number)) where
    gone : Answers more (released.Gone payload epoch number)
    gone = has_at (λ (c : Held Record). Answers c (released.Gone payload epoch number)) (at contexts id) more counted_more leaves.answer

    -- its row leaves its epoch, and then the marks that fire nothing may leave theirs
    pub marks_leave : AllMayLeave (ended (times_of timers key) (waiting_of a.accounts key)) (all_left (row_epochs payload.handler epoch) a.epochs)
    marks_leave =
        let both = asks.may.left gone.0 in
        let same : all_left (row_epochs h.payload.handler h.epoch) a.epochs ≡ all_left (row_epochs payload.handler epoch) a.epochs =
        sym (ap (λ (r : Record). all_left (row_epochs r.handler epoch) a.epochs) gone.1 ∙ ap (λ (e : ℕ). all_left (row_epochs h.payload.handler e) a.epochs) gone.2) in
        subst (λ (book : Book). AllMayLeave (ended (times_of timers key) (waiting_of a.accounts key)) book) same
        (subst (λ (k : Key). AllMayLeave (ended (times_of timers k) (waiting_of a.accounts k)) (all_left (row_epochs h.payload.handler h.epoch) a.epochs)) (sym asks.named)
        (subst (λ (ts : List ℤ). AllMayLeave (ended ts (waiting_of a.accounts h.payload.facts.key)) (all_left (row_epochs h.payload.handler h.epoch) a.epochs))
        (sym (puts_at a.timers timers h.payload.facts.key (times_after t.timer_ops (times_of a.timers h.payload.facts.key)) asks.done.times)) both.1))

    -- and its key goes on
    pub call_gives_up : (ran : Ran) (epochs : Book) → epochs ≡ all_left (row_epochs payload.handler epoch) a.epochs → (b : Controller) (fired : Option Fired)
        → GoesOn (record a { contexts = s; buffer = buffer; timers = timers; epochs = epochs }) b key fired
        → Has a.contexts id (λ g. CallEnds a b id g t (record { key = key; ran = ran; outs = t.outs; gone = true; fired = fired }))
    call_gives_up ran epochs left_by b fired goes = held_has (λ (g : Held Record). CallEnds a b id g t (record { key = key; ran = ran; outs = t.outs; gone = true; fired = fired })) (at a.contexts id) h asks.there (record {
      mid = record a { contexts = contexts; buffer = buffer; timers = timers };
      done = asks.done;
      ends = record {
        mid = record a { contexts = s; buffer = buffer; timers = timers; epochs = epochs };
        given = record {
          last = gone.0;
          free = has_at (λ (c : Held Record). at s id ≡ left c (released.Gone payload epoch number)) (at contexts id) more counted_more leaves.counted;
          others = leaves.others;
          len = leaves.len;
          limit = leaves.limit;
          next = leaves.next;
          epochs = left_by ∙ ap (λ (r : Record). all_left (row_epochs r.handler epoch) a.epochs) gone.1 ∙ ap (λ (e : ℕ). all_left (row_epochs h.payload.handler e) a.epochs) gone.2;
          same = refl;
        };
        goes = subst (λ (k : Key). GoesOn (record a { contexts = s; buffer = buffer; timers = timers; epochs = epochs }) b k fired) asks.named goes;
      };
      key = asks.named;
      outs = refl;
    })

-- a callback whose handler has begun, or was given an answer, has ended
module _ (a b : Controller) (s : Slots Record) (id : Id) (t : Turn) (result : Result Effects NoMemory) where
  ended_call : (payload : Record) (h : Held Record) (f : Effects) → at a.contexts id ≡ Some h → IsPaid a.contexts s id payload → Has s id (λ g. CallEnds (record a { contexts = s }) b id g t f)
      → CallEnds (record a { contexts = s }) b id (record h { payload = payload }) t f
  ended_call payload h f here paid ends = has_at (λ (g : Held Record). CallEnds (record a { contexts = s }) b id g t f) (at s id) (record h { payload = payload })
      (has_at (λ (c : Held Record). at s id ≡ Some (record c { payload = payload })) (at a.contexts id) h here paid.paid) ends

  pub starts : Has a.contexts id (λ h. HasBegun a.program a.contexts s id h t) → IfOk result (λ f. Has s id (λ g. CallEnds (record a { contexts = s }) b id g t f))
      → IfOk result (λ f. Has a.contexts id (Started a b id f))
  starts begun ends = of (has_held (λ (h : Held Record). HasBegun a.program a.contexts s id h t) (at a.contexts id) begun)
    where
      of : (h : Held Record) × ((at a.contexts id ≡ Some h) × HasBegun a.program a.contexts s id h t) → IfOk result (λ f. Has a.contexts id (Started a b id f))
      of it = if_ok result (λ (f : Effects) (x : Has s id (λ g. CallEnds (record a { contexts = s }) b id g t f)). held_has (Started a b id f) (at a.contexts id) it.0 it.1.0
          (record { contexts = s; turn = t; begun = it.1.1; ended = ended_call it.1.1.payload it.0 f it.1.0 it.1.1.paid x })) ends

  pub replies : (slot : ℕ) (answer : Answer) → Has a.contexts id (λ h. HasResumed a.program a.contexts s id h slot answer t) → IfOk result (λ f. Has s id (λ g. CallEnds (record a { contexts = s }) b id g t f))
      → IfOk result (λ f. Has a.contexts id (Replied a b id slot answer f))
  replies slot answer resumed ends = of (has_held (λ (h : Held Record). HasResumed a.program a.contexts s id h slot answer t) (at a.contexts id) resumed)
    where
      of : (h : Held Record) × ((at a.contexts id ≡ Some h) × HasResumed a.program a.contexts s id h slot answer t) → IfOk result (λ f. Has a.contexts id (Replied a b id slot answer f))
      of it = if_ok result (λ (f : Effects) (x : Has s id (λ g. CallEnds (record a { contexts = s }) b id g t f)). held_has (Replied a b id slot answer f) (at a.contexts id) it.0 it.1.0
          (record { contexts = s; turn = t; resumed = it.1.1; ended = ended_call it.1.1.payload it.0 f it.1.0 it.1.1.paid x })) ends
