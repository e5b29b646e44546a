-- The order of requests and callbacks behind a callback.
use Rattle.std.proofs.Common.{◌≡◌, ◌≢◌, ℕ, ◌+◌, ◌-◌, Bool, true, false, List, [], ◌∷◌, ◌++◌, map, length, get_or, Option, Some, None, is_none, refl, sym, ap, ◌∙◌, subst, inl, inr, Contains, append-nil, append_assoc}
use Rattle.std.specs.List.{slice_index_or}
use Rattle.std.proofs.lemmas.List.{map-append}
use Rattle.ax_text.specs.declared.vocabulary.Answer.{Answer}
use Rattle.ax_text.specs.Controls.{Ask' as Asking, waiting, replaced, Turn as AnyTurn}
use Rattle.ax_lang.specs.declared.program.Program.{Program}
use Rattle.ax_lang.specs.Shown.{shown_program}
use Rattle.ax_future.specs.declared.callback.Ask.{Ask}
use Rattle.ax_future.specs.declared.callback.Turn.{Turn}
use Rattle.ax_future.specs.declared.machine.Machine.{Machine}
use Rattle.ax_future.specs.Machines as machine
use Rattle.ax_future.specs.Talks.{asks_in}
use Rattle.ax_machine.specs.Entries.{Key}
use Rattle.ax_buffer.specs.declared.items.Item.{Item}
use Rattle.ax_buffer.specs.Buffer.{queue_of}
use Rattle.ax_buffer.proofs.ListLemmas.{at_set}
use Rattle.ax_context.specs.declared.id.Id.{Id}
use Rattle.ax_context.specs.declared.contexts.Context.{Context as Held}
use Rattle.ax_context.specs.Slots.{Slots, at, Has}
use Rattle.ax_account.specs.declared.part.Waiting.{Waiting as Waiter}
use Rattle.ax_account.specs.declared.part.Waiting.TheVariants as item
use Rattle.ax_account.specs.declared.part.Next.{Next}
use Rattle.ax_account.specs.declared.part.Next.TheVariants as next
use Rattle.ax_account.specs.Parts.{Part, next_of, taken_up}
use Rattle.ax_account.specs.Accounts.{owner_of}
use Rattle.ax_mailbox.specs.declared.mail.Mail.{Mail}
use Rattle.ax_mailbox.specs.declared.mail.Mail.TheVariants as mail
use Rattle.ax_execution.specs.Contexts.{Stage, Unbegun, Begun, Context, Waiting, Row, Mark, is_idle_with}
use Rattle.ax_execution.specs.ControlTurns.{is_idle_on}
use Rattle.ax_execution.specs.Machine.{Happening, Start, Deliver}
use Rattle.ax_execution.specs.MachineControls.{MachineControl, happens_on, outcome_on}
use Rattle.ax_execution.proofs.Upto.{by_cases}
use Rattle.ax_core.specs.declared.record.Record.{Record}
use Rattle.ax_core.specs.declared.record.Name.{Name}
use Rattle.ax_core.specs.declared.effects.Fired.{Fired}
use Rattle.ax_core.specs.declared.effects.Ran.{Ran}
use Rattle.ax_core.specs.declared.effects.Ran.TheVariants as ran
use Rattle.ax_core.specs.declared.effects.Effects.{Effects}
use Rattle.ax_core.specs.declared.controller.Controller.{Controller}
use Rattle.ax_core.specs.Contexts.{same_id, StageStands, ContextStands}
use Rattle.ax_core.specs.Keys.{OwnerStands}
use Rattle.ax_core.specs.Flow.{shard_of, IsFlow}
use Rattle.ax_core.specs.Sound.{StandsFor, IsSound}
use Rattle.ax_core.specs.Callbacks.{items_for, with_start, waits_next, HandsOver, ResumedAt}
use Rattle.ax_core.specs.Calls.{WaitsOn, IsGivenUp, EndsBy, CallEnds, Started, Replied}
use Rattle.ax_core.specs.Events.{event_of, number_of, FiresNext, Runs}
use Rattle.ax_core.specs.Firings.{FiresAt}
use Rattle.ax_core.specs.Order.{number_in, number_at, Asked, asked_by, queue_in, callback_by, callbacks_in, NumbersStay, Posts, asks_of, stage_begins, owner_begins, firing_begins, RunsFirst}
use Rattle.ax_core.proofs.Called.{Calls, CallsBy, calls_start, calls_reply}
use Rattle.ax_core.proofs.CalledRuns.{both_there}
use Rattle.ax_core.proofs.CalledFlow.{WaitsFor, Left, FlowsOn, flow_on}
use Rattle.ax_core.proofs.CallFlows.{CallsAt, Behind, ran as after_run, held as as_held, more as with_more, done_behind, waits_on, hands_on, start_calls, reply_calls}
use Rattle.ax_core.proofs.Flows.{same_self, same_is, other_ids}
use Rattle.ax_core.proofs.Fronts.{behind_mail, HeldAs, held_as, IsStartOf}
use Rattle.ax_core.proofs.KeysStay.{out_live}
use Rattle.ax_core.proofs.Orders.{id_of, mail_live, item_live, items_keep, mails_keep, posts_fires}
use Rattle.ax_core.proofs.StartLemmas.{next_is, IsUnbegunOf}

-- the start that is posted for what comes next
abbrev next_by : Controller → Next → List Ran
next_by a next.Free = []
next_by a (next.Row i) = ran.Start (number_at a i) ∷ []
next_by a (next.Mark e w fired) = []

-- what is left in order behind a callback, and what went last
record Ordered (old b : Controller) (id : Id) (key : Key) (asks : List Ask) (ns : List Mail) (rs : List Ran) : Type 0 where
  callbacks : callbacks_in b ≡ map (callback_by old) ns ++ rs
  queue : queue_in b (shard_of old.settings key) ≡ queue_in old (shard_of old.settings key) ++ map (asked_by old) (items_for id key asks)
  others : (other : ℕ) → other ≢ shard_of old.settings key → queue_in b other ≡ queue_in old other
  numbers : NumbersStay old b

module _ (old new : Controller) (id : Id) (key : Key) (asks : List Ask) (n : Next) (m : Mail) (ns : List Mail) (was xs : List Asking) (flow : IsFlow old) (h : FlowsOn old new id key asks n m ns was xs) where
  behind : IsFlow new
  behind = flow_on old new id key asks n m ns was xs flow h

  number_on : (i : Id) → (at new.contexts i ≡ None → ⊥) → number_at new i ≡ number_at old i
  number_on i live = by_cases (same_id id i)
      (λ x. subst (λ (j : Id). number_at new j ≡ number_at old j) (same_is id i x) (h.number (λ e. live (ap (at new.contexts) (sym (same_is id i x)) ∙ e))))
      (λ x. ap number_in (h.others i (other_ids id i x)))

  posted_by : (k : Next) → map (callback_by old) (with_start k ns) ≡ map (callback_by old) ns ++ next_by old k
  posted_by next.Free = sym (append-nil (map (callback_by old) ns))
  posted_by (next.Row i) = map-append (callback_by old) ns (mail.Start i ∷ [])
  posted_by (next.Mark e w fired) = sym (append-nil (map (callback_by old) ns))

  here : queue_of new.buffer (shard_of old.settings key) ≡ queue_of old.buffer (shard_of old.settings key) ++ items_for id key asks
  here = elim (at_set old.buffer.queues (shard_of old.settings key) (shard_of old.settings key) (queue_of old.buffer (shard_of old.settings key) ++ items_for id key asks) [] h.inside) [
    | inl x ↦ ap (λ (qs : List (List Item)). get_or qs (shard_of old.settings key) []) h.queued.queues ∙ x.1
    | inr x ↦ absurd (x.0 refl)
  ]

  elsewhere : (other : ℕ) → other ≢ shard_of old.settings key → queue_of new.buffer other ≡ queue_of old.buffer other
  elsewhere other differ = elim (at_set old.buffer.queues (shard_of old.settings key) other (queue_of old.buffer (shard_of old.settings key) ++ items_for id key asks) [] h.inside) [
    | inl x ↦ absurd (differ x.0)
    | inr x ↦ ap (λ (qs : List (List Item)). get_or qs other []) h.queued.queues ∙ x.1
  ]

  -- the items of a shard's queue keep their numbers
  queue_keeps : (shard : ℕ) → map (asked_by new) (queue_of new.buffer shard) ≡ map (asked_by old) (queue_of new.buffer shard)
  queue_keeps shard = items_keep old new (queue_of new.buffer shard) (λ i c. number_on i.id (item_live new shard i behind c))

  ordered_on : Ordered old new id key asks ns (next_by old n)
  ordered_on = record {
    callbacks = mails_keep old new new.mails.mails (λ x c. number_on (id_of x) (mail_live new x behind c)) ∙ ap (map (callback_by old)) h.posted ∙ posted_by n;
    queue = queue_keeps (shard_of old.settings key) ∙ ap (map (asked_by old)) here ∙ map-append (asked_by old) (queue_of old.buffer (shard_of old.settings key)) (items_for id key asks);
    others = λ other differ. queue_keeps other ∙ ap (map (asked_by old)) (elsewhere other differ);
    numbers = λ shard name c. number_on name.id (out_live new shard (at new.contexts name.id)
        (behind.out shard name (subst (λ (names : List Name). Contains names name) (sym (λ j. slice_index_or (h.outs j).items shard [])) c)));
  }

-- and a timer that fires then
ordered_fires : (old a b : Controller) (id : Id) (key : Key) (asks : List Ask) (ns : List Mail) (rs : List Ran) (f : Fired) → IsFlow a → a.outs ≡ old.outs → Ordered old a id key asks ns rs → FiresAt a b key f
    → Ordered old b id key asks ns (rs ++ ran.Start f.context ∷ [])
ordered_fires old a b id key asks ns rs f flow outs o h =
    let p : Posts a b (ran.Start f.context ∷ []) = posts_fires a b key f flow h in
    record {
      callbacks = p.callbacks ∙ ap (λ (ys : List Ran). ys ++ ran.Start f.context ∷ []) o.callbacks ∙ append_assoc (map (callback_by old) ns) rs (ran.Start f.context ∷ []);
      queue = p.queues (shard_of old.settings key) ∙ o.queue;
      others = λ other differ. p.queues other ∙ o.others other differ;
      numbers = λ shard name c. p.numbers shard name (subst (λ (names : List Name). Contains names name) (sym (λ j. slice_index_or (outs j).items shard [])) c) ∙ o.numbers shard name c;
    }

-- ---- what comes next, as the control has it

begun_stage : (p : Program) (ms : List Mail) (id : Id) (o : Option Machine) (st : Stage) (n : ℕ) → is_none o ≡ false → StageStands p ms id o st → stage_begins n st ≡ []
begun_stage p ms id None st n e x = absurd (cc e)
begun_stage p ms id (Some c) Unbegun n e x = absurd x
begun_stage p ms id (Some c) (Begun r) n e x = refl

unbegun_stage : (p : Program) (ms : List Mail) (id : Id) (o : Option Machine) (st : Stage) (n : ℕ) → is_none o ≡ true → StageStands p ms id o st → stage_begins n st ≡ ran.Start n ∷ []
unbegun_stage p ms id None Unbegun n e x = refl
unbegun_stage p ms id None (Begun r) n e x = absurd x
unbegun_stage p ms id (Some c) st n e x = absurd (cc e)

-- the owner has begun
none_begins : (p : Program) (ms : List Mail) (s : Slots Record) (key : Key) (id : Id) (g : Held Record) → at s id ≡ Some g → is_none g.payload.machine ≡ false → (o : Option Id) (c : Option Context) → o ≡ Some id
    → OwnerStands p ms s key o c → owner_begins c ≡ []
none_begins p ms s key id g there begun o c owns x =
    let it : HeldAs p ms key id g c = held_as p ms s key id g there o c owns x in
    ap owner_begins it.owner ∙ begun_stage p ms id g.payload.machine it.context.stage it.context.number begun it.stands.stage

row_begins : (p : Program) (ms : List Mail) (key : Key) (j : Id) (o : Option (Held Record)) (c : Context) → IsUnbegunOf key o → ContextStands p ms key j o c → ran.Start (number_in o) ∷ [] ≡ owner_begins (Some c)
row_begins p ms key j None c u x = absurd x
row_begins p ms key j (Some y) c u x = ap (λ (n : ℕ). ran.Start n ∷ []) x.number ∙ sym (unbegun_stage p ms j y.payload.machine c.stage c.number u.1 x.stage)

-- the row in front owns the key, and is to begin
next_begins : (old : Controller) (p : Program) (ms : List Mail) (s : Slots Record) (key : Key) (is : List Waiter) (c : Option Context) → OwnerStands p ms s key (taken_up is).owner c
    → ((i : Id) → next_is i (next_of is) ≡ true → (at s i ≡ at old.contexts i) × IsUnbegunOf key (at old.contexts i)) → next_by old (next_of is) ≡ owner_begins c
next_begins old p ms s key [] None x f = refl
next_begins old p ms s key [] (Some c) x f = absurd x
next_begins old p ms s key (item.Row j ∷ is) None x f = absurd x
next_begins old p ms s key (item.Row j ∷ is) (Some c) x f =
    let it : (at s j ≡ at old.contexts j) × IsUnbegunOf key (at old.contexts j) = f j (same_self j) in
    row_begins p ms key j (at old.contexts j) c it.1 (subst (λ (o : Option (Held Record)). ContextStands p ms key j o c) it.0 x)
next_begins old p ms s key (item.Mark e w fired ∷ is) None x f = refl
next_begins old p ms s key (item.Mark e w fired ∷ is) (Some c) x f = absurd x

idle_begins : (o : Option Context) (ws : List Waiting) → is_idle_with o ws ≡ true → owner_begins o ≡ []
idle_begins None ws e = refl
idle_begins (Some c) [] e = absurd (cc e)
idle_begins (Some c) (Row n d f ∷ ws) e = absurd (cc e)
idle_begins (Some c) (Mark d w more ∷ ws) e = absurd (cc e)

mark_begins : (old : Controller) (is : List Waiter) → (taken_up is).owner ≡ None → next_by old (next_of is) ≡ []
mark_begins old [] e = refl
mark_begins old (item.Row j ∷ is) e = absurd (cc e)
mark_begins old (item.Mark d w fired ∷ is) e = refl

-- ---- the end of a callback

module _ (old : Controller) (id : Id) (m : Mail) (ns : List Mail) (s : Slots Record) (h : Held Record) (payload : Record) (t : Turn) (was xs : List Asking)
    (sound : IsSound old) (calls : CallsAt old id m ns s h payload t was xs) (after : MachineControl) where
  -- what runs next, by the control behind the event
  abbrev to_begin : Option Fired → List Ran
  to_begin fired = owner_begins (after.controls payload.facts.key).owner ++ firing_begins fired

  waits_order : (mid b : Controller) → Behind old mid id payload.facts.key t.asks ns → WaitsOn mid b id (with_more old id m ns s h payload t was xs sound calls) → StandsFor b after
      → Ordered old b id payload.facts.key t.asks ns (to_begin None)
  waits_order mid b x w y =
      let on : FlowsOn old b id payload.facts.key t.asks next.Free m ns was xs = waits_on old id m ns s h payload t was xs sound calls mid b x w in
      let left : WaitsFor b id payload.facts.key xs (record h { payload = payload; count = h.count + length t.asks - 1 }) = subst (λ (o : Option (Held Record)). Left b id payload.facts.key xs o) w.left on.left in
      let none : owner_begins (after.controls payload.facts.key).owner ≡ [] =
      none_begins b.program b.mails.mails b.contexts payload.facts.key id (record h { payload = payload; count = h.count + length t.asks - 1 }) w.left left.begun (owner_of b.accounts payload.facts.key)
      (after.controls payload.facts.key).owner left.owner (y.stands.keys payload.facts.key).owner in
      subst (Ordered old b id payload.facts.key t.asks ns) (ap (λ (rs : List Ran). rs ++ []) (sym none)) (ordered_on old b id payload.facts.key t.asks next.Free m ns was xs sound.flow on)

  hands_order : (mid g b : Controller) → Behind old mid id payload.facts.key t.asks ns → IsGivenUp mid g id (with_more old id m ns s h payload t was xs sound calls) → HandsOver g b payload.facts.key → StandsFor b after
      → Ordered old b id payload.facts.key t.asks ns (to_begin None)
  hands_order mid g b x given hands y =
      let on : FlowsOn old b id payload.facts.key t.asks (next_of (waits_next g payload.facts.key)) m ns was xs = hands_on old id m ns s h payload t was xs sound calls mid g b x given hands in
      let owner : OwnerStands b.program b.mails.mails b.contexts payload.facts.key (taken_up (waits_next g payload.facts.key)).owner (after.controls payload.facts.key).owner =
      subst (λ (p : Part). OwnerStands b.program b.mails.mails b.contexts payload.facts.key p.owner (after.controls payload.facts.key).owner) hands.part.own (y.stands.keys payload.facts.key).owner in
      let begins : next_by old (next_of (waits_next g payload.facts.key)) ≡ owner_begins (after.controls payload.facts.key).owner =
      next_begins old b.program b.mails.mails b.contexts payload.facts.key (waits_next g payload.facts.key) (after.controls payload.facts.key).owner owner
      (λ i e. (on.others i (other_ids id i (on.next i e).0), (on.next i e).1)) in
      subst (Ordered old b id payload.facts.key t.asks ns) (begins ∙ sym (append-nil (owner_begins (after.controls payload.facts.key).owner)))
      (ordered_on old b id payload.facts.key t.asks (next_of (waits_next g payload.facts.key)) m ns was xs sound.flow on)

  fires_order : (mid g c b : Controller) (f : Fired) → Behind old mid id payload.facts.key t.asks ns → IsGivenUp mid g id (with_more old id m ns s h payload t was xs sound calls) → HandsOver g c payload.facts.key
      → FiresAt c b payload.facts.key f → is_idle_on (after.controls payload.facts.key) ≡ true → Ordered old b id payload.facts.key t.asks ns (to_begin (Some f))
  fires_order mid g c b f x given hands fires idle =
      let on : FlowsOn old c id payload.facts.key t.asks (next_of (waits_next g payload.facts.key)) m ns was xs = hands_on old id m ns s h payload t was xs sound calls mid g c x given hands in
      let none : next_by old (next_of (waits_next g payload.facts.key)) ≡ [] = mark_begins old (waits_next g payload.facts.key) (sym (ap (λ (p : Part). p.owner) hands.part.own) ∙ fires.none) in
      let begins : owner_begins (after.controls payload.facts.key).owner ≡ [] = idle_begins (after.controls payload.facts.key).owner (after.controls payload.facts.key).waiting idle in
      subst (Ordered old b id payload.facts.key t.asks ns) (ap (λ (rs : List Ran). rs ++ ran.Start f.context ∷ []) (none ∙ sym begins))
      (ordered_fires old c b id payload.facts.key t.asks ns (next_by old (next_of (waits_next g payload.facts.key))) f
      (flow_on old c id payload.facts.key t.asks (next_of (waits_next g payload.facts.key)) m ns was xs sound.flow on) on.outs
      (ordered_on old c id payload.facts.key t.asks (next_of (waits_next g payload.facts.key)) m ns was xs sound.flow on) fires)

  ends_order : (mid b : Controller) (gone : Bool) (fired : Option Fired) → Behind old mid id payload.facts.key t.asks ns → EndsBy mid b id (with_more old id m ns s h payload t was xs sound calls) gone fired
      → FiresNext old b fired after → Ordered old b id payload.facts.key t.asks ns (to_begin fired)
  ends_order mid b false None x e y = waits_order mid b x e y
  ends_order mid b false (Some f) x e y = absurd e
  ends_order mid b true None x e y = hands_order mid e.mid b x e.given e.goes.1 y
  ends_order mid b true (Some f) x e y = fires_order mid e.mid e.goes.0 b f x e.given e.goes.1.0 e.goes.1.1
      (ap (λ (k : Key). is_idle_on (after.controls k)) (sym e.goes.1.1.named) ∙ y.1.made.allowed.1)

  call_order : (b : Controller) (f : Effects) → CallEnds (after_run old id m ns s h payload t was xs sound calls) b id (as_held old id m ns s h payload t was xs sound calls) t f → FiresNext old b f.fired after
      → Ordered old b id payload.facts.key t.asks ns (to_begin f.fired)
  call_order b f e y = ends_order e.mid b f.gone f.fired (done_behind old id m ns s h payload t was xs sound calls e.mid e.done) e.ends y

-- ---- the callback that ran

asks_by : (old : Controller) (id : Id) (key : Key) (asks : List Ask) (n : ℕ) → number_at old id ≡ n → map (asked_by old) (items_for id key asks) ≡ asks_of n (asks_in asks)
asks_by old id key [] n e = refl
asks_by old id key (a ∷ as') n e = λ j. record { context = e j; slot = a.slot } ∷ asks_by old id key as' n e j

module _ (old : Controller) (id : Id) (m : Mail) (ns : List Mail) (s : Slots Record) (h : Held Record) (payload : Record) (t : Turn) (was xs : List Asking)
    (sound : IsSound old) (calls : CallsAt old id m ns s h payload t was xs) (c : MachineControl) (b : Controller) (f : Effects)
    (ends : CallEnds (after_run old id m ns s h payload t was xs sound calls) b id (as_held old id m ns s h payload t was xs sound calls) t f) (runs : Runs old b f c)
    (asks : (outcome_on (shown_program old.program) (event_of f.key f.ran) c).asks ≡ asks_in t.asks) (said : callback_by old m ≡ f.ran) (number : number_of f.ran ≡ h.number) where
  abbrev behind_it : MachineControl
  behind_it = happens_on (shown_program old.program) (event_of f.key f.ran) None c

  order : Ordered old b id payload.facts.key t.asks ns (owner_begins (behind_it.controls payload.facts.key).owner ++ firing_begins f.fired)
  order = call_order old id m ns s h payload t was xs sound calls behind_it b f ends runs.next

  numbered : number_at old id ≡ number_of f.ran
  numbered = ap number_in calls.there ∙ sym number

  runs_first : RunsFirst old b f c
  runs_first = record {
    rest = map (callback_by old) ns;
    first = ap (map (callback_by old)) calls.taken ∙ ap (λ (r : Ran). r ∷ map (callback_by old) ns) said;
    next = order.callbacks ∙ ap (λ (k : Key). map (callback_by old) ns ++ (owner_begins (behind_it.controls k).owner ++ firing_begins f.fired)) (sym ends.key);
    queue = ap (λ (k : Key). queue_in b (shard_of old.settings k)) ends.key ∙ order.queue
        ∙ ap (λ (ys : List Asked). queue_in old (shard_of old.settings payload.facts.key) ++ ys)
        (asks_by old id payload.facts.key t.asks (number_of f.ran) numbered ∙ ap (asks_of (number_of f.ran)) (sym asks))
        ∙ ap (λ (k : Key). queue_in old (shard_of old.settings k) ++ asks_of (number_of f.ran) (outcome_on (shown_program old.program) (event_of f.key f.ran) c).asks) (sym ends.key);
    others = λ other differ. order.others other (λ e. differ (e ∙ ap (shard_of old.settings) (sym ends.key)));
    numbers = order.numbers;
  }

start_said : (old : Controller) (id : Id) (m : Mail) → IsStartOf id m → callback_by old m ≡ ran.Start (number_at old id)
start_said old id (mail.Start i) e = ap (λ (j : Id). ran.Start (number_at old j)) e
start_said old id (mail.Fire i) e = ap (λ (j : Id). ran.Start (number_at old j)) e
start_said old id (mail.Reply i slot answer) e = absurd e

module _ (old b : Controller) (id : Id) (m : Mail) (ns : List Mail) (f : Effects) (sound : IsSound old) (taken : old.mails.mails ≡ m ∷ ns) (c : MachineControl) (stands : StandsFor old c) (runs : Runs old b f c) where
  -- a handler begins
  pub first_start : IsStartOf id m → Has old.contexts id (λ h. f.ran ≡ ran.Start h.number) → Has old.contexts id (Started (behind_mail old ns) b id f) → RunsFirst old b f c
  first_start start said started = both_there (at old.contexts id) said started of
    where
      of : (h : Held Record) → at old.contexts id ≡ Some h → f.ran ≡ ran.Start h.number → Started (behind_mail old ns) b id f h → RunsFirst old b f c
      of h there is it =
          let calls : CallsAt old id m ns it.contexts h it.begun.payload it.turn [] (asks_in it.turn.asks) =
          start_calls old id m ns sound taken start h there it.contexts it.begun.payload it.turn it.begun.begins it.begun.paid in
          let by : Calls old c ns id h it.begun.begins.after it.turn (Start h.payload.facts.key) = calls_start old c m ns id h it.contexts it.turn sound.flow stands taken start there it.begun in
          let key : f.key ≡ h.payload.facts.key = it.ended.key ∙ ap (λ (r : Record). r.facts.key) it.begun.begins.there in
          let event : event_of f.key f.ran ≡ Start h.payload.facts.key = λ j. event_of (key j) (is j) in
          runs_first old id m ns it.contexts h it.begun.payload it.turn [] (asks_in it.turn.asks) sound calls c b f it.ended runs
          (ap (λ (e : Happening). (outcome_on (shown_program old.program) e c).asks) event ∙ by.asks ∙ ap (λ (y : AnyTurn). y.asks) by.left)
          (start_said old id m start ∙ ap ran.Start (ap number_in there) ∙ sym is) (ap number_of is)

  -- it is given an answer
  pub first_reply : (slot : ℕ) (answer : Answer) → m ≡ mail.Reply id slot answer → Has old.contexts id (λ h. f.ran ≡ ran.Reply h.number slot)
      → Has old.contexts id (Replied (behind_mail old ns) b id slot answer f) → RunsFirst old b f c
  first_reply slot answer replies said replied = both_there (at old.contexts id) said replied of
    where
      in_front : old.mails.mails ≡ mail.Reply id slot answer ∷ ns
      in_front = taken ∙ ap (λ (x : Mail). x ∷ ns) replies

      of : (h : Held Record) → at old.contexts id ≡ Some h → f.ran ≡ ran.Reply h.number slot → Replied (behind_mail old ns) b id slot answer f h → RunsFirst old b f c
      of h there is it = code h.payload.machine refl it.resumed.resumed
        where
          code : (o : Option Machine) → h.payload.machine ≡ o → ResumedAt old.program h.payload it.resumed.payload o slot answer it.turn → RunsFirst old b f c
          code None d y = absurd y
          code (Some k) d y =
              let xs : List Asking = replaced slot (asks_in it.turn.asks) (waiting (machine.control_of old.program k)) in
              let calls : CallsAt old id (mail.Reply id slot answer) ns it.contexts h it.resumed.payload it.turn (waiting (machine.control_of old.program k)) xs =
              reply_calls old id slot answer ns sound in_front h there k d it.contexts it.resumed.payload it.turn y it.resumed.paid in
              let by : CallsBy old c ns id h it.resumed.payload it.turn (Deliver h.payload.facts.key slot) = calls_reply old c ns id slot answer h it.contexts it.turn sound.flow stands in_front there it.resumed in
              let key : f.key ≡ h.payload.facts.key = it.ended.key ∙ ap (λ (r : Record). r.facts.key) y.there in
              let event : event_of f.key f.ran ≡ Deliver h.payload.facts.key slot = λ j. event_of (key j) (is j) in
              runs_first old id (mail.Reply id slot answer) ns it.contexts h it.resumed.payload it.turn (waiting (machine.control_of old.program k)) xs sound calls c b f it.ended runs
              (ap (λ (e : Happening). (outcome_on (shown_program old.program) e c).asks) event ∙ by.calls.asks ∙ ap (λ (y : AnyTurn). y.asks) by.calls.left)
              (ap (λ (n : ℕ). ran.Reply n slot) (ap number_in there) ∙ sym is) (ap number_of is)
