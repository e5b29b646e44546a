-- The flow of the requests where a handler begins, and where it is given an answer.
use Rattle.std.proofs.Common.{◌≡◌, ℕ, ◌+◌, ◌*◌, ◌≤◌, ◌<◌, nat_eq, ℤ, Bool, true, false, ◌&&◌, List, [], ◌∷◌, map, length, Option, Some, None, IsSomeAnd, is_none, refl, sym, ap, ◌∙◌, subst, Contains, cond, arith, eqb-true}
use Rattle.std.specs.Str.{bytes_eq}
use Rattle.std.specs.List.{list_any, slice_index_or}
use Rattle.std.proofs.lemmas.Bool.{eq-eqb}
use Rattle.std.proofs.lemmas.List.{length-map}
use Rattle.std.proofs.lemmas.Nat.{mod_below}
use Rattle.ax_keys.proofs.RangeLemmas.{index_below}
use Rattle.ax_keys.specs.Groups.{group, spread, hash_of}
use Rattle.ax_text.specs.declared.vocabulary.Answer.{Answer}
use Rattle.ax_text.specs.declared.vocabulary.Request.{Request}
use Rattle.ax_text.specs.Exprs.{Facts}
use Rattle.ax_text.specs.Prints.{has}
use Rattle.ax_text.specs.Programs.{program_width}
use Rattle.ax_text.specs.Controls.{Ask' as Asked, Control, slots, waiting, replaced}
use Rattle.ax_text.specs.Underway.{Differ}
use Rattle.ax_text.proofs.Asked.{slots_waiting}
use Rattle.ax_text.proofs.Slots.{split_differ}
use Rattle.ax_lang.specs.Shown.{shown_program}
use Rattle.ax_lang.specs.declared.program.Program.{Program}
use Rattle.ax_future.specs.declared.callback.Ask.{Ask}
use Rattle.ax_future.specs.declared.callback.Turn.{Turn}
use Rattle.ax_future.specs.declared.machine.Machine.{Machine}
use Rattle.ax_future.specs.Machines as machine
use Rattle.ax_future.specs.Talks.{asks_in}
use Rattle.ax_machine.specs.Entries.{Key}
use Rattle.ax_context.specs.declared.id.Id.{Id}
use Rattle.ax_context.specs.declared.contexts.Context.{Context as Held}
use Rattle.ax_context.specs.Slots.{Slots, at, Has, IsPaid, OthersStay}
use Rattle.ax_account.specs.declared.part.Waiting.{Waiting as Waiter}
use Rattle.ax_account.specs.declared.part.Waiting.TheVariants as item
use Rattle.ax_account.specs.declared.part.Next.{Next}
use Rattle.ax_account.specs.declared.part.Next.TheVariants as next
use Rattle.ax_account.specs.Parts.{Part, next_of}
use Rattle.ax_account.specs.Accounts.{Accounts, owner_of, waiting_of, part_of}
use Rattle.ax_mailbox.specs.declared.mail.Mail.{Mail}
use Rattle.ax_mailbox.specs.declared.mail.Mail.TheVariants as mail
use Rattle.ax_time.specs.Epochs.{Book}
use Rattle.ax_time.specs.Timers.{times_of}
use Rattle.ax_execution.specs.Contexts.{Stage, Unbegun, Begun, row_context, Waiting, Row, Mark}
use Rattle.ax_execution.specs.Counts.{references, one_at, rows_numbered}
use Rattle.ax_execution.specs.Reached.{IsOrderly}
use Rattle.ax_execution.proofs.ReachedOrderly.{reached_orderly}
use Rattle.ax_execution.proofs.Upto.{by_cases}
use Rattle.ax_core.specs.declared.record.Record.{Record}
use Rattle.ax_core.specs.declared.record.Name.{Name}
use Rattle.ax_core.specs.declared.effects.Fired.{Fired}
use Rattle.ax_core.specs.declared.effects.Effects.{Effects}
use Rattle.ax_core.specs.declared.settings.Settings.{Settings}
use Rattle.ax_core.specs.declared.controller.Controller.{Controller}
use Rattle.ax_core.specs.Contexts.{same_id, StageStands, IsContext, ContextStands, waits_in, waits_at}
use Rattle.ax_core.specs.Keys.{ItemsStand}
use Rattle.ax_core.specs.Flow.{shard_of, one_if, answers_as, answered_as, starts_as, started_as, in_queues, in_outs, waits_for, is_owner, is_to_start, IsFlow}
use Rattle.ax_core.specs.Sound.{InRange, rules_of, HasRooms, IsSound}
use Rattle.ax_core.specs.Events.{SameRules, KeysStay}
use Rattle.ax_core.specs.Firings.{FiresAt}
use Rattle.ax_core.specs.Order.{number_in}
use Rattle.ax_core.specs.Callbacks.{with_machine, Begins, Resumed, ResumedAt, items_for, IsQueued, with_start, behind_marks, fires, waits_next, HandsOver, GoesOn}
use Rattle.ax_core.specs.Calls.{IsDone, WaitsOn, IsGivenUp, EndsBy, CallEnds, Started, Replied}
use Rattle.ax_core.proofs.AskLemmas.{none_left}
use Rattle.ax_core.proofs.CalledFlow.{Left, FlowsOn, flow_on, keys_on}
use Rattle.ax_core.proofs.CalledLemmas.{once_begun, once_given}
use Rattle.ax_core.proofs.CallLemmas.{begun_references, given_references}
use Rattle.ax_core.proofs.EventLemmas.{no_row_numbered}
use Rattle.ax_core.proofs.FiresFlow.{flow_fires}
use Rattle.ax_core.proofs.Flows.{same_self, same_is}
use Rattle.ax_core.proofs.Frames.{KeyIn}
use Rattle.ax_core.proofs.Fronts.{behind_mail, HeldAs, held_as, IsStartOf, start_quiet, start_as, IsToStart, is_to_start_there, IsToGive, is_to_give_there}
use Rattle.ax_core.proofs.KeysStay.{keys_made}
use Rattle.ax_core.proofs.Replaced.{contains_none, replaced_keeps, replaced_has}
use Rattle.ax_core.proofs.Sends.{accepted}
use Rattle.ax_core.proofs.StartLemmas.{next_is, IsUnbegunOf, next_owns}

-- a key's shard is one of all
pub shard_inside : (s : Settings) (key : Key) → InRange s → shard_of s key < s.shards
shard_inside s key r = index_below (group key s.groups) s.groups s.shards r.shards.0.0 r.shards.1 (mod_below (spread (hash_of key)) s.groups r.shards.0.0)

-- ---- the row that comes next at a key

-- a row that waits for the key, with another number
record NextRow (p : Program) (ms : List Mail) (s : Slots Record) (key : Key) (i : Id) (number : ℕ) : Type 0 where
  own : ℕ
  epoch : ℕ
  facts : Facts
  stands : ContextStands p ms key i (at s i) (row_context own epoch facts)
  other : one_at number own ≡ 0

module _ (p : Program) (ms : List Mail) (s : Slots Record) (key : Key) (times : List ℤ) (number : ℕ) (i : Id) where
  at_mark : (b : Bool) (e : ℕ) (w : ℤ) (fired : ℕ) (is : List Waiter) → (next_is i (next_of (behind_marks times is)) ≡ true → NextRow p ms s key i number)
      → next_is i (next_of (cond b (item.Mark e w fired ∷ is) (behind_marks times is))) ≡ true → NextRow p ms s key i number
  at_mark true e w fired is rest x = absurd (cc x)
  at_mark false e w fired is rest x = rest x

  next_row : (is : List Waiter) (ws : List Waiting) → ItemsStand p ms s key is ws → rows_numbered number ws ≡ 0 → next_is i (next_of (behind_marks times is)) ≡ true → NextRow p ms s key i number
  next_row [] ws h none x = absurd (cc x)
  next_row (y ∷ is) [] h none x = absurd h
  next_row (item.Row j ∷ is) (Row n e f ∷ ws) h none x =
      let sum : one_at number n + rows_numbered number ws ≡ 0 = none in
      record { own = n; epoch = e; facts = f; stands = subst (λ (k : Id). ContextStands p ms key k (at s k) (row_context n e f)) (same_is j i x) h.0; other = omega (arith, sum) }
  next_row (item.Row j ∷ is) (Mark e w more ∷ ws) h none x = absurd h.0
  next_row (item.Mark u v fired ∷ is) (Row n e f ∷ ws) h none x = absurd h.0
  next_row (item.Mark u v fired ∷ is) (Mark e w more ∷ ws) h none x = at_mark (fires v fired times) u v fired is (next_row is ws h.1 none) x

unbegun_machine : (p : Program) (ms : List Mail) (i : Id) (o : Option Machine) → StageStands p ms i o Unbegun → is_none o ≡ true
unbegun_machine p ms i None x = refl
unbegun_machine p ms i (Some c) x = absurd x

unbegun_of : (p : Program) (ms : List Mail) (key : Key) (i : Id) (o : Option (Held Record)) (n e : ℕ) (f : Facts) → ContextStands p ms key i o (row_context n e f) → IsUnbegunOf key o
unbegun_of p ms key i None n e f x = absurd x
unbegun_of p ms key i (Some h) n e f x = (x.job.key, unbegun_machine p ms i h.payload.machine x.stage)

-- ---- what both kinds of mail have in common

-- a mail was taken, and the handler of its context has run: what it asks, and what it waits for then
pub record CallsAt (old : Controller) (id : Id) (m : Mail) (ns : List Mail) (s : Slots Record) (h : Held Record) (payload : Record) (t : Turn) (was xs : List Asked) : Type 0 where
  pub there : at old.contexts id ≡ Some h
  pub paid : IsPaid old.contexts s id payload
  pub after : Machine
  pub made : payload ≡ with_machine h.payload after
  pub owned : owner_of old.accounts payload.facts.key ≡ Some id
  pub waited : waits_at old.program (at old.contexts id) ≡ was
  pub waits : waiting (machine.control_of old.program after) ≡ xs
  pub count : h.count + length t.asks ≡ 1 + length (slots (machine.control_of old.program after))
  pub asked : (a : Asked) → Contains (asks_in t.asks) a → Contains xs a
  pub keeps : (slot : ℕ) (q : Request) → 1 ≤ in_queues old id slot → Contains was (record { slot = slot; request = q }) → Contains xs (record { slot = slot; request = q })
  pub taken : old.mails.mails ≡ m ∷ ns
  pub starts : (i : Id) → same_id id i ≡ false → starts_as i m ≡ 0
  pub answers : (i : Id) (slot : ℕ) → same_id id i ≡ false → answers_as i slot m ≡ 0
  pub started : started_as id ns ≡ 0
  pub once : (b : Controller) (n : Next) → IsQueued old.buffer b.buffer (shard_of old.settings payload.facts.key) (items_for id payload.facts.key t.asks) → b.outs ≡ old.outs → b.mails.mails ≡ with_start n ns
      → waits_at b.program (at b.contexts id) ≡ xs
      → (slot : ℕ) → in_queues b id slot + (in_outs b id slot + answered_as id slot b.mails.mails) ≡ one_if (waits_for (waits_at b.program (at b.contexts id)) slot)

-- before the key goes on: all that is as it was, the requests, and the mails that are left
pub record Behind (old b : Controller) (id : Id) (key : Key) (asks : List Ask) (ns : List Mail) : Type 0 where
  program : b.program ≡ old.program
  settings : b.settings ≡ old.settings
  outs : b.outs ≡ old.outs
  accounts : b.accounts ≡ old.accounts
  mails : b.mails.mails ≡ ns
  queued : IsQueued old.buffer b.buffer (shard_of old.settings key) (items_for id key asks)
  others : OthersStay old.contexts b.contexts id
  limit : b.contexts.limit ≡ old.contexts.limit
  room : b.mails.room ≡ old.mails.room

-- what a callback leaves: the flow, what is out, the rules and the rooms
pub record Follows (old b : Controller) : Type 0 where
  pub flow : IsFlow b
  pub outs : b.outs ≡ old.outs
  pub keys : KeysStay old b
  pub program : b.program ≡ old.program
  pub settings : b.settings ≡ old.settings
  pub limit : b.contexts.limit ≡ old.contexts.limit
  pub requests : b.buffer.room ≡ old.buffer.room
  pub room : b.mails.room ≡ old.mails.room

pub follows_rules : (old b : Controller) → Follows old b → SameRules old b
follows_rules old b x = record { program = x.program; settings = x.settings }

pub follows_rooms : (old b : Controller) → Follows old b → HasRooms old → HasRooms b
follows_rooms old b x h = record {
  contexts = x.limit ∙ h.contexts ∙ sym (ap (λ (s : Settings). s.in_flight) x.settings);
  requests = x.requests ∙ h.requests ∙ sym (λ j. (x.settings j).in_flight * program_width (shown_program (x.program j)));
  mails = x.room ∙ h.mails ∙ sym (λ j. (x.settings j).in_flight * (program_width (shown_program (x.program j)) + 1));
}

-- and a timer that fires then
pub follows_fires : (old a b : Controller) (key : Key) (f : Fired) → Follows old a → FiresAt a b key f → Follows old b
follows_fires old a b key f x h = record {
  flow = subst IsFlow (sym h.same) (flow_fires a b key f h h.none x.flow);
  outs = ap (λ (c : Controller). c.outs) h.same ∙ x.outs;
  keys = λ shard n c.
      keys_made a b h.id x.flow h.free h.others shard n (subst (λ (ns : List Name). Contains ns n) (sym (λ j. slice_index_or (x.outs j).items shard [])) c) ∙ x.keys shard n c;
  program = ap (λ (c : Controller). c.program) h.same ∙ x.program;
  settings = ap (λ (c : Controller). c.settings) h.same ∙ x.settings;
  limit = h.limit ∙ x.limit;
  requests = ap (λ (c : Controller). c.buffer.room) h.same ∙ x.requests;
  room = h.room ∙ x.room;
}

module _ (old : Controller) (id : Id) (m : Mail) (ns : List Mail) (s : Slots Record) (h : Held Record) (payload : Record) (t : Turn) (was xs : List Asked)
    (sound : IsSound old) (calls : CallsAt old id m ns s h payload t was xs) where
  -- the controller once the handler has run, and what is held of its context then
  abbrev pub ran : Controller
  ran = record old { mails = record { mails = ns; room = old.mails.room }; contexts = s }

  abbrev pub held : Held Record
  held = record h { payload = payload }

  abbrev pub more : Held Record
  more = record h { payload = payload; count = h.count + length t.asks }

  key_is : h.payload.facts.key ≡ payload.facts.key
  key_is = sym (ap (λ (r : Record). r.facts.key) calls.made)

  pub done_behind : (mid : Controller) → IsDone ran mid id held t → Behind old mid id payload.facts.key t.asks ns
  done_behind mid done = record {
    program = ap (λ (c : Controller). c.program) done.same;
    settings = ap (λ (c : Controller). c.settings) done.same;
    outs = ap (λ (c : Controller). c.outs) done.same;
    accounts = ap (λ (c : Controller). c.accounts) done.same;
    mails = ap (λ (c : Controller). c.mails.mails) done.same;
    queued = done.queued;
    others = λ i differ. done.held.others i differ ∙ calls.paid.others i differ;
    limit = done.held.limit ∙ calls.paid.limit;
    room = ap (λ (c : Controller). c.mails.room) done.same;
  }

  ended_behind : (mid b : Controller) (cs : Slots Record) (book : Book) → b ≡ record mid { contexts = cs; epochs = book } → OthersStay mid.contexts b.contexts id → b.contexts.limit ≡ mid.contexts.limit
      → Behind old mid id payload.facts.key t.asks ns → Behind old b id payload.facts.key t.asks ns
  ended_behind mid b cs book same others limit x = record {
    program = ap (λ (c : Controller). c.program) same ∙ x.program;
    settings = ap (λ (c : Controller). c.settings) same ∙ x.settings;
    outs = ap (λ (c : Controller). c.outs) same ∙ x.outs;
    accounts = ap (λ (c : Controller). c.accounts) same ∙ x.accounts;
    mails = ap (λ (c : Controller). c.mails.mails) same ∙ x.mails;
    queued = subst (λ (c : Controller). IsQueued old.buffer c.buffer (shard_of old.settings payload.facts.key) (items_for id payload.facts.key t.asks)) (sym same) x.queued;
    others = λ i differ. others i differ ∙ x.others i differ;
    limit = limit ∙ x.limit;
    room = ap (λ (c : Controller). c.mails.room) same ∙ x.room;
  }

  -- ---- the row that comes next

  orderly : IsOrderly (rules_of old.settings) sound.control
  orderly = reached_orderly (rules_of old.settings) (shown_program old.program) sound.control (accepted old.program) sound.stands.reached

  owner : HeldAs old.program old.mails.mails payload.facts.key id h (sound.control.controls payload.facts.key).owner
  owner = held_as old.program old.mails.mails old.contexts payload.facts.key id h calls.there (part_of old.accounts payload.facts.key).owner (sound.control.controls payload.facts.key).owner calls.owned
      (sound.stands.stands.keys payload.facts.key).owner

  known : list_any (bytes_eq payload.facts.key) sound.control.keys ≡ true
  known = by_cases (list_any (bytes_eq payload.facts.key) sound.control.keys) (λ e. e) (λ e. absurd (cc (sym owner.owner ∙ (orderly.absent payload.facts.key e).owner)))

  no_other : rows_numbered owner.context.number (sound.control.controls payload.facts.key).waiting ≡ 0
  no_other = no_row_numbered sound.control payload.facts.key owner.context orderly.numbers known owner.owner

  comes_next : (times : List ℤ) (i : Id) → next_is i (next_of (behind_marks times (waiting_of old.accounts payload.facts.key))) ≡ true → (same_id id i ≡ false) × IsUnbegunOf payload.facts.key (at old.contexts i)
  comes_next times i x =
      let row : NextRow old.program old.mails.mails old.contexts payload.facts.key i owner.context.number =
      next_row old.program old.mails.mails old.contexts payload.facts.key times owner.context.number i (waiting_of old.accounts payload.facts.key) (sound.control.controls payload.facts.key).waiting
      (sound.stands.stands.keys payload.facts.key).items no_other x in (
        by_cases (same_id id i) (λ e. absurd (itself row (same_is id i e))) (λ e. e),
        unbegun_of old.program old.mails.mails payload.facts.key i (at old.contexts i) row.own row.epoch row.facts row.stands,
      )
    where
      itself : (row : NextRow old.program old.mails.mails old.contexts payload.facts.key i owner.context.number) → id ≡ i → ⊥
      itself row e =
          let here : IsContext old.program old.mails.mails payload.facts.key i h (row_context row.own row.epoch row.facts) =
          subst (λ (o : Option (Held Record)). ContextStands old.program old.mails.mails payload.facts.key i o (row_context row.own row.epoch row.facts)) (ap (at old.contexts) (sym e) ∙ calls.there) row.stands in
          let number : row.own ≡ owner.context.number = sym here.number ∙ owner.stands.number in
          let one : one_at owner.context.number row.own ≡ 1 = ap (λ (b : Bool). cond b 1 0) (eq-eqb row.own owner.context.number number) in
          absurd (omega (arith, one, row.other))

  inside : shard_of old.settings payload.facts.key < length old.buffer.queues
  inside = subst (λ (n : ℕ). shard_of old.settings payload.facts.key < n) (sym sound.flow.shards.0) (shard_inside old.settings payload.facts.key sound.ranges)

  has_key : (o : Option (Held Record)) → o ≡ Some h → KeyIn payload.facts.key o
  has_key o e = subst (λ (o : Option (Held Record)). KeyIn payload.facts.key o) (sym e) key_is

  -- ---- its context waits on

  module _ (mid b : Controller) (x : Behind old mid id payload.facts.key t.asks ns) (w : WaitsOn mid b id more) where
    waits_behind : Behind old b id payload.facts.key t.asks ns
    waits_behind = ended_behind mid b b.contexts mid.epochs w.same w.others w.limit x

    machine_is : payload.machine ≡ Some calls.after
    machine_is = ap (λ (r : Record). r.machine) calls.made

    waits_now : waits_in b.program payload.machine ≡ xs
    waits_now = (λ j. waits_in (waits_behind.program j) (machine_is j)) ∙ calls.waits

    pub waits_on : FlowsOn old b id payload.facts.key t.asks next.Free m ns was xs
    waits_on = record {
      named = has_key (at old.contexts id) calls.there;
      owned = calls.owned;
      waited = calls.waited;
      left = subst (λ (o : Option (Held Record)). Left b id payload.facts.key xs o) (sym w.left)
          (record { named = refl; begun = ap is_none machine_is; waits = waits_now; owner = ap (λ (a : Accounts). owner_of a payload.facts.key) waits_behind.accounts ∙ calls.owned });
      number = λ live. ap number_in w.left ∙ sym (ap number_in calls.there);
      others = waits_behind.others;
      program = waits_behind.program;
      settings = waits_behind.settings;
      outs = waits_behind.outs;
      inside = inside;
      queued = waits_behind.queued;
      asked = calls.asked;
      waits = calls.keeps;
      taken = calls.taken;
      posted = waits_behind.mails;
      starts = calls.starts;
      answers = calls.answers;
      started = calls.started;
      owners = λ q differ. ap (λ (a : Accounts). owner_of a q) waits_behind.accounts;
      owner = λ i differ. ap (λ (a : Accounts). is_owner i (owner_of a payload.facts.key)) waits_behind.accounts ∙ ap (is_owner i) calls.owned ∙ differ;
      next = λ i e. absurd (cc e);
      once = calls.once b next.Free waits_behind.queued waits_behind.outs waits_behind.mails (ap (waits_at b.program) w.left ∙ waits_now);
    }

    waits_flow : Follows old b
    waits_flow = record {
      flow = flow_on old b id payload.facts.key t.asks next.Free m ns was xs sound.flow waits_on;
      outs = waits_behind.outs;
      keys = keys_on old b id payload.facts.key t.asks next.Free m ns was xs sound.flow waits_on;
      program = waits_behind.program;
      settings = waits_behind.settings;
      limit = waits_behind.limit;
      requests = waits_behind.queued.room;
      room = waits_behind.room;
    }

  -- ---- or it is given up, and its key is handed over

  waiting_length : (c : Control) → length (slots c) ≡ length (waiting c)
  waiting_length c = ap (λ (ns : List ℕ). length ns) (slots_waiting c) ∙ length-map (waiting c) (λ (a : Asked). a.slot)

  none_waits : more.count ≡ 1 → xs ≡ []
  none_waits last =
      let sum : 1 + length (slots (machine.control_of old.program calls.after)) ≡ 1 = sym calls.count ∙ last in
      let none : 0 ≡ length (waiting (machine.control_of old.program calls.after)) = omega (arith, sum, waiting_length (machine.control_of old.program calls.after)) in
      sym calls.waits ∙ none_left (waiting (machine.control_of old.program calls.after)) none

  module _ (mid g b : Controller) (x : Behind old mid id payload.facts.key t.asks ns) (given : IsGivenUp mid g id more) (hands : HandsOver g b payload.facts.key) where
    given_behind : Behind old g id payload.facts.key t.asks ns
    given_behind = ended_behind mid g g.contexts g.epochs given.same given.others given.limit x

    contexts : b.contexts ≡ g.contexts
    contexts = ap (λ (c : Controller). c.contexts) hands.same

    outs : b.outs ≡ old.outs
    outs = ap (λ (c : Controller). c.outs) hands.same ∙ given_behind.outs

    gone : at b.contexts id ≡ None
    gone = (λ j. at (contexts j) id) ∙ given.free

    posted : b.mails.mails ≡ with_start (next_of (waits_next g payload.facts.key)) ns
    posted = hands.mails ∙ ap (with_start (next_of (waits_next g payload.facts.key))) given_behind.mails

    queued : IsQueued old.buffer b.buffer (shard_of old.settings payload.facts.key) (items_for id payload.facts.key t.asks)
    queued = subst (λ (c : Controller). IsQueued old.buffer c.buffer (shard_of old.settings payload.facts.key) (items_for id payload.facts.key t.asks)) (sym hands.same) given_behind.queued

    pub hands_on : FlowsOn old b id payload.facts.key t.asks (next_of (waits_next g payload.facts.key)) m ns was xs
    hands_on = record {
      named = has_key (at old.contexts id) calls.there;
      owned = calls.owned;
      waited = calls.waited;
      left = subst (λ (o : Option (Held Record)). Left b id payload.facts.key xs o) (sym gone) (none_waits given.last);
      number = λ live. absurd (live gone);
      others = λ i differ. (λ j. at (contexts j) i) ∙ given_behind.others i differ;
      program = ap (λ (c : Controller). c.program) hands.same ∙ given_behind.program;
      settings = ap (λ (c : Controller). c.settings) hands.same ∙ given_behind.settings;
      outs = outs;
      inside = inside;
      queued = queued;
      asked = calls.asked;
      waits = calls.keeps;
      taken = calls.taken;
      posted = posted;
      starts = calls.starts;
      answers = calls.answers;
      started = calls.started;
      owners = λ q differ. ap (λ (p : Part). p.owner) (hands.part.others q differ) ∙ ap (λ (a : Accounts). owner_of a q) given_behind.accounts;
      owner = λ i differ. ap (λ (p : Part). is_owner i p.owner) hands.part.own ∙ next_owns i (waits_next g payload.facts.key);
      next = λ i e. comes_next (times_of g.timers payload.facts.key) i
          (subst (λ (a : Accounts). next_is i (next_of (behind_marks (times_of g.timers payload.facts.key) (waiting_of a payload.facts.key))) ≡ true) given_behind.accounts e);
      once = calls.once b (next_of (waits_next g payload.facts.key)) queued outs posted (ap (waits_at b.program) gone ∙ sym (none_waits given.last));
    }

    hands_flow : Follows old b
    hands_flow = record {
      flow = flow_on old b id payload.facts.key t.asks (next_of (waits_next g payload.facts.key)) m ns was xs sound.flow hands_on;
      outs = outs;
      keys = keys_on old b id payload.facts.key t.asks (next_of (waits_next g payload.facts.key)) m ns was xs sound.flow hands_on;
      program = hands_on.program;
      settings = hands_on.settings;
      limit = ap (λ (c : Controller). c.contexts.limit) hands.same ∙ given_behind.limit;
      requests = queued.room;
      room = hands.room ∙ given_behind.room;
    }

  goes_flow : (mid g b : Controller) (fired : Option Fired) → Behind old mid id payload.facts.key t.asks ns → IsGivenUp mid g id more → GoesOn g b payload.facts.key fired → Follows old b
  goes_flow mid g b None x given goes = hands_flow mid g b x given goes.1
  goes_flow mid g b (Some f) x given goes = follows_fires old goes.0 b payload.facts.key f (hands_flow mid g goes.0 x given goes.1.0) goes.1.1

  ends_flow : (mid b : Controller) (gone : Bool) (fired : Option Fired) → Behind old mid id payload.facts.key t.asks ns → EndsBy mid b id more gone fired → Follows old b
  ends_flow mid b false None x e = waits_flow mid b x e
  ends_flow mid b false (Some f) x e = absurd e
  ends_flow mid b true fired x e = goes_flow mid e.mid b fired x e.given e.goes

  pub call_flow : (b : Controller) (f : Effects) → CallEnds ran b id held t f → Follows old b
  call_flow b f e = ends_flow e.mid b f.gone f.fired (done_behind e.mid e.done) e.ends

-- ---- a handler begins

-- one that hasn't begun waits for nothing, and has one reference
none_waited : (p : Program) (o : Option Machine) → is_none o ≡ true → waits_in p o ≡ []
none_waited p None e = refl
none_waited p (Some c) e = absurd (cc e)

one_reference : (p : Program) (ms : List Mail) (id : Id) (o : Option Machine) (st : Stage) → is_none o ≡ true → StageStands p ms id o st → references st ≡ 1
one_reference p ms id None Unbegun e x = refl
one_reference p ms id None (Begun r) e x = absurd x
one_reference p ms id (Some c) st e x = absurd (cc e)

module _ (old : Controller) (id : Id) (m : Mail) (ns : List Mail) (sound : IsSound old) (taken : old.mails.mails ≡ m ∷ ns) (start : IsStartOf id m) where
  module _ (h : Held Record) (there : at old.contexts id ≡ Some h) where
    to_start : IsToStart old ns id h
    to_start = is_to_start_there old m ns id h sound.flow taken start there

    unbegun : is_none h.payload.machine ≡ true
    unbegun = ap is_none to_start.unbegun

    stands : HeldAs old.program old.mails.mails h.payload.facts.key id h (sound.control.controls h.payload.facts.key).owner
    stands = held_as old.program old.mails.mails old.contexts h.payload.facts.key id h there (part_of old.accounts h.payload.facts.key).owner (sound.control.controls h.payload.facts.key).owner to_start.owns
        (sound.stands.stands.keys h.payload.facts.key).owner

    counted : h.count ≡ 1
    counted = stands.stands.count ∙ one_reference old.program old.mails.mails id h.payload.machine stands.context.stage unbegun stands.stands.stage

    waited : waits_at old.program (at old.contexts id) ≡ []
    waited = ap (waits_at old.program) there ∙ none_waited old.program h.payload.machine unbegun

    pub start_calls : (s : Slots Record) (payload : Record) (t : Turn) → Begins old.program h.payload payload t → IsPaid old.contexts s id payload → CallsAt old id m ns s h payload t [] (asks_in t.asks)
    start_calls s payload t b paid = record {
      there = there;
      paid = paid;
      after = b.after;
      made = b.there;
      owned = ap (λ (r : Record). owner_of old.accounts r.facts.key) b.there ∙ to_start.owns;
      waited = waited;
      waits = b.asks;
      count = ap (λ (n : ℕ). n + length t.asks) counted ∙ begun_references old.program h.payload payload t b;
      asked = λ a c. c;
      keeps = λ slot q some c. absurd (contains_none (record { slot = slot; request = q }) c);
      taken = taken;
      starts = λ i differ. start_as id m start i ∙ ap one_if differ;
      answers = λ i slot differ. start_quiet id m start i slot;
      started = to_start.once;
      once = λ c n queued outs posted waits. once_begun old c id payload.facts.key (shard_of old.settings payload.facts.key) t.asks n m ns (start_quiet id m start)
          (subst (λ (k : ℕ). shard_of old.settings payload.facts.key < k) (sym sound.flow.shards.0) (shard_inside old.settings payload.facts.key sound.ranges))
          queued outs taken posted (same_self id) b.rise waited waits (sound.flow.once id);
    }

  -- behind a start each request that waits stands once on its way, and each owner that hasn't begun is started once
  pub start_follows : (b : Controller) (f : Effects) → Has old.contexts id (Started (behind_mail old ns) b id f) → Follows old b
  start_follows b f x = of (at old.contexts id) refl x
    where
      of : (o : Option (Held Record)) → at old.contexts id ≡ o → IsSomeAnd o (Started (behind_mail old ns) b id f) → Follows old b
      of None e x = absurd x
      of (Some h) e x = call_flow old id m ns x.contexts h x.begun.payload x.turn [] (asks_in x.turn.asks) sound
          (start_calls h e x.contexts x.begun.payload x.turn x.begun.begins x.begun.paid) b f x.ended

  pub flow_start : (b : Controller) (f : Effects) → Has old.contexts id (Started (behind_mail old ns) b id f) → IsFlow b
  flow_start b f x = (start_follows b f x).flow

-- ---- it is given an answer

module _ (old : Controller) (id : Id) (slot : ℕ) (answer : Answer) (ns : List Mail) (sound : IsSound old) (taken : old.mails.mails ≡ mail.Reply id slot answer ∷ ns) where
  module _ (h : Held Record) (there : at old.contexts id ≡ Some h) (code : Machine) (begun : h.payload.machine ≡ Some code) where
    to_give : IsToGive old ns id slot h code
    to_give = is_to_give_there old ns id slot answer h code sound.flow taken there begun

    waited_for : waits_at old.program (at old.contexts id) ≡ waiting (machine.control_of old.program code)
    waited_for = ap (waits_at old.program) there ∙ ap (waits_in old.program) begun

    waits_here : waits_for (waiting (machine.control_of old.program code)) slot ≡ true
    waits_here = ap (has slot) (sym (slots_waiting (machine.control_of old.program code))) ∙ to_give.waits

    owner_held : HeldAs old.program old.mails.mails h.payload.facts.key id h (sound.control.controls h.payload.facts.key).owner
    owner_held = held_as old.program old.mails.mails old.contexts h.payload.facts.key id h there (part_of old.accounts h.payload.facts.key).owner (sound.control.controls h.payload.facts.key).owner to_give.owns
        (sound.stands.stands.keys h.payload.facts.key).owner

    -- it waits for as many requests as it has references
    record Runs : Type 0 where
      count : h.count ≡ length (slots (machine.control_of old.program code))
      holds : machine.IsSound old.program code

    runs : Runs
    runs = of owner_held.context.stage (subst (λ (o : Option Machine). StageStands old.program old.mails.mails id o owner_held.context.stage) begun owner_held.stands.stage) owner_held.stands.count
      where
        of : (st : Stage) → StageStands old.program old.mails.mails id (Some code) st → h.count ≡ references st → Runs
        of Unbegun x e = absurd x
        of (Begun r) x e = record { count = e ∙ ap (λ (c : Control). length (slots c)) (sym x.control); holds = x.sound }

    differ_at : (c : Machine) → machine.IsSound old.program c → Differ (map (λ (a : Asked). a.slot) (waiting (machine.control_of old.program c)))
    differ_at c s = subst Differ (slots_waiting (machine.control_of old.program c)) (split_differ (machine.control_of old.program c) s.split)

    no_start_left : started_as id ns ≡ 0
    no_start_left =
        let sum : 0 + started_as id ns ≡ 0 = ap (started_as id) (sym taken) ∙ sound.flow.starts id ∙ ap (λ (o : Option (Held Record)). one_if (is_to_start old id o)) there
        ∙ ap (λ (o : Option Machine). one_if (is_none o && is_owner id (owner_of old.accounts h.payload.facts.key))) begun in
        omega (arith, sum)

    pub reply_calls : (s : Slots Record) (payload : Record) (t : Turn) → Resumed old.program h.payload payload code slot answer t → IsPaid old.contexts s id payload
        → CallsAt old id (mail.Reply id slot answer) ns s h payload t (waiting (machine.control_of old.program code)) (replaced slot (asks_in t.asks) (waiting (machine.control_of old.program code)))
    reply_calls s payload t g paid = record {
      there = there;
      paid = paid;
      after = g.after;
      made = g.there;
      owned = ap (λ (r : Record). owner_of old.accounts r.facts.key) g.there ∙ to_give.owns;
      waited = waited_for;
      waits = g.asks;
      count = ap (λ (n : ℕ). n + length t.asks) runs.count ∙ given_references old.program h.payload payload code slot answer t g to_give.waits;
      asked = λ a c. replaced_has slot (asks_in t.asks) (waiting (machine.control_of old.program code)) a waits_here c;
      keeps = λ u q some c. replaced_keeps slot (asks_in t.asks) (waiting (machine.control_of old.program code)) (record { slot = u; request = q }) (other u some) c;
      taken = taken;
      starts = λ i differ. refl;
      answers = λ i u differ. ap (λ (b : Bool). one_if (b && nat_eq slot u)) differ;
      started = no_start_left;
      once = λ c n queued outs posted waits. once_given old c id payload.facts.key (shard_of old.settings payload.facts.key) t.asks n slot answer ns
          (subst (λ (k : ℕ). shard_of old.settings payload.facts.key < k) (sym sound.flow.shards.0) (shard_inside old.settings payload.facts.key sound.ranges))
          queued outs taken posted (same_self id) (waiting (machine.control_of old.program code)) g.rise (differ_at code runs.holds)
          (subst (λ (ys : List Asked). Differ (map (λ (a : Asked). a.slot) ys)) g.asks (differ_at g.after g.sound)) waits_here waited_for waits (sound.flow.once id);
    }
      where
        other : (u : ℕ) → 1 ≤ in_queues old id u → nat_eq slot u ≡ false
        other u some = by_cases (nat_eq slot u)
            (λ e. let none : in_queues old id u ≡ 0 = ap (in_queues old id) (sym (eqb-true slot u e)) ∙ to_give.unqueued in absurd (omega (arith, some, none)))
            (λ e. e)

  -- behind an answer, too
  pub reply_follows : (b : Controller) (f : Effects) → Has old.contexts id (Replied (behind_mail old ns) b id slot answer f) → Follows old b
  reply_follows b f x = of (at old.contexts id) refl x
    where
      of : (o : Option (Held Record)) → at old.contexts id ≡ o → IsSomeAnd o (Replied (behind_mail old ns) b id slot answer f) → Follows old b
      of None e x = absurd x
      of (Some h) e x = code h.payload.machine refl x.resumed.resumed
        where
          code : (c : Option Machine) → h.payload.machine ≡ c → ResumedAt old.program h.payload x.resumed.payload c slot answer x.turn → Follows old b
          code None d y = absurd y
          code (Some c) d y = call_flow old id (mail.Reply id slot answer) ns x.contexts h x.resumed.payload x.turn (waiting (machine.control_of old.program c))
              (replaced slot (asks_in x.turn.asks) (waiting (machine.control_of old.program c))) sound (reply_calls h e c d x.contexts x.resumed.payload x.turn y x.resumed.paid) b f x.ended

  pub flow_reply : (b : Controller) (f : Effects) → Has old.contexts id (Replied (behind_mail old ns) b id slot answer f) → IsFlow b
  flow_reply b f x = (reply_follows b f x).flow
