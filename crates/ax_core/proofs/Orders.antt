-- The order of requests and callbacks at calls that post and give.
use Rattle.std.proofs.Common.{◌≡◌, ◌≢◌, ℕ, ◌+◌, ◌≤◌, ◌<◌, Bool, true, false, List, [], ◌∷◌, ◌++◌, map, length, get_or, set, take, drop, Option, Some, None, IsSomeAnd, if◌then◌else◌, refl, sym, ap, ap₂, ◌∙◌, subst, inl, inr, Contains, append-nil, arith}
use Rattle.std.proofs.lemmas.List.{map-append, take-map, drop-map}
use Rattle.ax_buffer.specs.declared.items.Item.{Item}
use Rattle.ax_buffer.specs.declared.items.Reply.{Reply}
use Rattle.ax_buffer.specs.Buffer.{queue_of}
use Rattle.ax_buffer.proofs.ListLemmas.{at_set}
use Rattle.ax_context.specs.declared.id.Id.{Id}
use Rattle.ax_context.specs.declared.contexts.Context.{Context as Held}
use Rattle.ax_context.specs.Slots.{at, Has, OthersStay}
use Rattle.ax_account.specs.declared.part.Occupied.TheVariants.{Owner, Waits}
use Rattle.ax_account.specs.Parts.{is_free}
use Rattle.ax_account.specs.Accounts.{part_of, answer_to}
use Rattle.ax_mailbox.specs.declared.mail.Mail.{Mail}
use Rattle.ax_mailbox.specs.declared.mail.Mail.TheVariants as mail
use Rattle.ax_execution.specs.MachineControls.{MachineControl}
use Rattle.ax_execution.specs.OwedChanges.{is_free_on}
use Rattle.ax_core.specs.declared.record.Record.{Record}
use Rattle.ax_core.specs.declared.effects.Fired.{Fired}
use Rattle.ax_core.specs.declared.effects.Ran.{Ran}
use Rattle.ax_core.specs.declared.effects.Ran.TheVariants as ran
use Rattle.ax_core.specs.declared.controller.Controller.{Controller}
use Rattle.ax_core.specs.Contexts.{same_id, waits_at}
use Rattle.ax_core.specs.Flow.{one_if, answered_as, started_as, in_queues, in_outs, waits_for, is_to_start, QueuedStands, IsFlow}
use Rattle.ax_core.specs.Batches.{mails_in}
use Rattle.ax_core.specs.Sound.{StandsFor}
use Rattle.ax_core.specs.Admissions.{start_mails, TakesIn}
use Rattle.ax_core.specs.Firings.{FiresAt}
use Rattle.ax_core.specs.Order.{number_in, number_at, Asked, asked_by, callback_by, replies_in, NumbersStay, Posts, begins_where, SendsFirst}
use Rattle.ax_core.proofs.Flows.{same_self}
use Rattle.ax_core.proofs.KeysStay.{out_live}
use Rattle.ax_core.proofs.Owners.{names_itself}
use Rattle.ax_core.proofs.Rows.{free_same}
use Rattle.ax_core.proofs.Replaced.{first_or, contains_none, contains_behind}

-- ---- what is named is live

abbrev pub id_of : Mail → Id
id_of (mail.Start id) = id
id_of (mail.Fire id) = id
id_of (mail.Reply id slot answer) = id

-- what a mail does for the context that it names
abbrev pub Counts : Mail → List Mail → Type 0
Counts (mail.Start id) ms = 1 ≤ started_as id ms
Counts (mail.Fire id) ms = 1 ≤ started_as id ms
Counts (mail.Reply id slot answer) ms = 1 ≤ answered_as id slot ms

one_self : (id : Id) → one_if (same_id id id) ≡ 1
one_self id = ap one_if (same_self id)

counts_here : (m : Mail) (ms : List Mail) → Counts m (m ∷ ms)
counts_here (mail.Start id) ms = omega (arith, one_self id)
counts_here (mail.Fire id) ms = omega (arith, one_self id)
counts_here (mail.Reply id slot answer) ms = omega (arith, ap one_if (names_itself id slot))

counts_behind : (m x : Mail) (ms : List Mail) → Counts m ms → Counts m (x ∷ ms)
counts_behind (mail.Start id) x ms h = omega (arith, h)
counts_behind (mail.Fire id) x ms h = omega (arith, h)
counts_behind (mail.Reply id slot answer) x ms h = omega (arith, h)

pub counts_there : (m : Mail) (ms : List Mail) → Contains ms m → Counts m ms
counts_there m [] c = absurd (contains_none m c)
counts_there m (x ∷ ms) c = elim (first_or x ms m c) [
  | inl e ↦ subst (λ (y : Mail). Counts m (y ∷ ms)) (sym e) (counts_here m ms)
  | inr d ↦ counts_behind m x ms (counts_there m ms d)
]

none_starts : (a : Controller) (id : Id) → IsFlow a → 1 ≤ started_as id a.mails.mails → at a.contexts id ≡ None → ⊥
none_starts a id flow some gone =
    let none : started_as id a.mails.mails ≡ 0 = flow.starts id ∙ ap (λ (o : Option (Held Record)). one_if (is_to_start a id o)) gone in
    omega (arith, some, none)

-- a mail names a live context
pub mail_live : (a : Controller) (m : Mail) → IsFlow a → Contains a.mails.mails m → at a.contexts (id_of m) ≡ None → ⊥
mail_live a m flow c = of m (counts_there m a.mails.mails c)
  where
    of : (m : Mail) → Counts m a.mails.mails → at a.contexts (id_of m) ≡ None → ⊥
    of (mail.Start id) some gone = none_starts a id flow some gone
    of (mail.Fire id) some gone = none_starts a id flow some gone
    of (mail.Reply id slot answer) some gone =
        let none : in_queues a id slot + (in_outs a id slot + answered_as id slot a.mails.mails) ≡ 0 = flow.once id slot ∙ ap (λ (o : Option (Held Record)). one_if (waits_for (waits_at a.program o) slot)) gone in
        omega (arith, some, none)

-- a request in a queue, too
pub item_live : (a : Controller) (shard : ℕ) (i : Item) → IsFlow a → Contains (queue_of a.buffer shard) i → at a.contexts i.id ≡ None → ⊥
item_live a shard i flow c gone = subst (λ (o : Option (Held Record)). QueuedStands a shard i o) gone (flow.queued shard i c)

-- ---- lists of them keep their numbers

pub items_keep : (a b : Controller) (is : List Item) → ((i : Item) → Contains is i → number_at b i.id ≡ number_at a i.id) → map (asked_by b) is ≡ map (asked_by a) is
items_keep a b [] h = refl
items_keep a b (i ∷ is) h =
    ap₂ (λ (n : ℕ) (xs : List Asked). record { context = n; slot = i.slot } ∷ xs) (h i (0, omega arith, refl)) (items_keep a b is (λ j d. h j (contains_behind i is j d)))

callback_keeps : (a b : Controller) (m : Mail) → number_at b (id_of m) ≡ number_at a (id_of m) → callback_by b m ≡ callback_by a m
callback_keeps a b (mail.Start id) e = ap ran.Start e
callback_keeps a b (mail.Fire id) e = ap ran.Start e
callback_keeps a b (mail.Reply id slot answer) e = ap (λ (n : ℕ). ran.Reply n slot) e

pub mails_keep : (a b : Controller) (ms : List Mail) → ((m : Mail) → Contains ms m → number_at b (id_of m) ≡ number_at a (id_of m)) → map (callback_by b) ms ≡ map (callback_by a) ms
mails_keep a b [] h = refl
mails_keep a b (m ∷ ms) h = ap₂ (λ (r : Ran) (rs : List Ran). r ∷ rs) (callback_keeps a b m (h m (0, omega arith, refl))) (mails_keep a b ms (λ x d. h x (contains_behind m ms x d)))

-- ---- mails go last, where the contexts stay, or one is new

-- each context that is live is as it was
abbrev pub LiveStay : Controller → Controller → Type 0
LiveStay a b = (id : Id) → (at a.contexts id ≡ None → ⊥) → at b.contexts id ≡ at a.contexts id

pub live_same : (a b : Controller) → b.contexts ≡ a.contexts → LiveStay a b
live_same a b same id live = λ j. at (same j) id

pub live_made : (a b : Controller) (one : Id) → at a.contexts one ≡ None → OthersStay a.contexts b.contexts one → LiveStay a b
live_made a b one free others id live = others id (λ e. live (ap (at a.contexts) e ∙ free))

pub numbers_stay : (a b : Controller) → IsFlow a → LiveStay a b → NumbersStay a b
numbers_stay a b flow live shard n c = ap number_in (live n.id (out_live a shard (at a.contexts n.id) (flow.out shard n c)))

pub posts : (a b : Controller) (ms : List Mail) → IsFlow a → LiveStay a b → b.buffer.queues ≡ a.buffer.queues → b.mails.mails ≡ a.mails.mails ++ ms → Posts a b (map (callback_by b) ms)
posts a b ms flow live queues mails = record {
  queues = λ shard. (λ j. map (asked_by b) (get_or (queues j) shard [])) ∙ items_keep a b (queue_of a.buffer shard) (λ i c. ap number_in (live i.id (item_live a shard i flow c)));
  callbacks = ap (map (callback_by b)) mails ∙ map-append (callback_by b) a.mails.mails ms
      ∙ ap (λ (rs : List Ran). rs ++ map (callback_by b) ms) (mails_keep a b a.mails.mails (λ m c. ap number_in (live (id_of m) (mail_live a m flow c))));
  numbers = numbers_stay a b flow live;
}

-- nothing is posted
pub posts_none : (a b : Controller) → IsFlow a → b.contexts ≡ a.contexts → b.buffer.queues ≡ a.buffer.queues → b.mails.mails ≡ a.mails.mails → Posts a b []
posts_none a b flow same queues mails = posts a b [] flow (live_same a b same) queues (mails ∙ sym (append-nil a.mails.mails))

-- a timer fires
pub posts_fires : (a b : Controller) (key : List ℕ) (f : Fired) → IsFlow a → FiresAt a b key f → Posts a b (ran.Start f.context ∷ [])
posts_fires a b key f flow h = subst (Posts a b) (ap (λ (o : Option (Held Record)). ran.Start (number_in o) ∷ []) h.made)
    (posts a b (mail.Fire h.id ∷ []) flow (live_made a b h.id h.free h.others) (ap (λ (c : Controller). c.buffer.queues) h.same) h.mails)

-- a row comes
row_begins : (b : Controller) (f : Bool) (id : Id) (n : ℕ) → number_at b id ≡ n → map (callback_by b) (start_mails (if f then Owner else Waits) id) ≡ begins_where f n
row_begins b true id n e = ap (λ (k : ℕ). ran.Start k ∷ []) e
row_begins b false id n e = refl

number_is : (o : Option (Held Record)) (n : ℕ) → IsSomeAnd o (λ c. n ≡ c.number) → number_in o ≡ n
number_is None n h = absurd h
number_is (Some c) n h = sym h

pub posts_row : (a b : Controller) (r : Record) (id : Id) (n : ℕ) (m : MachineControl) → IsFlow a → StandsFor a m → TakesIn a b r id → Has b.contexts id (λ c. n ≡ c.number)
    → Posts a b (begins_where (is_free_on (m.controls r.facts.key)) n)
posts_row a b r id n m flow x h number =
    let free : is_free (part_of a.accounts r.facts.key) ≡ is_free_on (m.controls r.facts.key) =
    free_same a r.facts.key (part_of a.accounts r.facts.key).owner (part_of a.accounts r.facts.key).waiting (m.controls r.facts.key).owner (m.controls r.facts.key).waiting (x.stands.keys r.facts.key).owner (x.stands.keys r.facts.key).items in
    subst (Posts a b) (row_begins b (is_free (part_of a.accounts r.facts.key)) id n (number_is (at b.contexts id) n number) ∙ ap (λ (f : Bool). begins_where f n) free)
    (posts a b (start_mails (answer_to (part_of a.accounts r.facts.key)) id) flow (live_made a b id h.free h.others) (ap (λ (c : Controller). c.buffer.queues) h.same) h.mails)

-- replies become mails
pub replies_by : (b : Controller) (rs : List Reply) → map (callback_by b) (mails_in rs) ≡ replies_in b rs
replies_by b [] = refl
replies_by b (r ∷ rs) = ap (λ (xs : List Ran). ran.Reply (number_at b r.id) r.slot ∷ xs) (replies_by b rs)

replies_keep : (a b : Controller) (rs : List Reply) → b.contexts ≡ a.contexts → replies_in b rs ≡ replies_in a rs
replies_keep a b rs same = λ j. map (λ (r : Reply). ran.Reply (number_in (at (same j) r.id)) r.slot) rs

pub posts_replies : (a b : Controller) (rs : List Reply) → IsFlow a → b.contexts ≡ a.contexts → b.buffer.queues ≡ a.buffer.queues → b.mails.mails ≡ a.mails.mails ++ mails_in rs → Posts a b (replies_in a rs)
posts_replies a b rs flow same queues mails = subst (Posts a b) (replies_by b rs ∙ replies_keep a b rs same) (posts a b (mails_in rs) flow (live_same a b same) queues mails)

-- ---- a batch goes out

module _ (a b : Controller) (s max : ℕ) (flow : IsFlow a) (inside : s < length a.buffer.queues) (same : b.contexts ≡ a.contexts)
    (queues : b.buffer.queues ≡ set a.buffer.queues s (drop max (queue_of a.buffer s))) (mails : b.mails.mails ≡ a.mails.mails) where
  keeps : (is : List Item) → map (asked_by b) is ≡ map (asked_by a) is
  keeps is = items_keep a b is (λ i c. λ j. number_in (at (same j) i.id))

  here : queue_of b.buffer s ≡ drop max (queue_of a.buffer s)
  here = elim (at_set a.buffer.queues s s (drop max (queue_of a.buffer s)) [] inside) [
    | inl x ↦ ap (λ (qs : List (List Item)). get_or qs s []) queues ∙ x.1
    | inr x ↦ absurd (x.0 refl)
  ]

  elsewhere : (other : ℕ) → other ≢ s → queue_of b.buffer other ≡ queue_of a.buffer other
  elsewhere other differ = elim (at_set a.buffer.queues s other (drop max (queue_of a.buffer s)) [] inside) [
    | inl x ↦ absurd (differ x.0)
    | inr x ↦ ap (λ (qs : List (List Item)). get_or qs other []) queues ∙ x.1
  ]

  pub sends_first : SendsFirst a b s max (take max (queue_of a.buffer s))
  sends_first = record {
    taken = keeps (take max (queue_of a.buffer s)) ∙ sym (take-map (asked_by a) max (queue_of a.buffer s));
    queue = ap (map (asked_by b)) here ∙ keeps (drop max (queue_of a.buffer s)) ∙ sym (drop-map (asked_by a) max (queue_of a.buffer s));
    others = λ other differ. ap (map (asked_by b)) (elsewhere other differ) ∙ keeps (queue_of a.buffer other);
    callbacks = ap (map (callback_by b)) mails ∙ mails_keep a b a.mails.mails (λ m c. λ j. number_in (at (same j) (id_of m)));
    numbers = numbers_stay a b flow (live_same a b same);
  }
