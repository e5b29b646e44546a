-- The controller behind a callback: what is on the way, the flow of the requests, and the events of a key whose owner is known.
use Rattle.std.proofs.Common.{◌≡◌, ℕ, ◌+◌, ◌<◌, nat_eq, ℤ, Bool, true, false, cond, ◌&&◌, List, [], ◌∷◌, map, length, length-append, Option, Some, None, refl, sym, ap, ap₂, subst, ◌∙◌, arith}
use Rattle.ax_text.specs.declared.vocabulary.Answer.{Answer}
use Rattle.ax_text.specs.Controls.{Ask' as Asked, replaced}
use Rattle.ax_text.specs.Functions.{upd}
use Rattle.ax_text.specs.Programs.{Program as Shown}
use Rattle.ax_text.specs.Run.{times_after}
use Rattle.ax_text.specs.Silent.{unanswered}
use Rattle.ax_text.specs.Underway.{SlotsRise, Differ}
use Rattle.ax_lang.specs.declared.program.Program.{Program}
use Rattle.ax_future.specs.declared.callback.Ask.{Ask}
use Rattle.ax_future.specs.Talks.{asks_in}
use Rattle.ax_machine.specs.Entries.{Key}
use Rattle.ax_buffer.specs.Buffer.{total}
use Rattle.ax_context.specs.declared.id.Id.{Id}
use Rattle.ax_context.specs.Slots.{Slots, at}
use Rattle.ax_account.specs.declared.part.Waiting.{Waiting as Item}
use Rattle.ax_account.specs.declared.part.Waiting.TheVariants as item
use Rattle.ax_account.specs.declared.part.Next.{Next}
use Rattle.ax_account.specs.declared.part.Next.TheVariants as next
use Rattle.ax_account.specs.Parts.{next_of}
use Rattle.ax_mailbox.specs.declared.mail.Mail.{Mail}
use Rattle.ax_mailbox.specs.declared.mail.Mail.TheVariants as mail
use Rattle.ax_execution.specs.Allowed.{OfOwner, StageUnbegun, StageHas}
use Rattle.ax_execution.specs.Contexts.{Running, Stage, Unbegun, Begun, Context, Waiting, Row, Mark, owners, may_fire}
use Rattle.ax_execution.specs.KeyControls.{KeyControl}
use Rattle.ax_execution.specs.ControlTurns.{handed_on, called_back_on, start_on, start_owner_on, start_stage_on, deliver_on, deliver_owner_on, deliver_stage_on, give_answer_on}
use Rattle.ax_execution.specs.Turns.{begins, gives, effects_of, owner_starts, stage_starts, owner_gives, stage_gives, answer_gives}
use Rattle.ax_execution.proofs.SingleKeys.{keyed}
use Rattle.ax_core.specs.declared.record.Record.{Record}
use Rattle.ax_core.specs.declared.controller.Controller.{Controller}
use Rattle.ax_core.specs.Contexts.{same_id, waits_at}
use Rattle.ax_core.specs.Keys.{ItemsStand}
use Rattle.ax_core.specs.Flow.{one_if, queued_as, named_as, answers_as, answered_as, in_queues, in_outs, waits_for, on_the_way}
use Rattle.ax_core.specs.Callbacks.{fires, behind_marks, items_for, IsQueued, with_start}
use Rattle.ax_core.proofs.Counting.{queued_append}
use Rattle.ax_core.proofs.Flows.{start_answered}
use Rattle.ax_core.proofs.HandLemmas.{fires_as}
use Rattle.ax_core.proofs.AskedLemmas.{queues_asked, asked_by_others, asked_by_own, times_in, differ_once, replaced_times, rise_differ}

-- ---- what is on the way

-- one where a row owns its key now
abbrev pub starts_by : Next → ℕ
starts_by next.Free = 0
starts_by (next.Row id) = 1
starts_by (next.Mark e w fired) = 0

pub posted_length : (n : Next) (ms : List Mail) → length (with_start n ms) ≡ length ms + starts_by n
posted_length next.Free ms = omega arith
posted_length (next.Row id) ms = length-append ms (mail.Start id ∷ [])
posted_length (next.Mark e w fired) ms = omega arith

-- it is what is in the control, too
pub started_owner : (p : Program) (ms : List Mail) (s : Slots Record) (key : Key) (times : List ℤ) (is : List Item) (ws : List Waiting) → ItemsStand p ms s key is ws
    → starts_by (next_of (behind_marks times is)) ≡ owners (handed_on ws times).owner
started_owner p ms s key times [] [] h = refl
started_owner p ms s key times [] (w ∷ ws) h = absurd h
started_owner p ms s key times (i ∷ is) [] h = absurd h
started_owner p ms s key times (item.Row id ∷ is) (Row n e f ∷ ws) h = refl
started_owner p ms s key times (item.Row id ∷ is) (Mark e w more ∷ ws) h = absurd h.0
started_owner p ms s key times (item.Mark u v fired ∷ is) (Row n e f ∷ ws) h = absurd h.0
started_owner p ms s key times (item.Mark u v fired ∷ is) (Mark e w more ∷ ws) h =
    of (fires v fired times) (may_fire w more times) (fires_as u v fired e w more times h.0) (started_owner p ms s key times is ws h.1)
  where
    of : (b d : Bool) → b ≡ d → starts_by (next_of (behind_marks times is)) ≡ owners (handed_on ws times).owner
        → starts_by (next_of (cond b (item.Mark u v fired ∷ is) (behind_marks times is))) ≡ owners (cond d (keyed None (Mark e w more ∷ ws) times) (handed_on ws times)).owner
    of true true same rest = refl
    of false false same rest = rest
    of true false same rest = absurd (cc same)
    of false true same rest = absurd (cc same)

summed : (q q' o o' l l' n s : ℕ) → q' ≡ q + n → o' ≡ o → l' + 1 ≡ l + s → q' + (o' + l') + 1 ≡ q + (o + l) + (n + s)
summed q q' o o' l l' n s a b d = omega arith

-- what is asked and what is started comes onto the way, and the mail that was taken leaves it
pub way_called : (old new : Controller) (n started : ℕ) → total length new.buffer.queues ≡ total length old.buffer.queues + n → new.outs ≡ old.outs
    → length new.mails.mails + 1 ≡ length old.mails.mails + started → on_the_way new + 1 ≡ on_the_way old + (n + started)
way_called old new n started queues outs mails =
    summed (total length old.buffer.queues) (total length new.buffer.queues) (total length old.outs.items) (total length new.outs.items) (length old.mails.mails) (length new.mails.mails) n started
    queues (λ i. total length (outs i).items) mails

-- ---- the flow where a handler has begun

more_none : (n : ℕ) → n + 0 ≡ n
more_none n = omega arith

none_first : (n : ℕ) → 0 + n ≡ n
none_first n = omega arith

module _ (old new : Controller) (id : Id) (key : Key) (shard : ℕ) (asks : List Ask) (there : shard < length old.buffer.queues)
    (queued : IsQueued old.buffer new.buffer shard (items_for id key asks)) (outs : new.outs ≡ old.outs) where
  pub others_queued : (i : Id) (s : ℕ) → same_id id i ≡ false → in_queues new i s ≡ in_queues old i s
  others_queued i s differ =
      queues_asked (queued_as i s) (queued_append i s) old.buffer new.buffer shard (items_for id key asks) there queued
      ∙ ap (λ (n : ℕ). in_queues old i s + n) (asked_by_others id i key s asks differ) ∙ more_none (in_queues old i s)

  pub own_queued : (s : ℕ) → same_id id id ≡ true → SlotsRise (asks_in asks) → in_queues new id s ≡ in_queues old id s + one_if (waits_for (asks_in asks) s)
  own_queued s self rise =
      queues_asked (queued_as id s) (queued_append id s) old.buffer new.buffer shard (items_for id key asks) there queued
      ∙ ap (λ (n : ℕ). in_queues old id s + n) (asked_by_own id key s asks self rise)

  pub same_outs : (i : Id) (s : ℕ) → in_outs new i s ≡ in_outs old i s
  same_outs i s = λ j. total (named_as i s) (outs j).items

-- a mail that starts a context answers nothing
abbrev pub AnswersNothing : Mail → Type 0
AnswersNothing m = (id : Id) (slot : ℕ) → answers_as id slot m ≡ 0

-- so each answer is still there where it is taken
pub none_taken : (m : Mail) (ns : List Mail) (id : Id) (slot : ℕ) → AnswersNothing m → answered_as id slot ns ≡ answered_as id slot (m ∷ ns)
none_taken m ns id slot quiet = sym (ap (λ (n : ℕ). n + answered_as id slot ns) (quiet id slot) ∙ none_first (answered_as id slot ns))

pub start_taken : (n : Next) (m : Mail) (ns : List Mail) (id : Id) (slot : ℕ) → AnswersNothing m → answered_as id slot (with_start n ns) ≡ answered_as id slot (m ∷ ns)
start_taken next.Free m ns id slot quiet = none_taken m ns id slot quiet
start_taken (next.Row j) m ns id slot quiet = start_answered ns j id slot ∙ none_taken m ns id slot quiet
start_taken (next.Mark e w fired) m ns id slot quiet = none_taken m ns id slot quiet

begun_sum : (q q' o o' a a' n : ℕ) → q + (o + a) ≡ 0 → q' ≡ q + n → o' ≡ o → a' ≡ a → q' + (o' + a') ≡ n
begun_sum q q' o o' a a' n z x y w = omega arith

-- what a handler asks when it begins stands once on its way
pub once_begun : (old new : Controller) (id : Id) (key : Key) (shard : ℕ) (asks : List Ask) (n : Next) (m : Mail) (ns : List Mail) → AnswersNothing m → shard < length old.buffer.queues → IsQueued old.buffer new.buffer shard (items_for id key asks)
    → new.outs ≡ old.outs → old.mails.mails ≡ m ∷ ns → new.mails.mails ≡ with_start n ns → same_id id id ≡ true → SlotsRise (asks_in asks)
    → waits_at old.program (at old.contexts id) ≡ [] → waits_at new.program (at new.contexts id) ≡ asks_in asks
    → ((s : ℕ) → in_queues old id s + (in_outs old id s + answered_as id s old.mails.mails) ≡ one_if (waits_for (waits_at old.program (at old.contexts id)) s))
    → (s : ℕ) → in_queues new id s + (in_outs new id s + answered_as id s new.mails.mails) ≡ one_if (waits_for (waits_at new.program (at new.contexts id)) s)
once_begun old new id key shard asks n m ns quiet there queued outs taken posted self rise none waits once s =
    begun_sum (in_queues old id s) (in_queues new id s) (in_outs old id s) (in_outs new id s) (answered_as id s old.mails.mails) (answered_as id s new.mails.mails) (one_if (waits_for (asks_in asks) s))
    (once s ∙ ap (λ (xs : List Asked). one_if (waits_for xs s)) none)
    (own_queued old new id key shard asks there queued outs s self rise) (same_outs old new id key shard asks there queued outs id s)
    (ap (answered_as id s) posted ∙ start_taken n m ns id s quiet ∙ sym (ap (answered_as id s) taken))
    ∙ sym (ap (λ (xs : List Asked). one_if (waits_for xs s)) waits)

-- and what others ask stays where it is
pub once_others : (old new : Controller) (id : Id) (key : Key) (shard : ℕ) (asks : List Ask) (n : Next) (m : Mail) (ns : List Mail) → AnswersNothing m → shard < length old.buffer.queues → IsQueued old.buffer new.buffer shard (items_for id key asks)
    → new.outs ≡ old.outs → old.mails.mails ≡ m ∷ ns → new.mails.mails ≡ with_start n ns → new.program ≡ old.program
    → (i : Id) → same_id id i ≡ false → at new.contexts i ≡ at old.contexts i
    → ((s : ℕ) → in_queues old i s + (in_outs old i s + answered_as i s old.mails.mails) ≡ one_if (waits_for (waits_at old.program (at old.contexts i)) s))
    → (s : ℕ) → in_queues new i s + (in_outs new i s + answered_as i s new.mails.mails) ≡ one_if (waits_for (waits_at new.program (at new.contexts i)) s)
once_others old new id key shard asks n m ns quiet there queued outs taken posted program i differ same once s =
    ap₂ (λ (x y : ℕ). x + y) (others_queued old new id key shard asks there queued outs i s differ)
    (ap₂ (λ (x y : ℕ). x + y) (same_outs old new id key shard asks there queued outs i s) (ap (answered_as i s) posted ∙ start_taken n m ns i s quiet ∙ sym (ap (answered_as i s) taken)))
    ∙ once s ∙ sym (λ j. one_if (waits_for (waits_at (program j) (same j)) s))

-- the same where an answer was handed over

pub post_answered : (n : Next) (ns : List Mail) (id : Id) (slot : ℕ) → answered_as id slot (with_start n ns) ≡ answered_as id slot ns
post_answered next.Free ns id slot = refl
post_answered (next.Row j) ns id slot = start_answered ns j id slot
post_answered (next.Mark e w fired) ns id slot = refl

given_sum : (q q' o o' a a' b n w x y : ℕ) → q + (o + b) ≡ w → b ≡ n + a → q' ≡ q + x → o' ≡ o → a' ≡ a → y + n ≡ w + x → q' + (o' + a') ≡ y
given_sum q q' o o' a a' b n w x y h k i j l m = omega arith

-- what a handler asks when it is given an answer stands once on its way, and what it waits for on
pub once_given : (old new : Controller) (id : Id) (key : Key) (shard : ℕ) (asks : List Ask) (n : Next) (slot : ℕ) (a : Answer) (ns : List Mail) → shard < length old.buffer.queues
    → IsQueued old.buffer new.buffer shard (items_for id key asks) → new.outs ≡ old.outs → old.mails.mails ≡ mail.Reply id slot a ∷ ns → new.mails.mails ≡ with_start n ns → same_id id id ≡ true
    → (was : List Asked) → SlotsRise (asks_in asks) → Differ (map (λ (b : Asked). b.slot) was) → Differ (map (λ (b : Asked). b.slot) (replaced slot (asks_in asks) was)) → waits_for was slot ≡ true
    → waits_at old.program (at old.contexts id) ≡ was → waits_at new.program (at new.contexts id) ≡ replaced slot (asks_in asks) was
    → ((s : ℕ) → in_queues old id s + (in_outs old id s + answered_as id s old.mails.mails) ≡ one_if (waits_for (waits_at old.program (at old.contexts id)) s))
    → (s : ℕ) → in_queues new id s + (in_outs new id s + answered_as id s new.mails.mails) ≡ one_if (waits_for (waits_at new.program (at new.contexts id)) s)
once_given old new id key shard asks n slot a ns there queued outs taken posted self was rise differ differs waited before behind once s =
    let gone : answered_as id s old.mails.mails ≡ one_if (nat_eq slot s) + answered_as id s ns = ap (answered_as id s) taken ∙ ap (λ (b : Bool). one_if (b && nat_eq slot s) + answered_as id s ns) self in
    let counted : times_in s (replaced slot (asks_in asks) was) + one_if (nat_eq slot s) ≡ times_in s was + times_in s (asks_in asks) = replaced_times s slot (asks_in asks) was waited in
    let waits : one_if (waits_for (replaced slot (asks_in asks) was) s) + one_if (nat_eq slot s) ≡ one_if (waits_for was s) + one_if (waits_for (asks_in asks) s) =
    ap (λ (k : ℕ). k + one_if (nat_eq slot s)) (sym (differ_once s (replaced slot (asks_in asks) was) differs)) ∙ counted
    ∙ ap₂ (λ (x y : ℕ). x + y) (differ_once s was differ) (differ_once s (asks_in asks) (rise_differ (asks_in asks) rise)) in
    given_sum (in_queues old id s) (in_queues new id s) (in_outs old id s) (in_outs new id s) (answered_as id s ns) (answered_as id s new.mails.mails) (answered_as id s old.mails.mails) (one_if (nat_eq slot s))
    (one_if (waits_for was s)) (one_if (waits_for (asks_in asks) s)) (one_if (waits_for (replaced slot (asks_in asks) was) s))
    (once s ∙ ap (λ (xs : List Asked). one_if (waits_for xs s)) before) gone (own_queued old new id key shard asks there queued outs s self rise)
    (same_outs old new id key shard asks there queued outs id s) (ap (answered_as id s) posted ∙ post_answered n ns id s) waits
    ∙ sym (ap (λ (xs : List Asked). one_if (waits_for xs s)) behind)

-- ---- the events of a key whose owner is known

module _ (q : KeyControl) (c : Context) (owner : q.owner ≡ Some c) where
  -- a start that is allowed calls the handler's first callback
  pub start_is : (p : Shown) → c.stage ≡ Unbegun → start_on p q ≡ called_back_on c (begins p c.job) unanswered q.waiting (times_after (begins p c.job).talk.ops q.times)
  start_is p stage = (λ i. start_owner_on p (owner i) q) ∙ (λ i. start_stage_on p c (stage i) q)

  pub starts_are : (p : Shown) → c.stage ≡ Unbegun → owner_starts p q.owner ≡ effects_of (begins p c.job)
  starts_are p stage = (λ i. owner_starts p (owner i)) ∙ (λ i. stage_starts p c.job (stage i))

  pub may_start : c.stage ≡ Unbegun → OfOwner StageUnbegun q.owner
  may_start stage = subst (λ (o : Option Context). OfOwner StageUnbegun o) (sym owner) (subst (λ (st : Stage). StageUnbegun st) (sym stage) tt)

  -- and a delivery hands over the answer that is there
  module _ (r : Running) (slot : ℕ) (a : Answer) (stage : c.stage ≡ Begun r) (there : r.answers slot ≡ Some a) where
    pub deliver_is : deliver_on slot q ≡ called_back_on c (gives c.job r slot a) (upd r.answers slot None) q.waiting (times_after (gives c.job r slot a).talk.ops q.times)
    deliver_is = (λ i. deliver_owner_on slot (owner i) q) ∙ (λ i. deliver_stage_on c slot (stage i) q) ∙ (λ i. give_answer_on c r slot (there i) q)

    pub gives_are : owner_gives slot q.owner ≡ effects_of (gives c.job r slot a)
    gives_are = (λ i. owner_gives slot (owner i)) ∙ (λ i. stage_gives slot c.job (stage i)) ∙ (λ i. answer_gives c.job r slot (there i))

    pub may_deliver : OfOwner (StageHas slot) q.owner
    may_deliver = subst (λ (o : Option Context). OfOwner (StageHas slot) o) (sym owner) (subst (λ (st : Stage). StageHas slot st) (sym stage) (a, there))
