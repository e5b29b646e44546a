-- The order of the keys that are idle.
use Rattle.std.proofs.Common.{◌≡◌, ◌↔◌, ℕ, ◌+◌, length, ℤ, List, [], ◌∷◌, ◌++◌, Bool, true, false, not, cond, ◌&&◌, ◌||◌, Option, Some, None, is_none, refl, sym, ap, ◌∙◌, subst, ◌⊎◌, inl, inr, append-nil, append_assoc}
use Rattle.std.specs.Prelude.{All, IsSome}
use Rattle.std.specs.Str.{bytes_eq}
use Rattle.std.specs.List.{Contains, list_any, filter}
use Rattle.std.specs.List.Sorted.{IsStrictlySortedBy}
use Rattle.std.proofs.lemmas.Bool.{cond-true, cond-false, false_from_ne_true}
use Rattle.std.proofs.lemmas.List.Elements.{All-head, All-tail, All-from_recursion}
use Rattle.std.proofs.lemmas.List.Folds.{list_any_none}
use Rattle.std.proofs.lemmas.List.Kept.{IsStrictlySortedBy-filter}
use Rattle.std.proofs.lemmas.Map.Keys.{IsDistinct-head}
use Rattle.std.proofs.lemmas.Option.{same_Some}
use Rattle.ax_keys.specs.Keys.{key_cmp}
use Rattle.ax_text.specs.Times.{HasDue}
use Rattle.ax_future.specs.declared.callback.Turn.{Turn}
use Rattle.ax_machine.specs.Entries.{Key}
use Rattle.ax_machine.proofs.FiringLemmas.{key_is, same_key as same_bytes, has_head, has_tail, among}
use Rattle.ax_context.specs.declared.id.Id.{Id}
use Rattle.ax_context.specs.declared.contexts.Context.{Context as Held}
use Rattle.ax_context.specs.Slots.{at, Has}
use Rattle.ax_account.specs.declared.part.Waiting.{Waiting as Item}
use Rattle.ax_account.specs.Parts.{Part, is_free, is_mark, next_of, may_idle, waits, is_empty}
use Rattle.ax_account.specs.Queues.{same_key, has_key, without, first_of, AreDistinct}
use Rattle.ax_account.specs.Accounts.{Accounts, part_of, owner_of, AreSound, busy_keys, mark}
use Rattle.ax_account.proofs.QueueLemmas.{key_laws, without_absent}
use Rattle.ax_account.proofs.QueueLemmas as account
use Rattle.ax_mailbox.specs.Queue.{Queue}
use Rattle.ax_time.specs.Epochs.{Book, current_of}
use Rattle.ax_time.specs.Timers.{times_of}
use Rattle.ax_text.specs.declared.vocabulary.Answer.{Answer}
use Rattle.ax_execution.specs.Contexts.{Context, Waiting}
use Rattle.ax_execution.specs.OwedChanges.{is_free_with, is_free_on}
use Rattle.ax_execution.specs.MachineControls.{MachineControl}
use Rattle.ax_execution.proofs.Upto.{by_cases}
use Rattle.ax_core.specs.declared.record.Record.{Record}
use Rattle.ax_core.specs.declared.effects.Fired.{Fired}
use Rattle.ax_core.specs.declared.effects.Effects.{Effects}
use Rattle.ax_core.specs.declared.controller.Controller.{Controller}
use Rattle.ax_core.specs.Calls.{CallEnds, EndsBy, Started, Replied}
use Rattle.ax_core.specs.Closings.{Books, Marks, MarksIf, MarksAll, books, every}
use Rattle.ax_core.specs.Firings.{FiresAt}
use Rattle.ax_core.specs.Order.{idle_in, BecomeIdle}
use Rattle.ax_core.specs.Sound.{StandsFor}
use Rattle.ax_core.proofs.Ends.{has_held}
use Rattle.ax_core.proofs.Marking.{free_part, free_control}
use Rattle.ax_core.proofs.Marked.{apart_above}
use Rattle.ax_core.proofs.ClosedBy.{same_lists, contains_to, contains_from, with_mark}

true_false : {A : Type 0} → true ≡ false → A
true_false e = absurd (cc e)

false_true : {A : Type 0} → false ≡ true → A
false_true e = absurd (cc e)

-- ---- a key with an owner isn't idle

no_owner : (o : Option Id) (b : Bool) → IsSome o → (is_none o && b) ≡ true → ⊥
no_owner None b some e = absurd (cc some)
no_owner (Some i) b some e = false_true e

either_false : (a b : Bool) → a ≡ false → b ≡ false → (a || b) ≡ false
either_false true b x y = true_false x
either_false false b x y = y

pub owned_busy : (a : Accounts) (key : Key) → AreSound a → IsSome (owner_of a key) → has_key a.idle key ≡ false
owned_busy a key sound owned = of a.idle sound.idle
  where
    apart : (k : Key) → may_idle (part_of a k) ≡ true → same_key key k ≡ true → ⊥
    apart k idle same = no_owner (owner_of a key) (is_mark (next_of (part_of a key).waiting)) owned (subst (λ (j : Key). may_idle (part_of a j) ≡ true) (sym (account.key_is key k same)) idle)

    of : (ks : List Key) → All (λ k. may_idle (part_of a k) ≡ true) ks → has_key ks key ≡ false
    of [] all = refl
    of (k ∷ ks) all = either_false (same_key key k) (has_key ks key)
        (false_from_ne_true (same_key key k) (apart k (All-head (λ k. may_idle (part_of a k) ≡ true) k ks all)))
        (of ks (All-tail (λ k. may_idle (part_of a k) ≡ true) k ks all))

-- ---- the key that has been idle longest fires

first_leaves : (key : Key) (ks : List Key) → AreDistinct ks → first_of ks ≡ Some key → ks ≡ key ∷ without key ks
first_leaves key [] distinct first = absurd (cc first)
first_leaves key (k ∷ ks) distinct first = subst (λ (j : Key). k ∷ ks ≡ j ∷ without j (k ∷ ks)) (same_Some k key first) (ap (λ (js : List Key). k ∷ js) (sym left))
  where
    once : has_key ks k ≡ false
    once = list_any_none (same_key k) ks (All-from_recursion (λ q. same_key k q ≡ false) ks (IsDistinct-head same_key k ks distinct))

    left : without k (k ∷ ks) ≡ ks
    left = cond-false (not (same_key k k)) (k ∷ without k ks) (without k ks) (ap not (key_laws.refl k)) ∙ without_absent k ks once

pub fires_first : (a b : Controller) (key : Key) (f : Fired) → AreSound a.accounts → first_of a.accounts.idle ≡ Some key → FiresAt a b key f → idle_in a ≡ f.key ∷ idle_in b
fires_first a b key f sound first fires =
    first_leaves key a.accounts.idle sound.distinct first
    ∙ (λ i. sym fires.named i ∷ sym fires.idle i)

-- ---- a callback leaves the list as it was

pub ended_idle : (a b : Controller) (id : Id) (h : Held Record) (t : Turn) (f : Effects) → CallEnds a b id h t f → idle_in b ≡ idle_in a
ended_idle a b id h t f call = of f.gone f.fired call.ends ∙ ap idle_in call.done.same
  where
    of : (gone : Bool) (fired : Option Fired) → EndsBy call.mid b id (record h { count = h.count + length t.asks }) gone fired → idle_in b ≡ idle_in call.mid
    of false None x = ap idle_in x.same
    of false (Some g) x = absurd x
    of true None x = x.goes.1.idle ∙ ap idle_in x.given.same
    of true (Some g) x =
        x.goes.1.1.idle ∙ without_absent h.payload.facts.key x.goes.0.accounts.idle x.goes.1.0.busy ∙ x.goes.1.0.idle ∙ ap idle_in x.given.same

module _ (a b : Controller) (left : Queue) (id : Id) (f : Effects) where
  pub started_idle : Has a.contexts id (Started (record a { mails = left }) b id f) → idle_in b ≡ idle_in a
  started_idle x = of (has_held (Started (record a { mails = left }) b id f) (at a.contexts id) x)
    where
      of : (h : Held Record) × ((at a.contexts id ≡ Some h) × Started (record a { mails = left }) b id f h) → idle_in b ≡ idle_in a
      of it = ended_idle (record a { mails = left; contexts = it.1.1.contexts }) b id (record it.0 { payload = it.1.1.begun.payload }) it.1.1.turn f it.1.1.ended

  pub replied_idle : (slot : ℕ) (answer : Answer) → Has a.contexts id (Replied (record a { mails = left }) b id slot answer f) → idle_in b ≡ idle_in a
  replied_idle slot answer x = of (has_held (Replied (record a { mails = left }) b id slot answer f) (at a.contexts id) x)
    where
      of : (h : Held Record) × ((at a.contexts id ≡ Some h) × Replied (record a { mails = left }) b id slot answer f h) → idle_in b ≡ idle_in a
      of it = ended_idle (record a { mails = left; contexts = it.1.1.contexts }) b id (record it.0 { payload = it.1.1.resumed.payload }) it.1.1.turn f it.1.1.ended

-- ---- a watermark comes

not_free : (item : Item) (part : Part) → is_free (waits item part) ≡ false
not_free item part = of part.owner part.waiting
  where
    of : (o : Option Id) (is : List Item) → (is_none o && is_empty (is ++ item ∷ [])) ≡ false
    of None [] = refl
    of None (i ∷ is) = refl
    of (Some i) is = refl

-- the marks at keys that aren't free
record Quiet (s t : Books) : Type 0 where
  pub idle : t.accounts.idle ≡ s.accounts.idle
  pub free : (q : Key) → is_free (part_of t.accounts q) ≡ is_free (part_of s.accounts q)

module _ (w : ℤ) where
  other_part : (k q : Key) (s t : Books) → Marks w k s t → bytes_eq k q ≡ false → part_of t.accounts q ≡ part_of s.accounts q
  other_part k q s t x differ = x.part.others q (λ e. true_false (sym (ap (bytes_eq k) e ∙ same_bytes k) ∙ differ))

  one_quiet : (k : Key) (s t : Books) → is_free (part_of s.accounts k) ≡ false → Marks w k s t → Quiet s t
  one_quiet k s t busy x = record {
    idle = x.idle ∙ cond-false (is_free (part_of s.accounts k)) (s.accounts.idle ++ k ∷ []) s.accounts.idle busy;
    free = λ q. by_cases (bytes_eq k q)
        (λ e. subst (λ (j : Key). is_free (part_of t.accounts j) ≡ is_free (part_of s.accounts j)) (key_is k q e)
        (ap is_free x.part.own ∙ not_free (mark (current_of s.epochs) w) (part_of s.accounts k) ∙ sym busy))
        (λ e. ap is_free (other_part k q s t x e));
  }

  all_quiet : (ks : List Key) (s t : Books) → ((j : Key) → list_any (bytes_eq j) ks ≡ true → is_free (part_of s.accounts j) ≡ false) → MarksAll every w ks s t → Quiet s t
  all_quiet [] s t busy x = record { idle = ap (λ (b : Books). b.accounts.idle) x; free = λ q. ap (λ (b : Books). is_free (part_of b.accounts q)) x }
  all_quiet (k ∷ ks) s t busy x =
      let one : Quiet s x.0 = one_quiet k s x.0 (busy k (has_head k k ks refl)) x.1 in
      let rest : Quiet x.0 t = all_quiet ks x.0 t (λ j e. one.free j ∙ busy j (has_tail j k ks e)) x.2 in
      record { idle = rest.idle ∙ one.idle; free = λ q. rest.free q ∙ one.free q }

  -- the marks at the keys that are free
  free_last : (free : Key → Bool) (ks : List Key) (s t : Books) → IsStrictlySortedBy key_cmp ks → ((j : Key) → list_any (bytes_eq j) ks ≡ true → is_free (part_of s.accounts j) ≡ free j)
      → MarksAll is_free w ks s t → t.accounts.idle ≡ s.accounts.idle ++ filter free ks
  unfolding IsStrictlySortedBy
  free_last free [] s t rise same x = ap (λ (b : Books). b.accounts.idle) x ∙ sym (append-nil s.accounts.idle)
  free_last free (k ∷ ks) s t rise same x = of (is_free (part_of s.accounts k)) refl x.1
      (λ (h : (j : Key) → list_any (bytes_eq j) ks ≡ true → is_free (part_of x.0.accounts j) ≡ free j). free_last free ks x.0 t rise.1 h x.2)
    where
      apart : (j : Key) → list_any (bytes_eq j) ks ≡ true → bytes_eq k j ≡ false
      apart j e = by_cases (bytes_eq k j) (λ y. absurd (apart_above k ks rise.0 (subst (λ (i : Key). list_any (bytes_eq i) ks ≡ true) (sym (key_is k j y)) e))) (λ y. y)

      of : (b : Bool) → is_free (part_of s.accounts k) ≡ b → MarksIf b w k s x.0
          → (((j : Key) → list_any (bytes_eq j) ks ≡ true → is_free (part_of x.0.accounts j) ≡ free j) → t.accounts.idle ≡ x.0.accounts.idle ++ filter free ks)
          → t.accounts.idle ≡ s.accounts.idle ++ filter free (k ∷ ks)
      of true e y rest =
          rest (λ j h. ap is_free (other_part k j s x.0 y (apart j h)) ∙ same j (has_tail j k ks h))
          ∙ ap (λ (js : List Key). js ++ filter free ks) (y.idle ∙ cond-true (is_free (part_of s.accounts k)) (s.accounts.idle ++ k ∷ []) s.accounts.idle e)
          ∙ append_assoc s.accounts.idle (k ∷ []) (filter free ks)
          ∙ ap (λ (js : List Key). s.accounts.idle ++ js) (sym (cond-true (free k) (k ∷ filter free ks) (filter free ks) (sym (same k (has_head k k ks refl)) ∙ e)))
      of false e y rest =
          rest (λ j h. ap (λ (b : Books). is_free (part_of b.accounts j)) y ∙ same j (has_tail j k ks h))
          ∙ ap (λ (b : Books). b.accounts.idle ++ filter free ks) y
          ∙ ap (λ (js : List Key). s.accounts.idle ++ js) (sym (cond-false (free k) (k ∷ filter free ks) (filter free ks) (sym (same k (has_head k k ks refl)) ∙ e)))

-- which keys are left by a test
kept_to : (j : Key) (p : Key → Bool) (ks : List Key) → list_any (bytes_eq j) ks ≡ true → p j ≡ true → list_any (bytes_eq j) (filter p ks) ≡ true
kept_to j p [] h e = false_true h
kept_to j p (k ∷ ks) h e = of (p k) refl (among j k ks h) (λ (r : list_any (bytes_eq j) ks ≡ true). kept_to j p ks r e)
  where
    of : (b : Bool) → p k ≡ b → (j ≡ k) ⊎ (list_any (bytes_eq j) ks ≡ true) → (list_any (bytes_eq j) ks ≡ true → list_any (bytes_eq j) (filter p ks) ≡ true)
        → list_any (bytes_eq j) (cond b (k ∷ filter p ks) (filter p ks)) ≡ true
    of true x (inl s) rest = has_head j k (filter p ks) s
    of true x (inr r) rest = has_tail j k (filter p ks) (rest r)
    of false x (inl s) rest = true_false (sym e ∙ ap p s ∙ x)
    of false x (inr r) rest = rest r

kept_from : (j : Key) (p : Key → Bool) (ks : List Key) → list_any (bytes_eq j) (filter p ks) ≡ true → (list_any (bytes_eq j) ks ≡ true) × (p j ≡ true)
kept_from j p [] h = false_true h
kept_from j p (k ∷ ks) h = of (p k) refl h (λ (r : list_any (bytes_eq j) (filter p ks) ≡ true). let rest = kept_from j p ks r in (has_tail j k ks rest.0, rest.1))
  where
    here : p k ≡ true → (j ≡ k) ⊎ (list_any (bytes_eq j) (filter p ks) ≡ true) → (list_any (bytes_eq j) (filter p ks) ≡ true → (list_any (bytes_eq j) (k ∷ ks) ≡ true) × (p j ≡ true))
        → (list_any (bytes_eq j) (k ∷ ks) ≡ true) × (p j ≡ true)
    here x (inl s) later = (has_head j k ks s, ap p s ∙ x)
    here x (inr r) later = later r

    of : (b : Bool) → p k ≡ b → list_any (bytes_eq j) (cond b (k ∷ filter p ks) (filter p ks)) ≡ true
        → (list_any (bytes_eq j) (filter p ks) ≡ true → (list_any (bytes_eq j) (k ∷ ks) ≡ true) × (p j ≡ true)) → (list_any (bytes_eq j) (k ∷ ks) ≡ true) × (p j ≡ true)
    of true x y later = here x (among j k (filter p ks) y) later
    of false x y later = later y

free_with : (o : Option Context) (is : List Waiting) → o ≡ None → is ≡ [] → is_free_with o is ≡ true
free_with None [] x y = refl
free_with None (i ∷ is) x y = absurd (cc y)
free_with (Some c) is x y = absurd (cc x)

with_free : (o : Option Context) (is : List Waiting) → is_free_with o is ≡ true → (o ≡ None) × (is ≡ [])
with_free None [] x = (refl, refl)
with_free None (i ∷ is) x = false_true x
with_free (Some c) is x = false_true x

module _ (a : Controller) (w : ℤ) (sound : AreSound a.accounts) (due : List Key) (due_is : (q : Key) → Contains due q ↔ HasDue w (times_of a.timers q)) (rise : IsStrictlySortedBy key_cmp due)
    (mid next : Books) (first : MarksAll every w (busy_keys a.accounts) (books a.accounts a.epochs) mid) (second : MarksAll is_free w due mid next) (book : Book) (m : MachineControl) (x : StandsFor a m) where
  abbrev free_key : Key → Bool
  free_key k = is_free (part_of a.accounts k)

  busy_is : (j : Key) → list_any (bytes_eq j) (busy_keys a.accounts) ≡ true → is_free (part_of a.accounts j) ≡ false
  busy_is j h = by_cases (is_free (part_of a.accounts j)) (λ y. true_false (sym h ∙ sym (same_lists j (busy_keys a.accounts)) ∙ sound.busy j ∙ ap not y)) (λ y. y)

  quiet : Quiet (books a.accounts a.epochs) mid
  quiet = all_quiet w (busy_keys a.accounts) (books a.accounts a.epochs) mid busy_is first

  free_to : (k : Key) → free_key k ≡ true → is_free_on (m.controls k) ≡ true
  free_to k e =
      let f = free_control a.program a.mails.mails a.contexts k (part_of a.accounts k) (times_of a.timers k) (m.controls k) (x.stands.keys k) e in
      free_with (m.controls k).owner (m.controls k).waiting f.0 f.1

  free_from : (k : Key) → is_free_on (m.controls k) ≡ true → free_key k ≡ true
  free_from k e =
      let f = with_free (m.controls k).owner (m.controls k).waiting e in
      free_part a.program a.mails.mails a.contexts k (part_of a.accounts k) (times_of a.timers k) (m.controls k) (x.stands.keys k) f.0 f.1

  listed : (k : Key) (ks : List Key) → Contains ks k → list_any (bytes_eq k) ks ≡ true
  listed k ks c = contains_from k ks c.0 c.1 c.2

  pub marked_idle : BecomeIdle a (with_mark a w next.accounts book) w m
  marked_idle = record {
    keys = filter free_key due;
    which = λ k. (
      λ c. (
          let kept = kept_from k free_key due (listed k (filter free_key due) c) in
          (free_to k kept.1, subst (HasDue w) (x.stands.keys k).times ((due_is k).0 (contains_to k due kept.0)))
          ),
      λ it. contains_to k (filter free_key due) (kept_to k free_key due (listed k due ((due_is k).1 (subst (HasDue w) (sym (x.stands.keys k).times) it.1))) (free_from k it.0)),
    );
    rising = IsStrictlySortedBy-filter key_cmp free_key due rise;
    last = free_last w free_key due mid next rise (λ j h. quiet.free j) second ∙ ap (λ (js : List Key). js ++ filter free_key due) quiet.idle;
  }
