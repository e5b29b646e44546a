-- Which numbers contexts get, and that they count from 1.
use Rattle.std.proofs.Common.{◌≡◌, ℕ, zero, suc, ◌+◌, ◌^◌, ◌<◌, ◌-◌, Bool, true, false, List, [], ◌∷◌, length, Option, Some, None, IsSomeAnd, ◌⊎◌, inl, inr, refl, sym, ap, ◌∙◌, subst, arith}
use Rattle.ax_text.specs.declared.vocabulary.Answer.{Answer}
use Rattle.ax_future.specs.declared.callback.Turn.{Turn}
use Rattle.ax_machine.specs.Entries.{Key}
use Rattle.ax_context.specs.declared.id.Id.{Id}
use Rattle.ax_context.specs.declared.contexts.Context.{Context as Held}
use Rattle.ax_context.specs.Slots.{Slots, ahead, at, Has, OthersStay, IsTaken, IsFirstFree, IsPaid}
use Rattle.ax_mailbox.specs.Queue.{Queue}
use Rattle.ax_execution.proofs.Upto.{by_cases}
use Rattle.ax_core.specs.declared.record.Record.{Record}
use Rattle.ax_core.specs.declared.effects.Fired.{Fired}
use Rattle.ax_core.specs.declared.effects.Effects.{Effects}
use Rattle.ax_core.specs.declared.controller.Controller.{Controller}
use Rattle.ax_core.specs.Contexts.{same_id}
use Rattle.ax_core.specs.Admissions.{TakesIn}
use Rattle.ax_core.specs.Firings.{firing, FiresAt}
use Rattle.ax_core.specs.Callbacks.{HandsOver, GoesOn}
use Rattle.ax_core.specs.Calls.{EndsBy, CallEnds, Started, Replied}
use Rattle.ax_core.specs.Rooms.{IsNew}
use Rattle.ax_core.specs.Numbers.{next_number, IsUsed, IsNumbered, NoneNumbered, NumbersWith, number_fired, NumbersBehind, NothingNumbered, Call, AreCalls, with_number, numbers_of, numbers_from}
use Rattle.ax_core.proofs.Flows.{same_is, other_ids}
use Rattle.ax_core.proofs.Ends.{has_held, has_at}

-- ---- contexts whose numbers stay

-- the next number stays, and no number is used that wasn't
record Stays (s t : Slots Record) : Type 0 where
  next : t.next ≡ s.next
  used : (k : ℕ) → IsTaken t k → IsTaken s k

stays_same : (s t : Slots Record) → t ≡ s → Stays s t
stays_same s t e = record { next = ap (λ (u : Slots Record). u.next) e; used = λ k x. subst (λ (u : Slots Record). IsTaken u k) e x }

stays_then : (s t u : Slots Record) → Stays s t → Stays t u → Stays s u
stays_then s t u x y = record { next = y.next ∙ x.next; used = λ k z. x.used k (y.used k z) }

numbered_at : (s : Slots Record) (id : Id) (k : ℕ) (o : Option (Held Record)) → at s id ≡ o → IsSomeAnd o (λ c. c.number ≡ k) → IsTaken s k
numbered_at s id k o e x = (id, subst (λ (o : Option (Held Record)). IsSomeAnd o (λ c. c.number ≡ k)) (sym e) x)

changed_used : (s t : Slots Record) (id : Id) → OthersStay s t id → (k : ℕ) → IsTaken t k → Has t id (λ c. c.number ≡ k) ⊎ IsTaken s k
changed_used s t id others k x = by_cases (same_id id x.0)
    (λ e. inl (subst (λ (i : Id). Has t i (λ c. c.number ≡ k)) (sym (same_is id x.0 e)) x.1))
    (λ e. inr (x.0, subst (λ (o : Option (Held Record)). IsSomeAnd o (λ c. c.number ≡ k)) (others x.0 (other_ids id x.0 e)) x.1))

module _ (s t : Slots Record) (id : Id) (others : OthersStay s t id) (next : t.next ≡ s.next) where
  stays_changed : (h g : Held Record) → at s id ≡ Some h → at t id ≡ Some g → g.number ≡ h.number → Stays s t
  stays_changed h g here there same = record {
    next = next;
    used = λ k x. elim (changed_used s t id others k x) [
      | inl y ↦ numbered_at s id k (Some h) here (sym same ∙ has_at (λ (c : Held Record). c.number ≡ k) (at t id) g there y)
      | inr y ↦ y
    ];
  }

  stays_gone : at t id ≡ None → Stays s t
  stays_gone gone = record {
    next = next;
    used = λ k x. elim (changed_used s t id others k x) [
      | inl y ↦ absurd (subst (λ (o : Option (Held Record)). IsSomeAnd o (λ c. c.number ≡ k)) gone y)
      | inr y ↦ y
    ];
  }

none : (a b : Controller) → Stays a.contexts b.contexts → NoneNumbered a b
none a b x = record { next = x.next; used = x.used }

stays_with : (a mid b : Controller) (o : Option ℕ) → Stays a.contexts mid.contexts → NumbersWith mid b o → NumbersWith a b o
stays_with a mid b None x y = none a b (stays_then a.contexts mid.contexts b.contexts x (record { next = y.next; used = y.used }))
stays_with a mid b (Some n) x y = (y.0, none a y.0 (stays_then a.contexts mid.contexts y.0.contexts x (record { next = y.1.next; used = y.1.used })), y.2)

-- a call that leaves the contexts alone
pub same_numbers : (a b : Controller) → b.contexts ≡ a.contexts → NoneNumbered a b
same_numbers a b same = none a b (stays_same a.contexts b.contexts same)

-- ---- a context is made

made_numbered : (a b : Controller) (id : Id) (h : Held Record) → OthersStay a.contexts b.contexts id → at b.contexts id ≡ Some h → IsFirstFree a.contexts h.number → b.contexts.next ≡ ahead h.number 1 → IsNumbered a b h.number
made_numbered a b id h others here number next = record {
  number = number;
  next = next;
  used = λ k x. elim (changed_used a.contexts b.contexts id others k x) [
    | inl y ↦ inl (sym (has_at (λ (c : Held Record). c.number ≡ k) (at b.contexts id) h here y))
    | inr y ↦ inr y
  ];
}

pub row_numbered : (a b : Controller) (r : Record) (id : Id) (n : ℕ) → TakesIn a b r id → Has b.contexts id (λ c. n ≡ c.number) → IsNumbered a b n
row_numbered a b r id n t named = of (has_held (λ (c : Held Record). n ≡ c.number) (at b.contexts id) named)
  where
    of : (h : Held Record) × ((at b.contexts id ≡ Some h) × (n ≡ h.number)) → IsNumbered a b n
    of it = subst (IsNumbered a b) (sym it.1.1) (made_numbered a b id it.0 t.others it.1.0
        (has_at (λ (c : Held Record). IsFirstFree a.contexts c.number) (at b.contexts id) it.0 it.1.0 t.number)
        (has_at (λ (c : Held Record). b.contexts.next ≡ ahead c.number 1) (at b.contexts id) it.0 it.1.0 t.next))

pub fired_numbered : (a b : Controller) (key : Key) (f : Fired) → FiresAt a b key f → IsNumbered a b f.context
fired_numbered a b key f h = made_numbered a b h.id (record { payload = firing key f.time f.mark; epoch = h.epoch; number = f.context; count = 1 }) h.others h.made h.number h.next

-- ---- a callback ends

handed : (a b : Controller) (key : Key) → HandsOver a b key → Stays a.contexts b.contexts
handed a b key h = stays_same a.contexts b.contexts (ap (λ (c : Controller). c.contexts) h.same)

goes_numbers : (a mid b : Controller) (key : Key) (fired : Option Fired) → Stays a.contexts mid.contexts → GoesOn mid b key fired → NumbersBehind a b fired
goes_numbers a mid b key None x y = none a b (stays_then a.contexts mid.contexts b.contexts x (handed mid b key y.1))
goes_numbers a mid b key (Some f) x y = (y.0, none a y.0 (stays_then a.contexts mid.contexts y.0.contexts x (handed mid y.0 key y.1.0)), fired_numbered y.0 b key f y.1.1)

ends_numbers : (a b : Controller) (id : Id) (h : Held Record) (gone : Bool) (fired : Option Fired) → at a.contexts id ≡ Some h → EndsBy a b id h gone fired → NumbersBehind a b fired
ends_numbers a b id h false None here w = none a b (stays_changed a.contexts b.contexts id w.others w.next h (record h { count = h.count - 1 }) here w.left refl)
ends_numbers a b id h false (Some f) here w = absurd w
ends_numbers a b id h true fired here w = goes_numbers a w.mid b h.payload.facts.key fired (stays_gone a.contexts w.mid.contexts id w.given.others w.given.next w.given.free) w.goes

call_numbers : (a b : Controller) (id : Id) (h : Held Record) (t : Turn) (f : Effects) → at a.contexts id ≡ Some h → CallEnds a b id h t f → NumbersBehind a b f.fired
call_numbers a b id h t f here c =
    let there : at c.mid.contexts id ≡ Some (record h { count = h.count + length t.asks }) =
    has_at (λ (g : Held Record). at c.mid.contexts id ≡ Some (record g { count = g.count + length t.asks })) (at a.contexts id) h here c.done.held.counted in
    stays_with a c.mid b (number_fired f.fired)
    (stays_changed a.contexts c.mid.contexts id c.done.held.others c.done.held.next h (record h { count = h.count + length t.asks }) here there refl)
    (ends_numbers c.mid b id (record h { count = h.count + length t.asks }) f.gone f.fired there c.ends)

module _ (a b : Controller) (left : Queue) (id : Id) (f : Effects) where
  ran_numbers : (s : Slots Record) (payload : Record) (h : Held Record) (t : Turn) → at a.contexts id ≡ Some h → IsPaid a.contexts s id payload
      → CallEnds (record a { mails = left; contexts = s }) b id (record h { payload = payload }) t f → NumbersBehind a b f.fired
  ran_numbers s payload h t here paid ends =
      let there : at s id ≡ Some (record h { payload = payload }) = has_at (λ (g : Held Record). at s id ≡ Some (record g { payload = payload })) (at a.contexts id) h here paid.paid in
      stays_with a (record a { mails = left; contexts = s }) b (number_fired f.fired)
      (stays_changed a.contexts s id paid.others paid.next h (record h { payload = payload }) here there refl)
      (call_numbers (record a { mails = left; contexts = s }) b id (record h { payload = payload }) t f there ends)

  pub started_numbers : Has a.contexts id (Started (record a { mails = left }) b id f) → NumbersBehind a b f.fired
  started_numbers x = of (has_held (Started (record a { mails = left }) b id f) (at a.contexts id) x)
    where
      of : (h : Held Record) × ((at a.contexts id ≡ Some h) × Started (record a { mails = left }) b id f h) → NumbersBehind a b f.fired
      of it = ran_numbers it.1.1.contexts it.1.1.begun.payload it.0 it.1.1.turn it.1.0 it.1.1.begun.paid it.1.1.ended

  pub replied_numbers : (slot : ℕ) (answer : Answer) → Has a.contexts id (Replied (record a { mails = left }) b id slot answer f) → NumbersBehind a b f.fired
  replied_numbers slot answer x = of (has_held (Replied (record a { mails = left }) b id slot answer f) (at a.contexts id) x)
    where
      of : (h : Held Record) × ((at a.contexts id ≡ Some h) × Replied (record a { mails = left }) b id slot answer f h) → NumbersBehind a b f.fired
      of it = ran_numbers it.1.1.contexts it.1.1.resumed.payload it.0 it.1.1.turn it.1.0 it.1.1.resumed.paid it.1.1.ended

-- ---- a controller that was just made

pub nothing_numbered : (a : Controller) → IsNew a → NothingNumbered a
nothing_numbered a new = record {
  next = ap (λ (s : Slots Record). s.next) new.contexts;
  used = λ k x. subst (λ (s : Slots Record). Has s x.0 (λ c. c.number ≡ k)) new.contexts x.1;
}

-- ---- the contexts of a run of calls are counted

-- all numbers that are used are below the next one, and there are so many more
record CountsTo (a : Controller) (n : ℕ) : Type 0 where
  next : next_number a ≡ n
  below : (k : ℕ) → IsUsed a k → k < n

ahead_none : (n : ℕ) → n < 2 ^ 64 → ahead n 0 ≡ n
ahead_none n few = omega (arith, few)

ahead_one : (n : ℕ) → suc n < 2 ^ 64 → ahead n 1 ≡ suc n
ahead_one n few = omega (arith, few)

first_is : (a : Controller) (n m : ℕ) → CountsTo a n → n < 2 ^ 64 → IsFirstFree a.contexts m → m ≡ n
first_is a n m x few f = of f.steps refl
  where
    of : (k : ℕ) → f.steps ≡ k → m ≡ n
    of zero e = f.there ∙ ap (ahead a.contexts.next) e ∙ ap (λ (i : ℕ). ahead i 0) x.next ∙ ahead_none n few
    of (suc k) e =
        let taken : IsTaken a.contexts (ahead a.contexts.next 0) = f.before 0 (omega (arith, e)) in
        let less : n < n = x.below n (subst (IsUsed a) (ap (λ (i : ℕ). ahead i 0) x.next ∙ ahead_none n few) taken) in
        absurd (omega (arith, less))

counts_none : (a b : Controller) (n : ℕ) → CountsTo a n → NoneNumbered a b → CountsTo b n
counts_none a b n x y = record { next = y.next ∙ x.next; below = λ k u. x.below k (y.used k u) }

counts_one : (a b : Controller) (n : ℕ) → CountsTo a n → suc n < 2 ^ 64 → IsNumbered a b n → CountsTo b (suc n)
counts_one a b n x few y = record {
  next = y.next ∙ ahead_one n few;
  below = λ k u. elim (y.used k u) [
    | inl e ↦ omega (arith, e)
    | inr v ↦ (let less : k < n = x.below k v in omega (arith, less))
  ];
}

counted_from : (a : Controller) (cs : List Call) (n : ℕ) → CountsTo a n → AreCalls a cs → n + length (numbers_of cs) < 2 ^ 64 → numbers_of cs ≡ numbers_from n (length (numbers_of cs))
counted_from a [] n x calls few = refl
counted_from a (c ∷ cs) n x calls few = of c.number calls.0 few (λ k y less. counted_from c.leaves cs k y calls.1 less)
  where
    of : (o : Option ℕ) → NumbersWith a c.leaves o → n + length (with_number o (numbers_of cs)) < 2 ^ 64
        → ((k : ℕ) → CountsTo c.leaves k → k + length (numbers_of cs) < 2 ^ 64 → numbers_of cs ≡ numbers_from k (length (numbers_of cs)))
        → with_number o (numbers_of cs) ≡ numbers_from n (length (with_number o (numbers_of cs)))
    of None y few go = go n (counts_none a c.leaves n x y) few
    of (Some m) y few go =
        let mid : CountsTo y.0 n = counts_none a y.0 n x y.1 in
        let same : m ≡ n = first_is y.0 n m mid (omega (arith, few)) y.2.number in
        let rest : numbers_of cs ≡ numbers_from (suc n) (length (numbers_of cs)) =
        go (suc n) (counts_one y.0 c.leaves n mid (omega (arith, few)) (subst (IsNumbered y.0 c.leaves) same y.2)) (omega (arith, few)) in
        ap (λ (i : ℕ). i ∷ numbers_of cs) same ∙ ap (λ (ns : List ℕ). n ∷ ns) rest

pub counted : (a : Controller) (cs : List Call) → NothingNumbered a → AreCalls a cs → length (numbers_of cs) < 2 ^ 64 - 1 → numbers_of cs ≡ numbers_from 1 (length (numbers_of cs))
counted a cs new calls few = counted_from a cs 1 (record { next = new.next; below = λ k u. absurd (new.used k u) }) calls (omega (arith, few))
