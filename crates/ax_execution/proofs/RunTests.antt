-- A test of whether events are a run.
use Rattle.std.proofs.Common.{◌≡◌, ℕ, List, [], ◌∷◌, ◌++◌, Bool, true, false, ◌&&◌, not, nat_eq, nat_lt, Option, Some, None, refl, sym, ap, ap₂, ◌∙◌, subst, ⊎_elim}
use Rattle.std.proofs.lemmas.Bool.{and_parts, and_from, ltb-true, lt-ltb, eqb-true, eqb-false}
use Rattle.std.specs.Str.{bytes_eq}
use Rattle.std.specs.List.{list_any}
use Rattle.ax_text.specs.Programs.{Program}
use Rattle.ax_text.specs.declared.vocabulary.Request.{Request}
use Rattle.ax_text.specs.declared.vocabulary.Answer.{Answer}
use Rattle.ax_machine.specs.Entries.{Key}
use Rattle.ax_machine.specs.Events.{Event}
use Rattle.ax_machine.proofs.FiringLemmas.{among, key_is, same_key}
use Rattle.ax_text.specs.Controls.{request_at}
use Rattle.ax_execution.specs.Contexts.{Running, Stage, Unbegun, Begun, Context, Waiting, Row, Mark, Part, is_idle_with, is_idle}
use Rattle.ax_execution.specs.Machine.{Closing, ByWatermark, ByBarrier, Closed, Machine, Happening, Admit, Close, Fire, Start, Serve, Deliver, Send, Rules, happens, in_flight, taken, machine_from}
use Rattle.ax_execution.specs.Allowed.{IsWatermark, NoBarrier, IsOpen, NoneIsIdle, OwnedLater, WaitLater, FirstIsFinished, NumbersOwner, NotIn, IsNew, StageUnbegun, StageAsks, StageHas, OfOwner, MayFireNow, Allowed, IsRun}
use Rattle.ax_execution.specs.Tests.{no_key, every, is_watermark, no_barrier, nothing_unsent, owner_new, waiting_new, part_new, owned_later, wait_later, part_later, none_first, unbegun, some_request, no_answer, asks, has, of_owner, may_fire_now, is_open, not_idle, allowed, runs}
use Rattle.ax_execution.specs.Origins.{Origin, IsOrigin}
use Rattle.ax_execution.proofs.Handles.{Handles}
use Rattle.ax_execution.proofs.Alone.{Alone, event_alone, start_alone}
use Rattle.ax_execution.proofs.Upto.{by_cases}
use Rattle.ax_execution.proofs.Orderly.{IsFree, IsOrderly, keys_rise, event_orderly, start_orderly}

-- what the tests say

false_true : false ≡ true → ⊥
false_true e = cc e

not_is : (b : Bool) → not b ≡ true → b ≡ false
not_is true h = absurd (false_true h)
not_is false h = refl

no_key_is : (o : Option Key) → no_key o ≡ true → o ≡ None
no_key_is None h = refl
no_key_is (Some k) h = absurd (false_true h)

every_at : (t : Part → Bool) (parts : Key → Part) (ks : List Key) → every t parts ks ≡ true → (k : Key) → list_any (bytes_eq k) ks ≡ true → t (parts k) ≡ true
every_at t parts [] h k m = absurd (false_true m)
every_at t parts (j ∷ ks) h k m =
    let both : (t (parts j) ≡ true) × (every t parts ks ≡ true) = and_parts (t (parts j)) (every t parts ks) h in
    ⊎_elim (λ e. ap (λ (i : Key). t (parts i)) e ∙ both.0) (λ e. every_at t parts ks both.1 k e) (among k j ks m)

for_all : (P : Part → Type 0) (t : Part → Bool) → ((q : Part) → t q ≡ true → P q) → ((q : Part) → IsFree q → P q) → (r : Rules) (m : Machine) → IsOrderly r m
    → every t m.parts m.keys ≡ true → (k : Key) → P (m.parts k)
for_all P t of free r m o h k = by_cases (list_any (bytes_eq k) m.keys) (λ x. of (m.parts k) (every_at t m.parts m.keys h k x)) (λ x. free (m.parts k) (o.absent k x))

owner_new_is : (n : ℕ) (o : Option Context) → owner_new n o ≡ true → NumbersOwner n o → ⊥
owner_new_is n None h x = x
owner_new_is n (Some c) h x = eqb-false c.number n (not_is (nat_eq c.number n) h) x

waiting_new_is : (n : ℕ) (is : List Waiting) → waiting_new n is ≡ true → NotIn n is
waiting_new_is n [] h = tt
waiting_new_is n (Row i e f ∷ is) h =
    let both : (not (nat_eq i n) ≡ true) × (waiting_new n is ≡ true) = and_parts (not (nat_eq i n)) (waiting_new n is) h in
    (λ x. eqb-false i n (not_is (nat_eq i n) both.0) x, waiting_new_is n is both.1)
waiting_new_is n (Mark e w more ∷ is) h = waiting_new_is n is h

abbrev PartNew : ℕ → Part → Type 0
PartNew n q = (NumbersOwner n q.owner → ⊥) × NotIn n q.waiting

part_new_is : (n : ℕ) (q : Part) → part_new n q ≡ true → PartNew n q
part_new_is n q h = let both : (owner_new n q.owner ≡ true) × (waiting_new n q.waiting ≡ true) = and_parts (owner_new n q.owner) (waiting_new n q.waiting) h in
    (owner_new_is n q.owner both.0, waiting_new_is n q.waiting both.1)

free_new : (n : ℕ) (q : Part) → IsFree q → PartNew n q
free_new n q f = (λ x. subst (NumbersOwner n) f.owner x, subst (NotIn n) (sym f.waiting) tt)

owned_later_is : (e : ℕ) (o : Option Context) → owned_later e o ≡ true → OwnedLater e o
owned_later_is e None h = tt
owned_later_is e (Some c) h = ltb-true e c.epoch h

wait_later_is : (e : ℕ) (is : List Waiting) → wait_later e is ≡ true → WaitLater e is
wait_later_is e [] h = tt
wait_later_is e (Row n f facts ∷ is) h = let both : (nat_lt e f ≡ true) × (wait_later e is ≡ true) = and_parts (nat_lt e f) (wait_later e is) h in (ltb-true e f both.0, wait_later_is e is both.1)
wait_later_is e (Mark f w more ∷ is) h = let both : (nat_lt e f ≡ true) × (wait_later e is ≡ true) = and_parts (nat_lt e f) (wait_later e is) h in (ltb-true e f both.0, wait_later_is e is both.1)

abbrev PartLater : ℕ → Part → Type 0
PartLater e q = OwnedLater e q.owner × WaitLater e q.waiting

part_later_is : (e : ℕ) (q : Part) → part_later e q ≡ true → PartLater e q
part_later_is e q h = let both : (owned_later e q.owner ≡ true) × (wait_later e q.waiting ≡ true) = and_parts (owned_later e q.owner) (wait_later e q.waiting) h in
    (owned_later_is e q.owner both.0, wait_later_is e q.waiting both.1)

free_later : (e : ℕ) (q : Part) → IsFree q → PartLater e q
free_later e q f = (subst (OwnedLater e) (sym f.owner) tt, subst (WaitLater e) (sym f.waiting) tt)

no_barrier_is : (cs : List Closed) → no_barrier cs ≡ true → NoBarrier cs
no_barrier_is [] h = tt
no_barrier_is (c ∷ cs) h = let both : (is_watermark c.closing ≡ true) × (no_barrier cs ≡ true) = and_parts (is_watermark c.closing) (no_barrier cs) h in
    (of c.closing both.0, no_barrier_is cs both.1)
  where
    of : (x : Closing) → is_watermark x ≡ true → IsWatermark x
    of (ByWatermark time) e = tt
    of (ByBarrier id) e = absurd (false_true e)

nothing_unsent_is : (serial : Bool) (cs : List Closed) → nothing_unsent serial cs ≡ true → serial ≡ true → cs ≡ []
nothing_unsent_is false cs h e = absurd (false_true e)
nothing_unsent_is true [] h e = refl
nothing_unsent_is true (c ∷ cs) h e = absurd (false_true h)

is_open_is : (r : Rules) (m : Machine) → is_open r m ≡ true → IsOpen r m
is_open_is r m h = let both : (no_barrier m.unsent ≡ true) × (nothing_unsent r.serial m.unsent ≡ true) = and_parts (no_barrier m.unsent) (nothing_unsent r.serial m.unsent) h in
    (no_barrier_is m.unsent both.0, nothing_unsent_is r.serial m.unsent both.1)

may_fire_is : (k : Key) (o : Option Key) → may_fire_now k o ≡ true → MayFireNow k o
may_fire_is k None h = tt
may_fire_is k (Some j) h = key_is j k h

of_owner_is : (P : Stage → Type 0) (t : Stage → Bool) → ((st : Stage) → t st ≡ true → P st) → (o : Option Context) → of_owner t o ≡ true → OfOwner P o
of_owner_is P t f None h = absurd (false_true h)
of_owner_is P t f (Some c) h = f c.stage h

unbegun_is : (st : Stage) → unbegun st ≡ true → StageUnbegun st
unbegun_is Unbegun h = tt
unbegun_is (Begun r) h = absurd (false_true h)

request_is : (o : Option Request) → some_request o ≡ true → (q : Request) × (o ≡ Some q)
request_is None h = absurd (false_true h)
request_is (Some q) h = (q, refl)

no_answer_is : (o : Option Answer) → no_answer o ≡ true → o ≡ None
no_answer_is None h = refl
no_answer_is (Some a) h = absurd (false_true h)

answer_is : (o : Option Answer) → not (no_answer o) ≡ true → (a : Answer) × (o ≡ Some a)
answer_is None h = absurd (false_true h)
answer_is (Some a) h = (a, refl)

asks_is : (slot : ℕ) (st : Stage) → asks slot st ≡ true → StageAsks slot st
asks_is slot Unbegun h = absurd (false_true h)
asks_is slot (Begun r) h =
    let both : (some_request (request_at r.control slot) ≡ true) × (no_answer (r.answers slot) ≡ true) = and_parts (some_request (request_at r.control slot)) (no_answer (r.answers slot)) h in
    (request_is (request_at r.control slot) both.0, no_answer_is (r.answers slot) both.1)

has_is : (slot : ℕ) (st : Stage) → has slot st ≡ true → StageHas slot st
has_is slot Unbegun h = absurd (false_true h)
has_is slot (Begun r) h = answer_is (r.answers slot) h

-- and what is so passes the tests

and_join : {x y : Bool} → x ≡ true → y ≡ true → (x && y) ≡ true
and_join {x} {y} p q = and_from x y p q

no_key_so : (o : Option Key) → o ≡ None → no_key o ≡ true
no_key_so o e = ap no_key e

every_so : (t : Part → Bool) (parts : Key → Part) (ks : List Key) → ((k : Key) → t (parts k) ≡ true) → every t parts ks ≡ true
every_so t parts [] h = refl
every_so t parts (k ∷ ks) h = and_join (h k) (every_so t parts ks h)

not_so : (b : Bool) → b ≡ false → not b ≡ true
not_so b e = ap not e

differs_so : (i n : ℕ) → (i ≡ n → ⊥) → not (nat_eq i n) ≡ true
differs_so i n h = not_so (nat_eq i n) (by_cases (nat_eq i n) (λ x. absurd (h (eqb-true i n x))) (λ x. x))

owner_new_so : (n : ℕ) (o : Option Context) → (NumbersOwner n o → ⊥) → owner_new n o ≡ true
owner_new_so n None h = refl
owner_new_so n (Some c) h = differs_so c.number n h

waiting_new_so : (n : ℕ) (is : List Waiting) → NotIn n is → waiting_new n is ≡ true
waiting_new_so n [] h = refl
waiting_new_so n (Row i e f ∷ is) h = and_join (differs_so i n h.0) (waiting_new_so n is h.1)
waiting_new_so n (Mark e w more ∷ is) h = waiting_new_so n is h

new_so : (n : ℕ) (m : Machine) → IsNew n m → every (part_new n) m.parts m.keys ≡ true
new_so n m h = every_so (part_new n) m.parts m.keys (λ k. and_join (owner_new_so n (m.parts k).owner (h k).0) (waiting_new_so n (m.parts k).waiting (h k).1))

owned_later_so : (e : ℕ) (o : Option Context) → OwnedLater e o → owned_later e o ≡ true
owned_later_so e None h = refl
owned_later_so e (Some c) h = lt-ltb e c.epoch h

wait_later_so : (e : ℕ) (is : List Waiting) → WaitLater e is → wait_later e is ≡ true
wait_later_so e [] h = refl
wait_later_so e (Row n f facts ∷ is) h = and_join (lt-ltb e f h.0) (wait_later_so e is h.1)
wait_later_so e (Mark f w more ∷ is) h = and_join (lt-ltb e f h.0) (wait_later_so e is h.1)

first_so : (cs : List Closed) (m : Machine) → FirstIsFinished cs m → none_first cs m ≡ true
first_so [] m h = absurd h
first_so (c ∷ cs) m h = every_so (part_later c.epoch) m.parts m.keys (λ k. and_join (owned_later_so c.epoch (m.parts k).owner (h k).0) (wait_later_so c.epoch (m.parts k).waiting (h k).1))

no_barrier_so : (cs : List Closed) → NoBarrier cs → no_barrier cs ≡ true
no_barrier_so [] h = refl
no_barrier_so (c ∷ cs) h = and_join (of c.closing h.0) (no_barrier_so cs h.1)
  where
    of : (x : Closing) → IsWatermark x → is_watermark x ≡ true
    of (ByWatermark time) i = refl
    of (ByBarrier id) i = absurd i

nothing_unsent_so : (serial : Bool) (cs : List Closed) → (serial ≡ true → cs ≡ []) → nothing_unsent serial cs ≡ true
nothing_unsent_so false cs h = refl
nothing_unsent_so true cs h = ap (nothing_unsent true) (h refl)

is_open_so : (r : Rules) (m : Machine) → IsOpen r m → is_open r m ≡ true
is_open_so r m h = and_join (no_barrier_so m.unsent h.0) (nothing_unsent_so r.serial m.unsent h.1)

may_fire_so : (k : Key) (o : Option Key) → MayFireNow k o → may_fire_now k o ≡ true
may_fire_so k None h = refl
may_fire_so k (Some j) h = ap (λ (i : Key). bytes_eq j i) (sym h) ∙ same_key j

of_owner_so : (P : Stage → Type 0) (t : Stage → Bool) → ((st : Stage) → P st → t st ≡ true) → (o : Option Context) → OfOwner P o → of_owner t o ≡ true
of_owner_so P t f None h = absurd h
of_owner_so P t f (Some c) h = f c.stage h

unbegun_so : (st : Stage) → StageUnbegun st → unbegun st ≡ true
unbegun_so Unbegun h = refl
unbegun_so (Begun r) h = absurd h

asks_so : (slot : ℕ) (st : Stage) → StageAsks slot st → asks slot st ≡ true
asks_so slot Unbegun h = absurd h
asks_so slot (Begun r) h = and_join (ap some_request h.0.1) (ap no_answer h.1)

has_so : (slot : ℕ) (st : Stage) → StageHas slot st → has slot st ≡ true
has_so slot Unbegun h = absurd h
has_so slot (Begun r) h = ap (λ (o : Option Answer). not (no_answer o)) h.1

pub allowed_so : (r : Rules) (m : Machine) (e : Happening) → Allowed r e m → allowed r e m ≡ true
allowed_so r m (Admit n k time values) h = and_join (no_key_so m.must h.0) (and_join (is_open_so r m h.1) (and_join (lt-ltb (in_flight m) r.limit h.2)
    (and_join (every_so not_idle m.parts m.keys (λ j. not_so (is_idle (m.parts j)) (h.3 j))) (new_so n m h.4))))
allowed_so r m (Close (ByWatermark w)) h = and_join (no_key_so m.must h.0) (and_join (is_open_so r m h.1) h.2)
allowed_so r m (Close (ByBarrier id)) h = and_join (no_key_so m.must h.0) (is_open_so r m h.1)
allowed_so r m (Fire n k) h = and_join (may_fire_so k m.must h.0) (and_join h.1 (and_join (lt-ltb (in_flight m) r.limit h.2) (new_so n m h.3)))
allowed_so r m (Start k) h = and_join (no_key_so m.must h.0) (of_owner_so StageUnbegun unbegun unbegun_so (m.parts k).owner h.1)
allowed_so r m (Serve k slot) h = and_join (no_key_so m.must h.0) (of_owner_so (StageAsks slot) (asks slot) (asks_so slot) (m.parts k).owner h.1)
allowed_so r m (Deliver k slot) h = and_join (no_key_so m.must h.0) (of_owner_so (StageHas slot) (has slot) (has_so slot) (m.parts k).owner h.1)
allowed_so r m Send h = and_join (no_key_so m.must h.0) (first_so m.unsent m h.1)

module _ (r : Rules) (m : Machine) (o : IsOrderly r m) where
  new_is : (n : ℕ) → every (part_new n) m.parts m.keys ≡ true → IsNew n m
  new_is n h k = for_all (PartNew n) (part_new n) (part_new_is n) (free_new n) r m o h k

  first_is : (cs : List Closed) → none_first cs m ≡ true → FirstIsFinished cs m
  first_is [] h = absurd (false_true h)
  first_is (c ∷ cs) h = λ k. for_all (PartLater c.epoch) (part_later c.epoch) (part_later_is c.epoch) (free_later c.epoch) r m o h k

  not_idle_is : every not_idle m.parts m.keys ≡ true → NoneIsIdle m
  not_idle_is h k = for_all (λ q. is_idle q ≡ false) not_idle (λ q x. not_is (is_idle q) x) (λ q f. ap₂ is_idle_with f.owner f.waiting) r m o h k

  pub allowed_is : (e : Happening) → allowed r e m ≡ true → Allowed r e m
  allowed_is (Admit n k time values) h =
      let a = and_parts (no_key m.must) _ h in let b = and_parts (is_open r m) _ a.1 in let c = and_parts (nat_lt (in_flight m) r.limit) _ b.1 in
      let d = and_parts (every not_idle m.parts m.keys) _ c.1 in
      (no_key_is m.must a.0, is_open_is r m b.0, ltb-true (in_flight m) r.limit c.0, not_idle_is d.0, new_is n d.1)
  allowed_is (Close (ByWatermark w)) h =
      let a = and_parts (no_key m.must) _ h in let b = and_parts (is_open r m) _ a.1 in (no_key_is m.must a.0, is_open_is r m b.0, b.1)
  allowed_is (Close (ByBarrier id)) h = let a = and_parts (no_key m.must) _ h in (no_key_is m.must a.0, is_open_is r m a.1)
  allowed_is (Fire n k) h =
      let a = and_parts (may_fire_now k m.must) _ h in let b = and_parts (is_idle (m.parts k)) _ a.1 in let c = and_parts (nat_lt (in_flight m) r.limit) _ b.1 in
      (may_fire_is k m.must a.0, b.0, ltb-true (in_flight m) r.limit c.0, new_is n c.1)
  allowed_is (Start k) h = let a = and_parts (no_key m.must) _ h in (no_key_is m.must a.0, of_owner_is StageUnbegun unbegun unbegun_is (m.parts k).owner a.1)
  allowed_is (Serve k slot) h = let a = and_parts (no_key m.must) _ h in (no_key_is m.must a.0, of_owner_is (StageAsks slot) (asks slot) (asks_is slot) (m.parts k).owner a.1)
  allowed_is (Deliver k slot) h = let a = and_parts (no_key m.must) _ h in (no_key_is m.must a.0, of_owner_is (StageHas slot) (has slot) (has_is slot) (m.parts k).owner a.1)
  allowed_is Send h = let a = and_parts (no_key m.must) _ h in (no_key_is m.must a.0, first_is m.unsent a.1)

module _ (g : ℕ) (p : Program) (Good : Running → Type 0) (H : Handles p Good) (from : Origin) (fits : IsOrigin p from) where
  runs_from : (r : Rules) (es : List Happening) (m : Machine) (done : List Event) → Alone g p Good H from fits m done → IsOrderly r m → runs r g p es m ≡ true → IsRun r g p es m
  runs_from r [] m done a o h = tt
  runs_from r (e ∷ es) m done a o h =
      let both : (allowed r e m ≡ true) × (runs r g p es (happens g p e m) ≡ true) = and_parts (allowed r e m) (runs r g p es (happens g p e m)) h in
      let now : Allowed r e m = allowed_is r m o e both.0 in
      (now, runs_from r es (happens g p e m) (done ++ taken (e ∷ [])) (event_alone g p Good H from fits r e m done a now) (event_orderly r m o (keys_rise g p Good H from fits m done a) g p e now) both.1)

  -- events that pass the test are a run
  pub is_run : (r : Rules) (es : List Happening) → runs r g p es (machine_from from) ≡ true → IsRun r g p es (machine_from from)
  is_run r es h = runs_from r es (machine_from from) [] (start_alone g p Good H from fits) (start_orderly r p from fits) h

-- and a run passes it
pub run_passes : (r : Rules) (g : ℕ) (p : Program) (es : List Happening) (m : Machine) → IsRun r g p es m → runs r g p es m ≡ true
run_passes r g p [] m h = refl
run_passes r g p (e ∷ es) m h = and_join (allowed_so r m e h.0) (run_passes r g p es (happens g p e m) h.1)
