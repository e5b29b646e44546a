-- An epoch is closed by a barrier, and by a watermark.
use Rattle.std.proofs.Common.{◌≡◌, ◌≤◌, ◌<◌, ◌↔◌, ℕ, zero, suc, ◌+◌, nat_eq, ℤ, ◌≤ℤ◌, ◌<ℤ◌, int_le, int_lt, List, [], ◌∷◌, length, Bool, true, false, not, cond, ◌&&◌, ◌||◌, Option, Some, None, is_none, Ordering, Less, Equal, Greater, refl, sym, ap, ap₂, ◌∙◌, subst, arith, rules, ⊎_elim, eqb-true}
use lib.Dec.{T, ltb→lt}
use lib.IntN.{pos, negsuc}
use lib.Signed.{lt_z_yes, <ℤ-≤ℤ_trans}
use Rattle.std.proofs.lemmas.Int.{by_lt_z}
use Rattle.std.proofs.lemmas.Map.Lookups.{exact_bytes}
use Rattle.std.proofs.lemmas.Cmp.{nat_list_cmp_total, tied_itself}
use Rattle.std.specs.Ordering.{is_eq, int_cmp}
use Rattle.std.specs.Str.{bytes_eq}
use Rattle.std.specs.List.{list_any, Contains, slice_index_or, AllByRecursion}
use Rattle.std.specs.List.Sorted.{IsStrictlySortedBy}
use Rattle.ax_keys.specs.Keys.{key_cmp}
use Rattle.ax_text.specs.Times.{HasDue}
use Rattle.ax_lang.specs.Shown.{shown_program}
use Rattle.ax_machine.specs.Entries.{Key}
use Rattle.ax_machine.specs.Firings.{most_firings}
use Rattle.ax_machine.proofs.FiringLemmas.{key_is, same_key, has_head, among}
use Rattle.ax_account.specs.Parts.{Part, is_free}
use Rattle.ax_account.specs.Queues.{has_key}
use Rattle.ax_account.specs.Queues as queues
use Rattle.ax_context.specs.declared.id.Id.{Id}
use Rattle.ax_context.specs.declared.contexts.Context.{Context as Held}
use Rattle.ax_context.specs.Slots.{at}
use Rattle.ax_future.specs.declared.machine.Machine.{Machine as CodeMachine}
use Rattle.ax_text.specs.declared.vocabulary.Handler.{Handler}
use Rattle.ax_text.specs.declared.vocabulary.Handler.TheVariants as handler
use Rattle.ax_account.specs.Accounts.{Accounts, owner_of, part_of, busy_keys, AreSound}
use Rattle.ax_time.specs.declared.epoch.Marker.TheVariants as marker
use Rattle.ax_time.specs.Epochs.{Book, Fits64, current_of, count_of, closed_by}
use Rattle.ax_time.specs.Timers.{times_of}
use Rattle.ax_execution.specs.Sums.{total}
use Rattle.ax_execution.specs.Contexts.{Context, Waiting, Row, Mark, owners, rows_in, is_due}
use Rattle.ax_execution.specs.Counts.{one_at, row_of_epoch, owner_of_epoch, waiting_of_epoch, counted}
use Rattle.ax_execution.specs.ControlTurns.{contexts_on, mark_on}
use Rattle.ax_execution.specs.Machine.{ByWatermark, ByBarrier, Close}
use Rattle.ax_execution.specs.MachineControls.{MachineControl, happens_on, in_flight_on, control_of_epoch, epoch_count_on}
use Rattle.ax_execution.specs.ControlsAllowed.{AllowedOn}
use Rattle.ax_execution.specs.ControlChanges.{mark_stays}
use Rattle.ax_execution.specs.Reached.{MarksBelow, IsOrderly}
use Rattle.ax_execution.proofs.Upto.{by_cases}
use Rattle.ax_execution.proofs.ControlChanges.{epoch_changes}
use Rattle.ax_execution.proofs.ReachedLemmas.{event_reached}
use Rattle.ax_execution.proofs.ReachedOrderly.{reached_orderly}
use Rattle.ax_core.specs.declared.controller.Controller.{Controller}
use Rattle.ax_core.specs.declared.record.Record.{Record}
use Rattle.ax_core.specs.Closings.{Books, Marks, MarksIf, MarksAll, books, current_count, every}
use Rattle.ax_core.specs.Flow.{one_if, is_owner, is_to_start, OwnsBegun, OwnsOnceBegun, IsFlow}
use Rattle.ax_core.specs.May.{may_close}
use Rattle.ax_core.specs.Sound.{rules_of, StandsFor, IsSound}
use Rattle.ax_core.specs.Events.{Makes}
use Rattle.ax_core.proofs.Open.{is_open}
use Rattle.ax_core.proofs.Sends.{accepted}
use Rattle.ax_core.proofs.Sent.{with_epochs}
use Rattle.ax_core.proofs.Marking.{BookLaws, Midway, free_part, free_control}
use Rattle.ax_core.proofs.Marked.{with_controls, marked_at, Through, all_marked, free_marked, all_have_it}
use Rattle.ax_core.proofs.Closes.{CountsKept, none_yet, closed_stands}

true_false : {A : Type 0} → true ≡ false → A
true_false e = absurd (cc e)

false_true : {A : Type 0} → false ≡ true → A
false_true e = absurd (cc e)

orderly : (a : Controller) (m : MachineControl) → StandsFor a m → IsOrderly (rules_of a.settings) m
orderly a m h = reached_orderly (rules_of a.settings) (shown_program a.program) m (accepted a.program) h.reached

-- a barrier
module _ (law : CountsKept) (a : Controller) (id : ℤ) (fits : Fits64 a.epochs) (more : Fits64 (closed_by (marker.Barrier id) a.epochs)) (may : may_close a ≡ true) where
  pub barrier_closes : (m : MachineControl) → StandsFor a m → Makes a (with_epochs a true (closed_by (marker.Barrier id) a.epochs)) (Close (ByBarrier id)) m
  barrier_closes m h = record {
    allowed = allowed;
    stands = record {
      reached = event_reached (rules_of a.settings) (shown_program a.program) (Close (ByBarrier id)) None m h.reached allowed tt;
      stands = record {
        wm = h.stands.wm;
        keys = h.stands.keys;
        idle = h.stands.idle;
        flight = h.stands.flight;
        way = h.stands.way;
        epochs = closed_stands law a.epochs a.barrier m h.stands.epochs (marker.Barrier id) fits more (none_yet m (orderly a m h).owners (orderly a m h).waiting) m.wm;
      };
      settled = h.settled;
    };
  }
    where
      allowed : AllowedOn (rules_of a.settings) (Close (ByBarrier id)) m
      allowed = (h.settled, is_open a m h.stands.epochs may)

  pub barrier_sound : IsSound a → IsSound (with_epochs a true (closed_by (marker.Barrier id) a.epochs))
  barrier_sound h = record {
    ranges = h.ranges;
    rooms = record { contexts = h.rooms.contexts; requests = h.rooms.requests; mails = h.rooms.mails };
    flow = record { once = h.flow.once; starts = h.flow.starts; begun = h.flow.begun; queued = h.flow.queued; out = h.flow.out; shards = h.flow.shards };
    control = happens_on (shown_program a.program) (Close (ByBarrier id)) None h.control;
    stands = (barrier_closes h.control h.stands).stands;
  }

-- the two tests of keys are one
same_tests : (j k : Key) → queues.same_key j k ≡ bytes_eq j k
same_tests j k = by_cases (bytes_eq j k)
    (λ x. subst (λ (i : Key). queues.same_key j i ≡ true) (key_is j k x) (ap is_eq (tied_itself nat_list_cmp_total j)) ∙ sym x)
    (λ x. of (key_cmp j k) refl x ∙ sym x)
  where
    of : (o : Ordering) → key_cmp j k ≡ o → bytes_eq j k ≡ false → is_eq (key_cmp j k) ≡ false
    of Less e x = ap is_eq e
    of Equal e x = true_false (sym (subst (λ (i : Key). bytes_eq j i ≡ true) (exact_bytes j k e) (same_key j)) ∙ x)
    of Greater e x = ap is_eq e

pub same_lists : (j : Key) (ks : List Key) → has_key ks j ≡ list_any (bytes_eq j) ks
same_lists j [] = refl
same_lists j (k ∷ ks) = ap₂ (λ (x y : Bool). x || y) (same_tests j k) (same_lists j ks)

pub contains_to : (j : Key) (ks : List Key) → list_any (bytes_eq j) ks ≡ true → Contains ks j
contains_to j [] h = false_true h
contains_to j (k ∷ ks) h = ⊎_elim
    (λ (e : j ≡ k). (0, omega arith, sym e))
    (λ (x : list_any (bytes_eq j) ks ≡ true). let c = contains_to j ks x in (suc c.0, (let l : c.0 < length ks = c.1 in omega arith), c.2))
    (among j k ks h)

pub contains_from : (j : Key) (ks : List Key) (i : ℕ) → i < length ks → slice_index_or ks i j ≡ j → list_any (bytes_eq j) ks ≡ true
contains_from j [] i l e = absurd (omega (arith, l))
contains_from j (k ∷ ks) zero l e = has_head j k ks (sym e)
contains_from j (k ∷ ks) (suc i) l e = or_right (bytes_eq j k) (list_any (bytes_eq j) ks) (contains_from j ks i (omega (arith, l)) e)
  where
    or_right : (a b : Bool) → b ≡ true → (a || b) ≡ true
    or_right true b h = refl
    or_right false b h = h

-- a timer is due exactly where the first is
is_so : (b : Bool) → T b → b ≡ true
is_so true h = refl
is_so false h = absurd h

so_is : (b : Bool) → b ≡ true → T b
so_is true h = tt
so_is false h = false_true h

le_test : (t w : ℤ) → t ≤ℤ w → int_le t w ≡ true
le_test t w h = is_so (int_le t w) h.le

test_le : (t w : ℤ) → int_le t w ≡ true → t ≤ℤ w
test_le t w h = search rules

lt_test : (t w : ℤ) → t <ℤ w → int_lt t w ≡ true
lt_test t w h = is_so (int_lt t w) h.lt

asym : (a b : ℤ) → T (int_lt a b) → T (int_lt b a) → ⊥
asym (pos a) (pos b) h k = let x : a < b = ltb→lt a b h in let y : b < a = ltb→lt b a k in absurd (omega arith)
asym (pos a) (negsuc b) h k = absurd h
asym (negsuc a) (pos b) h k = absurd k
asym (negsuc a) (negsuc b) h k = let x : b < a = ltb→lt b a h in let y : a < b = ltb→lt a b k in absurd (omega arith)

lt_at : (t x w : ℤ) → T (int_lt t x) → x ≤ℤ w → T (int_lt t w)
lt_at t x w h l = (<ℤ-≤ℤ_trans {a = t} {b = x} {c = w} (lt_z_yes h) l).lt

less_le : (t x w : ℤ) → int_cmp t x ≡ Less → x ≤ℤ w → int_le t w ≡ true
less_le t x w h l = of (int_lt t x) refl h
  where
    of_other : (c : Bool) → cond c Greater Equal ≡ Less → int_le t w ≡ true
    of_other true g = absurd (cc g)
    of_other false g = absurd (cc g)

    of : (b : Bool) → int_lt t x ≡ b → cond b Less (cond (int_lt x t) Greater Equal) ≡ Less → int_le t w ≡ true
    of true e f = by_lt_z w t
        (λ y. absurd (asym t w (lt_at t x w (so_is (int_lt t x) e) l) y.lt))
        (λ y. le_test t w y)
    of false e f = of_other (int_lt x t) f

later_due : (t w : ℤ) (ts : List ℤ) (x : ℤ) (i : ℕ) → AllByRecursion (λ y. int_cmp t y ≡ Less) ts → i < length ts → slice_index_or ts i x ≡ x → x ≤ℤ w → int_le t w ≡ true
later_due t w [] x i a l e h = absurd (omega (arith, l))
later_due t w (y ∷ ts) x zero a l e h = less_le t x w (subst (λ (z : ℤ). int_cmp t z ≡ Less) e a.0) h
later_due t w (y ∷ ts) x (suc i) a l e h = later_due t w ts x i a.1 (omega (arith, l)) e h

due_to : (w : ℤ) (ts : List ℤ) → IsStrictlySortedBy int_cmp ts → HasDue w ts → is_due w ts ≡ true
unfolding IsStrictlySortedBy
due_to w [] s h = absurd (let l : h.1.0 < 0 = h.1.1 in omega arith)
due_to w (t ∷ ts) s h = of h.1.0 h.1.1 h.1.2
  where
    of : (i : ℕ) → i < length (t ∷ ts) → slice_index_or (t ∷ ts) i h.0 ≡ h.0 → int_le t w ≡ true
    of zero l e = subst (λ (z : ℤ). int_le z w ≡ true) (sym e) (le_test h.0 w h.2)
    of (suc i) l e = later_due t w ts h.0 i s.0 (omega (arith, l)) e h.2

due_from : (w : ℤ) (ts : List ℤ) → is_due w ts ≡ true → HasDue w ts
due_from w [] h = false_true h
due_from w (t ∷ ts) h = (t, (0, omega arith, refl), test_le t w h)

-- a controller with another watermark, other accounts and another book
abbrev pub with_mark : Controller → ℤ → Accounts → Book → Controller
with_mark a w accounts book = record {
  alloc = a.alloc;
  program = a.program;
  settings = a.settings;
  wm = w;
  barrier = a.barrier;
  contexts = a.contexts;
  accounts = accounts;
  buffer = a.buffer;
  outs = a.outs;
  mails = a.mails;
  timers = a.timers;
  epochs = book;
  spare = a.spare;
}

-- a mark takes no owner off
owner_stays : (w : ℤ) (k : Key) (s t : Books) → Marks w k s t → (key : Key) → owner_of t.accounts key ≡ owner_of s.accounts key
owner_stays w k s t h key = by_cases (bytes_eq k key)
    (λ x. subst (λ (i : Key). owner_of t.accounts i ≡ owner_of s.accounts i) (key_is k key x) (ap (λ (q : Part). q.owner) h.part.own))
    (λ x. ap (λ (q : Part). q.owner) (h.part.others key (λ e. true_false (sym (ap (bytes_eq k) e ∙ same_key k) ∙ x))))

owner_stays_if : (b : Bool) (w : ℤ) (k : Key) (s t : Books) → MarksIf b w k s t → (key : Key) → owner_of t.accounts key ≡ owner_of s.accounts key
owner_stays_if true w k s t h key = owner_stays w k s t h key
owner_stays_if false w k s t h key = ap (λ (b : Books). owner_of b.accounts key) h

owners_stay : (such : Part → Bool) (w : ℤ) (ks : List Key) (s t : Books) → MarksAll such w ks s t → (key : Key) → owner_of t.accounts key ≡ owner_of s.accounts key
owners_stay such w [] s t h key = ap (λ (b : Books). owner_of b.accounts key) h
owners_stay such w (k ∷ ks) s t h key = owners_stay such w ks h.0 t h.2 key ∙ owner_stays_if (such (part_of s.accounts k)) w k s h.0 h.1 key

-- the requests go on as before where the owners are as before
module _ (a : Controller) (w : ℤ) (accounts : Accounts) (book : Book) (same : (key : Key) → owner_of accounts key ≡ owner_of a.accounts key) where
  starts_so : (id : Id) (o : Option (Held Record)) → is_to_start a id o ≡ is_to_start (with_mark a w accounts book) id o
  starts_so id None = refl
  starts_so id (Some h) = ap (λ (x : Option Id). is_none h.payload.machine && is_owner id x) (sym (same h.payload.facts.key))

  begun_so : (id : Id) (o : Option CodeMachine) (key : Key) → OwnsBegun a id o key → OwnsBegun (with_mark a w accounts book) id o key
  begun_so id None key h = tt
  begun_so id (Some m) key h = same key ∙ h

  once_begun_so : (id : Id) (o : Option (Held Record)) → OwnsOnceBegun a id o → OwnsOnceBegun (with_mark a w accounts book) id o
  once_begun_so id None h = tt
  once_begun_so id (Some x) h = begun_so id x.payload.machine x.payload.facts.key h

  marked_flow : IsFlow a → IsFlow (with_mark a w accounts book)
  marked_flow h = record {
    once = h.once;
    starts = λ id. h.starts id ∙ ap one_if (starts_so id (at a.contexts id));
    begun = λ id. once_begun_so id (at a.contexts id) (h.begun id);
    queued = h.queued;
    out = h.out;
    shards = h.shards;
  }

-- few rows are in flight, and no mark of the current epoch waits between calls
total_most : (f g : Key → ℕ) (ks : List Key) → ((k : Key) → f k ≤ g k) → total ks f ≤ total ks g
total_most f g [] h = omega arith
total_most f g (k ∷ ks) h = let x : f k ≤ g k = h k in let y : total ks f ≤ total ks g = total_most f g ks h in omega arith

one_most : (e f : ℕ) → one_at e f ≤ 1
one_most e f = of (nat_eq f e)
  where
    of : (b : Bool) → cond b 1 0 ≤ 1
    of true = omega arith
    of false = omega arith

owner_most : (e : ℕ) (o : Option Context) → owner_of_epoch e o ≤ owners o
owner_most e None = omega arith
owner_most e (Some c) = of c.job.handler
  where
    of : (x : Handler) → row_of_epoch e x c.epoch ≤ 1
    of handler.Row = one_most e c.epoch
    of handler.Timer = omega arith

none_below : (e f : ℕ) → f < e → one_at e f ≡ 0
none_below e f h = ap (λ (b : Bool). cond b 1 0) (by_cases (nat_eq f e) (λ x. let same : f ≡ e = eqb-true f e x in absurd (omega arith)) (λ x. x))

rows_most : (e : ℕ) (is : List Waiting) → MarksBelow e is → waiting_of_epoch e is ≤ rows_in is
rows_most e [] h = omega arith
rows_most e (Row n f facts ∷ is) h = let x : one_at e f ≤ 1 = one_most e f in let y : waiting_of_epoch e is ≤ rows_in is = rows_most e is h in omega arith
rows_most e (Mark f v more ∷ is) h = let x : one_at e f ≡ 0 = none_below e f h.0 in let y : waiting_of_epoch e is ≤ rows_in is = rows_most e is h.1 in omega arith

pub few_count : (a : Controller) → IsSound a → current_count a.epochs ≤ 65536
few_count a h =
    let o : IsOrderly (rules_of a.settings) h.control = orderly a h.control h.stands in
    let x : count_of a.epochs (current_of a.epochs) ≡ epoch_count_on h.control.epoch h.control = ap (count_of a.epochs) h.stands.stands.epochs.current ∙ h.stands.stands.epochs.counts h.control.epoch (omega arith) (omega arith) in
    let y : epoch_count_on h.control.epoch h.control ≤ in_flight_on h.control = total_most (λ k. control_of_epoch h.control.epoch (h.control.controls k)) (λ k. contexts_on (h.control.controls k)) h.control.keys
    (λ k. let p : owner_of_epoch h.control.epoch (h.control.controls k).owner ≤ owners (h.control.controls k).owner = owner_most h.control.epoch (h.control.controls k).owner in
    let q : waiting_of_epoch h.control.epoch (h.control.controls k).waiting ≤ rows_in (h.control.controls k).waiting = rows_most h.control.epoch (h.control.controls k).waiting (o.marks k) in omega arith) in
    let z : in_flight_on h.control ≤ a.settings.in_flight = o.limit in
    let l : a.settings.in_flight ≤ 65536 = h.ranges.in_flight in
    omega arith

module _ (laws : BookLaws) (law : CountsKept) (a : Controller) (w : ℤ) (fits : Fits64 a.epochs) (may : may_close a ≡ true) (later : a.wm <ℤ w)
    (sound : AreSound a.accounts) (due : List Key) (due_is : (q : Key) → Contains due q ↔ HasDue w (times_of a.timers q)) (mid next : Books)
    (first : MarksAll every w (busy_keys a.accounts) (books a.accounts a.epochs) mid) (second : MarksAll is_free w due mid next) (more : Fits64 (closed_by (marker.Mark w) next.epochs)) where
  module _ (m : MachineControl) (h : StandsFor a m) where
    o : IsOrderly (rules_of a.settings) m
    o = orderly a m h

    free_is : (j : Key) → (m.controls j).owner ≡ None → (m.controls j).waiting ≡ [] → is_free (part_of a.accounts j) ≡ true
    free_is j x y = free_part a.program a.mails.mails a.contexts j (part_of a.accounts j) (times_of a.timers j) (m.controls j) (h.stands.keys j) x y

    busy_is : (j : Key) → list_any (bytes_eq j) (busy_keys a.accounts) ≡ not (is_free (part_of a.accounts j))
    busy_is j = sym (same_lists j (busy_keys a.accounts)) ∙ sound.busy j

    not_free : (j : Key) → list_any (bytes_eq j) (busy_keys a.accounts) ≡ true → is_free (part_of a.accounts j) ≡ true → ⊥
    not_free j x y = true_false (sym x ∙ busy_is j ∙ ap not y)

    known_busy : (j : Key) → list_any (bytes_eq j) (busy_keys a.accounts) ≡ true → list_any (bytes_eq j) m.keys ≡ true
    known_busy j x = by_cases (list_any (bytes_eq j) m.keys) (λ y. y) (λ y. absurd (not_free j x (free_is j (o.absent j y).owner (o.absent j y).waiting)))

    start : Midway a (books a.accounts a.epochs) (marked_at (λ j. false) w m)
    start = record { keys = h.stands.keys; idle = h.stands.idle; flight = h.stands.flight; way = h.stands.way; epochs = record { current = h.stands.epochs.current; markers = h.stands.epochs.markers; counts = h.stands.epochs.counts; barrier = h.stands.epochs.barrier }; fits = fits }

    one : Through laws a w m o.rise (busy_keys a.accounts) (λ j. false) mid
    one = all_marked laws a w m o.rise (busy_keys a.accounts) (λ j. false) (books a.accounts a.epochs) mid sound.rising (λ j x. refl) known_busy
        (λ j x y z. absurd (not_free j x (free_is j y z))) (λ j x. false_true x) start first

    free_then : (j : Key) → one.done j ≡ false → ((m.controls j).owner ≡ None) × ((m.controls j).waiting ≡ [])
    free_then j x = free_control a.program a.mails.mails a.contexts j (part_of a.accounts j) (times_of a.timers j) (m.controls j) (h.stands.keys j)
        (by_cases (is_free (part_of a.accounts j)) (λ y. y) (λ y. absurd (one.all j x (busy_is j ∙ ap not y))))

    due_then : (j : Key) → list_any (bytes_eq j) due ≡ true → is_due w (m.controls j).times ≡ true
    due_then j x = subst (λ (ts : List ℤ). is_due w ts ≡ true) (h.stands.keys j).times
        (due_to w (times_of a.timers j) (subst (IsStrictlySortedBy int_cmp) (sym (h.stands.keys j).times) (o.times j)) ((due_is j).0 (contains_to j due x)))

    due_now : (j : Key) → is_due w (m.controls j).times ≡ true → list_any (bytes_eq j) due ≡ true
    due_now j x =
        let c = (due_is j).1 (due_from w (times_of a.timers j) (subst (λ (ts : List ℤ). is_due w ts ≡ true) (sym (h.stands.keys j).times) x)) in
        contains_from j due c.0 c.1 c.2

    known_due : (j : Key) → list_any (bytes_eq j) due ≡ true → list_any (bytes_eq j) m.keys ≡ true
    known_due j x = by_cases (list_any (bytes_eq j) m.keys) (λ y. y)
        (λ y. false_true (subst (λ (ts : List ℤ). is_due w ts ≡ true) (o.absent j y).times (due_then j x)))

    two : Through laws a w m o.rise due one.done next
    two = free_marked laws a w m o.rise due one.done mid next free_then known_due due_then one.only one.stands second

    abbrev all : MachineControl
    all = with_controls (λ k. mark_on m.epoch w most_firings (m.controls k)) m

    there : Midway a next all
    there = subst (Midway a next) (all_have_it laws a w m o.rise two.done (λ j x. let f = free_then j (two.kept j x) in (
      f.0,
      (
        f.1,
        by_cases (is_due w (m.controls j).times) (λ y. absurd (two.all j x (due_now j y))) (λ y. y),
      ),
    ))) two.stands

    allowed : AllowedOn (rules_of a.settings) (Close (ByWatermark w)) m
    allowed = (h.settled, is_open a m h.stands.epochs may, subst (λ (v : ℤ). int_lt v w ≡ true) h.stands.wm (lt_test a.wm w later))

    none : epoch_count_on (suc m.epoch) all ≡ 0
    none =
        let x : epoch_count_on (suc m.epoch) all + 0 ≡ epoch_count_on (suc m.epoch) m + counted (nat_eq m.epoch (suc m.epoch)) (total m.keys (λ k. mark_stays w (m.controls k))) =
        epoch_changes m (record { rise = o.rise; others = λ k y. record { owner = (o.absent k y).owner; waiting = (o.absent k y).waiting } }) (rules_of a.settings) (shown_program a.program) (suc m.epoch) (Close (ByWatermark w)) None allowed in
        let y : counted (nat_eq m.epoch (suc m.epoch)) (total m.keys (λ k. mark_stays w (m.controls k))) ≡ 0 = ap (λ (b : Bool). counted b (total m.keys (λ k. mark_stays w (m.controls k)))) (other m.epoch) in
        let z : epoch_count_on (suc m.epoch) m ≡ 0 = none_yet m o.owners o.waiting in
        omega arith
      where
        other : (n : ℕ) → nat_eq n (suc n) ≡ false
        other n = by_cases (nat_eq n (suc n)) (λ x. let e : n ≡ suc n = eqb-true n (suc n) x in absurd (omega arith)) (λ x. x)

    pub mark_closes : Makes a (with_mark a w next.accounts (closed_by (marker.Mark w) next.epochs)) (Close (ByWatermark w)) m
    mark_closes = record {
      allowed = allowed;
      stands = record {
        reached = event_reached (rules_of a.settings) (shown_program a.program) (Close (ByWatermark w)) None m h.reached allowed tt;
        stands = record {
          wm = refl;
          keys = there.keys;
          idle = there.idle;
          flight = there.flight;
          way = there.way;
          epochs = closed_stands law next.epochs a.barrier all there.epochs (marker.Mark w) there.fits more none w;
        };
        settled = h.settled;
      };
    }

  pub mark_sound : IsSound a → IsSound (with_mark a w next.accounts (closed_by (marker.Mark w) next.epochs))
  mark_sound h = record {
    ranges = h.ranges;
    rooms = record { contexts = h.rooms.contexts; requests = h.rooms.requests; mails = h.rooms.mails };
    flow = marked_flow a w next.accounts (closed_by (marker.Mark w) next.epochs) (λ key. owners_stay is_free w due mid next second key ∙ owners_stay every w (busy_keys a.accounts) (books a.accounts a.epochs) mid first key) h.flow;
    control = happens_on (shown_program a.program) (Close (ByWatermark w)) None h.control;
    stands = (mark_closes h.control h.stands).stands;
  }
