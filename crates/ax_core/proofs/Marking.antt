-- A watermark waits at one more key.
use Rattle.std.proofs.Common.{◌≡◌, ◌≤◌, ◌<◌, ℕ, ◌+◌, ◌-◌, ◌%◌, ◌^◌, nat_eq, ℤ, List, [], ◌∷◌, ◌++◌, length, Bool, true, false, cond, ◌||◌, Option, Some, None, refl, sym, ap, ap₂, ◌∙◌, subst, arith, eqb-true}
use Rattle.std.specs.Ordering.{is_eq}
use Rattle.std.specs.Str.{bytes_eq}
use Rattle.std.specs.List.{list_any}
use Rattle.std.specs.List.Sorted.{IsStrictlySortedBy}
use Rattle.std.proofs.lemmas.Bool.{cond-true, eq-eqb}
use Rattle.std.proofs.lemmas.Cmp.{nat_list_cmp_total, tied_itself}
use Rattle.ax_keys.specs.Keys.{key_cmp}
use Rattle.ax_lang.specs.declared.program.Program.{Program}
use Rattle.ax_machine.specs.Entries.{Key}
use Rattle.ax_machine.specs.Firings.{most_firings}
use Rattle.ax_machine.proofs.FiringLemmas.{key_is, same_key}
use Rattle.ax_context.specs.declared.id.Id.{Id}
use Rattle.ax_context.specs.Slots.{Slots, live_count}
use Rattle.ax_account.specs.declared.part.Waiting.{Waiting as Item}
use Rattle.ax_account.specs.Parts.{Part, is_free, waits}
use Rattle.ax_account.specs.Queues.{has_key}
use Rattle.ax_account.specs.Queues as queues
use Rattle.ax_account.specs.Accounts.{part_of, mark}
use Rattle.ax_mailbox.specs.declared.mail.Mail.{Mail}
use Rattle.ax_time.specs.declared.epoch.Marker.{Marker}
use Rattle.ax_time.specs.Epochs.{Book, Fits64, IsOpen, current_of, count_of, with_count, markers_of}
use Rattle.ax_time.specs.Timers.{times_of}
use Rattle.ax_execution.specs.Contexts.{Context, Waiting, Row, Mark, owners, rows_in, is_due, is_idle_with}
use Rattle.ax_execution.specs.Counts.{one_at, owner_of_epoch, waiting_of_epoch}
use Rattle.ax_execution.specs.KeyControls.{KeyControl}
use Rattle.ax_execution.specs.ControlTurns.{is_idle_on, contexts_on, mark_at_on, mark_on}
use Rattle.ax_execution.specs.MachineControls.{MachineControl, control_at, control_goes_on, in_flight_on, control_of_epoch, epoch_count_on}
use Rattle.ax_execution.specs.Reached.{owed_to, owed_in}
use Rattle.ax_execution.proofs.Upto.{by_cases}
use Rattle.ax_execution.proofs.SingleKeys.{keyed, own_control, other_control, one_changes, one_stays}
use Rattle.ax_core.specs.declared.record.Record.{Record}
use Rattle.ax_core.specs.declared.controller.Controller.{Controller}
use Rattle.ax_core.specs.Contexts.{wrapped}
use Rattle.ax_core.specs.Keys.{OwnerStands, ItemStands, ItemsStand, PartStands}
use Rattle.ax_core.specs.Flow.{on_the_way}
use Rattle.ax_core.specs.Epochs.{MarkersStand, EpochsStand}
use Rattle.ax_core.specs.Closings.{Books, Marks}
use Rattle.ax_core.proofs.Sends.{markers_length}

true_false : {A : Type 0} → true ≡ false → A
true_false e = absurd (cc e)

false_true : {A : Type 0} → false ≡ true → A
false_true e = absurd (cc e)

or_left : (a b : Bool) → a ≡ true → (a || b) ≡ true
or_left true b h = refl
or_left false b h = false_true h

or_right : (a b : Bool) → b ≡ true → (a || b) ≡ true
or_right true b h = refl
or_right false b h = h

-- what the controller stands for while only some keys have the mark
pub record Midway (a : Controller) (s : Books) (m : MachineControl) : Type 0 where
  pub keys : (k : Key) → PartStands a.program a.mails.mails a.contexts k (part_of s.accounts k) (times_of a.timers k) (m.controls k)
  pub idle : (k : Key) → is_idle_on (m.controls k) ≡ true → has_key s.accounts.idle k ≡ true
  pub flight : live_count a.contexts ≡ in_flight_on m
  pub way : on_the_way a ≡ owed_in m
  pub epochs : EpochsStand s.epochs a.barrier m
  pub fits : Fits64 s.epochs

-- the laws of a book where one count changes
pub record BookLaws : Type 0 where
  pub own : (book : Book) (epoch n : ℕ) → IsOpen book epoch → count_of (with_count book epoch n) epoch ≡ n
  pub others : (book : Book) (epoch other n : ℕ) → Fits64 book → epoch < 2 ^ 64 → other < 2 ^ 64 → (epoch ≡ other → ⊥) → count_of (with_count book epoch n) other ≡ count_of book other
  pub actions : (book : Book) (epoch n : ℕ) → markers_of (with_count book epoch n).closed ≡ markers_of book.closed
  pub pending : (book : Book) (epoch n : ℕ) → length (with_count book epoch n).closed ≡ length book.closed

-- a mark stays where the key isn't free or a timer is due
abbrev pub Stays : ℤ → KeyControl → Type 0
Stays w q = q.owner ≡ None → q.waiting ≡ [] → is_due w q.times ≡ true

pub marked_is : (e : ℕ) (w : ℤ) (more : ℕ) (q : KeyControl) → Stays w q → mark_on e w more q ≡ keyed q.owner (q.waiting ++ Mark e w more ∷ []) q.times
marked_is e w more q h = of q.owner q.waiting h
  where
    of : (o : Option Context) (is : List Waiting) → (o ≡ None → is ≡ [] → is_due w q.times ≡ true) → mark_at_on e w more o is q.times ≡ keyed o (is ++ Mark e w more ∷ []) q.times
    of None [] x = cond-true (is_due w q.times) (keyed None (Mark e w more ∷ []) q.times) (keyed None [] q.times) (x refl refl)
    of None (i ∷ is) x = refl
    of (Some c) is x = refl

rows_marked : (is : List Waiting) (e : ℕ) (w : ℤ) (more : ℕ) → rows_in (is ++ Mark e w more ∷ []) ≡ rows_in is
rows_marked [] e w more = refl
rows_marked (Row n d f ∷ is) e w more = ap (λ (x : ℕ). 1 + x) (rows_marked is e w more)
rows_marked (Mark d v n ∷ is) e w more = rows_marked is e w more

waiting_marked : (u : ℕ) (is : List Waiting) (e : ℕ) (w : ℤ) (more : ℕ) → waiting_of_epoch u (is ++ Mark e w more ∷ []) ≡ one_at u e + waiting_of_epoch u is
waiting_marked u [] e w more = refl
waiting_marked u (Row i g h ∷ is) e w more = omega (arith, waiting_marked u is e w more)
waiting_marked u (Mark g v m ∷ is) e w more = omega (arith, waiting_marked u is e w more)

one_here : (e : ℕ) → one_at e e ≡ 1
one_here e = ap (λ (b : Bool). cond b 1 0) (eq-eqb e e refl)

none_there : (u e : ℕ) → (u ≡ e → ⊥) → one_at u e ≡ 0
none_there u e n = ap (λ (b : Bool). cond b 1 0) (by_cases (nat_eq e u) (λ x. absurd (n (sym (eqb-true e u x)))) (λ x. x))

-- a key is free in the accounts exactly where its control is
pub free_part : (p : Program) (ms : List Mail) (s : Slots Record) (key : Key) (part : Part) (times : List ℤ) (q : KeyControl)
    → PartStands p ms s key part times q → q.owner ≡ None → q.waiting ≡ [] → is_free part ≡ true
free_part p ms s key part times q h a b = of part.owner part.waiting q.owner q.waiting h.owner h.items a b
  where
    of : (o : Option Id) (is : List Item) (c : Option Context) (ws : List Waiting) → OwnerStands p ms s key o c → ItemsStand p ms s key is ws → c ≡ None → ws ≡ []
        → is_free (record { owner = o; waiting = is }) ≡ true
    of None [] c ws x y e f = refl
    of None (i ∷ is) c [] x y e f = absurd y
    of None (i ∷ is) c (w ∷ ws) x y e f = absurd (cc f)
    of (Some i) is None ws x y e f = absurd x
    of (Some i) is (Some c) ws x y e f = absurd (cc e)

pub free_control : (p : Program) (ms : List Mail) (s : Slots Record) (key : Key) (part : Part) (times : List ℤ) (q : KeyControl)
    → PartStands p ms s key part times q → is_free part ≡ true → (q.owner ≡ None) × (q.waiting ≡ [])
free_control p ms s key part times q h a = of part.owner part.waiting q.owner q.waiting h.owner h.items a
  where
    of : (o : Option Id) (is : List Item) (c : Option Context) (ws : List Waiting) → OwnerStands p ms s key o c → ItemsStand p ms s key is ws
        → is_free (record { owner = o; waiting = is }) ≡ true → (c ≡ None) × (ws ≡ [])
    of None [] None [] x y e = (refl, refl)
    of None [] None (w ∷ ws) x y e = absurd y
    of None [] (Some c) ws x y e = absurd x
    of None (i ∷ is) c ws x y e = false_true e
    of (Some i) is c ws x y e = false_true e

none_yet : 0 + most_firings ≡ most_firings
none_yet = omega arith

items_marked : (p : Program) (ms : List Mail) (s : Slots Record) (key : Key) (i : Item) (w : Waiting) → ItemStands p ms s key i w
    → (is : List Item) (ws : List Waiting) → ItemsStand p ms s key is ws → ItemsStand p ms s key (is ++ i ∷ []) (ws ++ w ∷ [])
items_marked p ms s key i w c [] [] h = (c, tt)
items_marked p ms s key i w c [] (v ∷ ws) h = absurd h
items_marked p ms s key i w c (j ∷ is) [] h = absurd h
items_marked p ms s key i w c (j ∷ is) (v ∷ ws) h = (h.0, items_marked p ms s key i w c is ws h.1)

part_marked : (p : Program) (ms : List Mail) (s : Slots Record) (key : Key) (part : Part) (times : List ℤ) (q : KeyControl) (current e : ℕ) (w : ℤ)
    → PartStands p ms s key part times q → current ≡ wrapped e → PartStands p ms s key (waits (mark current w) part) times (keyed q.owner (q.waiting ++ Mark e w most_firings ∷ []) q.times)
part_marked p ms s key part times q current e w h x = record {
  owner = h.owner;
  items = items_marked p ms s key (mark current w) (Mark e w most_firings) (record { epoch = x; time = refl; firings = none_yet }) part.waiting q.waiting h.items;
  times = h.times;
}

-- the current epoch is open
open_place : (oldest n : ℕ) → oldest < 2 ^ 64 → n < 2 ^ 64 → ((oldest + n) % 2 ^ 64 + (2 ^ 64 - oldest)) % 2 ^ 64 ≤ n
open_place oldest n a b = omega (arith, a, b)

pub current_open : (book : Book) → Fits64 book → IsOpen book (current_of book)
current_open book h = open_place book.oldest (length book.closed) h.oldest h.pending

small : (e : ℕ) → e % 2 ^ 64 < 2 ^ 64
small e = omega arith

-- no two epochs that are left have one number
apart : (u e n : ℕ) → u ≤ e → e ≤ u + n → n < 2 ^ 64 → (u ≡ e → ⊥) → e % 2 ^ 64 ≡ u % 2 ^ 64 → ⊥
apart u e n a b c d x = let y : u < e = omega (arith, a, d) in omega (arith, b, c, x, y)

-- one key more
module _ (laws : BookLaws) (a : Controller) (w : ℤ) (m : MachineControl) (rise : IsStrictlySortedBy key_cmp m.keys) (k : Key) (known : list_any (bytes_eq k) m.keys ≡ true)
    (stays : Stays w (m.controls k)) (s t : Books) (h : Midway a s m) (step : Marks w k s t) where
  same : mark_on m.epoch w most_firings (m.controls k) ≡ keyed (m.controls k).owner ((m.controls k).waiting ++ Mark m.epoch w most_firings ∷ []) (m.controls k).times
  same = marked_is m.epoch w most_firings (m.controls k) stays

  own_key : PartStands a.program a.mails.mails a.contexts k (part_of t.accounts k) (times_of a.timers k) (control_at m.controls k (mark_on m.epoch w most_firings (m.controls k)) k)
  own_key =
      subst (λ (c : KeyControl). PartStands a.program a.mails.mails a.contexts k (part_of t.accounts k) (times_of a.timers k) c) (sym (own_control m.controls k (mark_on m.epoch w most_firings (m.controls k)) ∙ same))
      (subst (λ (z : Part). PartStands a.program a.mails.mails a.contexts k z (times_of a.timers k) (keyed (m.controls k).owner ((m.controls k).waiting ++ Mark m.epoch w most_firings ∷ []) (m.controls k).times)) (sym step.part.own)
      (part_marked a.program a.mails.mails a.contexts k (part_of s.accounts k) (times_of a.timers k) (m.controls k) (current_of s.epochs) m.epoch w (h.keys k) h.epochs.current))

  keys : (j : Key) → PartStands a.program a.mails.mails a.contexts j (part_of t.accounts j) (times_of a.timers j) (control_at m.controls k (mark_on m.epoch w most_firings (m.controls k)) j)
  keys j = by_cases (bytes_eq k j)
      (λ x. subst (λ (i : Key). PartStands a.program a.mails.mails a.contexts i (part_of t.accounts i) (times_of a.timers i) (control_at m.controls k (mark_on m.epoch w most_firings (m.controls k)) i)) (key_is k j x) own_key)
      (λ x. subst (λ (c : KeyControl). PartStands a.program a.mails.mails a.contexts j (part_of t.accounts j) (times_of a.timers j) c) (sym (other_control m.controls k (mark_on m.epoch w most_firings (m.controls k)) j x))
      (subst (λ (z : Part). PartStands a.program a.mails.mails a.contexts j z (times_of a.timers j) (m.controls j)) (sym (step.part.others j (λ e. true_false (sym (ap (bytes_eq k) e ∙ same_key k) ∙ x)))) (h.keys j)))

  more : (j : Key) → has_key s.accounts.idle j ≡ true → has_key t.accounts.idle j ≡ true
  more j y = subst (λ (xs : List Key). has_key xs j ≡ true) (sym step.idle) (of (is_free (part_of s.accounts k)))
    where
      in_front : (xs : List Key) → has_key xs j ≡ true → has_key (xs ++ k ∷ []) j ≡ true
      in_front [] z = false_true z
      in_front (x ∷ xs) z = by_cases (queues.same_key j x) (λ e. or_left (queues.same_key j x) (has_key (xs ++ k ∷ []) j) e)
          (λ e. or_right (queues.same_key j x) (has_key (xs ++ k ∷ []) j) (in_front xs (sym (ap (λ (b : Bool). b || has_key xs j) e) ∙ z)))

      of : (b : Bool) → has_key (cond b (s.accounts.idle ++ k ∷ []) s.accounts.idle) j ≡ true
      of true = in_front s.accounts.idle y
      of false = y

  at_last : (xs : List Key) → has_key (xs ++ k ∷ []) k ≡ true
  at_last [] = or_left (queues.same_key k k) false (ap is_eq (tied_itself nat_list_cmp_total k))
  at_last (x ∷ xs) = or_right (queues.same_key k x) (has_key (xs ++ k ∷ []) k) (at_last xs)

  new_idle : is_free (part_of s.accounts k) ≡ true → has_key t.accounts.idle k ≡ true
  new_idle f = subst (λ (xs : List Key). has_key xs k ≡ true) (sym (step.idle ∙ cond-true (is_free (part_of s.accounts k)) (s.accounts.idle ++ k ∷ []) s.accounts.idle f)) (at_last s.accounts.idle)

  own_idle : is_idle_on (control_at m.controls k (mark_on m.epoch w most_firings (m.controls k)) k) ≡ true → has_key t.accounts.idle k ≡ true
  own_idle y = of (m.controls k).owner (m.controls k).waiting refl refl (sym (ap is_idle_on (own_control m.controls k (mark_on m.epoch w most_firings (m.controls k)) ∙ same)) ∙ y)
    where
      of : (o : Option Context) (is : List Waiting) → (m.controls k).owner ≡ o → (m.controls k).waiting ≡ is → is_idle_with o (is ++ Mark m.epoch w most_firings ∷ []) ≡ true → has_key t.accounts.idle k ≡ true
      of None [] b d z = new_idle (free_part a.program a.mails.mails a.contexts k (part_of s.accounts k) (times_of a.timers k) (m.controls k) (h.keys k) b d)
      of None (Row n f g ∷ is) b d z = false_true z
      of None (Mark f v n ∷ is) b d z = more k (h.idle k (ap₂ is_idle_with b d))
      of (Some c) is b d z = false_true z

  idle : (j : Key) → is_idle_on (control_at m.controls k (mark_on m.epoch w most_firings (m.controls k)) j) ≡ true → has_key t.accounts.idle j ≡ true
  idle j y = by_cases (bytes_eq k j)
      (λ x. subst (λ (i : Key). is_idle_on (control_at m.controls k (mark_on m.epoch w most_firings (m.controls k)) i) ≡ true → has_key t.accounts.idle i ≡ true) (key_is k j x) own_idle y)
      (λ x. more j (h.idle j (sym (ap is_idle_on (other_control m.controls k (mark_on m.epoch w most_firings (m.controls k)) j x)) ∙ y)))

  flight : live_count a.contexts ≡ in_flight_on (control_goes_on k m.must (mark_on m.epoch w most_firings (m.controls k)) m)
  flight = h.flight ∙ sym (one_stays contexts_on m.controls m.keys rise k (mark_on m.epoch w most_firings (m.controls k))
      (ap contexts_on same ∙ ap (λ (n : ℕ). owners (m.controls k).owner + n) (rows_marked (m.controls k).waiting m.epoch w most_firings)))

  way : on_the_way a ≡ owed_in (control_goes_on k m.must (mark_on m.epoch w most_firings (m.controls k)) m)
  way = h.way ∙ sym (one_stays (λ (c : KeyControl). owed_to c.owner) m.controls m.keys rise k (mark_on m.epoch w most_firings (m.controls k)) (ap (λ (c : KeyControl). owed_to c.owner) same))

  -- the book
  few : length m.unsent < 2 ^ 64
  few = subst (λ (n : ℕ). n < 2 ^ 64) (markers_length s.epochs.closed m.unsent h.epochs.markers) h.fits.pending

  share : (u : ℕ) → control_of_epoch u (mark_on m.epoch w most_firings (m.controls k)) ≡ one_at u m.epoch + control_of_epoch u (m.controls k)
  share u =
      let x : waiting_of_epoch u ((m.controls k).waiting ++ Mark m.epoch w most_firings ∷ []) ≡ one_at u m.epoch + waiting_of_epoch u (m.controls k).waiting = waiting_marked u (m.controls k).waiting m.epoch w most_firings in
      let y : control_of_epoch u (mark_on m.epoch w most_firings (m.controls k)) ≡ owner_of_epoch u (m.controls k).owner + waiting_of_epoch u ((m.controls k).waiting ++ Mark m.epoch w most_firings ∷ []) = ap (control_of_epoch u) same in
      omega arith

  grows : (u : ℕ) → epoch_count_on u (control_goes_on k m.must (mark_on m.epoch w most_firings (m.controls k)) m) ≡ epoch_count_on u m + one_at u m.epoch
  grows u =
      let x : epoch_count_on u (control_goes_on k m.must (mark_on m.epoch w most_firings (m.controls k)) m) + control_of_epoch u (m.controls k) ≡ epoch_count_on u m + control_of_epoch u (mark_on m.epoch w most_firings (m.controls k)) =
      one_changes (control_of_epoch u) m.controls m.keys rise k (mark_on m.epoch w most_firings (m.controls k)) known in
      let y : control_of_epoch u (mark_on m.epoch w most_firings (m.controls k)) ≡ one_at u m.epoch + control_of_epoch u (m.controls k) = share u in
      omega arith

  at_current : count_of t.epochs (wrapped m.epoch) ≡ epoch_count_on m.epoch (control_goes_on k m.must (mark_on m.epoch w most_firings (m.controls k)) m)
  at_current =
      let x : count_of t.epochs (wrapped m.epoch) ≡ count_of s.epochs (current_of s.epochs) + 1 =
      ap₂ count_of step.epochs (sym h.epochs.current) ∙ laws.own s.epochs (current_of s.epochs) (count_of s.epochs (current_of s.epochs) + 1) (current_open s.epochs h.fits) in
      let y : count_of s.epochs (current_of s.epochs) ≡ epoch_count_on m.epoch m = ap (count_of s.epochs) h.epochs.current ∙ h.epochs.counts m.epoch (omega arith) (omega arith) in
      let z : one_at m.epoch m.epoch ≡ 1 = one_here m.epoch in
      let v : epoch_count_on m.epoch (control_goes_on k m.must (mark_on m.epoch w most_firings (m.controls k)) m) ≡ epoch_count_on m.epoch m + one_at m.epoch m.epoch = grows m.epoch in
      omega arith

  elsewhere : (u : ℕ) → u ≤ m.epoch → m.epoch ≤ u + length m.unsent → (u ≡ m.epoch → ⊥)
      → count_of t.epochs (wrapped u) ≡ epoch_count_on u (control_goes_on k m.must (mark_on m.epoch w most_firings (m.controls k)) m)
  elsewhere u b d n =
      let x : count_of t.epochs (wrapped u) ≡ count_of s.epochs (wrapped u) =
      ap (λ (z : Book). count_of z (wrapped u)) step.epochs
      ∙ laws.others s.epochs (current_of s.epochs) (wrapped u) (count_of s.epochs (current_of s.epochs) + 1) h.fits (small (s.epochs.oldest + length s.epochs.closed)) (small u)
      (λ e. apart u m.epoch (length m.unsent) b d few n (sym h.epochs.current ∙ e)) in
      let y : count_of s.epochs (wrapped u) ≡ epoch_count_on u m = h.epochs.counts u b d in
      let z : one_at u m.epoch ≡ 0 = none_there u m.epoch n in
      let v : epoch_count_on u (control_goes_on k m.must (mark_on m.epoch w most_firings (m.controls k)) m) ≡ epoch_count_on u m + one_at u m.epoch = grows u in
      omega arith

  epochs : EpochsStand t.epochs a.barrier (control_goes_on k m.must (mark_on m.epoch w most_firings (m.controls k)) m)
  epochs = record {
    current = ap current_of step.epochs ∙ ap (λ (x : ℕ). (s.epochs.oldest + x) % 2 ^ 64) (laws.pending s.epochs (current_of s.epochs) (count_of s.epochs (current_of s.epochs) + 1)) ∙ h.epochs.current;
    markers = subst (λ (ms : List Marker). MarkersStand ms m.unsent) (sym (ap (λ (b : Book). markers_of b.closed) step.epochs ∙ laws.actions s.epochs (current_of s.epochs) (count_of s.epochs (current_of s.epochs) + 1))) h.epochs.markers;
    counts = λ u b d. by_cases (nat_eq u m.epoch)
        (λ x. subst (λ (v : ℕ). count_of t.epochs (wrapped v) ≡ epoch_count_on v (control_goes_on k m.must (mark_on m.epoch w most_firings (m.controls k)) m)) (sym (eqb-true u m.epoch x)) at_current)
        (λ x. elsewhere u b d (λ e. true_false (sym (eq-eqb u m.epoch e) ∙ x)));
    barrier = h.epochs.barrier;
  }

  pub one_marked : Midway a t (control_goes_on k m.must (mark_on m.epoch w most_firings (m.controls k)) m)
  one_marked = record {
    keys = keys;
    idle = idle;
    flight = flight;
    way = way;
    epochs = epochs;
    fits = subst Fits64 (sym step.epochs) (record {
      oldest = h.fits.oldest;
      pending = subst (λ (n : ℕ). n < 2 ^ 64) (sym (laws.pending s.epochs (current_of s.epochs) (count_of s.epochs (current_of s.epochs) + 1))) h.fits.pending;
    });
  }
