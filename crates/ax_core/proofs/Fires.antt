-- The mark in front of a key fires the key's least timer: what stands for the keys behind that.
use Rattle.std.proofs.Common.{◌≡◌, ℕ, zero, suc, ◌+◌, ℤ, int_le, List, [], ◌∷◌, not, cond, Bool, true, false, ◌||◌, Option, Some, None, IsSomeAnd, refl, sym, ap, ap₂, ◌∙◌, subst, arith}
use Rattle.std.specs.Str.{bytes_eq}
use Rattle.std.proofs.lemmas.Bool.{cond-true, cond-false}
use Rattle.ax_text.specs.Times.{least_time, later_times}
use Rattle.ax_text.specs.Jobs.{firing_job}
use Rattle.ax_lang.specs.declared.program.Program.{Program}
use Rattle.ax_machine.specs.Entries.{Key}
use Rattle.ax_machine.proofs.FiringLemmas.{key_is, same_key as own_key}
use Rattle.ax_context.specs.declared.id.Id.{Id}
use Rattle.ax_context.specs.declared.contexts.Context.{Context as Held}
use Rattle.ax_context.specs.Slots.{Slots, at, IsTaken, OthersStay}
use Rattle.ax_account.specs.declared.part.Waiting.{Waiting as Item}
use Rattle.ax_account.specs.declared.part.Waiting.TheVariants as item
use Rattle.ax_account.specs.declared.part.Next.{Next}
use Rattle.ax_account.specs.declared.part.Next.TheVariants as next
use Rattle.ax_account.specs.Parts.{Part, next_of, fired_once, fired_by}
use Rattle.ax_account.specs.Accounts.{Accounts, part_of, Changes}
use Rattle.ax_account.specs.Queues.{same_key, has_key, without}
use Rattle.ax_account.proofs.QueueLemmas.{key_is as same_is}
use Rattle.ax_mailbox.specs.declared.mail.Mail.{Mail}
use Rattle.ax_time.specs.declared.timer.Timer.{Timer}
use Rattle.ax_time.specs.Timers.{PutsTimes, times_of}
use Rattle.ax_execution.specs.Contexts.{Context, new_context, row_context, Waiting, Row, Mark, may_fire}
use Rattle.ax_execution.specs.KeyControls.{KeyControl}
use Rattle.ax_execution.specs.ControlTurns.{fire_due_on, fire_front_on, fire_on}
use Rattle.ax_execution.specs.MachineControls.{MachineControl, control_at}
use Rattle.ax_execution.specs.Allowed.{NumbersOwner, NotIn}
use Rattle.ax_execution.specs.ControlsAllowed.{IsNewOn}
use Rattle.ax_execution.proofs.Upto.{by_cases}
use Rattle.ax_execution.proofs.SingleKeys.{own_control, other_control}
use Rattle.ax_core.specs.declared.record.Record.{Record}
use Rattle.ax_core.specs.Contexts.{wrapped, answer_in, IsContext, ContextStands}
use Rattle.ax_core.specs.Keys.{OwnerStands, IsMark, ItemsStand, PartStands}
use Rattle.ax_core.specs.Firings.{firing}
use Rattle.ax_core.proofs.Frames.{KeyIn, Keeps, items_stay, keep_all, part_stays, others_keep}

false_true : {A : Type 0} → false ≡ true → A
false_true e = absurd (cc e)

true_false : {A : Type 0} → true ≡ false → A
true_false e = absurd (cc e)

-- a mark that may fire has firings left, and the least timer is due
pub record FiresLeast (w : ℤ) (more : ℕ) (due : List ℤ) : Type 0 where
  pub left : ℕ
  pub time : ℤ
  pub later : List ℤ
  pub most : more ≡ suc left
  pub times : due ≡ time ∷ later
  pub is_due : int_le time w ≡ true

pub fires_least : (w : ℤ) (more : ℕ) (times : List ℤ) → may_fire w more times ≡ true → FiresLeast w more times
fires_least w zero times h = false_true h
fires_least w (suc n) [] h = false_true h
fires_least w (suc n) (t ∷ ts) h = record { left = n; time = t; later = ts; most = refl; times = refl; is_due = h }

-- the mark in front of a key that nobody owns, as a mark of the control
pub record InFront (p : Program) (ms : List Mail) (s : Slots Record) (key : Key) (is : List Item) (o : Option Context) (ws : List Waiting) (epoch : ℕ) (time : ℤ) (fired : ℕ) : Type 0 where
  pub e : ℕ
  pub w : ℤ
  pub more : ℕ
  pub items : List Item
  pub rest : List Waiting
  pub owner : o ≡ None
  pub waiting : is ≡ item.Mark epoch time fired ∷ items
  pub waits : ws ≡ Mark e w more ∷ rest
  pub mark : IsMark epoch time fired e w more
  pub behind : ItemsStand p ms s key items rest

abbrev epoch_in : Next → ℕ
epoch_in (next.Mark epoch time fired) = epoch
epoch_in (next.Row id) = 0
epoch_in next.Free = 0

abbrev fired_in : Next → ℕ
fired_in (next.Mark epoch time fired) = fired
fired_in (next.Row id) = 0
fired_in next.Free = 0

abbrev time_in : ℤ → Next → ℤ
time_in t (next.Mark epoch time fired) = time
time_in t (next.Row id) = t
time_in t next.Free = t

pub in_front : (p : Program) (ms : List Mail) (s : Slots Record) (key : Key) (owner : Option Id) (o : Option Context) (is : List Item) (ws : List Waiting)
    → OwnerStands p ms s key owner o → ItemsStand p ms s key is ws → owner ≡ None → (epoch : ℕ) (mark : ℤ) (fired : ℕ) → next_of is ≡ next.Mark epoch mark fired → InFront p ms s key is o ws epoch mark fired
in_front p ms s key (Some i) o is ws x y none epoch mark fired front = absurd (cc none)
in_front p ms s key None (Some c) is ws x y none epoch mark fired front = absurd x
in_front p ms s key None None [] ws x y none epoch mark fired front = absurd (cc front)
in_front p ms s key None None (item.Row i ∷ is) ws x y none epoch mark fired front = absurd (cc front)
in_front p ms s key None None (item.Mark u v n ∷ is) [] x y none epoch mark fired front = absurd y
in_front p ms s key None None (item.Mark u v n ∷ is) (Row i f facts ∷ ws) x y none epoch mark fired front = absurd y.0
in_front p ms s key None None (item.Mark u v n ∷ is) (Mark e w more ∷ ws) x y none epoch mark fired front =
    let eu : u ≡ epoch = ap epoch_in front in
    let ev : v ≡ mark = ap (time_in v) front in
    let en : n ≡ fired = ap fired_in front in
    record {
      e = e;
      w = w;
      more = more;
      items = is;
      rest = ws;
      owner = refl;
      waiting = ap (λ (k : ℕ). item.Mark k v n ∷ is) eu ∙ (ap (λ (t : ℤ). item.Mark epoch t n ∷ is) ev ∙ ap (λ (k : ℕ). item.Mark epoch mark k ∷ is) en);
      waits = refl;
      mark = record { epoch = sym eu ∙ y.0.epoch; time = sym ev ∙ y.0.time; firings = sym (ap (λ (k : ℕ). k + more) en) ∙ y.0.firings };
      behind = y.1;
    }

-- what the key's control becomes
pub fired_control : (n e : ℕ) (w : ℤ) (left : ℕ) (t : ℤ) (ts : List ℤ) (rest : List Waiting) (q : KeyControl) → q.owner ≡ None → q.waiting ≡ Mark e w (suc left) ∷ rest → q.times ≡ t ∷ ts → int_le t w ≡ true
    → fire_on n q ≡ record { owner = Some (new_context n e (firing_job w t)); waiting = Mark e w left ∷ rest; times = ts }
fired_control n e w left t ts rest q none waits times due =
    ap (λ (o : Option Context). fire_front_on n o q.waiting q) none
    ∙ (ap (λ (ws : List Waiting). fire_front_on n None ws q) waits
    ∙ (ap (λ (xs : List ℤ). fire_due_on n e w left rest xs q) times
    ∙ cond-true (int_le t w) (record { owner = Some (new_context n e (firing_job w t)); waiting = Mark e w left ∷ rest; times = ts }) q due))

-- what is held of a new context of a timer
pub firing_stands : (p : Program) (ns : List Mail) (key : Key) (id : Id) (o : Option (Held Record)) (epoch n : ℕ) (time mark : ℤ) (e : ℕ) (w t : ℤ)
    → o ≡ Some (record { payload = firing key time mark; epoch = epoch; number = n; count = 1 }) → epoch ≡ wrapped e → mark ≡ w → time ≡ t
    → ContextStands p ns key id o (new_context n e (firing_job w t))
firing_stands p ns key id o epoch n time mark e w t made there same least =
    let stands : IsContext p ns key id (record { payload = firing key time mark; epoch = epoch; number = n; count = 1 }) (new_context n e (firing_job w t)) = record {
      number = refl;
      epoch = there;
      count = refl;
      job = record { key = refl; handler = refl; facts = ap₂ (λ (x y : ℤ). record { time = x; wm = y; values = [] }) least same };
      stage = tt;
    } in
    subst (λ (x : Option (Held Record)). ContextStands p ns key id x (new_context n e (firing_job w t))) (sym made) stands

module _ (p : Program) (ms ns : List Mail) (s t : Slots Record) (id : Id)
    (free : at s id ≡ None) (others : OthersStay s t id) (same : (i : Id) (slot : ℕ) → answer_in ns i slot ≡ answer_in ms i slot) where
  keeps : (key : Key) (i : Id) → KeyIn key (at s i) → Keeps ms ns s t i
  keeps key = others_keep ms ns s t id key (λ h. subst (λ (o : Option (Held Record)). KeyIn key o) free h) others (λ i d slot. same i slot)

  -- the key itself
  pub own_fires : (key : Key) (n epoch : ℕ) (mark : ℤ) (fired : ℕ) (time : ℤ) (part : Part) (due : List ℤ) (q : KeyControl)
      (h : PartStands p ms s key part due q) (f : InFront p ms s key part.waiting q.owner q.waiting epoch mark fired) (l : FiresLeast f.w f.more q.times)
      → at t id ≡ Some (record { payload = firing key time mark; epoch = epoch; number = n; count = 1 }) → least_time due ≡ Some time
      → PartStands p ns t key (fired_by id part) (later_times due) (fire_on n q)
  own_fires key n epoch mark fired time part due q h f l made least =
      let times : due ≡ l.time ∷ l.later = h.times ∙ l.times in
      let first : Some l.time ≡ Some time = sym (ap least_time times) ∙ least in
      let is_time : time ≡ l.time = sym (ap (λ (o : Option ℤ). of_some l.time o) first) in
      let control : fire_on n q ≡ record { owner = Some (new_context n f.e (firing_job f.w l.time)); waiting = Mark f.e f.w l.left ∷ f.rest; times = l.later } =
      fired_control n f.e f.w l.left l.time l.later f.rest q f.owner (f.waits ∙ ap (λ (k : ℕ). Mark f.e f.w k ∷ f.rest) l.most) l.times l.is_due in
      let marked : IsMark epoch mark (fired + 1) f.e f.w l.left = record { epoch = f.mark.epoch; time = f.mark.time; firings = omega (arith, f.mark.firings, l.most) } in
      let keep : ItemsStand p ns t key f.items f.rest = items_stay p ms ns s t key f.items f.rest (keep_all p ms ns s t key f.items f.rest (keeps key) f.behind) f.behind in
      let items : ItemsStand p ns t key (fired_once part.waiting) (Mark f.e f.w l.left ∷ f.rest) =
      subst (λ (is : List Item). ItemsStand p ns t key (fired_once is) (Mark f.e f.w l.left ∷ f.rest)) (sym f.waiting) (marked, keep) in
      subst (λ (c : KeyControl). PartStands p ns t key (fired_by id part) (later_times due) c) (sym control)
      (record {
        owner = firing_stands p ns key id (at t id) epoch n time mark f.e f.w l.time made f.mark.epoch f.mark.time is_time;
        items = items;
        times = ap later_times times;
      })
    where
      of_some : ℤ → Option ℤ → ℤ
      of_some x None = x
      of_some x (Some y) = y

  -- the key that fires, and each other key stays
  pub keys_fire : (a b : Accounts) (x y : List Timer) (key : Key) (n epoch : ℕ) (mark : ℤ) (fired : ℕ) (time : ℤ) (controls : Key → KeyControl) → Changes a b key (fired_by id (part_of a key))
      → PutsTimes x y key (later_times (times_of x key)) → (h : (k : Key) → PartStands p ms s k (part_of a k) (times_of x k) (controls k))
      → (f : InFront p ms s key (part_of a key).waiting (controls key).owner (controls key).waiting epoch mark fired) → FiresLeast f.w f.more (controls key).times
      → at t id ≡ Some (record { payload = firing key time mark; epoch = epoch; number = n; count = 1 }) → least_time (times_of x key) ≡ Some time
      → (k : Key) → PartStands p ns t k (part_of b k) (times_of y k) (control_at controls key (fire_on n (controls key)) k)
  keys_fire a b x y key n epoch mark fired time controls changes puts h f l made least k = by_cases (bytes_eq key k)
      (λ e. let one : key ≡ k = key_is key k e in
      subst (λ (j : Key). PartStands p ns t j (part_of b j) (times_of y j) (control_at controls key (fire_on n (controls key)) j)) one
      (subst (λ (q : KeyControl). PartStands p ns t key (part_of b key) (times_of y key) q) (sym (own_control controls key (fire_on n (controls key))))
      (subst (λ (q : Part). PartStands p ns t key q (times_of y key) (fire_on n (controls key))) (sym changes.own)
      (subst (λ (q : List ℤ). PartStands p ns t key (fired_by id (part_of a key)) q (fire_on n (controls key))) (sym (puts key ∙ cond-true (bytes_eq key key) (later_times (times_of x key)) (times_of x key) (own_key key)))
      (own_fires key n epoch mark fired time (part_of a key) (times_of x key) (controls key) (h key) f l made least)))))
      (λ e. subst (λ (q : KeyControl). PartStands p ns t k (part_of b k) (times_of y k) q) (sym (other_control controls key (fire_on n (controls key)) k e))
      (subst (λ (q : Part). PartStands p ns t k q (times_of y k) (controls k)) (sym (changes.others k (λ d. true_false (sym (ap (bytes_eq key) d ∙ own_key key) ∙ e))))
      (subst (λ (q : List ℤ). PartStands p ns t k (part_of a k) q (controls k)) (sym (puts k ∙ cond-false (bytes_eq key k) (later_times (times_of x key)) (times_of x k) e))
      (part_stays p ms ns s t k (keeps k) (part_of a k) (times_of x k) (controls k) (h k)))))

-- no context of the control has a number that none of the controller has
module _ (p : Program) (ms : List Mail) (s : Slots Record) (n : ℕ) (free : IsTaken s n → ⊥) where
  not_held : (key : Key) (id : Id) (o : Option (Held Record)) (c : Context) → at s id ≡ o → ContextStands p ms key id o c → c.number ≡ n → ⊥
  not_held key id None c e h same = h
  not_held key id (Some x) c e h same = free (id, subst (λ (o : Option (Held Record)). IsSomeAnd o (λ y. y.number ≡ n)) (sym e) (h.number ∙ same))

  owner_new : (key : Key) (o : Option Id) (c : Option Context) → OwnerStands p ms s key o c → NumbersOwner n c → ⊥
  owner_new key o None h x = x
  owner_new key None (Some c) h x = h
  owner_new key (Some id) (Some c) h x = not_held key id (at s id) c refl h x

  rows_new : (key : Key) (is : List Item) (ws : List Waiting) → ItemsStand p ms s key is ws → NotIn n ws
  rows_new key is [] h = tt
  rows_new key [] (w ∷ ws) h = absurd h
  rows_new key (item.Row id ∷ is) (Row i e f ∷ ws) h = (not_held key id (at s id) (row_context i e f) refl h.0, rows_new key is ws h.1)
  rows_new key (item.Row id ∷ is) (Mark e w more ∷ ws) h = absurd h.0
  rows_new key (item.Mark u v k ∷ is) (Row i e f ∷ ws) h = absurd h.0
  rows_new key (item.Mark u v k ∷ is) (Mark e w more ∷ ws) h = rows_new key is ws h.1

  pub is_new : (parts : Key → Part) (times : Key → List ℤ) (m : MachineControl) → ((k : Key) → PartStands p ms s k (parts k) (times k) (m.controls k)) → IsNewOn n m
  is_new parts times m h k = (owner_new k (parts k).owner (m.controls k).owner (h k).owner, rows_new k (parts k).waiting (m.controls k).waiting (h k).items)

-- each other key is among the idle ones as before
pub others_listed : (key q : Key) → (q ≡ key → ⊥) → (ks : List Key) → has_key (without key ks) q ≡ has_key ks q
others_listed key q differ [] = refl
others_listed key q differ (k ∷ ks) = of (same_key key k) refl (others_listed key q differ ks)
  where
    of : (b : Bool) → same_key key k ≡ b → has_key (without key ks) q ≡ has_key ks q → has_key (cond (not (same_key key k)) (k ∷ without key ks) (without key ks)) q ≡ has_key (k ∷ ks) q
    of true e h = ap (λ (xs : List Key). has_key xs q) (cond-false (not (same_key key k)) (k ∷ without key ks) (without key ks) (ap not e))
        ∙ (h ∙ sym (ap (λ (b : Bool). b || has_key ks q) (by_cases (same_key q k) (λ x. absurd (differ (same_is q k x ∙ sym (same_is key k e)))) (λ x. x))))
    of false e h = ap (λ (xs : List Key). has_key xs q) (cond-true (not (same_key key k)) (k ∷ without key ks) (without key ks) (ap not e))
        ∙ ap (λ (b : Bool). same_key q k || b) h
