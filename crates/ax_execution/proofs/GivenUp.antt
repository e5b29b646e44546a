-- What each event does to sums over the contexts of all keys: how many there are, how many have a number, how many references they have.
use Rattle.std.proofs.Common.{◌≡◌, ℕ, suc, ◌+◌, nat_eq, ℤ, pos, List, [], ◌∷◌, ◌++◌, length, Bool, true, false, cond, Option, Some, None, refl, sym, ap, ap₂, ◌∙◌, arith, map, subst, length-append}
use Rattle.std.proofs.lemmas.Bool.{cond-true, cond-false}
use Rattle.std.specs.Str.{bytes_eq}
use Rattle.std.specs.List.{list_any}
use Rattle.std.specs.List.Sorted.{IsStrictlySortedBy}
use Rattle.std.specs.BTreeSet.{insert_key}
use Rattle.ax_keys.specs.Keys.{key_cmp}
use Rattle.ax_text.specs.declared.vocabulary.Answer.{Answer}
use Rattle.ax_text.specs.Functions.{upd}
use Rattle.ax_text.specs.Programs.{Program}
use Rattle.ax_text.specs.Prints.{has}
use Rattle.ax_text.specs.Controls.{Control, Done, Wait, Arms, Rest, Ask' as Asked, slots, waiting, replaced, is_done}
use Rattle.ax_text.specs.Jobs.{Job, firing_job, text_for}
use Rattle.ax_text.proofs.Asked.{begin_asked, give_asked, slots_waiting}
use Rattle.ax_text.specs.Silent.{silent as silent_talk, unanswered}
use Rattle.ax_machine.specs.Entries.{Key}
use Rattle.ax_machine.specs.Firings.{most_firings}
use Rattle.ax_machine.specs.KeySync.{Said}
use Rattle.ax_machine.proofs.FiringLemmas.{same_key}
use Rattle.ax_execution.specs.Groups.{row_facts, on_row}
use Rattle.ax_execution.specs.Contexts.{Running, running_group, Unbegun, Begun, Context, new_context, Waiting, Row, Mark, Part, contexts_in, owners, rows_in, may_fire}
use Rattle.ax_execution.specs.Sums.{total}
use Rattle.ax_execution.specs.Counts.{references, one_at, owner_numbered, rows_numbered, part_numbered, number_count, owner_references, part_references, reference_count, one_if_gone, made, made_as, owns, calls, counted}
use Rattle.ax_execution.specs.Turns.{handed, closed_with, left_by, staged, called_back, begins, answered, gives, Effects, effects_of, start_effects, deliver_effects, admit, mark, fire, start, serve, deliver}
use Rattle.ax_execution.specs.Machine.{ByWatermark, ByBarrier, Closed, Machine, Happening, Admit, Close, Fire, Start, Serve, Deliver, Send, Rules, part_at, send_first, happens, sends_first, outcome, in_flight}
use Rattle.ax_execution.specs.Allowed.{StageUnbegun, StageAsks, StageHas, Allowed}
use Rattle.ax_execution.proofs.Upto.{by_cases, part_of, StageGood, OwnerGood}
use Rattle.ax_execution.proofs.KeySums.{changes, total_same, inserted_total, inserted_again}
use Rattle.ax_execution.proofs.Stuck.{others_stay}
use Rattle.ax_execution.proofs.Orderly.{IsOrderly, present, idle_present}
use Rattle.ax_execution.proofs.Handlers.{Good, waits_here}
use Rattle.ax_execution.proofs.Cases.{start_case, deliver_case, serve_case, fire_case, admit_case, mark_case}

-- what the contexts of a key weigh: its owner, and each row that waits by its number

abbrev pub owner_weight : (Context → ℕ) → Option Context → ℕ
owner_weight own None = 0
owner_weight own (Some c) = own c

abbrev pub rows_weight : (ℕ → ℕ) → List Waiting → ℕ
rows_weight row [] = 0
rows_weight row (Row n e f ∷ is) = row n + rows_weight row is
rows_weight row (Mark e w more ∷ is) = rows_weight row is

abbrev pub part_weight : (Context → ℕ) → (ℕ → ℕ) → Part → ℕ
part_weight own row q = owner_weight own q.owner + rows_weight row q.waiting

abbrev pub mass : (Context → ℕ) → (ℕ → ℕ) → Machine → ℕ
mass own row m = total m.keys (λ k. part_weight own row (m.parts k))

-- what an event of the machine adds and takes off, where a callback adds and takes off so much
abbrev lost_at : (Option Context → Effects → ℕ) → Program → Happening → Machine → ℕ
lost_at lost p (Admit n k time values) m = 0
lost_at lost p (Close c) m = 0
lost_at lost p (Fire n k) m = 0
lost_at lost p (Start k) m = lost (m.parts k).owner (start_effects p (m.parts k))
lost_at lost p (Serve k slot) m = 0
lost_at lost p (Deliver k slot) m = lost (m.parts k).owner (deliver_effects slot (m.parts k))
lost_at lost p Send m = 0

abbrev gained_at : (ℕ → ℕ) → (Option Context → Effects → ℕ) → Program → Happening → Machine → ℕ
gained_at row gained p (Admit n k time values) m = row n
gained_at row gained p (Close c) m = 0
gained_at row gained p (Fire n k) m = row n
gained_at row gained p (Start k) m = gained (m.parts k).owner (start_effects p (m.parts k))
gained_at row gained p (Serve k slot) m = 0
gained_at row gained p (Deliver k slot) m = gained (m.parts k).owner (deliver_effects slot (m.parts k))
gained_at row gained p Send m = 0

-- what a callback leaves of its context
abbrev left_weight : (Context → ℕ) → Context → Running → ℕ
left_weight own c r = cond (is_done r.control) 0 (own (staged c (Begun r)))

module _ (own : Context → ℕ) (row : ℕ → ℕ) (fresh : (n e : ℕ) (j : Job) → own (new_context n e j) ≡ row n) where
  handed_weight : (is : List Waiting) (s : Said) → part_weight own row (handed is s) ≡ rows_weight row is
  handed_weight [] s = refl
  handed_weight (Row n e f ∷ is) s = ap (λ (x : ℕ). x + rows_weight row is) (fresh n e (on_row f))
  handed_weight (Mark e w more ∷ is) s = of (may_fire w more s.state.times) (handed_weight is s)
    where
      of : (b : Bool) → part_weight own row (handed is s) ≡ rows_weight row is → part_weight own row (cond b (part_of None (Mark e w more ∷ is) s) (handed is s)) ≡ rows_weight row is
      of true h = omega arith
      of false h = h

  back_weight : (c : Context) (r : Running) (is : List Waiting) (s : Said) → part_weight own row (called_back c r is s) ≡ left_weight own c r + rows_weight row is
  back_weight c r is s = of (is_done r.control)
    where
      of : (b : Bool) → part_weight own row (cond b (handed is (closed_with (running_group c.job r) s)) (part_of (Some (staged c (Begun r))) is s)) ≡ cond b 0 (own (staged c (Begun r))) + rows_weight row is
      of true = let e : part_weight own row (handed is (closed_with (running_group c.job r) s)) ≡ rows_weight row is = handed_weight is (closed_with (running_group c.job r) s) in omega arith
      of false = refl

  rows_last : (is : List Waiting) (n e : ℕ) (f : _) → rows_weight row (is ++ Row n e f ∷ []) ≡ row n + rows_weight row is
  rows_last [] n e f = refl
  rows_last (Row i g h ∷ is) n e f = omega (arith, rows_last is n e f)
  rows_last (Mark g v more ∷ is) n e f = rows_last is n e f

  rows_marked : (is : List Waiting) (e : ℕ) (w : ℤ) (more : ℕ) → rows_weight row (is ++ Mark e w more ∷ []) ≡ rows_weight row is
  rows_marked [] e w more = refl
  rows_marked (Row i g h ∷ is) e w more = ap (λ (x : ℕ). row i + x) (rows_marked is e w more)
  rows_marked (Mark g v m ∷ is) e w more = rows_marked is e w more

  -- where a key has this owner
  owned : (c : Context) (part : Part) → part.owner ≡ Some c → part_weight own row part ≡ own c + rows_weight row part.waiting
  owned c part e = ap (λ (o : Option Context). owner_weight own o + rows_weight row part.waiting) e

  admitted : (n e : ℕ) (f : _) (part : Part) → part_weight own row (admit n e f part) ≡ row n + part_weight own row part
  admitted n e f part = admit_case (λ (q : Part). part_weight own row q ≡ row n + part_weight own row part) n e f part.owner part.waiting part.said
      (λ a b. ap (λ (x : ℕ). x + 0) (fresh n e (on_row f)) ∙ ap₂ (λ (o : Option Context) (is : List Waiting). row n + (owner_weight own o + rows_weight row is)) (sym a) (sym b))
      (omega (arith, rows_last part.waiting n e f))

  marked : (e : ℕ) (w : ℤ) (more : ℕ) (part : Part) → part_weight own row (mark e w more part) ≡ part_weight own row part
  marked e w more part = mark_case (λ (q : Part). part_weight own row q ≡ part_weight own row part) e w more part.owner part.waiting part.said
      (ap (λ (x : ℕ). owner_weight own part.owner + x) (rows_marked part.waiting e w more)) refl

  module _ (r : Rules) (m : Machine) (o : IsOrderly r m) (rises : IsStrictlySortedBy key_cmp m.keys)
      (same : (c : Context) (x : Running) (slot : ℕ) (a : Answer) → c.stage ≡ Begun x → own (staged c (Begun (answered x slot a))) ≡ own c)
      (lost gained : Option Context → Effects → ℕ) (p : Program)
      (begun : (c : Context) → c.stage ≡ Unbegun
      → left_weight own c (left_by (begins p c.job) unanswered [] 0) + lost (Some c) (effects_of (begins p c.job)) ≡ own c + gained (Some c) (effects_of (begins p c.job)))
      (given : (c : Context) (x : Running) (slot : ℕ) (a : Answer) → OwnerGood Good (Some c) → c.stage ≡ Begun x → x.answers slot ≡ Some a
      → left_weight own c (left_by (gives c.job x slot a) (upd x.answers slot None) x.lines x.served) + lost (Some c) (effects_of (gives c.job x slot a)) ≡ own c + gained (Some c) (effects_of (gives c.job x slot a)))
      (good : (k : Key) → OwnerGood Good (m.parts k).owner) where
    weight : Key → Part → Key → ℕ
    weight k q j = part_weight own row (part_at m.parts k q j)

    here : (k : Key) (q : Part) → part_weight own row (part_at m.parts k q k) ≡ part_weight own row q
    here k q = ap (part_weight own row) (cond-true (bytes_eq k k) q (m.parts k) (same_key k))

    there : (k : Key) (q : Part) (j : Key) → bytes_eq k j ≡ false → part_weight own row (part_at m.parts k q j) ≡ part_weight own row (m.parts j)
    there k q j x = ap (part_weight own row) (cond-false (bytes_eq k j) q (m.parts j) x)

    shifts : (k : Key) (q : Part) (x y : ℕ) → list_any (bytes_eq k) m.keys ≡ true → part_weight own row q + x ≡ part_weight own row (m.parts k) + y
        → total m.keys (λ j. part_weight own row (part_at m.parts k q j)) + x ≡ mass own row m + y
    shifts k q x y known h =
        let a : part_weight own row (part_at m.parts k q k) ≡ part_weight own row q = here k q in
        let b : total m.keys (λ j. part_weight own row (part_at m.parts k q j)) + part_weight own row (m.parts k) ≡ mass own row m + part_weight own row (part_at m.parts k q k) =
        changes k (λ j. part_weight own row (m.parts j)) (λ j. part_weight own row (part_at m.parts k q j)) m.keys rises (there k q) known in
        omega arith

    free : (k : Key) → list_any (bytes_eq k) m.keys ≡ false → part_weight own row (m.parts k) ≡ 0
    free k x = ap₂ (λ (c : Option Context) (is : List Waiting). owner_weight own c + rows_weight row is) (o.absent k x).owner (o.absent k x).waiting

    puts : (k : Key) (q : Part) (y : ℕ) → part_weight own row q ≡ y + part_weight own row (m.parts k) → total (insert_key key_cmp m.keys k) (λ j. part_weight own row (part_at m.parts k q j)) ≡ mass own row m + y
    puts k q y h = by_cases (list_any (bytes_eq k) m.keys)
        (λ x. ap (λ (ks : List Key). total ks (λ j. part_weight own row (part_at m.parts k q j))) (inserted_again k m.keys rises x)
        ∙ (let a : total m.keys (λ j. part_weight own row (part_at m.parts k q j)) + 0 ≡ mass own row m + y = shifts k q 0 y x (omega arith) in omega arith))
        (λ x. let a : part_weight own row (part_at m.parts k q k) ≡ part_weight own row q = here k q in
        let b : part_weight own row (m.parts k) ≡ 0 = free k x in
        let c : total m.keys (λ j. part_weight own row (part_at m.parts k q j)) ≡ mass own row m = others_stay k (λ j. part_weight own row (m.parts j)) (λ j. part_weight own row (part_at m.parts k q j)) m.keys (there k q) x in
        let d : total (insert_key key_cmp m.keys k) (λ j. part_weight own row (part_at m.parts k q j)) ≡ part_weight own row (part_at m.parts k q k) + total m.keys (λ j. part_weight own row (part_at m.parts k q j)) =
        inserted_total k m.keys (λ j. part_weight own row (part_at m.parts k q j)) x in
        omega arith)

    -- how a key's weight shifts
    Shifts : Part → Part → Effects → Type 0
    Shifts a b e = part_weight own row b + lost a.owner e ≡ part_weight own row a + gained a.owner e

    back : (c : Context) (x : Running) (e : Effects) (part : Part) (s : Said) → part.owner ≡ Some c → left_weight own c x + lost (Some c) e ≡ own c + gained (Some c) e
        → part_weight own row (called_back c x part.waiting s) + lost part.owner e ≡ part_weight own row part + gained part.owner e
    back c x e part s h law =
        let a : part_weight own row (called_back c x part.waiting s) ≡ left_weight own c x + rows_weight row part.waiting = back_weight c x part.waiting s in
        let b : part_weight own row part ≡ own c + rows_weight row part.waiting = owned c part h in
        let d : lost part.owner e ≡ lost (Some c) e = ap (λ (y : Option Context). lost y e) h in
        let f : gained part.owner e ≡ gained (Some c) e = ap (λ (y : Option Context). gained y e) h in
        omega arith

    started : (k : Key) → Allowed r (Start k) m → part_weight own row (start p (m.parts k)) + lost (m.parts k).owner (start_effects p (m.parts k)) ≡ part_weight own row (m.parts k) + gained (m.parts k).owner (start_effects p (m.parts k))
    started k h = start_case (λ (q : Part) (e : Effects). part_weight own row q + lost (m.parts k).owner e ≡ part_weight own row (m.parts k) + gained (m.parts k).owner e) p (m.parts k)
        (λ c x y. back c (left_by (begins p c.job) unanswered [] 0) (effects_of (begins p c.job)) (m.parts k) _ x (begun c y)) h.1

    delivered : (k : Key) (slot : ℕ) → Allowed r (Deliver k slot) m
        → part_weight own row (deliver slot (m.parts k)) + lost (m.parts k).owner (deliver_effects slot (m.parts k)) ≡ part_weight own row (m.parts k) + gained (m.parts k).owner (deliver_effects slot (m.parts k))
    delivered k slot h = deliver_case (λ (q : Part) (e : Effects). part_weight own row q + lost (m.parts k).owner e ≡ part_weight own row (m.parts k) + gained (m.parts k).owner e) slot (m.parts k)
        (λ c x a y z w. back c (left_by (gives c.job x slot a) (upd x.answers slot None) x.lines x.served) (effects_of (gives c.job x slot a)) (m.parts k) _ y (given c x slot a (subst (OwnerGood Good) y (good k)) z w)) h.1

    served : (k : Key) (slot : ℕ) → Allowed r (Serve k slot) m → part_weight own row (serve slot (m.parts k)) ≡ part_weight own row (m.parts k)
    served k slot h = serve_case (λ (q : Part). part_weight own row q ≡ part_weight own row (m.parts k)) slot (m.parts k)
        (λ c x q y z w. ap (λ (n : ℕ). n + rows_weight row (m.parts k).waiting) (same c x slot _ z) ∙ sym (owned c (m.parts k) y)) h.1

    fired : (k : Key) (n : ℕ) → Allowed r (Fire n k) m → part_weight own row (fire n (m.parts k)) ≡ row n + part_weight own row (m.parts k)
    fired k n h = fire_case (λ (q : Part). part_weight own row q ≡ row n + part_weight own row (m.parts k)) n (m.parts k)
        (λ e w more is t a b. fires e w more is t (m.parts k) a b) m.must k h.1 (o.sound.ordered k)
      where
        fires : (e : ℕ) (w : ℤ) (more : ℕ) (is : List Waiting) (t : ℤ) (part : Part) → part.owner ≡ None → part.waiting ≡ Mark e w (suc more) ∷ is
            → own (new_context n e (firing_job w t)) + rows_weight row is ≡ row n + part_weight own row part
        fires e w more is t part a b =
            let x : part_weight own row part ≡ 0 + rows_weight row is = ap₂ (λ (c : Option Context) (js : List Waiting). owner_weight own c + rows_weight row js) a b in
            let y : own (new_context n e (firing_job w t)) ≡ row n = fresh n e (firing_job w t) in
            omega arith

    sent : (g : ℕ) (cs : List Closed) → mass own row (send_first g p cs m) + 0 ≡ mass own row m + 0
    sent g [] = refl
    sent g (c ∷ cs) = refl

    pub event_weighs : (g : ℕ) (e : Happening) → Allowed r e m → mass own row (happens g p e m) + lost_at lost p e m ≡ mass own row m + gained_at row gained p e m
    event_weighs g (Admit n k time values) h =
        let a : total (insert_key key_cmp m.keys k) (λ j. part_weight own row (part_at m.parts k (admit n m.epoch (row_facts m.wm time values) (m.parts k)) j)) ≡ mass own row m + row n =
        puts k (admit n m.epoch (row_facts m.wm time values) (m.parts k)) (row n) (admitted n m.epoch (row_facts m.wm time values) (m.parts k)) in omega arith
    event_weighs g (Close (ByWatermark w)) h =
        ap (λ (x : ℕ). x + 0) (total_same (λ k. part_weight own row (m.parts k)) (λ k. part_weight own row (mark m.epoch w most_firings (m.parts k))) m.keys (λ k. marked m.epoch w most_firings (m.parts k)))
    event_weighs g (Close (ByBarrier id)) h = refl
    event_weighs g (Fire n k) h = shifts k (fire n (m.parts k)) 0 (row n) (idle_present r m o k h.1) (let a : part_weight own row (fire n (m.parts k)) ≡ row n + part_weight own row (m.parts k) = fired k n h in omega arith)
    event_weighs g (Start k) h = shifts k (start p (m.parts k)) (lost (m.parts k).owner (start_effects p (m.parts k))) (gained (m.parts k).owner (start_effects p (m.parts k))) (present r m o StageUnbegun k h.1) (started k h)
    event_weighs g (Serve k slot) h = shifts k (serve slot (m.parts k)) 0 0 (present r m o (StageAsks slot) k h.1) (ap (λ (x : ℕ). x + 0) (served k slot h))
    event_weighs g (Deliver k slot) h = shifts k (deliver slot (m.parts k)) (lost (m.parts k).owner (deliver_effects slot (m.parts k))) (gained (m.parts k).owner (deliver_effects slot (m.parts k))) (present r m o (StageHas slot) k h.1) (delivered k slot h)
    event_weighs g Send h = sent g m.unsent

-- the three sums

flight_weight : (q : Part) → part_weight (λ c. 1) (λ n. 1) q ≡ contexts_in q
flight_weight q = ap₂ (λ (x y : ℕ). x + y) (own q.owner) (rows q.waiting)
  where
    own : (o : Option Context) → owner_weight (λ c. 1) o ≡ owners o
    own None = refl
    own (Some c) = refl

    rows : (is : List Waiting) → rows_weight (λ n. 1) is ≡ rows_in is
    rows [] = refl
    rows (Row n e f ∷ is) = ap (λ (x : ℕ). 1 + x) (rows is)
    rows (Mark e w more ∷ is) = rows is

numbered_rows : (n : ℕ) (is : List Waiting) → rows_weight (one_at n) is ≡ rows_numbered n is
numbered_rows n [] = refl
numbered_rows n (Row i e f ∷ is) = ap (λ (x : ℕ). one_at n i + x) (numbered_rows n is)
numbered_rows n (Mark e w more ∷ is) = numbered_rows n is

abbrev own_number : ℕ → Context → ℕ
own_number n c = one_at n c.number

abbrev own_references : ℕ → Context → ℕ
own_references n c = cond (nat_eq c.number n) (references c.stage) 0

number_weight : (n : ℕ) (q : Part) → part_weight (own_number n) (one_at n) q ≡ part_numbered n q
number_weight n q = ap₂ (λ (x y : ℕ). x + y) (own q.owner) (numbered_rows n q.waiting)
  where
    own : (o : Option Context) → owner_weight (own_number n) o ≡ owner_numbered n o
    own None = refl
    own (Some c) = refl

reference_weight : (n : ℕ) (q : Part) → part_weight (own_references n) (one_at n) q ≡ part_references n q
reference_weight n q = ap₂ (λ (x y : ℕ). x + y) (own q.owner) (numbered_rows n q.waiting)
  where
    own : (o : Option Context) → owner_weight (own_references n) o ≡ owner_references n o
    own None = refl
    own (Some c) = refl

flight_mass : (m : Machine) → mass (λ c. 1) (λ n. 1) m ≡ in_flight m
flight_mass m = total_same (λ k. contexts_in (m.parts k)) (λ k. part_weight (λ c. 1) (λ n. 1) (m.parts k)) m.keys (λ k. flight_weight (m.parts k))

number_mass : (n : ℕ) (m : Machine) → mass (own_number n) (one_at n) m ≡ number_count n m
number_mass n m = total_same (λ k. part_numbered n (m.parts k)) (λ k. part_weight (own_number n) (one_at n) (m.parts k)) m.keys (λ k. number_weight n (m.parts k))

reference_mass : (n : ℕ) (m : Machine) → mass (own_references n) (one_at n) m ≡ reference_count n m
reference_mass n m = total_same (λ k. part_references n (m.parts k)) (λ k. part_weight (own_references n) (one_at n) (m.parts k)) m.keys (λ k. reference_weight n (m.parts k))

-- requests that wait are those that are asked

pub asked_length : (c : Control) → length (slots c) ≡ length (waiting c)
asked_length Done = refl
asked_length (Wait s r n k) = refl
asked_length (Arms one two k) = length-append (slots one) (slots two) ∙ (ap₂ (λ (x y : ℕ). x + y) (asked_length one) (asked_length two) ∙ sym (length-append (waiting one) (waiting two)))

done_length : (c : Control) → is_done c ≡ true → length (slots c) ≡ 0
done_length Done h = refl
done_length (Wait s r n k) h = absurd (cc h)
done_length (Arms one two k) h = absurd (cc h)

replaced_length : (s : ℕ) (others xs : List Asked) → has s (map (λ (a : Asked). a.slot) xs) ≡ true → length (replaced s others xs) + 1 ≡ length xs + length others
replaced_length s others [] h = absurd (cc h)
replaced_length s others (a ∷ xs) h = by_cases (nat_eq s a.slot)
    (λ x. ap (λ (ys : List Asked). length ys + 1) (cond-true (nat_eq s a.slot) (others ++ xs) (a ∷ replaced s others xs) x)
    ∙ (let l : length (others ++ xs) ≡ length others + length xs = length-append others xs in omega arith))
    (λ x. ap (λ (ys : List Asked). length ys + 1) (cond-false (nat_eq s a.slot) (others ++ xs) (a ∷ replaced s others xs) x)
    ∙ (let l : length (replaced s others xs) + 1 ≡ length xs + length others = replaced_length s others xs (rw x at h) in omega arith))

begun_length : (p : Program) (j : Job) → length (slots (begins p j).control) ≡ length (begins p j).asks
begun_length p j = asked_length (begins p j).control ∙ ap (λ (xs : List Asked). length xs) (begin_asked j.facts (Rest (text_for p j.handler) ∷ []) [] (silent_talk (λ i. pos 0)))

pub given_length : (j : Job) (x : Running) (slot : ℕ) (a : Answer) → has slot (slots x.control) ≡ true → length (slots (gives j x slot a).control) + 1 ≡ length (slots x.control) + length (gives j x slot a).asks
given_length j x slot a h =
    let w : has slot (map (λ (b : Asked). b.slot) (waiting x.control)) ≡ true = ap (has slot) (sym (slots_waiting x.control)) ∙ h in
    let l : length (replaced slot (gives j x slot a).asks (waiting x.control)) + 1 ≡ length (waiting x.control) + length (gives j x slot a).asks = replaced_length slot (gives j x slot a).asks (waiting x.control) w in
    let e : length (waiting (gives j x slot a).control) ≡ length (replaced slot (gives j x slot a).asks (waiting x.control)) =
    ap (λ (xs : List Asked). length xs) (give_asked j.facts x.control slot a (silent_talk x.names) h) in
    let b : length (slots (gives j x slot a).control) ≡ length (waiting (gives j x slot a).control) = asked_length (gives j x slot a).control in
    let d : length (slots x.control) ≡ length (waiting x.control) = asked_length x.control in
    omega arith

pub stage_good : (c : Context) (x : Running) → OwnerGood Good (Some c) → c.stage ≡ Begun x → Good x
unfolding OwnerGood StageGood
stage_good c x g e = subst (StageGood Good) e g

-- the laws of the three sums
module _ (r : Rules) (m : Machine) (o : IsOrderly r m) (rises : IsStrictlySortedBy key_cmp m.keys) (good : (k : Key) → OwnerGood Good (m.parts k).owner) (g : ℕ) (p : Program) where
  gone_once : (b : Bool) → cond b 0 1 + one_if_gone b ≡ 1 + 0
  gone_once true = refl
  gone_once false = refl

  flight_is : (e : Happening) → mass (λ c. 1) (λ n. 1) (happens g p e m) + lost_at (λ c f. one_if_gone f.gone) p e m ≡ mass (λ c. 1) (λ n. 1) m + gained_at (λ n. 1) (λ c f. 0) p e m
      → in_flight (happens g p e m) + lost_at (λ c f. one_if_gone f.gone) p e m ≡ in_flight m + gained_at (λ n. 1) (λ c f. 0) p e m
  flight_is e h =
      let a : mass (λ c. 1) (λ n. 1) m ≡ in_flight m = flight_mass m in
      let b : mass (λ c. 1) (λ n. 1) (happens g p e m) ≡ in_flight (happens g p e m) = flight_mass (happens g p e m) in
      omega arith

  pub flight_changes : (e : Happening) → Allowed r e m → in_flight (happens g p e m) + one_if_gone (outcome g p e m).gone ≡ in_flight m + made e
  flight_changes e h = of e (flight_is e (event_weighs (λ c. 1) (λ n. 1) (λ n f j. refl) r m o rises (λ c x slot a y. refl) (λ c f. one_if_gone f.gone) (λ c f. 0) p
      (λ c y. gone_once (is_done (begins p c.job).control)) (λ c x slot a q y z. gone_once (is_done (gives c.job x slot a).control)) good g e h))
    where
      sent : (cs : List Closed) → 0 ≡ one_if_gone (sends_first g p cs m).gone
      sent [] = refl
      sent (c ∷ cs) = refl

      of : (e : Happening) → in_flight (happens g p e m) + lost_at (λ c f. one_if_gone f.gone) p e m ≡ in_flight m + gained_at (λ n. 1) (λ c f. 0) p e m
          → in_flight (happens g p e m) + one_if_gone (outcome g p e m).gone ≡ in_flight m + made e
      of (Admit n k time values) x = x
      of (Close c) x = x
      of (Fire n k) x = x
      of (Start k) x = x
      of (Serve k slot) x = x
      of (Deliver k slot) x = x
      of Send x = ap (λ (n : ℕ). in_flight (send_first g p m.unsent m) + n) (sym (sent m.unsent)) ∙ x

  gone_again : (b c : Bool) → cond b 0 (cond c 1 0) + cond c (one_if_gone b) 0 ≡ cond c 1 0 + 0
  gone_again true true = refl
  gone_again true false = refl
  gone_again false true = refl
  gone_again false false = refl

  pub numbers_change : (n : ℕ) (e : Happening) → Allowed r e m → number_count n (happens g p e m) + counted (calls n e m) (one_if_gone (outcome g p e m).gone) ≡ number_count n m + made_as n e
  numbers_change n e h =
      let a : mass (own_number n) (one_at n) m ≡ number_count n m = number_mass n m in
      let b : mass (own_number n) (one_at n) (happens g p e m) ≡ number_count n (happens g p e m) = number_mass n (happens g p e m) in
      of e (omega (
        arith,
        event_weighs (own_number n) (one_at n) (λ i f j. refl) r m o rises (λ c x slot a y. refl) (λ c f. counted (owns n c) (one_if_gone f.gone)) (λ c f. 0) p
            (λ c y. gone_again (is_done (begins p c.job).control) (nat_eq c.number n)) (λ c x slot a q y z. gone_again (is_done (gives c.job x slot a).control) (nat_eq c.number n)) good g e h,
      ))
    where
      of : (e : Happening) → number_count n (happens g p e m) + lost_at (λ c f. counted (owns n c) (one_if_gone f.gone)) p e m ≡ number_count n m + gained_at (one_at n) (λ c f. 0) p e m
          → number_count n (happens g p e m) + counted (calls n e m) (one_if_gone (outcome g p e m).gone) ≡ number_count n m + made_as n e
      of (Admit i k time values) x = x
      of (Close c) x = x
      of (Fire i k) x = x
      of (Start k) x = x
      of (Serve k slot) x = x
      of (Deliver k slot) x = x
      of Send x = x

  -- a callback of a context with so many references, which asks so many requests and leaves so many
  one_ends : (done mine : Bool) (before asked left : ℕ) → left + 1 ≡ before + asked → (done ≡ true → left ≡ 0) → cond done 0 (cond mine left 0) + cond mine 1 0 ≡ cond mine before 0 + cond mine asked 0
  one_ends true true before asked left h z = let e : left ≡ 0 = z refl in omega arith
  one_ends true false before asked left h z = refl
  one_ends false true before asked left h z = h
  one_ends false false before asked left h z = refl

  pub references_change : (n : ℕ) (e : Happening) → Allowed r e m
      → reference_count n (happens g p e m) + counted (calls n e m) 1 ≡ reference_count n m + (made_as n e + counted (calls n e m) (length (outcome g p e m).asks))
  references_change n e h =
      let a : mass (own_references n) (one_at n) m ≡ reference_count n m = reference_mass n m in
      let b : mass (own_references n) (one_at n) (happens g p e m) ≡ reference_count n (happens g p e m) = reference_mass n (happens g p e m) in
      of e (omega (
        arith,
        event_weighs (own_references n) (one_at n) (λ i f j. refl) r m o rises (λ c x slot a y. ap (λ (s : _). cond (nat_eq c.number n) (references s) 0) (sym y)) (λ c f. counted (owns n c) 1) (λ c f. counted (owns n c) (length f.asks)) p
            (λ c y. begun c y) (λ c x slot a q y z. given c x slot a q y z) good g e h,
      ))
    where
      begun : (c : Context) → c.stage ≡ Unbegun
          → left_weight (own_references n) c (left_by (begins p c.job) unanswered [] 0) + cond (nat_eq c.number n) 1 0 ≡ own_references n c + cond (nat_eq c.number n) (length (begins p c.job).asks) 0
      begun c y = one_ends (is_done (begins p c.job).control) (nat_eq c.number n) (references c.stage) (length (begins p c.job).asks) (length (slots (begins p c.job).control))
          (let s : references c.stage ≡ 1 = ap references y in let l : length (slots (begins p c.job).control) ≡ length (begins p c.job).asks = begun_length p c.job in omega arith)
          (done_length (begins p c.job).control)

      given : (c : Context) (x : Running) (slot : ℕ) (a : Answer) → OwnerGood Good (Some c) → c.stage ≡ Begun x → x.answers slot ≡ Some a
          → left_weight (own_references n) c (left_by (gives c.job x slot a) (upd x.answers slot None) x.lines x.served) + cond (nat_eq c.number n) 1 0
          ≡ own_references n c + cond (nat_eq c.number n) (length (gives c.job x slot a).asks) 0
      given c x slot a q y z = one_ends (is_done (gives c.job x slot a).control) (nat_eq c.number n) (references c.stage) (length (gives c.job x slot a).asks) (length (slots (gives c.job x slot a).control))
          (let s : references c.stage ≡ length (slots x.control) = ap references y in
          let l : length (slots (gives c.job x slot a).control) + 1 ≡ length (slots x.control) + length (gives c.job x slot a).asks = given_length c.job x slot a (waits_here x slot a (stage_good c x q y) z) in omega arith)
          (done_length (gives c.job x slot a).control)

      of : (e : Happening) → reference_count n (happens g p e m) + lost_at (λ c f. counted (owns n c) 1) p e m ≡ reference_count n m + gained_at (one_at n) (λ c f. counted (owns n c) (length f.asks)) p e m
          → reference_count n (happens g p e m) + counted (calls n e m) 1 ≡ reference_count n m + (made_as n e + counted (calls n e m) (length (outcome g p e m).asks))
      of (Admit i k time values) x = omega (arith, x)
      of (Close c) x = x
      of (Fire i k) x = omega (arith, x)
      of (Start k) x = omega (arith, x)
      of (Serve k slot) x = x
      of (Deliver k slot) x = omega (arith, x)
      of Send x = x
