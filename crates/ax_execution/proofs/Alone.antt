-- Each key goes as alone.
use Rattle.std.proofs.Common.{◌≡◌, ℕ, suc, ◌*◌, ℤ, int_lt, List, [], ◌∷◌, ◌++◌, length, true, false, Option, None, refl, sym, ap, ap₂, ◌∙◌, arith, subst, append_assoc}
use Rattle.std.proofs.lemmas.List.{append-nil}
use Rattle.std.proofs.lemmas.Bool.{cond-true, cond-false}
use Rattle.std.specs.Str.{bytes_eq}
use Rattle.std.specs.BTreeSet.{insert_key}
use Rattle.ax_keys.specs.Keys.{key_cmp}
use Rattle.ax_text.specs.Exprs.{Facts}
use Rattle.ax_text.specs.Programs.{Program}
use Rattle.ax_machine.specs.Entries.{Key, Watermark, lines_of, says}
use Rattle.ax_machine.specs.Events.{Event}
use Rattle.ax_machine.specs.Events as event
use Rattle.ax_machine.specs.Firings.{most_firings}
use Rattle.ax_machine.specs.Sync.{Plain, all_fired, at_watermark, writes, plain_step}
use Rattle.ax_machine.proofs.FiringLemmas.{key_is}
use Rattle.ax_machine.proofs.FrontLemmas.{lines_of-append}
use Rattle.ax_machine.proofs.KeyLemmas.{lines_of_says, lines_of_others, lines_of_marked, IsSameBeside, fire_all_beside}
use Rattle.ax_machine.proofs.StepLemmas.{steps_append}
use Rattle.ax_execution.specs.Groups.{on_row, row_facts}
use Rattle.ax_machine.specs.KeySync.{Said, ran, key_fires, KeyPlain, key_step, key_steps}
use Rattle.ax_execution.specs.Contexts.{Running, Part, part_lines}
use Rattle.ax_execution.specs.Rest.{settled, owed}
use Rattle.ax_execution.specs.Turns.{admit, mark, fire, start, serve, deliver, start_effects, deliver_effects}
use Rattle.ax_execution.specs.Machine.{ByWatermark, ByBarrier, Closed, Machine, Happening, Admit, Close, Fire, Start, Serve, Deliver, Send, Rules, part_at, must_fire, goes_on, marker_of, send_first, happens, after_all, taken, machine_from, machine_of, IsWork}
use Rattle.ax_execution.specs.Allowed.{Allowed, IsRun}
use Rattle.ax_execution.specs.Origins.{Origin, IsOrigin, plain_from, sync_from, said_from, key_sync_from}
use Rattle.ax_execution.proofs.Projected.{projected_from}
use Rattle.ax_execution.proofs.Handles.{Handles}
use Rattle.ax_execution.proofs.Kept.{admitted, marked}
use Rattle.ax_execution.proofs.Owed.{written_and_owed}
use Rattle.ax_execution.proofs.Upto.{by_cases, said_lines, Sorted, OwnerSorted, PartSorted, part_higher, OwnerGood, Goes, start_goes, serve_goes, deliver_goes, fire_goes, Keeps, admit_keeps, mark_keeps}

-- one event more

key_append : (p : Program) (k : Key) (xs ys : List Event) (s : KeyPlain) → key_steps p k (xs ++ ys) s ≡ key_steps p k ys (key_steps p k xs s)
key_append p k [] ys s = refl
key_append p k (e ∷ xs) ys s = key_append p k xs ys (key_step p k e s)

pub key_next : (p : Program) (from : Origin) (k : Key) (done : List Event) (e : Event) → key_sync_from p from k (done ++ e ∷ []) ≡ key_step p k e (key_sync_from p from k done)
key_next p from k done e = key_append p k done (e ∷ []) (record { wm = from.wm; said = said_from from k })

pub sync_next : (g : ℕ) (p : Program) (from : Origin) (done : List Event) (e : Event) → sync_from g p from (done ++ e ∷ []) ≡ plain_step g p e (sync_from g p from done)
sync_next g p from done e = steps_append g p done (e ∷ []) (plain_from from)

pub watermark_taken : (g : ℕ) (p : Program) (w : ℤ) (s : Plain) → int_lt s.wm w ≡ true → plain_step g p (event.Mark w) s ≡ writes (Watermark w) (all_fired p (at_watermark w s))
watermark_taken g p w s h = cond-true (int_lt s.wm w) (writes (Watermark w) (all_fired p (at_watermark w s))) s h

pub on_part : (P : Key → Part → Type 0) (parts : Key → Part) (k : Key) (q : Part) → P k q → ((j : Key) → P j (parts j)) → (j : Key) → P j (part_at parts k q j)
on_part P parts k q a b j = by_cases (bytes_eq k j)
    (λ x. subst (P j) (sym (cond-true (bytes_eq k j) q (parts j) x)) (subst (λ (i : Key). P i q) (key_is k j x) a))
    (λ x. subst (P j) (sym (cond-false (bytes_eq k j) q (parts j) x)) (b j))

module _ (g : ℕ) (p : Program) (Good : Running → Type 0) (H : Handles p Good) (from : Origin) (fits : IsOrigin p from) where
  -- the machine and the plain thread of each key
  pub record Alone (m : Machine) (done : List Event) : Type 0 where
    pub settles : (k : Key) → settled p (m.parts k) ≡ (key_sync_from p from k done).said
    pub wrote : (k : Key) → lines_of k m.written ≡ part_lines (m.parts k)
    pub good : (k : Key) → OwnerGood Good (m.parts k).owner
    pub sorted : (k : Key) → PartSorted m.epoch (m.parts k)
    pub wm : m.wm ≡ (sync_from g p from done).wm
    pub keys : m.keys ≡ (sync_from g p from done).keys

  pub plain_wm : (m : Machine) (done : List Event) → Alone m done → (k : Key) → m.wm ≡ (key_sync_from p from k done).wm
  plain_wm m done a k = a.wm ∙ (projected_from g p from fits k done).wm

  -- an event of one key

  goes_wrote : (k : Key) (must : Option Key) (new : List (List ℤ)) (q : Part) (m : Machine) → Goes p Good new (m.parts k) q → ((j : Key) → lines_of j m.written ≡ part_lines (m.parts j))
      → (j : Key) → lines_of j (goes_on k must new q m).written ≡ part_lines (part_at m.parts k q j)
  goes_wrote k must new q m go w j = by_cases (bytes_eq k j)
      (λ x. subst (λ (i : Key). lines_of i (m.written ++ says k new) ≡ part_lines q) (key_is k j x) own ∙ sym (ap part_lines (cond-true (bytes_eq k j) q (m.parts j) x)))
      (λ x. lines_of-append j m.written (says k new) ∙ (ap (λ (l : List (List ℤ)). lines_of j m.written ++ l) (lines_of_others j k new x)
      ∙ (append-nil (lines_of j m.written) ∙ (w j ∙ sym (ap part_lines (cond-false (bytes_eq k j) q (m.parts j) x))))))
    where
      own : lines_of k (m.written ++ says k new) ≡ part_lines q
      own = lines_of-append k m.written (says k new)
          ∙ (ap₂ (λ (x y : List (List ℤ)). x ++ y) (w k) (lines_of_says k new) ∙ sym go.wrote)

  goes_alone : (k : Key) (must : Option Key) (new : List (List ℤ)) (q : Part) (m : Machine) (done : List Event) → Goes p Good new (m.parts k) q → Alone m done → Alone (goes_on k must new q m) done
  goes_alone k must new q m done go a = record {
    settles = on_part (λ (j : Key) (x : Part). settled p x ≡ (key_sync_from p from j done).said) m.parts k q (go.settles ∙ a.settles k) a.settles;
    wrote = goes_wrote k must new q m go a.wrote;
    good = on_part (λ (j : Key) (x : Part). OwnerGood Good x.owner) m.parts k q go.good a.good;
    sorted = on_part (λ (j : Key) (x : Part). PartSorted m.epoch x) m.parts k q (go.sorted m.epoch (a.sorted k)) a.sorted;
    wm = a.wm;
    keys = a.keys;
  }

  -- a row

  row_said : (j k : Key) (time : ℤ) (values : List ℤ) (s : KeyPlain) → bytes_eq k j ≡ true
      → (key_step p j (event.Row k time values) s).said ≡ ran p (on_row (row_facts s.wm time values)) s.said.state s.said
  row_said j k time values s x = ap (λ (y : KeyPlain). y.said) (cond-true (bytes_eq k j) (record { wm = s.wm; said = ran p (on_row (row_facts s.wm time values)) s.said.state s.said }) s x)

  row_others : (j k : Key) (time : ℤ) (values : List ℤ) (s : KeyPlain) → bytes_eq k j ≡ false → (key_step p j (event.Row k time values) s).said ≡ s.said
  row_others j k time values s x = ap (λ (y : KeyPlain). y.said) (cond-false (bytes_eq k j) (record { wm = s.wm; said = ran p (on_row (row_facts s.wm time values)) s.said.state s.said }) s x)

  admit_settles : (n : ℕ) (k : Key) (time : ℤ) (values : List ℤ) (m : Machine) (done : List Event) → Alone m done
      → (j : Key) → settled p (part_at m.parts k (admit n m.epoch (row_facts m.wm time values) (m.parts k)) j) ≡ (key_sync_from p from j (done ++ event.Row k time values ∷ [])).said
  admit_settles n k time values m done a j =
      by_cases (bytes_eq k j)
      (λ x. ap (settled p) (cond-true (bytes_eq k j) next (m.parts j) x)
      ∙ (subst (λ (i : Key). settled p next ≡ ran p (on_row (row_facts (key_sync_from p from i done).wm time values)) (key_sync_from p from i done).said.state (key_sync_from p from i done).said) (key_is k j x) own
      ∙ sym (row_said j k time values (key_sync_from p from j done) x)))
      (λ x. ap (settled p) (cond-false (bytes_eq k j) next (m.parts j) x) ∙ (a.settles j ∙ sym (row_others j k time values (key_sync_from p from j done) x)))
      ∙ sym (ap (λ (y : KeyPlain). y.said) (key_next p from j done (event.Row k time values)))
    where
      next : Part
      next = admit n m.epoch (row_facts m.wm time values) (m.parts k)

      own : settled p next ≡ ran p (on_row (row_facts (key_sync_from p from k done).wm time values)) (key_sync_from p from k done).said.state (key_sync_from p from k done).said
      own = admitted p Good H n m.epoch (row_facts m.wm time values) (m.parts k)
          ∙ ap₂ (λ (u : ℤ) (s : Said). ran p (on_row (row_facts u time values)) s.state s) (plain_wm m done a k) (a.settles k)

  admit_alone : (n : ℕ) (k : Key) (time : ℤ) (values : List ℤ) (m : Machine) (done : List Event) → Alone m done → Alone (happens g p (Admit n k time values) m) (done ++ event.Row k time values ∷ [])
  admit_alone n k time values m done a = record {
    settles = admit_settles n k time values m done a;
    wrote = λ j. a.wrote j ∙ on_part (λ (i : Key) (x : Part). part_lines (m.parts i) ≡ part_lines x) m.parts k (admit n m.epoch facts (m.parts k)) (sym kept.lines) (λ i. refl) j;
    good = on_part (λ (j : Key) (x : Part). OwnerGood Good x.owner) m.parts k (admit n m.epoch facts (m.parts k)) kept.good a.good;
    sorted = on_part (λ (j : Key) (x : Part). PartSorted m.epoch x) m.parts k (admit n m.epoch facts (m.parts k)) kept.sorted a.sorted;
    wm = a.wm ∙ sym (ap (λ (s : Plain). s.wm) (sync_next g p from done (event.Row k time values)));
    keys = ap (λ (ks : List Key). insert_key key_cmp ks k) a.keys ∙ sym (ap (λ (s : Plain). s.keys) (sync_next g p from done (event.Row k time values)));
  }
    where
      facts : Facts
      facts = row_facts m.wm time values

      kept : Keeps p Good H m.epoch (m.parts k) (admit n m.epoch (row_facts m.wm time values) (m.parts k))
      kept = admit_keeps p Good H m.epoch n (row_facts m.wm time values) (m.parts k) (a.good k) (a.sorted k)

  -- a watermark

  mark_said : (k : Key) (w : ℤ) (s : KeyPlain) → int_lt s.wm w ≡ true → (key_step p k (event.Mark w) s).said ≡ key_fires p w most_firings s.said
  mark_said k w s x = ap (λ (y : KeyPlain). y.said) (cond-true (int_lt s.wm w) (record { wm = w; said = key_fires p w most_firings s.said }) s x)

  mark_alone : (w : ℤ) (m : Machine) (done : List Event) → Alone m done → int_lt m.wm w ≡ true → Alone (happens g p (Close (ByWatermark w)) m) (done ++ event.Mark w ∷ [])
  mark_alone w m done a h = record {
    settles = λ k. marked p Good H m.epoch w most_firings (m.parts k) ∙ (ap (key_fires p w most_firings) (a.settles k)
        ∙ sym (ap (λ (y : KeyPlain). y.said) (key_next p from k done (event.Mark w)) ∙ mark_said k w (key_sync_from p from k done) (subst (λ (u : ℤ). int_lt u w ≡ true) (plain_wm m done a k) h)));
    wrote = λ k. a.wrote k ∙ sym (kept k).lines;
    good = λ k. (kept k).good;
    sorted = λ k. part_higher m.epoch (suc m.epoch) (mark m.epoch w most_firings (m.parts k)) (omega arith) (kept k).sorted;
    wm = sym (ap (λ (s : Plain). s.wm) next ∙ beside.wm);
    keys = a.keys ∙ sym (ap (λ (s : Plain). s.keys) next ∙ beside.keys);
  }
    where
      kept : (k : Key) → Keeps p Good H m.epoch (m.parts k) (mark m.epoch w most_firings (m.parts k))
      kept k = mark_keeps p Good H m.epoch w most_firings (m.parts k) (a.good k) (a.sorted k)

      before : Plain
      before = at_watermark w (sync_from g p from done)

      next : sync_from g p from (done ++ event.Mark w ∷ []) ≡ writes (Watermark w) (all_fired p before)
      next = sync_next g p from done (event.Mark w) ∙ watermark_taken g p w (sync_from g p from done) (subst (λ (u : ℤ). int_lt u w ≡ true) a.wm h)

      beside : IsSameBeside (all_fired p before) before
      beside = fire_all_beside p (most_firings * length before.keys) (λ k. most_firings) before

  -- a barrier

  barrier_alone : (id : ℤ) (m : Machine) (done : List Event) → Alone m done → Alone (happens g p (Close (ByBarrier id)) m) (done ++ event.Barrier id ∷ [])
  barrier_alone id m done a = record {
    settles = λ k. a.settles k ∙ sym (ap (λ (y : KeyPlain). y.said) (key_next p from k done (event.Barrier id)));
    wrote = a.wrote;
    good = a.good;
    sorted = λ k. part_higher m.epoch (suc m.epoch) (m.parts k) (omega arith) (a.sorted k);
    wm = a.wm ∙ sym (ap (λ (s : Plain). s.wm) (sync_next g p from done (event.Barrier id)));
    keys = a.keys ∙ sym (ap (λ (s : Plain). s.keys) (sync_next g p from done (event.Barrier id)));
  }

  -- the oldest marker is sent

  send_alone : (m : Machine) (done : List Event) (cs : List Closed) → Alone m done → Alone (send_first g p cs m) done
  send_alone m done [] a = a
  send_alone m done (c ∷ cs) a = record {
    settles = a.settles;
    wrote = λ k. lines_of_marked k m.written (marker_of g p c.closing m) ∙ a.wrote k;
    good = a.good;
    sorted = a.sorted;
    wm = a.wm;
    keys = a.keys;
  }

  -- every event

  none_more : (m : Machine) (done : List Event) → Alone m done → Alone m (done ++ [])
  none_more m done a = subst (Alone m) (sym (append-nil done)) a

  pub event_alone : (r : Rules) (e : Happening) (m : Machine) (done : List Event) → Alone m done → Allowed r e m → Alone (happens g p e m) (done ++ taken (e ∷ []))
  event_alone r (Admit n k time values) m done a h = admit_alone n k time values m done a
  event_alone r (Close (ByWatermark w)) m done a h = mark_alone w m done a h.2
  event_alone r (Close (ByBarrier id)) m done a h = barrier_alone id m done a
  event_alone r (Fire n k) m done a h = none_more _ done (goes_alone k None [] (fire n (m.parts k)) m done (fire_goes p Good H n (m.parts k) (a.good k)) a)
  event_alone r (Start k) m done a h = none_more _ done (goes_alone k (must_fire k (start p (m.parts k))) (start_effects p (m.parts k)).lines (start p (m.parts k)) m done (start_goes p Good H (m.parts k) (a.good k)) a)
  event_alone r (Serve k slot) m done a h = none_more _ done (goes_alone k m.must [] (serve slot (m.parts k)) m done (serve_goes p Good H slot (m.parts k) (a.good k) h.1) a)
  event_alone r (Deliver k slot) m done a h = none_more _ done (goes_alone k (must_fire k (deliver slot (m.parts k))) (deliver_effects slot (m.parts k)).lines (deliver slot (m.parts k)) m done (deliver_goes p Good H slot (m.parts k) (a.good k)) a)
  event_alone r Send m done a h = none_more _ done (send_alone m done m.unsent a)

  pub taken_next : (done : List Event) (e : Happening) (es : List Happening) → (done ++ taken (e ∷ [])) ++ taken es ≡ done ++ taken (e ∷ es)
  taken_next done (Admit n k time values) es = append_assoc done (taken (Admit n k time values ∷ [])) (taken es)
  taken_next done (Close (ByWatermark w)) es = append_assoc done (event.Mark w ∷ []) (taken es)
  taken_next done (Close (ByBarrier id)) es = append_assoc done (event.Barrier id ∷ []) (taken es)
  taken_next done (Fire n k) es = append_assoc done [] (taken es)
  taken_next done (Start k) es = append_assoc done [] (taken es)
  taken_next done (Serve k slot) es = append_assoc done [] (taken es)
  taken_next done (Deliver k slot) es = append_assoc done [] (taken es)
  taken_next done Send es = append_assoc done [] (taken es)

  run_alone : (r : Rules) (es : List Happening) (m : Machine) (done : List Event) → Alone m done → IsRun r g p es m → Alone (after_all g p es m) (done ++ taken es)
  run_alone r [] m done a h = none_more m done a
  run_alone r (e ∷ es) m done a h = subst (Alone (after_all g p es (happens g p e m))) (taken_next done e es)
      (run_alone r es (happens g p e m) (done ++ taken (e ∷ [])) (event_alone r e m done a h.0) h.1)

  pub start_alone : Alone (machine_from from) []
  unfolding OwnerGood PartSorted OwnerSorted Sorted
  start_alone = record { settles = λ k. refl; wrote = λ k. refl; good = λ k. tt; sorted = λ k. tt; wm = refl; keys = refl }

  -- each key goes as alone
  pub goes_as_alone : (r : Rules) (es : List Happening) → IsRun r g p es (machine_from from) → Alone (machine_of g p from es) (taken es)
  goes_as_alone r es h = run_alone r es (machine_from from) [] start_alone h

  -- what was written of a key and what is owed are its lines of the plain thread
  pub written_then_owed : (m : Machine) (done : List Event) → Alone m done → (k : Key) → lines_of k m.written ++ owed p (m.parts k) ≡ lines_of k (sync_from g p from done).entries
  written_then_owed m done a k =
      ap (λ (l : List (List ℤ)). l ++ owed p (m.parts k)) (a.wrote k)
      ∙ (written_and_owed p Good H (m.parts k) ∙ (ap said_lines (a.settles k) ∙ sym (projected_from g p from fits k done).lines))

  work_takes_nothing : (e : Happening) → IsWork e → taken (e ∷ []) ≡ []
  work_takes_nothing (Admit n k time values) i = absurd i
  work_takes_nothing (Close c) i = absurd i
  work_takes_nothing (Fire n k) i = refl
  work_takes_nothing (Start k) i = refl
  work_takes_nothing (Serve k slot) i = refl
  work_takes_nothing (Deliver k slot) i = refl
  work_takes_nothing Send i = refl

  -- an event that takes nothing of the input changes nothing of what a key comes to
  pub work_keeps : (r : Rules) (e : Happening) (m : Machine) (done : List Event) → Alone m done → IsWork e → Allowed r e m → (k : Key) → settled p ((happens g p e m).parts k) ≡ settled p (m.parts k)
  work_keeps r e m done a i h k =
      (event_alone r e m done a h).settles k
      ∙ (ap (λ (es : List Event). (key_sync_from p from k (done ++ es)).said) (work_takes_nothing e i) ∙ (ap (λ (es : List Event). (key_sync_from p from k es).said) (append-nil done) ∙ sym (a.settles k)))

  -- nor of its lines that were written and then those that it owes
  pub work_keeps_lines : (r : Rules) (e : Happening) (m : Machine) (done : List Event) → Alone m done → IsWork e → Allowed r e m → (k : Key)
      → lines_of k (happens g p e m).written ++ owed p ((happens g p e m).parts k) ≡ lines_of k m.written ++ owed p (m.parts k)
  work_keeps_lines r e m done a i h k =
      written_then_owed (happens g p e m) (done ++ taken (e ∷ [])) (event_alone r e m done a h) k
      ∙ (ap (λ (es : List Event). lines_of k (sync_from g p from (done ++ es)).entries) (work_takes_nothing e i)
      ∙ (ap (λ (es : List Event). lines_of k (sync_from g p from es).entries) (append-nil done) ∙ sym (written_then_owed m done a k)))
