-- The work left falls by one at each event that takes nothing of the input.
use Rattle.std.proofs.Common.{◌≡◌, ℕ, zero, suc, ◌+◌, ◌*◌, ◌≤◌, ℤ, int_le, List, [], ◌∷◌, ◌++◌, length, Bool, true, false, cond, Option, Some, None, refl, sym, ap, ◌∙◌, arith}
use Rattle.std.proofs.lemmas.List.{append-nil}
use Rattle.std.proofs.lemmas.Bool.{cond-true, cond-false}
use Rattle.std.specs.Str.{bytes_eq}
use Rattle.std.specs.List.{list_any}
use Rattle.std.specs.List.Sorted.{IsStrictlySortedBy}
use Rattle.ax_keys.specs.Keys.{key_cmp}
use Rattle.ax_text.specs.declared.vocabulary.Request.{Request}
use Rattle.ax_text.specs.declared.vocabulary.Answer.{Answer}
use Rattle.ax_text.specs.Functions.{upd}
use Rattle.ax_text.specs.Cells.{answer_of}
use Rattle.ax_text.specs.Programs.{Program}
use Rattle.ax_text.specs.Run.{World}
use Rattle.ax_machine.specs.Entries.{Key}
use Rattle.ax_execution.specs.Sums.{total}
use Rattle.ax_machine.specs.Sync.{without_least}
use Rattle.ax_machine.proofs.FiringLemmas.{same_key}
use Rattle.ax_text.specs.Controls.{Control, Done, Wait, Arms, left, is_done, slots, request_at}
use Rattle.ax_text.specs.Jobs.{Job, Group, firing_job}
use Rattle.ax_text.specs.Silent.{unanswered}
use Rattle.ax_execution.specs.Groups.{handler_weight, weight, unsaid}
use Rattle.ax_machine.specs.KeySync.{Said}
use Rattle.ax_execution.specs.Contexts.{Running, running_group, Stage, Unbegun, Begun, stage_group, Context, new_context, Waiting, Row, Mark, Part, part_groups, rows_in, is_due, is_idle_with, is_idle}
use Rattle.ax_execution.specs.Rest.{served_at, stage_work, owner_work, part_work}
use Rattle.ax_execution.specs.Turns.{handed, timed, closed_with, left_by, staged, called_back, begins, start_stage, start_owner, start, answered, serve_request, serve_stage, serve_owner, serve, gives, give_answer, deliver_stage, deliver_owner, deliver, fire_due, fire_front, fire, start_effects, deliver_effects}
use Rattle.ax_execution.specs.Machine.{Closed, Machine, Happening, Admit, Close, Fire, Start, Serve, Deliver, Send, Rules, part_at, must_fire, goes_on, send_first, happens, taken, machine_from, machine_of, IsWork, work}
use Rattle.ax_execution.specs.Allowed.{FirstIsFinished, StageUnbegun, StageAsks, StageHas, OfOwner, Allowed, IsRun}
use Rattle.ax_execution.specs.Origins.{Origin, IsOrigin}
use Rattle.ax_execution.proofs.Handles.{Handles, silenced}
use Rattle.ax_execution.proofs.Handles as handles
use Rattle.ax_execution.proofs.Upto.{part_of, StageGood, OwnerGood, Goes, start_goes, serve_goes, deliver_goes, fire_goes}
use Rattle.ax_execution.proofs.Alone.{Alone, goes_as_alone}
use Rattle.ax_execution.proofs.KeySums.{one_less}
use Rattle.ax_execution.proofs.Stuck.{FrontFires, IsOrdered}
use Rattle.ax_execution.proofs.Orderly.{IsOrderly, present, idle_present, keys_rise, always_orderly}
use Rattle.ax_execution.proofs.Work.{weight_append, falls, handed_work}

true_false : false ≡ true → ⊥
true_false e = cc e

none_some : {A : Type 0} {x : A} → None ≡ Some x → ⊥
none_some h = cc h

-- how much an event of a key does
record Does (a b : Part) : Type 0 where
  done : ℕ
  weight : weight (part_groups b) ≡ weight (part_groups a) + done
  work : suc (owner_work b.owner + rows_in b.waiting) ≡ owner_work a.owner + rows_in a.waiting + done

done_slots : (c : Control) → is_done c ≡ true → slots c ≡ []
done_slots Done h = refl
done_slots (Wait s r after k) h = absurd (true_false h)
done_slots (Arms one two k) h = absurd (true_false h)

served_none : (xs : List ℕ) → served_at unanswered xs ≡ 0
served_none [] = refl
served_none (x ∷ xs) = let h : served_at unanswered xs ≡ 0 = served_none xs in omega arith

one_group : (gs : List Group) (g : Group) → weight (gs ++ g ∷ []) ≡ weight gs + (handler_weight g.job.handler + 2 * g.served)
one_group gs g = let h : weight (gs ++ g ∷ []) ≡ weight gs + weight (g ∷ []) = weight_append gs (g ∷ []) in omega arith

module _ (p : Program) (Good : Running → Type 0) (H : Handles p Good) where
  pub served_more : (j : Job) (r : Running) (s : Said) → r.served ≤ (left j.facts r.answers r.control (handles.goes_in r s.state.cells)).served
  served_more j r s =
      let e : (left j.facts r.answers r.control (handles.goes_in r s.state.cells)).served ≡ r.served + (left j.facts r.answers r.control (handles.goes_in (silenced r) s.state.cells)).served =
      ap (λ (w : World). w.served) (H.left_further j r s.state.cells) in omega arith

  part_falls : (new : List (List ℤ)) (a b : Part) → Goes p Good new a b → Does a b → suc (part_work p b) ≡ part_work p a
  part_falls new a b go d = falls p served_more a b go.settles d.done d.weight d.work

  -- a callback
  back_does : (c : Context) (st : Stage) (r : Running) (is : List Waiting) (s t : Said)
      → weight (t.groups ++ running_group c.job r ∷ []) ≡ weight (s.groups ++ stage_group c.job st ∷ [])
      → suc (served_at r.answers (slots r.control)) ≡ stage_work st
      → Does (part_of (Some (staged c st)) is s) (called_back c r is t)
  back_does c st r is s t w x = of (is_done r.control) refl
    where
      next : Said
      next = closed_with (running_group c.job r) t

      back : (owner_work (handed is next).owner + rows_in (handed is next).waiting ≡ rows_in is) × (weight (part_groups (handed is next)) ≡ weight next.groups)
      back = handed_work p served_more is next

      of : (b : Bool) → is_done r.control ≡ b → Does (part_of (Some (staged c st)) is s) (cond b (handed is next) (part_of (Some (staged c (Begun r))) is t))
      of true h = record {
        done = 0;
        weight = (let e : weight (part_groups (handed is next)) ≡ weight (t.groups ++ running_group c.job r ∷ []) = back.1 in omega arith);
        work = (let e : owner_work (handed is next).owner + rows_in (handed is next).waiting ≡ rows_in is = back.0 in
            let f : served_at r.answers (slots r.control) ≡ 0 = ap (served_at r.answers) (done_slots r.control h) in omega arith);
      }
      of false h = record { done = 0; weight = omega arith; work = omega arith }

  start_at : (c : Context) (st : Stage) (is : List Waiting) (s : Said) → StageUnbegun st → Does (part_of (Some (staged c st)) is s) (start_stage p c st (part_of (Some (staged c st)) is s))
  start_at c Unbegun is s h =
      let r : Running = left_by (begins p c.job) unanswered [] 0 in
      back_does c Unbegun r is s (timed (begins p c.job) s)
      (one_group s.groups (running_group c.job r) ∙ sym (one_group s.groups (unsaid c.job)))
      (ap suc (served_none (slots r.control)))
  start_at c (Begun r) is s h = absurd h

  start_of : (o : Option Context) (is : List Waiting) (s : Said) → OfOwner StageUnbegun o → Does (part_of o is s) (start_owner p o (part_of o is s))
  start_of None is s h = absurd h
  start_of (Some c) is s h = start_at c c.stage is s h

  start_does : (q : Part) → OfOwner StageUnbegun q.owner → Does q (start p q)
  start_does q h = start_of q.owner q.waiting q.said h

  give_at : (c : Context) (r : Running) (slot : ℕ) (o : Option Answer) (is : List Waiting) (s : Said) → Good r → r.answers slot ≡ o → (a : Answer) × (o ≡ Some a)
      → Does (part_of (Some (staged c (Begun r))) is s) (give_answer c r slot o (part_of (Some (staged c (Begun r))) is s))
  give_at c r slot None is s g e h = absurd (none_some h.1)
  give_at c r slot (Some a) is s g e h =
      let next : Running = left_by (gives c.job r slot a) (upd r.answers slot None) r.lines r.served in
      back_does c (Begun r) next is s (timed (gives c.job r slot a) s)
      (one_group s.groups (running_group c.job next) ∙ sym (one_group s.groups (running_group c.job r)))
      (H.give_counts c.job r slot a g e)

  deliver_at : (c : Context) (st : Stage) (slot : ℕ) (is : List Waiting) (s : Said) → StageGood Good st → StageHas slot st
      → Does (part_of (Some (staged c st)) is s) (deliver_stage c slot st (part_of (Some (staged c st)) is s))
  unfolding StageGood
  deliver_at c Unbegun slot is s g h = absurd h
  deliver_at c (Begun r) slot is s g h = give_at c r slot (r.answers slot) is s g refl h

  deliver_of : (slot : ℕ) (o : Option Context) (is : List Waiting) (s : Said) → OwnerGood Good o → OfOwner (StageHas slot) o → Does (part_of o is s) (deliver_owner slot o (part_of o is s))
  unfolding OwnerGood
  deliver_of slot None is s g h = absurd h
  deliver_of slot (Some c) is s g h = deliver_at c c.stage slot is s g h

  deliver_does : (slot : ℕ) (q : Part) → OwnerGood Good q.owner → OfOwner (StageHas slot) q.owner → Does q (deliver slot q)
  deliver_does slot q g h = deliver_of slot q.owner q.waiting q.said g h

  -- a request is served
  serve_with : (c : Context) (r : Running) (slot : ℕ) (o : Option Request) (is : List Waiting) (s : Said) → Good r → r.answers slot ≡ None → request_at r.control slot ≡ o → (q : Request) × (o ≡ Some q)
      → Does (part_of (Some (staged c (Begun r))) is s) (serve_request c r slot o (part_of (Some (staged c (Begun r))) is s))
  serve_with c r slot None is s g e f h = absurd (none_some h.1)
  serve_with c r slot (Some q) is s g e f h =
      let a : Answer = answer_of q s.state.cells in
      let u : served_at (upd r.answers slot (Some a)) (slots r.control) ≡ suc (served_at r.answers (slots r.control)) = H.serve_counts r slot q a g f e in
      let x : weight (s.groups ++ running_group c.job (answered r slot a) ∷ []) ≡ weight s.groups + (handler_weight c.job.handler + 2 * (r.served + 1)) = one_group s.groups (running_group c.job (answered r slot a)) in
      let y : weight (s.groups ++ running_group c.job r ∷ []) ≡ weight s.groups + (handler_weight c.job.handler + 2 * r.served) = one_group s.groups (running_group c.job r) in
      record { done = 2; weight = omega arith; work = omega arith }

  serve_at : (c : Context) (st : Stage) (slot : ℕ) (is : List Waiting) (s : Said) → StageGood Good st → StageAsks slot st
      → Does (part_of (Some (staged c st)) is s) (serve_stage c slot st (part_of (Some (staged c st)) is s))
  unfolding StageGood
  serve_at c Unbegun slot is s g h = absurd h
  serve_at c (Begun r) slot is s g h = serve_with c r slot (request_at r.control slot) is s g h.1 refl h.0

  serve_of : (slot : ℕ) (o : Option Context) (is : List Waiting) (s : Said) → OwnerGood Good o → OfOwner (StageAsks slot) o → Does (part_of o is s) (serve_owner slot o (part_of o is s))
  unfolding OwnerGood
  serve_of slot None is s g h = absurd h
  serve_of slot (Some c) is s g h = serve_at c c.stage slot is s g h

  serve_does : (slot : ℕ) (q : Part) → OwnerGood Good q.owner → OfOwner (StageAsks slot) q.owner → Does q (serve slot q)
  serve_does slot q g h = serve_of slot q.owner q.waiting q.said g h

  -- a timer fires
  fire_due_does : (n e : ℕ) (w : ℤ) (more : ℕ) (is : List Waiting) (times : List ℤ) (s : Said) → is_due w times ≡ true
      → Does (part_of None (Mark e w (suc more) ∷ is) s) (fire_due n e w more is times (part_of None (Mark e w (suc more) ∷ is) s))
  fire_due_does n e w more is [] s h = absurd (true_false h)
  fire_due_does n e w more is (t ∷ ts) s h = of (int_le t w) h
    where
      before : Part
      before = part_of None (Mark e w (suc more) ∷ is) s

      behind : Part
      behind = record {
        owner = Some (new_context n e (firing_job w t));
        waiting = Mark e w more ∷ is;
        said = record { state = without_least s.state; groups = s.groups };
      }

      of : (b : Bool) → b ≡ true → Does before (cond b behind before)
      of true x = record {
        done = 2;
        weight = (let y : weight (s.groups ++ unsaid (firing_job w t) ∷ []) ≡ weight s.groups + 2 = one_group s.groups (unsaid (firing_job w t)) in
            let z : weight (s.groups ++ []) ≡ weight s.groups = ap weight (append-nil s.groups) in omega arith);
        work = omega arith;
      }
      of false x = absurd (true_false x)

  fire_of : (must : Option Key) (k : Key) (n : ℕ) (o : Option Context) (is : List Waiting) (s : Said) → is_idle_with o is ≡ true → IsOrdered must k o is s.state.times
      → Does (part_of o is s) (fire_front n o is (part_of o is s))
  unfolding IsOrdered FrontFires
  fire_of must k n None [] s i h = absurd (true_false i)
  fire_of must k n None (Row j e f ∷ is) s i h = absurd h.0
  fire_of must k n None (Mark e w zero ∷ is) s i h = absurd (true_false h.0)
  fire_of must k n None (Mark e w (suc more) ∷ is) s i h = fire_due_does n e w more is s.state.times s h.0
  fire_of must k n (Some c) is s i h = absurd (true_false i)

  fire_does : (must : Option Key) (k : Key) (n : ℕ) (q : Part) → is_idle q ≡ true → IsOrdered must k q.owner q.waiting q.said.state.times → Does q (fire n q)
  fire_does must k n q i h = fire_of must k n q.owner q.waiting q.said i h

  -- the machine

  goes_falls : (m : Machine) → IsStrictlySortedBy key_cmp m.keys → (k : Key) (must : Option Key) (new : List (List ℤ)) (q : Part) → list_any (bytes_eq k) m.keys ≡ true → Goes p Good new (m.parts k) q → Does (m.parts k) q
      → suc (work p (goes_on k must new q m)) ≡ work p m
  goes_falls m rises k must new q there go d =
      let a : suc (total m.keys (λ j. part_work p (part_at m.parts k q j))) ≡ total m.keys (λ j. part_work p (m.parts j)) =
      one_less k (λ j. part_work p (m.parts j)) (λ j. part_work p (part_at m.parts k q j)) m.keys rises
      (λ j x. ap (part_work p) (cond-false (bytes_eq k j) q (m.parts j) x)) there
      (ap (λ (x : Part). suc (part_work p x)) (cond-true (bytes_eq k k) q (m.parts k) (same_key k)) ∙ part_falls new (m.parts k) q go d) in
      omega arith

  send_falls : (g : ℕ) (m : Machine) (cs : List Closed) → m.unsent ≡ cs → FirstIsFinished cs m → suc (work p (send_first g p cs m)) ≡ work p m
  send_falls g m [] e f = absurd f
  send_falls g m (c ∷ cs) e f = let l : length m.unsent ≡ suc (length cs) = ap length e in omega arith

  event_falls : (g : ℕ) (r : Rules) (m : Machine) → IsOrderly r m → IsStrictlySortedBy key_cmp m.keys → ((k : Key) → OwnerGood Good (m.parts k).owner)
      → (e : Happening) → IsWork e → Allowed r e m → suc (work p (happens g p e m)) ≡ work p m
  event_falls g r m o rises good (Admit n k time values) i h = absurd i
  event_falls g r m o rises good (Close c) i h = absurd i
  event_falls g r m o rises good (Fire n k) i h =
      goes_falls m rises k None [] (fire n (m.parts k)) (idle_present r m o k h.1) (fire_goes p Good H n (m.parts k) (good k)) (fire_does m.must k n (m.parts k) h.1 (o.sound.ordered k))
  event_falls g r m o rises good (Start k) i h =
      goes_falls m rises k (must_fire k (start p (m.parts k))) (start_effects p (m.parts k)).lines (start p (m.parts k)) (present r m o StageUnbegun k h.1) (start_goes p Good H (m.parts k) (good k)) (start_does (m.parts k) h.1)
  event_falls g r m o rises good (Serve k slot) i h =
      goes_falls m rises k m.must [] (serve slot (m.parts k)) (present r m o (StageAsks slot) k h.1) (serve_goes p Good H slot (m.parts k) (good k) h.1) (serve_does slot (m.parts k) (good k) h.1)
  event_falls g r m o rises good (Deliver k slot) i h =
      goes_falls m rises k (must_fire k (deliver slot (m.parts k))) (deliver_effects slot (m.parts k)).lines (deliver slot (m.parts k)) (present r m o (StageHas slot) k h.1) (deliver_goes p Good H slot (m.parts k) (good k)) (deliver_does slot (m.parts k) (good k) h.1)
  event_falls g r m o rises good Send i h = send_falls g m m.unsent refl h.1

  pub work_falls : (g : ℕ) (from : Origin) (fits : IsOrigin p from) (r : Rules) (es : List Happening) → IsRun r g p es (machine_from from) → (e : Happening) → IsWork e → Allowed r e (machine_of g p from es)
      → suc (work p (happens g p e (machine_of g p from es))) ≡ work p (machine_of g p from es)
  work_falls g from fits r es run e i h =
      let a : Alone g p Good H from fits (machine_of g p from es) (taken es) = goes_as_alone g p Good H from fits r es run in
      event_falls g r (machine_of g p from es) (always_orderly g p Good H from fits r es run) (keys_rise g p Good H from fits (machine_of g p from es) (taken es) a) a.good e i h
