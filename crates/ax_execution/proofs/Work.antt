-- The work left of a key falls by one at each of its events.
use Rattle.std.proofs.Common.{◌≡◌, ℕ, zero, suc, ◌+◌, ◌≤◌, ℤ, int_le, List, [], ◌∷◌, ◌++◌, Bool, true, false, cond, Option, Some, None, refl, ap, arith}
use Rattle.ax_text.specs.Programs.{Program}
use Rattle.ax_text.specs.Run.{World}
use Rattle.std.proofs.lemmas.List.{append-nil}
use Rattle.ax_machine.specs.Sync.{without_least}
use Rattle.ax_text.specs.Controls.{left}
use Rattle.ax_text.specs.Jobs.{Job, firing_job, Group, job_run, group_of}
use Rattle.ax_execution.specs.Groups.{on_row, handler_weight, weight, unsaid}
use Rattle.ax_machine.specs.KeySync.{Said, ran, fire_first, key_fires}
use Rattle.ax_execution.specs.Contexts.{Running, Stage, Unbegun, Begun, stage_group, Context, Waiting, Row, Mark, Part, owner_groups, part_groups, rows_in, may_fire}
use Rattle.ax_execution.specs.Rest.{rest_stage, rest_owner, rest_items, settled, owner_work, part_work}
use Rattle.ax_execution.specs.Turns.{handed}

pub weight_append : (xs ys : List Group) → weight (xs ++ ys) ≡ weight xs + weight ys
weight_append [] ys = omega arith
weight_append (g ∷ xs) ys = let h : weight (xs ++ ys) ≡ weight xs + weight ys = weight_append xs ys in omega arith

zero_plus : (n : ℕ) → 0 + n ≡ n
zero_plus n = omega arith

-- the world in which a handler goes on
abbrev goes_in : Running → Said → World
goes_in r s = record { talk = record { names = r.names; lines = r.lines; ops = [] }; cells = s.state.cells; served = r.served }

module _ (p : Program) (left_more : (j : Job) (r : Running) (s : Said) → r.served ≤ (left j.facts r.answers r.control (goes_in r s)).served) where
  ran_more : (j : Job) (s : Said) → weight s.groups + handler_weight j.handler ≤ weight (ran p j s.state s).groups
  ran_more j s = let a : weight (ran p j s.state s).groups ≡ weight s.groups + weight (group_of j (job_run p j s.state.cells) ∷ []) = weight_append s.groups (group_of j (job_run p j s.state.cells) ∷ []) in omega arith

  stage_more : (j : Job) (st : Stage) (s : Said) → weight s.groups + weight (stage_group j st ∷ []) ≤ weight (rest_stage p j st s).groups
  stage_more j Unbegun s = let a : weight s.groups + handler_weight j.handler ≤ weight (ran p j s.state s).groups = ran_more j s in omega arith
  stage_more j (Begun r) s =
      let w : World = left j.facts r.answers r.control (goes_in r s) in
      let a : weight (s.groups ++ group_of j w ∷ []) ≡ weight s.groups + weight (group_of j w ∷ []) = weight_append s.groups (group_of j w ∷ []) in
      let b : r.served ≤ w.served = left_more j r s in omega arith

  first_more : (w : ℤ) (go : Said → Said) → ((s : Said) → weight s.groups ≤ weight (go s).groups) → (times : List ℤ) (s : Said) → weight s.groups ≤ weight (fire_first p w go times s).groups
  first_more w go h [] s = omega arith
  first_more w go h (t ∷ ts) s = of (int_le t w)
    where
      j : Job
      j = firing_job w t

      next : Said
      next = ran p j (without_least s.state) s

      of : (b : Bool) → weight s.groups ≤ weight (cond b (go next) s).groups
      of true = let a : weight next.groups ≡ weight s.groups + weight (group_of j (job_run p j s.state.cells) ∷ []) = weight_append s.groups (group_of j (job_run p j s.state.cells) ∷ []) in
          let b : weight next.groups ≤ weight (go next).groups = h next in omega arith
      of false = omega arith

  fires_more : (w : ℤ) (n : ℕ) (s : Said) → weight s.groups ≤ weight (key_fires p w n s).groups
  fires_more w zero s = omega arith
  fires_more w (suc n) s = first_more w (key_fires p w n) (fires_more w n) s.state.times s

  items_more : (is : List Waiting) (s : Said) → weight s.groups ≤ weight (rest_items p is s).groups
  items_more [] s = omega arith
  items_more (Row n e f ∷ is) s =
      let j : Job = on_row f in
      let a : weight s.groups + handler_weight j.handler ≤ weight (ran p j s.state s).groups = ran_more j s in
      let b : weight (ran p j s.state s).groups ≤ weight (rest_items p is (ran p j s.state s)).groups = items_more is (ran p j s.state s) in omega arith
  items_more (Mark e w more ∷ is) s =
      let a : weight s.groups ≤ weight (key_fires p w more s).groups = fires_more w more s in
      let b : weight (key_fires p w more s).groups ≤ weight (rest_items p is (key_fires p w more s)).groups = items_more is (key_fires p w more s) in omega arith

  owner_more : (o : Option Context) (s : Said) → weight s.groups + weight (owner_groups o) ≤ weight (rest_owner p o s).groups
  owner_more None s = omega arith
  owner_more (Some c) s = stage_more c.job c.stage s

  -- what is left is never less than what was done
  pub settled_more : (part : Part) → weight (part_groups part) ≤ weight (settled p part).groups
  settled_more part =
      let a : weight (part_groups part) ≡ weight part.said.groups + weight (owner_groups part.owner) = weight_append part.said.groups (owner_groups part.owner) in
      let b : weight part.said.groups + weight (owner_groups part.owner) ≤ weight (rest_owner p part.owner part.said).groups = owner_more part.owner part.said in
      let c : weight (rest_owner p part.owner part.said).groups ≤ weight (settled p part).groups = items_more part.waiting (rest_owner p part.owner part.said) in omega arith

  -- an event that keeps what a key comes to, and does this much of it
  pub falls : (a b : Part) → settled p b ≡ settled p a → (done : ℕ) → weight (part_groups b) ≡ weight (part_groups a) + done
      → suc (owner_work b.owner + rows_in b.waiting) ≡ owner_work a.owner + rows_in a.waiting + done → suc (part_work p b) ≡ part_work p a
  falls a b same done w e =
      let s : weight (settled p b).groups ≡ weight (settled p a).groups = ap (λ (x : Said). weight x.groups) same in
      let m : weight (part_groups b) ≤ weight (settled p b).groups = settled_more b in omega arith

  -- a key that is handed over has as many contexts that haven't begun, and has said the same
  pub handed_work : (is : List Waiting) (s : Said) → (owner_work (handed is s).owner + rows_in (handed is s).waiting ≡ rows_in is) × (weight (part_groups (handed is s)) ≡ weight s.groups)
  handed_work [] s = (refl, ap weight (append-nil s.groups))
  handed_work (Row n e f ∷ is) s = (refl, (let a : weight (s.groups ++ unsaid (on_row f) ∷ []) ≡ weight s.groups + 0 = weight_append s.groups _ in omega arith))
  handed_work (Mark e w more ∷ is) s = of (handed_work is s) (may_fire w more s.state.times)
    where
      Is : Part → Type 0
      Is q = (owner_work q.owner + rows_in q.waiting ≡ rows_in is) × (weight (part_groups q) ≡ weight s.groups)

      of : Is (handed is s) → (b : Bool) → Is (cond b (record { owner = None; waiting = Mark e w more ∷ is; said = s }) (handed is s))
      of ih true = (zero_plus (rows_in is), ap weight (append-nil s.groups))
      of ih false = ih
