-- The work left of a key is that of the same key with nothing said so far.
use Rattle.std.proofs.Common.{◌≡◌, ℕ, zero, suc, ◌+◌, ◌*◌, ℤ, int_le, List, [], ◌∷◌, ◌++◌, Bool, true, false, cond, Option, Some, None, refl, ap, subst, arith}
use Rattle.ax_text.specs.KeyStates.{KeyState}
use Rattle.ax_text.specs.Programs.{Program}
use Rattle.ax_text.specs.Run.{World, state_after}
use Rattle.ax_text.specs.Jobs.{Job, firing_job, job_run, group_of}
use Rattle.ax_text.specs.Controls.{left}
use Rattle.ax_machine.specs.KeySync.{Said, ran, fire_first, key_fires}
use Rattle.ax_machine.specs.Sync.{without_least}
use Rattle.ax_execution.specs.Groups.{on_row, unsaid, weight}
use Rattle.ax_execution.specs.Contexts.{Running, running_group, Stage, Unbegun, Begun, stage_group, Context, Waiting, Row, Mark, Part, owner_groups, part_groups}
use Rattle.ax_execution.specs.Rest.{rest_stage, rest_owner, rest_items, settled, silent_stage, silent, silent_part, owner_work, part_work}
use Rattle.ax_execution.proofs.Handles.{Handles, goes_in, silenced}
use Rattle.ax_execution.proofs.Work.{weight_append}

-- the same state, and so much more said
record Heavier (n : ℕ) (s t : Said) : Type 0 where
  state : s.state ≡ t.state
  weight : weight s.groups ≡ n + weight t.groups

abbrev wordless : Said → Said
wordless s = record { state = s.state; groups = [] }

abbrev stage_served : Stage → ℕ
stage_served Unbegun = 0
stage_served (Begun r) = r.served

abbrev owner_served : Option Context → ℕ
owner_served None = 0
owner_served (Some c) = stage_served c.stage

module _ (p : Program) (Good : Running → Type 0) (H : Handles p Good) where
  ran_heavier : (n : ℕ) (j : Job) (x y : KeyState) (s t : Said) → x ≡ y → Heavier n s t → Heavier n (ran p j x s) (ran p j y t)
  ran_heavier n j x y s t e b = record {
    state = ap (λ (z : KeyState). state_after z (job_run p j z.cells)) e;
    weight = (
        let one : weight (s.groups ++ group_of j (job_run p j x.cells) ∷ []) ≡ weight s.groups + weight (group_of j (job_run p j x.cells) ∷ []) = weight_append s.groups (group_of j (job_run p j x.cells) ∷ []) in
        let two : weight (t.groups ++ group_of j (job_run p j y.cells) ∷ []) ≡ weight t.groups + weight (group_of j (job_run p j y.cells) ∷ []) = weight_append t.groups (group_of j (job_run p j y.cells) ∷ []) in
        let same : weight (group_of j (job_run p j x.cells) ∷ []) ≡ weight (group_of j (job_run p j y.cells) ∷ []) = ap (λ (z : KeyState). weight (group_of j (job_run p j z.cells) ∷ [])) e in
        omega (arith, b.weight));
  }

  first_heavier : (n : ℕ) (w : ℤ) (go : Said → Said) → ((s t : Said) → Heavier n s t → Heavier n (go s) (go t))
      → (times : List ℤ) (s t : Said) → Heavier n s t → Heavier n (fire_first p w go times s) (fire_first p w go times t)
  first_heavier n w go h [] s t b = b
  first_heavier n w go h (u ∷ us) s t b = of (int_le u w)
    where
      of : (x : Bool) → Heavier n (cond x (go (ran p (firing_job w u) (without_least s.state) s)) s) (cond x (go (ran p (firing_job w u) (without_least t.state) t)) t)
      of true = h _ _ (ran_heavier n (firing_job w u) (without_least s.state) (without_least t.state) s t (ap without_least b.state) b)
      of false = b

  fires_heavier : (n : ℕ) (w : ℤ) (more : ℕ) (s t : Said) → Heavier n s t → Heavier n (key_fires p w more s) (key_fires p w more t)
  fires_heavier n w zero s t b = b
  fires_heavier n w (suc more) s t b = subst (λ (times : List ℤ). Heavier n (fire_first p w (key_fires p w more) s.state.times s) (fire_first p w (key_fires p w more) times t))
      (ap (λ (z : KeyState). z.times) b.state) (first_heavier n w (key_fires p w more) (fires_heavier n w more) s.state.times s t b)

  items_heavier : (n : ℕ) (is : List Waiting) (s t : Said) → Heavier n s t → Heavier n (rest_items p is s) (rest_items p is t)
  items_heavier n [] s t b = b
  items_heavier n (Row i e f ∷ is) s t b = items_heavier n is _ _ (ran_heavier n (on_row f) s.state t.state s t b.state b)
  items_heavier n (Mark e w more ∷ is) s t b = items_heavier n is _ _ (fires_heavier n w more s t b)

  stage_heavier : (j : Job) (st : Stage) (s : Said) → Heavier (weight s.groups + 2 * stage_served st) (rest_stage p j st s) (rest_stage p j (silent_stage st) (wordless s))
  stage_heavier j Unbegun s = record {
    state = refl;
    weight = (let one : weight (s.groups ++ group_of j (job_run p j s.state.cells) ∷ []) ≡ weight s.groups + weight (group_of j (job_run p j s.state.cells) ∷ []) = weight_append s.groups (group_of j (job_run p j s.state.cells) ∷ []) in omega arith);
  }
  stage_heavier j (Begun r) s =
      let w : World = left j.facts r.answers r.control (goes_in r s.state.cells) in
      let v : World = left j.facts r.answers r.control (goes_in (silenced r) s.state.cells) in
      record {
        state = ap (state_after s.state) (H.left_further j r s.state.cells);
        weight = (
            let one : weight (s.groups ++ group_of j w ∷ []) ≡ weight s.groups + weight (group_of j w ∷ []) = weight_append s.groups (group_of j w ∷ []) in
            let more : w.served ≡ r.served + v.served = ap (λ (x : World). x.served) (H.left_further j r s.state.cells) in
            omega arith);
      }

  owner_heavier : (o : Option Context) (s : Said) → Heavier (weight s.groups + 2 * owner_served o) (rest_owner p o s) (rest_owner p (silent o) (wordless s))
  owner_heavier None s = record { state = refl; weight = omega arith }
  owner_heavier (Some c) s = stage_heavier c.job c.stage s

  stage_said : (j : Job) (st : Stage) (s : Said) → weight (s.groups ++ stage_group j st ∷ []) ≡ (weight s.groups + 2 * stage_served st) + weight (stage_group j (silent_stage st) ∷ [])
  stage_said j Unbegun s = let one : weight (s.groups ++ unsaid j ∷ []) ≡ weight s.groups + weight (unsaid j ∷ []) = weight_append s.groups (unsaid j ∷ []) in omega arith
  stage_said j (Begun r) s = let one : weight (s.groups ++ running_group j r ∷ []) ≡ weight s.groups + weight (running_group j r ∷ []) = weight_append s.groups (running_group j r ∷ []) in omega arith

  owner_said : (o : Option Context) (s : Said) → weight (s.groups ++ owner_groups o) ≡ (weight s.groups + 2 * owner_served o) + weight (owner_groups (silent o))
  owner_said None s = let one : weight (s.groups ++ []) ≡ weight s.groups + weight [] = weight_append s.groups [] in omega arith
  owner_said (Some c) s = stage_said c.job c.stage s

  same_work : (o : Option Context) → owner_work (silent o) ≡ owner_work o
  same_work None = refl
  same_work (Some c) = of c.stage
    where
      of : (st : Stage) → owner_work (silent (Some (record { number = c.number; epoch = c.epoch; job = c.job; stage = st }))) ≡ owner_work (Some (record { number = c.number; epoch = c.epoch; job = c.job; stage = st }))
      of Unbegun = refl
      of (Begun r) = refl

  pub silent_work : (q : Part) → part_work p q ≡ part_work p (silent_part q)
  silent_work q =
      let all : weight (settled p q).groups ≡ (weight q.said.groups + 2 * owner_served q.owner) + weight (settled p (silent_part q)).groups =
      (items_heavier (weight q.said.groups + 2 * owner_served q.owner) q.waiting (rest_owner p q.owner q.said) (rest_owner p (silent q.owner) (wordless q.said)) (owner_heavier q.owner q.said)).weight in
      let said : weight (part_groups q) ≡ (weight q.said.groups + 2 * owner_served q.owner) + weight (part_groups (silent_part q)) = owner_said q.owner q.said in
      let work : owner_work (silent q.owner) ≡ owner_work q.owner = same_work q.owner in
      omega arith
