-- What a key has written and what it owes are the lines that it comes to.
use Rattle.std.proofs.Common.{◌≡◌, ℕ, zero, suc, ℤ, int_le, List, [], ◌∷◌, ◌++◌, Bool, true, false, cond, Option, Some, None, refl, sym, ap, ap₂, ◌∙◌, subst, append_assoc}
use Rattle.std.proofs.lemmas.List.{append-nil}
use Rattle.ax_text.specs.KeyStates.{KeyState}
use Rattle.ax_text.specs.Programs.{Program}
use Rattle.ax_text.specs.Run.{World, state_after}
use Rattle.ax_machine.specs.Sync.{without_least}
use Rattle.ax_text.specs.Controls.{left}
use Rattle.ax_text.specs.Jobs.{Job, firing_job, job_run, group_of, lines_in}
use Rattle.ax_execution.specs.Groups.{on_row, unsaid}
use Rattle.ax_machine.specs.KeySync.{Said, ran, fire_first, key_fires}
use Rattle.ax_execution.specs.Contexts.{Running, running_group, Stage, Unbegun, Begun, stage_group, Context, Waiting, Row, Mark, Part, owner_groups, part_lines}
use Rattle.ax_execution.specs.Rest.{rest_stage, rest_owner, rest_items, settled, silent_stage, silent, owed}
use Rattle.ax_execution.proofs.Handles.{Handles, goes_in, silenced}
use Rattle.ax_execution.proofs.Upto.{said_lines, lines_last}

-- the same state, with these lines in front
record Behind (ls : List (List ℤ)) (s t : Said) : Type 0 where
  state : s.state ≡ t.state
  lines : said_lines s ≡ ls ++ said_lines t

abbrev wordless : Said → Said
wordless s = record { state = s.state; groups = [] }

module _ (p : Program) (Good : Running → Type 0) (H : Handles p Good) where
  ran_behind : (ls : List (List ℤ)) (j : Job) (x y : KeyState) (s t : Said) → x ≡ y → Behind ls s t → Behind ls (ran p j x s) (ran p j y t)
  ran_behind ls j x y s t e b = record {
    state = ap (λ (z : KeyState). state_after z (job_run p j z.cells)) e;
    lines = lines_last s.groups (group_of j (job_run p j x.cells))
        ∙ (ap₂ (λ (l : List (List ℤ)) (z : KeyState). l ++ (job_run p j z.cells).talk.lines) b.lines e
        ∙ (append_assoc ls (said_lines t) (job_run p j y.cells).talk.lines
        ∙ ap (λ (l : List (List ℤ)). ls ++ l) (sym (lines_last t.groups (group_of j (job_run p j y.cells))))));
  }

  first_behind : (ls : List (List ℤ)) (w : ℤ) (go : Said → Said) → ((s t : Said) → Behind ls s t → Behind ls (go s) (go t))
      → (times : List ℤ) (s t : Said) → Behind ls s t → Behind ls (fire_first p w go times s) (fire_first p w go times t)
  first_behind ls w go h [] s t b = b
  first_behind ls w go h (u ∷ us) s t b = of (int_le u w)
    where
      of : (x : Bool) → Behind ls (cond x (go (ran p (firing_job w u) (without_least s.state) s)) s) (cond x (go (ran p (firing_job w u) (without_least t.state) t)) t)
      of true = h _ _ (ran_behind ls (firing_job w u) (without_least s.state) (without_least t.state) s t (ap without_least b.state) b)
      of false = b

  fires_behind : (ls : List (List ℤ)) (w : ℤ) (n : ℕ) (s t : Said) → Behind ls s t → Behind ls (key_fires p w n s) (key_fires p w n t)
  fires_behind ls w zero s t b = b
  fires_behind ls w (suc n) s t b = subst (λ (times : List ℤ). Behind ls (fire_first p w (key_fires p w n) s.state.times s) (fire_first p w (key_fires p w n) times t))
      (ap (λ (z : KeyState). z.times) b.state) (first_behind ls w (key_fires p w n) (fires_behind ls w n) s.state.times s t b)

  items_behind : (ls : List (List ℤ)) (is : List Waiting) (s t : Said) → Behind ls s t → Behind ls (rest_items p is s) (rest_items p is t)
  items_behind ls [] s t b = b
  items_behind ls (Row n e f ∷ is) s t b = items_behind ls is _ _ (ran_behind ls (on_row f) s.state t.state s t b.state b)
  items_behind ls (Mark e w more ∷ is) s t b = items_behind ls is _ _ (fires_behind ls w more s t b)

  stage_behind : (j : Job) (st : Stage) (s : Said) → Behind (lines_in (s.groups ++ stage_group j st ∷ [])) (rest_stage p j st s) (rest_stage p j (silent_stage st) (wordless s))
  stage_behind j Unbegun s =
      let w : World = job_run p j s.state.cells in
      record {
        state = refl;
        lines = lines_last s.groups (group_of j w) ∙ ap₂ (λ (l m : List (List ℤ)). l ++ m) (sym (lines_last s.groups (unsaid j) ∙ append-nil (said_lines s))) (sym (append-nil w.talk.lines));
      }
  stage_behind j (Begun r) s =
      let w : World = left j.facts r.answers r.control (goes_in r s.state.cells) in
      let v : World = left j.facts r.answers r.control (goes_in (silenced r) s.state.cells) in
      record {
        state = ap (state_after s.state) (H.left_further j r s.state.cells);
        lines = lines_last s.groups (group_of j w)
            ∙ (ap (λ (x : World). said_lines s ++ x.talk.lines) (H.left_further j r s.state.cells)
            ∙ (sym (append_assoc (said_lines s) r.lines v.talk.lines)
            ∙ ap₂ (λ (l m : List (List ℤ)). l ++ m) (sym (lines_last s.groups (running_group j r))) (sym (append-nil v.talk.lines))));
      }

  owner_behind : (o : Option Context) (s : Said) → Behind (lines_in (s.groups ++ owner_groups o)) (rest_owner p o s) (rest_owner p (silent o) (wordless s))
  owner_behind None s = record { state = refl; lines = sym (append-nil (lines_in (s.groups ++ [])) ∙ ap lines_in (append-nil s.groups)) }
  owner_behind (Some c) s = stage_behind c.job c.stage s

  pub written_and_owed : (q : Part) → part_lines q ++ owed p q ≡ said_lines (settled p q)
  written_and_owed q = sym (items_behind (part_lines q) q.waiting _ _ (owner_behind q.owner q.said)).lines
