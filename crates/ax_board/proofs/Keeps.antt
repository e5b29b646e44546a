-- Each step keeps the rule.
use Rattle.std.proofs.Common.{◌≡◌, ℕ, zero, suc, ◌+◌, ◌%◌, ◌^◌, ◌<◌, ◌≤◌, ◌≢◌, eqb, Bool, true, false, List, [], ◌∷◌, ◌++◌, map, length, get_or, set, replicate, sym, refl, ap, ◌∙◌, subst, inl, inr, ⊎_elim, arith, length-set, get_or-set_other, get_or-set_same, Option, Some, None}
use Rattle.std.proofs.lemmas.List.{length-replicate, get_or-replicate}
use mathlib.Core.Logic.{dite}
use mathlib.Core.Option.{some, none, some-injective, some-ne-none, Option as Maybe}
use native.Mathlib.Decide.{ℕ_discrete}
use lib.ListN.{get_elem?}
use lib.Seq.{set-get_or}
use prog.Atomic.{either}
use Rattle.atomic_table.specs.Table.{State, Me, step, Act, keeps, takes, gives, Valid, rest, carried_after, stepped, opening, Allows, Splits, Joins}
use Rattle.atomic_table.proofs.Lists.{at_set, set_here, set_else, set_again, at_snoc, at_longer, exchanged}
use Rattle.ax_board.specs.declared.view.View.{View}
use Rattle.ax_board.specs.declared.view.View.TheVariants.{Task, Worker, Spent}
use Rattle.ax_board.specs.declared.view.Note.{Note}
use Rattle.ax_board.specs.declared.view.Note.TheVariants.{Closed, Home, Out}
use Rattle.ax_board.specs.Seats.{held_of, slots_of}
use Rattle.ax_board.specs.Rule.{Notes, Posted, Claimed, Returned, Stands, Ruled}
use Rattle.ax_board.specs.Seats.{notes_of, told_of, one_if}
use Rattle.ax_board.specs.Plays.{looked, heard, stop_told, opened, posted, claimed, given_back, collected}

pub task_same : {J : Type 0} (a b : List (Note J)) (x y : Bool) → Task a x ≡ Task b y → a ≡ b
task_same a b x y e = ap notes_of e

pub told_same : {J : Type 0} (a b : List (Note J)) (x y : Bool) → Task a x ≡ Task b y → x ≡ y
told_same a b x y e = ap told_of e

low : (b : Bool) → one_if b ≤ 1
low true = omega arith
low false = omega arith

abbrev pub is_task : {J : Type 0} → View J → ℕ
is_task (Task notes told) = 1
is_task (Worker held) = 0
is_task Spent = 2

abbrev pub cell_of : {J : Type 0} → Option (ℕ × J) → ℕ
cell_of None = 0
cell_of (Some p) = suc p.0

abbrev pub job_from : {J : Type 0} → J → Option (ℕ × J) → J
job_from d None = d
job_from d (Some p) = p.1

abbrev pub job_in : {J : Type 0} → J → Note J → J
job_in d Closed = d
job_in d Home = d
job_in d (Out j) = j

abbrev pub some_or : {W : Type 0} → W → Option W → W
some_or d None = d
some_or d (Some x) = x

-- the work in a slot that is at home
abbrev pub slot_work : {W : Type 0} → W → Maybe (Maybe (Option W)) → W
slot_work d none = d
slot_work d (some none) = d
slot_work d (some (some x)) = some_or d x

abbrev pub front_or : {W : Type 0} → W → List (ℕ × Option W) → W
front_or d [] = d
front_or d (x ∷ xs) = some_or d x.1

pub at_replicate : {A : Type 0} (n i : ℕ) (a b : A) → get_elem? (replicate n a) i ≡ some b → a ≡ b
at_replicate zero i a b e = absurd (some-ne-none b (sym e))
at_replicate (suc n) zero a b e = some-injective a b e
at_replicate (suc n) (suc i) a b e = at_replicate n i a b e

pub in_replicate : {A : Type 0} (n i : ℕ) (a : A) → i < n → get_elem? (replicate n a) i ≡ some a
in_replicate zero i a h = absurd (omega arith)
in_replicate (suc n) zero a h = refl
in_replicate (suc n) (suc i) a h = in_replicate n i a (omega arith)

pub map_replicate : {A B : Type 0} (f : A → B) (n : ℕ) (a : A) → map f (replicate n a) ≡ replicate n (f a)
map_replicate f zero a = refl
map_replicate f (suc n) a = ap (λ l. f a ∷ l) (map_replicate f n a)

module _ {W J : Type 0} (job : W → J) (was_run : W → Bool) (has_result : W → Type 0) where
  -- a cell whose word, slot and workers stay
  pub frame : (k l : ℕ) (g h : Maybe (Maybe (Option W))) (us vs : List (View J)) (c : ℕ) → l ≡ k → h ≡ g
      → ((seat : ℕ) (j : J) → Notes vs c seat j → Notes us c seat j) → ((seat : ℕ) (j : J) → Notes us c seat j → Notes vs c seat j)
      → (note : Note J) → Stands job was_run has_result k g us c note → Stands job was_run has_result l h vs c note
  frame k l g h us vs c e f back forth Closed t = (e ∙ t.0, f ∙ t.1, λ seat j n. t.2 seat j (back seat j n))
  frame k l g h us vs c e f back forth Home t = (e ∙ t.0, f ∙ t.1, λ seat j n. t.2 seat j (back seat j n))
  frame k l g h us vs c e f back forth (Out job-here) t = ⊎_elim
      (λ p. inl record { word_is = e ∙ p.word_is; work = p.work; in_slot = f ∙ p.in_slot; fresh = p.fresh; same = p.same; nobody = λ seat j n. p.nobody seat j (back seat j n) })
      (λ q. ⊎_elim
      (λ p. inr (inl record { word_is = e ∙ p.word_is; is_out = f ∙ p.is_out; one = record { seat = p.one.seat; notes = forth p.one.seat job-here p.one.notes; alone = λ other j n. p.one.alone other j (back other j n) } }))
      (λ p. inr (inr record { word_is = e ∙ p.word_is; work = p.work; in_slot = f ∙ p.in_slot; ran = p.ran; same = p.same; result = p.result; nobody = λ seat j n. p.nobody seat j (back seat j n) }))
      q)
      t

  -- a step on the cell c by the seat id, which goes from v to w
  unfoldable pub remade : (n : ℕ) (s : State (Option W) (View J)) (r : Ruled job was_run has_result n s) (c k id : ℕ) (hs : List (Maybe (Option W))) (v w : View J) (notes : List (Note J))
      → c < n → get_elem? s.views id ≡ some v
      → get_elem? (set s.views id w) r.seat ≡ some (Task notes r.told)
      → ((ns : List (Note J)) (b : Bool) → w ≡ Task ns b → id ≡ r.seat)
      → length notes ≡ n → length hs ≡ length s.homes
      → ((d : ℕ) → d ≢ c → get_elem? notes d ≡ get_elem? r.notes d)
      → ((d : ℕ) → d ≢ c → get_elem? hs d ≡ get_elem? s.homes d)
      → ((d : ℕ) (j : J) → d ≢ c → v ≡ Worker (Some (d, j)) → ⊥)
      → ((d : ℕ) (j : J) → d ≢ c → w ≡ Worker (Some (d, j)) → ⊥)
      → (note : Note J) → get_elem? notes c ≡ some note → Stands job was_run has_result k (get_elem? hs c) (set s.views id w) c note
      → Ruled job was_run has_result n record { words = set s.words c k; homes = hs; views = set s.views id w }
  remade n s r c k id hs v w notes below me task no_task all deep notes_else homes_else old_else new_else the_note the_note_at here = record {
    wide = length-set s.words c k ∙ r.wide;
    deep = deep ∙ r.deep;
    seat = r.seat;
    notes = notes;
    told = r.told;
    stop = get_or-set_other s.words c n k 0 (λ (e : n ≡ c). absurd (omega arith)) ∙ r.stop;
    task = task;
    one_task = λ other ns b e. ⊎_elim (λ t. t.0 ∙ no_task ns b t.1) (λ t. r.one_task other ns b t.1) (at_set s.views id other w (Task ns b) e);
    all = all;
    cells = λ d note e. dite (ℕ_discrete d c)
        (λ (is : d ≡ c).
        let long : c < length s.words = let z = r.wide in omega arith in
        let now : get_or (set s.words c k) d 0 ≡ k = ap (λ x. get_or (set s.words c k) x 0) is ∙ get_or-set_same s.words c k 0 long in
        let same : the_note ≡ note = some-injective the_note note (sym the_note_at ∙ (ap (λ x. get_elem? notes x) (sym is) ∙ e)) in
        subst (λ (x : ℕ). Stands job was_run has_result (get_or (set s.words c k) d 0) (get_elem? hs x) (set s.views id w) x note) (sym is)
        (subst (λ (x : ℕ). Stands job was_run has_result x (get_elem? hs c) (set s.views id w) c note) (sym now)
        (subst (λ (x : Note J). Stands job was_run has_result k (get_elem? hs c) (set s.views id w) c x) same here)))
        (λ (ne : d ≢ c). frame (get_or s.words d 0) (get_or (set s.words c k) d 0) (get_elem? s.homes d) (get_elem? hs d) s.views (set s.views id w) d
        (get_or-set_other s.words c d k 0 ne) (homes_else d ne)
        (λ seat j m. ⊎_elim (λ t. absurd (new_else d j ne t.1)) (λ t. t.1) (at_set s.views id seat w (Worker (Some (d, j))) m))
        (λ seat j m. dite (ℕ_discrete seat id)
        (λ (is : seat ≡ id). absurd (old_else d j ne (some-injective _ _ (sym me ∙ (ap (λ i. get_elem? s.views i) (sym is) ∙ m)))))
        (λ (no : seat ≢ id). set_else s.views id seat w no ∙ m))
        note (r.cells d note (sym (notes_else d ne) ∙ e)));
  }

  -- a step that changes nothing
  pub still : (n i id : ℕ) (m : Me (Option W) (View J)) (s : State (Option W) (View J)) → Ruled job was_run has_result n s → get_elem? s.views id ≡ some m.0
      → Ruled job was_run has_result n (stepped s i (get_or s.words i 0) id m.1 m.0 keeps)
  still n i id m s r me =
      subst (λ (ws : List ℕ). Ruled job was_run has_result n record { words = ws; homes = s.homes; views = set s.views id m.0 }) (sym (set-get_or s.words i 0))
      (subst (λ (vs : List (View J)). Ruled job was_run has_result n record { words = s.words; homes = s.homes; views = vs }) (sym (set_again s.views id m.0 me)) r)

  pub looks : (n slots id i : ℕ) (m : Me (Option W) (View J)) → Allows (Ruled job was_run has_result n) slots id m i (λ x. x) (looked (step slots i 0 0 none) m)
  looks n slots id i m s r wide me _ = (m.0, keeps, tt, still n i id m s r me, refl)

  pub hears : (n slots id : ℕ) (m : Me (Option W) (View J)) → Allows (Ruled job was_run has_result n) slots id m n (λ x. x) (heard (step slots n 0 0 none) m)
  hears n slots id m s r wide me _ = (m.0, keeps, tt, still n n id m s r me, (refl, subst (λ (x : ℕ). x ≤ 1) (sym r.stop) (low r.told)))

  -- a note is there
  pub noted : (notes : List (Note J)) (c : ℕ) → c < length notes → (note : Note J) × (get_elem? notes c ≡ some note)
  noted [] c h = absurd (omega arith)
  noted (x ∷ xs) zero h = (x, refl)
  noted (x ∷ xs) (suc c) h = noted xs c (omega arith)

  pub within_notes : (notes : List (Note J)) (c : ℕ) (note : Note J) → get_elem? notes c ≡ some note → c < length notes
  within_notes [] c note e = absurd (some-ne-none note (sym e))
  within_notes (x ∷ xs) zero note e = omega arith
  within_notes (x ∷ xs) (suc c) note e = let h = within_notes xs c note e in omega arith

  pub one_view : (v : View J) (seat : ℕ) (w : View J) → get_elem? (v ∷ []) seat ≡ some w → (seat ≡ 0) × (v ≡ w)
  one_view v zero w e = (refl, some-injective v w e)
  one_view v (suc seat) w e = absurd (some-ne-none w (sym e))

  -- a seat with no such view is not the task's
  pub not_task : (n : ℕ) (s : State (Option W) (View J)) (r : Ruled job was_run has_result n s) (id : ℕ) (v w : View J) → get_elem? s.views id ≡ some v → (is_task v ≢ 1)
      → get_elem? (set s.views id w) r.seat ≡ some (Task r.notes r.told)
  not_task n s r id v w me other = set_else s.views id r.seat w (λ (e : r.seat ≡ id). other (ap is_task (some-injective v (Task r.notes r.told) (sym me ∙ (ap (λ i. get_elem? s.views i) (sym e) ∙ r.task))))) ∙ r.task

  pub posted_at : (k : ℕ) (h : Maybe (Maybe (Option W))) (vs : List (View J)) (c : ℕ) (note : Note J) → k ≡ 1 → Stands job was_run has_result k h vs c note
      → (j : J) × (note ≡ Out j) × Posted job was_run has_result k h vs c j
  posted_at k h vs c Closed e t = absurd (let z = t.0 in omega arith)
  posted_at k h vs c Home e t = absurd (let z = t.0 in omega arith)
  posted_at k h vs c (Out j) e t = ⊎_elim (λ p. (j, refl, p)) (λ q. ⊎_elim (λ p. absurd (let z = p.word_is in omega arith)) (λ p. absurd (let z = p.word_is in omega arith)) q) t

  pub returned_at : (k : ℕ) (h : Maybe (Maybe (Option W))) (vs : List (View J)) (c : ℕ) (note : Note J) → k ≡ 3 → Stands job was_run has_result k h vs c note
      → (j : J) × (note ≡ Out j) × Returned job was_run has_result k h vs c j
  returned_at k h vs c Closed e t = absurd (let z = t.0 in omega arith)
  returned_at k h vs c Home e t = absurd (let z = t.0 in omega arith)
  returned_at k h vs c (Out j) e t = ⊎_elim (λ p. absurd (let z = p.word_is in omega arith)) (λ q. ⊎_elim (λ p. absurd (let z = p.word_is in omega arith)) (λ p. (j, refl, p)) q) t

  -- a cell that a worker notes is claimed
  pub claimed_at : (k : ℕ) (h : Maybe (Maybe (Option W))) (vs : List (View J)) (c : ℕ) (note : Note J) (seat : ℕ) (i : J) → Notes vs c seat i → Stands job was_run has_result k h vs c note
      → (j : J) × (note ≡ Out j) × Claimed job was_run has_result k h vs c j
  claimed_at k h vs c Closed seat i m t = absurd (t.2 seat i m)
  claimed_at k h vs c Home seat i m t = absurd (t.2 seat i m)
  claimed_at k h vs c (Out j) seat i m t = ⊎_elim (λ p. absurd (p.nobody seat i m)) (λ q. ⊎_elim (λ p. (j, refl, p)) (λ p. absurd (p.nobody seat i m)) q) t

  pub within : (vs : List (View J)) (id : ℕ) (v : View J) → get_elem? vs id ≡ some v → id < length vs
  within [] id v e = absurd (some-ne-none v (sym e))
  within (x ∷ xs) zero v e = omega arith
  within (x ∷ xs) (suc id) v e = let h = within xs id v e in omega arith

  pub worker_cell : (c d : ℕ) (i j : J) → Worker (Some (c, i)) ≡ Worker (Some (d, j)) → c ≡ d
  worker_cell c d i j e = let z : suc c ≡ suc d = ap (λ (v : View J). cell_of (held_of v)) e in omega arith

  unfoldable pub claim_keeps : (n id c : ℕ) (s : State (Option W) (View J)) (work : W) → Ruled job was_run has_result n s → c < n → get_elem? s.views id ≡ some (Worker None)
      → get_or s.words c 0 ≡ 1 → get_elem? s.homes c ≡ some (some (Some work))
      → Ruled job was_run has_result n record { words = set s.words c 2; homes = set s.homes c none; views = set s.views id (Worker (Some (c, job work))) }
  claim_keeps n id c s work r below me word slot =
      let at = noted r.notes c (omega (arith, r.all)) in
      let p = posted_at (get_or s.words c 0) (get_elem? s.homes c) s.views c at.0 word (r.cells c at.0 at.1) in
      let job_is : job work ≡ p.0 = ap (λ h. job (slot_work work h)) (sym slot ∙ p.2.in_slot) ∙ p.2.same in
      let w : View J = Worker (Some (c, job work)) in
      remade n s r c 2 id (set s.homes c none) (Worker None) w r.notes below me
      (not_task n s r id (Worker None) w me (λ (e : 0 ≡ 1). omega arith))
      (λ ns b (e : w ≡ Task ns b). absurd (let z : 0 ≡ 1 = ap is_task e in omega arith))
      r.all (length-set s.homes c none) (λ d ne. refl) (λ d ne. set_else s.homes c d none ne)
      (λ d j ne e. let z : 0 ≡ suc d = ap (λ (v : View J). cell_of (held_of v)) e in omega arith)
      (λ d j ne e. ne (sym (worker_cell c d (job work) j e)))
      at.0 at.1
      (subst (λ (x : Note J). Stands job was_run has_result 2 (get_elem? (set s.homes c none) c) (set s.views id w) c x) (sym p.1)
      (inr (inl record {
        word_is = refl;
        is_out = set_here s.homes c none (omega (arith, r.deep));
        one = record {
          seat = id;
          notes = set_here s.views id w (within s.views id (Worker None) me) ∙ ap (λ (j : J). some (Worker (Some (c, j)))) job_is;
          alone = λ other j m. ⊎_elim (λ t. t.0) (λ t. absurd (p.2.nobody other j t.1)) (at_set s.views id other w (Worker (Some (c, j))) m);
        };
      })))

  pub claim_tells : (n c : ℕ) (s : State (Option W) (View J)) (work : W) (r : Ruled job was_run has_result n s) → c < n → get_or s.words c 0 ≡ 1 → get_elem? s.homes c ≡ some (some (Some work))
      → get_elem? r.notes c ≡ some (Out (job work))
  claim_tells n c s work r below word slot =
      let at = noted r.notes c (omega (arith, r.all)) in
      let p = posted_at (get_or s.words c 0) (get_elem? s.homes c) s.views c at.0 word (r.cells c at.0 at.1) in
      at.1 ∙ (ap (λ (x : Note J). some x) p.1 ∙ ap (λ (j : J). some (Out j)) (sym (ap (λ h. job (slot_work work h)) (sym slot ∙ p.2.in_slot) ∙ p.2.same)))

  pub claims : (n slots id c : ℕ) → c < n
      → Allows (Ruled job was_run has_result n) slots id (Worker None, []) c (λ x. either (eqb x 1) 2 x) (claimed job was_run (step slots c 1 2 none) (Worker None, []))
  claims n slots id c below s r deep me _ =
      let at = noted r.notes c (omega (arith, r.all)) in
      let old = r.cells c at.0 at.1 in
      exchanged (get_or s.words c 0) 1 2
      (λ k. (w : View J) × (a : Act (Option W)) × Valid s.homes [] a × Ruled job was_run has_result n (stepped s c k id [] w a) × claimed job was_run (step slots c 1 2 none) (Worker None, []) (get_or s.words c 0) (w, carried_after [] a))
      (λ e. let p = posted_at (get_or s.words c 0) (get_elem? s.homes c) s.views c at.0 e old in (
        Worker (Some (c, job p.2.work)),
        takes c (Some p.2.work),
        p.2.in_slot,
        claim_keeps n id c s p.2.work r below me e p.2.in_slot,
        ((λ _. (p.2.work, refl, p.2.fresh)), (λ ne. absurd (ne e))),
      ))
      (λ ne. (Worker None, keeps, tt, still n c id (Worker None, []) s r me, ((λ e. absurd (ne e)), (λ _. refl))))

  -- Worker, holding the cell c with the job j and the slot of c
  abbrev holding : ℕ → J → Option W → Me (Option W) (View J)
  holding c j x = (Worker (Some (c, j)), (c, x) ∷ [])

  unfoldable pub give_keeps : (n id c : ℕ) (j : J) (s : State (Option W) (View J)) (work : W) → Ruled job was_run has_result n s → c < n → get_elem? s.views id ≡ some (Worker (Some (c, j)))
      → was_run work ≡ true → job work ≡ j → has_result work
      → Ruled job was_run has_result n record { words = set s.words c 3; homes = set s.homes c (some (Some work)); views = set s.views id (Worker None) }
  give_keeps n id c j s work r below me ran same result =
      let at = noted r.notes c (omega (arith, r.all)) in
      let p = claimed_at (get_or s.words c 0) (get_elem? s.homes c) s.views c at.0 id j me (r.cells c at.0 at.1) in
      let mine : id ≡ p.2.one.seat = p.2.one.alone id j me in
      let job_is : j ≡ p.0 = ap (λ (v : View J). job_from j (held_of v)) (some-injective (Worker (Some (c, j))) (Worker (Some (c, p.0))) (sym me ∙ (ap (λ i. get_elem? s.views i) mine ∙ p.2.one.notes))) in
      remade n s r c 3 id (set s.homes c (some (Some work))) (Worker (Some (c, j))) (Worker None) r.notes below me
      (not_task n s r id (Worker (Some (c, j))) (Worker None) me (λ (e : 0 ≡ 1). omega arith))
      (λ ns b (e : Worker None ≡ Task ns b). absurd (let z : 0 ≡ 1 = ap is_task e in omega arith))
      r.all (length-set s.homes c (some (Some work))) (λ d ne. refl) (λ d ne. set_else s.homes c d (some (Some work)) ne)
      (λ d i ne e. ne (sym (worker_cell c d j i e)))
      (λ d i ne e. let z : 0 ≡ suc d = ap (λ (v : View J). cell_of (held_of v)) e in omega arith)
      at.0 at.1
      (subst (λ (x : Note J). Stands job was_run has_result 3 (get_elem? (set s.homes c (some (Some work))) c) (set s.views id (Worker None)) c x) (sym p.1)
      (inr (inr record {
        word_is = refl;
        work = work;
        in_slot = set_here s.homes c (some (Some work)) (omega (arith, r.deep));
        ran = ran;
        same = same ∙ job_is;
        result = result;
        nobody = λ other i m. ⊎_elim
            (λ t. let z : 0 ≡ suc c = ap (λ (v : View J). cell_of (held_of v)) t.1 in absurd (omega arith))
            (λ t. t.0 (p.2.one.alone other i t.1 ∙ sym mine))
            (at_set s.views id other (Worker None) (Worker (Some (c, i))) m);
      })))

  pub give_tells : (n id c : ℕ) (j : J) (s : State (Option W) (View J)) (r : Ruled job was_run has_result n s) → c < n → get_elem? s.views id ≡ some (Worker (Some (c, j)))
      → get_elem? r.notes c ≡ some (Out j)
  give_tells n id c j s r below me =
      let at = noted r.notes c (omega (arith, r.all)) in
      let p = claimed_at (get_or s.words c 0) (get_elem? s.homes c) s.views c at.0 id j me (r.cells c at.0 at.1) in
      let mine : id ≡ p.2.one.seat = p.2.one.alone id j me in
      let job_is : j ≡ p.0 = ap (λ (v : View J). job_from j (held_of v)) (some-injective (Worker (Some (c, j))) (Worker (Some (c, p.0))) (sym me ∙ (ap (λ i. get_elem? s.views i) mine ∙ p.2.one.notes))) in
      at.1 ∙ (ap (λ (x : Note J). some x) p.1 ∙ ap (λ (j : J). some (Out j)) (sym job_is))

  pub gives_back : (n slots id c : ℕ) (j : J) (work : W) → c < n → was_run work ≡ true → job work ≡ j → has_result work
      → Allows (Ruled job was_run has_result n) slots id (holding c j (Some work)) c (λ _. 3) (λ r. given_back (step slots c 3 0 none) (holding c j (Some work)) 3)
  gives_back n slots id c j work below ran same result s r deep me _ =
      (Worker None, gives, tt, give_keeps n id c j s work r below me ran same result, refl)

  -- what the task's view says is what the rule says
  pub view_same : (n id : ℕ) (s : State (Option W) (View J)) (notes : List (Note J)) (told : Bool) (r : Ruled job was_run has_result n s) → get_elem? s.views id ≡ some (Task notes told) → Task notes told ≡ Task r.notes r.told
  view_same n id s notes told r me = some-injective (Task notes told) (Task r.notes r.told) (sym me ∙ (ap (λ i. get_elem? s.views i) (r.one_task id notes told me) ∙ r.task))

  pub notes_same : (n id : ℕ) (s : State (Option W) (View J)) (notes : List (Note J)) (told : Bool) (r : Ruled job was_run has_result n s) → get_elem? s.views id ≡ some (Task notes told) → notes ≡ r.notes
  notes_same n id s notes told r me = task_same notes r.notes told r.told (view_same n id s notes told r me)

  -- what stands at a cell whose word is 3
  pub collect_tells : (n id c : ℕ) (s : State (Option W) (View J)) (notes : List (Note J)) (told : Bool) (work : W) → Ruled job was_run has_result n s → c < n → get_elem? s.views id ≡ some (Task notes told)
      → get_or s.words c 0 ≡ 3 → get_elem? s.homes c ≡ some (some (Some work))
      → (get_elem? notes c ≡ some (Out (job work))) × (was_run work ≡ true) × has_result work
  collect_tells n id c s notes told work r below me word slot =
      let at = noted r.notes c (omega (arith, r.all)) in
      let p = returned_at (get_or s.words c 0) (get_elem? s.homes c) s.views c at.0 word (r.cells c at.0 at.1) in
      let work_is : p.2.work ≡ work = ap (slot_work work) (sym p.2.in_slot ∙ slot) in
      let noted_is : get_elem? notes c ≡ some (Out (job p.2.work)) = ap (λ (l : List (Note J)). get_elem? l c) (notes_same n id s notes told r me) ∙ (at.1 ∙ (ap (λ (x : Note J). some x) p.1 ∙ ap (λ (j : J). some (Out j)) (sym p.2.same))) in
      subst (λ (w : W). (get_elem? notes c ≡ some (Out (job w))) × (was_run w ≡ true) × has_result w) work_is (noted_is, p.2.ran, p.2.result)

  unfoldable pub collect_keeps : (n id c : ℕ) (s : State (Option W) (View J)) (notes : List (Note J)) (told : Bool) → Ruled job was_run has_result n s → c < n → get_elem? s.views id ≡ some (Task notes told) → get_or s.words c 0 ≡ 3
      → Ruled job was_run has_result n record { words = set s.words c 0; homes = set s.homes c none; views = set s.views id (Task (set notes c Home) told) }
  collect_keeps n id c s notes told r below me word =
      let mine : id ≡ r.seat = r.one_task id notes told me in
      let same : notes ≡ r.notes = notes_same n id s notes told r me in
      let at = noted r.notes c (omega (arith, r.all)) in
      let p = returned_at (get_or s.words c 0) (get_elem? s.homes c) s.views c at.0 word (r.cells c at.0 at.1) in
      let w : View J = Task (set notes c Home) told in
      let long : c < length notes = omega (arith, r.all, ap length same) in
      remade n s r c 0 id (set s.homes c none) (Task notes told) w (set notes c Home) below me
      (ap (λ i. get_elem? (set s.views id w) i) (sym mine) ∙ (set_here s.views id w (within s.views id (Task notes told) me) ∙ ap (λ (b : Bool). some (Task (set notes c Home) b)) (told_same notes r.notes told r.told (view_same n id s notes told r me))))
      (λ ns b e. mine)
      (length-set notes c Home ∙ (ap length same ∙ r.all)) (length-set s.homes c none)
      (λ d ne. set_else notes c d Home ne ∙ ap (λ (l : List (Note J)). get_elem? l d) same) (λ d ne. set_else s.homes c d none ne)
      (λ d j ne e. let z : 0 ≡ suc d = ap (λ (v : View J). cell_of (held_of v)) e in omega arith)
      (λ d j ne e. let z : 0 ≡ suc d = ap (λ (v : View J). cell_of (held_of v)) e in omega arith)
      Home (set_here notes c Home long) (
        refl,
        set_here s.homes c none (omega (arith, r.deep)),
        (λ other j m. ⊎_elim
            (λ t. let z : 0 ≡ suc c = ap (λ (v : View J). cell_of (held_of v)) t.1 in absurd (omega arith))
            (λ t. p.2.nobody other j t.1)
            (at_set s.views id other w (Worker (Some (c, j))) m)),
      )

  pub collects : (n slots id c : ℕ) (notes : List (Note J)) (told : Bool) (held : List (ℕ × Option W)) → c < n
      → Allows (Ruled job was_run has_result n) slots id (Task notes told, held) c (λ x. either (eqb x 3) 0 x) (collected job was_run has_result (step slots c 3 0 none) (Task notes told, held))
  collects n slots id c notes told held below s r deep me _ =
      let at = noted r.notes c (omega (arith, r.all)) in
      exchanged (get_or s.words c 0) 3 0
      (λ k. (w : View J) × (a : Act (Option W)) × Valid s.homes held a × Ruled job was_run has_result n (stepped s c k id held w a) × collected job was_run has_result (step slots c 3 0 none) (Task notes told, held) (get_or s.words c 0) (w, carried_after held a))
      (λ e. let p = returned_at (get_or s.words c 0) (get_elem? s.homes c) s.views c at.0 e (r.cells c at.0 at.1) in
      let tells = collect_tells n id c s notes told p.2.work r below me e p.2.in_slot in (
        Task (set notes c Home) told,
        takes c (Some p.2.work),
        p.2.in_slot,
        collect_keeps n id c s notes told r below me e,
        ((λ _. (p.2.work, refl, tells.1, tells.2, tells.0)), (λ ne. absurd (ne e))),
      ))
      (λ ne. (Task notes told, keeps, tt, still n c id (Task notes told, held) s r me, ((λ e. absurd (ne e)), (λ _. refl))))

  unfoldable pub post_keeps : (n id c : ℕ) (s : State (Option W) (View J)) (notes : List (Note J)) (told : Bool) (work : W) → Ruled job was_run has_result n s → c < n → get_elem? s.views id ≡ some (Task notes told)
      → was_run work ≡ false → get_elem? notes c ≡ some Home
      → Ruled job was_run has_result n record { words = set s.words c 1; homes = set s.homes c (some (Some work)); views = set s.views id (Task (set notes c (Out (job work))) told) }
  post_keeps n id c s notes told work r below me fresh home =
      let mine : id ≡ r.seat = r.one_task id notes told me in
      let same : notes ≡ r.notes = notes_same n id s notes told r me in
      let old = r.cells c Home (sym (ap (λ (l : List (Note J)). get_elem? l c) same) ∙ home) in
      let notes' : List (Note J) = set notes c (Out (job work)) in
      let w : View J = Task notes' told in
      let long : c < length notes = omega (arith, r.all, ap length same) in
      remade n s r c 1 id (set s.homes c (some (Some work))) (Task notes told) w notes' below me
      (ap (λ i. get_elem? (set s.views id w) i) (sym mine) ∙ (set_here s.views id w (within s.views id (Task notes told) me) ∙ ap (λ (b : Bool). some (Task notes' b)) (told_same notes r.notes told r.told (view_same n id s notes told r me))))
      (λ ns b e. mine)
      (length-set notes c (Out (job work)) ∙ (ap length same ∙ r.all)) (length-set s.homes c (some (Some work)))
      (λ d ne. set_else notes c d (Out (job work)) ne ∙ ap (λ (l : List (Note J)). get_elem? l d) same) (λ d ne. set_else s.homes c d (some (Some work)) ne)
      (λ d j ne e. let z : 0 ≡ suc d = ap (λ (v : View J). cell_of (held_of v)) e in omega arith)
      (λ d j ne e. let z : 0 ≡ suc d = ap (λ (v : View J). cell_of (held_of v)) e in omega arith)
      (Out (job work)) (set_here notes c (Out (job work)) long)
      (inl record {
        word_is = refl;
        work = work;
        in_slot = set_here s.homes c (some (Some work)) (omega (arith, r.deep));
        fresh = fresh;
        same = refl;
        nobody = λ other j m. ⊎_elim
            (λ t. let z : 0 ≡ suc c = ap (λ (v : View J). cell_of (held_of v)) t.1 in absurd (omega arith))
            (λ t. old.2 other j t.1)
            (at_set s.views id other w (Worker (Some (c, j))) m);
      })

  pub posts : (n slots id c : ℕ) (notes : List (Note J)) (told : Bool) (work : W) (held : List (ℕ × Option W)) → c < n → was_run work ≡ false → get_elem? notes c ≡ some Home
      → Allows (Ruled job was_run has_result n) slots id (Task notes told, (c, Some work) ∷ held) c (λ _. 1) (λ r. posted job (step slots c 1 0 none) (Task notes told, (c, Some work) ∷ held) 1)
  posts n slots id c notes told work held below fresh home s r deep me _ = (
    Task (set notes c (Out (job work))) told,
    gives,
    tt,
    post_keeps n id c s notes told work r below me fresh home,
    (λ x e. ap (λ (y : W). (Task (set notes c (Out (job y))) told, held)) (ap (front_or work) e)),
  )

  unfoldable pub open_keeps : (n id c : ℕ) (s : State (Option W) (View J)) (notes : List (Note J)) (told : Bool) → Ruled job was_run has_result n s → c < n → get_elem? s.views id ≡ some (Task notes told) → get_elem? notes c ≡ some Closed
      → Ruled job was_run has_result n record { words = set s.words c (get_or s.words c 0); homes = set s.homes c none; views = set s.views id (Task (set notes c Home) told) }
  open_keeps n id c s notes told r below me closed =
      let mine : id ≡ r.seat = r.one_task id notes told me in
      let same : notes ≡ r.notes = notes_same n id s notes told r me in
      let old = r.cells c Closed (sym (ap (λ (l : List (Note J)). get_elem? l c) same) ∙ closed) in
      let notes' : List (Note J) = set notes c Home in
      let w : View J = Task notes' told in
      let long : c < length notes = omega (arith, r.all, ap length same) in
      remade n s r c (get_or s.words c 0) id (set s.homes c none) (Task notes told) w notes' below me
      (ap (λ i. get_elem? (set s.views id w) i) (sym mine) ∙ (set_here s.views id w (within s.views id (Task notes told) me) ∙ ap (λ (b : Bool). some (Task notes' b)) (told_same notes r.notes told r.told (view_same n id s notes told r me))))
      (λ ns b e. mine)
      (length-set notes c Home ∙ (ap length same ∙ r.all)) (length-set s.homes c none)
      (λ d ne. set_else notes c d Home ne ∙ ap (λ (l : List (Note J)). get_elem? l d) same) (λ d ne. set_else s.homes c d none ne)
      (λ d j ne e. let z : 0 ≡ suc d = ap (λ (v : View J). cell_of (held_of v)) e in omega arith)
      (λ d j ne e. let z : 0 ≡ suc d = ap (λ (v : View J). cell_of (held_of v)) e in omega arith)
      Home (set_here notes c Home long) (
        old.0,
        set_here s.homes c none (omega (arith, r.deep)),
        (λ other j m. ⊎_elim
            (λ t. let z : 0 ≡ suc c = ap (λ (v : View J). cell_of (held_of v)) t.1 in absurd (omega arith))
            (λ t. old.2 other j t.1)
            (at_set s.views id other w (Worker (Some (c, j))) m)),
      )

  pub opens : (n slots id c : ℕ) (notes : List (Note J)) (told : Bool) (held : List (ℕ × Option W)) → c < n → get_elem? notes c ≡ some Closed
      → Allows (Ruled job was_run has_result n) slots id (Task notes told, held) c (λ x. x) (opened (step slots c 0 0 none) (Task notes told, held))
  opens n slots id c notes told held below closed s r deep me _ =
      let same : notes ≡ r.notes = notes_same n id s notes told r me in
      let old = r.cells c Closed (sym (ap (λ (l : List (Note J)). get_elem? l c) same) ∙ closed) in
      (Task (set notes c Home) told, takes c None, old.1, open_keeps n id c s notes told r below me closed, refl)

  unfoldable pub starts : (n : ℕ) (words : List ℕ) → words ≡ replicate (n + 3) 0
      → Ruled job was_run has_result n (opening words (replicate n None) (Task (replicate n Closed) false))
  starts n words zeros =
      let each : (c : ℕ) → c < n + 3 → get_or words c 0 ≡ 0 = λ c h. ap (λ (l : List ℕ). get_or l c 0) zeros ∙ get_or-replicate (n + 3) c 0 0 h in
      let only : (seat : ℕ) (v : View J) → get_elem? (Task (replicate n Closed) false ∷ []) seat ≡ some v → (seat ≡ 0) × (Task (replicate n Closed) false ≡ v) = one_view (Task (replicate n Closed) false) in
      record {
        wide = ap length zeros ∙ length-replicate (n + 3) 0;
        deep = ap length (map_replicate some n None) ∙ length-replicate n (some None);
        seat = 0;
        notes = replicate n Closed;
        told = false;
        stop = each n (omega arith);
        task = refl;
        one_task = λ other ns b e. (only other (Task ns b) e).0;
        all = length-replicate n Closed;
        cells = λ c note e.
            let below : c < n = subst (λ (k : ℕ). c < k) (length-replicate n Closed) (within_notes (replicate n Closed) c note e) in
            subst (Stands job was_run has_result (get_or words c 0) (get_elem? (map some (replicate n None)) c) (Task (replicate n Closed) false ∷ []) c) (at_replicate n c Closed note e) (
              each c (omega arith),
              ap (λ (l : List (Maybe (Option W))). get_elem? l c) (map_replicate some n None) ∙ in_replicate n c (some None) below,
              (λ seat j m. let z : 1 ≡ 0 = ap is_task (only seat (Worker (Some (c, j))) m).1 in absurd (omega arith)),
            );
      }

  -- another number in a bell
  unfoldable pub signal_keeps : (n i x : ℕ) (s : State (Option W) (View J)) → Ruled job was_run has_result n s → n < i
      → Ruled job was_run has_result n record { words = set s.words i x; homes = s.homes; views = s.views }
  signal_keeps n i x s r past = record {
    wide = length-set s.words i x ∙ r.wide;
    deep = r.deep;
    seat = r.seat;
    notes = r.notes;
    told = r.told;
    stop = get_or-set_other s.words i n x 0 (λ (e : n ≡ i). absurd (omega arith)) ∙ r.stop;
    task = r.task;
    one_task = r.one_task;
    all = r.all;
    cells = λ c note e. let below : c < length r.notes = within_notes r.notes c note e in
        subst (λ (k : ℕ). Stands job was_run has_result k (get_elem? s.homes c) s.views c note)
        (sym (get_or-set_other s.words i c x 0 (λ (e : c ≡ i). absurd (omega (arith, r.all)))))
        (r.cells c note e);
  }

  -- a step on a bell, with the views as they are
  pub signals : (n slots id i : ℕ) (m : Me (Option W) (View J)) (f : ℕ → ℕ) (then : ℕ → Me (Option W) (View J) → Type 0) → n < i → ((x : ℕ) → then x m)
      → Allows (Ruled job was_run has_result n) slots id m i f then
  signals n slots id i m f then past same s r deep me _ = (
    m.0,
    keeps,
    tt,
    subst (λ (vs : List (View J)). Ruled job was_run has_result n record { words = set s.words i (f (get_or s.words i 0)); homes = s.homes; views = vs }) (sym (set_again s.views id m.0 me))
        (signal_keeps n i (f (get_or s.words i 0)) s r past),
    same (get_or s.words i 0),
  )

  unfoldable pub split_keeps : (n : ℕ) (s : State (Option W) (View J)) → Ruled job was_run has_result n s
      → Ruled job was_run has_result n record { words = s.words; homes = s.homes; views = s.views ++ Worker None ∷ [] }
  split_keeps n s r = record {
    wide = r.wide;
    deep = r.deep;
    seat = r.seat;
    notes = r.notes;
    told = r.told;
    stop = r.stop;
    task = at_longer s.views (Worker None ∷ []) r.seat (Task r.notes r.told) r.task;
    one_task = λ other ns b e. ⊎_elim (λ t. r.one_task other ns b t) (λ (t : Worker None ≡ Task ns b). let z : 0 ≡ 1 = ap is_task t in absurd (omega arith)) (at_snoc s.views (Worker None) (Task ns b) other e);
    all = r.all;
    cells = λ c note e. frame (get_or s.words c 0) (get_or s.words c 0) (get_elem? s.homes c) (get_elem? s.homes c) s.views (s.views ++ Worker None ∷ []) c refl refl
        (λ seat j m. ⊎_elim (λ t. t) (λ (t : Worker None ≡ Worker (Some (c, j))). let z : 0 ≡ suc c = ap (λ (v : View J). cell_of (held_of v)) t in absurd (omega arith)) (at_snoc s.views (Worker None) (Worker (Some (c, j))) seat m))
        (λ seat j m. at_longer s.views (Worker None ∷ []) seat (Worker (Some (c, j))) m)
        note (r.cells c note e);
  }

  pub splits : (n id : ℕ) (v : View J) → Splits (Ruled job was_run has_result n) id v v (Worker None)
  splits n id v s r me =
      subst (λ (vs : List (View J)). Ruled job was_run has_result n record { words = s.words; homes = s.homes; views = vs ++ Worker None ∷ [] }) (sym (set_again s.views id v me)) (split_keeps n s r)

  unfoldable pub join_keeps : (n other : ℕ) (s : State (Option W) (View J)) → Ruled job was_run has_result n s → get_elem? s.views other ≡ some (Worker None)
      → Ruled job was_run has_result n record { words = s.words; homes = s.homes; views = set s.views other Spent }
  join_keeps n other s r there = record {
    wide = r.wide;
    deep = r.deep;
    seat = r.seat;
    notes = r.notes;
    told = r.told;
    stop = r.stop;
    task = not_task n s r other (Worker None) Spent there (λ (e : 0 ≡ 1). omega arith);
    one_task = λ seat ns b e. ⊎_elim (λ t. let z : 2 ≡ 1 = ap is_task t.1 in absurd (omega arith)) (λ t. r.one_task seat ns b t.1) (at_set s.views other seat Spent (Task ns b) e);
    all = r.all;
    cells = λ c note e. frame (get_or s.words c 0) (get_or s.words c 0) (get_elem? s.homes c) (get_elem? s.homes c) s.views (set s.views other Spent) c refl refl
        (λ seat j m. ⊎_elim (λ t. let z : 2 ≡ 0 = ap is_task t.1 in absurd (omega arith)) (λ t. t.1) (at_set s.views other seat Spent (Worker (Some (c, j))) m))
        (λ seat j m. set_else s.views other seat Spent (λ (e : seat ≡ other). let z : 0 ≡ suc c = ap (λ (v : View J). cell_of (held_of v)) (some-injective _ _ (sym there ∙ (ap (λ i. get_elem? s.views i) (sym e) ∙ m))) in absurd (omega arith)) ∙ m)
        note (r.cells c note e);
  }

  pub joins : (n id other : ℕ) (v : View J) → Joins (Ruled job was_run has_result n) id v other (Worker None) v Spent
  joins n id other v s r me apart there =
      let same = set_again s.views id v me in
      let there' : get_elem? s.views other ≡ some (Worker None) = ap (λ (vs : List (View J)). get_elem? vs other) (sym same) ∙ there in
      subst (λ (vs : List (View J)). Ruled job was_run has_result n record { words = s.words; homes = s.homes; views = set vs other Spent }) (sym same) (join_keeps n other s r there')

  -- the same for a seat that is known by equations
  pub claims_at : (n slots id c : ℕ) (m : Me (Option W) (View J)) → c < n → m ≡ (Worker (held_of m.0), slots_of (held_of m.0)) → held_of m.0 ≡ None
      → Allows (Ruled job was_run has_result n) slots id m c (λ x. either (eqb x 1) 2 x) (claimed job was_run (step slots c 1 2 none) m)
  claims_at n slots id c m below is empty =
      subst (λ (x : Me (Option W) (View J)). Allows (Ruled job was_run has_result n) slots id x c (λ x. either (eqb x 1) 2 x) (claimed job was_run (step slots c 1 2 none) x))
      (sym (is ∙ ap (λ (h : Option (ℕ × J)). (Worker h, slots_of h)) empty)) (claims n slots id c below)

  pub gives_back_at : (n slots id c : ℕ) (j : J) (work : W) (m : Me (Option W) (View J)) → c < n → m ≡ holding c j (Some work) → was_run work ≡ true → job work ≡ j → has_result work
      → Allows (Ruled job was_run has_result n) slots id m c (λ _. 3) (λ r. given_back (step slots c 3 0 none) m 3)
  gives_back_at n slots id c j work m below is ran same result =
      subst (λ (x : Me (Option W) (View J)). Allows (Ruled job was_run has_result n) slots id x c (λ _. 3) (λ r. given_back (step slots c 3 0 none) x 3))
      (sym is) (gives_back n slots id c j work below ran same result)

  pub collects_at : (n slots id c : ℕ) (m : Me (Option W) (View J)) → c < n → m.0 ≡ Task (notes_of m.0) (told_of m.0)
      → Allows (Ruled job was_run has_result n) slots id m c (λ x. either (eqb x 3) 0 x) (collected job was_run has_result (step slots c 3 0 none) m)
  collects_at n slots id c m below is =
      subst (λ (v : View J). Allows (Ruled job was_run has_result n) slots id (v, m.1) c (λ x. either (eqb x 3) 0 x) (collected job was_run has_result (step slots c 3 0 none) (v, m.1)))
      (sym is) (collects n slots id c (notes_of m.0) (told_of m.0) m.1 below)

  pub opens_at : (n slots id c : ℕ) (m : Me (Option W) (View J)) → c < n → m.0 ≡ Task (notes_of m.0) (told_of m.0) → get_elem? (notes_of m.0) c ≡ some Closed
      → Allows (Ruled job was_run has_result n) slots id m c (λ x. x) (opened (step slots c 0 0 none) m)
  opens_at n slots id c m below is closed =
      subst (λ (v : View J). Allows (Ruled job was_run has_result n) slots id (v, m.1) c (λ x. x) (opened (step slots c 0 0 none) (v, m.1)))
      (sym is) (opens n slots id c (notes_of m.0) (told_of m.0) m.1 below closed)

  pub posts_at : (n slots id c : ℕ) (work : W) (m : Me (Option W) (View J)) → c < n → m.0 ≡ Task (notes_of m.0) (told_of m.0) → m.1 ≡ (c, Some work) ∷ rest m.1 → was_run work ≡ false → get_elem? (notes_of m.0) c ≡ some Home
      → Allows (Ruled job was_run has_result n) slots id m c (λ _. 1) (λ r. posted job (step slots c 1 0 none) m 1)
  posts_at n slots id c work m below is front fresh home =
      subst (λ (x : Me (Option W) (View J)). Allows (Ruled job was_run has_result n) slots id x c (λ _. 1) (λ r. posted job (step slots c 1 0 none) x 1))
      (λ i. (sym is i, sym front i)) (posts n slots id c (notes_of m.0) (told_of m.0) work (rest m.1) below fresh home)

  pub splits_at : (n id : ℕ) (v : View J) → Splits (Ruled job was_run has_result n) id v v (Worker None)
  splits_at = splits

  pub joins_at : (n id other : ℕ) (v w : View J) → w ≡ Worker None → Joins (Ruled job was_run has_result n) id v other w v Spent
  joins_at n id other v w is = subst (λ (x : View J). Joins (Ruled job was_run has_result n) id v other x v Spent) (sym is) (joins n id other v)

  pub rings : (n slots id i : ℕ) (m : Me (Option W) (View J)) → n < i
      → Allows (Ruled job was_run has_result n) slots id m i (λ x. (x + 1) % 2 ^ 64) (looked (step slots i 1 0 none) m)
  rings n slots id i m past = signals n slots id i m (λ x. (x + 1) % 2 ^ 64) (looked (step slots i 1 0 none) m) past (λ x. refl)

  -- the task tells stop
  unfoldable pub stop_keeps : (n id : ℕ) (s : State (Option W) (View J)) (notes : List (Note J)) (told : Bool) → Ruled job was_run has_result n s → get_elem? s.views id ≡ some (Task notes told)
      → Ruled job was_run has_result n record { words = set s.words n 1; homes = s.homes; views = set s.views id (Task notes true) }
  stop_keeps n id s notes told r me =
      let mine : id ≡ r.seat = r.one_task id notes told me in
      let same : notes ≡ r.notes = notes_same n id s notes told r me in
      let w : View J = Task notes true in
      record {
        wide = length-set s.words n 1 ∙ r.wide;
        deep = r.deep;
        seat = r.seat;
        notes = notes;
        told = true;
        stop = get_or-set_same s.words n 1 0 (let z = r.wide in omega arith);
        task = ap (λ i. get_elem? (set s.views id w) i) (sym mine) ∙ set_here s.views id w (within s.views id (Task notes told) me);
        one_task = λ other ns b e. ⊎_elim (λ t. t.0 ∙ mine) (λ t. r.one_task other ns b t.1) (at_set s.views id other w (Task ns b) e);
        all = ap length same ∙ r.all;
        cells = λ c note e.
            let below : c < length notes = within_notes notes c note e in
            frame (get_or s.words c 0) (get_or (set s.words n 1) c 0) (get_elem? s.homes c) (get_elem? s.homes c) s.views (set s.views id w) c
            (get_or-set_other s.words n c 1 0 (λ (e : c ≡ n). absurd (omega (arith, r.all, ap length same)))) refl
            (λ seat j m. ⊎_elim (λ t. let z : 1 ≡ 0 = ap is_task t.1 in absurd (omega arith)) (λ t. t.1) (at_set s.views id seat w (Worker (Some (c, j))) m))
            (λ seat j m. set_else s.views id seat w (λ (e : seat ≡ id). let z : 1 ≡ 0 = ap is_task (some-injective (Task notes told) (Worker (Some (c, j))) (sym me ∙ (ap (λ i. get_elem? s.views i) (sym e) ∙ m))) in absurd (omega arith)) ∙ m)
            note (r.cells c note (sym (ap (λ (l : List (Note J)). get_elem? l c) same) ∙ e));
      }

  pub stops : (n slots id : ℕ) (notes : List (Note J)) (told : Bool) (held : List (ℕ × Option W))
      → Allows (Ruled job was_run has_result n) slots id (Task notes told, held) n (λ x. 1) (λ r. stop_told (step slots n 1 0 none) (Task notes told, held) 1)
  stops n slots id notes told held s r deep me _ = (Task notes true, keeps, tt, stop_keeps n id s notes told r me, refl)

  pub stops_at : (n slots id : ℕ) (m : Me (Option W) (View J)) → m.0 ≡ Task (notes_of m.0) (told_of m.0)
      → Allows (Ruled job was_run has_result n) slots id m n (λ x. 1) (λ r. stop_told (step slots n 1 0 none) m 1)
  stops_at n slots id m is =
      subst (λ (v : View J). Allows (Ruled job was_run has_result n) slots id (v, m.1) n (λ x. 1) (λ r. stop_told (step slots n 1 0 none) (v, m.1) 1))
      (sym is) (stops n slots id (notes_of m.0) (told_of m.0) m.1)
