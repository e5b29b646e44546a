-- Each run of steps keeps the rule, and what is collected is what was posted.
use Rattle.std.proofs.Common.{◌≡◌, ℕ, ◌+◌, ◌%◌, ◌^◌, ◌<◌, Bool, List, [], ◌∷◌, ◌++◌, get_or, set, replicate, sym, refl, ap, ◌∙◌, subst, arith, get_or-set_other, get_or-set_same, ◌≢◌, true, false, Option, Some, None}
use lib.ListN.{get_elem?}
use lib.Seq.{set-get_or}
use mathlib.Core.Logic.{dite}
use native.Mathlib.Decide.{ℕ_discrete}
use mathlib.Core.Option.{some, none, some-injective, Option as Maybe}
use Rattle.atomic_table.specs.Table.{State}
use Rattle.ax_board.specs.declared.view.View.{View}
use Rattle.ax_board.specs.declared.view.View.TheVariants.{Task, Worker, Spent}
use Rattle.ax_board.specs.declared.view.Note.{Note}
use Rattle.ax_board.specs.declared.view.Note.TheVariants.{Closed, Home, Out}
use Rattle.atomic_table.proofs.Lists.{set_here, set_else}
use Rattle.ax_board.specs.Rule.{Notes, Ruled}
use Rattle.ax_board.specs.Runs.{Move, opens, posts, claims, gives_back, collects, looks, stops, rings, splits, joins, start, noted_after, Does, Runs, AllServed}
use Rattle.ax_board.proofs.Keeps as k

abbrev note_number : {J : Type 0} → Note J → ℕ
note_number Closed = 2
note_number Home = 1
note_number (Out j) = 0

module _ {W J : Type 0} (job : W → J) (was_run : W → Bool) (has_result : W → Type 0) where
  abbrev States : Type 0
  States = State (Option W) (View J)

  abbrev Rule : ℕ → States → Type 0
  Rule n s = Ruled job was_run has_result n s

  abbrev Goes : ℕ → States → List (Move W) → States → Type 0
  Goes n s moves t = Runs job was_run has_result n s moves t

  abbrev Fine : List (Note J) → List (Move W) → Type 0
  Fine notes moves = AllServed job was_run has_result notes moves

  -- the step that begins the run leads to u, which is known
  from : (n : ℕ) (moves : List (Move W)) (t u next : States) → next ≡ u → Goes n next moves t → Goes n u moves t
  from n moves t u next is more = subst (λ (v : States). Goes n v moves t) is more

  pub served : (n : ℕ) (moves : List (Move W)) (s t : States) (notes : List (Note J)) (r : Rule n s) → r.notes ≡ notes → Goes n s moves t → Rule n t × Fine notes moves
  unfolding k.open_keeps k.remade k.post_keeps k.claim_keeps k.give_keeps k.collect_keeps k.signal_keeps k.stop_keeps k.split_keeps k.join_keeps
  served n [] s t notes r is run = (subst (λ (v : States). Rule n v) (sym run) r, tt)
  served n (opens c ∷ moves) s t notes r is run =
      let d = run.1 in
      let same : d.1 ≡ notes = k.notes_same job was_run has_result n d.0 s d.1 d.2 r d.4 ∙ is in
      let done = served n moves _ t (set notes c Home) (k.open_keeps job was_run has_result n d.0 c s d.1 d.2 r d.3 d.4 d.5) (ap (λ (l : List (Note J)). set l c Home) same) (from n moves t _ run.0 d.6 run.2) in
      (done.0, (ap (λ (l : List (Note J)). get_elem? l c) (sym same) ∙ d.5, done.1))
  served n (posts c work ∷ moves) s t notes r is run =
      let d = run.1 in
      let same : d.1 ≡ notes = k.notes_same job was_run has_result n d.0 s d.1 d.2 r d.4 ∙ is in
      let done = served n moves _ t (set notes c (Out (job work))) (k.post_keeps job was_run has_result n d.0 c s d.1 d.2 work r d.3 d.4 d.6 d.5) (ap (λ (l : List (Note J)). set l c (Out (job work))) same) (from n moves t _ run.0 d.7 run.2) in
      (done.0, (ap (λ (l : List (Note J)). get_elem? l c) (sym same) ∙ d.5, done.1))
  served n (claims seat c work ∷ moves) s t notes r is run =
      let d = run.1 in
      let done = served n moves _ t notes (k.claim_keeps job was_run has_result n seat c s work r d.0 d.1 d.2 d.3) is (from n moves t _ run.0 d.4 run.2) in
      (done.0, (ap (λ (l : List (Note J)). get_elem? l c) (sym is) ∙ k.claim_tells job was_run has_result n c s work r d.0 d.2 d.3, done.1))
  served n (gives_back seat c work ∷ moves) s t notes r is run =
      let d = run.1 in
      let done = served n moves _ t notes (k.give_keeps job was_run has_result n seat c (job work) s work r d.0 d.1 d.2 refl d.3) is (from n moves t _ run.0 d.4 run.2) in
      (done.0, (ap (λ (l : List (Note J)). get_elem? l c) (sym is) ∙ k.give_tells job was_run has_result n seat c (job work) s r d.0 d.1, done.1))
  served n (collects c work ∷ moves) s t notes r is run =
      let d = run.1 in
      let same : d.1 ≡ notes = k.notes_same job was_run has_result n d.0 s d.1 d.2 r d.4 ∙ is in
      let told = k.collect_tells job was_run has_result n d.0 c s d.1 d.2 work r d.3 d.4 d.5 d.6 in
      let done = served n moves _ t (set notes c Home) (k.collect_keeps job was_run has_result n d.0 c s d.1 d.2 r d.3 d.4 d.5) (ap (λ (l : List (Note J)). set l c Home) same) (from n moves t _ run.0 d.7 run.2) in
      (done.0, ((ap (λ (l : List (Note J)). get_elem? l c) (sym same) ∙ told.0, told.1, told.2), done.1))
  served n (looks ∷ moves) s t notes r is run =
      let done = served n moves s t notes r is (from n moves t s run.0 run.1 run.2) in (done.0, (tt, done.1))
  served n (stops ∷ moves) s t notes r is run =
      let d = run.1 in
      let done = served n moves _ t notes (k.stop_keeps job was_run has_result n d.0 s d.1 d.2 r d.3) (k.notes_same job was_run has_result n d.0 s d.1 d.2 r d.3 ∙ is) (from n moves t _ run.0 d.4 run.2) in (done.0, (tt, done.1))
  served n (rings bell ∷ moves) s t notes r is run =
      let past = run.1.0 in
      let done = served n moves _ t notes (k.signal_keeps job was_run has_result n bell ((get_or s.words bell 0 + 1) % 2 ^ 64) s r past) is (from n moves t _ run.0 run.1.2 run.2) in (done.0, (tt, done.1))
  served n (splits ∷ moves) s t notes r is run =
      let done = served n moves _ t notes (k.split_keeps job was_run has_result n s r) is (from n moves t _ run.0 run.1 run.2) in (done.0, (tt, done.1))
  served n (joins seat ∷ moves) s t notes r is run =
      let done = served n moves _ t notes (k.join_keeps job was_run has_result n seat s r run.1.0) is (from n moves t _ run.0 run.1.1 run.2) in (done.0, (tt, done.1))

  pub all_served : (n : ℕ) (moves : List (Move W)) (t : States) → Goes n (start n) moves t → Rule n t × Fine (replicate n Closed) moves
  unfolding k.starts
  all_served n moves t run = served n moves (start n) t (replicate n Closed) (k.starts job was_run has_result n (replicate (n + 3) 0) refl) refl run

  pub one_holds : (n c a b : ℕ) (i j : J) (s : States) → Rule n s → c < n → Notes s.views c a i → Notes s.views c b j → a ≡ b
  one_holds n c a b i j s r below here there =
      let at = k.noted job was_run has_result r.notes c (omega (arith, r.all)) in
      let p = k.claimed_at job was_run has_result (get_or s.words c 0) (get_elem? s.homes c) s.views c at.0 a i here (r.cells c at.0 at.1) in
      p.2.one.alone a i here ∙ sym (p.2.one.alone b j there)

  -- no step but a stop writes to the stop word
  stop_kept : (n : ℕ) (move : Move W) (s t : States) → Does job was_run has_result n s move t → get_or s.words n 0 ≡ 1 → get_or t.words n 0 ≡ 1
  stop_kept n (opens c) s t d is = let below = d.3 in ap (λ (v : States). get_or v.words n 0) d.6 ∙ (get_or-set_other s.words c n _ 0 (λ (e : n ≡ c). absurd (omega arith)) ∙ is)
  stop_kept n (posts c work) s t d is = let below = d.3 in ap (λ (v : States). get_or v.words n 0) d.7 ∙ (get_or-set_other s.words c n 1 0 (λ (e : n ≡ c). absurd (omega arith)) ∙ is)
  stop_kept n (claims seat c work) s t d is = let below = d.0 in ap (λ (v : States). get_or v.words n 0) d.4 ∙ (get_or-set_other s.words c n 2 0 (λ (e : n ≡ c). absurd (omega arith)) ∙ is)
  stop_kept n (gives_back seat c work) s t d is = let below = d.0 in ap (λ (v : States). get_or v.words n 0) d.4 ∙ (get_or-set_other s.words c n 3 0 (λ (e : n ≡ c). absurd (omega arith)) ∙ is)
  stop_kept n (collects c work) s t d is = let below = d.3 in ap (λ (v : States). get_or v.words n 0) d.7 ∙ (get_or-set_other s.words c n 0 0 (λ (e : n ≡ c). absurd (omega arith)) ∙ is)
  stop_kept n looks s t d is = ap (λ (v : States). get_or v.words n 0) d ∙ is
  stop_kept n stops s t d is = ap (λ (v : States). get_or v.words n 0) d.4 ∙ (ap (λ (x : ℕ). get_or (set s.words n x) n 0) (sym is) ∙ (ap (λ (l : List ℕ). get_or l n 0) (set-get_or s.words n 0) ∙ is))
  stop_kept n (rings bell) s t d is = let past = d.0 in ap (λ (v : States). get_or v.words n 0) d.2 ∙ (get_or-set_other s.words bell n _ 0 (λ (e : n ≡ bell). absurd (omega arith)) ∙ is)
  stop_kept n splits s t d is = ap (λ (v : States). get_or v.words n 0) d ∙ is
  stop_kept n (joins seat) s t d is = ap (λ (v : States). get_or v.words n 0) d.1 ∙ is

  pub stays : (n : ℕ) (moves : List (Move W)) (s t : States) → Goes n s moves t → get_or s.words n 0 ≡ 1 → get_or t.words n 0 ≡ 1
  stays n [] s t run is = ap (λ (v : States). get_or v.words n 0) run ∙ is
  stays n (move ∷ moves) s t run is = stays n moves run.0 t run.2 (stop_kept n move s run.0 run.1 is)

  -- a stop sets the stop word
  pub stop_set : (n : ℕ) (s t : States) → Rule n s → Does job was_run has_result n s stops t → get_or t.words n 0 ≡ 1
  stop_set n s t r d = ap (λ (v : States). get_or v.words n 0) d.4 ∙ get_or-set_same s.words n 1 0 (let z = r.wide in omega arith)

  -- a ring adds one
  pub rung : (n bell : ℕ) (s t : States) → Rule n s → Does job was_run has_result n s (rings bell) t → get_or t.words bell 0 ≡ (get_or s.words bell 0 + 1) % 2 ^ 64
  rung n bell s t r d = ap (λ (v : States). get_or v.words bell 0) d.2 ∙ get_or-set_same s.words bell _ 0 (let z = r.wide in let y = d.1 in omega arith)

  -- the steps have a post to the cell
  abbrev PostIn : ℕ → List (Move W) → Type 0
  PostIn c moves = (work : W) × (sooner later : List (Move W)) × (moves ≡ sooner ++ posts c work ∷ later)

  later_in : (c : ℕ) (move : Move W) (moves : List (Move W)) → PostIn c moves → PostIn c (move ∷ moves)
  later_in c move moves p = (p.0, move ∷ p.1, p.2, ap (λ (l : List (Move W)). move ∷ l) p.3)

  -- a cell that is home stays so when a cell comes home
  home_kept : (notes : List (Note J)) (c d : ℕ) → get_elem? notes c ≡ some Home → get_elem? (set notes d Home) c ≡ some Home
  home_kept notes c d is = dite (ℕ_discrete c d)
      (λ (e : c ≡ d). ap (λ (k : ℕ). get_elem? (set notes k Home) c) (sym e) ∙ set_here notes c Home (k.within_notes job was_run has_result notes c Home is))
      (λ (ne : c ≢ d). set_else notes d c Home ne ∙ is)

  -- a cell that is home is posted to before it is collected
  post_in : (c : ℕ) (two : W) (moves : List (Move W)) (notes : List (Note J)) → get_elem? notes c ≡ some Home → Fine notes (moves ++ collects c two ∷ []) → PostIn c moves
  post_in c two [] notes is f = absurd (let z : Home ≡ Out (job two) = some-injective Home (Out (job two)) (sym is ∙ f.0.0) in let y : 1 ≡ 0 = ap note_number z in omega arith)
  post_in c two (opens d ∷ moves) notes is f = later_in c (opens d) moves (post_in c two moves (set notes d Home) (home_kept notes c d is) f.1)
  post_in c two (posts d work ∷ moves) notes is f = dite (ℕ_discrete c d)
      (λ (e : c ≡ d). (work, [], moves, ap (λ (k : ℕ). posts k work ∷ moves) (sym e)))
      (λ (ne : c ≢ d). later_in c (posts d work) moves (post_in c two moves (set notes d (Out (job work))) (set_else notes d c (Out (job work)) ne ∙ is) f.1))
  post_in c two (claims seat d work ∷ moves) notes is f = later_in c (claims seat d work) moves (post_in c two moves notes is f.1)
  post_in c two (gives_back seat d work ∷ moves) notes is f = later_in c (gives_back seat d work) moves (post_in c two moves notes is f.1)
  post_in c two (collects d work ∷ moves) notes is f = later_in c (collects d work) moves (post_in c two moves (set notes d Home) (home_kept notes c d is) f.1)
  post_in c two (looks ∷ moves) notes is f = later_in c looks moves (post_in c two moves notes is f.1)
  post_in c two (stops ∷ moves) notes is f = later_in c stops moves (post_in c two moves notes is f.1)
  post_in c two (rings bell ∷ moves) notes is f = later_in c (rings bell) moves (post_in c two moves notes is f.1)
  post_in c two (splits ∷ moves) notes is f = later_in c splits moves (post_in c two moves notes is f.1)
  post_in c two (joins seat ∷ moves) notes is f = later_in c (joins seat) moves (post_in c two moves notes is f.1)

  -- the steps that come later fit the notes there
  fine_later : (sooner later : List (Move W)) (notes : List (Note J)) → Fine notes (sooner ++ later) → (there : List (Note J)) × Fine there later
  fine_later [] later notes f = (notes, f)
  fine_later (move ∷ sooner) later notes f = fine_later sooner later (noted_after job notes move) f.1

  pub post_between : (n c : ℕ) (one two : W) (before between : List (Move W)) (end : States) → Goes n (start n) (before ++ collects c one ∷ (between ++ collects c two ∷ [])) end → PostIn c between
  post_between n c one two before between end run =
      let later : List (Move W) = collects c one ∷ (between ++ collects c two ∷ []) in
      let at = fine_later before later (replicate n Closed) (all_served n (before ++ later) end run).1 in
      post_in c two between (set at.0 c Home) (set_here at.0 c Home (k.within_notes job was_run has_result at.0 c (Out (job one)) at.1.0.0)) at.1.1

  -- with one cell: the words are that of the cell, the stop word, the work bell and the back bell
  abbrev at_one : ℕ → ℕ → ℕ → ℕ → Maybe (Option W) → Note J → Bool → List (View J) → States
  at_one word stop work back home note told workers = record { words = word ∷ stop ∷ work ∷ back ∷ []; homes = home ∷ []; views = Task (note ∷ []) told ∷ workers }

  -- each kind of step can be made, in such a run
  pub comes_back : (posted ran : W) → was_run posted ≡ false → was_run ran ≡ true → job ran ≡ job posted → has_result ran
      → (end : States) × Goes 1 (start 1) (opens 0 ∷ splits ∷ posts 0 posted ∷ rings 2 ∷ looks ∷ claims 1 0 posted ∷ gives_back 1 0 ran ∷ rings 3 ∷ collects 0 ran ∷ stops ∷ joins 1 ∷ []) end
  comes_back posted ran fresh was same result =
      let out : Note J = Out (job posted) in
      let idle : List (View J) = Worker None ∷ [] in
      let busy : List (View J) = Worker (Some (0, job posted)) ∷ [] in
      let given : States = at_one 3 0 1 0 (some (Some ran)) out false idle in (
        at_one 0 1 1 1 none Home true (Spent ∷ []),
        (
          at_one 0 0 0 0 none Home false [],
          (0, Closed ∷ [], false, omega arith, refl, refl, refl),
          (
            at_one 0 0 0 0 none Home false idle,
            refl,
            (
              at_one 1 0 0 0 (some (Some posted)) out false idle,
              (0, Home ∷ [], false, omega arith, refl, refl, fresh, refl),
              (
                at_one 1 0 1 0 (some (Some posted)) out false idle,
                (omega arith, omega arith, refl),
                (
                  at_one 1 0 1 0 (some (Some posted)) out false idle,
                  refl,
                  (
                    at_one 2 0 1 0 none out false busy,
                    (omega arith, refl, refl, refl, refl),
                    (
                      given,
                      (omega arith, ap (λ (j : J). some (Worker (Some (0, j)))) (sym same), was, result, refl),
                      (
                        at_one 3 0 1 1 (some (Some ran)) out false idle,
                        (omega arith, omega arith, refl),
                        (
                          at_one 0 0 1 1 none Home false idle,
                          (0, out ∷ [], false, omega arith, refl, refl, refl, refl),
                          (
                            at_one 0 1 1 1 none Home true idle,
                            (0, Home ∷ [], false, refl, refl),
                            (at_one 0 1 1 1 none Home true (Spent ∷ []), (refl, refl), refl),
                          ),
                        ),
                      ),
                    ),
                  ),
                ),
              ),
            ),
          ),
        ),
      )
