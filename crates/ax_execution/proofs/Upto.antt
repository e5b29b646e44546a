-- A key's lines only grow, and so do those up to an epoch.
use Rattle.std.proofs.Common.{◌≡◌, ℕ, zero, suc, ◌≤◌, ◌<◌, ℤ, int_le, List, [], ◌∷◌, ◌++◌, Bool, true, false, cond, nat_le, if◌then◌else◌, Option, Some, None, refl, sym, ap, ap₂, ◌∙◌, arith, subst, append_assoc}
use Rattle.std.proofs.lemmas.List.{append-nil}
use Rattle.std.proofs.lemmas.Bool.{leb-false, le-leb, lt-leb, cond-true}
use Rattle.ax_text.specs.declared.vocabulary.Request.{Request}
use Rattle.ax_text.specs.declared.vocabulary.Answer.{Answer}
use Rattle.ax_text.specs.Functions.{upd}
use Rattle.ax_text.specs.Exprs.{Facts}
use Rattle.ax_text.specs.Cells.{answer_of}
use Rattle.ax_text.specs.KeyStates.{KeyState}
use Rattle.ax_text.specs.Programs.{Program}
use Rattle.ax_text.specs.Run.{World}
use Rattle.ax_machine.specs.Sync.{without_least}
use Rattle.ax_text.specs.Controls.{left, is_done, request_at}
use Rattle.ax_text.specs.Jobs.{Job, Group, firing_job, job_run, group_of, lines_in}
use Rattle.ax_text.specs.Silent.{unanswered}
use Rattle.ax_execution.specs.Groups.{on_row, unsaid}
use Rattle.ax_machine.specs.KeySync.{Said, ran, fire_first, key_fires}
use Rattle.ax_execution.specs.Contexts.{Running, running_group, Stage, Unbegun, Begun, stage_group, Context, new_context, Waiting, Row, Mark, Part, owner_groups, part_lines, is_due, may_fire}
use Rattle.ax_execution.specs.Rest.{rest_running, rest_stage, rest_owner, rest_items, settled}
use Rattle.ax_execution.specs.Turns.{handed, timed, closed_with, left_by, staged, called_back, begins, start_stage, start_owner, start, answered, applied, serve_request, serve_stage, serve_owner, serve, gives, give_answer, deliver_stage, deliver_owner, deliver, fire_due, fire_front, fire, admit_at, admit, mark_at, mark, stage_starts, owner_starts, start_effects, answer_gives, stage_gives, owner_gives, deliver_effects}
use Rattle.ax_execution.specs.Allowed.{StageAsks, OfOwner, OwnedLater, WaitLater}
use Rattle.ax_machine.proofs.KeyLemmas.{lines_in-append}
use Rattle.ax_execution.proofs.Handles.{Handles, goes_in, silenced}
use Rattle.ax_execution.proofs.Kept.{idle_mark, done_rest, called_back_kept, fired}

pub by_cases : {A : Type 0} (b : Bool) → (b ≡ true → A) → (b ≡ false → A) → A
by_cases true p q = p refl
by_cases false p q = q refl

-- lines that begin with these
pub record Grows (xs ys : List (List ℤ)) : Type 0 where
  pub more : List (List ℤ)
  pub is : ys ≡ xs ++ more

pub grows_refl : (xs : List (List ℤ)) → Grows xs xs
grows_refl xs = record { more = []; is = sym (append-nil xs) }

pub grows_path : (xs ys : List (List ℤ)) → xs ≡ ys → Grows xs ys
grows_path xs ys e = subst (Grows xs) e (grows_refl xs)

pub grows_then : (xs ys zs : List (List ℤ)) → Grows xs ys → Grows ys zs → Grows xs zs
grows_then xs ys zs a b = record { more = a.more ++ b.more; is = b.is ∙ (ap (λ (l : List (List ℤ)). l ++ b.more) a.is ∙ append_assoc xs a.more b.more) }

-- the lines of one group more
pub lines_last : (gs : List Group) (g : Group) → lines_in (gs ++ g ∷ []) ≡ lines_in gs ++ g.lines
lines_last gs g = lines_in-append gs (g ∷ []) ∙ ap (λ (l : List (List ℤ)). lines_in gs ++ l) (append-nil g.lines)

open_grows : (gs : List Group) (g : Group) → Grows (lines_in gs) (lines_in (gs ++ g ∷ []))
open_grows gs g = record { more = g.lines; is = lines_last gs g }

pub group_grows : (gs : List Group) (g h : Group) → Grows g.lines h.lines → Grows (lines_in (gs ++ g ∷ [])) (lines_in (gs ++ h ∷ []))
group_grows gs g h a = record {
  more = a.more;
  is = lines_last gs h ∙ (ap (λ (l : List (List ℤ)). lines_in gs ++ l) a.is
      ∙ (sym (append_assoc (lines_in gs) g.lines a.more) ∙ ap (λ (l : List (List ℤ)). l ++ a.more) (sym (lines_last gs g))));
}

group_writes : (gs : List Group) (g h : Group) (lines : List (List ℤ)) → h.lines ≡ g.lines ++ lines → lines_in (gs ++ h ∷ []) ≡ lines_in (gs ++ g ∷ []) ++ lines
unfolding group_grows
group_writes gs g h lines e = (group_grows gs g h (record { more = lines; is = e })).is

abbrev pub said_lines : Said → List (List ℤ)
said_lines s = lines_in s.groups

-- epochs

unfoldable pub Sorted : ℕ → ℕ → List Waiting → Type 0
Sorted lo hi [] = Unit {0}
Sorted lo hi (Row n f facts ∷ is) = (lo ≤ f) × (f ≤ hi) × Sorted f hi is
Sorted lo hi (Mark f w more ∷ is) = (lo ≤ f) × (f ≤ hi) × Sorted f hi is

unfoldable pub OwnerSorted : ℕ → Option Context → List Waiting → Type 0
OwnerSorted hi None is = Sorted 0 hi is
OwnerSorted hi (Some c) is = (c.epoch ≤ hi) × Sorted c.epoch hi is

-- the epochs of a key rise, and none is above hi
unfoldable pub PartSorted : ℕ → Part → Type 0
PartSorted hi q = OwnerSorted hi q.owner q.waiting

sorted_higher : (lo hi hi' : ℕ) (is : List Waiting) → hi ≤ hi' → Sorted lo hi is → Sorted lo hi' is
unfolding Sorted
sorted_higher lo hi hi' [] h s = tt
sorted_higher lo hi hi' (Row n f facts ∷ is) h s = let a : f ≤ hi = s.1 in (s.0, omega arith, sorted_higher f hi hi' is h s.2)
sorted_higher lo hi hi' (Mark f w more ∷ is) h s = let a : f ≤ hi = s.1 in (s.0, omega arith, sorted_higher f hi hi' is h s.2)

owner_higher : (hi hi' : ℕ) (o : Option Context) (is : List Waiting) → hi ≤ hi' → OwnerSorted hi o is → OwnerSorted hi' o is
unfolding OwnerSorted
owner_higher hi hi' None is h s = sorted_higher 0 hi hi' is h s
owner_higher hi hi' (Some c) is h s = let a : c.epoch ≤ hi = s.0 in (omega arith, sorted_higher c.epoch hi hi' is h s.1)

pub part_higher : (hi hi' : ℕ) (q : Part) → hi ≤ hi' → PartSorted hi q → PartSorted hi' q
unfolding PartSorted
part_higher hi hi' q h s = owner_higher hi hi' q.owner q.waiting h s

sorted_row : (lo hi n : ℕ) (facts : Facts) (is : List Waiting) → lo ≤ hi → Sorted lo hi is → Sorted lo hi (is ++ Row n hi facts ∷ [])
unfolding Sorted
sorted_row lo hi n facts [] h s = (h, omega arith, tt)
sorted_row lo hi n facts (Row i f g ∷ is) h s = (s.0, s.1, sorted_row f hi n facts is s.1 s.2)
sorted_row lo hi n facts (Mark f w more ∷ is) h s = (s.0, s.1, sorted_row f hi n facts is s.1 s.2)

sorted_mark : (lo hi : ℕ) (w : ℤ) (more : ℕ) (is : List Waiting) → lo ≤ hi → Sorted lo hi is → Sorted lo hi (is ++ Mark hi w more ∷ [])
unfolding Sorted
sorted_mark lo hi w more [] h s = (h, omega arith, tt)
sorted_mark lo hi w more (Row i f g ∷ is) h s = (s.0, s.1, sorted_mark f hi w more is s.1 s.2)
sorted_mark lo hi w more (Mark f v m ∷ is) h s = (s.0, s.1, sorted_mark f hi w more is s.1 s.2)

-- what is of an epoch up to e
abbrev pub until : ℕ → List Waiting → List Waiting
until e [] = []
until e (Row n f facts ∷ is) = if nat_le f e then Row n f facts ∷ until e is else until e is
until e (Mark f w more ∷ is) = if nat_le f e then Mark f w more ∷ until e is else until e is

late_until : (e lo hi : ℕ) (is : List Waiting) → e < lo → Sorted lo hi is → until e is ≡ []
unfolding Sorted
late_until e lo hi [] h s = refl
late_until e lo hi (Row n f facts ∷ is) h s = let a : lo ≤ f = s.0 in let b : nat_le f e ≡ false = lt-leb f e (omega arith) in rw b (late_until e f hi is (omega arith) s.2)
late_until e lo hi (Mark f w more ∷ is) h s = let a : lo ≤ f = s.0 in let b : nat_le f e ≡ false = lt-leb f e (omega arith) in rw b (late_until e f hi is (omega arith) s.2)

all_until : (e lo : ℕ) (is : List Waiting) → Sorted lo e is → until e is ≡ is
unfolding Sorted
all_until e lo [] s = refl
all_until e lo (Row n f facts ∷ is) s = let b : nat_le f e ≡ true = le-leb f e s.1 in rw b (ap (λ (l : List Waiting). Row n f facts ∷ l) (all_until e f is s.2))
all_until e lo (Mark f w more ∷ is) s = let b : nat_le f e ≡ true = le-leb f e s.1 in rw b (ap (λ (l : List Waiting). Mark f w more ∷ l) (all_until e f is s.2))

until_row : (e f n : ℕ) (facts : Facts) (is : List Waiting) → e < f → until e (is ++ Row n f facts ∷ []) ≡ until e is
until_row e f n facts [] h = rw (lt-leb f e h) refl
until_row e f n facts (Row i g x ∷ is) h = by_cases (nat_le g e) (λ y. rw y (ap (λ (l : List Waiting). Row i g x ∷ l) (until_row e f n facts is h))) (λ y. rw y (until_row e f n facts is h))
until_row e f n facts (Mark g w m ∷ is) h = by_cases (nat_le g e) (λ y. rw y (ap (λ (l : List Waiting). Mark g w m ∷ l) (until_row e f n facts is h))) (λ y. rw y (until_row e f n facts is h))

until_mark : (e f : ℕ) (v : ℤ) (m : ℕ) (is : List Waiting) → e < f → until e (is ++ Mark f v m ∷ []) ≡ until e is
until_mark e f v m [] h = rw (lt-leb f e h) refl
until_mark e f v m (Row i g x ∷ is) h = by_cases (nat_le g e) (λ y. rw y (ap (λ (l : List Waiting). Row i g x ∷ l) (until_mark e f v m is h))) (λ y. rw y (until_mark e f v m is h))
until_mark e f v m (Mark g w n ∷ is) h = by_cases (nat_le g e) (λ y. rw y (ap (λ (l : List Waiting). Mark g w n ∷ l) (until_mark e f v m is h))) (λ y. rw y (until_mark e f v m is h))

-- a stage that is of a later epoch: what it has said stands
abbrev pub stage_late : Job → Stage → Said → Said
stage_late j Unbegun s = s
stage_late j (Begun r) s = closed_with (running_group j r) s

abbrev pub owner_upto : Program → ℕ → Option Context → Said → Said
owner_upto p e None s = s
owner_upto p e (Some c) s = if nat_le c.epoch e then rest_stage p c.job c.stage s else stage_late c.job c.stage s

-- the key behind all of it that is of an epoch up to e
abbrev pub upto_at : Program → ℕ → Option Context → List Waiting → Said → Said
upto_at p e o is s = rest_items p (until e is) (owner_upto p e o s)

unfoldable pub upto : Program → ℕ → Part → Said
upto p e q = upto_at p e q.owner q.waiting q.said

unfoldable pub StageGood : (Running → Type 0) → Stage → Type 0
StageGood Good Unbegun = Unit {0}
StageGood Good (Begun r) = Good r

unfoldable pub OwnerGood : (Running → Type 0) → Option Context → Type 0
OwnerGood Good None = Unit {0}
OwnerGood Good (Some c) = StageGood Good c.stage

-- an event of a key: what the key comes to stays, its lines grow, and so do those up to each epoch
pub record Goes (p : Program) (Good : Running → Type 0) (lines : List (List ℤ)) (a b : Part) : Type 0 where
  pub settles : settled p b ≡ settled p a
  pub good : OwnerGood Good b.owner
  pub wrote : part_lines b ≡ part_lines a ++ lines
  pub sorted : (hi : ℕ) → PartSorted hi a → PartSorted hi b
  pub upto : (e hi : ℕ) → PartSorted hi a → Grows (said_lines (upto p e a)) (said_lines (upto p e b))

abbrev pub part_of : Option Context → List Waiting → Said → Part
part_of o is s = record { owner = o; waiting = is; said = s }

abbrev pub context_of : ℕ → ℕ → Job → Stage → Context
context_of n f j st = record { number = n; epoch = f; job = j; stage = st }

module _ (p : Program) (Good : Running → Type 0) (H : Handles p Good) where
  -- lines grow

  ran_grows : (j : Job) (state : KeyState) (s : Said) → Grows (said_lines s) (said_lines (ran p j state s))
  ran_grows j state s = open_grows s.groups (group_of j (job_run p j state.cells))

  first_grows : (w : ℤ) (go : Said → Said) → ((s : Said) → Grows (said_lines s) (said_lines (go s))) → (times : List ℤ) (s : Said) → Grows (said_lines s) (said_lines (fire_first p w go times s))
  first_grows w go h [] s = grows_refl (said_lines s)
  first_grows w go h (t ∷ ts) s = of (int_le t w)
    where
      next : Said
      next = ran p (firing_job w t) (without_least s.state) s

      of : (b : Bool) → Grows (said_lines s) (said_lines (cond b (go next) s))
      of true = grows_then (said_lines s) (said_lines next) (said_lines (go next)) (ran_grows (firing_job w t) (without_least s.state) s) (h next)
      of false = grows_refl (said_lines s)

  fires_grow : (w : ℤ) (n : ℕ) (s : Said) → Grows (said_lines s) (said_lines (key_fires p w n s))
  fires_grow w zero s = grows_refl (said_lines s)
  fires_grow w (suc n) s = first_grows w (key_fires p w n) (fires_grow w n) s.state.times s

  pub items_grow : (is : List Waiting) (s : Said) → Grows (said_lines s) (said_lines (rest_items p is s))
  items_grow [] s = grows_refl (said_lines s)
  items_grow (Row n e f ∷ is) s = grows_then _ (said_lines (ran p (on_row f) s.state s)) _ (ran_grows (on_row f) s.state s) (items_grow is (ran p (on_row f) s.state s))
  items_grow (Mark e w more ∷ is) s = grows_then _ (said_lines (key_fires p w more s)) _ (fires_grow w more s) (items_grow is (key_fires p w more s))

  left_grows : (j : Job) (r : Running) (s : Said) → Grows r.lines (left j.facts r.answers r.control (goes_in r s.state.cells)).talk.lines
  left_grows j r s = record {
    more = (left j.facts r.answers r.control (goes_in (silenced r) s.state.cells)).talk.lines;
    is = ap (λ (w : World). w.talk.lines) (H.left_further j r s.state.cells);
  }

  stage_grows : (j : Job) (st : Stage) (s : Said) → Grows (lines_in (s.groups ++ stage_group j st ∷ [])) (said_lines (rest_stage p j st s))
  stage_grows j Unbegun s = group_grows s.groups (unsaid j) (group_of j (job_run p j s.state.cells)) (record { more = (job_run p j s.state.cells).talk.lines; is = refl })
  stage_grows j (Begun r) s = group_grows s.groups (running_group j r) (group_of j (left j.facts r.answers r.control (goes_in r s.state.cells))) (left_grows j r s)

  owner_grows : (o : Option Context) (s : Said) → Grows (lines_in (s.groups ++ owner_groups o)) (said_lines (rest_owner p o s))
  owner_grows None s = grows_path _ _ (ap lines_in (append-nil s.groups))
  owner_grows (Some c) s = stage_grows c.job c.stage s

  pub settled_grows : (q : Part) → Grows (part_lines q) (said_lines (settled p q))
  settled_grows q = grows_then _ (said_lines (rest_owner p q.owner q.said)) _ (owner_grows q.owner q.said) (items_grow q.waiting (rest_owner p q.owner q.said))

  -- behind a callback

  handed_upto : (e : ℕ) (is : List Waiting) (s : Said) → upto p e (handed is s) ≡ rest_items p (until e is) s
  unfolding upto
  handed_upto e [] s = refl
  handed_upto e (Row n f facts ∷ is) s = by_cases (nat_le f e) (λ h. rw h refl) (λ h. rw h refl)
  handed_upto e (Mark f w more ∷ is) s = of (handed_upto e is s) (may_fire w more s.state.times) refl
    where
      of : upto p e (handed is s) ≡ rest_items p (until e is) s → (b : Bool) → may_fire w more s.state.times ≡ b
          → upto p e (cond b (part_of None (Mark f w more ∷ is) s) (handed is s)) ≡ rest_items p (until e (Mark f w more ∷ is)) s
      of ih true h = refl
      of ih false h = ih ∙ by_cases (nat_le f e)
          (λ x. rw x (ap (rest_items p (until e is)) (sym (idle_mark p Good H w more s h))))
          (λ x. rw x refl)

  back_in : (e : ℕ) (c : Context) (r : Running) (is : List Waiting) (s : Said) → nat_le c.epoch e ≡ true → upto p e (called_back c r is s) ≡ rest_items p (until e is) (rest_running c.job r s)
  unfolding upto
  back_in e c r is s h = of (is_done r.control) refl
    where
      of : (b : Bool) → is_done r.control ≡ b → upto p e (cond b (handed is (closed_with (running_group c.job r) s)) (part_of (Some (staged c (Begun r))) is s)) ≡ rest_items p (until e is) (rest_running c.job r s)
      of true d = handed_upto e is (closed_with (running_group c.job r) s) ∙ ap (rest_items p (until e is)) (sym (done_rest p Good H c.job r.control r s refl d))
      of false d = rw h refl

  back_out : (e : ℕ) (c : Context) (r : Running) (is : List Waiting) (s : Said) → nat_le c.epoch e ≡ false → upto p e (called_back c r is s) ≡ rest_items p (until e is) (closed_with (running_group c.job r) s)
  unfolding upto
  back_out e c r is s h = of (is_done r.control)
    where
      of : (b : Bool) → upto p e (cond b (handed is (closed_with (running_group c.job r) s)) (part_of (Some (staged c (Begun r))) is s)) ≡ rest_items p (until e is) (closed_with (running_group c.job r) s)
      of true = handed_upto e is (closed_with (running_group c.job r) s)
      of false = rw h refl

  -- with nothing up to e left, what is said more is said more
  none_left : (e : ℕ) (is : List Waiting) (s t : Said) → until e is ≡ [] → Grows (said_lines s) (said_lines t) → Grows (said_lines (rest_items p (until e is) s)) (said_lines (rest_items p (until e is) t))
  none_left e is s t h g = subst (λ (l : List Waiting). Grows (said_lines (rest_items p l s)) (said_lines (rest_items p l t))) (sym h) g

  handed_sorted : (lo hi : ℕ) (is : List Waiting) (s : Said) → Sorted lo hi is → PartSorted hi (handed is s)
  unfolding PartSorted OwnerSorted Sorted
  handed_sorted lo hi [] s h = tt
  handed_sorted lo hi (Row n f facts ∷ is) s h = (h.1, h.2)
  handed_sorted lo hi (Mark f w more ∷ is) s h = of (handed_sorted f hi is s h.2) (may_fire w more s.state.times)
    where
      zero_le : (k : ℕ) → 0 ≤ k
      zero_le k = omega arith

      of : PartSorted hi (handed is s) → (b : Bool) → PartSorted hi (cond b (part_of None (Mark f w more ∷ is) s) (handed is s))
      of ih true = (zero_le f, h.1, h.2)
      of ih false = ih

  handed_is : (is : List Waiting) (s : Said) → OwnerGood Good (handed is s).owner × (part_lines (handed is s) ≡ said_lines s)
  unfolding OwnerGood StageGood
  handed_is [] s = (tt, ap lines_in (append-nil s.groups))
  handed_is (Row n f facts ∷ is) s = (tt, lines_last s.groups (unsaid (on_row facts)) ∙ append-nil (said_lines s))
  handed_is (Mark f w more ∷ is) s = of (handed_is is s) (may_fire w more s.state.times)
    where
      Is : Part → Type 0
      Is q = OwnerGood Good q.owner × (part_lines q ≡ said_lines s)

      of : Is (handed is s) → (b : Bool) → Is (cond b (part_of None (Mark f w more ∷ is) s) (handed is s))
      of ih true = (tt, ap lines_in (append-nil s.groups))
      of ih false = ih

  back_sorted : (hi : ℕ) (c : Context) (r : Running) (is : List Waiting) (s : Said) → c.epoch ≤ hi → Sorted c.epoch hi is → PartSorted hi (called_back c r is s)
  unfolding PartSorted OwnerSorted
  back_sorted hi c r is s h x = of (is_done r.control)
    where
      of : (b : Bool) → PartSorted hi (cond b (handed is (closed_with (running_group c.job r) s)) (part_of (Some (staged c (Begun r))) is s))
      of true = handed_sorted c.epoch hi is (closed_with (running_group c.job r) s) x
      of false = (h, x)

  back_is : (c : Context) (r : Running) (is : List Waiting) (s : Said) → Good r
      → OwnerGood Good (called_back c r is s).owner × (part_lines (called_back c r is s) ≡ lines_in (s.groups ++ running_group c.job r ∷ []))
  unfolding OwnerGood StageGood
  back_is c r is s g = of (is_done r.control)
    where
      Is : Part → Type 0
      Is q = OwnerGood Good q.owner × (part_lines q ≡ lines_in (s.groups ++ running_group c.job r ∷ []))

      of : (b : Bool) → Is (cond b (handed is (closed_with (running_group c.job r) s)) (part_of (Some (staged c (Begun r))) is s))
      of true = handed_is is (closed_with (running_group c.job r) s)
      of false = (g, refl)

  pub same_goes : (q : Part) → OwnerGood Good q.owner → Goes p Good [] q q
  same_goes q g = record { settles = refl; good = g; wrote = sym (append-nil (part_lines q)); sorted = λ hi h. h; upto = λ e hi h. grows_refl (said_lines (upto p e q)) }

  -- a callback that keeps what the owner comes to
  back_goes : (n f : ℕ) (j : Job) (st : Stage) (r : Running) (is : List Waiting) (s t : Said) (lines : List (List ℤ))
      → rest_running j r t ≡ rest_stage p j st s → Good r
      → Grows (said_lines (stage_late j st s)) (lines_in (t.groups ++ running_group j r ∷ []))
      → lines_in (t.groups ++ running_group j r ∷ []) ≡ lines_in (s.groups ++ stage_group j st ∷ []) ++ lines
      → Goes p Good lines (part_of (Some (context_of n f j st)) is s) (called_back (context_of n f j st) r is t)
  unfolding PartSorted OwnerSorted upto
  back_goes n f j st r is s t lines law g late more = record {
    settles = called_back_kept p Good H c r is t ∙ ap (rest_items p is) law;
    good = (back_is c r is t g).0;
    wrote = (back_is c r is t g).1 ∙ more;
    sorted = λ hi h. back_sorted hi c r is t h.0 h.1;
    upto = λ e hi h. by_cases (nat_le f e)
        (λ x. grows_path _ _ (rw x (ap (λ (u : Said). said_lines (rest_items p (until e is) u)) (sym law)) ∙ sym (ap said_lines (back_in e c r is t x))))
        (λ x. subst (λ (u : Said). Grows (said_lines (upto_at p e (Some c) is s)) (said_lines u)) (sym (back_out e c r is t x))
        (rw x (none_left e is (stage_late j st s) (closed_with (running_group j r) t) (late_until e f hi is (leb-false f e x) h.1) late)));
  }
    where
      c : Context
      c = context_of n f j st

  -- Start

  start_at : (n f : ℕ) (j : Job) (st : Stage) (is : List Waiting) (s : Said) → StageGood Good st
      → Goes p Good (stage_starts p j st).lines (part_of (Some (context_of n f j st)) is s) (start_stage p (context_of n f j st) st (part_of (Some (context_of n f j st)) is s))
  unfolding OwnerGood
  start_at n f j Unbegun is s g =
      let r : Running = left_by (begins p j) unanswered [] 0 in
      back_goes n f j Unbegun r is s (timed (begins p j) s) (begins p j).talk.lines (H.begin_law j s) (H.begin_good j)
      (open_grows s.groups (running_group j r)) (group_writes s.groups (unsaid j) (running_group j r) (begins p j).talk.lines refl)
  start_at n f j (Begun r) is s g = same_goes (part_of (Some (context_of n f j (Begun r))) is s) g

  start_of : (o : Option Context) (is : List Waiting) (s : Said) → OwnerGood Good o → Goes p Good (owner_starts p o).lines (part_of o is s) (start_owner p o (part_of o is s))
  unfolding OwnerGood
  start_of None is s g = same_goes (part_of None is s) g
  start_of (Some c) is s g = start_at c.number c.epoch c.job c.stage is s g

  pub start_goes : (q : Part) → OwnerGood Good q.owner → Goes p Good (start_effects p q).lines q (start p q)
  start_goes q g = start_of q.owner q.waiting q.said g

  -- Serve

  serve_with : (n f : ℕ) (j : Job) (r : Running) (slot : ℕ) (o : Option Request) (is : List Waiting) (s : Said) → request_at r.control slot ≡ o → r.answers slot ≡ None → Good r
      → Goes p Good [] (part_of (Some (context_of n f j (Begun r))) is s) (serve_request (context_of n f j (Begun r)) r slot o (part_of (Some (context_of n f j (Begun r))) is s))
  unfolding OwnerGood StageGood PartSorted OwnerSorted upto
  serve_with n f j r slot None is s e a g = same_goes (part_of (Some (context_of n f j (Begun r))) is s) g
  serve_with n f j r slot (Some q) is s e a g = record {
    settles = ap (rest_items p is) law;
    good = H.serve_good r slot q (answer_of q s.state.cells) g e a;
    wrote = group_writes s.groups (running_group j r) (running_group j after) [] (sym (append-nil r.lines));
    sorted = λ hi h. h;
    upto = λ u hi h. by_cases (nat_le f u)
        (λ x. grows_path _ _ (rw x (ap (λ (v : Said). said_lines (rest_items p (until u is) v)) (sym law))))
        (λ x. rw x (none_left u is (closed_with (running_group j r) s) (closed_with (running_group j after) (applied q s)) (late_until u f hi is (leb-false f u x) h.1) more));
  }
    where
      after : Running
      after = answered r slot (answer_of q s.state.cells)

      law : rest_running j (answered r slot (answer_of q s.state.cells)) (applied q s) ≡ rest_running j r s
      law = H.serve_law j r slot q s g e a

      more : Grows (lines_in (s.groups ++ running_group j r ∷ [])) (lines_in (s.groups ++ running_group j (answered r slot (answer_of q s.state.cells)) ∷ []))
      more = group_grows s.groups (running_group j r) (running_group j (answered r slot (answer_of q s.state.cells))) (grows_refl r.lines)

  serve_at : (n f : ℕ) (j : Job) (st : Stage) (slot : ℕ) (is : List Waiting) (s : Said) → StageGood Good st → StageAsks slot st
      → Goes p Good [] (part_of (Some (context_of n f j st)) is s) (serve_stage (context_of n f j st) slot st (part_of (Some (context_of n f j st)) is s))
  unfolding StageGood
  serve_at n f j Unbegun slot is s g a = absurd a
  serve_at n f j (Begun r) slot is s g a = serve_with n f j r slot (request_at r.control slot) is s refl a.1 g

  serve_of : (slot : ℕ) (o : Option Context) (is : List Waiting) (s : Said) → OwnerGood Good o → OfOwner (StageAsks slot) o → Goes p Good [] (part_of o is s) (serve_owner slot o (part_of o is s))
  unfolding OwnerGood
  serve_of slot None is s g a = absurd a
  serve_of slot (Some c) is s g a = serve_at c.number c.epoch c.job c.stage slot is s g a

  pub serve_goes : (slot : ℕ) (q : Part) → OwnerGood Good q.owner → OfOwner (StageAsks slot) q.owner → Goes p Good [] q (serve slot q)
  serve_goes slot q g a = serve_of slot q.owner q.waiting q.said g a

  -- Deliver

  deliver_with : (n f : ℕ) (j : Job) (r : Running) (slot : ℕ) (o : Option Answer) (is : List Waiting) (s : Said) → r.answers slot ≡ o → Good r
      → Goes p Good (answer_gives j r slot o).lines (part_of (Some (context_of n f j (Begun r))) is s) (give_answer (context_of n f j (Begun r)) r slot o (part_of (Some (context_of n f j (Begun r))) is s))
  unfolding OwnerGood StageGood
  deliver_with n f j r slot None is s e g = same_goes (part_of (Some (context_of n f j (Begun r))) is s) g
  deliver_with n f j r slot (Some a) is s e g =
      let next : Running = left_by (gives j r slot a) (upd r.answers slot None) r.lines r.served in
      let more : Grows (lines_in (s.groups ++ running_group j r ∷ [])) (lines_in (s.groups ++ running_group j next ∷ [])) =
      group_grows s.groups (running_group j r) (running_group j next) (record { more = (gives j r slot a).talk.lines; is = refl }) in
      back_goes n f j (Begun r) next is s (timed (gives j r slot a) s) (gives j r slot a).talk.lines (H.give_law j r slot a s g e) (H.give_good j r slot a g e) more (group_writes s.groups (running_group j r) (running_group j next) (gives j r slot a).talk.lines refl)

  deliver_at : (n f : ℕ) (j : Job) (st : Stage) (slot : ℕ) (is : List Waiting) (s : Said) → StageGood Good st
      → Goes p Good (stage_gives slot j st).lines (part_of (Some (context_of n f j st)) is s) (deliver_stage (context_of n f j st) slot st (part_of (Some (context_of n f j st)) is s))
  unfolding OwnerGood StageGood
  deliver_at n f j Unbegun slot is s g = same_goes (part_of (Some (context_of n f j Unbegun)) is s) tt
  deliver_at n f j (Begun r) slot is s g = deliver_with n f j r slot (r.answers slot) is s refl g

  deliver_of : (slot : ℕ) (o : Option Context) (is : List Waiting) (s : Said) → OwnerGood Good o → Goes p Good (owner_gives slot o).lines (part_of o is s) (deliver_owner slot o (part_of o is s))
  unfolding OwnerGood
  deliver_of slot None is s g = same_goes (part_of None is s) tt
  deliver_of slot (Some c) is s g = deliver_at c.number c.epoch c.job c.stage slot is s g

  pub deliver_goes : (slot : ℕ) (q : Part) → OwnerGood Good q.owner → Goes p Good (deliver_effects slot q).lines q (deliver slot q)
  deliver_goes slot q g = deliver_of slot q.owner q.waiting q.said g

  -- Fire

  unbegun_lines : (s : Said) (j : Job) → lines_in (s.groups ++ []) ≡ lines_in (s.groups ++ unsaid j ∷ [])
  unbegun_lines s j = ap lines_in (append-nil s.groups) ∙ sym (lines_last s.groups (unsaid j) ∙ append-nil (said_lines s))

  fire_due_goes : (n f : ℕ) (w : ℤ) (more : ℕ) (is : List Waiting) (times : List ℤ) (s : Said) → s.state.times ≡ times
      → settled p (fire_due n f w more is times (part_of None (Mark f w (suc more) ∷ is) s)) ≡ settled p (part_of None (Mark f w (suc more) ∷ is) s)
      → Goes p Good [] (part_of None (Mark f w (suc more) ∷ is) s) (fire_due n f w more is times (part_of None (Mark f w (suc more) ∷ is) s))
  unfolding OwnerGood StageGood PartSorted OwnerSorted Sorted upto
  fire_due_goes n f w more is [] s e h = same_goes (part_of None (Mark f w (suc more) ∷ is) s) tt
  fire_due_goes n f w more is (t ∷ ts) s e h = of (int_le t w) refl h
    where
      before : Part
      before = part_of None (Mark f w (suc more) ∷ is) s

      behind : Part
      behind = record {
        owner = Some (new_context n f (firing_job w t));
        waiting = Mark f w more ∷ is;
        said = record { state = without_least s.state; groups = s.groups };
      }

      le_self : (k : ℕ) → k ≤ k
      le_self k = omega arith

      fires : int_le t w ≡ true → key_fires p w (suc more) s ≡ key_fires p w more (ran p (firing_job w t) (without_least s.state) s)
      fires x = ap (λ (l : List ℤ). fire_first p w (key_fires p w more) l s) e ∙ cond-true (int_le t w) _ s x

      of : (b : Bool) → int_le t w ≡ b → settled p (cond b behind before) ≡ settled p before → Goes p Good [] before (cond b behind before)
      of true x l = record {
        settles = l;
        good = tt;
        wrote = sym (unbegun_lines s (firing_job w t)) ∙ sym (append-nil (lines_in (s.groups ++ [])));
        sorted = λ hi y. (y.1, (le_self f, y.1, y.2));
        upto = λ u hi y. by_cases (nat_le f u)
            (λ z. grows_path _ _ (rw z (ap (λ (v : Said). said_lines (rest_items p (until u is) v)) (fires x))))
            (λ z. rw z (none_left u is s (record { state = without_least s.state; groups = s.groups }) (late_until u f hi is (leb-false f u z) y.2) (grows_refl (said_lines s))));
      }
      of false x l = same_goes before tt

  fire_of : (n : ℕ) (o : Option Context) (is : List Waiting) (s : Said) → OwnerGood Good o → Goes p Good [] (part_of o is s) (fire_front n o is (part_of o is s))
  fire_of n None [] s g = same_goes (part_of None [] s) g
  fire_of n None (Row i f facts ∷ is) s g = same_goes (part_of None (Row i f facts ∷ is) s) g
  fire_of n None (Mark f w zero ∷ is) s g = same_goes (part_of None (Mark f w zero ∷ is) s) g
  fire_of n None (Mark f w (suc more) ∷ is) s g = fire_due_goes n f w more is s.state.times s refl (fired p Good H n (part_of None (Mark f w (suc more) ∷ is) s))
  fire_of n (Some c) is s g = same_goes (part_of (Some c) is s) g

  pub fire_goes : (n : ℕ) (q : Part) → OwnerGood Good q.owner → Goes p Good [] q (fire n q)
  fire_goes n q g = fire_of n q.owner q.waiting q.said g

  -- a row or a mark of a later epoch

  row_last : (e f n : ℕ) (facts : Facts) (o : Option Context) (is : List Waiting) (s : Said) → e < f → upto p e (part_of o (is ++ Row n f facts ∷ []) s) ≡ upto_at p e o is s
  unfolding upto
  row_last e f n facts o is s h = ap (λ (l : List Waiting). rest_items p l (owner_upto p e o s)) (until_row e f n facts is h)

  mark_last : (e f : ℕ) (v : ℤ) (m : ℕ) (o : Option Context) (is : List Waiting) (s : Said) → e < f → upto p e (part_of o (is ++ Mark f v m ∷ []) s) ≡ upto_at p e o is s
  unfolding upto
  mark_last e f v m o is s h = ap (λ (l : List Waiting). rest_items p l (owner_upto p e o s)) (until_mark e f v m is h)

  admit_at_upto : (e f n : ℕ) (facts : Facts) (o : Option Context) (is : List Waiting) (s : Said) → e < f → upto p e (admit_at n f facts o is s) ≡ upto_at p e o is s
  unfolding upto
  admit_at_upto e f n facts None [] s h = rw (lt-leb f e h) refl
  admit_at_upto e f n facts None (i ∷ is) s h = row_last e f n facts None (i ∷ is) s h
  admit_at_upto e f n facts (Some c) is s h = row_last e f n facts (Some c) is s h

  mark_at_upto : (e f : ℕ) (v : ℤ) (m : ℕ) (o : Option Context) (is : List Waiting) (s : Said) → e < f → upto p e (mark_at f v m o is s) ≡ upto_at p e o is s
  unfolding upto
  mark_at_upto e f v m None [] s h = of (is_due v s.state.times)
    where
      of : (b : Bool) → upto p e (cond b (part_of None (Mark f v m ∷ []) s) (part_of None [] s)) ≡ s
      of true = mark_last e f v m None [] s h
      of false = refl
  mark_at_upto e f v m None (i ∷ is) s h = mark_last e f v m None (i ∷ is) s h
  mark_at_upto e f v m (Some c) is s h = mark_last e f v m (Some c) is s h

  pub admit_upto : (e f n : ℕ) (facts : Facts) (q : Part) → e < f → upto p e (admit n f facts q) ≡ upto p e q
  unfolding upto
  admit_upto e f n facts q h = admit_at_upto e f n facts q.owner q.waiting q.said h

  pub mark_upto : (e f : ℕ) (v : ℤ) (m : ℕ) (q : Part) → e < f → upto p e (mark f v m q) ≡ upto p e q
  unfolding upto
  mark_upto e f v m q h = mark_at_upto e f v m q.owner q.waiting q.said h

  -- what they leave
  pub record Keeps (hi : ℕ) (a b : Part) : Type 0 where
    pub good : OwnerGood Good b.owner
    pub lines : part_lines b ≡ part_lines a
    pub sorted : PartSorted hi b

  admit_at_keeps : (hi n : ℕ) (facts : Facts) (o : Option Context) (is : List Waiting) (s : Said) → OwnerGood Good o → OwnerSorted hi o is → Keeps hi (part_of o is s) (admit_at n hi facts o is s)
  unfolding OwnerGood StageGood OwnerSorted PartSorted Sorted
  admit_at_keeps hi n facts None [] s g h = record { good = tt; lines = sym (unbegun_lines s (on_row facts)); sorted = (omega arith, tt) }
  admit_at_keeps hi n facts None (i ∷ is) s g h = record { good = tt; lines = refl; sorted = sorted_row 0 hi n facts (i ∷ is) (omega arith) h }
  admit_at_keeps hi n facts (Some c) is s g h = record { good = g; lines = refl; sorted = (h.0, sorted_row c.epoch hi n facts is h.0 h.1) }

  mark_at_keeps : (hi : ℕ) (w : ℤ) (more : ℕ) (o : Option Context) (is : List Waiting) (s : Said) → OwnerGood Good o → OwnerSorted hi o is → Keeps hi (part_of o is s) (mark_at hi w more o is s)
  unfolding OwnerGood StageGood OwnerSorted PartSorted Sorted
  mark_at_keeps hi w more None [] s g h = of (is_due w s.state.times)
    where
      of : (b : Bool) → Keeps hi (part_of None [] s) (cond b (part_of None (Mark hi w more ∷ []) s) (part_of None [] s))
      of true = record { good = tt; lines = refl; sorted = (omega arith, omega arith, tt) }
      of false = record { good = tt; lines = refl; sorted = tt }
  mark_at_keeps hi w more None (i ∷ is) s g h = record { good = tt; lines = refl; sorted = sorted_mark 0 hi w more (i ∷ is) (omega arith) h }
  mark_at_keeps hi w more (Some c) is s g h = record { good = g; lines = refl; sorted = (h.0, sorted_mark c.epoch hi w more is h.0 h.1) }

  pub admit_keeps : (hi n : ℕ) (facts : Facts) (q : Part) → OwnerGood Good q.owner → PartSorted hi q → Keeps hi q (admit n hi facts q)
  unfolding PartSorted
  admit_keeps hi n facts q g h = admit_at_keeps hi n facts q.owner q.waiting q.said g h

  pub mark_keeps : (hi : ℕ) (w : ℤ) (more : ℕ) (q : Part) → OwnerGood Good q.owner → PartSorted hi q → Keeps hi q (mark hi w more q)
  unfolding PartSorted
  mark_keeps hi w more q g h = mark_at_keeps hi w more q.owner q.waiting q.said g h

  -- all of a key is up to its greatest epoch
  owner_full : (e : ℕ) (o : Option Context) (is : List Waiting) (s : Said) → OwnerSorted e o is → (until e is ≡ is) × (owner_upto p e o s ≡ rest_owner p o s)
  unfolding OwnerSorted
  owner_full e None is s h = (all_until e 0 is h, refl)
  owner_full e (Some c) is s h = (all_until e c.epoch is h.1, (rw (le-leb c.epoch e h.0) refl))

  pub full_upto : (e : ℕ) (q : Part) → PartSorted e q → upto p e q ≡ settled p q
  unfolding PartSorted upto
  full_upto e q h = let f : (until e q.waiting ≡ q.waiting) × (owner_upto p e q.owner q.said ≡ rest_owner p q.owner q.said) = owner_full e q.owner q.waiting q.said h in
      ap₂ (λ (is : List Waiting) (s : Said). rest_items p is s) f.0 f.1

  -- where nothing up to an epoch is left

  later_until : (e : ℕ) (is : List Waiting) → WaitLater e is → until e is ≡ []
  later_until e [] h = refl
  later_until e (Row n f facts ∷ is) h = rw (lt-leb f e h.0) (later_until e is h.1)
  later_until e (Mark f w more ∷ is) h = rw (lt-leb f e h.0) (later_until e is h.1)

  late_lines : (j : Job) (st : Stage) (s : Said) → said_lines (stage_late j st s) ≡ lines_in (s.groups ++ stage_group j st ∷ [])
  late_lines j Unbegun s = sym (lines_last s.groups (unsaid j) ∙ append-nil (said_lines s))
  late_lines j (Begun r) s = refl

  later_owner : (e : ℕ) (o : Option Context) (s : Said) → OwnedLater e o → said_lines (owner_upto p e o s) ≡ lines_in (s.groups ++ owner_groups o)
  later_owner e None s h = sym (ap lines_in (append-nil s.groups))
  later_owner e (Some c) s h = rw (lt-leb c.epoch e h) (late_lines c.job c.stage s)

  pub finished_lines : (e : ℕ) (q : Part) → OwnedLater e q.owner × WaitLater e q.waiting → said_lines (upto p e q) ≡ part_lines q
  unfolding upto
  finished_lines e q h = ap (λ (is : List Waiting). said_lines (rest_items p is (owner_upto p e q.owner q.said))) (later_until e q.waiting h.1) ∙ later_owner e q.owner q.said h.0

  nothing_at : (e : ℕ) (o : Option Context) (is : List Waiting) (s : Said) → OwnerSorted e o is → OwnedLater e o → WaitLater e is → settled p (part_of o is s) ≡ s
  unfolding OwnerSorted Sorted
  nothing_at e None [] s h a b = refl
  nothing_at e None (Row n f facts ∷ is) s h a b = let x : f ≤ e = h.1 in let y : e < f = b.0 in absurd (omega arith)
  nothing_at e None (Mark f w more ∷ is) s h a b = let x : f ≤ e = h.1 in let y : e < f = b.0 in absurd (omega arith)
  nothing_at e (Some c) is s h a b = let x : c.epoch ≤ e = h.0 in let y : e < c.epoch = a in absurd (omega arith)

  -- where all of a key is up to the epoch and none of that is left, the key has settled
  pub nothing_left : (e : ℕ) (q : Part) → PartSorted e q → OwnedLater e q.owner × WaitLater e q.waiting → settled p q ≡ q.said
  unfolding PartSorted
  nothing_left e q s f = nothing_at e q.owner q.waiting q.said s f.0 f.1
