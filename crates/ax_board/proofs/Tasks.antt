-- How the seats change.
use Rattle.std.proofs.Common.{◌≡◌, ℕ, zero, suc, ◌+◌, ◌-◌, ◌<◌, ◌≤◌, ◌≢◌, Bool, true, false, List, [], ◌∷◌, ◌++◌, map, length, get_or, set, replicate, take, drop, sym, refl, ap, ◌∙◌, subst, arith, length-set, get_or-set_other, get_or-set_same, eq-eqb, ne_eqb, length-append, Option, Some, None}
use Rattle.std.proofs.lemmas.List.{map-set, length-map, map-append}
use mathlib.Core.Logic.{dite}
use mathlib.Core.Option.{some, some-injective, some-ne-none}
use native.Mathlib.Decide.{ℕ_discrete}
use lib.ListN.{get_elem?}
use Rattle.atomic_table.specs.Table.{Me, turned, rest}
use Rattle.ax_board.specs.declared.view.View.{View}
use Rattle.ax_board.specs.declared.view.View.TheVariants.{Task, Worker}
use Rattle.ax_board.specs.declared.view.Note.{Note}
use Rattle.ax_board.specs.declared.view.Note.TheVariants.{Closed, Home, Out}
use Rattle.ax_board.specs.Seats.{notes_of, told_of}
use Rattle.ax_board.specs.Seats.{held_of, slots_of, one_if, times, is_home, at_home, homes_in, IsTask}

true_or_false : {A : Type 0} → (b : Bool) → (b ≡ true → A) → (b ≡ false → A) → A
true_or_false true t f = t refl
true_or_false false t f = f refl

bool_is : {J : Type 0} (note : Note J) → is_home note ≡ true → note ≡ Home
bool_is Closed e = cc
bool_is Home e = refl
bool_is (Out j) e = cc

pub home_note : {J : Type 0} (notes : List (Note J)) (c : ℕ) → at_home notes c ≡ true → get_elem? notes c ≡ some Home
home_note [] c e = cc
home_note (x ∷ xs) zero e = ap some (bool_is x e)
home_note (x ∷ xs) (suc c) e = home_note xs c e

pub note_home : {J : Type 0} (notes : List (Note J)) (c : ℕ) (note : Note J) → get_elem? notes c ≡ some note → at_home notes c ≡ is_home note
note_home [] c note e = absurd (some-ne-none note (sym e))
note_home (x ∷ xs) zero note e = ap is_home (some-injective x note e)
note_home (x ∷ xs) (suc c) note e = note_home xs c note e

-- the cells that are home, after a change of one
homes-set : {J : Type 0} (notes : List (Note J)) (c : ℕ) (note : Note J) → c < length notes
    → homes_in (set notes c note) + one_if (at_home notes c) ≡ homes_in notes + one_if (is_home note)
homes-set [] c note h = absurd (omega arith)
homes-set (x ∷ xs) zero note h = omega arith
homes-set (x ∷ xs) (suc c) note h = omega (arith, homes-set xs c note (omega arith))

at_home-same : {J : Type 0} (notes : List (Note J)) (c : ℕ) (note : Note J) → c < length notes → at_home (set notes c note) c ≡ is_home note
at_home-same notes c note h = ap (λ (l : List Bool). get_or l c false) (map-set is_home notes c note) ∙ get_or-set_same (map is_home notes) c (is_home note) false (omega (arith, length-map notes is_home))

at_home-other : {J : Type 0} (notes : List (Note J)) (c d : ℕ) (note : Note J) → d ≢ c → at_home (set notes c note) d ≡ at_home notes d
at_home-other notes c d note ne = ap (λ (l : List Bool). get_or l d false) (map-set is_home notes c note) ∙ get_or-set_other (map is_home notes) c d (is_home note) false ne

homes_le : {J : Type 0} (notes : List (Note J)) → homes_in notes ≤ length notes
homes_le [] = omega arith
homes_le (x ∷ xs) = true_or_false (is_home x)
    (λ e. omega (arith, homes_le xs, ap one_if e))
    (λ e. omega (arith, homes_le xs, ap one_if e))

pub some_out : {J : Type 0} (notes : List (Note J)) (c : ℕ) → c < length notes → at_home notes c ≡ false → homes_in notes < length notes
some_out [] c h e = absurd (omega arith)
some_out (x ∷ xs) zero h e = omega (arith, homes_le xs, ap one_if e)
some_out (x ∷ xs) (suc c) h e = true_or_false (is_home x)
    (λ i. omega (arith, some_out xs c (omega arith) e, ap one_if i))
    (λ i. omega (arith, some_out xs c (omega arith) e, ap one_if i))

pub times-append : (c : ℕ) (xs ys : List ℕ) → times c (xs ++ ys) ≡ times c xs + times c ys
times-append c [] ys = omega arith
times-append c (x ∷ xs) ys = omega (arith, times-append c xs ys)

-- the slot in front comes last
map_turned : {W : Type 0} (held : List (ℕ × Option W)) → map (λ (x : ℕ × Option W). x.0) (turned held) ≡ drop 1 (map (λ (x : ℕ × Option W). x.0) held) ++ take 1 (map (λ (x : ℕ × Option W). x.0) held)
map_turned [] = refl
map_turned {W} (x ∷ xs) = map-append (λ (x : ℕ × Option W). x.0) xs (x ∷ [])

times_turned : (c : ℕ) (order : List ℕ) → times c (drop 1 order ++ take 1 order) ≡ times c order
times_turned c [] = refl
times_turned c (x ∷ xs) = omega (arith, times-append c xs (x ∷ []))

length_turned : (order : List ℕ) → length (drop 1 order ++ take 1 order) ≡ length order
length_turned [] = refl
length_turned (x ∷ xs) = omega (arith, length-append xs (x ∷ []))

-- the slot in front is the one of the first cell
pub in_front : {W : Type 0} (held : List (ℕ × Option W)) (c : ℕ) (more : List ℕ) → map (λ (x : ℕ × Option W). x.0) held ≡ c ∷ more → (x : Option W) × (held ≡ (c, x) ∷ rest held)
in_front [] c more e = absurd (let z : 0 ≡ suc (length more) = ap length e in omega arith)
in_front (y ∷ ys) c more e = (y.1, ap (λ (k : ℕ). (k, y.1) ∷ ys) (ap (λ (l : List ℕ). get_or l 0 0) e))

pub front_slot : {W : Type 0} (l more : List (ℕ × Option W)) (c : ℕ) (x : Option W) → l ≡ (c, x) ∷ more → (y : Option W) × (l ≡ (c, y) ∷ rest l)
front_slot {W = W} l more c x e = (x, e ∙ ap (λ (t : List (ℕ × Option W)). (c, x) ∷ t) (sym (ap rest e)))

closed_at : (J : Type 0) (n c : ℕ) → at_home {J = J} (replicate n Closed) c ≡ false
closed_at J zero c = refl
closed_at J (suc n) zero = refl
closed_at J (suc n) (suc c) = closed_at J n c

closed_homes : (J : Type 0) (n : ℕ) → homes_in {J = J} (replicate n Closed) ≡ 0
closed_homes J zero = refl
closed_homes J (suc n) = omega (arith, closed_homes J n)

pub closed_flags : (J : Type 0) (n : ℕ) → replicate n false ≡ map (is_home {J = J}) (replicate n Closed)
closed_flags J zero = refl
closed_flags J (suc n) = ap (λ l. false ∷ l) (closed_flags J n)

-- some cells are open, and the others closed
pub next_closed : (J : Type 0) (i k : ℕ) → 0 < k → get_elem? {A = Note J} (replicate i Home ++ replicate k Closed) i ≡ some Closed
next_closed J zero zero h = absurd (omega arith)
next_closed J zero (suc k) h = refl
next_closed J (suc i) k h = next_closed J i k h

pub next_opened : (J : Type 0) (i k : ℕ) → set {A = Note J} (replicate i Home ++ replicate (suc k) Closed) i Home ≡ replicate (suc i) Home ++ replicate k Closed
next_opened J zero k = refl
next_opened J (suc i) k = ap (λ (l : List (Note J)). Home ∷ l) (next_opened J i k)

pub next_open : (J : Type 0) (i n : ℕ) → i < n → set {A = Note J} (replicate i Home ++ replicate (n - i) Closed) i Home ≡ replicate (i + 1) Home ++ replicate (n - (i + 1)) Closed
next_open J i n h =
    let e : n - i ≡ suc (n - (i + 1)) = omega arith in
    let f : i + 1 ≡ suc i = omega arith in
    ap (λ (k : ℕ). set {A = Note J} (replicate i Home ++ replicate k Closed) i Home) e ∙ (next_opened J i (n - (i + 1)) ∙ ap (λ (k : ℕ). replicate k Home ++ replicate (n - (i + 1)) Closed) (sym f))

module _ {W J : Type 0} where
  -- a cell that comes home
  pub comes_home : (notes : List (Note J)) (told : Bool) (held : List (ℕ × Option W)) (order : List ℕ) (c : ℕ) (x : Option W)
      → IsTask (Task notes told, held) order notes → c < length notes → at_home notes c ≡ false
      → IsTask (Task (set notes c Home) told, (c, x) ∷ held) (c ∷ order) (set notes c Home)
  comes_home notes told held order c x t below out = record {
    view = refl;
    slots = ap (λ (l : List ℕ). c ∷ l) t.slots;
    once = λ d. dite (ℕ_discrete d c)
        (λ (e : d ≡ c). subst (λ (d : ℕ). times d (c ∷ order) ≡ one_if (at_home (set notes c Home) d)) (sym e)
        (omega (arith, t.once c, ap one_if out, ap one_if (at_home-same notes c Home below), ap one_if (eq-eqb c c refl))))
        (λ (ne : d ≢ c). omega (arith, t.once d, ap one_if (at_home-other notes c d Home ne), ap one_if (ne_eqb c d (λ e. ne (sym e)))));
    few = omega (arith, t.few, homes-set notes c Home below, ap one_if out);
  }

  -- a cell that goes out
  pub goes_out : (notes : List (Note J)) (told : Bool) (held : List (ℕ × Option W)) (order : List ℕ) (c : ℕ) (x : Option W) (j : J)
      → IsTask (Task notes told, (c, x) ∷ held) (c ∷ order) notes → c < length notes → at_home notes c ≡ true
      → IsTask (Task (set notes c (Out j)) told, held) order (set notes c (Out j))
  goes_out notes told held order c x j t below home = record {
    view = refl;
    slots = ap (drop 1) t.slots;
    once = λ d. dite (ℕ_discrete d c)
        (λ (e : d ≡ c). subst (λ (d : ℕ). times d order ≡ one_if (at_home (set notes c (Out j)) d)) (sym e)
        (omega (arith, t.once c, ap one_if home, ap one_if (at_home-same notes c (Out j) below), ap one_if (eq-eqb c c refl))))
        (λ (ne : d ≢ c). omega (arith, t.once d, ap one_if (at_home-other notes c d (Out j) ne), ap one_if (ne_eqb c d (λ e. ne (sym e)))));
    few = omega (arith, t.few, homes-set notes c (Out j) below, ap one_if home);
  }

  pub turns : (me : Me (Option W) (View J)) (order : List ℕ) (notes : List (Note J)) → IsTask me order notes
      → IsTask (me.0, turned me.1) (drop 1 order ++ take 1 order) notes
  turns me order notes t = record {
    view = t.view;
    slots = map_turned me.1 ∙ ap (λ (l : List ℕ). drop 1 l ++ take 1 l) t.slots;
    once = λ c. times_turned c order ∙ t.once c;
    few = length_turned order ∙ t.few;
  }

  task_is : (m : Me (Option W) (View J)) (order : List ℕ) → IsTask m order (notes_of m.0) → IsTask (Task (notes_of m.0) (told_of m.0), m.1) order (notes_of m.0)
  task_is m order t = subst (λ (v : View J). IsTask (v, m.1) order (notes_of m.0)) t.view t

  pub comes : (m n : Me (Option W) (View J)) (order : List ℕ) (c : ℕ) (x : Option W) → IsTask m order (notes_of m.0) → c < length (notes_of m.0) → at_home (notes_of m.0) c ≡ false
      → n ≡ (Task (set (notes_of m.0) c Home) (told_of m.0), (c, x) ∷ m.1) → IsTask n (c ∷ order) (notes_of n.0)
  comes m n order c x t below out is = subst (λ (k : Me (Option W) (View J)). IsTask k (c ∷ order) (notes_of k.0)) (sym is) (comes_home (notes_of m.0) (told_of m.0) m.1 order c x (task_is m order t) below out)

  pub goes : (m n : Me (Option W) (View J)) (order more : List ℕ) (c : ℕ) (j : J) → IsTask m order (notes_of m.0) → c < length (notes_of m.0) → at_home (notes_of m.0) c ≡ true
      → order ≡ c ∷ more → n ≡ (Task (set (notes_of m.0) c (Out j)) (told_of m.0), rest m.1) → IsTask n more (notes_of n.0)
  goes m n order more c j t below home first is =
      let front = in_front m.1 c more (t.slots ∙ first) in
      let t' : IsTask (Task (notes_of m.0) (told_of m.0), (c, front.0) ∷ rest m.1) (c ∷ more) (notes_of m.0) =
      subst (λ (o : List ℕ). IsTask (Task (notes_of m.0) (told_of m.0), (c, front.0) ∷ rest m.1) o (notes_of m.0)) first
      (subst (λ (l : List (ℕ × Option W)). IsTask (Task (notes_of m.0) (told_of m.0), l) order (notes_of m.0)) front.1 (task_is m order t)) in
      subst (λ (k : Me (Option W) (View J)). IsTask k more (notes_of k.0)) (sym is) (goes_out (notes_of m.0) (told_of m.0) (rest m.1) more c front.0 j t' below home)

  -- another value in the slot in front
  pub refilled : (m n : Me (Option W) (View J)) (order : List ℕ) (c : ℕ) (x y : Option W) → IsTask m order (notes_of m.0) → m.1 ≡ (c, x) ∷ rest m.1
      → n ≡ (m.0, (c, y) ∷ rest m.1) → IsTask n order (notes_of n.0)
  refilled m n order c x y t front is = subst (λ (k : Me (Option W) (View J)). IsTask k order (notes_of k.0)) (sym is) record {
    view = t.view;
    slots = sym (ap (map (λ (z : ℕ × Option W). z.0)) front) ∙ t.slots;
    once = t.once;
    few = t.few;
  }

  -- the seat of a worker that notes nothing
  pub idle : (m : Me (Option W) (View J)) → m ≡ (Worker (held_of m.0), slots_of (held_of m.0)) → held_of m.0 ≡ None → m ≡ (Worker None, [])
  idle m is empty = is ∙ ap (λ (h : Option (ℕ × J)). (Worker h, slots_of h)) empty

  pub busy : (m n : Me (Option W) (View J)) (c : ℕ) (j : J) (x : Option W) → m ≡ (Worker (held_of m.0), slots_of (held_of m.0)) → held_of m.0 ≡ Some (c, j)
      → n ≡ (m.0, (c, x) ∷ rest m.1) → n ≡ (Worker (Some (c, j)), (c, x) ∷ [])
  busy m n c j x is held now = now ∙ (ap (λ (k : Me (Option W) (View J)). (k.0, (c, x) ∷ rest k.1)) is ∙ ap (λ (h : Option (ℕ × J)). (Worker h, (c, x) ∷ rest (slots_of {W = W} {J = J} h))) held)

  pub room_for : (m : Me (Option W) (View J)) (order : List ℕ) (c : ℕ) → IsTask m order (notes_of m.0) → c < length (notes_of m.0) → at_home (notes_of m.0) c ≡ false → length order < length (notes_of m.0)
  room_for m order c t below out = omega (arith, t.few, some_out (notes_of m.0) c below out)

  pub flags_now : (m n : Me (Option W) (View J)) (c : ℕ) (note : Note J) (slots : List (ℕ × Option W)) → n ≡ (Task (set (notes_of m.0) c note) (told_of m.0), slots) → set (map is_home (notes_of m.0)) c (is_home note) ≡ map is_home (notes_of n.0)
  flags_now m n c note slots is = sym (map-set is_home (notes_of m.0) c note) ∙ sym (ap (λ (k : Me (Option W) (View J)). map is_home (notes_of k.0)) is)

  pub length_now : (m n : Me (Option W) (View J)) (c : ℕ) (note : Note J) (slots : List (ℕ × Option W)) → n ≡ (Task (set (notes_of m.0) c note) (told_of m.0), slots) → length (notes_of n.0) ≡ length (notes_of m.0)
  length_now m n c note slots is = ap (λ (k : Me (Option W) (View J)). length (notes_of k.0)) is ∙ length-set (notes_of m.0) c note

  -- the task's seat, once the slot in front was filled and given back
  pub posted_task : (a m n : Me (Option W) (View J)) (order more : List ℕ) (c : ℕ) (x y : Option W) (j : J) → IsTask a order (notes_of a.0) → order ≡ c ∷ more
      → m ≡ (a.0, (c, y) ∷ rest a.1) → c < length (notes_of a.0) → at_home (notes_of a.0) c ≡ true
      → n ≡ (Task (set (notes_of m.0) c (Out j)) (told_of m.0), rest m.1) → IsTask n more (notes_of n.0)
  posted_task a m n order more c x y j t first filled below home is =
      let front = in_front a.1 c more (t.slots ∙ first) in
      let same : notes_of m.0 ≡ notes_of a.0 = ap (λ (k : Me (Option W) (View J)). notes_of k.0) filled in
      goes m n order more c j (refilled a m order c front.0 y t front.1 filled) (subst (λ (l : List (Note J)). c < length l) (sym same) below) (ap (λ (l : List (Note J)). at_home l c) same ∙ home) first is

  pub closed_task : (n : ℕ) → IsTask {W = W} {J = J} (Task (replicate n Closed) false, []) [] (replicate n Closed)
  closed_task n = record {
    view = refl;
    slots = refl;
    once = λ c. ap one_if (sym (closed_at J n c));
    few = sym (closed_homes J n);
  }
