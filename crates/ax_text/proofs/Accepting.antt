-- An accepted text fits the footprint of everything.
use Rattle.std.proofs.Common.{◌≡◌, ℕ, List, [], ◌∷◌, ◌++◌, Bool, true, false, not, ◌&&◌, ◌||◌, nat_eq, refl, ap, ◌∙◌, ◌⊎◌, inl, inr, ⊎_elim}
use Rattle.std.proofs.lemmas.Bool.{and_parts, both_ways, eq-eqb, eqb-true}
use Rattle.ax_text.specs.Texts.{Text, Stop, Act, Ask, If, Each, Both}
use Rattle.ax_text.specs.Prints.{Print, prints, has, meet, collide, clash, are_silent, is_apart, are_apart, is_accepted}
use Rattle.ax_text.specs.Footprints.{Footprint, IsWithin, IsApart, AllIn, LineFits, Fits}
use Rattle.ax_text.specs.Sound.{everything}

or_false : (a b : Bool) → (a || b) ≡ false → (a ≡ false) × (b ≡ false)
or_false true b h = absurd (both_ways true h refl)
or_false false b h = (refl, h)

or_true : (a b : Bool) → (a || b) ≡ true → (a ≡ true) ⊎ (b ≡ true)
or_true true b h = inl refl
or_true false b h = inr h

or_left : (a b : Bool) → a ≡ true → (a || b) ≡ true
or_left true b h = refl
or_left false b h = absurd (both_ways false refl h)

or_right : (a b : Bool) → b ≡ true → (a || b) ≡ true
or_right true b h = refl
or_right false b h = h

not_true : (b : Bool) → not b ≡ true → b ≡ false
not_true true h = absurd (both_ways false refl h)
not_true false h = refl

not_meet : (n : ℕ) (xs ys : List ℕ) → meet xs ys ≡ false → has n xs ≡ true → has n ys ≡ false
not_meet n [] ys h m = absurd (both_ways false refl m)
not_meet n (x ∷ xs) ys h m = ⊎_elim
    (λ e. ap (λ (i : ℕ). has i ys) (eqb-true n x e) ∙ (or_false (has x ys) (meet xs ys) h).0)
    (λ e. not_meet n xs ys (or_false (has x ys) (meet xs ys) h).1 e)
    (or_true (nat_eq n x) (has n xs) m)

turned : (a b : Bool) → (a ≡ true → b ≡ false) → b ≡ true → a ≡ false
turned true b h e = absurd (both_ways b (h refl) e)
turned false b h e = refl

-- some line has n in this list of its print
pub touches : (Print → List ℕ) → ℕ → List Print → Bool
touches g n [] = false
touches g n (p ∷ ps) = has n (g p) || touches g n ps

-- the footprint of lines
pub of_lines : List Print → Footprint
of_lines ps = record {
  reads = λ n. touches (λ p. p.sets) n ps || touches (λ p. p.reads) n ps;
  sets = λ n. touches (λ p. p.sets) n ps;
  uses = λ n. touches (λ p. p.changes) n ps || touches (λ p. p.gets) n ps;
  changes = λ n. touches (λ p. p.changes) n ps;
  speaks = not (are_silent ps);
  sets_read = λ n h. or_left (touches (λ p. p.sets) n ps) _ h;
  changes_used = λ n h. or_left (touches (λ p. p.changes) n ps) _ h;
}

pub AllFit : List Print → Footprint → Type 0
AllFit [] F = Unit {0}
AllFit (p ∷ ps) F = LineFits p F × AllFit ps F

fit_one : (ps qs : List Print) (F : Footprint) → AllFit (ps ++ qs) F → AllFit ps F
unfolding AllFit
fit_one [] qs F h = tt
fit_one (p ∷ ps) qs F h = (h.0, fit_one ps qs F h.1)

fit_two : (ps qs : List Print) (F : Footprint) → AllFit (ps ++ qs) F → AllFit qs F
unfolding AllFit
fit_two [] qs F h = h
fit_two (p ∷ ps) qs F h = fit_two ps qs F h.1

all_in : (xs : List ℕ) (P : ℕ → Bool) (n : ℕ) → AllIn xs P → has n xs ≡ true → P n ≡ true
all_in [] P n h m = absurd (both_ways false refl m)
all_in (x ∷ xs) P n h m = ⊎_elim (λ e. ap P (eqb-true n x e) ∙ h.0) (λ e. all_in xs P n h.1 e) (or_true (nat_eq n x) (has n xs) m)

in_all : (xs : List ℕ) (P : ℕ → Bool) → ((n : ℕ) → has n xs ≡ true → P n ≡ true) → AllIn xs P
in_all [] P h = tt
in_all (x ∷ xs) P h = (h x (or_left (nat_eq x x) (has x xs) (eq-eqb x x refl)), in_all xs P (λ n m. h n (or_right (nat_eq n x) (has n xs) m)))

-- all lines fit, so what they touch lies within
inside : (g : Print → List ℕ) (P : ℕ → Bool) (F : Footprint) (n : ℕ) (ps : List Print) → ((p : Print) → LineFits p F → AllIn (g p) P) → AllFit ps F → touches g n ps ≡ true → P n ≡ true
unfolding AllFit touches
inside g P F n [] l h m = absurd (both_ways false refl m)
inside g P F n (p ∷ ps) l h m = ⊎_elim (λ e. all_in (g p) P n (l p h.0) e) (λ e. inside g P F n ps l h.1 e) (or_true (has n (g p)) (touches g n ps) m)

loud : (F : Footprint) (ps : List Print) → AllFit ps F → not (are_silent ps) ≡ true → F.speaks ≡ true
unfolding AllFit
loud F [] h m = absurd (both_ways false refl m)
loud F (p ∷ ps) h m = of p.loud refl m (loud F ps h.1) where
  of : (b : Bool) → p.loud ≡ b → not (not b && are_silent ps) ≡ true → (not (are_silent ps) ≡ true → F.speaks ≡ true) → F.speaks ≡ true
  of true e x go = h.0.speaks e
  of false e x go = go x

within : (ps : List Print) (F : Footprint) → AllFit ps F → IsWithin (of_lines ps) F
unfolding of_lines
within ps F h = record {
  reads = λ n m. ⊎_elim (λ x. F.sets_read n (inside (λ p. p.sets) F.sets F n ps (λ p l. l.sets) h x)) (λ x. inside (λ p. p.reads) F.reads F n ps (λ p l. l.reads) h x) (or_true _ _ m);
  sets = λ n m. inside (λ p. p.sets) F.sets F n ps (λ p l. l.sets) h m;
  uses = λ n m. ⊎_elim (λ x. F.changes_used n (inside (λ p. p.changes) F.changes F n ps (λ p l. l.changes) h x)) (λ x. inside (λ p. p.gets) F.uses F n ps (λ p l. l.gets) h x) (or_true _ _ m);
  changes = λ n m. inside (λ p. p.changes) F.changes F n ps (λ p l. l.changes) h m;
  speaks = λ m. loud F ps h m;
}

line_within : (p : Print) (G F : Footprint) → IsWithin G F → LineFits p G → LineFits p F
line_within p G F i l = record {
  sets = in_all p.sets F.sets (λ n m. i.sets n (all_in p.sets G.sets n l.sets m));
  reads = in_all p.reads F.reads (λ n m. i.reads n (all_in p.reads G.reads n l.reads m));
  changes = in_all p.changes F.changes (λ n m. i.changes n (all_in p.changes G.changes n l.changes m));
  gets = in_all p.gets F.uses (λ n m. i.uses n (all_in p.gets G.uses n l.gets m));
  speaks = λ e. i.speaks (l.speaks e);
}

all_within : (ps : List Print) (G F : Footprint) → IsWithin G F → AllFit ps G → AllFit ps F
unfolding AllFit
all_within [] G F i h = tt
all_within (p ∷ ps) G F i h = (line_within p G F i h.0, all_within ps G F i h.1)

louder : (a b : Bool) → not b ≡ true → not (a && b) ≡ true
louder true b h = h
louder false b h = refl

more : (p : Print) (ps : List Print) → IsWithin (of_lines ps) (of_lines (p ∷ ps))
unfolding of_lines touches
more p ps = record {
  reads = λ n m. ⊎_elim (λ x. or_left _ _ (or_right (has n p.sets) _ x)) (λ x. or_right (has n p.sets || touches (λ q. q.sets) n ps) _ (or_right (has n p.reads) _ x)) (or_true _ _ m);
  sets = λ n m. or_right (has n p.sets) _ m;
  uses = λ n m. ⊎_elim (λ x. or_left _ _ (or_right (has n p.changes) _ x)) (λ x. or_right (has n p.changes || touches (λ q. q.changes) n ps) _ (or_right (has n p.gets) _ x)) (or_true _ _ m);
  changes = λ n m. or_right (has n p.changes) _ m;
  speaks = λ m. louder (not p.loud) (are_silent ps) m;
}

here : (p : Print) (ps : List Print) → LineFits p (of_lines (p ∷ ps))
unfolding of_lines touches
here p ps = record {
  sets = in_all p.sets _ (λ n m. or_left (has n p.sets) _ m);
  reads = in_all p.reads _ (λ n m. or_right (has n p.sets || touches (λ q. q.sets) n ps) _ (or_left (has n p.reads) _ m));
  changes = in_all p.changes _ (λ n m. or_left (has n p.changes) _ m);
  gets = in_all p.gets _ (λ n m. or_right (has n p.changes || touches (λ q. q.changes) n ps) _ (or_left (has n p.gets) _ m));
  speaks = λ e. ap (λ (b : Bool). not (not b && are_silent ps)) e;
}

pub fit_self : (ps : List Print) → AllFit ps (of_lines ps)
unfolding AllFit
fit_self [] = tt
fit_self (p ∷ ps) = (here p ps, all_within ps (of_lines ps) (of_lines (p ∷ ps)) (more p ps) (fit_self ps))

-- lines that don't clash

Parted : (Print → List ℕ) → (Print → List ℕ) → Type 0
Parted g h = (p q : Print) (n : ℕ) → clash p q ≡ false → has n (g p) ≡ true → has n (h q) ≡ false

parted_line : (g h : Print → List ℕ) (n : ℕ) (ps : List Print) (q : Print) → Parted g h → is_apart ps q ≡ true → touches g n ps ≡ true → has n (h q) ≡ false
unfolding touches Parted
parted_line g h n [] q d a m = absurd (both_ways false refl m)
parted_line g h n (p ∷ ps) q d a m =
    let x : (not (clash p q) ≡ true) × (is_apart ps q ≡ true) = and_parts (not (clash p q)) (is_apart ps q) a in
    ⊎_elim (λ e. d p q n (not_true (clash p q) x.0) e) (λ e. parted_line g h n ps q d x.1 e) (or_true (has n (g p)) (touches g n ps) m)

both_false : (a b : Bool) → a ≡ false → b ≡ false → (a || b) ≡ false
both_false true b h g = absurd (both_ways true h refl)
both_false false b h g = g

parted : (g h : Print → List ℕ) (n : ℕ) (ps qs : List Print) → Parted g h → are_apart ps qs ≡ true → touches g n ps ≡ true → touches h n qs ≡ false
unfolding touches
parted g h n ps [] d a m = refl
parted g h n ps (q ∷ qs) d a m =
    let x : (is_apart ps q ≡ true) × (are_apart ps qs ≡ true) = and_parts (is_apart ps q) (are_apart ps qs) a in
    both_false (has n (h q)) (touches h n qs) (parted_line g h n ps q d x.0 m) (parted g h n ps qs d x.1 m)

module _ (w r w' r' : List ℕ) (h : collide w r w' r' ≡ false) where
  writes_apart : (meet w w' ≡ false) × (meet w r' ≡ false) × (meet r w' ≡ false)
  writes_apart =
      let x : (meet w w' ≡ false) × ((meet w r' || meet r w') ≡ false) = or_false _ _ h in
      (x.0, (or_false _ _ x.1).0, (or_false _ _ x.1).1)

names_of_clash : (p q : Print) → clash p q ≡ false → (meet p.sets q.sets ≡ false) × (meet p.sets q.reads ≡ false) × (meet p.reads q.sets ≡ false)
names_of_clash p q h = writes_apart p.sets p.reads q.sets q.reads (or_false _ _ h).0

states_of_clash : (p q : Print) → clash p q ≡ false → (meet p.changes q.changes ≡ false) × (meet p.changes q.gets ≡ false) × (meet p.gets q.changes ≡ false)
states_of_clash p q h = writes_apart p.changes p.gets q.changes q.gets (or_false _ _ h).1

pub arms_apart : (ps qs : List Print) → are_silent ps ≡ true → are_silent qs ≡ true → are_apart ps qs ≡ true → IsApart (of_lines ps) (of_lines qs)
unfolding of_lines Parted
arms_apart ps qs s t a = record {
  one_quiet = ap not s;
  two_quiet = ap not t;
  names_one = λ n m. both_false _ _ (parted (λ p. p.sets) (λ p. p.sets) n ps qs (λ p q i c. not_meet i p.sets q.sets (names_of_clash p q c).0) a m)
      (parted (λ p. p.sets) (λ p. p.reads) n ps qs (λ p q i c. not_meet i p.sets q.reads (names_of_clash p q c).1) a m);
  names_two = λ n m. both_false _ _ (turned _ _ (parted (λ p. p.sets) (λ p. p.sets) n ps qs (λ p q i c. not_meet i p.sets q.sets (names_of_clash p q c).0) a) m)
      (turned _ _ (parted (λ p. p.reads) (λ p. p.sets) n ps qs (λ p q i c. not_meet i p.reads q.sets (names_of_clash p q c).2) a) m);
  states_one = λ n m. both_false _ _ (parted (λ p. p.changes) (λ p. p.changes) n ps qs (λ p q i c. not_meet i p.changes q.changes (states_of_clash p q c).0) a m)
      (parted (λ p. p.changes) (λ p. p.gets) n ps qs (λ p q i c. not_meet i p.changes q.gets (states_of_clash p q c).1) a m);
  states_two = λ n m. both_false _ _ (turned _ _ (parted (λ p. p.changes) (λ p. p.changes) n ps qs (λ p q i c. not_meet i p.changes q.changes (states_of_clash p q c).0) a) m)
      (turned _ _ (parted (λ p. p.gets) (λ p. p.changes) n ps qs (λ p q i c. not_meet i p.gets q.changes (states_of_clash p q c).2) a) m);
}

pub fits_ok : (c : Text) (F : Footprint) → is_accepted c ≡ true → AllFit (prints c) F → Fits c F
unfolding is_accepted AllFit
fits_ok Stop F h p = tt
fits_ok (Act q c) F h p = (p.0, fits_ok c F h p.1)
fits_ok (Ask a c) F h p = (p.0, fits_ok c F h p.1)
fits_ok (If e a b c) F h p =
    let x = and_parts (is_accepted a) (is_accepted b && is_accepted c) h in
    let y = and_parts (is_accepted b) (is_accepted c) x.1 in
    let r = fit_two (prints a) (prints b ++ prints c) F p.1 in
    (p.0, fits_ok a F x.0 (fit_one (prints a) (prints b ++ prints c) F p.1), fits_ok b F y.0 (fit_one (prints b) (prints c) F r), fits_ok c F y.1 (fit_two (prints b) (prints c) F r))
fits_ok (Each l a c) F h p =
    let x = and_parts (is_accepted a) (is_accepted c) h in
    (p.0, fits_ok a F x.0 (fit_one (prints a) (prints c) F p.1), fits_ok c F x.1 (fit_two (prints a) (prints c) F p.1))
fits_ok (Both a b c) F h p =
    let x = and_parts (are_silent (prints a) && are_silent (prints b)) (are_apart (prints a) (prints b) && (is_accepted a && (is_accepted b && is_accepted c))) h in
    let q = and_parts (are_silent (prints a)) (are_silent (prints b)) x.0 in
    let y = and_parts (are_apart (prints a) (prints b)) (is_accepted a && (is_accepted b && is_accepted c)) x.1 in
    let u = and_parts (is_accepted a) (is_accepted b && is_accepted c) y.1 in
    let v = and_parts (is_accepted b) (is_accepted c) u.1 in
    let r = fit_two (prints a) (prints b ++ prints c) F p in (
      of_lines (prints a),
      of_lines (prints b),
      record { one = within (prints a) F (fit_one (prints a) (prints b ++ prints c) F p); two = within (prints b) F (fit_one (prints b) (prints c) F r); apart = arms_apart (prints a) (prints b) q.0 q.1 y.0 },
      fits_ok a (of_lines (prints a)) u.0 (fit_self (prints a)),
      fits_ok b (of_lines (prints b)) v.0 (fit_self (prints b)),
      fits_ok c F v.1 (fit_two (prints b) (prints c) F r),
    )

all_everything : (ps : List Print) → AllFit ps everything
unfolding AllFit everything
all_everything [] = tt
all_everything (p ∷ ps) = (
  record {
    sets = in_all p.sets _ (λ n m. refl);
    reads = in_all p.reads _ (λ n m. refl);
    changes = in_all p.changes _ (λ n m. refl);
    gets = in_all p.gets _ (λ n m. refl);
    speaks = λ e. refl;
  },
  all_everything ps,
)

pub accepted_fits : (c : Text) → is_accepted c ≡ true → Fits c everything
accepted_fits c h = fits_ok c everything h (all_everything (prints c))
