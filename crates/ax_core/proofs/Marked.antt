-- A watermark waits at many keys, one after the other.
use mathlib.Core.Path.{fun_ext}
use Rattle.std.proofs.Common.{◌≡◌, ℤ, List, [], ◌∷◌, ◌++◌, Bool, true, false, cond, ◌||◌, Option, Some, None, Less, Equal, refl, sym, ap, ◌∙◌, subst, ◌⊎◌, inl, inr, ⊎_elim}
use Rattle.std.specs.Str.{bytes_eq}
use Rattle.std.specs.List.{list_any, AllByRecursion}
use Rattle.std.specs.List.Sorted.{IsStrictlySortedBy}
use Rattle.std.proofs.lemmas.Bool.{cond-true, cond-false}
use Rattle.std.proofs.lemmas.Cmp.{nat_list_cmp_total, tied_itself}
use Rattle.ax_keys.specs.Keys.{key_cmp}
use Rattle.ax_machine.specs.Entries.{Key}
use Rattle.ax_machine.specs.Firings.{most_firings}
use Rattle.ax_machine.proofs.FiringLemmas.{key_is, same_key, has_head, has_tail, among}
use Rattle.ax_account.specs.Parts.{is_free}
use Rattle.ax_account.specs.Accounts.{part_of}
use Rattle.ax_time.specs.Timers.{times_of}
use Rattle.ax_execution.specs.Contexts.{Context, Waiting, Mark, is_due}
use Rattle.ax_execution.specs.KeyControls.{KeyControl}
use Rattle.ax_execution.specs.ControlTurns.{mark_at_on, mark_on}
use Rattle.ax_execution.specs.MachineControls.{MachineControl, control_at, control_goes_on}
use Rattle.ax_execution.proofs.Upto.{by_cases}
use Rattle.ax_execution.proofs.SingleKeys.{keyed, own_control, other_control}
use Rattle.ax_core.specs.declared.controller.Controller.{Controller}
use Rattle.ax_core.specs.Keys.{PartStands}
use Rattle.ax_core.specs.Closings.{Books, Marks, MarksIf, MarksAll}
use Rattle.ax_core.proofs.Marking.{BookLaws, Midway, Stays, marked_is, one_marked, free_part, free_control}

true_false : {A : Type 0} → true ≡ false → A
true_false e = absurd (cc e)

false_true : {A : Type 0} → false ≡ true → A
false_true e = absurd (cc e)

neither : (a b : Bool) → (a || b) ≡ false → (a ≡ false) × (b ≡ false)
neither true b h = true_false h
neither false b h = (refl, h)

both_false : (a b : Bool) → a ≡ false → b ≡ false → (a || b) ≡ false
both_false true b x y = true_false x
both_false false b x y = y

either : (a b : Bool) → (a || b) ≡ true → (a ≡ true) ⊎ (b ≡ true)
either true b h = inl refl
either false b h = inr h

-- the machine's control where these keys have the mark
abbrev pub with_controls : (Key → KeyControl) → MachineControl → MachineControl
with_controls controls m = record { wm = m.wm; epoch = m.epoch; keys = m.keys; controls = controls; must = m.must; unsent = m.unsent }

abbrev pub marked_at : (Key → Bool) → ℤ → MachineControl → MachineControl
marked_at done w m = with_controls (λ k. cond (done k) (mark_on m.epoch w most_firings (m.controls k)) (m.controls k)) m

-- a key is below none that are above it
not_less : (k : Key) → key_cmp k k ≡ Less → ⊥
not_less k h = let e : Equal ≡ Less = sym (tied_itself nat_list_cmp_total k) ∙ h in cc

pub apart_above : (k : Key) (ks : List Key) → AllByRecursion (λ y. key_cmp k y ≡ Less) ks → list_any (bytes_eq k) ks ≡ true → ⊥
apart_above k [] a h = false_true h
apart_above k (y ∷ ys) a h = ⊎_elim
    (λ (e : k ≡ y). not_less k (ap (key_cmp k) e ∙ a.0))
    (λ x. apart_above k ys a.1 x)
    (among k y ys h)

not_nil : (is : List Waiting) (x : Waiting) → is ++ x ∷ [] ≡ [] → ⊥
not_nil [] x h = cc h
not_nil (i ∷ is) x h = cc h

module _ (laws : BookLaws) (a : Controller) (w : ℤ) (m : MachineControl) (rise : IsStrictlySortedBy key_cmp m.keys) where
  -- the control of a key that has it, and of one that hasn't
  has_it : (done : Key → Bool) (k : Key) → done k ≡ true → (marked_at done w m).controls k ≡ mark_on m.epoch w most_firings (m.controls k)
  has_it done k x = cond-true (done k) (mark_on m.epoch w most_firings (m.controls k)) (m.controls k) x

  lacks_it : (done : Key → Bool) (k : Key) → done k ≡ false → (marked_at done w m).controls k ≡ m.controls k
  lacks_it done k x = cond-false (done k) (mark_on m.epoch w most_firings (m.controls k)) (m.controls k) x

  one_more : (done : Key → Bool) (k : Key) → done k ≡ false
      → control_goes_on k m.must (mark_on m.epoch w most_firings ((marked_at done w m).controls k)) (marked_at done w m) ≡ marked_at (λ j. bytes_eq k j || done j) w m
  one_more done k x = ap (λ (f : Key → KeyControl). with_controls f m) (fun_ext each)
    where
      each : (j : Key) → control_at (marked_at done w m).controls k (mark_on m.epoch w most_firings ((marked_at done w m).controls k)) j
          ≡ cond (bytes_eq k j || done j) (mark_on m.epoch w most_firings (m.controls j)) (m.controls j)
      each j = by_cases (bytes_eq k j)
          (λ y. subst (λ (i : Key). control_at (marked_at done w m).controls k (mark_on m.epoch w most_firings ((marked_at done w m).controls k)) i
          ≡ cond (bytes_eq k i || done i) (mark_on m.epoch w most_firings (m.controls i)) (m.controls i)) (key_is k j y)
          (own_control (marked_at done w m).controls k (mark_on m.epoch w most_firings ((marked_at done w m).controls k))
          ∙ ap (mark_on m.epoch w most_firings) (lacks_it done k x)
          ∙ sym (ap (λ (b : Bool). cond (b || done k) (mark_on m.epoch w most_firings (m.controls k)) (m.controls k)) (same_key k))))
          (λ y. other_control (marked_at done w m).controls k (mark_on m.epoch w most_firings ((marked_at done w m).controls k)) j y
          ∙ sym (ap (λ (b : Bool). cond (b || done j) (mark_on m.epoch w most_firings (m.controls j)) (m.controls j)) y))

  step : (done : Key → Bool) (k : Key) (s t : Books) → done k ≡ false → list_any (bytes_eq k) m.keys ≡ true → Stays w (m.controls k)
      → Midway a s (marked_at done w m) → Marks w k s t → Midway a t (marked_at (λ j. bytes_eq k j || done j) w m)
  step done k s t x known stays h marks = subst (Midway a t) (one_more done k x)
      (one_marked laws a w (marked_at done w m) rise k known (subst (Stays w) (sym (lacks_it done k x)) stays) s t h marks)

  -- behind the marks at some keys
  pub record Through (ks : List Key) (before : Key → Bool) (t : Books) : Type 0 where
    pub done : Key → Bool
    pub stands : Midway a t (marked_at done w m)
    pub only : (j : Key) → done j ≡ true → Stays w (m.controls j)
    pub kept : (j : Key) → done j ≡ false → before j ≡ false
    pub all : (j : Key) → done j ≡ false → list_any (bytes_eq j) ks ≡ true → ⊥

  none_left : (done : Key → Bool) (s t : Books) → ((j : Key) → done j ≡ true → Stays w (m.controls j)) → Midway a s (marked_at done w m) → t ≡ s → Through [] done t
  none_left done s t only h e = record {
    done = done;
    stands = subst (λ (x : Books). Midway a x (marked_at done w m)) (sym e) h;
    only = only;
    kept = λ j x. x;
    all = λ j x y. false_true y;
  }

  only_more : (done : Key → Bool) (k : Key) → ((j : Key) → done j ≡ true → Stays w (m.controls j)) → Stays w (m.controls k) → (j : Key) → (bytes_eq k j || done j) ≡ true → Stays w (m.controls j)
  only_more done k only stays j x = ⊎_elim
      (λ (y : bytes_eq k j ≡ true). subst (λ (i : Key). Stays w (m.controls i)) (key_is k j y) stays)
      (λ (y : done j ≡ true). only j y)
      (either (bytes_eq k j) (done j) x)

  first_too : (k : Key) (ks : List Key) (done : Key → Bool) (t : Books) → Through ks (λ j. bytes_eq k j || done j) t → Through (k ∷ ks) done t
  first_too k ks done t r = record {
    done = r.done;
    stands = r.stands;
    only = r.only;
    kept = λ j x. (neither (bytes_eq k j) (done j) (r.kept j x)).1;
    all = λ j x y. ⊎_elim
        (λ (e : j ≡ k). true_false (sym (ap (bytes_eq k) e ∙ same_key k) ∙ (neither (bytes_eq k j) (done j) (r.kept j x)).0))
        (λ (z : list_any (bytes_eq j) ks ≡ true). r.all j x z)
        (among j k ks y);
  }

  -- at each of these keys
  pub all_marked : (ks : List Key) (done : Key → Bool) (s t : Books) → IsStrictlySortedBy key_cmp ks → ((j : Key) → list_any (bytes_eq j) ks ≡ true → done j ≡ false)
      → ((j : Key) → list_any (bytes_eq j) ks ≡ true → list_any (bytes_eq j) m.keys ≡ true) → ((j : Key) → list_any (bytes_eq j) ks ≡ true → Stays w (m.controls j))
      → ((j : Key) → done j ≡ true → Stays w (m.controls j)) → Midway a s (marked_at done w m) → MarksAll (λ part. true) w ks s t → Through ks done t
  unfolding IsStrictlySortedBy
  all_marked [] done s t sorted new known stays only h marks = none_left done s t only h marks
  all_marked (k ∷ ks) done s t sorted new known stays only h marks =
      first_too k ks done t (all_marked ks (λ j. bytes_eq k j || done j) marks.0 t sorted.1
      (λ j x. both_false (bytes_eq k j) (done j)
      (by_cases (bytes_eq k j) (λ y. absurd (apart_above k ks sorted.0 (subst (λ (i : Key). list_any (bytes_eq i) ks ≡ true) (sym (key_is k j y)) x))) (λ y. y))
      (new j (has_tail j k ks x)))
      (λ j x. known j (has_tail j k ks x))
      (λ j x. stays j (has_tail j k ks x))
      (only_more done k only (stays k (has_head k k ks refl)))
      (step done k s marks.0 (new k (has_head k k ks refl)) (known k (has_head k k ks refl)) (stays k (has_head k k ks refl)) h marks.1)
      marks.2)

  -- at each of these keys that is free
  pub free_marked : (ks : List Key) (done : Key → Bool) (s t : Books) → ((j : Key) → done j ≡ false → ((m.controls j).owner ≡ None) × ((m.controls j).waiting ≡ []))
      → ((j : Key) → list_any (bytes_eq j) ks ≡ true → list_any (bytes_eq j) m.keys ≡ true) → ((j : Key) → list_any (bytes_eq j) ks ≡ true → is_due w (m.controls j).times ≡ true)
      → ((j : Key) → done j ≡ true → Stays w (m.controls j)) → Midway a s (marked_at done w m) → MarksAll is_free w ks s t → Through ks done t
  free_marked [] done s t free known due only h marks = none_left done s t only h marks
  free_marked (k ∷ ks) done s t free known due only h marks = of (is_free (part_of s.accounts k)) refl marks.1
      (λ (next : Midway a marks.0 (marked_at (λ j. bytes_eq k j || done j) w m)). free_marked ks (λ j. bytes_eq k j || done j) marks.0 t
      (λ j y. free j (neither (bytes_eq k j) (done j) y).1)
      (λ j y. known j (has_tail j k ks y))
      (λ j y. due j (has_tail j k ks y))
      (only_more done k only (λ x y. due k (has_head k k ks refl)))
      next
      marks.2)
      (λ (rest : MarksAll is_free w ks s t). free_marked ks done s t free (λ j y. known j (has_tail j k ks y)) (λ j y. due j (has_tail j k ks y)) only h rest)
    where
      stays : Stays w (m.controls k)
      stays x y = due k (has_head k k ks refl)

      new : is_free (part_of s.accounts k) ≡ true → done k ≡ false
      new e = by_cases (done k)
          (λ x. let f = free_control a.program a.mails.mails a.contexts k (part_of s.accounts k) (times_of a.timers k) ((marked_at done w m).controls k) (h.keys k) e in
          absurd (not_nil (m.controls k).waiting (Mark m.epoch w most_firings)
          (sym (ap (λ (c : KeyControl). c.waiting) (has_it done k x ∙ marked_is m.epoch w most_firings (m.controls k) (only k x))) ∙ f.1)))
          (λ x. x)

      old : is_free (part_of s.accounts k) ≡ false → done k ≡ true
      old e = by_cases (done k) (λ x. x)
          (λ x. true_false (sym (free_part a.program a.mails.mails a.contexts k (part_of s.accounts k) (times_of a.timers k) (m.controls k)
          (subst (λ (c : KeyControl). PartStands a.program a.mails.mails a.contexts k (part_of s.accounts k) (times_of a.timers k) c) (lacks_it done k x) (h.keys k)) (free k x).0 (free k x).1) ∙ e))

      of : (b : Bool) → is_free (part_of s.accounts k) ≡ b → MarksIf b w k s marks.0
          → (Midway a marks.0 (marked_at (λ j. bytes_eq k j || done j) w m) → Through ks (λ j. bytes_eq k j || done j) t) → (MarksAll is_free w ks s t → Through ks done t) → Through (k ∷ ks) done t
      of true e x go stop = first_too k ks done t (go (step done k s marks.0 (new e) (known k (has_head k k ks refl)) stays h x))
      of false e x go stop =
          let r : Through ks done t = stop (subst (λ (z : Books). MarksAll is_free w ks z t) x marks.2) in
          record {
            done = r.done;
            stands = r.stands;
            only = r.only;
            kept = r.kept;
            all = λ j y z. ⊎_elim
                (λ (i : j ≡ k). true_false (sym (old e) ∙ subst (λ (v : Key). done v ≡ false) i (r.kept j y)))
                (λ (v : list_any (bytes_eq j) ks ≡ true). r.all j y v)
                (among j k ks z);
          }

  -- all keys that the watermark is for have it
  pub all_have_it : (done : Key → Bool) → ((j : Key) → done j ≡ false → ((m.controls j).owner ≡ None) × (((m.controls j).waiting ≡ []) × (is_due w (m.controls j).times ≡ false)))
      → marked_at done w m ≡ with_controls (λ k. mark_on m.epoch w most_firings (m.controls k)) m
  all_have_it done rest = ap (λ (f : Key → KeyControl). with_controls f m) (fun_ext each)
    where
      unmarked : (q : KeyControl) (o : Option Context) (is : List Waiting) → q.owner ≡ o → q.waiting ≡ is → o ≡ None → is ≡ [] → is_due w q.times ≡ false → keyed o is q.times ≡ mark_at_on m.epoch w most_firings o is q.times
      unmarked q None [] b c x y z = sym (cond-false (is_due w q.times) (keyed None (Mark m.epoch w most_firings ∷ []) q.times) (keyed None [] q.times) z)
      unmarked q None (i ∷ is) b c x y z = absurd (cc y)
      unmarked q (Some d) is b c x y z = absurd (cc x)

      each : (j : Key) → cond (done j) (mark_on m.epoch w most_firings (m.controls j)) (m.controls j) ≡ mark_on m.epoch w most_firings (m.controls j)
      each j = by_cases (done j)
          (λ x. has_it done j x)
          (λ x. lacks_it done j x ∙ unmarked (m.controls j) (m.controls j).owner (m.controls j).waiting refl refl (rest j x).0 (rest j x).1.0 (rest j x).1.1)
