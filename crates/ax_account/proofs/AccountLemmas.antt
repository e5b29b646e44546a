-- The entries of the keys.
use Rattle.std.proofs.Common.{◌≡◌, ◌∙◌, ℕ, ◌+◌, Bool, true, false, not, cond, List, [], ◌∷◌, ◌++◌, Option, Some, None, refl, sym, ap, subst, arith, get_or}
use Rattle.std.specs.Prelude.{All, IsSome, unwrap_or, sum_by, Result, Ok, Err, IfOk, OnOk, OnErr}
use Rattle.std.specs.Option.{option_map, is_some}
use Rattle.std.specs.Cmp.Lexicographic.{nat_list_cmp_total}
use Rattle.std.specs.List.Sorted.{IsStrictlySortedBy}
use Rattle.std.specs.Map.{lookup, values_of, keys_of, remove_entry, set_value}
use Rattle.std.specs.BTreeMap.{insert_entry}
use Rattle.std.proofs.Common.{Ordering, Less, Equal, Greater}
use Rattle.std.specs.Ordering.{is_eq, match_ordering}
use Rattle.std.proofs.lemmas.Map.{lookup-none}
use Rattle.std.proofs.lemmas.Map.Entries.{none_below_head, sum_by-remove_entry, sum_by-set_value, sum_by-insert_entry}
use Rattle.std.proofs.lemmas.Bool.{false≢true, false_from_ne_true, not-true, cond-true, cond-false}
use Rattle.std.proofs.lemmas.List.Elements.{All-push, All-filter, filter_passes}
use Rattle.std.proofs.lemmas.Map.Keys.{IsDistinct-push, sorted_tail}
use Rattle.std.proofs.lemmas.Map.Made.{is_some-lookup}
use Rattle.std.proofs.lemmas.List.Folds.{list_any_none}
use Rattle.ax_context.specs.declared.id.Id.{Id}
use Rattle.ax_account.specs.declared.part.Waiting.{Waiting}
use Rattle.ax_account.specs.declared.part.Waiting.TheVariants.{Row, Mark}
use Rattle.ax_account.specs.declared.part.Next.TheVariants.{Free}
use Rattle.ax_account.specs.Parts.{Part, free, is_free, kept, waits, owned, next_of, taken_up, may_idle}
use Rattle.ax_keys.specs.Keys.{key_cmp}
use Rattle.ax_account.specs.Queues.{same_key, has_key, without, AreDistinct}
use Rattle.ax_account.specs.Accounts.{Parts, Sets, Changes, AreSound, occupied}
use Rattle.ax_account.proofs.QueueLemmas.{key_is, key_laws, IsDistinct-without}

module _ (es fs : Parts) (key : List ℕ) where
  pub sets_written : (v w : Part) → Some v ≡ lookup (same_key key) es → fs ≡ set_value (same_key key) es w
      → ((q : List ℕ) → lookup (same_key q) fs ≡ cond (same_key key q) (Some w) (lookup (same_key q) es)) → IsStrictlySortedBy key_cmp (keys_of fs) → Sets es fs key (Some w)
  sets_written v w found is at rising = record {
    at = at;
    rising = rising;
    totals = λ f.
        let sums = sum_by-set_value f (same_key key) es v w (sym found) in
        let share : unwrap_or (option_map f (lookup (same_key key) es)) 0 ≡ f v = ap (λ o. unwrap_or (option_map f o) 0) (sym found) in
        ap (λ (xs : Parts). sum_by f (values_of xs) + unwrap_or (option_map f (lookup (same_key key) es)) 0) is ∙ ap (λ n. sum_by f (values_of (set_value (same_key key) es w)) + n) share ∙ sums;
  }

  pub sets_put : (copied : List ℕ) (w : Part) → copied ≡ key → fs ≡ insert_entry key_cmp es copied w
      → ((q : List ℕ) → lookup (same_key q) fs ≡ cond (same_key copied q) (Some w) (lookup (same_key q) es)) → IsStrictlySortedBy key_cmp (keys_of es) → IsStrictlySortedBy key_cmp (keys_of fs) → Sets es fs key (Some w)
  sets_put copied w same is at was_rising rising = subst (λ (k : List ℕ). Sets es fs k (Some w)) same (record {
    at = at;
    rising = rising;
    totals = λ f. ap (λ (xs : Parts). sum_by f (values_of xs) + unwrap_or (option_map f (lookup (same_key copied) es)) 0) is ∙ sum_by-insert_entry f nat_list_cmp_total es copied w was_rising;
  })

  pub sets_removed : fs ≡ remove_entry (same_key key) es
      → ((q : List ℕ) → lookup (same_key q) fs ≡ cond (same_key key q) None (lookup (same_key q) es)) → IsStrictlySortedBy key_cmp (keys_of fs) → Sets es fs key None
  sets_removed is at rising = record {
    at = at;
    rising = rising;
    totals = λ f.
        let sums = sum_by-remove_entry f (same_key key) es in
        ap (λ (xs : Parts). sum_by f (values_of xs) + unwrap_or (option_map f (lookup (same_key key) es)) 0) is ∙ sums ∙ omega arith;
  }

pub sets_nothing : (es fs : Parts) (key : List ℕ) → fs ≡ es → lookup (same_key key) es ≡ None → IsStrictlySortedBy key_cmp (keys_of es) → Sets es fs key None
sets_nothing es fs key is absent rising = subst (λ (xs : Parts). Sets es xs key None) (sym is) (record {
  at = λ q. go q (same_key key q) refl;
  rising = rising;
  totals = λ f. ap (λ o. sum_by f (values_of es) + unwrap_or (option_map f o) 0) absent;
})
  where
    go : (q : List ℕ) → (b : Bool) → same_key key q ≡ b → lookup (same_key q) es ≡ cond b None (lookup (same_key q) es)
    go q true e = subst (λ x. lookup (same_key x) es ≡ None) (key_is key q e) absent
    go q false e = refl

-- what a look-up found, put in again, changes nothing
pub put_same : (es : Parts) (key : List ℕ) (v : Part) → IsStrictlySortedBy key_cmp (keys_of es) → lookup (same_key key) es ≡ Some v → insert_entry key_cmp es key v ≡ es
put_same [] key v rising found = absurd (false≢true (ap is_some found))
put_same (e ∷ es) key v rising found = go (key_cmp key e.0) refl found (put_same es key v (sorted_tail key_cmp e.0 (keys_of es) rising))
  where
    go : (r : Ordering) → key_cmp key e.0 ≡ r → cond (is_eq r) (Some e.1) (lookup (same_key key) es) ≡ Some v → (lookup (same_key key) es ≡ Some v → insert_entry key_cmp es key v ≡ es)
        → match_ordering r ((key, v) ∷ e ∷ es) ((e.0, v) ∷ es) (e ∷ insert_entry key_cmp es key v) ≡ e ∷ es
    go Less below at later = absurd (false≢true (ap is_some (sym (lookup-none (same_key key) es (none_below_head nat_list_cmp_total key e es rising below).1) ∙ at)))
    go Equal same at later = ap (λ o. (e.0, unwrap_or o v) ∷ es) (sym at)
    go Greater above at later = ap (λ (xs : Parts). e ∷ xs) (later at)

module _ (es fs : Parts) (key : List ℕ) (g : Part → Part) (v w : Part) (found : Some v ≡ lookup (same_key key) es) where
  pub sets_mapped : w ≡ g v → fs ≡ set_value (same_key key) es w
      → ((q : List ℕ) → lookup (same_key q) fs ≡ cond (same_key key q) (Some w) (lookup (same_key q) es)) → IsStrictlySortedBy key_cmp (keys_of fs)
      → Sets es fs key (option_map g (lookup (same_key key) es))
  sets_mapped new is at rising =
      subst (λ o. Sets es fs key (option_map g o)) found (subst (λ x. Sets es fs key (Some x)) new (sets_written es fs key v w found is at rising))

pub on_ok : {A E P Q : Type 0} (r : Result A E) → OnOk r P → (P → Q) → OnOk r Q
on_ok (Ok x) p f = f p
on_ok (Err e) p f = tt

pub on_err : {A E P Q : Type 0} (r : Result A E) → OnErr r P → (P → Q) → OnErr r Q
on_err (Ok x) p f = tt
on_err (Err e) p f = f p

pub if_ok : {A E : Type 0} {P Q : A → Type 0} (r : Result A E) → IfOk r P → ((x : A) → P x → Q x) → IfOk r Q
if_ok (Ok x) p f = f x p
if_ok (Err e) p f = tt

pub to_err : {A E P : Type 0} (r : Result A E) → P → OnErr r P
to_err (Ok x) p = tt
to_err (Err e) p = p

pub either_way : {A E P Q G : Type 0} (r : Result A E) → OnOk r P → OnErr r Q → (P → G) → (Q → G) → G
either_way (Ok x) p q f g = f p
either_way (Err e) p q f g = g q

pub either_way₂ : {A E P P' Q Q' G : Type 0} (r : Result A E) → OnOk r P → OnOk r P' → OnErr r Q → OnErr r Q' → (P → P' → G) → (Q → Q' → G) → G
either_way₂ (Ok x) p p' q q' f g = f p p'
either_way₂ (Err e) p p' q q' f g = g q q'

-- ---- a part that is kept
free_is : (p : Part) → is_free p ≡ true → p ≡ free
free_is p e = go p.owner p.waiting e
  where
    go : (o : Option Id) (items : List Waiting) → is_free (record { owner = o; waiting = items }) ≡ true → (record { owner = o; waiting = items }) ≡ free
    go None [] e = refl
    go None (item ∷ items) e = absurd (false≢true e)
    go (Some id) items e = absurd (false≢true e)

pub kept_is : (p : Part) → unwrap_or (kept p) free ≡ p
kept_is p = go (is_free p) refl
  where
    go : (b : Bool) → is_free p ≡ b → unwrap_or (cond b None (Some p)) free ≡ p
    go true e = sym (free_is p e)
    go false e = refl

pub kept_some : (p : Part) → is_free p ≡ false → kept p ≡ Some p
kept_some p e = cond-false (is_free p) None (Some p) e

kept_listed : (p : Part) → is_some (kept p) ≡ not (is_free (unwrap_or (kept p) free))
kept_listed p = go (is_free p) refl
  where
    go : (b : Bool) → is_free p ≡ b → is_some (cond b None (Some p)) ≡ not (is_free (unwrap_or (cond b None (Some p)) free))
    go true e = refl
    go false e = ap not (sym e)

pub waits_kept : (item : Waiting) (p : Part) → is_free (waits item p) ≡ false
waits_kept item p = go p.owner p.waiting
  where
    go : (o : Option Id) (items : List Waiting) → is_free (record { owner = o; waiting = items ++ item ∷ [] }) ≡ false
    go None [] = refl
    go None (x ∷ items) = refl
    go (Some id) items = refl

-- ---- a key is handed over
module _ (es fs gs : Parts) (key : List ℕ) where
  sets_then : (v w : Option Part) → Sets es fs key v → Sets fs gs key w → Sets es gs key w
  sets_then v w one two = record {
    at = λ q. two.at q ∙ go q (same_key key q) refl;
    rising = two.rising;
    totals = λ f.
        let first = one.totals f in
        let second = two.totals f in
        let between : unwrap_or (option_map f (lookup (same_key key) fs)) 0 ≡ unwrap_or (option_map f v) 0 = ap (λ o. unwrap_or (option_map f o) 0) (one.at key ∙ cond-true (same_key key key) v (lookup (same_key key) es) (key_laws.refl key)) in
        omega arith;
  }
    where
      go : (q : List ℕ) → (b : Bool) → same_key key q ≡ b → cond b w (lookup (same_key q) fs) ≡ cond b w (lookup (same_key q) es)
      go q true e = refl
      go q false e = one.at q ∙ cond-false (same_key key q) v (lookup (same_key q) es) e

  module _ (left : Part → List Waiting) (none : left free ≡ []) where
    pub handed_free : Sets es fs key (option_map (λ part. taken_up (left part)) (lookup (same_key key) es)) → Sets fs gs key None
        → Free ≡ next_of (left (unwrap_or (lookup (same_key key) es) free)) → Sets es gs key (kept (taken_up (left (unwrap_or (lookup (same_key key) es) free))))
    handed_free one two next = subst (λ o. Sets es gs key o) (go (left (unwrap_or (lookup (same_key key) es) free)) next) (sets_then _ None one two)
      where
        go : (items : List Waiting) → Free ≡ next_of items → None ≡ kept (taken_up items)
        go [] e = refl
        go (Row id ∷ items) e = absurd cc
        go (Mark epoch time fired ∷ items) e = absurd cc

    pub handed_on : Sets es fs key (option_map (λ part. taken_up (left part)) (lookup (same_key key) es))
        → (next_of (left (unwrap_or (lookup (same_key key) es) free)) ≡ Free → ⊥) → Sets es fs key (kept (taken_up (left (unwrap_or (lookup (same_key key) es) free))))
    handed_on one some = subst (λ o. Sets es fs key o) (go (lookup (same_key key) es) some) one
      where
        more : (items : List Waiting) → (next_of items ≡ Free → ⊥) → Some (taken_up items) ≡ kept (taken_up items)
        more [] e = absurd (e refl)
        more (Row id ∷ items) e = refl
        more (Mark epoch time fired ∷ items) e = refl

        go : (o : Option Part) → (next_of (left (unwrap_or o free)) ≡ Free → ⊥) → option_map (λ part. taken_up (left part)) o ≡ kept (taken_up (left (unwrap_or o free)))
        go None e = ap (λ items. kept (taken_up items)) (sym none)
        go (Some p) e = more (left p) e

-- ---- the accounts after a change of one key
module _ (es fs : Parts) (idle idle' : List (List ℕ)) (key : List ℕ) (p : Part) (sets : Sets es fs key (kept p)) where
  changed_own : unwrap_or (lookup (same_key key) fs) free ≡ p
  changed_own = ap (λ o. unwrap_or o free) (sets.at key ∙ cond-true (same_key key key) (kept p) (lookup (same_key key) es) (key_laws.refl key)) ∙ kept_is p

  changed_other : (q : List ℕ) → same_key key q ≡ false → unwrap_or (lookup (same_key q) fs) free ≡ unwrap_or (lookup (same_key q) es) free
  changed_other q e = ap (λ o. unwrap_or o free) (sets.at q ∙ cond-false (same_key key q) (kept p) (lookup (same_key q) es) e)

  pub changes : Changes (record { parts = es; idle = idle }) (record { parts = fs; idle = idle' }) key p
  changes = record {
    own = changed_own;
    others = λ q apart. changed_other q (false_from_ne_true (same_key key q) (λ t. apart (sym (key_is key q t))));
    totals = λ f empty.
        let sums = sets.totals f in
        let before : f (unwrap_or (lookup (same_key key) es) free) ≡ unwrap_or (option_map f (lookup (same_key key) es)) 0 = share f empty (lookup (same_key key) es) in
        let after : f p ≡ unwrap_or (option_map f (kept p)) 0 = ap f (sym (kept_is p)) ∙ share f empty (kept p) in
        omega arith;
  }
    where
      share : (f : Part → ℕ) → f free ≡ 0 → (o : Option Part) → f (unwrap_or o free) ≡ unwrap_or (option_map f o) 0
      share f empty None = empty
      share f empty (Some x) = refl

  module _ (sound : AreSound (record { parts = es; idle = idle })) where
    busy_after : (q : List ℕ) → has_key (keys_of fs) q ≡ not (is_free (unwrap_or (lookup (same_key q) fs) free))
    busy_after q = sym (is_some-lookup (same_key q) fs) ∙ ap is_some (sets.at q) ∙ go (same_key key q) ∙ ap (λ o. not (is_free (unwrap_or o free))) (sym (sets.at q))
      where
        go : (b : Bool) → is_some (cond b (kept p) (lookup (same_key q) es)) ≡ not (is_free (unwrap_or (cond b (kept p) (lookup (same_key q) es)) free))
        go true = kept_listed p
        go false = is_some-lookup (same_key q) es ∙ sound.busy q

    module _ (ks : List (List ℕ)) (all : All (λ q. may_idle (unwrap_or (lookup (same_key q) es) free) ≡ true) ks) where
      idle_kept : (may_idle (unwrap_or (lookup (same_key key) es) free) ≡ true → may_idle p ≡ true) → All (λ q. may_idle (unwrap_or (lookup (same_key q) fs) free) ≡ true) ks
      idle_kept stays i d in' = go (get_or ks i d) (all i d in') (same_key key (get_or ks i d)) refl
        where
          go : (q : List ℕ) → may_idle (unwrap_or (lookup (same_key q) es) free) ≡ true → (b : Bool) → same_key key q ≡ b → may_idle (unwrap_or (lookup (same_key q) fs) free) ≡ true
          go q was true e =
              let one : key ≡ q = key_is key q e in
              subst (λ x. may_idle (unwrap_or (lookup (same_key x) fs) free) ≡ true) one
              (ap may_idle changed_own ∙ stays (subst (λ x. may_idle (unwrap_or (lookup (same_key x) es) free) ≡ true) (sym one) was))
          go q was false e = ap may_idle (changed_other q e) ∙ was

      idle_left : All (λ q. may_idle (unwrap_or (lookup (same_key q) fs) free) ≡ true) (without key ks)
      idle_left i d in' =
          let q = get_or (without key ks) i d in
          let apart : same_key key q ≡ false = not-true (same_key key q) (filter_passes (λ x. not (same_key key x)) ks i d in') in
          ap may_idle (changed_other q apart) ∙ All-filter (λ x. not (same_key key x)) (λ x. may_idle (unwrap_or (lookup (same_key x) es) free) ≡ true) ks all i d in'

    sound_at : (ks : List (List ℕ)) → AreDistinct ks → All (λ q. may_idle (unwrap_or (lookup (same_key q) fs) free) ≡ true) ks → idle' ≡ ks → AreSound (record { parts = fs; idle = idle' })
    sound_at ks distinct all is = subst (λ (x : List (List ℕ)). AreSound (record { parts = fs; idle = x })) (sym is)
        (record { idle = all; distinct = distinct; busy = busy_after; rising = sets.rising })

    pub sound_same : (may_idle (unwrap_or (lookup (same_key key) es) free) ≡ true → may_idle p ≡ true) → idle' ≡ idle → AreSound (record { parts = fs; idle = idle' })
    sound_same stays is = sound_at idle sound.distinct (idle_kept idle sound.idle stays) is

    pub sound_without : idle' ≡ without key idle → AreSound (record { parts = fs; idle = idle' })
    sound_without is = sound_at (without key idle) (IsDistinct-without key idle sound.distinct) (idle_left idle sound.idle) is

    pub sound_pushed : has_key idle key ≡ false → may_idle p ≡ true → idle' ≡ idle ++ key ∷ [] → AreSound (record { parts = fs; idle = idle' })
    sound_pushed absent idles is =
        sound_at (idle ++ key ∷ []) (IsDistinct-push key_laws idle key sound.distinct absent)
        (All-push (λ q. may_idle (unwrap_or (lookup (same_key q) fs) free) ≡ true) idle key (idle_kept idle sound.idle (λ was. idles)) (ap may_idle changed_own ∙ idles)) is

-- ---- what a look-up says of a part
not_there : (o : Option Part) → is_some o ≡ false → o ≡ None
not_there None e = refl
not_there (Some p) e = absurd (false≢true (sym e))

part_free : (o : Option Part) → is_some o ≡ false → unwrap_or o free ≡ free
part_free o e = ap (λ x. unwrap_or x free) (not_there o e)

pub kept_waits : (item : Waiting) (p : Part) → Some (waits item p) ≡ kept (waits item p)
kept_waits item p = sym (kept_some (waits item p) (waits_kept item p))

kept_occupied : (id : Id) (o : Option Part) → not (is_some o) ≡ is_free (unwrap_or o free) → Some (unwrap_or (option_map (waits (Row id)) o) (owned id)) ≡ kept (occupied id (unwrap_or o free))
kept_occupied id None e = refl
kept_occupied id (Some p) e = kept_waits (Row id) p ∙ ap kept (sym (cond-false (is_free p) (owned id) (waits (Row id) p) (sym e)))

choose_not : {A : Type 0} (b : Bool) (x y : A) → cond b x y ≡ cond (not b) y x
choose_not true x y = refl
choose_not false x y = refl

twice_not : (b : Bool) → not (not b) ≡ b
twice_not true = refl
twice_not false = refl

pub may_idle_waits : (item : Waiting) (p : Part) → may_idle p ≡ true → may_idle (waits item p) ≡ true
may_idle_waits item p e = go p.owner p.waiting e
  where
    go : (o : Option Id) (items : List Waiting) → may_idle (record { owner = o; waiting = items }) ≡ true → may_idle (record { owner = o; waiting = items ++ item ∷ [] }) ≡ true
    go None [] e = absurd (false≢true e)
    go None (Row id ∷ items) e = absurd (false≢true e)
    go None (Mark epoch time fired ∷ items) e = refl
    go (Some id) items e = absurd (false≢true e)

pub owned_not_idle : (p q : Part) → IsSome p.owner → may_idle p ≡ true → may_idle q ≡ true
owned_not_idle p q some e = go p.owner some e
  where
    go : (o : Option Id) → IsSome o → may_idle (record { owner = o; waiting = p.waiting }) ≡ true → may_idle q ≡ true
    go None some e = absurd (false≢true some)
    go (Some id) some e = absurd (false≢true e)

module _ (es : Parts) (idle : List (List ℕ)) (sound : AreSound (record { parts = es; idle = idle })) (key : List ℕ) where
  pub free_where_absent : not (is_some (lookup (same_key key) es)) ≡ is_free (unwrap_or (lookup (same_key key) es) free)
  free_where_absent = ap not (is_some-lookup (same_key key) es ∙ sound.busy key) ∙ twice_not (is_free (unwrap_or (lookup (same_key key) es) free))

  pub chosen_by : {A : Type 0} (x y : A) → cond (is_some (lookup (same_key key) es)) x y ≡ cond (is_free (unwrap_or (lookup (same_key key) es) free)) y x
  chosen_by x y = choose_not (is_some (lookup (same_key key) es)) x y ∙ ap (λ b. cond b y x) free_where_absent

  pub kept_if_occupied : (id : Id) → Some (unwrap_or (option_map (waits (Row id)) (lookup (same_key key) es)) (owned id)) ≡ kept (occupied id (unwrap_or (lookup (same_key key) es) free))
  kept_if_occupied id = kept_occupied id (lookup (same_key key) es) free_where_absent

  pub not_idle : is_some (lookup (same_key key) es) ≡ false → has_key idle key ≡ false
  not_idle absent = list_any_none (same_key key) idle (λ i d in'.
      let q = get_or idle i d in
      false_from_ne_true (same_key key q) (λ t.
      let idles : may_idle (unwrap_or (lookup (same_key key) es) free) ≡ true = subst (λ x. may_idle (unwrap_or (lookup (same_key x) es) free) ≡ true) (sym (key_is key q t)) (sound.idle i d in') in
      let wrong : false ≡ true = sym (ap may_idle (part_free (lookup (same_key key) es) absent)) ∙ idles in
      false≢true wrong))

-- ---- a row or a mark comes
pub idle_occupied : (id : Id) (p : Part) → may_idle p ≡ true → may_idle (occupied id p) ≡ true
idle_occupied id p e = go p.owner p.waiting e
  where
    go : (o : Option Id) (items : List Waiting) → may_idle (record { owner = o; waiting = items }) ≡ true → may_idle (occupied id (record { owner = o; waiting = items })) ≡ true
    go None [] e = absurd (false≢true e)
    go None (Row other ∷ items) e = absurd (false≢true e)
    go None (Mark epoch time fired ∷ items) e = refl
    go (Some other) items e = absurd (false≢true e)

pub sound_waited : (es fs : Parts) (idle idle' : List (List ℕ)) (key : List ℕ) (item : Waiting) → AreSound (record { parts = es; idle = idle }) → may_idle (waits item free) ≡ true
    → Sets es fs key (kept (waits item (unwrap_or (lookup (same_key key) es) free))) → idle' ≡ cond (is_some (lookup (same_key key) es)) idle (idle ++ key ∷ []) → AreSound (record { parts = fs; idle = idle' })
sound_waited es fs idle idle' key item sound idles sets is = go (is_some (lookup (same_key key) es)) refl is
  where
    part : Part
    part = unwrap_or (lookup (same_key key) es) free

    go : (b : Bool) → is_some (lookup (same_key key) es) ≡ b → idle' ≡ cond b idle (idle ++ key ∷ []) → AreSound (record { parts = fs; idle = idle' })
    go true there same = sound_same es fs idle idle' key (waits item part) sets sound (may_idle_waits item part) same
    go false absent pushed = sound_pushed es fs idle idle' key (waits item part) sets sound (not_idle es idle sound key absent) (ap (λ (p : Part). may_idle (waits item p)) (part_free (lookup (same_key key) es) absent) ∙ idles) pushed

pub sound_undone : (es fs : Parts) (idle idle' : List (List ℕ)) → AreSound (record { parts = es; idle = idle }) → fs ≡ es → idle' ≡ idle → AreSound (record { parts = fs; idle = idle' })
sound_undone es fs idle idle' sound e f = subst (λ (x : Parts). AreSound (record { parts = x; idle = idle' })) (sym e) (subst (λ (x : List (List ℕ)). AreSound (record { parts = es; idle = x })) (sym f) sound)
