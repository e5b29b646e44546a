-- Shards that are out and home: a batch is sent, and comes back.
use Rattle.std.proofs.Common.{◌≡◌, ◌≢◌, ◌+◌, ◌<◌, ◌≤◌, ℕ, zero, suc, ℤ, Bool, true, false, cond, nat_eq, List, [], ◌∷◌, ◌++◌, length, get_or, set, replicate, Result, ◌⊎◌, inl, inr, refl, sym, ap, ap₂, ◌∙◌, subst, arith}
use Rattle.std.proofs.lemmas.Bool.{cases_eq, cases_lt, eqb-true, eq-eqb}
use Rattle.std.proofs.lemmas.List.{get_or-set_same, get_or-set_other, get_or_past, get_or_default, length-set, length-replicate, length-append}
use Rattle.std.proofs.lemmas.List.Sums.{sum_by-cons, sum_by-le, sum_by-set, sum_by_push, sum_by-remove, get_or-le-sum_by}
use Rattle.std.proofs.lemmas.List.Edits.{length-remove}
use Rattle.std.specs.List.{sum_by, remove}
use Rattle.ax_base.specs.declared.outside.NoMemory.{NoMemory}
use Rattle.ax_text.specs.declared.vocabulary.Kind.{Kind}
use Rattle.ax_text.specs.Functions.{upd}
use Rattle.ax_buffer.specs.declared.items.Item.{Item}
use Rattle.ax_buffer.specs.declared.items.Reply.{Reply}
use Rattle.ax_task.specs.Serving.{Serves, AllFit, Holding, content_of}
use Rattle.ax_task.specs.Shards.{Serving, nothing_held, holding_of, held, out, Came, one_if_out, times_sent, AreSound}

-- ---- numbers and lists

differ : (a b : ℕ) → a ≢ b → nat_eq a b ≡ false
differ a b n = go (nat_eq a b) refl where
  go : (x : Bool) → nat_eq a b ≡ x → nat_eq a b ≡ false
  go true e = absurd (n (eqb-true a b e))
  go false e = e

-- a list of one value has it everywhere, and also past its end
all_same : {A : Type 0} (n s : ℕ) (x : A) → get_or (replicate n x) s x ≡ x
all_same zero s x = refl
all_same (suc n) zero x = refl
all_same (suc n) (suc s) x = all_same n s x

-- ---- the batches

out_past : (bs : List (List Item)) (s : ℕ) → length bs ≤ s → one_if_out (get_or bs s []) ≡ 0
out_past bs s h = ap one_if_out (get_or_past bs s [] h)

home_is : (b : List Item) → one_if_out b ≡ 0 → b ≡ []
home_is [] e = refl
home_is (i ∷ is) e = absurd (omega arith)

out_is : (b : List Item) → b ≢ [] → one_if_out b ≡ 1
out_is [] n = absurd (n refl)
out_is (i ∷ is) n = refl

at_most_one : (b : List Item) → one_if_out b ≤ 1
at_most_one [] = omega arith
at_most_one (i ∷ is) = omega arith

no_more_out : (bs : List (List Item)) → sum_by one_if_out bs ≤ length bs
no_more_out bs = omega (arith, sum_by-le one_if_out 1 bs (λ k d h. at_most_one (get_or bs k d)))

-- fewer batches are out than there are shards, where one is home
some_room : (bs : List (List Item)) (s : ℕ) (batch : List Item) → s < length bs → get_or bs s [] ≡ [] → batch ≢ [] → sum_by one_if_out bs < length bs
some_room bs s batch there home some =
    let sum = sum_by-set one_if_out bs s batch [] there in
    let was : one_if_out (get_or bs s []) ≡ 0 = ap one_if_out home in
    omega (arith, sum, was, out_is batch some, no_more_out (set bs s batch), length-set bs s batch)

pub out_set : (bs : List (List Item)) (s : ℕ) (batch : List Item) → s < length bs → (t : ℕ) → get_or (set bs s batch) t [] ≡ upd (λ u. get_or bs u []) s batch t
out_set bs s batch there t = go (cases_eq t s) where
  go : (t ≡ s) ⊎ (t ≢ s) → get_or (set bs s batch) t [] ≡ cond (nat_eq s t) batch (get_or bs t [])
  go (inl e) = ap (λ (u : ℕ). get_or (set bs s batch) u []) e ∙ get_or-set_same bs s batch [] there ∙ ap (λ (b : Bool). cond b batch (get_or bs t [])) (sym (eq-eqb s t (sym e)))
  go (inr n) = get_or-set_other bs s t batch [] n ∙ ap (λ (b : Bool). cond b batch (get_or bs t [])) (sym (differ s t (λ e. n (sym e))))

-- ---- what was sent

-- how often a shard stands in a list of one
abbrev pub one_at : ℕ → ℕ → ℕ
one_at t s = cond (nat_eq t s) 1 0

one_here : (t s : ℕ) → t ≡ s → one_at t s ≡ 1
one_here t s e = ap (λ (b : Bool). cond b 1 0) (eq-eqb t s e)

one_not : (t s : ℕ) → t ≢ s → one_at t s ≡ 0
one_not t s n = ap (λ (b : Bool). cond b 1 0) (differ t s n)

sent_more : (t s : ℕ) (sent : List ℕ) → times_sent t (sent ++ s ∷ []) ≡ times_sent t sent + one_at t s
sent_more t s sent = sum_by_push (one_at t) sent s

sent_less : (t : ℕ) (sent : List ℕ) (place : ℕ) → place < length sent → times_sent t (remove sent place) + one_at t (get_or sent place 0) ≡ times_sent t sent
sent_less t sent place there = sum_by-remove (one_at t) sent place 0 there

-- ---- soundness

-- all shards are home, and nothing is held
pub sound_new : (kinds : List Kind) (n : ℕ) (order : List ℤ)
    → AreSound (record { kinds = kinds; shards = replicate n (nothing_held kinds); batches = replicate n []; sent = []; order = order })
sound_new kinds n order = record {
  shards = length-replicate n (nothing_held kinds) ∙ sym (length-replicate n []);
  kinds = λ s. ap (λ (h : Holding). h.kinds) (all_same n s (nothing_held kinds));
  fit = λ s. subst (AllFit kinds) (sym (all_same n s [])) (λ k d h. absurd (omega (arith, h)));
  once = λ s. sym (ap one_if_out (all_same n s []));
  count = none n;
}
  where
    none : (m : ℕ) → 0 ≡ sum_by one_if_out (replicate m [])
    none zero = refl
    none (suc m) = omega (arith, none m, sum_by-cons one_if_out [] (replicate m []))

module _ (v : Serving) (sound : AreSound v) where
  -- a shard that was sent is out, and is one of the shards
  pub is_out : (place : ℕ) → place < length v.sent → one_if_out (out v (get_or v.sent place 0)) ≡ 1
  is_out place there =
      let s = get_or v.sent place 0 in
      let least : one_at s s ≤ times_sent s v.sent = get_or-le-sum_by (one_at s) v.sent place 0 there in
      omega (arith, least, one_here s s refl, sound.once s, at_most_one (out v s))

  pub is_shard : (s : ℕ) → one_if_out (out v s) ≡ 1 → s < length v.batches
  is_shard s h = go (cases_lt s (length v.batches)) where
    go : (s < length v.batches) ⊎ (length v.batches ≤ s) → s < length v.batches
    go (inl there) = there
    go (inr past) = absurd (omega (arith, h, out_past v.batches s past))

  -- nothing is out where nothing was sent
  pub all_home : v.sent ≡ [] → (s : ℕ) → out v s ≡ []
  all_home e s = home_is (out v s) (sym (sound.once s) ∙ ap (times_sent s) e)

  -- there is room to send one more
  pub room_left : (s : ℕ) (batch : List Item) → s < length v.batches → out v s ≡ [] → batch ≢ [] → length v.sent < length v.shards
  room_left s batch there home some = omega (arith, some_room v.batches s batch there home some, sound.count, sound.shards)

  pub sound_sent : (s : ℕ) (batch : List Item) → s < length v.batches → out v s ≡ [] → batch ≢ [] → AllFit v.kinds batch
      → AreSound (record { kinds = v.kinds; shards = v.shards; batches = set v.batches s batch; sent = v.sent ++ s ∷ []; order = v.order })
  sound_sent s batch there home some fits = record {
    shards = sound.shards ∙ sym (length-set v.batches s batch);
    kinds = sound.kinds;
    fit = λ t. fit t (cases_eq t s);
    once = λ t. sent_more t s v.sent ∙ once t (cases_eq t s);
    count = omega (arith, sum_by-set one_if_out v.batches s batch [] there, ap one_if_out home, out_is batch some, sound.count, length-append v.sent (s ∷ []));
  }
    where
      at_s : (t : ℕ) → t ≡ s → get_or (set v.batches s batch) t [] ≡ batch
      at_s t e = ap (λ (u : ℕ). get_or (set v.batches s batch) u []) e ∙ get_or-set_same v.batches s batch [] there

      fit : (t : ℕ) → (t ≡ s) ⊎ (t ≢ s) → AllFit v.kinds (get_or (set v.batches s batch) t [])
      fit t (inl e) = subst (AllFit v.kinds) (sym (at_s t e)) fits
      fit t (inr n) = subst (AllFit v.kinds) (sym (get_or-set_other v.batches s t batch [] n)) (sound.fit t)

      once : (t : ℕ) → (t ≡ s) ⊎ (t ≢ s) → times_sent t v.sent + one_at t s ≡ one_if_out (get_or (set v.batches s batch) t [])
      once t (inl e) =
          let was : one_if_out (out v t) ≡ 0 = ap one_if_out (ap (out v) e ∙ home) in
          let is : one_if_out (get_or (set v.batches s batch) t []) ≡ 1 = ap one_if_out (at_s t e) ∙ out_is batch some in
          omega (arith, was, is, sound.once t, one_here t s e)
      once t (inr n) =
          let is : one_if_out (get_or (set v.batches s batch) t []) ≡ one_if_out (out v t) = ap one_if_out (get_or-set_other v.batches s t batch [] n) in
          omega (arith, is, sound.once t, one_not t s n)

  -- the batch of a shard came back
  module _ (place s : ℕ) (in_sent : place < length v.sent) (chosen : s ≡ get_or v.sent place 0) where
    was_out : one_if_out (out v s) ≡ 1
    was_out = ap (λ (t : ℕ). one_if_out (out v t)) chosen ∙ is_out place in_sent

    pub there : s < length v.batches
    there = is_shard s was_out

    holding_is : (x : Holding) → x ≡ get_or v.shards s x → x ≡ holding_of v s
    holding_is x e = e ∙ get_or_default v.shards s x (nothing_held v.kinds) (omega (arith, there, sound.shards))

    batch_is : (x : List Item) → x ≡ get_or v.batches s x → x ≡ out v s
    batch_is x e = e ∙ get_or_default v.batches s x [] there

    pub kinds_are : (x : Holding) → x ≡ get_or v.shards s x → x.kinds ≡ v.kinds
    kinds_are x e = ap (λ (y : Holding). y.kinds) (holding_is x e) ∙ sound.kinds s

    -- its requests can be served
    pub fits_there : (x : Holding) → x ≡ get_or v.shards s x → (b : List Item) → b ≡ get_or v.batches s b → AllFit x.kinds b
    fits_there x e b f =
        let P : List Kind → Type 0 = λ ks. AllFit ks b in
        subst P (sym (kinds_are x e)) (subst (AllFit v.kinds) (sym (batch_is b f)) (sound.fit s))

    module _ (h : Holding) (order : List ℤ) where
      sound_back : h.kinds ≡ v.kinds → AreSound (record { kinds = v.kinds; shards = set v.shards s h; batches = set v.batches s []; sent = remove v.sent place; order = order })
      sound_back same = record {
        shards = length-set v.shards s h ∙ sound.shards ∙ sym (length-set v.batches s []);
        kinds = λ t. kinds t (cases_eq t s);
        fit = λ t. fit t (cases_eq t s);
        once = λ t. once t (cases_eq t s);
        count = omega (arith, sum_by-set one_if_out v.batches s [] [] there, was_out, sound.count, length-remove v.sent place in_sent);
      }
        where
          holds : s < length v.shards
          holds = omega (arith, there, sound.shards)

          kinds : (t : ℕ) → (t ≡ s) ⊎ (t ≢ s) → (get_or (set v.shards s h) t (nothing_held v.kinds)).kinds ≡ v.kinds
          kinds t (inl e) = ap (λ (u : ℕ). (get_or (set v.shards s h) u (nothing_held v.kinds)).kinds) e ∙ ap (λ (x : Holding). x.kinds) (get_or-set_same v.shards s h (nothing_held v.kinds) holds) ∙ same
          kinds t (inr n) = ap (λ (x : Holding). x.kinds) (get_or-set_other v.shards s t h (nothing_held v.kinds) n) ∙ sound.kinds t

          at_s : (t : ℕ) → t ≡ s → get_or (set v.batches s []) t [] ≡ []
          at_s t e = ap (λ (u : ℕ). get_or (set v.batches s []) u []) e ∙ get_or-set_same v.batches s [] [] there

          fit : (t : ℕ) → (t ≡ s) ⊎ (t ≢ s) → AllFit v.kinds (get_or (set v.batches s []) t [])
          fit t (inl e) = subst (AllFit v.kinds) (sym (at_s t e)) (λ k d g. absurd (omega (arith, g)))
          fit t (inr n) = subst (AllFit v.kinds) (sym (get_or-set_other v.batches s t [] [] n)) (sound.fit t)

          once : (t : ℕ) → (t ≡ s) ⊎ (t ≢ s) → times_sent t (remove v.sent place) ≡ one_if_out (get_or (set v.batches s []) t [])
          once t (inl e) =
              let was : one_if_out (out v t) ≡ 1 = ap (λ (u : ℕ). one_if_out (out v u)) e ∙ was_out in
              let is : one_if_out (get_or (set v.batches s []) t []) ≡ 0 = ap one_if_out (at_s t e) in
              omega (arith, was, is, sound.once t, one_here t (get_or v.sent place 0) (e ∙ chosen), sent_less t v.sent place in_sent)
          once t (inr n) =
              let is : one_if_out (get_or (set v.batches s []) t []) ≡ one_if_out (out v t) = ap one_if_out (get_or-set_other v.batches s t [] [] n) in
              omega (arith, is, sound.once t, one_not t (get_or v.sent place 0) (λ f. n (f ∙ sym chosen)), sent_less t v.sent place in_sent)

      abbrev pub back : List Holding → List (List Item) → List ℕ → Serving
      back shards batches sent = record { kinds = v.kinds; shards = shards; batches = batches; sent = sent; order = order }

      -- what came back, where the batch that is left is empty
      back_is : (bs : List (List Item)) (sent : List ℕ) → bs ≡ set v.batches s [] → sent ≡ remove v.sent place → back (set v.shards s h) bs sent ≡ back (set v.shards s h) (set v.batches s []) (remove v.sent place)
      back_is bs sent e f = ap₂ (back (set v.shards s h)) e f

      pub sound_behind : (bs : List (List Item)) (sent : List ℕ) → bs ≡ set v.batches s [] → sent ≡ remove v.sent place → h.kinds ≡ v.kinds → AreSound (back (set v.shards s h) bs sent)
      sound_behind bs sent e f same = subst AreSound (sym (back_is bs sent e f)) (sound_back same)

      came : (replies : Result (List Reply) NoMemory) → Serves (out v s) (held v s) replies (content_of h)
          → Came (length v.batches) (out v) (out (back (set v.shards s h) (set v.batches s []) (remove v.sent place))) (held v) (held (back (set v.shards s h) (set v.batches s []) (remove v.sent place))) s replies
      came replies served = record {
        shard = there;
        was_out = λ e. absurd (omega (arith, was_out, ap one_if_out e));
        home = out_set v.batches s [] there;
        served = subst (λ (x : Holding). Serves (out v s) (held v s) replies (content_of x)) (sym (get_or-set_same v.shards s h (nothing_held v.kinds) (omega (arith, there, sound.shards)))) served;
        others = λ t n. ap content_of (get_or-set_other v.shards s t h (nothing_held v.kinds) n);
      }

      -- the same, of the shards as they are seen, by the number of the shard
      pub came_behind : (replies : Result (List Reply) NoMemory) (x : Holding) → x ≡ get_or v.shards s x → (b : List Item) → b ≡ get_or v.batches s b → Serves b (content_of x) replies (content_of h)
          → (bs : List (List Item)) (sent : List ℕ) → bs ≡ set v.batches s [] → sent ≡ remove v.sent place → (seen : Serving) → v ≡ seen → (shard : ℕ) → s ≡ shard
          → Came (length seen.batches) (out seen) (out (back (set v.shards s h) bs sent)) (held seen) (held (back (set v.shards s h) bs sent)) shard replies
      came_behind replies x ex b eb served bs sent e f seen is shard same =
          let P : List Item → Type 0 = λ y. Serves y (held v s) replies (content_of h) in
          let Q : Holding → Type 0 = λ y. Serves b (content_of y) replies (content_of h) in
          let R : Serving → Type 0 = λ w. Came (length v.batches) (out v) (out w) (held v) (held w) s replies in
          let w = back (set v.shards s h) bs sent in
          let S : Serving → Type 0 = λ u. Came (length u.batches) (out u) (out w) (held u) (held w) s replies in
          let T : ℕ → Type 0 = λ n. Came (length seen.batches) (out seen) (out w) (held seen) (held w) n replies in
          subst T same (subst S is (subst R (sym (back_is bs sent e f)) (came replies (subst P (batch_is b eb) (subst Q (holding_is x ex) served)))))
