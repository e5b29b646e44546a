-- Names of lines, and the places that rows have for them.
use Rattle.std.proofs.Common.{◌≡◌, ◌∙◌, ℕ, suc, ◌+◌, ◌≤◌, ◌<◌, max, List, [], ◌∷◌, ◌++◌, map, length, length-append, refl, sym, ap, subst, arith, Bool, true, false, not, ◌&&◌, ◌||◌, nat_lt, nat_eq, ◌==◌, slice_index_or, Option, Some, None, if◌then◌else◌}
use Rattle.std.specs.List.{list_all}
use Rattle.std.proofs.lemmas.Option.{none-some}
use Rattle.std.proofs.lemmas.Bool.{and_parts, and_from, lt-ltb, ltb-false, eq-eqb, eqb-true, true≢false, false≢true, not-true, not-false, or_parts, or_right}
use Rattle.std.proofs.lemmas.List.{length-map}
use Rattle.ax_text.specs.declared.vocabulary.Kind.{Kind}
use Rattle.ax_text.specs.declared.vocabulary.Kind.TheVariants as kind
use Rattle.ax_text.specs.Names.{are_distinct}
use Rattle.ax_text.specs.Exprs.{Expr}
use Rattle.ax_text.specs.Valid.{same_kind, has_kind, expr_fits, exprs_fit, asking_fits}
use Rattle.ax_syntax.specs.declared.shape.KindWord.{KindWord}
use Rattle.ax_syntax.specs.declared.shape.KindWord.TheVariants as word
use Rattle.ax_syntax.specs.Words.{Word, same_word}
use Rattle.ax_syntax.specs.Shapes.{Shape}
use Rattle.ax_rules.specs.declared.tables.DeclaredState.{DeclaredState}
use Rattle.ax_rules.specs.declared.tables.Tables.{Tables}
use Rattle.ax_rules.specs.Parts.{mem, index_of, with_word, some_is, use_of}
use Rattle.ax_rules.specs.Lines.{names_of}
use Rattle.ax_rules.specs.Faults.{is_state, one_if, is_new, count_new, is_last_state, is_too_many, is_value, is_list, is_map, takes, serves, kind_of, some_serves, is_unserved}
use Rattle.ax_lang.specs.Names.{asking_names}
use Rattle.ax_lang.specs.Rows.{place_or, place_in, put_by}
use Rattle.ax_lang.specs.Programs.{kind_in}
use Rattle.ax_lang.proofs.TokenLemmas.{same_equal}
use Rattle.ax_lang.proofs.ExprLemmas.{place_fits}

-- words

pub same_refl : (w : Word) → same_word w w ≡ true
same_refl [] = refl
same_refl (x ∷ xs) = and_from (x == x) (same_word xs xs) (eq-eqb x x refl) (same_refl xs)

same_not : (a b : Word) → same_word a b ≡ false → same_word b a ≡ false
same_not a b h = cases (same_word b a) refl where
  cases : (t : Bool) → same_word b a ≡ t → t ≡ false
  cases true g = absurd (true≢false (sym (ap (λ (w : Word). same_word w b) (sym (same_equal b a g)) ∙ same_refl b) ∙ h))
  cases false g = refl

-- a name that is assigned is a local name from then on

mem_last : (w : Word) (ws : List Word) → mem w (ws ++ w ∷ []) ≡ true
mem_last w [] = ap (λ (b : Bool). b || false) (same_refl w)
mem_last w (x ∷ xs) = or_right (same_word x w) (mem w (xs ++ w ∷ [])) (mem_last w xs)

pub with_mem : (w : Word) (ws : List Word) → mem w (with_word (Some w) ws) ≡ true
with_mem w ws = cases (mem w ws) refl where
  cases : (b : Bool) → mem w ws ≡ b → mem w (if b then ws else (ws ++ w ∷ [])) ≡ true
  cases true g = g
  cases false g = mem_last w ws

-- a word that is a local name stays one
pub with_keeps : (w : Word) (ws : List Word) (v : Word) → mem v ws ≡ true → mem v (with_word (Some w) ws) ≡ true
with_keeps w ws v h = cases (mem w ws) where
  more : (ws : List Word) → mem v ws ≡ true → mem v (ws ++ w ∷ []) ≡ true
  more [] g = absurd (false≢true g)
  more (x ∷ xs) g = either (same_word x v) g (more xs) where
    either : (b : Bool) → (b || mem v xs) ≡ true → (mem v xs ≡ true → mem v (xs ++ w ∷ []) ≡ true) → (b || mem v (xs ++ w ∷ [])) ≡ true
    either true e go = refl
    either false e go = go e

  cases : (b : Bool) → mem v (if b then ws else (ws ++ w ∷ [])) ≡ true
  cases true = h
  cases false = more ws h

pub same_names : (ws : List Word) (v : Word) → mem v ws ≡ true → mem v ws ≡ true
same_names ws v h = h

-- how many local names there are behind a line

pub room : (t : Tables) (s : Shape) → is_too_many t s ≡ false → length t.locals + count_new t s ≤ 256
unfolding is_too_many
room t s h =
    let a = or_parts _ _ h in
    let b = or_parts _ _ a.1 in
    let c = or_parts (nat_lt 256 (length t.locals + count_new t s)) _ b.1 in
    ltb-false 256 (length t.locals + count_new t s) c.0

pub last : (t : Tables) (s : Shape) → is_too_many t s ≡ false → is_last_state t s ≡ false
unfolding is_too_many
last t s h = let a = or_parts _ _ h in (or_parts (is_last_state t s) _ a.1).0

one_more : (t : Tables) (w : Word) → is_state t w ≡ false → length (with_word (Some w) t.locals) ≤ length t.locals + one_if (is_new t w)
one_more t w s = cases (mem w t.locals) refl where
  cases : (b : Bool) → mem w t.locals ≡ b → length (if b then t.locals else (t.locals ++ w ∷ [])) ≤ length t.locals + one_if (is_new t w)
  cases true g = omega arith
  cases false g =
      let new : is_new t w ≡ true = ap (λ (b : Bool). not (b || is_state t w)) g ∙ ap not s in
      let one : one_if (is_new t w) ≡ 1 = ap one_if new in
      let e : length (t.locals ++ w ∷ []) ≡ length t.locals + 1 = length-append t.locals (w ∷ []) in
      omega arith

pub one_few : (t : Tables) (w : Word) → length t.locals + one_if (is_new t w) ≤ 256 → is_state t w ≡ false → length (with_word (Some w) t.locals) ≤ 256
one_few t w h s = let e : length (with_word (Some w) t.locals) ≤ length t.locals + one_if (is_new t w) = one_more t w s in omega arith

grown : (ws : List Word) (w : Word) (n : ℕ) → length ws ≤ n → (mem w ws ≡ false → length ws + 1 ≤ n) → length (with_word (Some w) ws) ≤ n
grown ws w n h g = cases (mem w ws) refl where
  cases : (b : Bool) → mem w ws ≡ b → length (if b then ws else (ws ++ w ∷ [])) ≤ n
  cases true e = h
  cases false e =
      let low = g e in
      let e : length (ws ++ w ∷ []) ≡ length ws + 1 = length-append ws (w ∷ []) in
      omega arith

pub two_few : (t : Tables) (v w : Word) → length t.locals + (one_if (is_new t v) + one_if (is_new t w && not (same_word v w))) ≤ 256 → is_state t v ≡ false → is_state t w ≡ false → same_word v w ≡ false
    → length (with_word (Some w) (with_word (Some v) t.locals)) ≤ 256
two_few t v w h p q d =
    let ws = with_word (Some v) t.locals in
    let low : length (with_word (Some v) t.locals) ≤ length t.locals + one_if (is_new t v) = one_more t v p in
    grown ws w 256 (omega arith) (λ g.
    let new : is_new t w ≡ true = ap (λ (b : Bool). not (b || is_state t w)) (not_there g (mem w t.locals) refl) ∙ ap not q in
    let one : one_if (is_new t w && not (same_word v w)) ≡ 1 = ap one_if (and_from (is_new t w) (not (same_word v w)) new (ap not d)) in
    omega arith)
  where
    not_there : mem w (with_word (Some v) t.locals) ≡ false → (b : Bool) → mem w t.locals ≡ b → b ≡ false
    not_there g true e = absurd (true≢false (sym (with_keeps v t.locals w e) ∙ g))
    not_there g false e = refl

-- places

pub name_low : (ws : List Word) (w : Word) (n : ℕ) → mem w ws ≡ true → length ws ≤ n → nat_lt (place_in ws w) n ≡ true
name_low ws w n h few = let low : place_in ws w < length ws = place_fits ws w h in lt-ltb (place_in ws w) n (omega arith)

-- a new name has the place behind the others
place_last : (n : ℕ) (ws : List Word) (w : Word) → mem w ws ≡ false → place_or (index_of n (ws ++ w ∷ []) w) ≡ n + length ws
place_last n [] w h = ap (λ (b : Bool). place_or (if b then Some n else index_of (n + 1) [] w)) (same_refl w) ∙ omega arith
place_last n (x ∷ xs) w h =
    let a = or_parts (same_word x w) (mem w xs) h in
    let r : place_or (index_of (n + 1) (xs ++ w ∷ []) w) ≡ n + 1 + length xs = place_last (n + 1) xs w a.1 in
    ap (λ (b : Bool). place_or (if b then Some n else index_of (n + 1) (xs ++ w ∷ []) w)) a.0 ∙ omega arith

place_keeps : (n : ℕ) (ws : List Word) (v w : Word) → mem v ws ≡ true → index_of n (ws ++ w ∷ []) v ≡ index_of n ws v
place_keeps n [] v w h = absurd (false≢true h)
place_keeps n (x ∷ xs) v w h = cases (same_word x v) h (place_keeps (n + 1) xs v w) where
  cases : (b : Bool) → (b || mem v xs) ≡ true → (mem v xs ≡ true → index_of (n + 1) (xs ++ w ∷ []) v ≡ index_of (n + 1) xs v) → (if b then Some n else index_of (n + 1) (xs ++ w ∷ []) v) ≡ (if b then Some n else index_of (n + 1) xs v)
  cases true g go = refl
  cases false g go = go g

-- where one more name is assigned, a name keeps its place
pub with_place : (w : Word) (ws : List Word) (v : Word) → mem v ws ≡ true → place_in (with_word (Some w) ws) v ≡ place_in ws v
with_place w ws v h = cases (mem w ws) where
  cases : (b : Bool) → place_in (if b then ws else (ws ++ w ∷ [])) v ≡ place_in ws v
  cases true = refl
  cases false = ap place_or (place_keeps 0 ws v w h)

-- there are as many names as the places of the earlier ones and of this one need
pub with_length : (w : Word) (ws : List Word) → length (with_word (Some w) ws) ≡ max (length ws) (suc (place_in (with_word (Some w) ws) w))
with_length w ws = cases (mem w ws) refl where
  cases : (b : Bool) → mem w ws ≡ b → length (if b then ws else (ws ++ w ∷ [])) ≡ max (length ws) (suc (place_in (if b then ws else (ws ++ w ∷ [])) w))
  cases true g = let low : place_in ws w < length ws = place_fits ws w g in omega arith
  cases false g =
      let n : length (ws ++ w ∷ []) ≡ length ws + 1 = length-append ws (w ∷ []) in
      let p : place_in (ws ++ w ∷ []) w ≡ 0 + length ws = place_last 0 ws w g in
      omega arith

-- a `put` assigns no name
pub put_names : (o : Option KindWord) (state : ℕ) (es : List Expr) → asking_names (put_by o state es) ≡ 0
put_names None state es = refl
put_names (Some word.Value) state [] = refl
put_names (Some word.Value) state (e ∷ es) = refl
put_names (Some word.List) state es = refl
put_names (Some word.Map) state [] = refl
put_names (Some word.Map) state (e ∷ []) = refl
put_names (Some word.Map) state (e ∷ f ∷ es) = refl

place_from : (n : ℕ) (ws : List Word) (w : Word) → mem w ws ≡ true → n ≤ place_or (index_of n ws w)
place_from n [] w h = absurd (false≢true h)
place_from n (x ∷ xs) w h = cases (λ g. place_from (n + 1) xs w g) (same_word x w) h where
  cases : (mem w xs ≡ true → n + 1 ≤ place_or (index_of (n + 1) xs w)) → (b : Bool) → (b || mem w xs) ≡ true → n ≤ place_or (if b then Some n else index_of (n + 1) xs w)
  cases go true g = omega arith
  cases go false g = let r = go g in omega arith

same_place : (n : ℕ) (ws : List Word) (v w : Word) → mem v ws ≡ true → mem w ws ≡ true → place_or (index_of n ws v) ≡ place_or (index_of n ws w) → v ≡ w
same_place n [] v w h g e = absurd (false≢true h)
same_place n (x ∷ xs) v w h g e = cases (λ p q r. same_place (n + 1) xs v w p q r) (same_word x v) refl (same_word x w) refl h g e where
  cases : (mem v xs ≡ true → mem w xs ≡ true → place_or (index_of (n + 1) xs v) ≡ place_or (index_of (n + 1) xs w) → v ≡ w)
      → (a : Bool) → same_word x v ≡ a → (b : Bool) → same_word x w ≡ b → (a || mem v xs) ≡ true → (b || mem w xs) ≡ true
      → place_or (if a then Some n else index_of (n + 1) xs v) ≡ place_or (if b then Some n else index_of (n + 1) xs w) → v ≡ w
  cases go true p true q h g e = sym (same_equal x v p) ∙ same_equal x w q
  cases go true p false q h g e = let low : n + 1 ≤ place_or (index_of (n + 1) xs w) = place_from (n + 1) xs w g in absurd (omega arith)
  cases go false p true q h g e = let low : n + 1 ≤ place_or (index_of (n + 1) xs v) = place_from (n + 1) xs v h in absurd (omega arith)
  cases go false p false q h g e = go h g e

-- names that differ have places that differ
pub places_differ : (ws : List Word) (v w : Word) → mem v ws ≡ true → mem w ws ≡ true → same_word v w ≡ false → nat_eq (place_in ws v) (place_in ws w) ≡ false
places_differ ws v w h g d = cases (nat_eq (place_in ws v) (place_in ws w)) refl where
  cases : (b : Bool) → nat_eq (place_in ws v) (place_in ws w) ≡ b → b ≡ false
  cases true e = absurd (true≢false (sym (subst (λ (u : Word). same_word v u ≡ true) (same_place 0 ws v w h g (eqb-true (place_in ws v) (place_in ws w) e)) (same_refl v)) ∙ d))
  cases false e = refl

-- names that differ, and one more
pub distinct_last : (ws : List Word) (w : Word) → are_distinct ws ≡ true → mem w ws ≡ false → are_distinct (ws ++ w ∷ []) ≡ true
distinct_last [] w h g = refl
distinct_last (x ∷ xs) w h g =
    let a = and_parts (not (mem x xs)) (are_distinct xs) h in
    let b = or_parts (same_word x w) (mem w xs) g in
    and_from (not (mem x (xs ++ w ∷ []))) (are_distinct (xs ++ w ∷ [])) (ap not (apart xs (not-true (mem x xs) a.0) (same_not x w b.0))) (distinct_last xs w a.1 b.1)
  where
    apart : (ys : List Word) → mem x ys ≡ false → same_word w x ≡ false → mem x (ys ++ w ∷ []) ≡ false
    apart [] m e = ap (λ (b : Bool). b || false) e
    apart (y ∷ ys) m e =
        let c = or_parts (same_word y x) (mem x ys) m in
        ap (λ (b : Bool). b || mem x (ys ++ w ∷ [])) c.0 ∙ apart ys c.1 e

-- states

-- the kinds of declared states
abbrev pub kinds_in : List DeclaredState → List Kind
kinds_in ds = map (λ d. kind_in d.kind) ds

same_kind_in : (k : KindWord) → same_kind (kind_in k) (kind_in k) ≡ true
same_kind_in word.Value = refl
same_kind_in word.List = refl
same_kind_in word.Map = refl

-- where a name stands, its kind stands too
found : (ds : List DeclaredState) (w : Word) (k : KindWord) (n : ℕ) → kind_of ds w ≡ Some k → (p : ℕ) × (place_or (index_of n (names_of ds) w) ≡ n + p) × (p < length ds) × (slice_index_or (kinds_in ds) p kind.Value ≡ kind_in k)
found [] w k n h = absurd (none-some k h)
found (d ∷ ds) w k n h = cases (λ e. found ds w k (n + 1) e) (same_word d.name w) h where
  some : (a b : KindWord) → Some a ≡ Some b → a ≡ b
  some a b e = cc

  cases : (kind_of ds w ≡ Some k → (p : ℕ) × (place_or (index_of (n + 1) (names_of ds) w) ≡ n + 1 + p) × (p < length ds) × (slice_index_or (kinds_in ds) p kind.Value ≡ kind_in k))
      → (b : Bool) → (if b then Some d.kind else kind_of ds w) ≡ Some k
      → (p : ℕ) × (place_or (if b then Some n else index_of (n + 1) (names_of ds) w) ≡ n + p) × (p < length (d ∷ ds)) × (slice_index_or (kinds_in (d ∷ ds)) p kind.Value ≡ kind_in k)
  cases go true e = (0, (omega arith), (omega arith), ap kind_in (some d.kind k e))
  cases go false e = let r = go e in (suc r.0, (let q = r.1 in omega arith), (let q = r.2 in omega arith), r.3)

none_before : (n : ℕ) → 0 + n ≡ n
none_before n = omega arith

-- a state that is declared exists, and is of its kind
pub state_fits : (ds : List DeclaredState) (w : Word) (k : KindWord) → kind_of ds w ≡ Some k → has_kind (kinds_in ds) (place_in (names_of ds) w) (kind_in k) ≡ true
state_fits ds w k h =
    let r = found ds w k 0 h in
    let place : place_in (names_of ds) w ≡ r.0 = r.1 ∙ none_before r.0 in
    let n : length (kinds_in ds) ≡ length ds = length-map ds (λ (d : DeclaredState). kind_in d.kind) in
    let low : r.0 < length ds = r.2 in
    subst (λ (p : ℕ). has_kind (kinds_in ds) p (kind_in k) ≡ true) (sym place)
    (and_from (nat_lt r.0 (length (kinds_in ds))) (same_kind (slice_index_or (kinds_in ds) r.0 kind.Value) (kind_in k)) (lt-ltb r.0 (length (kinds_in ds)) (omega arith))
    (ap (λ (a : Kind). same_kind a (kind_in k)) r.3 ∙ same_kind_in k))

-- the kind of the state in a statement's place
abbrev pub Served : Tables → Shape → Word → Type 0
Served t s w = (k : KindWord) × (kind_of t.states w ≡ Some k) × (serves k s ≡ true)

served_by : (o : Option KindWord) (s : Shape) → some_serves o s ≡ true → (k : KindWord) × (o ≡ Some k) × (serves k s ≡ true)
served_by None s h = absurd (false≢true h)
served_by (Some k) s h = (k, refl, h)

pub served : (t : Tables) (s : Shape) (w : Word) → use_of s ≡ Some w → is_unserved t s ≡ false → Served t s w
served t s w u h =
    let e : not (some_serves (kind_of t.states w) s) ≡ false = sym (ap (some_is (λ (v : Word). not (some_serves (kind_of t.states v) s))) u) ∙ h in
    served_by (kind_of t.states w) s (not-false (some_serves (kind_of t.states w) s) e)

value_is : (k : KindWord) → is_value k ≡ true → kind_in k ≡ kind.Value
value_is word.Value h = refl
value_is word.List h = absurd (false≢true h)
value_is word.Map h = absurd (false≢true h)

list_is : (k : KindWord) → is_list k ≡ true → kind_in k ≡ kind.List
list_is word.Value h = absurd (false≢true h)
list_is word.List h = refl
list_is word.Map h = absurd (false≢true h)

map_is : (k : KindWord) → is_map k ≡ true → kind_in k ≡ kind.Map
map_is word.Value h = absurd (false≢true h)
map_is word.List h = absurd (false≢true h)
map_is word.Map h = refl

as_kind : (ds : List DeclaredState) (w : Word) (k : KindWord) (a : Kind) → kind_of ds w ≡ Some k → kind_in k ≡ a → has_kind (kinds_in ds) (place_in (names_of ds) w) a ≡ true
as_kind ds w k a h e = subst (λ (b : Kind). has_kind (kinds_in ds) (place_in (names_of ds) w) b ≡ true) e (state_fits ds w k h)

pub value_fits : (ds : List DeclaredState) (w : Word) (k : KindWord) → kind_of ds w ≡ Some k → is_value k ≡ true → has_kind (kinds_in ds) (place_in (names_of ds) w) kind.Value ≡ true
value_fits ds w k h e = as_kind ds w k kind.Value h (value_is k e)

pub list_fits : (ds : List DeclaredState) (w : Word) (k : KindWord) → kind_of ds w ≡ Some k → is_list k ≡ true → has_kind (kinds_in ds) (place_in (names_of ds) w) kind.List ≡ true
list_fits ds w k h e = as_kind ds w k kind.List h (list_is k e)

pub map_fits : (ds : List DeclaredState) (w : Word) (k : KindWord) → kind_of ds w ≡ Some k → is_map k ≡ true → has_kind (kinds_in ds) (place_in (names_of ds) w) kind.Map ≡ true
map_fits ds w k h e = as_kind ds w k kind.Map h (map_is k e)

-- what a state is put to
put_as : (f n state : ℕ) (ks : List Kind) (k : KindWord) (es : List Expr) → has_kind ks state (kind_in k) ≡ true → takes k (length es) ≡ true → exprs_fit f n es ≡ true → asking_fits f n ks (put_by (Some k) state es) ≡ true
put_as f n state ks word.Value [] h t e = absurd (false≢true t)
put_as f n state ks word.Value (x ∷ xs) h t e =
    let all = and_parts _ (expr_fits f n x && list_all (expr_fits f n) xs) e in
    and_from (has_kind ks state kind.Value) (expr_fits f n x) h (and_parts (expr_fits f n x) (list_all (expr_fits f n) xs) all.1).0
put_as f n state ks word.List xs h t e = and_from (has_kind ks state kind.List) (exprs_fit f n xs) h e
put_as f n state ks word.Map [] h t e = absurd (false≢true t)
put_as f n state ks word.Map (x ∷ []) h t e = absurd (false≢true t)
put_as f n state ks word.Map (x ∷ y ∷ xs) h t e =
    let all = and_parts _ (expr_fits f n x && (expr_fits f n y && list_all (expr_fits f n) xs)) e in
    let one = and_parts (expr_fits f n x) (expr_fits f n y && list_all (expr_fits f n) xs) all.1 in
    and_from (has_kind ks state kind.Map) (expr_fits f n x && expr_fits f n y) h (and_from (expr_fits f n x) (expr_fits f n y) one.0 (and_parts (expr_fits f n y) (list_all (expr_fits f n) xs) one.1).0)

pub put_fits : (f n : ℕ) (ds : List DeclaredState) (w : Word) (k : KindWord) (es : List Expr) → kind_of ds w ≡ Some k → takes k (length es) ≡ true → exprs_fit f n es ≡ true
    → asking_fits f n (kinds_in ds) (put_by (kind_of ds w) (place_in (names_of ds) w) es) ≡ true
put_fits f n ds w k es h t e =
    subst (λ (o : Option KindWord). asking_fits f n (kinds_in ds) (put_by o (place_in (names_of ds) w) es) ≡ true) (sym h)
    (put_as f n (place_in (names_of ds) w) (kinds_in ds) k es (state_fits ds w k h) t e)
