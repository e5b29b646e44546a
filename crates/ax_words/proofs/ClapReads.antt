-- clap reads the words as `given_by` does.
use Rattle.std.proofs.Common.{◌≡◌, ◌∙◌, ℕ, Bool, true, false, List, [], ◌∷◌, ◌++◌, Option, Some, None, refl, sym, ap, ap₂, subst, codes, find, option_map, map, fold, cond, ◌==◌, ◌||◌, ◌&&◌, slice_get, append-nil}
use Rattle.std.proofs.lemmas.List.{map-append}
use Rattle.std.specs.Str.{bytes_eq, IsUtf8, is_utf8, chars, encode_utf8_all}
use Rattle.std.specs.Char.{encode_utf8}
use Rattle.std.proofs.lemmas.Str.{is_utf8-from_IsUtf8}
use Rattle.std.proofs.Common.{true≢false}
use lib.Utf8.{scalars}
use Rattle.clap.specs.declared.error.kind.ErrorKind.TheVariants as kind
use Rattle.std.proofs.lemmas.Slice.Eq.{bytes_eq-Decides}
use Rattle.clap.specs.Lexer.{long_of, name_and_value, short_of}
use Rattle.std.proofs.Common.{◌⊎◌, inl, inr, if◌then◌else◌}
use borrow.Author.Tests.{eqb-true}
use Rattle.std.specs.List.{All}
use Rattle.std.proofs.lemmas.List.Elements.{All-head, All-tail}
use Rattle.clap.specs.Kinds.{Kinds, or_else}
use Rattle.clap.specs.Faults.{flags_fault, walk_fault, settle_fault, turn_fault, long_fault, step_fault, repeat_fault}
use Rattle.clap.specs.Walk.{Held, Row, Rule, Text, Waiting, Walk, arg_by_id, arg_by_index, arg_by_long, arg_by_short, has_row, idle, option, positional, settled, long_word, after_step, takes_values, walked, with_values, more_values, at_row, without, subcommand_met}
use Rattle.clap.specs.Simple.{Shape, filled, filled_from}
use Rattle.clap.specs.declared.parser.matches.ValueSource.TheVariants.{CommandLine}
use Rattle.clap.specs.declared.builder.value_parser.Reading.TheVariants as reading
use Rattle.clap.specs.declared.error.kind.ErrorKind.{ErrorKind}
use Rattle.clap.proofs.WalkLemmas.{find-map, list_any-map}
use Rattle.ax_words.specs.Words.{Spelling, Given, value_wanted, is_given, is_dashed, option_read, put, given_by}
use Rattle.ax_words.specs.Command.{rule_for, bare}

abbrev pub cooked : Text × Bool → Rule
cooked o = filled (rule_for o)

abbrev pub shape_for : List Spelling → Shape
shape_for t = record bare { rules = map cooked t; disable_help_subcommand = true; is_built = true }

abbrev pub row : Text × Text → Row
row o = record { id = o.0; values = o.1 ∷ []; count = None; source = Some CommandLine; reading = reading.AsWritten }

pub filled_all : (i : ℕ) (t : List Spelling) → filled_from i (map rule_for t) ≡ map cooked t
filled_all i [] = refl
filled_all i (o ∷ t) = ap (λ rest. cooked o ∷ rest) (filled_all i t)

-- ---- the arguments by their names

by_id : (t : List Spelling) (name : Text) → arg_by_id (map cooked t) name ≡ option_map cooked (find (λ o. bytes_eq o.0 name) t)
by_id t name = sym (find-map (λ a. bytes_eq a.id name) cooked t)

long_here : (o : Text × Bool) (b : Bool) (r : Option Rule) (q : Option (Text × Bool)) → r ≡ option_map cooked q → cond (b || false) (Some (cooked o)) r ≡ option_map cooked (cond b (Some o) q)
long_here o true r q e = refl
long_here o false r q e = e

by_long : (t : List Spelling) (name : Text) → arg_by_long (map cooked t) name ≡ option_map cooked (find (λ o. bytes_eq o.0 name) t)
by_long [] name = refl
by_long (o ∷ t) name = long_here o (bytes_eq o.0 name) _ _ (by_long t name)

no_short : (t : List Spelling) (x : ℕ) → arg_by_short (map cooked t) x ≡ None
no_short [] x = refl
no_short (o ∷ t) x = no_short t x

no_index : (t : List Spelling) (i : ℕ) → arg_by_index (map cooked t) i ≡ None
no_index [] i = refl
no_index (o ∷ t) i = no_index t i

-- the option of a name that the table has
found_here : (o : Text × Bool) (name : Text) (takes b : Bool) (q : Option (Text × Bool)) → bytes_eq o.0 name ≡ b → (option_map (λ (x : Text × Bool). x.1) q ≡ Some takes → q ≡ Some (name, takes))
    → option_map (λ (x : Text × Bool). x.1) (cond b (Some o) q) ≡ Some takes → cond b (Some o) q ≡ Some (name, takes)
found_here o name takes true q e next h =
    let same : o.0 ≡ name = (bytes_eq-Decides o.0 name).0 e in
    let kind : o.1 ≡ takes = cc in
    ap₂ (λ (n : Text) (k : Bool). Some (n, k)) same kind
found_here o name takes false q e next h = next h

found : (t : List Spelling) (name : Text) (takes : Bool) → value_wanted t name ≡ Some takes → find (λ o. bytes_eq o.0 name) t ≡ Some (name, takes)
found [] name takes h = cc
found (o ∷ t) name takes h = found_here o name takes (bytes_eq o.0 name) _ refl (found t name takes) h

not_found : (q : Option (Text × Bool)) → option_map (λ (x : Text × Bool). x.1) q ≡ None → option_map cooked q ≡ None
not_found None h = refl
not_found (Some o) h = cc

pub long_known : (t : List Spelling) (name : Text) (takes : Bool) → value_wanted t name ≡ Some takes → arg_by_long (map cooked t) name ≡ Some (cooked (name, takes))
long_known t name takes h = by_long t name ∙ ap (option_map cooked) (found t name takes h)

pub id_known : (t : List Spelling) (name : Text) (takes : Bool) → value_wanted t name ≡ Some takes → arg_by_id (map cooked t) name ≡ Some (cooked (name, takes))
id_known t name takes h = by_id t name ∙ ap (option_map cooked) (found t name takes h)

pub long_unknown : (t : List Spelling) (name : Text) → value_wanted t name ≡ None → arg_by_long (map cooked t) name ≡ None
long_unknown t name h = by_long t name ∙ not_found _ h

-- ---- rows

has_given : (g : Given) (name : Text) → has_row name (map row g) ≡ is_given g name
has_given g name = sym (list_any-map (λ r. bytes_eq r.id name) row g)

no_row_here : (id : Text) (change : Row → List Row) (missing : List Row) (r : Row) (rs next : List Row) (b : Bool) → (b || has_row id rs) ≡ false
    → (has_row id rs ≡ false → next ≡ rs ++ missing) → cond b (change r ++ rs) (r ∷ next) ≡ (r ∷ rs) ++ missing
no_row_here id change missing r rs next true h ih = cc
no_row_here id change missing r rs next false h ih = ap (λ xs. r ∷ xs) (ih h)

pub no_row : (id : Text) (change : Row → List Row) (missing : List Row) (rows : List Row) → has_row id rows ≡ false → at_row id change missing rows ≡ rows ++ missing
no_row id change missing [] h = refl
no_row id change missing (r ∷ rs) h = no_row_here id change missing r rs _ (bytes_eq r.id id) h (no_row id change missing rs)

-- a use of an option that was not given
pub one_more : (g : Given) (name : Text) (takes : Bool) (v : Text) (rows : List Row) → is_given g name ≡ false → rows ≡ map row g
    → with_values name reading.AsWritten CommandLine (v ∷ []) (without name rows) ≡ map row (g ++ (name, v) ∷ [])
one_more g name takes v rows h is =
    let none : has_row name rows ≡ false = ap (has_row name) is ∙ has_given g name ∙ h in
    let gone : without name rows ≡ rows = no_row name (λ _. []) [] rows none ∙ append-nil rows in
    ap (with_values name reading.AsWritten CommandLine (v ∷ [])) gone ∙ no_row name (more_values CommandLine (v ∷ [])) (row (name, v) ∷ []) rows none ∙ ap (λ rs. rs ++ row (name, v) ∷ []) is ∙ sym (map-append row g ((name, v) ∷ []))

-- ---- UTF-8

no_chars : (b : ℕ) (bs cs : List ℕ) → is_utf8 (45 ∷ (b ∷ bs)) ≡ true → chars (b ∷ bs) ≡ cs → (x : ℕ) × (slice_get (chars (b ∷ bs)) 0 ≡ Some x)
unfolding is_utf8 chars encode_utf8
no_chars b bs [] u e =
    let two : (scalars (45 ∷ chars (b ∷ bs)) && bytes_eq (encode_utf8_all (45 ∷ chars (b ∷ bs))) (45 ∷ (b ∷ bs))) ≡ true = u in
    let bad : (scalars (45 ∷ []) && bytes_eq (encode_utf8_all (45 ∷ [])) (45 ∷ (b ∷ bs))) ≡ true = subst (λ (cs : List ℕ). (scalars (45 ∷ cs) && bytes_eq (encode_utf8_all (45 ∷ cs)) (45 ∷ (b ∷ bs))) ≡ true) e two in
    absurd (true≢false (sym bad))
no_chars b bs (x ∷ cs) u e = (x, ap (λ cs. slice_get cs 0) e)

pub some_char : (b : ℕ) (bs : List ℕ) → IsUtf8 (45 ∷ (b ∷ bs)) → (x : ℕ) × (slice_get (chars (b ∷ bs)) 0 ≡ Some x)
some_char b bs u = no_chars b bs (chars (b ∷ bs)) (is_utf8-from_IsUtf8 (45 ∷ (b ∷ bs)) u) refl

-- ---- the walk

abbrev pub held : List Row → Option (Text × List Text) → Held
held rows pending = record { rows = rows; pending = pending; skip = 0 }

abbrev pub waiting_for : Option Text → Waiting
waiting_for None = idle
waiting_for (Some name) = option name

abbrev pub at : Waiting → List Row → Option (Text × List Text) → Walk
at waiting rows pending = record { held = held rows pending; waiting = waiting; position = 1; is_trailing = false; stopped = None }

abbrev pub trailing_at : Waiting → List Row → Option (Text × List Text) → Walk
trailing_at waiting rows pending = record { held = held rows pending; waiting = waiting; position = 1; is_trailing = true; stopped = None }

hyphens : Text
hyphens = 45 ∷ 45 ∷ []

or_else_more : (a b d : Kinds) → or_else (or_else a b) d ≡ or_else a (or_else b d)
or_else_more [] b d = refl
or_else_more (k ∷ ks) b d = refl

pub no_more : (ks : Kinds) → or_else ks [] ≡ ks
no_more [] = refl
no_more (k ∷ ks) = refl

no_more2 : (ks : Kinds) → or_else (or_else ks []) [] ≡ ks
no_more2 [] = refl
no_more2 (k ∷ ks) = refl

fails_first : (a b : Kinds) (l : ErrorKind) (ls : Kinds) → a ≡ l ∷ ls → or_else a b ≡ l ∷ ls
fails_first a b l ls e = rw e refl

no_subcommand : (waiting : Waiting) (word : Text) → subcommand_met [] waiting word ≡ None
no_subcommand idle word = refl
no_subcommand (option name) word = refl
no_subcommand positional word = refl

-- ---- what a word looks like

abbrev IsHyphens : Text → Type 0
IsHyphens x = (bytes_eq x hyphens ≡ true) × (is_dashed x ≡ true)

abbrev IsLong : Text → Type 0
IsLong x = (o : Text × Option Text) × (bytes_eq x hyphens ≡ false) × (long_of x ≡ Some o) × (is_dashed x ≡ true)

abbrev IsShort : Text → Type 0
IsShort x = (b : ℕ) × (bs : List ℕ) × (x ≡ 45 ∷ (b ∷ bs)) × (bytes_eq (45 ∷ (b ∷ bs)) hyphens ≡ false) × (long_of (45 ∷ (b ∷ bs)) ≡ None) × (short_of (45 ∷ (b ∷ bs)) ≡ Some (b ∷ bs))

abbrev IsPlain : Text → Type 0
IsPlain x = (bytes_eq x hyphens ≡ false) × (long_of x ≡ None) × (short_of x ≡ None) × (is_dashed x ≡ false)

abbrev Sort : Text → Type 0
Sort x = IsHyphens x ⊎ (IsLong x ⊎ (IsShort x ⊎ IsPlain x))

sort_one : (b : ℕ) (v : Bool) → (b == 45) ≡ v → IsPlain (b ∷ [])
unfolding hyphens
sort_one b true e = (rw e refl, rw e refl, rw e refl, refl)
sort_one b false e = (rw e refl, rw e refl, rw e refl, refl)

sort_more : (b d : ℕ) (bs : List ℕ) (v w : Bool) → (b == 45) ≡ v → (d == 45) ≡ w → Sort (b ∷ (d ∷ bs))
unfolding hyphens
sort_more b d bs false w e f = inr (inr (inr (rw e refl, rw e refl, rw e refl, e)))
sort_more b d bs true false e f =
    let is : b ≡ 45 = eqb-true b 45 e in
    inr (inr (inl (d, bs, ap (λ n. n ∷ (d ∷ bs)) is, rw f refl, rw f refl, rw f refl)))
sort_more b d [] true true e f = inl (rw (e, f) refl, e)
sort_more b d (y ∷ ys) true true e f = inr (inl (name_and_value (y ∷ ys), rw (e, f) refl, rw (e, f) refl, e))

sort_of : (x : Text) → Sort x
unfolding hyphens
sort_of [] = inr (inr (inr (refl, refl, refl, refl)))
sort_of (b ∷ []) = inr (inr (inr (sort_one b (b == 45) refl)))
sort_of (b ∷ (d ∷ bs)) = sort_more b d bs (b == 45) (d == 45) refl refl

module _ (t : List Spelling) where
  abbrev c : List Rule
  c = map cooked t

  abbrev s : Shape
  s = shape_for t

  abbrev pub faults : Walk → List Text → Kinds
  faults w words = or_else (walk_fault s [] w words) (settle_fault c false (fold (walked c []) w words).held)

  abbrev pub rows_left : Walk → List Text → List Row
  rows_left w words = (settled c (fold (walked c []) w words).held).rows

  abbrev pub Agrees : Option Given → Walk → List Text → Type 0
  Agrees None w words = faults w words ≡ [] → ⊥
  Agrees (Some g) w words = (faults w words ≡ []) × (rows_left w words ≡ map row g)

  faults_first : (w : Walk) (x : Text) (xs : List Text) → faults w (x ∷ xs) ≡ or_else (turn_fault s [] w x) (faults (walked c [] w x) xs)
  unfolding walk_fault
  faults_first w x xs = or_else_more (turn_fault s [] w x) (walk_fault s [] (walked c [] w x) xs) _

  passes : (r : Option Given) (w next : Walk) (x : Text) (xs : List Text) → turn_fault s [] w x ≡ [] → walked c [] w x ≡ next → Agrees r next xs → Agrees r w (x ∷ xs)
  passes None w next x xs none is h = λ e. h (ap (λ v. faults v xs) (sym is) ∙ sym (faults_first w x xs ∙ ap (λ ks. or_else ks (faults (walked c [] w x) xs)) none) ∙ e)
  passes (Some g) w next x xs none is h =
      (faults_first w x xs ∙ ap (λ ks. or_else ks (faults (walked c [] w x) xs)) none ∙ ap (λ v. faults v xs) is ∙ h.0, ap (λ v. rows_left v xs) is ∙ h.1)

  fails : (w : Walk) (x : Text) (xs : List Text) (k : ErrorKind) (ks : Kinds) → turn_fault s [] w x ≡ k ∷ ks → faults w (x ∷ xs) ≡ [] → ⊥
  fails w x xs k ks is e = let first : k ∷ ks ≡ [] = ap (λ fs. or_else fs (faults (walked c [] w x) xs)) (sym is) ∙ sym (faults_first w x xs) ∙ e in
      cc

  -- a word after `--`
  stray_after : (waiting : Waiting) (rows : List Row) (p : Option (Text × List Text)) (x : Text) → turn_fault s [] (trailing_at waiting rows p) x ≡ kind.UnknownArgument ∷ []
  stray_after waiting rows p x = rw (no_index t 1) refl

  -- `--`
  turn_hyphens : (waiting : Waiting) (rows : List Row) (p : Option (Text × List Text)) (x : Text) → bytes_eq x hyphens ≡ true → turn_fault s [] (at waiting rows p) x ≡ []
  unfolding hyphens
  turn_hyphens waiting rows p x e = rw (no_subcommand waiting x, e) refl

  walked_hyphens : (waiting : Waiting) (rows : List Row) (p : Option (Text × List Text)) (x : Text) → bytes_eq x hyphens ≡ true → walked c [] (at waiting rows p) x ≡ trailing_at waiting rows p
  unfolding hyphens walked
  walked_hyphens waiting rows p x e = rw (no_subcommand waiting x, e) refl

  -- an option
  turn_long : (waiting : Waiting) (rows : List Row) (p : Option (Text × List Text)) (x : Text) (o : Text × Option Text) → bytes_eq x hyphens ≡ false → long_of x ≡ Some o
      → turn_fault s [] (at waiting rows p) x
      ≡ or_else (long_fault c false (arg_by_long c o.0) o.1 (held rows p))
      (step_fault s 1 (long_word c waiting x o.0 o.1 (held rows p)).0 (long_word c waiting x o.0 o.1 (held rows p)).1)
  unfolding hyphens
  turn_long waiting rows p x o e l = rw (no_subcommand waiting x, e, l) refl

  walked_long : (waiting : Waiting) (rows : List Row) (p : Option (Text × List Text)) (x : Text) (o : Text × Option Text) → bytes_eq x hyphens ≡ false → long_of x ≡ Some o
      → walked c [] (at waiting rows p) x
      ≡ after_step c x (at waiting rows p) (long_word c waiting x o.0 o.1 (held rows p)).0 (long_word c waiting x o.0 o.1 (held rows p)).1
  unfolding hyphens walked
  walked_long waiting rows p x o e l = rw (no_subcommand waiting x, e, l) refl

  -- `--` that is not last, and `--` that is
  not_last : (waiting : Waiting) (rows : List Row) (p : Option (Text × List Text)) (x y : Text) (ys : List Text) → bytes_eq x hyphens ≡ true → faults (at waiting rows p) (x ∷ (y ∷ ys)) ≡ [] → ⊥
  not_last waiting rows p x y ys e =
      passes None (at waiting rows p) (trailing_at waiting rows p) x (y ∷ ys) (turn_hyphens waiting rows p x e) (walked_hyphens waiting rows p x e)
      (fails (trailing_at waiting rows p) y ys kind.UnknownArgument [] (stray_after waiting rows p y))

  -- a bundle of short flags
  turn_short : (waiting : Waiting) (rows : List Row) (p : Option (Text × List Text)) (b : ℕ) (bs : List ℕ) → bytes_eq (45 ∷ (b ∷ bs)) hyphens ≡ false → long_of (45 ∷ (b ∷ bs)) ≡ None
      → short_of (45 ∷ (b ∷ bs)) ≡ Some (b ∷ bs) → IsUtf8 (45 ∷ (b ∷ bs)) → (ks : Kinds) × (turn_fault s [] (at waiting rows p) (45 ∷ (b ∷ bs)) ≡ kind.UnknownArgument ∷ ks)
  unfolding hyphens flags_fault
  turn_short waiting rows p b bs e l sh u =
      let first = some_char b bs u in
      ([], rw (no_subcommand waiting (45 ∷ (b ∷ bs)), e, l, sh, first.1, no_short t first.0) refl)

  -- a word that is no option, where none is wanted
  turn_stray : (rows : List Row) (p : Option (Text × List Text)) (x : Text) → bytes_eq x hyphens ≡ false → long_of x ≡ None → short_of x ≡ None
      → turn_fault s [] (at idle rows p) x ≡ kind.UnknownArgument ∷ []
  unfolding hyphens
  turn_stray rows p x e l sh = rw (e, l, sh, no_index t 1) refl

  -- a value
  turn_value : (name : Text) (rows : List Row) (p : Option (Text × List Text)) (x : Text) → bytes_eq x hyphens ≡ false → long_of x ≡ None → short_of x ≡ None → value_wanted t name ≡ Some true
      → turn_fault s [] (at (option name) rows p) x ≡ []
  unfolding hyphens
  turn_value name rows p x e l sh known = rw (e, l, sh) refl

  walked_value : (name : Text) (rows : List Row) (x : Text) → bytes_eq x hyphens ≡ false → long_of x ≡ None → short_of x ≡ None → value_wanted t name ≡ Some true
      → bytes_eq name name ≡ true → walked c [] (at (option name) rows (Some (name, []))) x ≡ at idle rows (Some (name, x ∷ []))
  unfolding hyphens walked
  walked_value name rows x e l sh known same = rw (e, l, sh, id_known t name true known, same) refl

  -- what settling comes to
  settle_missing : (name : Text) (rows : List Row) → value_wanted t name ≡ Some true → settle_fault c false (held rows (Some (name, []))) ≡ kind.InvalidValue ∷ []
  settle_missing name rows known = rw (id_known t name true known) refl

  settle_value : (name v : Text) (rows : List Row) → value_wanted t name ≡ Some true → settle_fault c false (held rows (Some (name, v ∷ []))) ≡ repeat_fault false name rows
  settle_value name v rows known = rw (id_known t name true known) (no_more (repeat_fault false name rows))

  settled_value : (name v : Text) (rows : List Row) → value_wanted t name ≡ Some true
      → (settled c (held rows (Some (name, v ∷ [])))).rows ≡ with_values name reading.AsWritten CommandLine (v ∷ []) (without name rows)
  settled_value name v rows known = rw (id_known t name true known) refl

  -- ---- what is held, and the options that it stands for

  abbrev pub Stands : Option Text → Given → List Row → Option (Text × List Text) → Type 0
  Stands None g rows p = (settle_fault c false (held rows p) ≡ []) × ((settled c (held rows p)).rows ≡ map row g)
  Stands (Some name) g rows p = (value_wanted t name ≡ Some true) × (p ≡ Some (name, [])) × (rows ≡ map row g)

  long_never : (found : Option Rule) (v : Option Text) (h : Held) (k : ErrorKind) (ks : Kinds) → settle_fault c false h ≡ k ∷ ks
      → (l : ErrorKind) × (ls : Kinds) × (long_fault c false found v h ≡ l ∷ ls)
  long_never None v h k ks e = (kind.UnknownArgument, [], refl)
  long_never (Some a) v h k ks e = go (takes_values a) v refl
    where
      go : (b : Bool) (v : Option Text) → takes_values a ≡ b → (l : ErrorKind) × (ls : Kinds) × (long_fault c false (Some a) v h ≡ l ∷ ls)
      go true (Some x) is = (k, ks, rw (is, e) refl)
      go true None is = (k, ks, rw (is, e) refl)
      go false (Some x) is = (kind.TooManyValues, [], rw is refl)
      go false None is = (k, ks, rw (is, e) refl)

  -- where an option is pending that cannot be used, nothing mends it
  never_word : (waiting : Waiting) (rows : List Row) (p : Option (Text × List Text)) (x : Text) (xs : List Text) (k : ErrorKind) (ks : Kinds)
      → settle_fault c false (held rows p) ≡ k ∷ ks → IsUtf8 x → IsHyphens x ⊎ (IsLong x ⊎ IsShort x) → faults (at waiting rows p) (x ∷ xs) ≡ [] → ⊥
  unfolding walk_fault
  never_word waiting rows p x [] k ks e u (inl h) z =
      passes None (at waiting rows p) (trailing_at waiting rows p) x [] (turn_hyphens waiting rows p x h.0) (walked_hyphens waiting rows p x h.0)
      (λ none. let same : settle_fault c false (held rows p) ≡ [] = none in cc) z
  never_word waiting rows p x (y ∷ ys) k ks e u (inl h) z = not_last waiting rows p x y ys h.0 z
  never_word waiting rows p x xs k ks e u (inr (inl l)) z =
      let bad = long_never (arg_by_long c l.0.0) l.0.1 (held rows p) k ks e in
      fails (at waiting rows p) x xs bad.0 bad.1 (turn_long waiting rows p x l.0 l.1 l.2 ∙ fails_first _ _ bad.0 bad.1 bad.2) z
  never_word waiting rows p x xs k ks e u (inr (inr sh)) z =
      let bad = turn_short waiting rows p sh.0 sh.1 sh.3 sh.4 sh.5 (subst IsUtf8 sh.2 u) in
      fails (at waiting rows p) (45 ∷ (sh.0 ∷ sh.1)) xs kind.UnknownArgument bad.0 bad.1 (subst (λ (y : Text). faults (at waiting rows p) (y ∷ xs) ≡ []) sh.2 z)

  never : (rows : List Row) (p : Option (Text × List Text)) (k : ErrorKind) (ks : Kinds) → settle_fault c false (held rows p) ≡ k ∷ ks → (words : List Text) → All IsUtf8 words
      → faults (at idle rows p) words ≡ [] → ⊥
  unfolding walk_fault
  never rows p k ks e [] u z = let same : settle_fault c false (held rows p) ≡ [] = z in cc
  never rows p k ks e (x ∷ xs) u z = elim (sort_of x) [
    | inl h ↦ never_word idle rows p x xs k ks e (All-head IsUtf8 x xs u) (inl h) z
    | inr (inl l) ↦ never_word idle rows p x xs k ks e (All-head IsUtf8 x xs u) (inr (inl l)) z
    | inr (inr (inl sh)) ↦ never_word idle rows p x xs k ks e (All-head IsUtf8 x xs u) (inr (inr sh)) z
    | inr (inr (inr pl)) ↦ fails (at idle rows p) x xs kind.UnknownArgument [] (turn_stray rows p x pl.0 pl.1 pl.2) z
  ]

  -- the rest of the words is given_by alike
  abbrev Next : List Text → Type 0
  Next xs = (wanted : Option Text) (g : Given) (rows : List Row) (p : Option (Text × List Text)) → Stands wanted g rows p → Agrees (given_by t wanted g xs) (at (waiting_for wanted) rows p) xs

  abbrev reads : List Text → Option Text → Given → Option Given
  reads xs wanted g = given_by t wanted g xs

  -- `--name=value`, or a flag, with this value
  module _ (g : Given) (rows : List Row) (p : Option (Text × List Text)) (st : Stands None g rows p) (x : Text) (xs : List Text) (next : Next xs) (n value : Text) (takes : Bool) where
    abbrev now : List Row
    now = (settled c (held rows p)).rows

    put_step : (b : Bool) → is_given g n ≡ b → (turn_fault s [] (at idle rows p) x ≡ (if has_row n now && true then kind.ArgumentConflict ∷ [] else []))
        → walked c [] (at idle rows p) x ≡ at idle (with_values n reading.AsWritten CommandLine (value ∷ []) (without n now)) None
        → Agrees (put n value g (reads xs)) (at idle rows p) (x ∷ xs)
    put_step b is turn walk = subst (λ (v : Bool). Agrees (if v then None else given_by t None (g ++ (n, value) ∷ []) xs) (at idle rows p) (x ∷ xs)) (sym is) (go b is)
      where
        go : (b : Bool) → is_given g n ≡ b → Agrees (if b then None else given_by t None (g ++ (n, value) ∷ []) xs) (at idle rows p) (x ∷ xs)
        go true is = fails (at idle rows p) x xs kind.ArgumentConflict [] (turn ∙ ap (λ b. if b && true then kind.ArgumentConflict ∷ [] else []) (ap (has_row n) st.1 ∙ has_given g n ∙ is))
        go false is = passes (given_by t None (g ++ (n, value) ∷ []) xs) (at idle rows p) (at idle (with_values n reading.AsWritten CommandLine (value ∷ []) (without n now)) None) x xs
            (turn ∙ ap (λ b. if b && true then kind.ArgumentConflict ∷ [] else []) (ap (has_row n) st.1 ∙ has_given g n ∙ is)) walk
            (next None (g ++ (n, value) ∷ []) _ None (refl, one_more g n takes value now is st.1))

  -- an option, by whether it takes a value
  option_step : (g : Given) (rows : List Row) (p : Option (Text × List Text)) → Stands None g rows p → (x : Text) (xs : List Text) → Next xs
      → (n : Text) (value : Option Text) → bytes_eq x hyphens ≡ false → long_of x ≡ Some (n, value)
      → (takes : Option Bool) → value_wanted t n ≡ takes → Agrees (option_read takes n value g (reads xs)) (at idle rows p) (x ∷ xs)
  unfolding walked
  option_step g rows p st x xs next n value e l None is =
      fails (at idle rows p) x xs kind.UnknownArgument [] (turn_long idle rows p x (n, value) e l ∙ rw (long_unknown t n is) refl)
  option_step g rows p st x xs next n (Some v) e l (Some true) is =
      put_step g rows p st x xs next n v true (is_given g n) refl
      (turn_long idle rows p x (n, Some v) e l ∙ rw (long_known t n true is, st.0) (no_more2 (repeat_fault false n (settled c (held rows p)).rows)))
      (walked_long idle rows p x (n, Some v) e l ∙ rw (long_known t n true is) refl)
  option_step g rows p st x xs next n None e l (Some true) is =
      passes (given_by t (Some n) g xs) (at idle rows p) (at (option n) (settled c (held rows p)).rows (Some (n, []))) x xs
      (turn_long idle rows p x (n, None) e l ∙ rw (long_known t n true is, st.0) refl)
      (walked_long idle rows p x (n, None) e l ∙ rw (long_known t n true is) refl)
      (next (Some n) g _ (Some (n, [])) (is, refl, st.1))
  option_step g rows p st x xs next n (Some v) e l (Some false) is =
      fails (at idle rows p) x xs kind.TooManyValues [] (turn_long idle rows p x (n, Some v) e l ∙ rw (long_known t n false is) refl)
  option_step g rows p st x xs next n None e l (Some false) is =
      put_step g rows p st x xs next n (codes "true") false (is_given g n) refl
      (turn_long idle rows p x (n, None) e l ∙ rw (long_known t n false is, st.0) (no_more2 (repeat_fault false n (settled c (held rows p)).rows)))
      (walked_long idle rows p x (n, None) e l ∙ rw (long_known t n false is) refl)

  -- one word, where no value is wanted
  idle_step : (g : Given) (rows : List Row) (p : Option (Text × List Text)) → Stands None g rows p → (x : Text) (xs : List Text) → Next xs → IsUtf8 x
      → Sort x → Agrees (given_by t None g (x ∷ xs)) (at idle rows p) (x ∷ xs)
  unfolding given_by walk_fault hyphens
  idle_step g rows p st x [] next u (inl h) =
      rw h.0 (passes (Some g) (at idle rows p) (trailing_at idle rows p) x [] (turn_hyphens idle rows p x h.0) (walked_hyphens idle rows p x h.0) st)
  idle_step g rows p st x (y ∷ ys) next u (inl h) = rw h.0 (not_last idle rows p x y ys h.0)
  idle_step g rows p st x xs next u (inr (inl l)) = rw (l.1, l.2) (option_step g rows p st x xs next l.0.0 l.0.1 l.1 l.2 (value_wanted t l.0.0) refl)
  idle_step g rows p st x xs next u (inr (inr (inl sh))) =
      let bad = turn_short idle rows p sh.0 sh.1 sh.3 sh.4 sh.5 (subst IsUtf8 sh.2 u) in
      subst (λ (y : Text). Agrees (given_by t None g (y ∷ xs)) (at idle rows p) (y ∷ xs)) (sym sh.2)
      (rw (sh.3, sh.4) (fails (at idle rows p) (45 ∷ (sh.0 ∷ sh.1)) xs kind.UnknownArgument bad.0 bad.1))
  idle_step g rows p st x xs next u (inr (inr (inr pl))) = rw (pl.0, pl.1) (fails (at idle rows p) x xs kind.UnknownArgument [] (turn_stray rows p x pl.0 pl.1 pl.2))

  -- one word, where the value of an option is wanted
  short_dashed : (x : Text) → IsShort x → is_dashed x ≡ true
  short_dashed x sh = rw sh.2 refl

  wanted_step : (g : Given) (name : Text) → value_wanted t name ≡ Some true → (x : Text) (xs : List Text) → All IsUtf8 xs → Next xs → IsUtf8 x
      → Sort x → Agrees (given_by t (Some name) g (x ∷ xs)) (at (option name) (map row g) (Some (name, []))) (x ∷ xs)
  unfolding given_by
  wanted_step g name known x xs us next u (inl h) =
      rw h.1 (λ z. never_word (option name) (map row g) (Some (name, [])) x xs kind.InvalidValue [] (settle_missing name (map row g) known) u (inl h) z)
  wanted_step g name known x xs us next u (inr (inl l)) =
      rw l.3 (λ z. never_word (option name) (map row g) (Some (name, [])) x xs kind.InvalidValue [] (settle_missing name (map row g) known) u (inr (inl l)) z)
  wanted_step g name known x xs us next u (inr (inr (inl sh))) =
      rw (short_dashed x sh) (λ z. never_word (option name) (map row g) (Some (name, [])) x xs kind.InvalidValue [] (settle_missing name (map row g) known) u (inr (inr sh)) z)
  wanted_step g name known x xs us next u (inr (inr (inr pl))) = rw pl.3 (value_step (is_given g name) refl)
    where
      same : bytes_eq name name ≡ true
      same = (bytes_eq-Decides name name).1 refl

      at_end : (r : Option Given) → Agrees r (at idle (map row g) (Some (name, x ∷ []))) xs → Agrees r (at (option name) (map row g) (Some (name, []))) (x ∷ xs)
      at_end r h = passes r (at (option name) (map row g) (Some (name, []))) (at idle (map row g) (Some (name, x ∷ []))) x xs
          (turn_value name (map row g) (Some (name, [])) x pl.0 pl.1 pl.2 known) (walked_value name (map row g) x pl.0 pl.1 pl.2 known same) h

      settles : settle_fault c false (held (map row g) (Some (name, x ∷ []))) ≡ (if is_given g name && true then kind.ArgumentConflict ∷ [] else [])
      settles = settle_value name x (map row g) known ∙ ap (λ b. if b && true then kind.ArgumentConflict ∷ [] else []) (has_given g name)

      value_step : (b : Bool) → is_given g name ≡ b → Agrees (if is_given g name then None else given_by t None (g ++ (name, x) ∷ []) xs) (at (option name) (map row g) (Some (name, []))) (x ∷ xs)
      value_step true e = rw e (at_end None (never (map row g) (Some (name, x ∷ [])) kind.ArgumentConflict [] (settles ∙ ap (λ b. if b && true then kind.ArgumentConflict ∷ [] else []) e) xs us))
      value_step false e = rw e (at_end (given_by t None (g ++ (name, x) ∷ []) xs) (next None (g ++ (name, x) ∷ []) (map row g) (Some (name, x ∷ []))
          (settles ∙ ap (λ b. if b && true then kind.ArgumentConflict ∷ [] else []) e, settled_value name x (map row g) known ∙ one_more g name true x (map row g) e refl)))

  agrees_word : (wanted : Option Text) (g : Given) (rows : List Row) (p : Option (Text × List Text)) → Stands wanted g rows p → (x : Text) (xs : List Text) → All IsUtf8 (x ∷ xs) → Next xs
      → Agrees (given_by t wanted g (x ∷ xs)) (at (waiting_for wanted) rows p) (x ∷ xs)
  agrees_word None g rows p st x xs u next = idle_step g rows p st x xs next (All-head IsUtf8 x xs u) (sort_of x)
  agrees_word (Some name) g rows p st x xs u next =
      rw (st.1, st.2) (wanted_step g name st.0 x xs (All-tail IsUtf8 x xs u) next (All-head IsUtf8 x xs u) (sort_of x))

  pub agrees : (words : List Text) → All IsUtf8 words → Next words
  unfolding given_by walk_fault
  agrees [] u None g rows p st = st
  agrees [] u (Some name) g rows p st = λ z.
      let missing : settle_fault c false (held rows p) ≡ kind.InvalidValue ∷ [] = ap (λ q. settle_fault c false (held rows q)) st.1 ∙ settle_missing name rows st.0 in
      let none : settle_fault c false (held rows p) ≡ [] = z in cc
  agrees (x ∷ xs) u wanted g rows p st = agrees_word wanted g rows p st x xs u (agrees xs (All-tail IsUtf8 x xs u))
