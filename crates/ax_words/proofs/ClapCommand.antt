-- What a parse of the command gives, by `given_by`.
use Rattle.std.proofs.Common.{◌≡◌, ◌∙◌, Bool, true, false, List, [], ◌∷◌, ◌++◌, Option, Some, None, refl, sym, ap, subst, codes, find, option_map, option_and_then, map, fold, ◌||◌, ◌&&◌, not, slice_get, is_some}
use Rattle.std.specs.List.{list_any, All}
use Rattle.std.specs.Str.{bytes_eq, IsUtf8}
use Rattle.std.proofs.lemmas.Slice.Eq.{bytes_eq-Decides}
use Rattle.clap.specs.Kinds.{Kinds, or_else}
use Rattle.clap.specs.Faults.{fault_of, walk_fault, default_fault, defaults_fault, entered_fault, level_fault, built_fault}
use Rattle.std.proofs.Common.{if◌then◌else◌, true≢false}
use Rattle.clap.specs.Takes.{is_given as is_given_row}
use Rattle.clap.specs.Walk.{Row, Rule, Text, has_row, more_values, with_default, first_of, nothing_held, rows_after}
use Rattle.clap.specs.Simple.{built, entered, matches_of, names_of}
use Rattle.clap.specs.declared.parser.matches.ValueSource.TheVariants.{DefaultValue}
use Rattle.clap.specs.declared.builder.value_parser.Reading.TheVariants as reading
use Rattle.clap.proofs.WalkLemmas.{find-map}
use Rattle.ax_words.specs.Words.{Spelling, Given, value_of, given_by}
use Rattle.ax_words.specs.Command.{app_for}
use Rattle.ax_words.proofs.ClapReads.{shape_for, row, cooked, filled_all, agrees, Agrees, faults, rows_left, at, no_row, no_more}
use Rattle.clap.specs.Walk.{idle}

built_app : (t : List Spelling) → built (app_for t) ≡ record { top = shape_for t; subs = [] }
built_app t = ap (λ (rules : List Rule). record { top = record (shape_for t) { rules = rules }; subs = [] }) (filled_all 1 t)

some_or : (b : Bool) (ks : Kinds) → ks ≡ [] → (if b then [] else ks) ≡ []
some_or true ks e = refl
some_or false ks e = e

or_true : (b : Bool) → (b || true) ≡ true
or_true true = refl
or_true false = refl

no_defaults_fault : (rows : List Row) (o : Text × Bool) (takes : Bool) → o.1 ≡ takes → default_fault rows (cooked o) ≡ []
no_defaults_fault rows o true e = rw (e, or_true (has_row o.0 rows)) refl
no_defaults_fault rows o false e = rw e (some_or (has_row o.0 rows || false) [] refl)

no_default_faults : (rows : List Row) (t : List Spelling) → defaults_fault rows (map cooked t) ≡ []
unfolding defaults_fault
no_default_faults rows [] = refl
no_default_faults rows (o ∷ t) = rw (no_defaults_fault rows o o.1 refl) (no_default_faults (with_default rows (cooked o)) t)

none_required : (rows : List Row) (t : List Spelling) → list_any (λ a. a.required && not (is_given_row a.id rows)) (map cooked t) ≡ false
none_required rows [] = refl
none_required rows (o ∷ t) = none_required rows t

-- ---- defaults

abbrev pub default_row : Text → Row
default_row name = record { id = name; values = codes "false" ∷ []; count = None; source = Some DefaultValue; reading = reading.AsWritten }

abbrev pub or_option : {X : Type 0} → Option X → Option X → Option X
or_option (Some x) other = Some x
or_option None other = other

-- the row of a flag that was not given
abbrev pub default_of : List Spelling → Text → Option Row
default_of [] name = None
default_of (o ∷ t) name = if not o.1 && bytes_eq o.0 name then Some (default_row name) else default_of t name

abbrev find_id : Text → List Row → Option Row
find_id name rows = find (λ r. bytes_eq r.id name) rows

after_true : (rows : List Row) (o : Text × Bool) (b : Bool) → o.1 ≡ true → has_row o.0 rows ≡ b → with_default rows (cooked o) ≡ rows
after_true rows o true e h = rw (e, h) refl
after_true rows o false e h = rw (e, h) refl

after_false : (rows : List Row) (o : Text × Bool) (b : Bool) → o.1 ≡ false → has_row o.0 rows ≡ b → with_default rows (cooked o) ≡ (if b then rows else rows ++ default_row o.0 ∷ [])
after_false rows o true e h = rw (e, h) refl
after_false rows o false e h = rw (e, h) (no_row o.0 (more_values DefaultValue (codes "false" ∷ [])) (default_row o.0 ∷ []) rows h)

pub or_none : {X : Type 0} (a : Option X) → a ≡ or_option a None
or_none None = refl
or_none (Some x) = refl

has_found : (rows : List Row) (name : Text) (x y : Option Row) → has_row name rows ≡ true → or_option (find_id name rows) x ≡ or_option (find_id name rows) y
has_found [] name x y h = absurd (true≢false (sym h))
has_found (r ∷ rs) name x y h = go (bytes_eq r.id name) h (has_found rs name x y)
  where
    go : (b : Bool) → (b || has_row name rs) ≡ true → (has_row name rs ≡ true → or_option (find_id name rs) x ≡ or_option (find_id name rs) y)
        → or_option (if b then Some r else find_id name rs) x ≡ or_option (if b then Some r else find_id name rs) y
    go true h next = refl
    go false h next = next h

find_end : (rows : List Row) (name : Text) (d : Row) → find_id name (rows ++ d ∷ []) ≡ or_option (find_id name rows) (if bytes_eq d.id name then Some d else None)
find_end [] name d = refl
find_end (r ∷ rs) name d = go (bytes_eq r.id name) (find_end rs name d)
  where
    go : (b : Bool) → find_id name (rs ++ d ∷ []) ≡ or_option (find_id name rs) (if bytes_eq d.id name then Some d else None)
        → (if b then Some r else find_id name (rs ++ d ∷ [])) ≡ or_option (if b then Some r else find_id name rs) (if bytes_eq d.id name then Some d else None)
    go true next = refl
    go false next = next

regroup : (f : Option Row) (e : Bool) (d : Row) (rest : Option Row) → or_option (or_option f (if e then Some d else None)) rest ≡ or_option f (if e then Some d else rest)
regroup (Some r) e d rest = refl
regroup None true d rest = refl
regroup None false d rest = refl

-- the row of a name after the defaults
pub find_after : (t : List Spelling) (rows : List Row) (name : Text) → find_id name (fold with_default rows (map cooked t)) ≡ or_option (find_id name rows) (default_of t name)
find_after [] rows name = or_none (find_id name rows)
find_after (o ∷ t) rows name = go o.1 refl (has_row o.0 rows) refl (bytes_eq o.0 name) refl (λ rows. find_after t rows name)
  where
    go : (takes : Bool) → o.1 ≡ takes → (b : Bool) → has_row o.0 rows ≡ b → (same : Bool) → bytes_eq o.0 name ≡ same
        → ((rows : List Row) → find_id name (fold with_default rows (map cooked t)) ≡ or_option (find_id name rows) (default_of t name))
        → find_id name (fold with_default (with_default rows (cooked o)) (map cooked t)) ≡ or_option (find_id name rows) (if not o.1 && bytes_eq o.0 name then Some (default_row name) else default_of t name)
    go true e b h same s next = rw (after_true rows o b e h, e) (next rows)
    go false e true h true s next = rw (after_false rows o true e h, e, s)
        (next rows ∙ has_found rows name (default_of t name) (Some (default_row name)) (subst (λ (n : Text). has_row n rows ≡ true) ((bytes_eq-Decides o.0 name).0 s) h))
    go false e true h false s next = rw (after_false rows o true e h, e, s) (next rows)
    go false e false h same s next = rw (after_false rows o false e h, e)
        (next (rows ++ default_row o.0 ∷ []) ∙ ap (λ f. or_option f (default_of t name)) (find_end rows name (default_row o.0)) ∙ regroup (find_id name rows) (bytes_eq o.0 name) (default_row o.0) (default_of t name)
        ∙ named same s)
      where
        named : (same : Bool) → bytes_eq o.0 name ≡ same → or_option (find_id name rows) (if bytes_eq o.0 name then Some (default_row o.0) else default_of t name)
            ≡ or_option (find_id name rows) (if bytes_eq o.0 name then Some (default_row name) else default_of t name)
        named true s = ap (λ n. or_option (find_id name rows) (if bytes_eq o.0 name then Some (default_row n) else default_of t name)) ((bytes_eq-Decides o.0 name).0 s)
        named false s = rw s refl

level_is : (t : List Spelling) (words : List Text) (stop : Option (Text × List Text))
    → level_fault (shape_for t) [] nothing_held words (is_some (entered (record { top = shape_for t; subs = [] }) stop)) (entered_fault (record { top = shape_for t; subs = [] }) stop)
    ≡ level_fault (shape_for t) [] nothing_held words false []
level_is t words None = refl
level_is t words (Some p) = refl

pub fault_is : (t : List Spelling) (words : List Text) → fault_of (app_for t) words ≡ faults t (at idle [] None) words
fault_is t words =
    let rows : List Row = rows_left t (at idle [] None) words in
    ap (λ a. built_fault a nothing_held words) (built_app t) ∙ level_is t words _
    ∙ rw (no_default_faults rows t, none_required (fold with_default rows (map cooked t)) t) (ap (or_else (walk_fault (shape_for t) [] (at idle [] None) words)) (no_more _))

pub matches_are : (t : List Spelling) (words : List Text) → matches_of (app_for t) words ≡ fold with_default (rows_left t (at idle [] None) words) (map cooked t)
matches_are t words = ap (λ a. rows_after a.top.rules (names_of a) words) (built_app t)

pub refused : (t : List Spelling) (words : List Text) → All IsUtf8 words → given_by t None [] words ≡ None → fault_of (app_for t) words ≡ [] → ⊥
refused t words u e z =
    let h : Agrees t (given_by t None [] words) (at idle [] None) words = agrees t words u None [] [] None (refl, refl) in
    let no : Agrees t None (at idle [] None) words = subst (λ (r : Option Given). Agrees t r (at idle [] None) words) e h in
    no (sym (fault_is t words) ∙ z)

pub accepted : (t : List Spelling) (words : List Text) → All IsUtf8 words → (g : Given) → given_by t None [] words ≡ Some g
    → (fault_of (app_for t) words ≡ []) × ((name : Text) → find_id name (matches_of (app_for t) words) ≡ or_option (option_map row (find (λ o. bytes_eq o.0 name) g)) (default_of t name))
accepted t words u g e =
    let h : Agrees t (given_by t None [] words) (at idle [] None) words = agrees t words u None [] [] None (refl, refl) in
    let yes : Agrees t (Some g) (at idle [] None) words = subst (λ (r : Option Given). Agrees t r (at idle [] None) words) e h in (
      fault_is t words ∙ yes.0,
      λ name. ap (find_id name) (matches_are t words) ∙ find_after t _ name
          ∙ ap (λ f. or_option f (default_of t name)) (ap (find_id name) yes.1 ∙ sym (find-map (λ r. bytes_eq r.id name) row g)),
    )

-- the value of an option that takes one, and of a flag
pub first_value_of : (t : List Spelling) (words : List Text) (g : Given) (name : Text) (d : Option Row) → default_of t name ≡ d
    → find_id name (matches_of (app_for t) words) ≡ or_option (option_map row (find (λ o. bytes_eq o.0 name) g)) (default_of t name)
    → first_of name (matches_of (app_for t) words) ≡ or_option (value_of g name) (option_and_then (λ r. slice_get r.values 0) d)
first_value_of t words g name d e h = ap (option_and_then (λ (r : Row). slice_get r.values 0)) h ∙ rw e (go (find (λ o. bytes_eq o.0 name) g))
  where
    go : (f : Option (Text × Text)) → option_and_then (λ (r : Row). slice_get r.values 0) (or_option (option_map row f) d) ≡ or_option (option_map (λ o. o.1) f) (option_and_then (λ (r : Row). slice_get r.values 0) d)
    go None = refl
    go (Some o) = refl
