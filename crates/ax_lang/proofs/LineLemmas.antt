-- The words of a line without fault spell the expressions of its row.
use Rattle.std.proofs.Common.{◌≡◌, ℕ, ◌≤◌, List, [], ◌∷◌, length, arith, refl, sym, ap, subst, Bool, true, false, not, ◌&&◌, ◌||◌, nat_le, Option, Some, None, if◌then◌else◌}
use Rattle.std.specs.List.{list_all, list_any}
use Rattle.std.proofs.lemmas.Bool.{and_parts, and_from, or_parts, leb-true, not-true, true≢false, false≢true}
use Rattle.std.specs.Prelude.{◌↔◌}
use Rattle.ax_text.specs.Exprs.{Expr}
use Rattle.ax_text.specs.Names.{Word, is_name, is_value_word, mem}
use Rattle.ax_syntax.specs.Words.{field_number}
use Rattle.ax_syntax.specs.Shapes.{Shape, is_expr, is_exprs, parts_of}
use Rattle.ax_syntax.specs.Shapes as shape
use Rattle.ax_rules.specs.declared.tables.Tables.{Tables}
use Rattle.ax_rules.specs.Parts.{with_word}
use Rattle.ax_rules.specs.Lines.{locals_of, tables_of}
use Rattle.ax_rules.specs.Faults.{is_state, is_local, is_up_to, is_unknown_name, is_unknown_value, is_unknown, fault_by}
use Rattle.ax_lang.specs.Rows.{tree_in}
use Rattle.ax_lang.specs.Clean.{WellShaped}
use Rattle.ax_lang.specs.Programs.{fields_or}
use Rattle.ax_lang.specs.Spelling.{WordsSpell, StandsFor, is_there, AreSpelled, values_behind, exprs_of, LineSpells, KnownSpell}
use Rattle.ax_lang.proofs.ExprLemmas.{Counts, field_counts, values_of, is_known, all_known, Known, value_known, parts_all}
use Rattle.ax_lang.proofs.NameLemmas.{with_keeps, same_names}
use Rattle.ax_lang.proofs.SoundLemmas.{Reads, no_fault, reads}
use Rattle.ax_lang.proofs.SpellingLemmas.{implied, passes, stands_operand, say_there, there_from, means, spelled}

value_there : (t : Tables) (w : Word) → is_unknown_value t w ≡ false → is_value_word w ≡ true → is_up_to (field_number w) (Some (values_of t)) ≡ true
value_there t w u v =
    let a = value_known t w v u in
    subst (λ (b : Bool). is_up_to (field_number w) (Some (if b then 0 else fields_or t.fields)) ≡ true) (sym a.0) (cases (field_number w) t.fields a.1)
  where
    cases : (n fields : Option ℕ) → is_up_to n fields ≡ true → is_up_to n (Some (fields_or fields)) ≡ true
    cases None fields h = absurd (false≢true h)
    cases (Some n) None h = absurd (false≢true h)
    cases (Some n) (Some m) h = h

name_there : (t : Tables) (w : Word) → is_unknown_name t w ≡ false → is_state t w ≡ false → is_name w ≡ true → is_local t w ≡ true
name_there t w u s n = cases (is_name w) (is_state t w) (is_local t w) n s u where
  cases : (a b c : Bool) → a ≡ true → b ≡ false → (a && not (b || c)) ≡ false → c ≡ true
  cases true false true x y z = refl
  cases true false false x y z = absurd (true≢false z)
  cases true true c x y z = absurd (true≢false y)
  cases false b c x y z = absurd (false≢true x)

known_there : (t : Tables) (names : List Word) (w : Word) → Known t names → is_known t w ≡ true → is_there names (values_of t) w ≡ true
known_there t names w more h =
    let a = and_parts (not (is_unknown t w)) (not (is_state t w)) h in
    let u = or_parts (is_unknown_name t w) (is_unknown_value t w) (not-true (is_unknown t w) a.0) in
    there_from names (values_of t) w (λ n. more w (name_there t w u.0 (not-true (is_state t w) a.1) n)) (value_there t w u.1)

all_there : (t : Tables) (names : List Word) (ws : List Word) → Known t names → list_all (is_known t) ws ≡ true → list_all (is_there names (values_of t)) ws ≡ true
all_there t names [] more h = refl
all_there t names (w ∷ ws) more h =
    let a = and_parts (is_known t w) (list_all (is_known t) ws) h in
    and_from (is_there names (values_of t) w) (list_all (is_there names (values_of t)) ws) (known_there t names w more a.0) (all_there t names ws more a.1)

known_spelled : (t : Tables) (names ws : List Word) → is_expr ws ≡ true → list_all (is_known t) ws ≡ true → Known t names → WordsSpell (StandsFor names (values_of t)) ws (tree_in names ws)
known_spelled t names ws e known more =
    spelled (StandsFor names (values_of t)) (is_there names (values_of t)) names (means names (values_of t)) ws e (all_there t names ws more known)

-- and back

value_within : (n : Option ℕ) (timer : Bool) (fields : Option ℕ) (b : Bool) → Counts b n → is_up_to n (Some (if timer then 0 else fields_or fields)) ≡ true → (timer || not (is_up_to n fields)) ≡ false
value_within None timer fields b c h = absurd (false≢true h)
value_within (Some n) true fields b c h = let up : n ≤ 0 = leb-true n 0 h in let one : 1 ≤ n = c.1 in absurd (omega arith)
value_within (Some n) false None b c h = let up : n ≤ 0 = leb-true n 0 h in let one : 1 ≤ n = c.1 in absurd (omega arith)
value_within (Some n) false (Some m) b c h = ap not h

none_of : (a b : Bool) → (a ≡ true → b ≡ false) → (a && b) ≡ false
none_of true b f = f refl
none_of false b f = refl

neither : (a b : Bool) → a ≡ false → b ≡ false → (a || b) ≡ false
neither true b h g = h
neither false b h g = g

local_known : (a b : Bool) → b ≡ true → not (a || b) ≡ false
local_known true b h = refl
local_known false b h = ap not h

there_known : (t : Tables) (w : Word) → is_there t.locals (values_of t) w ≡ true → is_unknown t w ≡ false
there_known t w h =
    let a = and_parts (not (is_name w) || mem w t.locals) (not (is_value_word w) || is_up_to (field_number w) (Some (values_of t))) h in
    neither (is_unknown_name t w) (is_unknown_value t w)
    (none_of (is_name w) (not (is_state t w || is_local t w)) (λ n. local_known (is_state t w) (is_local t w) (implied (is_name w) (mem w t.locals) a.0 n)))
    (none_of (is_value_word w) (t.timer || not (is_up_to (field_number w) t.fields)) (λ v.
    value_within (field_number w) t.timer t.fields (is_value_word w) (field_counts w) (implied (is_value_word w) (is_up_to (field_number w) (Some (values_of t))) a.1 v)))

all_from : (t : Tables) (ws : List Word) → list_all (is_there t.locals (values_of t)) ws ≡ true → list_any (is_unknown t) ws ≡ false
all_from t [] h = refl
all_from t (w ∷ ws) h =
    let a = and_parts (is_there t.locals (values_of t) w) (list_all (is_there t.locals (values_of t)) ws) h in
    neither (is_unknown t w) (list_any (is_unknown t) ws) (there_known t w a.0) (all_from t ws a.1)

known_in : (t : Tables) (ws : List Word) → list_any (is_state t) ws ≡ false
    → ((is_expr ws ≡ true) × (list_any (is_unknown t) ws ≡ false)) ↔ ((e : Expr) × WordsSpell (StandsFor t.locals (values_of t)) ws e)
known_in t ws s = (
  λ h. (tree_in t.locals ws, known_spelled t t.locals ws h.0 (all_known t ws h.1 s) (same_names t.locals)),
  λ e. (passes (StandsFor t.locals (values_of t)) (stands_operand t.locals (values_of t)) ws e.0 e.1, all_from t ws (say_there t.locals (values_of t) ws e.1.0 e.1.1)),
)

pub known_spell : (before : List Shape) (ws : List Word) → KnownSpell before ws
unfolding tables_of
known_spell before ws = known_in (tables_of before) ws

-- the expressions of a line

parts_spelled : (t : Tables) (names : List Word) (parts : List (List Word)) → list_all is_expr parts ≡ true → list_all (list_all (is_known t)) parts ≡ true → Known t names → AreSpelled names (values_of t) parts
parts_spelled t names [] e known more = tt
parts_spelled t names (ws ∷ parts) e known more =
    let a = and_parts (is_expr ws) (list_all is_expr parts) e in
    let b = and_parts (list_all (is_known t) ws) (list_all (list_all (is_known t)) parts) known in
    (known_spelled t names ws a.0 b.0 more, parts_spelled t names parts a.1 b.1 more)

exprs_spelled : (t : Tables) (names ws : List Word) → is_exprs ws ≡ true → list_all (is_known t) ws ≡ true → Known t names → AreSpelled names (values_of t) (parts_of ws)
unfolding is_exprs
exprs_spelled t names ws e known more =
    parts_spelled t names (parts_of ws) (and_parts (list_all is_expr (parts_of ws)) (nat_le (length (parts_of ws)) 16) e).0 (parts_all (is_known t) ws known) more

pub line_spells : (before : List Shape) (s : Shape) → LineSpells before s
unfolding fault_by tables_of
line_spells before s c = of_shape s c.0 (reads (tables_of before) s (no_fault (tables_of before) s c.1)) where
  of_shape : (s : Shape) → WellShaped s → Reads (tables_of before) s → AreSpelled (locals_of (s ∷ before)) (values_behind before) (exprs_of s)
  of_shape (shape.Let name value) w r = (known_spelled (tables_of before) (with_word (Some name) (locals_of before)) value w.1 r.reads (with_keeps name (locals_of before)), tt)
  of_shape (shape.Get name state missing) w r = (known_spelled (tables_of before) (with_word (Some name) (locals_of before)) missing w.1 r.reads (with_keeps name (locals_of before)), tt)
  of_shape (shape.GetAt name state at missing) w r =
      (known_spelled (tables_of before) (with_word (Some name) (locals_of before)) at w.1 r.reads (with_keeps name (locals_of before)), (known_spelled (tables_of before) (with_word (Some name) (locals_of before)) missing w.2 r.more (with_keeps name (locals_of before)), tt))
  of_shape (shape.Has name state at) w r = (known_spelled (tables_of before) (with_word (Some name) (locals_of before)) at w.1 r.reads (with_keeps name (locals_of before)), tt)
  of_shape (shape.Put state values) w r = exprs_spelled (tables_of before) (locals_of before) values w r.reads (same_names (locals_of before))
  of_shape (shape.Add state value) w r = (known_spelled (tables_of before) (locals_of before) value w r.reads (same_names (locals_of before)), tt)
  of_shape (shape.Remove state at) w r = (known_spelled (tables_of before) (locals_of before) at w r.reads (same_names (locals_of before)), tt)
  of_shape (shape.If test) w r = (known_spelled (tables_of before) (locals_of before) test w r.reads (same_names (locals_of before)), tt)
  of_shape (shape.Emit values) w r = exprs_spelled (tables_of before) (locals_of before) values w r.reads (same_names (locals_of before))
  of_shape (shape.Timer time) w r = (known_spelled (tables_of before) (locals_of before) time w r.reads (same_names (locals_of before)), tt)
  of_shape (shape.Untimer time) w r = (known_spelled (tables_of before) (locals_of before) time w r.reads (same_names (locals_of before)), tt)
  of_shape (shape.Input n) w r = tt
  of_shape (shape.State name kind) w r = tt
  of_shape shape.OnRow w r = tt
  of_shape shape.OnTimer w r = tt
  of_shape shape.End w r = tt
  of_shape (shape.Empty name state) w r = tt
  of_shape (shape.Clear state) w r = tt
  of_shape shape.Else w r = tt
  of_shape (shape.Each name state) w r = tt
  of_shape (shape.EachPair key number state) w r = tt
  of_shape shape.Both w r = tt
  of_shape shape.With w r = tt
