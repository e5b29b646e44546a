-- Which small programs are valid.
use Rattle.std.proofs.Common.{◌≡◌, ℕ, ◌≤◌, ◌<◌, nat_lt, true, false, ◌&&◌, Bool, [], ◌∷◌, refl, arith}
use Rattle.std.specs.List.{list_all}
use Rattle.std.proofs.lemmas.Bool.{both_ways, and_parts, ltb-true}
use lib.Chars.{codes}
use Rattle.ax_text.specs.declared.vocabulary.Kind.TheVariants as kind
use Rattle.ax_text.specs.Texts.{Text}
use Rattle.ax_text.specs.Names.{keyword_of, is_name}
use Rattle.ax_text.specs.Programs.{kinds_of}
use Rattle.ax_text.specs.Valid.{expr_fits, text_fits, names_of, IsValid}
use Rattle.ax_text.specs.ValidExamples.{one, c, m, with_states, with_row, with_timer, putting, timing, letting, emitting, going_over}

named : list_all is_name (names_of (c ∷ m ∷ [])) ≡ true
unfolding is_name keyword_of
named = refl

-- a handler of a row is all that is to be seen
row_valid : (text : Text) (locals : ℕ) → locals ≤ 256 → text_fits 1 locals (kinds_of (c ∷ m ∷ [])) text ≡ true → IsValid (with_row text)
row_valid text locals few fits = record { fields = omega arith; states = omega arith; named = named; distinct = refl; locals = locals; few = few; row = fits; timer = refl }

pub put_valid : IsValid (with_row (putting 0))
put_valid = row_valid (putting 0) 0 (omega arith) refl

pub value_valid : IsValid (with_row (timing 0))
value_valid = row_valid (timing 0) 0 (omega arith) refl

pub name_valid : IsValid (with_row (letting 255))
name_valid = row_valid (letting 255) 256 (omega arith) refl

pub sixteen_valid : IsValid (with_row (emitting 16))
sixteen_valid = row_valid (emitting 16) 0 (omega arith) refl

pub two_names_valid : IsValid (with_row (going_over 0 1))
two_names_valid = row_valid (going_over 0 1) 2 (omega arith) refl

pub no_state : IsValid (with_row (putting 2)) → ⊥
no_state v = both_ways false refl v.row

pub other_kind : IsValid (with_row (putting 1)) → ⊥
other_kind v = both_ways false refl v.row

pub no_value : IsValid (with_row (timing 1)) → ⊥
no_value v = both_ways false refl v.row

pub at_timer : IsValid (with_timer (timing 0)) → ⊥
at_timer v = both_ways false refl v.timer

pub name_past : IsValid (with_row (letting 256)) → ⊥
name_past v =
    let fits : (nat_lt 256 v.locals && expr_fits 1 v.locals one) ≡ true = (and_parts (nat_lt 256 v.locals && expr_fits 1 v.locals one) true v.row).0 in
    let low : 256 < v.locals = ltb-true 256 v.locals (and_parts (nat_lt 256 v.locals) (expr_fits 1 v.locals one) fits).0 in
    let few : v.locals ≤ 256 = v.few in
    absurd (omega (arith, low, few))

pub seventeen : IsValid (with_row (emitting 17)) → ⊥
seventeen v = both_ways false refl v.row

pub none : IsValid (with_row (emitting 0)) → ⊥
none v = both_ways false refl v.row

pub one_name : IsValid (with_row (going_over 0 0)) → ⊥
one_name v = by_test (nat_lt 0 v.locals) v.row where
  by_test : (b : Bool) → (((((b && b) && false) && true) && true) && true) ≡ true → ⊥
  by_test true h = both_ways false refl h
  by_test false h = both_ways false refl h

pub same_names : IsValid (with_states (c ∷ m ∷ record { name = codes "c"; kind = kind.List } ∷ [])) → ⊥
same_names v = both_ways false refl v.distinct

pub reserved : IsValid (with_states (record { name = codes "row"; kind = kind.Value } ∷ [])) → ⊥
unfolding is_name keyword_of
reserved v = both_ways false refl v.named
