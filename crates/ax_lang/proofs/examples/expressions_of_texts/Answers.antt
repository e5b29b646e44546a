use Rattle.std.proofs.Common.{refl, pos, negsuc}
use lib.Chars.{codes}
use Rattle.ax_text.specs.Names.{keyword_of, is_name}
use Rattle.ax_text.specs.declared.vocabulary.Op.TheVariants as op
use Rattle.ax_text.specs.declared.vocabulary.Atom.TheVariants as atom
use Rattle.ax_text.specs.Exprs.{Leaf, Join}
use Rattle.ax_syntax.specs.Words.{field_number, sign_of, is_operand}
use Rattle.ax_syntax.specs.Shapes.{is_expr}
use Rattle.ax_lang.specs.Rows.{token_of, tree_in}
use Rattle.ax_lang.specs.Examples.{a, b, c}
use Rattle.ax_lang.proofs.ExampleLemmas.{text_spells}
use Rattle.ax_lang.proofs.examples.expressions_of_texts.Goals as goal

pub returns-clause-product_last : goal.returns-clause-product_last
unfolding is_expr tree_in token_of sign_of is_operand is_name keyword_of field_number
returns-clause-product_last x = text_spells (codes "a + b * c") (Join op.Add a (Join op.Multiply b c)) refl refl refl

pub returns-clause-product_first : goal.returns-clause-product_first
unfolding is_expr tree_in token_of sign_of is_operand is_name keyword_of field_number
returns-clause-product_first x = text_spells (codes "a % b - c") (Join op.Subtract (Join op.Remainder a b) c) refl refl refl

pub returns-clause-enclosed : goal.returns-clause-enclosed
unfolding is_expr tree_in token_of sign_of is_operand is_name keyword_of field_number
returns-clause-enclosed x = text_spells (codes "( a + b ) * c") (Join op.Multiply (Join op.Add a b) c) refl refl refl

pub returns-clause-enclosed_twice : goal.returns-clause-enclosed_twice
unfolding is_expr tree_in token_of sign_of is_operand is_name keyword_of field_number
returns-clause-enclosed_twice x = text_spells (codes "( ( a ) )") a refl refl refl

pub returns-clause-left : goal.returns-clause-left
unfolding is_expr tree_in token_of sign_of is_operand is_name keyword_of field_number
returns-clause-left x = text_spells (codes "a - b - c") (Join op.Subtract (Join op.Subtract a b) c) refl refl refl

pub returns-clause-right : goal.returns-clause-right
unfolding is_expr tree_in token_of sign_of is_operand is_name keyword_of field_number
returns-clause-right x = text_spells (codes "a - ( b - c )") (Join op.Subtract a (Join op.Subtract b c)) refl refl refl

pub returns-clause-compared : goal.returns-clause-compared
unfolding is_expr tree_in token_of sign_of is_operand is_name keyword_of field_number
returns-clause-compared x = text_spells (codes "a < b + 1") (Join op.Less a (Join op.Add b (Leaf (atom.Number (pos 1))))) refl refl refl

pub returns-clause-compared_twice : goal.returns-clause-compared_twice
unfolding is_expr tree_in token_of sign_of is_operand is_name keyword_of field_number
returns-clause-compared_twice x = text_spells (codes "a >= b == c") (Join op.Equal (Join op.AtLeast a b) c) refl refl refl

pub returns-clause-operands : goal.returns-clause-operands
unfolding is_expr tree_in token_of sign_of is_operand is_name keyword_of field_number
returns-clause-operands x = text_spells (codes "-07 + v2 != time / wm") (Join op.Differs (Join op.Add (Leaf (atom.Number (negsuc 6))) (Leaf (atom.Field 1))) (Join op.Divide (Leaf atom.Time) (Leaf atom.Watermark))) refl refl refl
