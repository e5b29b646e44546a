use Rattle.std.proofs.Common.{refl, []}
use lib.Chars.{codes}
use Rattle.ax_text.specs.Names.{keyword_of, is_name}
use Rattle.ax_syntax.specs.Words.{field_number, sign_of, is_operand}
use Rattle.ax_syntax.specs.Shapes.{is_expr}
use Rattle.ax_lang.specs.Rows.{token_of, tree_in}
use Rattle.ax_lang.proofs.ExampleLemmas.{spells_none}
use Rattle.ax_lang.proofs.examples.texts_that_are_none.Goals as goal

pub returns-clause-empty : goal.returns-clause-empty
unfolding is_expr tree_in token_of sign_of is_operand is_name keyword_of field_number
returns-clause-empty x = spells_none [] refl

pub returns-clause-stops_short : goal.returns-clause-stops_short
unfolding is_expr tree_in token_of sign_of is_operand is_name keyword_of field_number
returns-clause-stops_short x = spells_none (codes "a +") refl

pub returns-clause-no_sign : goal.returns-clause-no_sign
unfolding is_expr tree_in token_of sign_of is_operand is_name keyword_of field_number
returns-clause-no_sign x = spells_none (codes "a b") refl

pub returns-clause-two_signs : goal.returns-clause-two_signs
unfolding is_expr tree_in token_of sign_of is_operand is_name keyword_of field_number
returns-clause-two_signs x = spells_none (codes "a + * b") refl

pub returns-clause-left_open : goal.returns-clause-left_open
unfolding is_expr tree_in token_of sign_of is_operand is_name keyword_of field_number
returns-clause-left_open x = spells_none (codes "( a") refl

pub returns-clause-never_opened : goal.returns-clause-never_opened
unfolding is_expr tree_in token_of sign_of is_operand is_name keyword_of field_number
returns-clause-never_opened x = spells_none (codes "a )") refl

pub returns-clause-closed_first : goal.returns-clause-closed_first
unfolding is_expr tree_in token_of sign_of is_operand is_name keyword_of field_number
returns-clause-closed_first x = spells_none (codes ") a (") refl

pub returns-clause-nothing_inside : goal.returns-clause-nothing_inside
unfolding is_expr tree_in token_of sign_of is_operand is_name keyword_of field_number
returns-clause-nothing_inside x = spells_none (codes "( )") refl

pub returns-clause-reserved : goal.returns-clause-reserved
unfolding is_expr tree_in token_of sign_of is_operand is_name keyword_of field_number
returns-clause-reserved x = spells_none (codes "a + let") refl

pub returns-clause-in_one_word : goal.returns-clause-in_one_word
unfolding is_expr tree_in token_of sign_of is_operand is_name keyword_of field_number
returns-clause-in_one_word x = spells_none (codes "a+b") refl
