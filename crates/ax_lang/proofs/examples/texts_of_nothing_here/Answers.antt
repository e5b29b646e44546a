use Rattle.std.proofs.Common.{refl}
use lib.Chars.{codes}
use Rattle.ax_text.specs.Names.{keyword_of, is_name}
use Rattle.ax_syntax.specs.Words.{field_number, sign_of, is_operand}
use Rattle.ax_syntax.specs.Shapes.{is_expr}
use Rattle.ax_lang.specs.Rows.{token_of, tree_in}
use Rattle.ax_lang.proofs.ExampleLemmas.{spells_none_here}
use Rattle.ax_lang.proofs.examples.texts_of_nothing_here.Goals as goal

pub returns-clause-name : goal.returns-clause-name
unfolding is_expr tree_in token_of sign_of is_operand is_name keyword_of field_number
returns-clause-name x = spells_none_here (codes "a + d") refl

pub returns-clause-value : goal.returns-clause-value
unfolding is_expr tree_in token_of sign_of is_operand is_name keyword_of field_number
returns-clause-value x = spells_none_here (codes "v3") refl

pub returns-clause-padded : goal.returns-clause-padded
unfolding is_expr tree_in token_of sign_of is_operand is_name keyword_of field_number
returns-clause-padded x = spells_none_here (codes "v01") refl
