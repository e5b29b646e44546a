use Rattle.std.proofs.Common.{refl}
use Rattle.ax_text.specs.Names.{is_name, keyword_of}
use Rattle.ax_syntax.specs.Words.{field_number, sign_of, is_operand}
use Rattle.ax_syntax.specs.Shapes.{shape_of, is_expr, is_exprs}
use Rattle.ax_rules.specs.Lines.{tables_of}
use Rattle.ax_rules.specs.Faults.{fault_by, fault_in, may_stand, is_too_many, is_too_deep, is_twice, has_unknown, has_wrong_kind, print_in, block_fault}
use Rattle.ax_rules.specs.Sections.{reading_of, read_from, ended, is_whole}
use Rattle.ax_rules.proofs.examples.kinds_that_do_not_serve.Goals as goal

pub returns-clause-add : goal.returns-clause-add
unfolding reading_of read_from ended is_whole fault_by fault_in tables_of may_stand is_too_many is_too_deep is_twice has_unknown has_wrong_kind print_in block_fault shape_of is_expr is_exprs is_name keyword_of field_number sign_of is_operand
returns-clause-add c = refl

pub returns-clause-one_value : goal.returns-clause-one_value
unfolding reading_of read_from ended is_whole fault_by fault_in tables_of may_stand is_too_many is_too_deep is_twice has_unknown has_wrong_kind print_in block_fault shape_of is_expr is_exprs is_name keyword_of field_number sign_of is_operand
returns-clause-one_value c = refl

pub returns-clause-two_values : goal.returns-clause-two_values
unfolding reading_of read_from ended is_whole fault_by fault_in tables_of may_stand is_too_many is_too_deep is_twice has_unknown has_wrong_kind print_in block_fault shape_of is_expr is_exprs is_name keyword_of field_number sign_of is_operand
returns-clause-two_values c = refl

pub returns-clause-assigned : goal.returns-clause-assigned
unfolding reading_of read_from ended is_whole fault_by fault_in tables_of may_stand is_too_many is_too_deep is_twice has_unknown has_wrong_kind print_in block_fault shape_of is_expr is_exprs is_name keyword_of field_number sign_of is_operand
returns-clause-assigned c = refl

pub returns-clause-read : goal.returns-clause-read
unfolding reading_of read_from ended is_whole fault_by fault_in tables_of may_stand is_too_many is_too_deep is_twice has_unknown has_wrong_kind print_in block_fault shape_of is_expr is_exprs is_name keyword_of field_number sign_of is_operand
returns-clause-read c = refl

pub returns-clause-local : goal.returns-clause-local
unfolding reading_of read_from ended is_whole fault_by fault_in tables_of may_stand is_too_many is_too_deep is_twice has_unknown has_wrong_kind print_in block_fault shape_of is_expr is_exprs is_name keyword_of field_number sign_of is_operand
returns-clause-local c = refl

pub returns-clause-itself : goal.returns-clause-itself
unfolding reading_of read_from ended is_whole fault_by fault_in tables_of may_stand is_too_many is_too_deep is_twice has_unknown has_wrong_kind print_in block_fault shape_of is_expr is_exprs is_name keyword_of field_number sign_of is_operand
returns-clause-itself c = refl
