use Rattle.std.proofs.Common.{refl}
use Rattle.ax_text.specs.Names.{is_name, keyword_of}
use Rattle.ax_syntax.specs.Words.{field_number, sign_of, is_operand}
use Rattle.ax_syntax.specs.Shapes.{shape_of, is_expr, is_exprs}
use Rattle.ax_rules.specs.Lines.{tables_of}
use Rattle.ax_rules.specs.Faults.{fault_by, fault_in, may_stand, is_too_many, is_too_deep, is_twice, has_unknown, has_wrong_kind, print_in, block_fault}
use Rattle.ax_rules.specs.Sections.{reading_of, read_from, ended, is_whole}
use Rattle.ax_rules.proofs.examples.names_that_are_unknown.Goals as goal

pub returns-clause-name : goal.returns-clause-name
unfolding reading_of read_from ended is_whole fault_by fault_in tables_of may_stand is_too_many is_too_deep is_twice has_unknown has_wrong_kind print_in block_fault shape_of is_expr is_exprs is_name keyword_of field_number sign_of is_operand
returns-clause-name c = refl

pub returns-clause-itself : goal.returns-clause-itself
unfolding reading_of read_from ended is_whole fault_by fault_in tables_of may_stand is_too_many is_too_deep is_twice has_unknown has_wrong_kind print_in block_fault shape_of is_expr is_exprs is_name keyword_of field_number sign_of is_operand
returns-clause-itself c = refl

pub returns-clause-state : goal.returns-clause-state
unfolding reading_of read_from ended is_whole fault_by fault_in tables_of may_stand is_too_many is_too_deep is_twice has_unknown has_wrong_kind print_in block_fault shape_of is_expr is_exprs is_name keyword_of field_number sign_of is_operand
returns-clause-state c = refl

pub returns-clause-value : goal.returns-clause-value
unfolding reading_of read_from ended is_whole fault_by fault_in tables_of may_stand is_too_many is_too_deep is_twice has_unknown has_wrong_kind print_in block_fault shape_of is_expr is_exprs is_name keyword_of field_number sign_of is_operand
returns-clause-value c = refl

pub returns-clause-timer : goal.returns-clause-timer
unfolding reading_of read_from ended is_whole fault_by fault_in tables_of may_stand is_too_many is_too_deep is_twice has_unknown has_wrong_kind print_in block_fault shape_of is_expr is_exprs is_name keyword_of field_number sign_of is_operand
returns-clause-timer c = refl
