use Rattle.ax_text.specs.Names.{is_name, keyword_of}
use Rattle.ax_syntax.specs.Words.{field_number, sign_of, is_operand}
use Rattle.ax_syntax.specs.Shapes.{shape_of, is_expr, is_exprs}
use Rattle.ax_rules.specs.Lines.{tables_of}
use Rattle.ax_rules.specs.Faults.{fault_by, fault_in, may_stand, is_too_many, is_too_deep, is_twice, has_unknown, has_wrong_kind, print_in, block_fault}
use Rattle.ax_rules.specs.Sections.{reading_of, read_from, ended, is_whole}
use Rattle.ax_rules.proofs.examples.sections_without_fault.Goals as goal

pub returns-clause-values : goal.returns-clause-values
unfolding reading_of read_from ended is_whole fault_by fault_in tables_of may_stand is_too_many is_too_deep is_twice has_unknown has_wrong_kind print_in block_fault shape_of is_expr is_exprs is_name keyword_of field_number sign_of is_operand
returns-clause-values c = tt

pub returns-clause-lists : goal.returns-clause-lists
unfolding reading_of read_from ended is_whole fault_by fault_in tables_of may_stand is_too_many is_too_deep is_twice has_unknown has_wrong_kind print_in block_fault shape_of is_expr is_exprs is_name keyword_of field_number sign_of is_operand
returns-clause-lists c = tt

pub returns-clause-maps : goal.returns-clause-maps
unfolding reading_of read_from ended is_whole fault_by fault_in tables_of may_stand is_too_many is_too_deep is_twice has_unknown has_wrong_kind print_in block_fault shape_of is_expr is_exprs is_name keyword_of field_number sign_of is_operand
returns-clause-maps c = tt

pub returns-clause-blocks : goal.returns-clause-blocks
unfolding reading_of read_from ended is_whole fault_by fault_in tables_of may_stand is_too_many is_too_deep is_twice has_unknown has_wrong_kind print_in block_fault shape_of is_expr is_exprs is_name keyword_of field_number sign_of is_operand
returns-clause-blocks c = tt

pub returns-clause-arms : goal.returns-clause-arms
unfolding reading_of read_from ended is_whole fault_by fault_in tables_of may_stand is_too_many is_too_deep is_twice has_unknown has_wrong_kind print_in block_fault shape_of is_expr is_exprs is_name keyword_of field_number sign_of is_operand
returns-clause-arms c = tt

pub returns-clause-timer : goal.returns-clause-timer
unfolding reading_of read_from ended is_whole fault_by fault_in tables_of may_stand is_too_many is_too_deep is_twice has_unknown has_wrong_kind print_in block_fault shape_of is_expr is_exprs is_name keyword_of field_number sign_of is_operand
returns-clause-timer c = tt
