use Rattle.std.proofs.Common.{refl}
use Rattle.std.specs.Fmt.{digits}
use Rattle.ax_text.specs.Names.{is_name, keyword_of}
use Rattle.ax_syntax.specs.Words.{field_number, sign_of, is_operand}
use Rattle.ax_syntax.specs.Shapes.{shape_of, is_expr, is_exprs}
use Rattle.ax_rules.specs.Lines.{tables_of}
use Rattle.ax_rules.specs.Faults.{fault_by, fault_in, may_stand, is_too_many, is_too_deep, is_twice, has_unknown, has_wrong_kind, print_in, block_fault}
use Rattle.ax_rules.specs.Sections.{reading_of, read_from, ended, is_whole}
use Rattle.ax_lang.specs.Programs.{program_of}
use Rattle.ax_lang.proofs.examples.faults_of_texts.Goals as goal

pub returns-clause-no_shape : goal.returns-clause-no_shape
unfolding program_of reading_of read_from ended is_whole fault_by fault_in tables_of may_stand is_too_many is_too_deep is_twice has_unknown has_wrong_kind print_in block_fault shape_of is_expr is_exprs is_name keyword_of field_number sign_of is_operand digits
returns-clause-no_shape c = refl

pub returns-clause-out_of_place : goal.returns-clause-out_of_place
unfolding program_of reading_of read_from ended is_whole fault_by fault_in tables_of may_stand is_too_many is_too_deep is_twice has_unknown has_wrong_kind print_in block_fault shape_of is_expr is_exprs is_name keyword_of field_number sign_of is_operand digits
returns-clause-out_of_place c = refl

pub returns-clause-reserved : goal.returns-clause-reserved
unfolding program_of reading_of read_from ended is_whole fault_by fault_in tables_of may_stand is_too_many is_too_deep is_twice has_unknown has_wrong_kind print_in block_fault shape_of is_expr is_exprs is_name keyword_of field_number sign_of is_operand digits
returns-clause-reserved c = refl

pub returns-clause-unknown_name : goal.returns-clause-unknown_name
unfolding program_of reading_of read_from ended is_whole fault_by fault_in tables_of may_stand is_too_many is_too_deep is_twice has_unknown has_wrong_kind print_in block_fault shape_of is_expr is_exprs is_name keyword_of field_number sign_of is_operand digits
returns-clause-unknown_name c = refl

pub returns-clause-unknown_state : goal.returns-clause-unknown_state
unfolding program_of reading_of read_from ended is_whole fault_by fault_in tables_of may_stand is_too_many is_too_deep is_twice has_unknown has_wrong_kind print_in block_fault shape_of is_expr is_exprs is_name keyword_of field_number sign_of is_operand digits
returns-clause-unknown_state c = refl

pub returns-clause-unknown_value : goal.returns-clause-unknown_value
unfolding program_of reading_of read_from ended is_whole fault_by fault_in tables_of may_stand is_too_many is_too_deep is_twice has_unknown has_wrong_kind print_in block_fault shape_of is_expr is_exprs is_name keyword_of field_number sign_of is_operand digits
returns-clause-unknown_value c = refl

pub returns-clause-value_at_timer : goal.returns-clause-value_at_timer
unfolding program_of reading_of read_from ended is_whole fault_by fault_in tables_of may_stand is_too_many is_too_deep is_twice has_unknown has_wrong_kind print_in block_fault shape_of is_expr is_exprs is_name keyword_of field_number sign_of is_operand digits
returns-clause-value_at_timer c = refl

pub returns-clause-second_input : goal.returns-clause-second_input
unfolding program_of reading_of read_from ended is_whole fault_by fault_in tables_of may_stand is_too_many is_too_deep is_twice has_unknown has_wrong_kind print_in block_fault shape_of is_expr is_exprs is_name keyword_of field_number sign_of is_operand digits
returns-clause-second_input c = refl

pub returns-clause-second_state : goal.returns-clause-second_state
unfolding program_of reading_of read_from ended is_whole fault_by fault_in tables_of may_stand is_too_many is_too_deep is_twice has_unknown has_wrong_kind print_in block_fault shape_of is_expr is_exprs is_name keyword_of field_number sign_of is_operand digits
returns-clause-second_state c = refl

pub returns-clause-second_row : goal.returns-clause-second_row
unfolding program_of reading_of read_from ended is_whole fault_by fault_in tables_of may_stand is_too_many is_too_deep is_twice has_unknown has_wrong_kind print_in block_fault shape_of is_expr is_exprs is_name keyword_of field_number sign_of is_operand digits
returns-clause-second_row c = refl

pub returns-clause-other_kind : goal.returns-clause-other_kind
unfolding program_of reading_of read_from ended is_whole fault_by fault_in tables_of may_stand is_too_many is_too_deep is_twice has_unknown has_wrong_kind print_in block_fault shape_of is_expr is_exprs is_name keyword_of field_number sign_of is_operand digits
returns-clause-other_kind c = refl

pub returns-clause-two_values : goal.returns-clause-two_values
unfolding program_of reading_of read_from ended is_whole fault_by fault_in tables_of may_stand is_too_many is_too_deep is_twice has_unknown has_wrong_kind print_in block_fault shape_of is_expr is_exprs is_name keyword_of field_number sign_of is_operand digits
returns-clause-two_values c = refl

pub returns-clause-state_assigned : goal.returns-clause-state_assigned
unfolding program_of reading_of read_from ended is_whole fault_by fault_in tables_of may_stand is_too_many is_too_deep is_twice has_unknown has_wrong_kind print_in block_fault shape_of is_expr is_exprs is_name keyword_of field_number sign_of is_operand digits
returns-clause-state_assigned c = refl

pub returns-clause-state_read : goal.returns-clause-state_read
unfolding program_of reading_of read_from ended is_whole fault_by fault_in tables_of may_stand is_too_many is_too_deep is_twice has_unknown has_wrong_kind print_in block_fault shape_of is_expr is_exprs is_name keyword_of field_number sign_of is_operand digits
returns-clause-state_read c = refl

pub returns-clause-assigned_by_both : goal.returns-clause-assigned_by_both
unfolding program_of reading_of read_from ended is_whole fault_by fault_in tables_of may_stand is_too_many is_too_deep is_twice has_unknown has_wrong_kind print_in block_fault shape_of is_expr is_exprs is_name keyword_of field_number sign_of is_operand digits
returns-clause-assigned_by_both c = refl

pub returns-clause-read_by_second : goal.returns-clause-read_by_second
unfolding program_of reading_of read_from ended is_whole fault_by fault_in tables_of may_stand is_too_many is_too_deep is_twice has_unknown has_wrong_kind print_in block_fault shape_of is_expr is_exprs is_name keyword_of field_number sign_of is_operand digits
returns-clause-read_by_second c = refl

pub returns-clause-read_by_first : goal.returns-clause-read_by_first
unfolding program_of reading_of read_from ended is_whole fault_by fault_in tables_of may_stand is_too_many is_too_deep is_twice has_unknown has_wrong_kind print_in block_fault shape_of is_expr is_exprs is_name keyword_of field_number sign_of is_operand digits
returns-clause-read_by_first c = refl

pub returns-clause-changed_by_first : goal.returns-clause-changed_by_first
unfolding program_of reading_of read_from ended is_whole fault_by fault_in tables_of may_stand is_too_many is_too_deep is_twice has_unknown has_wrong_kind print_in block_fault shape_of is_expr is_exprs is_name keyword_of field_number sign_of is_operand digits
returns-clause-changed_by_first c = refl

pub returns-clause-emit_in_arm : goal.returns-clause-emit_in_arm
unfolding program_of reading_of read_from ended is_whole fault_by fault_in tables_of may_stand is_too_many is_too_deep is_twice has_unknown has_wrong_kind print_in block_fault shape_of is_expr is_exprs is_name keyword_of field_number sign_of is_operand digits
returns-clause-emit_in_arm c = refl

pub returns-clause-timer_deep_in_arm : goal.returns-clause-timer_deep_in_arm
unfolding program_of reading_of read_from ended is_whole fault_by fault_in tables_of may_stand is_too_many is_too_deep is_twice has_unknown has_wrong_kind print_in block_fault shape_of is_expr is_exprs is_name keyword_of field_number sign_of is_operand digits
returns-clause-timer_deep_in_arm c = refl

pub returns-clause-end_is_due : goal.returns-clause-end_is_due
unfolding program_of reading_of read_from ended is_whole fault_by fault_in tables_of may_stand is_too_many is_too_deep is_twice has_unknown has_wrong_kind print_in block_fault shape_of is_expr is_exprs is_name keyword_of field_number sign_of is_operand digits
returns-clause-end_is_due c = refl

pub returns-clause-row_is_due : goal.returns-clause-row_is_due
unfolding program_of reading_of read_from ended is_whole fault_by fault_in tables_of may_stand is_too_many is_too_deep is_twice has_unknown has_wrong_kind print_in block_fault shape_of is_expr is_exprs is_name keyword_of field_number sign_of is_operand digits
returns-clause-row_is_due c = refl

pub returns-clause-mark_is_due : goal.returns-clause-mark_is_due
unfolding program_of reading_of read_from ended is_whole fault_by fault_in tables_of may_stand is_too_many is_too_deep is_twice has_unknown has_wrong_kind print_in block_fault shape_of is_expr is_exprs is_name keyword_of field_number sign_of is_operand digits
returns-clause-mark_is_due c = refl
