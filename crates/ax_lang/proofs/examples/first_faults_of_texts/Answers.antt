use Rattle.std.proofs.Common.{refl}
use Rattle.std.specs.Fmt.{digits}
use Rattle.ax_text.specs.Names.{is_name, keyword_of}
use Rattle.ax_syntax.specs.Words.{field_number, sign_of, is_operand}
use Rattle.ax_syntax.specs.Shapes.{shape_of, is_expr, is_exprs}
use Rattle.ax_rules.specs.Lines.{tables_of}
use Rattle.ax_rules.specs.Faults.{fault_by, fault_in, may_stand, is_too_many, is_too_deep, is_twice, has_unknown, has_wrong_kind, print_in, block_fault}
use Rattle.ax_rules.specs.Sections.{reading_of, read_from, ended, is_whole}
use Rattle.ax_lang.specs.Programs.{program_of}
use Rattle.ax_lang.proofs.examples.first_faults_of_texts.Goals as goal

pub returns-clause-line : goal.returns-clause-line
unfolding program_of reading_of read_from ended is_whole fault_by fault_in tables_of may_stand is_too_many is_too_deep is_twice has_unknown has_wrong_kind print_in block_fault shape_of is_expr is_exprs is_name keyword_of field_number sign_of is_operand digits
returns-clause-line c = refl

pub returns-clause-twice_before_unknown : goal.returns-clause-twice_before_unknown
unfolding program_of reading_of read_from ended is_whole fault_by fault_in tables_of may_stand is_too_many is_too_deep is_twice has_unknown has_wrong_kind print_in block_fault shape_of is_expr is_exprs is_name keyword_of field_number sign_of is_operand digits
returns-clause-twice_before_unknown c = refl

pub returns-clause-unknown_before_kind : goal.returns-clause-unknown_before_kind
unfolding program_of reading_of read_from ended is_whole fault_by fault_in tables_of may_stand is_too_many is_too_deep is_twice has_unknown has_wrong_kind print_in block_fault shape_of is_expr is_exprs is_name keyword_of field_number sign_of is_operand digits
returns-clause-unknown_before_kind c = refl

pub returns-clause-kind_before_arm : goal.returns-clause-kind_before_arm
unfolding program_of reading_of read_from ended is_whole fault_by fault_in tables_of may_stand is_too_many is_too_deep is_twice has_unknown has_wrong_kind print_in block_fault shape_of is_expr is_exprs is_name keyword_of field_number sign_of is_operand digits
returns-clause-kind_before_arm c = refl

pub returns-clause-arm_before_conflict : goal.returns-clause-arm_before_conflict
unfolding program_of reading_of read_from ended is_whole fault_by fault_in tables_of may_stand is_too_many is_too_deep is_twice has_unknown has_wrong_kind print_in block_fault shape_of is_expr is_exprs is_name keyword_of field_number sign_of is_operand digits
returns-clause-arm_before_conflict c = refl
