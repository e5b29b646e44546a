use Rattle.std.specs.Fmt.{digits}
use Rattle.ax_text.specs.Names.{is_name, keyword_of}
use Rattle.ax_syntax.specs.Words.{field_number, sign_of, is_operand}
use Rattle.ax_syntax.specs.Shapes.{shape_of, is_expr, is_exprs}
use Rattle.ax_rules.specs.Lines.{tables_of}
use Rattle.ax_rules.specs.Faults.{fault_by, fault_in, may_stand, is_too_many, is_too_deep, is_twice, has_unknown, has_wrong_kind, print_in, block_fault}
use Rattle.ax_rules.specs.Sections.{reading_of, read_from, ended, is_whole}
use Rattle.ax_lang.specs.Programs.{program_of}
use Rattle.ax_lang.proofs.examples.programs_of_texts.Goals as goal

pub returns-clause-least : goal.returns-clause-least
unfolding program_of reading_of read_from ended is_whole fault_by fault_in tables_of may_stand is_too_many is_too_deep is_twice has_unknown has_wrong_kind print_in block_fault shape_of is_expr is_exprs is_name keyword_of field_number sign_of is_operand digits
returns-clause-least c = tt

pub returns-clause-counter : goal.returns-clause-counter
unfolding program_of reading_of read_from ended is_whole fault_by fault_in tables_of may_stand is_too_many is_too_deep is_twice has_unknown has_wrong_kind print_in block_fault shape_of is_expr is_exprs is_name keyword_of field_number sign_of is_operand digits
returns-clause-counter c = tt

pub returns-clause-arms : goal.returns-clause-arms
unfolding program_of reading_of read_from ended is_whole fault_by fault_in tables_of may_stand is_too_many is_too_deep is_twice has_unknown has_wrong_kind print_in block_fault shape_of is_expr is_exprs is_name keyword_of field_number sign_of is_operand digits
returns-clause-arms c = tt

pub returns-clause-timer : goal.returns-clause-timer
unfolding program_of reading_of read_from ended is_whole fault_by fault_in tables_of may_stand is_too_many is_too_deep is_twice has_unknown has_wrong_kind print_in block_fault shape_of is_expr is_exprs is_name keyword_of field_number sign_of is_operand digits
returns-clause-timer c = tt
