use Rattle.std.proofs.Common.{refl}
use Rattle.ax_text.specs.Names.{is_name, keyword_of}
use Rattle.ax_syntax.specs.Words.{field_number, sign_of, is_operand}
use Rattle.ax_syntax.specs.Shapes.{shape_of, is_expr, is_exprs}
use Rattle.ax_rules.specs.Lines.{tables_of}
use Rattle.ax_rules.specs.Faults.{fault_by, fault_in, may_stand, is_too_many, is_too_deep, is_twice, has_unknown, has_wrong_kind, print_in, block_fault}
use Rattle.ax_rules.specs.Sections.{reading_of, read_from, ended, is_whole}
use Rattle.ax_rules.proofs.examples.ends_that_come_early.Goals as goal

pub returns-clause-handler : goal.returns-clause-handler
unfolding reading_of read_from ended is_whole fault_by fault_in tables_of may_stand is_too_many is_too_deep is_twice has_unknown has_wrong_kind print_in block_fault shape_of is_expr is_exprs is_name keyword_of field_number sign_of is_operand
returns-clause-handler c = refl

pub returns-clause-row : goal.returns-clause-row
unfolding reading_of read_from ended is_whole fault_by fault_in tables_of may_stand is_too_many is_too_deep is_twice has_unknown has_wrong_kind print_in block_fault shape_of is_expr is_exprs is_name keyword_of field_number sign_of is_operand
returns-clause-row c = refl

pub returns-clause-mark : goal.returns-clause-mark
unfolding reading_of read_from ended is_whole fault_by fault_in tables_of may_stand is_too_many is_too_deep is_twice has_unknown has_wrong_kind print_in block_fault shape_of is_expr is_exprs is_name keyword_of field_number sign_of is_operand
returns-clause-mark c = refl
