use Rattle.std.proofs.Common.{◌∙◌, ◌≤◌, ◌<◌, List, length, map, sym, ap, ap₂, subst, arith, Some, None}
use Rattle.ax_rules.specs.Sections.{shape_in}
use Rattle.ax_rules.proofs.SectionLemmas.{start}
use Rattle.ax_text.specs.Rows.{HandlerLine}
use Rattle.ax_lang.specs.declared.step.HandlerLine.{HandlerLine as CodeLine}
use Rattle.ax_lang.specs.Forms.{shown_row}
use Rattle.ax_lang.specs.Rows.{HandlerLines}
use Rattle.ax_lang.specs.Programs.{Reading, Faulty, shown_handlers, IsProgram}
use Rattle.ax_lang.proofs.FinishLemmas.{sound}
use Rattle.ax_lang.proofs.ReadingLemmas.{taken, told, not_done, done, are_clean, by_answer}
use Rattle.ax_lang.proofs.reader.read_program.Goals as goal

abbrev handler_rows : List HandlerLine → List HandlerLine → HandlerLines
handler_rows row timer = record { row = row; timer = timer }

pub loop-line-init : goal.loop-line-init
loop-line-init c = record {
  on = start c.args.lines.now c.args.end c.new-tables.result c.new-tables.ensures;
  made = ap₂ (λ (row timer : List CodeLine). handler_rows (map shown_row row) (map shown_row timer)) c.new.ensures.items c.new-2.ensures.items;
  clean = tt;
}

pub take_line-requires : goal.take_line-requires
take_line-requires c = (sound c.loop-line.tables (shown_handlers c.loop-line.handlers) (are_clean c.args.lines.now c.loop-line.line-index c.args.end c.loop-line.tables (shown_handlers c.loop-line.handlers) c.loop-line.invariant)).states

pub loop-line-preserved : goal.loop-line-preserved
loop-line-preserved c =
    let in_range : c.loop-line.line-index < length c.args.lines.now = c.loop-line-test.true in
    let rows = shown_handlers c.loop-line.handlers in
    let rows' = shown_handlers c.take_line.new.handlers in
    taken c.args.lines.now c.loop-line.line-index c.line-item.result c.args.end c.loop-line.tables c.take_line.new.tables rows rows' in_range c.line-item.is c.loop-line.invariant
    (by_answer (shape_in c.line-item.result) c.loop-line.tables c.take_line.new.tables rows rows' c.in-Ok-None.field-0 None c.in-Ok-None.field-0-is c.in-Ok-None.ensures)

pub returns-in-Ok-Some : goal.returns-in-Ok-Some
returns-in-Ok-Some c =
    let in_range : c.loop-line.line-index < length c.args.lines.now = c.loop-line-test.true in
    let rows = shown_handlers c.loop-line.handlers in
    let rows' = shown_handlers c.take_line.new.handlers in
    told c.args.lines.now c.loop-line.line-index c.line-item.result c.args.end c.loop-line.tables c.take_line.new.tables rows rows' c.in-Ok-Some.kind in_range c.line-item.is c.loop-line.invariant
    (by_answer (shape_in c.line-item.result) c.loop-line.tables c.take_line.new.tables rows rows' c.in-Ok-Some.field-0 (Some c.in-Ok-Some.kind) c.in-Ok-Some.field-0-is c.in-Ok-Some.ensures)
    ∙ ap (Faulty c.line-item.result.number) (sym c.number.ensures)

pub returns-then-not-is_done : goal.returns-then-not-is_done
returns-then-not-is_done c =
    let over : length c.args.lines.now ≤ c.loop-line.line-index = omega arith in
    not_done c.args.lines.now c.loop-line.line-index c.args.end c.loop-line.tables (shown_handlers c.loop-line.handlers) over c.loop-line.invariant (sym c.is_done.ensures ∙ c.if-not-is_done.true)
    ∙ ap (Faulty c.args.end.line) (sym c.number-then-not-is_done.ensures)

pub returns-in-Ok : goal.returns-in-Ok
returns-in-Ok c =
    let over : length c.args.lines.now ≤ c.loop-line.line-index = omega arith in
    let said = done c.args.lines.now c.loop-line.line-index c.args.end c.loop-line.tables (shown_handlers c.loop-line.handlers) over c.loop-line.invariant (sym c.is_done.ensures ∙ c.if-not-is_done.false) in
    subst (λ (r : Reading). IsProgram r c.in-Ok.program) (sym said) c.in-Ok.ensures
