use Rattle.std.proofs.Common.{rules, ◌∙◌, sym, ap}
use Rattle.ax_input.specs.Events.{is_skipped}
use Rattle.ax_task.specs.Sections.{is_section_end}
use Rattle.ax_task.proofs.Passing.{section_skips, section_keeps, section_kept, section_found, section_fails, section_lacks}
use Rattle.ax_task.proofs.section.gather.Goals as goal

pub returns-then-is_section_end-clause-passes : goal.returns-then-is_section_end-clause-passes
returns-then-is_section_end-clause-passes g c =
    let left = g.S.Source.left in
    section_found (left c.args.input.now) (left c.line.input) (left c.next.new.input) c.line.kept.lines c.line.kept.bytes c.args.lines.now c.line.lines c.next.new.self c.in-Ok-Some.line c.ended-then-is_section_end.result
    c.line.invariant.goes (rw c.in-Ok-Some.field-0-is at c.in-Ok-Some.ensures.read_here)
    (ap is_section_end (sym c.as_slice.ensures) ∙ sym c.is_section_end.ensures ∙ c.if-is_section_end.true) (rw c.in-Ok-Some.field-0-is at c.in-Ok-Some.ensures.steps).0
    c.ended-then-is_section_end.ensures.lines c.ended-then-is_section_end.ensures.line

pub line-preserved-in-Ok-true : goal.line-preserved-in-Ok-true
line-preserved-in-Ok-true g c =
    let left = g.S.Source.left in
    let l0 = left c.args.input.now in
    let l1 = left c.line.input in
    let l2 = left c.next.new.input in
    let line = c.in-Ok-Some.line in
    let is = c.in-Ok-Some.field-0-is in
    let steps = rw is at c.in-Ok-Some.ensures.steps in
    let kept = rw c.in-Ok-true.field-0-test at c.in-Ok-true.ensures in
    let inside = ap is_section_end (sym c.as_slice.ensures) ∙ sym c.is_section_end.ensures ∙ c.if-is_section_end.false in
    let taken = ap is_skipped (sym c.as_slice-in-Ok-Some.ensures) ∙ sym c.is_skipped.ensures ∙ c.if-not-is_skipped.true in
    record {
      same = section_kept l0 l1 l2 c.line.kept.lines c.keep.new.self.lines c.line.kept.bytes c.keep.new.self.bytes c.args.lines.now c.line.lines c.next.new.self c.in-Ok-Some.field-0 line is
          c.line.invariant.same c.in-Ok-Some.ensures.told inside taken steps.0 steps.1 kept.0 kept.1 kept.2;
      goes = section_keeps l0 l1 l2 c.line.kept.lines c.keep.new.self.lines c.line.kept.bytes c.keep.new.self.bytes c.args.lines.now c.line.lines c.next.new.self line
          c.line.invariant.goes (rw is at c.in-Ok-Some.ensures.read_here) inside taken steps.0 steps.1 kept.0 kept.1 kept.2;
      few = search rules;
      sound = search rules;
      count = c.in-Ok-Some.ensures.count ∙ c.line.invariant.count;
    }

pub line-preserved : goal.line-preserved
line-preserved g c =
    let left = g.S.Source.left in
    record {
      same = search rules;
      goes = section_skips (left c.args.input.now) (left c.line.input) (left c.next.new.input) c.line.kept.lines c.line.kept.bytes c.args.lines.now c.line.lines c.next.new.self c.in-Ok-Some.line
          c.line.invariant.goes (rw c.in-Ok-Some.field-0-is at c.in-Ok-Some.ensures.read_here)
          (ap is_section_end (sym c.as_slice.ensures) ∙ sym c.is_section_end.ensures ∙ c.if-is_section_end.false)
          (ap is_skipped (sym c.as_slice-in-Ok-Some.ensures) ∙ sym c.is_skipped.ensures ∙ c.if-not-is_skipped.false) (rw c.in-Ok-Some.field-0-is at c.in-Ok-Some.ensures.steps).1;
      few = search rules;
      sound = search rules;
      count = c.in-Ok-Some.ensures.count ∙ c.line.invariant.count;
    }

pub returns-in-Err-Read-clause-passes : goal.returns-in-Err-Read-clause-passes
returns-in-Err-Read-clause-passes g c =
    let left = g.S.Source.left in
    section_fails (left c.args.input.now) (left c.line.input) (left c.next.new.input) c.line.kept.lines c.line.kept.bytes c.args.lines.now c.line.lines c.next.new.self
    c.line.invariant.goes (rw c.in-Err-Read.field-0-is at c.in-Err-Read.ensures.read_here) ((rw c.in-Err-Read.field-0-is at c.in-Err-Read.ensures.waits) tt)

pub returns-in-Err-NoMemory-clause-passes : goal.returns-in-Err-NoMemory-clause-passes
returns-in-Err-NoMemory-clause-passes g c =
    let left = g.S.Source.left in
    let r = rw c.in-Err-NoMemory.field-0-is at c.in-Err-NoMemory.ensures.read_here in
    section_lacks (left c.args.input.now) (left c.line.input) (left c.next.new.input) c.line.kept.lines c.line.kept.bytes c.args.lines.now c.line.lines c.next.new.self r.0
    c.line.invariant.goes r.1

pub returns-in-Err-clause-passes : goal.returns-in-Err-clause-passes
returns-in-Err-clause-passes g c =
    let left = g.S.Source.left in
    let r = rw c.in-Ok-Some.field-0-is at c.in-Ok-Some.ensures.read_here in
    section_lacks (left c.args.input.now) (left c.line.input) (left c.next.new.input) c.line.kept.lines c.line.kept.bytes c.args.lines.now c.line.lines c.next.new.self r.0
    c.line.invariant.goes r.1
