use Rattle.std.proofs.Common.{◌≡◌, ◌+◌, ◌≤◌, false}
use Rattle.ax_base.specs.Outside.{Told}
use Rattle.ax_base.specs.Given.{ahead}
use Rattle.ax_task.specs.Sections.{section_of, most_kept}
use Rattle.ax_task.proofs.Sections.{with_front}
use Rattle.ax_task.proofs.Passing.{SectionGoes}
use Rattle.ax_task.proofs.section.gather.Given as goal

abbrev pub invariant-line : goal.invariant-line
invariant-line g l = record {
  same : Told (g.S.Source.left l.fn.input) (g.S.Source.left l.input)
      (λ a b. section_of (l.fn.lines.number + 1) 0 (ahead l.fn.lines a) ≡ with_front l.kept.lines (section_of (l.lines.number + 1) l.kept.bytes (ahead l.lines b)));
  goes : Told (g.S.Source.left l.fn.input) (g.S.Source.left l.input) (λ a b. SectionGoes l.kept.lines l.kept.bytes l.fn.lines l.lines a b);
  few : l.kept.bytes ≤ most_kept;
  sound : l.lines.failed ≡ false;
  count : g.S.Source.faults l.input ≡ g.S.Source.faults l.fn.input;
}

abbrev pub decreases-line : goal.decreases-line
decreases-line g l = l.lines.limit
