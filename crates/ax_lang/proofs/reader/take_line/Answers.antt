use Rattle.std.proofs.Common.{◌≤◌, sym, subst, length, Some, None}
use Rattle.ax_syntax.specs.Shapes.{shown_shape}
use Rattle.ax_rules.specs.declared.tables.Tables.{Tables}
use Rattle.ax_rules.proofs.SectionLemmas.{by_answer}
use Rattle.ax_lang.proofs.SoundLemmas.{few_states}
use Rattle.ax_lang.proofs.reader.take_line.Goals as goal

pub row_of-requires : goal.row_of-requires
row_of-requires c =
    let s = shown_shape c.in-Some.shape in
    let step = by_answer (Some s) c.args.tables.now c.take_line.new.self c.in_ok-kind.field-0 None c.in_default-2.is c.in_ok-kind.ensures.step in
    subst (λ (t : Tables). length t.states ≤ 64) (sym step.1) (few_states c.args.tables.now s step.0 c.requires)
