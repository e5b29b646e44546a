use Rattle.std.proofs.Common.{◌∙◌, ℕ, ℤ, List, sym, ap, subst, append-nil}
use Rattle.ax_input.specs.Shown.{shown_event}
use Rattle.ax_input.specs.declared.event.Event.{Event}
use Rattle.ax_machine.specs.Entries.{Mark, entry_text, text_of}
use Rattle.ax_machine.specs.Sync.{block_of, plain_step, row_step}
use Rattle.ax_lang.specs.Shown.{shown_program, shown_kinds}
use Rattle.ax_base.specs.Outside.{AppendsSome}
use Rattle.ax_plain.specs.Plain.{shown_plain}
use Rattle.ax_plain.proofs.RunLemmas.{on_err}
use Rattle.ax_plain.proofs.plain.PlainThread.take.Goals as goal

pub returns-in-Row-clause-part : goal.returns-in-Row-clause-part
returns-in-Row-clause-part g c =
    let p = shown_program c.args.program.now in
    let s = shown_plain (shown_kinds c.args.program.now) c.args.self.now in
    let P : List ℕ → Type 0 = AppendsSome (g.K.Sink.holds c.args.out.now) (g.K.Sink.holds c.run_row.new.out) in
    let same = ap (λ (vs : List ℤ). text_of (row_step p c.in-Row.key c.in-Row.time vs s).entries) c.as_slice.ensures
    ∙ ap (λ (e : Event). text_of (plain_step c.args.groups p (shown_event e) s).entries) (sym c.in-Row.is) in
    on_err c.run_row.result c.run_row.ensures.part (subst P same)

pub returns-in-Mark-clause-part : goal.returns-in-Mark-clause-part
returns-in-Mark-clause-part g c =
    let p = shown_program c.args.program.now in
    let s = shown_plain (shown_kinds c.args.program.now) c.args.self.now in
    let P : List ℕ → Type 0 = AppendsSome (g.K.Sink.holds c.args.out.now) (g.K.Sink.holds c.pass_watermark.new.out) in
    on_err c.pass_watermark.result c.pass_watermark.ensures.part (subst P (ap (λ (e : Event). text_of (plain_step c.args.groups p (shown_event e) s).entries) (sym c.in-Mark.is)))

pub returns-in-Barrier-clause-part : goal.returns-in-Barrier-clause-part
returns-in-Barrier-clause-part g c =
    let p = shown_program c.args.program.now in
    let s = shown_plain (shown_kinds c.args.program.now) c.args.self.now in
    let P : List ℕ → Type 0 = AppendsSome (g.K.Sink.holds c.args.out.now) (g.K.Sink.holds c.write_block.new.out) in
    let same = sym (append-nil (entry_text (Mark (block_of c.args.groups p c.in-Barrier.id s)))) ∙ ap (λ (e : Event). text_of (plain_step c.args.groups p (shown_event e) s).entries) (sym c.in-Barrier.is) in
    on_err c.write_block.result c.write_block.ensures.part (subst P same)
