use Rattle.std.proofs.Common.{◌∙◌, ◌++◌, ℕ, ℤ, List, [], ◌∷◌, FitsSigned, w64, to_z, of_z, rules, ap, subst}
use Rattle.std.proofs.Math.Facts.{to_z-of_z}
use Rattle.std.specs.Io.KnownBytes.{Appends}
use Rattle.ax_machine.specs.Entries.{Entry, Mark, Watermark, text_of}
use Rattle.ax_machine.specs.Sync.{all_fired, at_watermark}
use Rattle.ax_lang.specs.Shown.{shown_program, shown_kinds}
use Rattle.ax_base.specs.Outside.{AppendsSome}
use Rattle.ax_plain.specs.Plain.{shown_plain}
use Rattle.ax_plain.proofs.RunLemmas.{at_err, on_err, AppendsSome-all}
use Rattle.ax_plain.proofs.FireLemmas.{front_some, marked, marked_some}
use Rattle.ax_plain.proofs.ThreadLemmas.{on_ok}
use Rattle.ax_plain.proofs.plain.PlainThread.pass_greater.Goals as goal

pub returns-in_err-fire_due-clause-part : goal.returns-in_err-fire_due-clause-part
returns-in_err-fire_due-clause-part g c =
    let fits : FitsSigned w64 c.args.time.now = search rules in
    let fired : ℤ → List Entry = λ w. (all_fired (shown_program c.args.program.now) (at_watermark w (shown_plain (shown_kinds c.args.program.now) c.args.self.now))).entries in
    let es = fired (to_z w64 (of_z w64 c.args.time.now)) in
    let mark : Entry = Mark (Watermark c.args.time.now) in
    let P : List Entry → Type 0 = λ x. AppendsSome (g.K.Sink.holds c.args.out.now) (g.K.Sink.holds c.fire_due.new.out) (text_of (x ++ mark ∷ [])) in
    at_err c.from_residual.result (subst P (ap fired (to_z-of_z fits)) (front_some (g.K.Sink.holds c.args.out.now) (g.K.Sink.holds c.fire_due.new.out) es (mark ∷ []) c.in_err-fire_due.ensures.part))

pub returns-in_default-clause-part : goal.returns-in_default-clause-part
returns-in_default-clause-part g c =
    let fits : FitsSigned w64 c.args.time.now = search rules in
    let fired : ℤ → List Entry = λ w. (all_fired (shown_program c.args.program.now) (at_watermark w (shown_plain (shown_kinds c.args.program.now) c.args.self.now))).entries in
    let es = fired (to_z w64 (of_z w64 c.args.time.now)) in
    let mark : Entry = Mark (Watermark c.args.time.now) in
    let P : List Entry → Type 0 = λ x. AppendsSome (g.K.Sink.holds c.args.out.now) (g.K.Sink.holds c.fire_due.new.out) (text_of (x ++ mark ∷ [])) in
    subst P (ap fired (to_z-of_z fits)) (front_some (g.K.Sink.holds c.args.out.now) (g.K.Sink.holds c.fire_due.new.out) es (mark ∷ [])
    (AppendsSome-all (g.K.Sink.holds c.args.out.now) (g.K.Sink.holds c.fire_due.new.out) (text_of es) c.in_ok-fire_due.ensures.lines))

pub returns-clause-lines : goal.returns-clause-lines
returns-clause-lines g c =
    let fits : FitsSigned w64 c.args.time.now = search rules in
    let fired : ℤ → List Entry = λ w. (all_fired (shown_program c.args.program.now) (at_watermark w (shown_plain (shown_kinds c.args.program.now) c.args.self.now))).entries in
    let es = fired (to_z w64 (of_z w64 c.args.time.now)) in
    let mark : Entry = Mark (Watermark c.args.time.now) in
    let text = c.text.ensures ∙ c.in-Ok.ensures in
    let P : List ℕ → Type 0 = Appends (g.K.Sink.holds c.fire_due.new.out) (g.K.Sink.holds c.write_all.new.out) in
    let Q : List Entry → Type 0 = λ x. Appends (g.K.Sink.holds c.args.out.now) (g.K.Sink.holds c.write_all.new.out) (text_of (x ++ mark ∷ [])) in
    on_ok c.write_all.result c.write_all.ensures.all (λ a. subst Q (ap fired (to_z-of_z fits)) (marked (g.K.Sink.holds c.args.out.now) (g.K.Sink.holds c.fire_due.new.out) (g.K.Sink.holds c.write_all.new.out) es mark c.in_ok-fire_due.ensures.lines (subst P text a)))

pub returns-clause-part : goal.returns-clause-part
returns-clause-part g c =
    let fits : FitsSigned w64 c.args.time.now = search rules in
    let fired : ℤ → List Entry = λ w. (all_fired (shown_program c.args.program.now) (at_watermark w (shown_plain (shown_kinds c.args.program.now) c.args.self.now))).entries in
    let es = fired (to_z w64 (of_z w64 c.args.time.now)) in
    let mark : Entry = Mark (Watermark c.args.time.now) in
    let text = c.text.ensures ∙ c.in-Ok.ensures in
    let P : List ℕ → Type 0 = AppendsSome (g.K.Sink.holds c.fire_due.new.out) (g.K.Sink.holds c.write_all.new.out) in
    let Q : List Entry → Type 0 = λ x. AppendsSome (g.K.Sink.holds c.args.out.now) (g.K.Sink.holds c.write_all.new.out) (text_of (x ++ mark ∷ [])) in
    on_err c.write_all.result c.write_all.ensures.part (λ a. subst Q (ap fired (to_z-of_z fits)) (marked_some (g.K.Sink.holds c.args.out.now) (g.K.Sink.holds c.fire_due.new.out) (g.K.Sink.holds c.write_all.new.out) es mark c.in_ok-fire_due.ensures.lines (subst P text (a.0, a.2))))
