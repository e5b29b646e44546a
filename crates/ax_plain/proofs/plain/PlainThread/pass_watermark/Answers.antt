use Rattle.std.proofs.Common.{◌≡◌, ◌∙◌, Bool, true, cond, int_lt, FitsSigned, w64, rules, sym, ap₂, subst}
use Rattle.std.proofs.Math.Facts.{to_z-of_z}
use Rattle.ax_machine.specs.Entries.{Watermark, text_of}
use Rattle.ax_machine.specs.Sync.{all_fired, at_watermark, writes}
use Rattle.ax_lang.specs.Shown.{shown_program, shown_kinds}
use Rattle.ax_base.specs.Outside.{AppendsSome}
use Rattle.ax_plain.specs.Plain.{shown_plain}
use Rattle.ax_plain.proofs.RunLemmas.{on_err}
use Rattle.ax_plain.proofs.plain.PlainThread.pass_watermark.Goals as goal

pub returns-then-self-time-clause-part : goal.returns-then-self-time-clause-part
returns-then-self-time-clause-part g c =
    let s = shown_plain (shown_kinds c.args.program.now) c.args.self.now in
    let P : Bool → Type 0 = λ b. AppendsSome (g.K.Sink.holds c.args.out.now) (g.K.Sink.holds c.pass_greater.new.out)
    (text_of (cond b (writes (Watermark c.args.time.now) (all_fired (shown_program c.args.program.now) (at_watermark c.args.time.now s))) s).entries) in
    let low : FitsSigned w64 c.args.self.now.wm = search rules in
    let fits : FitsSigned w64 c.args.time.now = search rules in
    let greater : int_lt c.args.self.now.wm c.args.time.now ≡ true = sym (ap₂ int_lt (to_z-of_z low) (to_z-of_z fits)) ∙ c.if-self-time.true in
    on_err c.pass_greater.result c.pass_greater.ensures.part (subst P (sym greater))
