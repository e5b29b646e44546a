use Rattle.std.proofs.Common.{ℤ, List, subst}
use Rattle.ax_base.specs.Outside.{AppendsSome}
use Rattle.ax_machine.specs.Entries.{says, text_of}
use Rattle.ax_plain.proofs.RunLemmas.{AppendsSome-all}
use Rattle.ax_plain.proofs.handler.do_turn.Goals as goal

pub returns-in-Err-clause-part : goal.returns-in-Err-clause-part
returns-in-Err-clause-part g c =
    let P : List (List ℤ) → Type 0 = λ ls. AppendsSome (g.K.Sink.holds c.args.out.now) (g.K.Sink.holds c.write_lines.new.out) (text_of (says c.args.key.now ls)) in
    subst P c.as_slice.ensures (AppendsSome-all (g.K.Sink.holds c.args.out.now) (g.K.Sink.holds c.write_lines.new.out) (text_of (says c.args.key.now c.as_slice.result.now)) c.in_ok-write_lines.ensures.lines)
