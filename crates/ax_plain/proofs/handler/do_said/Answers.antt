use Rattle.std.proofs.Common.{OnErr, OnOk, subst}
use Rattle.std.specs.Io.KnownBytes.{Appends}
use Rattle.ax_base.specs.Outside.{AppendsSome}
use Rattle.ax_text.specs.Run.{times_after}
use Rattle.ax_machine.specs.Entries.{says, text_of}
use Rattle.ax_time.specs.Timers.{PutsTimes, times_of}
use Rattle.ax_future.specs.declared.callback.Turn.{Turn}
use Rattle.ax_plain.proofs.handler.do_said.Goals as goal

pub returns-clause-times : goal.returns-clause-times
returns-clause-times g c =
    subst (λ (t : Turn). OnOk c.do_turn.result (PutsTimes c.args.timers.now c.do_turn.new.timers c.args.key.now (times_after t.timer_ops (times_of c.args.timers.now c.args.key.now)))) c.said.ensures c.do_turn.ensures.times

pub returns-clause-lines : goal.returns-clause-lines
returns-clause-lines g c =
    subst (λ (t : Turn). OnOk c.do_turn.result (Appends (g.K.Sink.holds c.args.out.now) (g.K.Sink.holds c.do_turn.new.out) (text_of (says c.args.key.now t.outs)))) c.said.ensures c.do_turn.ensures.lines

pub returns-clause-part : goal.returns-clause-part
returns-clause-part g c =
    subst (λ (t : Turn). OnErr c.do_turn.result (AppendsSome (g.K.Sink.holds c.args.out.now) (g.K.Sink.holds c.do_turn.new.out) (text_of (says c.args.key.now t.outs)))) c.said.ensures c.do_turn.ensures.part
