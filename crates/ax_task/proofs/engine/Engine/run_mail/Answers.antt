use Rattle.std.proofs.Common.{List, ℤ, inl, inr, refl, subst}
use Rattle.std.specs.Io.KnownBytes.{Appends}
use Rattle.ax_base.specs.Outside.{AppendsSome}
use Rattle.ax_machine.specs.Entries.{text_of, says}
use Rattle.ax_task.proofs.Written.{on_ok, on_err}
use Rattle.ax_task.proofs.EngineLemmas.{shards_stay, some_none, mail_writes, mail_writes_some}
use Rattle.ax_task.proofs.Lesser.{mail_less}
use Rattle.ax_task.proofs.engine.Engine.run_mail.Goals as goal

pub returns-in_default-clause-part : goal.returns-in_default-clause-part
returns-in_default-clause-part g c = some_none c.args.self.now (g.K.Sink.holds c.args.out.now)

pub returns-clause-writes : goal.returns-clause-writes
returns-clause-writes g c =
    let ran = c.in-Ok.ensures in
    let f = c.in-Ok.effects in
    let before = g.K.Sink.holds c.args.out.now in
    let behind = g.K.Sink.holds c.write_lines.new.out in
    on_ok c.write_lines.result c.write_lines.ensures.lines (λ a.
    mail_writes c.args.self.now _ (shards_stay _ _ refl refl refl) ran.sound ran.same ran.outs ran.keys f ran.event before behind
    (subst (λ (ls : List (List ℤ)). Appends before behind (text_of (says f.key ls))) c.as_slice.ensures a))

pub returns-clause-part : goal.returns-clause-part
returns-clause-part g c =
    let ran = c.in-Ok.ensures in
    let f = c.in-Ok.effects in
    let before = g.K.Sink.holds c.args.out.now in
    let behind = g.K.Sink.holds c.write_lines.new.out in
    on_err c.write_lines.result c.write_lines.ensures.part (λ a.
    mail_writes_some c.args.self.now (record c.args.self.now { core = c.run_mail.new.self }) (shards_stay _ _ refl refl refl) ran.sound ran.same ran.outs ran.keys f ran.event before behind
    (subst (λ (ls : List (List ℤ)). AppendsSome before behind (text_of (says f.key ls))) c.as_slice.ensures a))

pub returns-clause-falls : goal.returns-clause-falls
returns-clause-falls g c =
    let ran = c.in-Ok.ensures in
    let behind = g.K.Sink.holds c.write_lines.new.out in
    on_ok c.write_lines.result c.write_lines.ensures.lines (λ a.
    mail_less c.args.self.now (record c.args.self.now { core = c.run_mail.new.self }) (shards_stay _ _ refl refl refl) ran.same c.requires.ready c.in-Ok.effects ran.event)

pub returns-clause-ran : goal.returns-clause-ran
returns-clause-ran g c =
    let ran = c.in-Ok.ensures in
    let f = c.in-Ok.effects in
    let before = g.K.Sink.holds c.args.out.now in
    let behind = g.K.Sink.holds c.write_lines.new.out in
    on_ok c.write_lines.result c.write_lines.ensures.lines (λ a. (
      f,
      record { event = ran.event; order = ran.order; idle = ran.idle; numbers = ran.number; shards = shards_stay _ _ refl refl refl },
      subst (λ (ls : List (List ℤ)). Appends before behind (text_of (says f.key ls))) c.as_slice.ensures a,
    ))

pub returns-in_default-clause-broke : goal.returns-in_default-clause-broke
returns-in_default-clause-broke g c = inl refl

pub returns-clause-broke : goal.returns-clause-broke
returns-clause-broke g c =
    let ran = c.in-Ok.ensures in
    let f = c.in-Ok.effects in
    let before = g.K.Sink.holds c.args.out.now in
    let behind = g.K.Sink.holds c.write_lines.new.out in
    on_err c.write_lines.result c.write_lines.ensures.part (λ a. inr (
      f,
      record { event = ran.event; order = ran.order; idle = ran.idle; numbers = ran.number; shards = shards_stay _ _ refl refl refl },
      subst (λ (ls : List (List ℤ)). AppendsSome before behind (text_of (says f.key ls))) c.as_slice.ensures a,
    ))
