use Rattle.std.proofs.Common.{IfOk, refl, sym, subst}
use Rattle.ax_core.proofs.Fronts.{IsStartOf}
use Rattle.ax_core.proofs.MailRuns.{HasRun, IsTaken, start_may, reply_may, start_has_run, reply_has_run, run_sound, run_same, run_outs, run_event, run_keys, run_order, run_idle, run_number}
use Rattle.ax_core.proofs.controller.Controller.run_mail.Goals as goal

pub run_start-requires : goal.run_start-requires
run_start-requires c =
    let taken : IsTaken c.args.self.now c.take.new.self c.in-Some-Start.field-0 = record {
      sound = c.requires.sound;
      accepted = record { row = c.program_is_accepted.ensures.row c.args.self.now.program; timer = c.program_is_accepted.ensures.timer c.args.self.now.program };
      fits = c.sizes_law.ensures;
      mails = c.in-Some-Start.ensures.mails;
      room = c.take.ensures.room;
    } in
    let starts : IsStartOf c.in-Some-Start.id c.in-Some-Start.field-0 = subst (IsStartOf c.in-Some-Start.id) (sym c.in-Some-Start.field-0-is) refl in
    start_may c.args.self.now c.take.new.self c.in-Some-Start.field-0 taken c.in-Some-Start.id starts

pub run_start-requires-in-Some-Fire : goal.run_start-requires-in-Some-Fire
run_start-requires-in-Some-Fire c =
    let taken : IsTaken c.args.self.now c.take.new.self c.in-Some-Fire.field-0 = record {
      sound = c.requires.sound;
      accepted = record { row = c.program_is_accepted.ensures.row c.args.self.now.program; timer = c.program_is_accepted.ensures.timer c.args.self.now.program };
      fits = c.sizes_law.ensures;
      mails = c.in-Some-Fire.ensures.mails;
      room = c.take.ensures.room;
    } in
    let starts : IsStartOf c.in-Some-Fire.id c.in-Some-Fire.field-0 = subst (IsStartOf c.in-Some-Fire.id) (sym c.in-Some-Fire.field-0-is) refl in
    start_may c.args.self.now c.take.new.self c.in-Some-Fire.field-0 taken c.in-Some-Fire.id starts

pub run_reply-requires : goal.run_reply-requires
run_reply-requires c =
    let taken : IsTaken c.args.self.now c.take.new.self c.in-Some-Reply.field-0 = record {
      sound = c.requires.sound;
      accepted = record { row = c.program_is_accepted.ensures.row c.args.self.now.program; timer = c.program_is_accepted.ensures.timer c.args.self.now.program };
      fits = c.sizes_law.ensures;
      mails = c.in-Some-Reply.ensures.mails;
      room = c.take.ensures.room;
    } in
    reply_may c.args.self.now c.take.new.self c.in-Some-Reply.field-0 taken c.in-Some-Reply.id c.in-Some-Reply.slot c.in-Some-Reply.answer c.in-Some-Reply.field-0-is

pub returns-in-Some-Start : goal.returns-in-Some-Start
returns-in-Some-Start c =
    let taken : IsTaken c.args.self.now c.take.new.self c.in-Some-Start.field-0 = record {
      sound = c.requires.sound;
      accepted = record { row = c.program_is_accepted.ensures.row c.args.self.now.program; timer = c.program_is_accepted.ensures.timer c.args.self.now.program };
      fits = c.sizes_law.ensures;
      mails = c.in-Some-Start.ensures.mails;
      room = c.take.ensures.room;
    } in
    let starts : IsStartOf c.in-Some-Start.id c.in-Some-Start.field-0 = subst (IsStartOf c.in-Some-Start.id) (sym c.in-Some-Start.field-0-is) refl in
    let run : IfOk c.run_start.result (HasRun c.args.self.now c.run_start.new.self) =
    start_has_run c.args.self.now c.take.new.self c.in-Some-Start.field-0 taken c.in-Some-Start.id c.run_start.new.self c.run_start.result starts c.run_start.ensures.ran c.run_start.ensures.started in
    record {
      sound = run_sound c.args.self.now c.run_start.new.self c.run_start.result run;
      same = run_same c.args.self.now c.run_start.new.self c.run_start.result run;
      outs = run_outs c.args.self.now c.run_start.new.self c.run_start.result run;
      event = run_event c.args.self.now c.run_start.new.self c.run_start.result run;
      keys = run_keys c.args.self.now c.run_start.new.self c.run_start.result run;
      order = run_order c.args.self.now c.run_start.new.self c.run_start.result run;
      idle = run_idle c.args.self.now c.run_start.new.self c.run_start.result run;
      number = run_number c.args.self.now c.run_start.new.self c.run_start.result run;
    }

pub returns-in-Some-Fire : goal.returns-in-Some-Fire
returns-in-Some-Fire c =
    let taken : IsTaken c.args.self.now c.take.new.self c.in-Some-Fire.field-0 = record {
      sound = c.requires.sound;
      accepted = record { row = c.program_is_accepted.ensures.row c.args.self.now.program; timer = c.program_is_accepted.ensures.timer c.args.self.now.program };
      fits = c.sizes_law.ensures;
      mails = c.in-Some-Fire.ensures.mails;
      room = c.take.ensures.room;
    } in
    let starts : IsStartOf c.in-Some-Fire.id c.in-Some-Fire.field-0 = subst (IsStartOf c.in-Some-Fire.id) (sym c.in-Some-Fire.field-0-is) refl in
    let run : IfOk c.run_start-in-Some-Fire.result (HasRun c.args.self.now c.run_start-in-Some-Fire.new.self) =
    start_has_run c.args.self.now c.take.new.self c.in-Some-Fire.field-0 taken c.in-Some-Fire.id c.run_start-in-Some-Fire.new.self c.run_start-in-Some-Fire.result starts c.run_start-in-Some-Fire.ensures.ran c.run_start-in-Some-Fire.ensures.started in
    record {
      sound = run_sound c.args.self.now c.run_start-in-Some-Fire.new.self c.run_start-in-Some-Fire.result run;
      same = run_same c.args.self.now c.run_start-in-Some-Fire.new.self c.run_start-in-Some-Fire.result run;
      outs = run_outs c.args.self.now c.run_start-in-Some-Fire.new.self c.run_start-in-Some-Fire.result run;
      event = run_event c.args.self.now c.run_start-in-Some-Fire.new.self c.run_start-in-Some-Fire.result run;
      keys = run_keys c.args.self.now c.run_start-in-Some-Fire.new.self c.run_start-in-Some-Fire.result run;
      order = run_order c.args.self.now c.run_start-in-Some-Fire.new.self c.run_start-in-Some-Fire.result run;
      idle = run_idle c.args.self.now c.run_start-in-Some-Fire.new.self c.run_start-in-Some-Fire.result run;
      number = run_number c.args.self.now c.run_start-in-Some-Fire.new.self c.run_start-in-Some-Fire.result run;
    }

pub returns-in-Some-Reply : goal.returns-in-Some-Reply
returns-in-Some-Reply c =
    let taken : IsTaken c.args.self.now c.take.new.self c.in-Some-Reply.field-0 = record {
      sound = c.requires.sound;
      accepted = record { row = c.program_is_accepted.ensures.row c.args.self.now.program; timer = c.program_is_accepted.ensures.timer c.args.self.now.program };
      fits = c.sizes_law.ensures;
      mails = c.in-Some-Reply.ensures.mails;
      room = c.take.ensures.room;
    } in
    let run : IfOk c.run_reply.result (HasRun c.args.self.now c.run_reply.new.self) =
    reply_has_run c.args.self.now c.take.new.self c.in-Some-Reply.field-0 taken c.in-Some-Reply.id c.run_reply.new.self c.run_reply.result
    c.in-Some-Reply.slot c.in-Some-Reply.answer c.in-Some-Reply.field-0-is c.run_reply.ensures.ran c.run_reply.ensures.replied in
    record {
      sound = run_sound c.args.self.now c.run_reply.new.self c.run_reply.result run;
      same = run_same c.args.self.now c.run_reply.new.self c.run_reply.result run;
      outs = run_outs c.args.self.now c.run_reply.new.self c.run_reply.result run;
      event = run_event c.args.self.now c.run_reply.new.self c.run_reply.result run;
      keys = run_keys c.args.self.now c.run_reply.new.self c.run_reply.result run;
      order = run_order c.args.self.now c.run_reply.new.self c.run_reply.result run;
      idle = run_idle c.args.self.now c.run_reply.new.self c.run_reply.result run;
      number = run_number c.args.self.now c.run_reply.new.self c.run_reply.result run;
    }
