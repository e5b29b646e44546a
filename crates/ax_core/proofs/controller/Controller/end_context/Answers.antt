use Rattle.std.proofs.Common.{◌∙◌, sym, ap, subst}
use Rattle.ax_text.specs.declared.vocabulary.Handler.{Handler}
use Rattle.ax_context.specs.declared.contexts.Context.{Context as Held}
use Rattle.ax_account.specs.Accounts.{waiting_of}
use Rattle.ax_time.specs.Epochs.{Book}
use Rattle.ax_time.specs.Timers.{times_of}
use Rattle.ax_core.specs.declared.record.Record.{Record}
use Rattle.ax_core.specs.Callbacks.{ended, all_left, row_epochs, AllMayLeave}
use Rattle.ax_core.specs.Calls.{IsLast}
use Rattle.ax_core.proofs.Ends.{Asks, asks_ended, marks_leave, call_gives_up}
use Rattle.ax_core.proofs.controller.Controller.end_context.Goals as goal

pub go_on-requires-clause-left : goal.go_on-requires-clause-left
go_on-requires-clause-left c =
    let last : IsLast c.args.self.now.contexts c.give_up-ended.new.contexts c.args.id c.give_up-ended.result.key c.give_up-ended.result.handler c.give_up-ended.result.epoch = c.give_up-ended.ensures in
    let it : (h : Held Record) × Asks c.args.self.now c.args.id c.args.turn c.give_up-ended.result.key c.set_timers.new.timers c.args.self.now.contexts c.args.self.now.buffer h =
    asks_ended c.args.self.now c.args.id c.args.turn c.give_up-ended.result.key c.get.result.now c.as_slice.result.now c.set_timers.new.timers c.give_up-ended.new.contexts c.give_up-ended.result.handler c.give_up-ended.result.epoch
    c.requires.ready.may c.get.ensures c.requires.silent c.as_slice.ensures c.in_ok-set_timers.ensures.times last in
    subst (λ (book : Book). AllMayLeave (ended (times_of c.set_timers.new.timers c.give_up-ended.result.key) (waiting_of c.args.self.now.accounts c.give_up-ended.result.key)) book)
    (sym (c.leave_row.ensures ∙ ap (λ (h : Handler). all_left (row_epochs h c.give_up-ended.result.epoch) c.args.self.now.epochs) last.handles))
    (marks_leave c.args.self.now c.args.id c.args.turn c.give_up-ended.result.key c.set_timers.new.timers c.args.self.now.contexts c.args.self.now.buffer it.0 it.1 c.give_up-ended.new.contexts last.payload c.give_up-ended.result.epoch last.number last.leaves)

pub returns-clause-ends : goal.returns-clause-ends
returns-clause-ends c =
    let last : IsLast c.args.self.now.contexts c.give_up-ended.new.contexts c.args.id c.give_up-ended.result.key c.give_up-ended.result.handler c.give_up-ended.result.epoch = c.give_up-ended.ensures in
    let it : (h : Held Record) × Asks c.args.self.now c.args.id c.args.turn c.give_up-ended.result.key c.set_timers.new.timers c.args.self.now.contexts c.args.self.now.buffer h =
    asks_ended c.args.self.now c.args.id c.args.turn c.give_up-ended.result.key c.get.result.now c.as_slice.result.now c.set_timers.new.timers c.give_up-ended.new.contexts c.give_up-ended.result.handler c.give_up-ended.result.epoch
    c.requires.ready.may c.get.ensures c.requires.silent c.as_slice.ensures c.in_ok-set_timers.ensures.times last in
    call_gives_up c.args.self.now c.args.id c.args.turn c.give_up-ended.result.key c.set_timers.new.timers c.args.self.now.contexts c.args.self.now.buffer it.0 it.1 c.give_up-ended.new.contexts last.payload c.give_up-ended.result.epoch last.number last.leaves
    c.args.ran c.leave_row.new.epochs (c.leave_row.ensures ∙ ap (λ (h : Handler). all_left (row_epochs h c.give_up-ended.result.epoch) c.args.self.now.epochs) last.handles) c.go_on.new.self c.in_ok-fired.fired c.in_ok-fired.ensures
