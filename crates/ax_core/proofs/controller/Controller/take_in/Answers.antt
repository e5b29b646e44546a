use Rattle.std.proofs.Common.{◌≡◌, ℕ, ◌+◌, ◌<◌, ◌^◌, ◌++◌, refl, sym, ap, ◌∙◌, subst}
use Rattle.ax_context.specs.Slots.{at, Has}
use Rattle.ax_account.specs.declared.part.Occupied.{Occupied}
use Rattle.ax_account.specs.Accounts.{part_of, Changes, answer_to, occupied}
use Rattle.ax_time.specs.Epochs.{IsOpen, count_of, with_count}
use Rattle.ax_core.specs.declared.record.Record.{Record}
use Rattle.ax_core.specs.Admissions.{start_mails}
use Rattle.ax_core.proofs.Taken.{is_there, paid_with}
use Rattle.ax_core.proofs.controller.Controller.take_in.Goals as goal

pub get-requires : goal.get-requires
get-requires c = is_there c.args.r c.current-epoch.result (at c.make-id.new.self c.make-id.result) c.make-id.ensures.made

pub enter-requires-clause-open : goal.enter-requires-clause-open
enter-requires-clause-open c = subst (IsOpen c.args.self.now.epochs) (sym c.current-epoch.ensures) c.requires.open

pub enter-requires-clause-room : goal.enter-requires-clause-room
enter-requires-clause-room c = subst (λ (e : ℕ). count_of c.args.self.now.epochs e < 2 ^ 63) (sym c.current-epoch.ensures) c.requires.few

pub returns : goal.returns
returns c =
    let got : c.get.result.now ≡ c.args.r = paid_with c.args.r c.current-epoch.result (at c.make-id.new.self c.make-id.result) c.get.result.now c.make-id.ensures.made c.get.ensures in
    record {
      same = refl;
      free = c.make-id.ensures.free;
      made = subst (λ (e : ℕ). Has c.make-id.new.self c.make-id.result (λ h. h ≡ record { payload = c.args.r; epoch = e; number = h.number; count = 1 })) c.current-epoch.ensures c.make-id.ensures.made;
      number = c.make-id.ensures.number;
      next = c.make-id.ensures.next;
      others = c.make-id.ensures.others;
      len = c.make-id.ensures.len;
      limit = c.make-id.ensures.limit;
      part = subst (λ (v : Record). Changes c.args.self.now.accounts c.occupy.new.self v.facts.key (occupied c.make-id.result (part_of c.args.self.now.accounts v.facts.key))) got c.in_ok-taken.ensures.part;
      idle = c.in_ok-taken.ensures.idle;
      mails = c.start_owner.ensures.mails ∙ ap (λ (o : Occupied). c.args.self.now.mails.mails ++ start_mails o c.make-id.result)
          (c.in_ok-taken.ensures.answer ∙ ap (λ (v : Record). answer_to (part_of c.args.self.now.accounts v.facts.key)) got);
      room = c.start_owner.ensures.room;
      epochs = c.enter.ensures ∙ ap (λ (e : ℕ). with_count c.args.self.now.epochs e (count_of c.args.self.now.epochs e + 1)) c.current-epoch.ensures;
    }
