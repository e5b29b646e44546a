use Rattle.std.proofs.Common.{◌↔◌, ◌<ℤ◌, ℤ, w64, to_z, of_z, length, List, refl, sym, ap, ◌∙◌, subst, arith}
use Rattle.std.proofs.lemmas.Int.{to_z-of_z}
use Rattle.std.specs.List.{Contains}
use Rattle.std.specs.List.Sorted.{IsStrictlySortedBy}
use Rattle.ax_keys.specs.Keys.{key_cmp}
use Rattle.ax_text.specs.Times.{HasDue}
use Rattle.ax_machine.specs.Entries.{Key}
use Rattle.ax_time.specs.Epochs.{Book, Fits64}
use Rattle.ax_time.specs.Timers.{times_of}
use Rattle.ax_execution.specs.Machine.{Close, ByWatermark}
use Rattle.ax_core.specs.Closings.{MarksAll, books, every}
use Rattle.ax_core.specs.Sound.{IsSound}
use Rattle.ax_core.specs.Events.{Makes}
use Rattle.ax_core.proofs.ClosedBy.{with_mark, few_count, mark_closes, mark_sound}
use Rattle.ax_core.specs.Order.{BecomeIdle}
use Rattle.ax_core.proofs.IdleKeys.{marked_idle}
use Rattle.ax_core.proofs.Orders.{posts_none}
use Rattle.ax_core.proofs.controller.Controller.close_by_watermark.Goals as goal

pub mark_all-requires : goal.mark_all-requires
mark_all-requires c =
    let few = few_count c.args.self.now c.requires.sound in
    let small = c.few_keys.ensures in
    let same = ap length (c.as_slice-3.ensures ∙ sym c.as_slice.ensures) in
    record { room = omega (arith, few, small, same) }

pub mark_free-requires : goal.mark_free-requires
mark_free-requires c =
    let few = few_count c.args.self.now c.requires.sound in
    let first = c.few_keys.ensures in
    let same = ap length (c.as_slice-3.ensures ∙ sym c.as_slice.ensures) in
    let second = c.few_keys-2.ensures in
    let again = ap length (c.as_slice-4.ensures ∙ sym c.as_slice-2.ensures) in
    let count = c.in_ok-mark_all.ensures.count in
    record { room = omega (arith, few, first, same, second, again, count) }

pub returns-clause-sound : goal.returns-clause-sound
returns-clause-sound c =
    subst (λ (book : Book). IsSound (with_mark c.args.self.now (to_z w64 (of_z w64 c.args.time)) c.mark_free.new.accounts book)) (sym c.in_ok-close.ensures.ok)
    (mark_sound (record { own = c.one_epoch_law.ensures.own; others = c.one_epoch_law.ensures.others; actions = c.one_epoch_law.ensures.actions; pending = c.one_epoch_law.ensures.pending })
    c.counts_stay_law.ensures.closed c.args.self.now (to_z w64 (of_z w64 c.args.time)) c.sizes_law.ensures c.requires.may (subst (λ (z : ℤ). c.args.self.now.wm <ℤ z) (sym (to_z-of_z w64 c.args.time c.ranges.time)) c.requires.next)
    c.in_ok-busy.ensures.sound c.as_slice-4.result.now
    (subst (λ (ks : List Key). (q : Key) → Contains ks q ↔ HasDue (to_z w64 (of_z w64 c.args.time)) (times_of c.args.self.now.timers q)) (sym c.as_slice-4.ensures) c.in_ok-due.ensures.due)
    (books c.mark_all.new.accounts c.mark_all.new.epochs) (books c.mark_free.new.accounts c.mark_free.new.epochs)
    (subst (λ (ks : List Key). MarksAll every (to_z w64 (of_z w64 c.args.time)) ks (books c.args.self.now.accounts c.args.self.now.epochs) (books c.mark_all.new.accounts c.mark_all.new.epochs)) (c.as_slice-3.ensures ∙ c.in_ok-busy.ensures.keys) c.in_ok-mark_all.ensures.marks)
    c.in_ok-mark_free.ensures.marks (subst Fits64 c.in_ok-close.ensures.ok c.sizes_law-2.ensures) c.requires.sound)

pub returns-clause-event : goal.returns-clause-event
returns-clause-event c = λ m h.
    subst (λ (z : ℤ). Makes c.args.self.now (with_mark c.args.self.now (to_z w64 (of_z w64 c.args.time)) c.mark_free.new.accounts c.close.new.self) (Close (ByWatermark z)) m) (to_z-of_z w64 c.args.time c.ranges.time)
    (subst (λ (book : Book). Makes c.args.self.now (with_mark c.args.self.now (to_z w64 (of_z w64 c.args.time)) c.mark_free.new.accounts book) (Close (ByWatermark (to_z w64 (of_z w64 c.args.time)))) m) (sym c.in_ok-close.ensures.ok)
    (mark_closes (record { own = c.one_epoch_law.ensures.own; others = c.one_epoch_law.ensures.others; actions = c.one_epoch_law.ensures.actions; pending = c.one_epoch_law.ensures.pending })
    c.counts_stay_law.ensures.closed c.args.self.now (to_z w64 (of_z w64 c.args.time)) c.sizes_law.ensures c.requires.may (subst (λ (z : ℤ). c.args.self.now.wm <ℤ z) (sym (to_z-of_z w64 c.args.time c.ranges.time)) c.requires.next)
    c.in_ok-busy.ensures.sound c.as_slice-4.result.now
    (subst (λ (ks : List Key). (q : Key) → Contains ks q ↔ HasDue (to_z w64 (of_z w64 c.args.time)) (times_of c.args.self.now.timers q)) (sym c.as_slice-4.ensures) c.in_ok-due.ensures.due)
    (books c.mark_all.new.accounts c.mark_all.new.epochs) (books c.mark_free.new.accounts c.mark_free.new.epochs)
    (subst (λ (ks : List Key). MarksAll every (to_z w64 (of_z w64 c.args.time)) ks (books c.args.self.now.accounts c.args.self.now.epochs) (books c.mark_all.new.accounts c.mark_all.new.epochs)) (c.as_slice-3.ensures ∙ c.in_ok-busy.ensures.keys) c.in_ok-mark_all.ensures.marks)
    c.in_ok-mark_free.ensures.marks (subst Fits64 c.in_ok-close.ensures.ok c.sizes_law-2.ensures) m h))

pub returns-clause-order : goal.returns-clause-order
returns-clause-order c = posts_none c.args.self.now (with_mark c.args.self.now (to_z w64 (of_z w64 c.args.time)) c.mark_free.new.accounts c.close.new.self) c.requires.sound.flow refl refl refl

pub returns-clause-idle : goal.returns-clause-idle
returns-clause-idle c = λ m h.
    subst (λ (z : ℤ). BecomeIdle c.args.self.now (with_mark c.args.self.now (to_z w64 (of_z w64 c.args.time)) c.mark_free.new.accounts c.close.new.self) z m) (to_z-of_z w64 c.args.time c.ranges.time)
    (marked_idle c.args.self.now (to_z w64 (of_z w64 c.args.time)) c.in_ok-busy.ensures.sound c.as_slice-4.result.now
    (subst (λ (ks : List Key). (q : Key) → Contains ks q ↔ HasDue (to_z w64 (of_z w64 c.args.time)) (times_of c.args.self.now.timers q)) (sym c.as_slice-4.ensures) c.in_ok-due.ensures.due)
    (subst (IsStrictlySortedBy key_cmp) (sym c.as_slice-4.ensures) c.in_ok-due.ensures.rising)
    (books c.mark_all.new.accounts c.mark_all.new.epochs) (books c.mark_free.new.accounts c.mark_free.new.epochs)
    (subst (λ (ks : List Key). MarksAll every (to_z w64 (of_z w64 c.args.time)) ks (books c.args.self.now.accounts c.args.self.now.epochs) (books c.mark_all.new.accounts c.mark_all.new.epochs)) (c.as_slice-3.ensures ∙ c.in_ok-busy.ensures.keys) c.in_ok-mark_all.ensures.marks)
    c.in_ok-mark_free.ensures.marks c.close.new.self m h)
