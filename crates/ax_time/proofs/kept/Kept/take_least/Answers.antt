use Rattle.std.proofs.Common.{◌≡◌, ◌∙◌, IsSome, [], ap, refl, sym, subst}
use Rattle.ax_text.specs.Times.{least_time, later_times}
use Rattle.ax_time.specs.Timers.{times_of}
use Rattle.ax_time.specs.Held.{times_or, shown_timers}
use Rattle.ax_time.proofs.KeptLemmas.{agree_took, put_seen, times_same, times_seen, no_times}
use Rattle.ax_time.proofs.kept.Kept.take_least.Goals as goal

pub returns-in_default-clause-least : goal.returns-in_default-clause-least
returns-in_default-clause-least c = sym (ap least_time (no_times c.args.self.now c.requires c.args.key.now (sym c.in_default.ensures.value)))

pub returns-in_default-clause-times : goal.returns-in_default-clause-times
returns-in_default-clause-times c =
    let none : times_of (shown_timers c.args.self.now) c.args.key.now ≡ [] = no_times c.args.self.now c.requires c.args.key.now (sym c.in_default.ensures.value) in
    rw c.get_mut.follows.holds-at-none (times_same (shown_timers c.args.self.now) c.args.key.now _ (ap later_times none ∙ sym none))

pub returns-clause-kept : goal.returns-clause-kept
returns-clause-kept c =
    let after = c.get_mut.follows.holds c.cut_first.new.held in
    agree_took c.args.self.now _ c.requires c.args.key.now c.in-Some.held.now c.cut_first.new.held c.in-Some.ensures.value (after.3 (subst IsSome c.in-Some.ensures.value refl)).0 after.4
    c.cut_first.result c.cut_first.ensures.none c.cut_first.ensures.has c.cut_first.ensures.due c.cut_first.ensures.number refl c.cut_first.ensures.rising

pub returns-clause-least : goal.returns-clause-least
returns-clause-least c = c.cut_first.ensures.least ∙ ap least_time (ap times_or c.in-Some.ensures.value ∙ times_seen c.args.self.now c.requires c.args.key.now)

pub returns-clause-times : goal.returns-clause-times
returns-clause-times c =
    let after = c.get_mut.follows.holds c.cut_first.new.held in
    put_seen c.args.self.now c.requires (c.get_mut.follows.lender c.cut_first.new.held) after.4 c.args.key.now c.in-Some.held.now c.cut_first.new.held c.in-Some.ensures.value
    (after.3 (subst IsSome c.in-Some.ensures.value refl)).0 later_times c.cut_first.ensures.times
