use Rattle.std.proofs.Common.{◌≡◌, ◌∙◌, false, IsSome, [], List, ℤ, ap, refl, sym, subst}
use Rattle.ax_text.specs.Times.{remove_time}
use Rattle.ax_time.specs.Timers.{times_of}
use Rattle.ax_time.specs.Held.{shown_timers}
use Rattle.ax_time.proofs.KeptLemmas.{same_there, rises_there, agree_made, put_seen, removed_time, times_same, no_times}
use Rattle.ax_time.proofs.kept.Kept.unset.Goals as goal

pub returns-in-Some-clause-kept : goal.returns-in-Some-clause-kept
returns-in-Some-clause-kept c =
    let after = c.get_mut.follows.holds c.cut.new.held in
    agree_made c.args.self.now _ c.requires c.args.key.now c.in-Some.held.now c.cut.new.held c.in-Some.ensures.value (after.3 (subst IsSome c.in-Some.ensures.value refl)).0 after.4
    c.args.time.now false c.cut.ensures.number refl c.cut.ensures.has c.cut.ensures.due c.cut.ensures.rising

pub returns-in-Some-clause-times : goal.returns-in-Some-clause-times
returns-in-Some-clause-times c =
    let after = c.get_mut.follows.holds c.cut.new.held in
    put_seen c.args.self.now c.requires (c.get_mut.follows.lender c.cut.new.held) after.4 c.args.key.now c.in-Some.held.now c.cut.new.held c.in-Some.ensures.value
    (after.3 (subst IsSome c.in-Some.ensures.value refl)).0 (remove_time c.args.time.now)
    (c.cut.ensures.times ∙ removed_time c.args.time.now c.in-Some.held.now.times.keys (rises_there c.args.self.now c.requires c.args.key.now c.in-Some.held.now c.in-Some.ensures.value))

pub returns-in_default-clause-times : goal.returns-in_default-clause-times
returns-in_default-clause-times c =
    let none : times_of (shown_timers c.args.self.now) c.args.key.now ≡ [] = no_times c.args.self.now c.requires c.args.key.now (sym c.in_default.ensures.value) in
    rw c.get_mut.follows.holds-at-none (times_same (shown_timers c.args.self.now) c.args.key.now _ (ap (remove_time c.args.time.now) none ∙ sym none))

pub cut-requires : goal.cut-requires
cut-requires c = record { same = same_there c.args.self.now c.requires c.args.key.now c.in-Some.held.now c.in-Some.ensures.value c.args.time.now }
