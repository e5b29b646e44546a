use Rattle.std.proofs.Common.{◌∙◌, ◌≡◌, List, ℤ, sym, ap, subst}
use Rattle.std.specs.List.Sorted.{IsStrictlySortedBy}
use Rattle.std.specs.Ordering.{int_cmp}
use Rattle.ax_time.specs.Timers.{times_of}
use Rattle.ax_time.specs.Held.{times_or}
use Rattle.ax_time.proofs.KeptLemmas.{times_seen, rising_seen, if_ok}
use Rattle.ax_time.proofs.timers.Timers.times_of.Goals as goal

pub returns-in-Some-clause-times : goal.returns-in-Some-clause-times
returns-in-Some-clause-times c = if_ok c.list_times.result (λ ts e. e ∙ ap times_or c.in-Some.ensures.value ∙ times_seen c.self.inside.kept c.self.invariant c.args.key.now ∙ ap (λ v. times_of v c.args.key.now) c.self.view_is) c.list_times.ensures

pub returns-in-Some-clause-rising : goal.returns-in-Some-clause-rising
returns-in-Some-clause-rising c = if_ok c.list_times.result (λ ts e. subst (IsStrictlySortedBy int_cmp) (sym (e ∙ ap times_or c.in-Some.ensures.value ∙ times_seen c.self.inside.kept c.self.invariant c.args.key.now)) (rising_seen c.self.inside.kept c.self.invariant c.args.key.now)) c.list_times.ensures

pub returns-in-None-clause-times : goal.returns-in-None-clause-times
returns-in-None-clause-times c = c.new.ensures ∙ ap times_or c.in-None.ensures.value ∙ times_seen c.self.inside.kept c.self.invariant c.args.key.now ∙ ap (λ v. times_of v c.args.key.now) c.self.view_is

pub returns-in-None-clause-rising : goal.returns-in-None-clause-rising
returns-in-None-clause-rising c = subst (IsStrictlySortedBy int_cmp) (sym (c.new.ensures ∙ ap times_or c.in-None.ensures.value ∙ times_seen c.self.inside.kept c.self.invariant c.args.key.now)) (rising_seen c.self.inside.kept c.self.invariant c.args.key.now)
