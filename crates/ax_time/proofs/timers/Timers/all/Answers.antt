use Rattle.std.proofs.Common.{◌∙◌, sym, subst}
use Rattle.std.specs.List.Sorted.{IsStrictlySortedBy}
use Rattle.ax_time.specs.Timers.{listed_cmp}
use Rattle.ax_time.proofs.KeptLemmas.{listed_rises, if_ok}
use Rattle.ax_time.proofs.timers.Timers.all.Goals as goal

pub returns-clause-rising : goal.returns-clause-rising
returns-clause-rising c = if_ok c.list_all.result (λ ts e. subst (IsStrictlySortedBy listed_cmp) (sym e) (listed_rises c.self.inside.kept c.self.invariant)) c.list_all.ensures
