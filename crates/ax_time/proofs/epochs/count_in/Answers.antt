use Rattle.std.proofs.Common.{sym, ap, ◌∙◌, arith}
use Rattle.std.proofs.lemmas.Grind.{common_steps}
use Rattle.ax_time.specs.Epochs.{count_at}
use Rattle.ax_time.proofs.EpochLemmas.{count_at-closed, count_at-current, count_at-past}
use Rattle.ax_time.proofs.epochs.count_in.Goals as goal

pub returns-in-Some : goal.returns-in-Some
returns-in-Some c = ap (λ x. x.count) c.in-Some.ensures.lookup ∙ count_at-closed c.args.closed.now.items c.args.count c.args.place c.in-Some.epoch.now (grind (arith, common_steps))

pub returns-in-None : goal.returns-in-None
returns-in-None c = sym (ap (count_at c.args.closed.now.items c.args.count) (c.if-place-len.true ∙ c.len.ensures ∙ grind (arith, common_steps)) ∙ count_at-current c.args.closed.now.items c.args.count)

pub returns-in-None-2 : goal.returns-in-None-2
returns-in-None-2 c = sym (count_at-past c.args.closed.now.items c.args.count c.args.place (grind (arith, common_steps)))
