use Rattle.std.proofs.Common.{rules}
use Rattle.std.proofs.lemmas.Fn.{always_returns_same}
use Rattle.ax_store.specs.Entries.{is_before}
use Rattle.ax_store.proofs.PrefixLemmas.{parted}
use Rattle.ax_store.proofs.run.start_of.Goals as goal

pub returns-clause-point : goal.returns-clause-point
returns-clause-point c =
    c.partition_point.ensures.partitioned (is_before c.args.prefix.now) (always_returns_same _ _ _ (λ a r g called. (search rules, search rules))) (parted c.args.prefix.now c.args.entries.now c.requires)
