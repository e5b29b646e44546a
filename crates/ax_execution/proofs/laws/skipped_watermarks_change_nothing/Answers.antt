use Rattle.std.proofs.Common.{sym, ap, ◌∙◌, List}
use Rattle.ax_machine.specs.Events.{Event}
use Rattle.ax_machine.proofs.SkipLemmas.{skipped}
use Rattle.ax_execution.specs.Origins.{plain_from, sync_from}
use Rattle.ax_execution.specs.Machine.{machine_from}
use Rattle.ax_execution.proofs.Skips.{none_skipped}
use Rattle.ax_execution.proofs.laws.skipped_watermarks_change_nothing.Goals as goal

pub returns-clause-none : goal.returns-clause-none
returns-clause-none c r g p from es h = none_skipped r g p es (machine_from from) h

pub returns-clause-same : goal.returns-clause-same
returns-clause-same c g p from es events e = ap (λ (xs : List Event). sync_from g p from xs) (sym e) ∙ skipped g p events (plain_from from)
