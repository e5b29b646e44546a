use Rattle.std.proofs.Common.{◌≡◌, ◌++◌, drop}
use Rattle.ax_machine.specs.Entries.{numbers_text}
use Rattle.ax_task.proofs.line.put_numbers.Given as goal

abbrev pub invariant-loop-number : goal.invariant-loop-number
invariant-loop-number l = l.text.items ++ numbers_text (drop l.number-index l.numbers) ≡ l.fn.text.items ++ numbers_text l.numbers
