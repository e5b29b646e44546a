use Rattle.std.proofs.Common.{◌≡◌, ◌++◌, drop, map}
use Rattle.std.specs.Fmt.{signed_decimal}
use Rattle.ax_machine.specs.OutLines.{behind_spaces}
use Rattle.ax_input.proofs.write.put_numbers.Given as goal

abbrev pub invariant-loop-number : goal.invariant-loop-number
invariant-loop-number l = record {
  front : l.draft.front ≡ l.fn.draft.front;
  line : l.draft.line ++ behind_spaces (map signed_decimal (drop l.number-index l.numbers)) ≡ l.fn.draft.line ++ behind_spaces (map signed_decimal l.numbers);
}
