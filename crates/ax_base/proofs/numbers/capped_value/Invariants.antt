use Rattle.std.proofs.Common.{◌≡◌, ◌≤◌, drop, min}
use Rattle.std.specs.List.{list_all}
use Rattle.ax_base.specs.Numbers.{value_from, is_digit}
use Rattle.ax_base.proofs.numbers.capped_value.Given as goal

abbrev pub invariant-loop-b : goal.invariant-loop-b
invariant-loop-b l = record {
  small : l.n ≤ 9223372036854775809;
  value : min (value_from l.n (drop l.b-index l.digits)) 9223372036854775809 ≡ min (value_from 0 l.digits) 9223372036854775809;
  digits : list_all is_digit (drop l.b-index l.digits) ≡ list_all is_digit l.digits;
}
