use Rattle.std.proofs.Common.{◌≡◌, true, get_or, arith, ◌∙◌}
use Rattle.std.proofs.lemmas.Bool.Decides.{nat_tests}
use Rattle.ax_base.specs.Numbers.{is_digit}
use Rattle.ax_base.proofs.NumberLemmas.{value_more, digits_more}
use Rattle.ax_base.proofs.numbers.capped_value.Goals as goal

pub loop-b-preserved : goal.loop-b-preserved
loop-b-preserved c =
    let xs = c.args.digits.now in
    let i = c.loop-b.b-index in
    let digit : is_digit (get_or xs i 0) ≡ true = grind (arith, nat_tests) in
    record {
      small = omega (arith, c.with_digit-n.ensures);
      value = value_more 9223372036854775809 xs i c.loop-b.n c.with_digit-n.result (omega arith) c.with_digit-n.ensures ∙ c.loop-b.invariant.value;
      digits = digits_more xs i (omega arith) digit ∙ c.loop-b.invariant.digits;
    }
