use Rattle.std.proofs.Common.{refl, sym, ap, arith}
use Rattle.ax_buffer.specs.Chains.{next_of, item_of}
use Rattle.ax_buffer.proofs.chain.detach.Goals as goal

pub returns-clause-detached : goal.returns-clause-detached
unfolding next_of item_of
returns-clause-detached c =
    let told = c.remove-node.ensures in
    record {
      taken = ap item_of told.value;
      freed = told.updates;
      first = sym (ap next_of told.value);
      last = refl;
      shorter_by_one = omega (arith, c.requires.some);
    }
