use Rattle.std.proofs.Common.{inl, inr, arith}
use Rattle.std.proofs.lemmas.Bool.{cases_eq}
use Rattle.ax_context.proofs.NumberLemmas.{past_more, first_found}
use Rattle.ax_context.proofs.contexts.Contexts.look_from.Goals as goal

pub returns-then-spare-gt0-clause-number : goal.returns-then-spare-gt0-clause-number
returns-then-spare-gt0-clause-number g c =
    first_found c.args.self.now c.args.next c.loop-next.steps c.requires.next (omega arith) c.loop-next.invariant.before
    (c.gap-spare.ensures.free 0 (omega arith))

pub loop-next-smaller : goal.loop-next-smaller
loop-next-smaller g c =
    omega (arith, past_more c.args.self.now c.args.next c.loop-next.steps (omega arith) (omega arith) (c.gap-spare.ensures.taken (omega arith)))

pub loop-next-preserved : goal.loop-next-preserved
loop-next-preserved g c =
    let taken = c.gap-spare.ensures.taken (omega arith) in
    record {
      before = λ k below. elim (cases_eq k c.loop-next.steps) [
        | inl same ↦ rw same taken
        | inr differs ↦ c.loop-next.invariant.before k (omega arith)
      ];
      few = omega (arith, past_more c.args.self.now c.args.next c.loop-next.steps (omega arith) (omega arith) taken);
    }
