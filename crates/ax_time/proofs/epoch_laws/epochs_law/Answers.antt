use Rattle.std.proofs.Common.{arith}
use Rattle.ax_time.specs.Epochs.{fresh}
use Rattle.ax_time.proofs.EachLemmas.{gone_kept, rest_kept, number_kept, run_current}
use Rattle.ax_time.proofs.RunLemmas.{run_markers, run_oldest, run_work}
use Rattle.ax_time.proofs.epoch_laws.epochs_law.Goals as goal

pub returns-clause-all : goal.returns-clause-all
returns-clause-all c = λ calls wanted. record {
  actions = run_markers calls fresh;
  numbers = omega (arith, run_oldest calls fresh (omega arith));
  current = run_current calls;
  work = omega (arith, run_work calls fresh wanted);
}

pub returns-clause-each : goal.returns-clause-each
returns-clause-each c = λ calls wanted. record {
  gone = λ nth h. gone_kept calls nth wanted h;
  rest = λ place. rest_kept calls place wanted;
  number = λ epoch e. number_kept calls epoch e;
}
