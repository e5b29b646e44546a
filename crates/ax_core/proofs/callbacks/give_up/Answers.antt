use Rattle.std.proofs.Common.{refl}
use Rattle.ax_core.proofs.callbacks.give_up.Goals as goal

pub returns : goal.returns
returns c = record {
  payload = c.in-Gone.payload;
  number = c.in-Gone.number;
  named = refl;
  handles = refl;
  leaves = record {
    answer = c.in-Gone.ensures.answer;
    counted = c.in-Gone.ensures.counted;
    others = c.in-Gone.ensures.others;
    len = c.in-Gone.ensures.len;
    limit = c.in-Gone.ensures.limit;
    next = c.in-Gone.ensures.next;
  };
}
