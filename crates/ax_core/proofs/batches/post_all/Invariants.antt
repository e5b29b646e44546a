use Rattle.std.proofs.Common.{◌≡◌, ◌+◌, ◌≤◌, ◌++◌, length}
use Rattle.ax_core.specs.Batches.{mails_in}
use Rattle.ax_core.proofs.batches.post_all.Given as goal

abbrev pub invariant-loop-reply : goal.invariant-loop-reply
invariant-loop-reply l = record {
  mails : l.mails.mails ++ mails_in l.reply-iterator.rest.items ≡ l.fn.mails.mails ++ mails_in l.fn.r;
  fit : length l.mails.mails + length l.reply-iterator.rest.items ≤ l.mails.room;
  room : l.mails.room ≡ l.fn.mails.room;
}
