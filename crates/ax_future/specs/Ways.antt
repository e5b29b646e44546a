-- What is left where the answer of a request is taken in.
use Rattle.ax_text.specs.Exprs.{Facts}
use Rattle.ax_text.specs.Run.{After, World}
use Rattle.ax_text.specs.Controls.{Take, Control, Done, Wait, Arms, Answers, run_cursor, left_wait, left}

-- what was asked is answered, the answer is taken in, and the text goes on; elsewhere nothing changes
abbrev pub left_taken : Facts → Answers → Control → After → World → World
left_taken f answers Done after w = w
left_taken f answers (Wait s r n k) after w = run_cursor f k (left_wait f (answers s) r (Take after) w)
left_taken f answers (Arms one two k) after w = left f answers (Arms one two k) w
