use Rattle.std.proofs.Common.{◌≡◌, ◌≤◌, length, map, vec_len}
use Rattle.ax_text.specs.Rows.{levels_of}
use Rattle.ax_lang.specs.Forms.{shown_row}
use Rattle.ax_lang.specs.Steps.{GoesOn}
use Rattle.ax_lang.specs.Links.{levels_at, AllUpTo}
use Rattle.ax_lang.proofs.LinkLemmas.{onto, FitsSoFar}
use Rattle.ax_lang.proofs.link.link.Given as goal

abbrev pub invariant-loop-row : goal.invariant-loop-row
invariant-loop-row l = record {
  up : AllUpTo (length l.steps.items) l.blocks.items;
  levels : onto (map shown_row l.rows.items) (levels_at l.steps.items l.blocks.items) ≡ levels_of (map shown_row l.fn.rows.items);
  longer : length l.fn.steps.items ≤ length l.steps.items;
  stays : GoesOn l.fn.steps.items l.steps.items;
  fits : FitsSoFar (map shown_row l.fn.rows.items) (map shown_row l.rows.items) l.fn.steps.items l.steps.items;
}

abbrev pub decreases-loop-row : goal.decreases-loop-row
decreases-loop-row l = vec_len l.rows
