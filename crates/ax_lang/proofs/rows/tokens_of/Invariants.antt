use Rattle.std.proofs.Common.{◌≡◌, take, map}
use Rattle.ax_lang.specs.Rows.{token_of}
use Rattle.ax_lang.proofs.rows.tokens_of.Given as goal

abbrev pub invariant-loop-word : goal.invariant-loop-word
invariant-loop-word l = l.tokens.items ≡ map (token_of l.locals) (take l.word-index l.words)
