use Rattle.std.proofs.Common.{◌≡◌, map, take, string_bytes}
use Rattle.ax_words.specs.Options.{texts}
use Rattle.ax_cli.proofs.program.as_texts.Given as goal

abbrev pub invariant-loop-arg : goal.invariant-loop-arg
invariant-loop-arg l = texts l.words.items ≡ map string_bytes (take l.arg-index l.args)
