use Rattle.ax_lang.specs.Programs.{shown_handlers}
use Rattle.ax_lang.proofs.ReadingLemmas.{Reads}
use Rattle.ax_lang.proofs.reader.read_program.Given as goal

abbrev pub invariant-loop-line : goal.invariant-loop-line
invariant-loop-line l = Reads l.lines l.end l.line-index l.tables (shown_handlers l.handlers)
