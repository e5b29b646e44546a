-- What a program in the code stands for.
use Rattle.std.specs.Prelude.{◌≡◌, ℕ, ◌<◌, List, true, Option, Some, None}
use Rattle.ax_text.specs.declared.vocabulary.Kind.{Kind}
use Rattle.ax_text.specs.Texts.{Text, Stop}
use Rattle.ax_text.specs.Programs.{Program, kinds_of}
use Rattle.ax_state.specs.Decls.{shown_states}
use Rattle.ax_lang.specs.declared.step.Step.{Step}
use Rattle.ax_lang.specs.declared.program.Program.{Program as CodeProgram}
use Rattle.ax_lang.specs.Forms.{form_of, text_with, top_of}
use Rattle.ax_lang.specs.Names.{program_names}
use Rattle.ax_lang.specs.Steps.{text_at, text_some, stmt_fits}

-- the text from a place of a program on
unfoldable pub text_from : CodeProgram → ℕ → Text
text_from p place = text_at p.steps.items place

-- the program that the code holds
unfoldable pub shown_program : CodeProgram → Program
shown_program p = record { fields = p.fields; states = shown_states p.decls; row = text_at p.steps.items p.row; timer = text_some p.steps.items p.timer }

-- the kinds of the declared states
abbrev pub shown_kinds : CodeProgram → List Kind
shown_kinds p = kinds_of (shown_program p).states

-- what stands at a place: nothing, or a statement that fits and names lower places alone
abbrev pub StandsAt : CodeProgram → ℕ → Option Step → Type 0
StandsAt p place None = text_from p place ≡ Stop
StandsAt p place (Some s) = (text_from p place ≡ text_with (text_from p) (form_of s.stmt) s.next) × (top_of s < place) × (stmt_fits (shown_program p).fields (program_names (shown_program p)) (shown_kinds p) s.stmt ≡ true)
