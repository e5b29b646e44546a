-- What is declared.
use Rattle.std.specs.Prelude.{List, map}
use Rattle.ax_text.specs.declared.vocabulary.Kind.{Kind}
use Rattle.ax_text.specs.Programs.{State}
use Rattle.ax_state.specs.declared.decls.Decl.{Decl}

-- a declared state, as a program has it
abbrev pub state : Decl → State
state d = record { name = d.name; kind = d.kind }

abbrev pub shown_states : List Decl → List State
shown_states decls = map state decls

-- the kinds of the declared states, in order
abbrev pub kinds : List Decl → List Kind
kinds decls = map (λ d. d.kind) decls
