-- Declared states, as programs have them.
use Rattle.std.proofs.Common.{◌≡◌, ◌∙◌, List, [], ◌∷◌, map, length, refl, sym, ap}
use Rattle.std.proofs.lemmas.List.{length-map}
use Rattle.ax_text.specs.declared.vocabulary.Kind.{Kind}
use Rattle.ax_text.specs.Names.{Word}
use Rattle.ax_text.specs.Programs.{State, kinds_of}
use Rattle.ax_text.specs.Valid.{names_of as program_names}
use Rattle.ax_state.specs.declared.decls.Decl.{Decl}
use Rattle.ax_state.specs.Decls.{state, shown_states, kinds}
use Rattle.ax_rules.specs.declared.tables.DeclaredState.{DeclaredState}
use Rattle.ax_rules.specs.Lines.{names_of}
use Rattle.ax_lang.specs.Programs.{kind_in, state_in}
use Rattle.ax_lang.proofs.NameLemmas.{kinds_in}
use Rattle.ax_lang.proofs.ProgramLemmas.{program_kinds}

pub names_same : (ds : List DeclaredState) → program_names (map state_in ds) ≡ names_of ds
names_same [] = refl
names_same (d ∷ ds) = ap (λ (ws : List Word). d.name ∷ ws) (names_same ds)

pub kinds_same : (ds : List DeclaredState) → kinds_of (map state_in ds) ≡ kinds_in ds
kinds_same [] = refl
kinds_same (d ∷ ds) = ap (λ (ks : List Kind). kind_in d.kind ∷ ks) (kinds_same ds)

pub decl_names : (decls : List Decl) (ds : List DeclaredState) → shown_states decls ≡ map state_in ds → program_names (shown_states decls) ≡ names_of ds
decl_names decls ds e = ap program_names e ∙ names_same ds

pub decl_kinds : (decls : List Decl) (ds : List DeclaredState) → shown_states decls ≡ map state_in ds → kinds decls ≡ kinds_in ds
decl_kinds decls ds e = program_kinds decls ∙ (ap kinds_of e ∙ kinds_same ds)

pub decl_count : (decls : List Decl) (ds : List DeclaredState) → shown_states decls ≡ map state_in ds → length decls ≡ length ds
decl_count decls ds e = sym (length-map decls state) ∙ (ap (λ (ss : List State). length ss) e ∙ length-map ds state_in)
