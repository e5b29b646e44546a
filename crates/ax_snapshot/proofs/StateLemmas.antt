-- The lines of one state.
use Rattle.std.proofs.Common.{◌≡◌, refl, sym, ap, ◌∙◌, ℕ, ◌+◌, ◌<◌, ℤ, List, [], ◌∷◌, ◌++◌, map, drop, length, true, nat_lt, get_or, subst, None}
use Rattle.std.proofs.lemmas.Bool.{and_parts, false≢true}
use Rattle.std.proofs.lemmas.List.{drop_more}
use Rattle.std.proofs.Math.ListN.{get_or-map}
use Rattle.ax_text.specs.declared.vocabulary.Kind.{Kind}
use Rattle.ax_text.specs.declared.vocabulary.Kind.TheVariants as kind
use Rattle.ax_text.specs.Cells.{Cell, Value, Items, Entries, kind_of, entries_in, pair_of}
use Rattle.ax_text.specs.Valid.{same_kind, has_kind}
use Rattle.ax_state.specs.declared.decls.Decl.{Decl}
use Rattle.ax_state.specs.Decls.{shown_states}
use Rattle.ax_state.specs.KeyCells.{shown_cells, cell_kinds}
use Rattle.ax_machine.specs.Entries.{Key}
use Rattle.ax_machine.specs.OutLines.{OutLine, Entry}
use Rattle.ax_machine.specs.Blocks.{entry_lines, cell_lines, state_lines}
use Rattle.ax_snapshot.specs.Snaps.{pair_lines}
use Rattle.ax_snapshot.specs.Added.{Put, Adds}
use Rattle.ax_snapshot.proofs.AddedLemmas.{GoesOn, goes_step}

pub pair_lines-map : (k : Key) (name : List ℕ) (es : List (ℤ × ℤ)) → pair_lines k name (map pair_of es) ≡ entry_lines k name es
pair_lines-map k name [] = refl
pair_lines-map k name (e ∷ es) = ap (λ ls. Entry k name e.0 e.1 ∷ ls) (pair_lines-map k name es)

same_is : (a b : Kind) → same_kind a b ≡ true → a ≡ b
same_is kind.Value kind.Value h = refl
same_is kind.List kind.List h = refl
same_is kind.Map kind.Map h = refl
same_is kind.Value kind.List h = absurd (false≢true h)
same_is kind.Value kind.Map h = absurd (false≢true h)
same_is kind.List kind.Value h = absurd (false≢true h)
same_is kind.List kind.Map h = absurd (false≢true h)
same_is kind.Map kind.Value h = absurd (false≢true h)
same_is kind.Map kind.List h = absurd (false≢true h)

-- a state of this kind holds what states of it hold
pub is_of_kind : (cells : List Cell) (s : ℕ) (k : Kind) → has_kind (cell_kinds cells) s k ≡ true → kind_of (shown_cells cells s) ≡ k
is_of_kind cells s k h =
    sym (get_or-map kind_of cells s (Value None)) ∙ same_is (get_or (cell_kinds cells) s kind.Value) k (and_parts (nat_lt s (length (cell_kinds cells))) (same_kind (get_or (cell_kinds cells) s kind.Value) k) h).1

map_kind : (k : Key) (name : List ℕ) (c : Cell) → kind_of c ≡ kind.Map → cell_lines k name c ≡ entry_lines k name (entries_in c)
map_kind k name (Value number) h = absurd (cc)
map_kind k name (Items items) h = absurd (cc)
map_kind k name (Entries entries) h = refl

pub lines_of_map : (k : Key) (name : List ℕ) (cells : List Cell) (s : ℕ) → has_kind (cell_kinds cells) s kind.Map ≡ true → pair_lines k name (map pair_of (entries_in (shown_cells cells s))) ≡ cell_lines k name (shown_cells cells s)
lines_of_map k name cells s h = pair_lines-map k name (entries_in (shown_cells cells s)) ∙ sym (map_kind k name (shown_cells cells s) (is_of_kind cells s kind.Map h))

-- one state on
pub states_step : (k : Key) (cells : List Cell) (decls : List Decl) (i n : ℕ) (d : Decl) (start now next : Put) (whole : List OutLine) → i < length decls → d ≡ get_or decls i d → n ≡ i
    → GoesOn start now whole (state_lines k i (shown_states (drop i decls)) (shown_cells cells)) → Adds now next (cell_lines k d.name (shown_cells cells n)) → GoesOn start next whole (state_lines k (i + 1) (shown_states (drop (i + 1) decls)) (shown_cells cells))
states_step k cells decls i n d start now next whole within read same g a =
    let lines : List OutLine = cell_lines k d.name (shown_cells cells i) in
    let rest : List OutLine = state_lines k (i + 1) (shown_states (drop (i + 1) decls)) (shown_cells cells) in
    let split : state_lines k i (shown_states (drop i decls)) (shown_cells cells) ≡ lines ++ rest = ap (λ ds. state_lines k i (shown_states ds) (shown_cells cells)) (drop_more decls i d within ∙ ap (λ x. x ∷ drop (i + 1) decls) (sym read)) in
    goes_step start now next whole lines rest (subst (λ ls. GoesOn start now whole ls) split g) (subst (λ j. Adds now next (cell_lines k d.name (shown_cells cells j))) same a)
