-- The states of one key, as a list of cells and as a function.
use Rattle.std.proofs.Common.{◌≡◌, ℕ, cond, subst, ◌<◌, ◌⊎◌, inl, inr, List, [], ◌∷◌, map, length, Bool, true, false, nat_eq, nat_lt, None, All, get_or, refl, sym, ap, ap₂, ◌∙◌, arith, slice_set, zero, suc}
use Rattle.std.proofs.lemmas.Bool.{eqb-true, eqb-false, ltb-true, and_parts}
use Rattle.std.proofs.lemmas.List.{get_or-set_same, get_or-set_other, length-map, map-set}
use Rattle.std.proofs.lemmas.List as lemma
use Rattle.std.proofs.lemmas.List.Elements.{All-map}
use Rattle.std.proofs.Math.Seq.{map-set_same}
use mathlib.Core.Path.{fun_ext}
use Rattle.std.proofs.Math.ListN.{get_or-map}
use Rattle.ax_text.specs.declared.vocabulary.Kind.{Kind}
use Rattle.ax_text.specs.declared.vocabulary.Kind.TheVariants as kind
use Rattle.ax_text.specs.declared.vocabulary.Request.{Request}
use Rattle.ax_text.specs.Functions.{upd}
use Rattle.ax_text.specs.Cells.{Cell, Value, kind_of, empty_cell, entries_in, cells_after, cell_after, state_of, serves}
use Rattle.ax_text.specs.Programs.{untouched}
use Rattle.ax_text.specs.Rising.{IsRising, MapsRise}
use Rattle.ax_text.proofs.RisingKept.{untouched_rise, requests_keep}
use Rattle.ax_state.specs.declared.cells.Held.{Held}
use Rattle.ax_state.specs.Held.{shown_cell}
use Rattle.ax_state.specs.Fits.{fits_in}
use Rattle.ax_state.specs.KeyCells.{shown_cells, cell_kinds, IsEmptyCell}

-- what a request leaves, as one function where it agrees at each state
pub cells_are : (r : Request) (old new : List Cell) → ((s : ℕ) → shown_cells new s ≡ cells_after r (shown_cells old) s) → shown_cells new ≡ cells_after r (shown_cells old)
cells_are r old new f = fun_ext f

pub kind_of-empty : (k : Kind) → kind_of (empty_cell k) ≡ k
kind_of-empty kind.Value = refl
kind_of-empty kind.List = refl
kind_of-empty kind.Map = refl

is_empty : (k : Kind) → IsEmptyCell (empty_cell k)
is_empty kind.Value = refl
is_empty kind.List = refl
is_empty kind.Map = refl

pub cell_kinds-empty : (ks : List Kind) → cell_kinds (map empty_cell ks) ≡ ks
cell_kinds-empty [] = refl
cell_kinds-empty (k ∷ ks) = ap₂ (λ x xs. x ∷ xs) (kind_of-empty k) (cell_kinds-empty ks)

pub all_empty : (ks : List Kind) → All IsEmptyCell (map empty_cell ks)
all_empty ks = All-map IsEmptyCell empty_cell ks (λ k d h. is_empty (get_or ks k d))

pub shown_cells-empty : (ks : List Kind) (s : ℕ) → shown_cells (map empty_cell ks) s ≡ untouched ks s
shown_cells-empty ks s = get_or-map empty_cell ks s kind.Value

-- a state that serves a request is there, and holds what serves it
pub is_there : (cells : List Cell) (r : Request) → fits_in (cell_kinds cells) r ≡ true → state_of r < length cells
is_there cells r h =
    omega (arith, length-map cells kind_of, ltb-true (state_of r) (length (cell_kinds cells)) (and_parts (nat_lt (state_of r) (length (cell_kinds cells))) (serves (get_or (cell_kinds cells) (state_of r) kind.Value) r) h).0)

pub serves_it : (cells : List Cell) (r : Request) → fits_in (cell_kinds cells) r ≡ true → serves (kind_of (get_or cells (state_of r) (Value None))) r ≡ true
serves_it cells r h =
    ap (λ (k : Kind). serves k r) (sym (get_or-map kind_of cells (state_of r) (Value None)))
    ∙ (and_parts (nat_lt (state_of r) (length (cell_kinds cells))) (serves (get_or (cell_kinds cells) (state_of r) kind.Value) r) h).1

-- another cell at one place
pub shown_cells-set : (cells : List Cell) (i : ℕ) (c : Cell) → i < length cells → (s : ℕ) → shown_cells (slice_set cells i c) s ≡ upd (shown_cells cells) i c s
shown_cells-set cells i c h s = by_place (nat_eq i s) refl where
  by_place : (b : Bool) → nat_eq i s ≡ b → get_or (slice_set cells i c) s (Value None) ≡ cond b c (get_or cells s (Value None))
  by_place true e = ap (λ j. get_or (slice_set cells i c) j (Value None)) (sym (eqb-true i s e)) ∙ get_or-set_same cells i c (Value None) h
  by_place false e = get_or-set_other cells i s c (Value None) (λ f. eqb-false i s e (sym f))

-- a cell of the same kind leaves the kinds
pub cell_kinds-set : (cells : List Cell) (i : ℕ) (c : Cell) → kind_of c ≡ kind_of (get_or cells i (Value None)) → cell_kinds (slice_set cells i c) ≡ cell_kinds cells
cell_kinds-set cells i c h = map-set_same kind_of cells i c (Value None) h

-- what the code holds, with another state at one place
pub set_held : (hs : List Held) (cells : List Cell) (i : ℕ) (h : Held) → map shown_cell hs ≡ cells → map shown_cell (slice_set hs i h) ≡ slice_set cells i (shown_cell h)
set_held hs cells i h e = map-set shown_cell hs i h ∙ ap (λ xs. slice_set xs i (shown_cell h)) e

-- that all states are empty, of the cells and of what the code holds
pub empty_held : (hs : List Held) (cells : List Cell) → map shown_cell hs ≡ cells → All (λ h. IsEmptyCell (shown_cell h)) hs → All IsEmptyCell cells
empty_held hs cells e a = subst (All IsEmptyCell) e (All-map IsEmptyCell shown_cell hs a)

pub held_empty : (hs : List Held) (cells : List Cell) → map shown_cell hs ≡ cells → All IsEmptyCell cells → All (λ h. IsEmptyCell (shown_cell h)) hs
held_empty hs cells e a k d h =
    let all : All IsEmptyCell (map shown_cell hs) = subst (All IsEmptyCell) (sym e) a in
    subst IsEmptyCell (lemma.get_or-map shown_cell hs k d (Value None) h) (all k (Value None) (omega (arith, length-map hs shown_cell)))

-- one state is served
pub served_cells : (hs : List Held) (cells : List Cell) (r : Request) (h : Held) → map shown_cell hs ≡ cells → fits_in (cell_kinds cells) r ≡ true → shown_cell h ≡ cell_after r (shown_cells cells (state_of r))
    → (s : ℕ) → shown_cells (map shown_cell (slice_set hs (state_of r) h)) s ≡ cells_after r (shown_cells cells) s
served_cells hs cells r h e f a s =
    ap (λ (xs : List Cell). shown_cells xs s) (set_held hs cells (state_of r) h e)
    ∙ shown_cells-set cells (state_of r) (shown_cell h) (is_there cells r f) s
    ∙ ap (λ (c : Cell). upd (shown_cells cells) (state_of r) c s) a

pub served_kinds : (hs : List Held) (cells : List Cell) (i : ℕ) (h : Held) → map shown_cell hs ≡ cells → kind_of (shown_cell h) ≡ kind_of (shown_cells cells i)
    → cell_kinds (map shown_cell (slice_set hs i h)) ≡ cell_kinds cells
served_kinds hs cells i h e a = ap cell_kinds (set_held hs cells i h e) ∙ cell_kinds-set cells i (shown_cell h) a

-- what is set again is as before
set_again : (cells : List Cell) (i : ℕ) (c d : Cell) → i < length cells → c ≡ get_or cells i d → slice_set cells i c ≡ cells
set_again [] i c d h e = absurd (omega arith)
set_again (x ∷ xs) zero c d h e = ap (λ (y : Cell). y ∷ xs) e
set_again (x ∷ xs) (suc i) c d h e = ap (λ (ys : List Cell). x ∷ ys) (set_again xs i c d (omega arith) e)

pub kept_cells : (hs : List Held) (cells : List Cell) (r : Request) (h : Held) → map shown_cell hs ≡ cells → fits_in (cell_kinds cells) r ≡ true → shown_cell h ≡ shown_cells cells (state_of r)
    → map shown_cell (slice_set hs (state_of r) h) ≡ cells
kept_cells hs cells r h e f a = set_held hs cells (state_of r) h e ∙ set_again cells (state_of r) (shown_cell h) (Value None) (is_there cells r f) a

pub held_at : (hs : List Held) (cells : List Cell) (i : ℕ) (d : Held) → map shown_cell hs ≡ cells → i < length cells → shown_cell (get_or hs i d) ≡ shown_cells cells i
held_at hs cells i d e h =
    let low : i < length hs = omega (arith, length-map hs shown_cell, ap (λ (xs : List Cell). length xs) e) in
    sym (lemma.get_or-map shown_cell hs i d (Value None) low) ∙ ap (λ (xs : List Cell). get_or xs i (Value None)) e

-- maps rise behind one request, or where nothing changed
pub served_rise : (hs : List Held) (cells : List Cell) (r : Request) (h : Held) (i : ℕ) → i ≡ state_of r → map shown_cell hs ≡ cells → fits_in (cell_kinds cells) r ≡ true
    → (shown_cell h ≡ cell_after r (shown_cells cells (state_of r))) ⊎ (shown_cell h ≡ shown_cells cells (state_of r)) → MapsRise (shown_cells (map shown_cell hs)) → MapsRise (shown_cells (map shown_cell (slice_set hs i h)))
served_rise hs cells r h i n e f (inl a) rise s =
    let before : MapsRise (shown_cells cells) = subst (λ (xs : List Cell). MapsRise (shown_cells xs)) e rise in
    subst (λ (j : ℕ). IsRising (entries_in (shown_cells (map shown_cell (slice_set hs j h)) s))) (sym n)
    (subst (λ (c : Cell). IsRising (entries_in c)) (sym (served_cells hs cells r h e f a s)) (requests_keep r (shown_cells cells) before s))
served_rise hs cells r h i n e f (inr a) rise s =
    subst (λ (j : ℕ). IsRising (entries_in (shown_cells (map shown_cell (slice_set hs j h)) s))) (sym n)
    (subst (λ (xs : List Cell). IsRising (entries_in (shown_cells xs s))) (e ∙ sym (kept_cells hs cells r h e f a)) (rise s))

pub empty_rise : (cells : List Cell) (ks : List Kind) → cells ≡ map empty_cell ks → MapsRise (shown_cells cells)
empty_rise cells ks e s = subst (λ (c : Cell). IsRising (entries_in c)) (sym (ap (λ (xs : List Cell). shown_cells xs s) e ∙ shown_cells-empty ks s)) (untouched_rise ks s)
