-- The lines of the keys.
use denote.Ref.{Bor}
use Rattle.std.proofs.Common.{◌≡◌, refl, sym, ap, subst, ◌∙◌, ℕ, ℤ, arith, List, [], ◌∷◌, ◌++◌, map, length, append_assoc}
use Rattle.std.specs.List.{All, AllByRecursion, Contains}
use Rattle.std.specs.Map.{values_of}
use Rattle.ax_machine.proofs.TextLemmas.{lines_text-append}
use Rattle.ax_text.specs.declared.vocabulary.Kind.{Kind}
use Rattle.ax_text.specs.Programs.{State}
use Rattle.ax_state.specs.KeyCells.{cell_kinds}
use Rattle.ax_machine.specs.OutLines.{OutLine, Head, End, spelled, lines_text}
use Rattle.ax_machine.specs.Blocks.{placed, part_lines, inner_lines, framed, block_text}
use Rattle.ax_snapshot.specs.Snaps.{shown_part}
use Rattle.ax_snapshot.specs.Places.{placing}
use Rattle.ax_snapshot.specs.declared.snapshot.KeySnap.{KeySnap}
use Rattle.ax_snapshot.specs.Added.{Put, Adds}
use Rattle.ax_snapshot.proofs.AddedLemmas.{GoesOn, goes_step, goes_end}
use Rattle.ax_snapshot.proofs.PlaceLemmas.{Placing}
use Rattle.std.proofs.lemmas.List.{append-nil}

-- the lines of some keys
abbrev pub snap_lines : List State → List (Bor KeySnap) → List OutLine
snap_lines states [] = []
snap_lines states (s ∷ ss) = part_lines states (shown_part s.now) ++ snap_lines states ss

-- the places of the keys make no line
pub lines_of_values : (states : List State) (es : List Placing) → inner_lines states (map placing es) ≡ snap_lines states (values_of es)
lines_of_values states [] = refl
lines_of_values states (e ∷ es) = ap (λ t. part_lines states (shown_part e.1.now) ++ t) (lines_of_values states es)

-- what holds of each key holds of those that are among them
pub fits_among : (kinds : List Kind) (keys : List KeySnap) (snaps : List (Bor KeySnap)) → All (λ k. cell_kinds k.cells ≡ kinds) keys
    → AllByRecursion (λ s. Contains keys s.now) snaps → AllByRecursion (λ s. cell_kinds s.now.cells ≡ kinds) snaps
fits_among kinds keys [] fits among = tt
fits_among kinds keys (s ∷ ss) fits among =
    (ap (λ k. cell_kinds k.cells) (sym among.0.2) ∙ fits among.0.0 s.now among.0.1, fits_among kinds keys ss fits among.1)

-- one key on
pub keys_step : (states : List State) (start now next : Put) (whole : List OutLine) (left rest : List (Bor KeySnap)) (s : Bor KeySnap) → left ≡ s ∷ rest
    → GoesOn start now whole (snap_lines states left) → Adds now next (part_lines states (shown_part s.now)) → GoesOn start next whole (snap_lines states rest)
keys_step states start now next whole left rest s e g a =
    let On : List OutLine → Type 0 = λ ls. GoesOn start now whole ls in
    goes_step start now next whole (part_lines states (shown_part s.now)) (snap_lines states rest) (subst On (ap (snap_lines states) e) g) a

pub rest_fits : (P : Bor KeySnap → Type 0) (left rest : List (Bor KeySnap)) (s : Bor KeySnap) → left ≡ s ∷ rest → AllByRecursion P left → AllByRecursion P rest
rest_fits P left rest s e all = let both : AllByRecursion P (s ∷ rest) = subst (AllByRecursion P) e all in both.1

-- all keys
pub keys_end : (states : List State) (start now : Put) (es : List Placing) (left : List (Bor KeySnap)) → left ≡ []
    → GoesOn start now (snap_lines states (values_of es)) (snap_lines states left) → Adds start now (inner_lines states (map placing es))
keys_end states start now es left e g =
    let whole = snap_lines states (values_of es) in
    let On : List OutLine → Type 0 = λ ls. GoesOn start now whole ls in
    let All : List OutLine → Type 0 = λ ls. Adds start now ls in
    subst All (sym (lines_of_values states es)) (goes_end start now whole (subst On (ap (snap_lines states) e) g))

-- the lines between head and end, and their number
pub framed_text : (id wm : ℤ) (lines : List OutLine) (head all : Put) (bytes : List ℕ) → head.text ≡ spelled (Head id wm) → head.count ≡ 0 → Adds head all lines
    → bytes ≡ all.text ++ spelled (End id all.count) → bytes ≡ lines_text (framed id wm lines)
framed_text id wm lines head all bytes begun none a ended =
    let counted = a.count in
    let number : all.count ≡ length lines = omega arith in
    let last = spelled (End id (length lines)) in
    ended
    ∙ ap (λ n. all.text ++ spelled (End id n)) number
    ∙ ap (λ t. t ++ last) (a.text ∙ ap (λ t. t ++ lines_text lines) begun)
    ∙ append_assoc (spelled (Head id wm)) (lines_text lines) last
    ∙ ap (λ t. spelled (Head id wm) ++ t) (ap (λ t. lines_text lines ++ t) (sym (append-nil last)) ∙ sym (lines_text-append lines (End id (length lines) ∷ [])))

-- a whole block
pub whole_block : (m : ℕ) (states : List State) (id wm : ℤ) (keys : List KeySnap) (es : List Placing) (head all : Put) (bytes : List ℕ) → map placing es ≡ placed m (map shown_part keys)
    → head.text ≡ spelled (Head id wm) → head.count ≡ 0 → Adds head all (inner_lines states (map placing es))
    → bytes ≡ all.text ++ spelled (End id all.count) → bytes ≡ block_text m states id wm (map shown_part keys)
whole_block m states id wm keys es head all bytes order begun none a ended =
    framed_text id wm (inner_lines states (map placing es)) head all bytes begun none a ended
    ∙ ap (λ ps. lines_text (framed id wm (inner_lines states ps))) order
