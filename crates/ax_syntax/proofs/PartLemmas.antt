-- Words before a comma, one after another.
use Rattle.std.proofs.Common.{◌≡◌, refl, sym, ap, ◌∙◌, ℕ, Bool, ◌+◌, ◌-◌, ◌<◌, ◌≤◌, true, false, cond, List, [], ◌∷◌, ◌++◌, length, get_or, take, drop, arith}
use Rattle.std.proofs.lemmas.List.{at_drop_more, take_more, take_rest, take_all}
use Rattle.std.proofs.Math.ListN.{drop_of_length-le}
use lib.Chars.{codes}
use Rattle.ax_syntax.specs.Words.{Word, same_word}
use Rattle.ax_syntax.specs.Shapes.{onto_first, parts_of}

-- words in front of the first part
abbrev pub onto_part : List Word → List (List Word) → List (List Word)
onto_part [] ps = ps
onto_part (w ∷ ws) ps = onto_first w (onto_part ws ps)

pub onto_part-last : (ws : List Word) (w : Word) (ps : List (List Word)) → onto_part (ws ++ w ∷ []) ps ≡ onto_part ws (onto_first w ps)
onto_part-last [] w ps = refl
onto_part-last (x ∷ ws) w ps = ap (onto_first x) (onto_part-last ws w ps)

pub onto_part-whole : (ws : List Word) (ps : List (List Word)) → onto_part ws ([] ∷ ps) ≡ ws ∷ ps
onto_part-whole [] ps = refl
onto_part-whole (x ∷ ws) ps = ap (onto_first x) (onto_part-whole ws ps)

pub parts_of-comma : (w : Word) (ws : List Word) → same_word w (codes ",") ≡ true → parts_of (w ∷ ws) ≡ [] ∷ parts_of ws
parts_of-comma w ws e = ap (λ t. cond t ([] ∷ parts_of ws) (onto_first w (parts_of ws))) e

pub parts_of-word : (w : Word) (ws : List Word) → same_word w (codes ",") ≡ false → parts_of (w ∷ ws) ≡ onto_first w (parts_of ws)
parts_of-word w ws e = ap (λ t. cond t ([] ∷ parts_of ws) (onto_first w (parts_of ws))) e

-- one word on
pub passed : (ws : List Word) (i : ℕ) → i < length ws → same_word (get_or ws i []) (codes ",") ≡ false → onto_part (take (i + 1) ws) (parts_of (drop (i + 1) ws)) ≡ onto_part (take i ws) (parts_of (drop i ws))
passed ws i h e =
    ap (λ t. onto_part t (parts_of (drop (i + 1) ws))) (take_more ws i [] h)
    ∙ onto_part-last (take i ws) (get_or ws i []) (parts_of (drop (i + 1) ws))
    ∙ sym (at_drop_more (λ s. onto_part (take i ws) (parts_of s)) ws i [] h ∙ ap (onto_part (take i ws)) (parts_of-word (get_or ws i []) (drop (i + 1) ws) e))

-- at a comma
pub parted : (ws : List Word) (i : ℕ) → i < length ws → same_word (get_or ws i []) (codes ",") ≡ true → onto_part (take i ws) (parts_of (drop i ws)) ≡ parts_of ws → parts_of ws ≡ take i ws ∷ parts_of (take (length ws - (i + 1)) (drop (i + 1) ws))
parted ws i h e same =
    sym same
    ∙ at_drop_more (λ s. onto_part (take i ws) (parts_of s)) ws i [] h
    ∙ ap (onto_part (take i ws)) (parts_of-comma (get_or ws i []) (drop (i + 1) ws) e)
    ∙ onto_part-whole (take i ws) (parts_of (drop (i + 1) ws))
    ∙ sym (ap (λ s. take i ws ∷ parts_of s) (take_rest ws (i + 1)))

-- no comma is left
pub single : (ws : List Word) (i : ℕ) → length ws ≤ i → onto_part (take i ws) (parts_of (drop i ws)) ≡ parts_of ws → parts_of ws ≡ ws ∷ []
single ws i h same =
    sym same
    ∙ ap (λ s. onto_part (take i ws) (parts_of s)) (drop_of_length-le ws h)
    ∙ onto_part-whole (take i ws) []
    ∙ ap (λ s. s ∷ []) (take_all i ws h)

pub length_some : (b : Bool) (w : Word) (ps : List (List Word)) → 1 ≤ length (cond b ([] ∷ ps) (onto_first w ps))
length_some true w ps = omega arith
length_some false w [] = omega arith
length_some false w (p ∷ ps) = omega arith

pub parts_of_some : (ws : List Word) → 1 ≤ length (parts_of ws)
parts_of_some [] = omega arith
parts_of_some (w ∷ ws) = length_some (same_word w (codes ",")) w (parts_of ws)
