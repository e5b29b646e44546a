-- Words, one byte after another.
use Rattle.std.proofs.Common.{◌≡◌, ℕ, ◌+◌, ◌<◌, true, List, [], ◌∷◌, ◌++◌, length, get_or, take, drop, sym, ap, ◌∙◌, cond}
use Rattle.std.proofs.lemmas.List.{at_drop_more}
use Rattle.ax_base.specs.Words.{is_space, words_from, words_of, before_words}

pub words_of-space : (b : ℕ) (bs : List ℕ) → is_space b ≡ true → words_of (b ∷ bs) ≡ words_of bs
words_of-space b bs e = ap (λ t. cond t (before_words [] (words_from [] bs)) (words_from (b ∷ []) bs)) e

pub words_from-space : (w : List ℕ) (b : ℕ) (bs : List ℕ) → is_space b ≡ true → words_from w (b ∷ bs) ≡ before_words w (words_of (b ∷ bs))
words_from-space w b bs e =
    ap (λ t. cond t (before_words w (words_from [] bs)) (words_from (w ++ b ∷ []) bs)) e
    ∙ sym (ap (before_words w) (words_of-space b bs e))

-- one space on
pub skipped : (xs : List ℕ) (i : ℕ) → i < length xs → is_space (get_or xs i 0) ≡ true → words_of (drop (i + 1) xs) ≡ words_of (drop i xs)
skipped xs i h e = sym (at_drop_more words_of xs i 0 h ∙ words_of-space (get_or xs i 0) (drop (i + 1) xs) e)

-- at a space
pub ended : (xs : List ℕ) (i : ℕ) → i < length xs → is_space (get_or xs i 0) ≡ true → words_from (take i xs) (drop i xs) ≡ before_words (take i xs) (words_of (drop i xs))
ended xs i h e =
    at_drop_more (words_from (take i xs)) xs i 0 h ∙ words_from-space (take i xs) (get_or xs i 0) (drop (i + 1) xs) e
    ∙ sym (at_drop_more (λ s. before_words (take i xs) (words_of s)) xs i 0 h)
