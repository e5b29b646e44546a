-- The first bytes of a text as one number.
use Rattle.std.specs.Prelude.{ℕ, ◌+◌, ◌*◌, ◌<◌, zero, suc, List, [], ◌∷◌, EachIndex, slice_index}

-- a number with the next n bytes behind it; a byte that lacks counts 0
abbrev pub head_from : ℕ → ℕ → List ℕ → ℕ
head_from h zero bytes = h
head_from h (suc n) [] = head_from (256 * h) n []
head_from h (suc n) (b ∷ bytes) = head_from (256 * h + b) n bytes

-- the first eight bytes as one number, the first counting most
abbrev pub head_of : List ℕ → ℕ
head_of bytes = head_from 0 8 bytes

-- each is below 256
abbrev pub AreBytes : List ℕ → Type 0
AreBytes bytes = EachIndex bytes (λ k. slice_index bytes k < 256)
