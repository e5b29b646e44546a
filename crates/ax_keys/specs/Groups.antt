-- Groups of keys. The mixing and the ranges are written after Flink's MathUtils.murmurHash and
-- KeyGroupRangeAssignment; the function from bytes to 32 bits is this project's own.
use Rattle.std.specs.Prelude.{◌≡◌, ℕ, ◌+◌, ◌-◌, ◌*◌, ◌/◌, ◌%◌, ◌^◌, ◌<◌, ◌≤◌, ◌==◌, List, [], ◌∷◌, bit_xor, unsigned_abs, if◌then◌else◌}
use Rattle.std.specs.Int.{w32, rotate_left, cast_signed}

-- a sum and a product on 32 wrapping bits
abbrev pub plus : ℕ → ℕ → ℕ
plus x y = (x + y) % 2 ^ 32

abbrev pub times : ℕ → ℕ → ℕ
times x y = (x * y) % 2 ^ 32

-- the hash of bytes that follow bytes of hash h
abbrev pub hash_from : ℕ → List ℕ → ℕ
hash_from h [] = h
hash_from h (b ∷ bs) = hash_from (plus (times 31 h) b) bs

abbrev pub hash_of : List ℕ → ℕ
hash_of bytes = hash_from 0 bytes

-- a number with itself, n bits lower, laid over it
abbrev pub folded : ℕ → ℕ → ℕ
folded n x = bit_xor x (x / 2 ^ n)

-- the mixing in three steps: the hash as a word, the length of the word in bytes, the last mixing
abbrev pub word_step : ℕ → ℕ
word_step h = rotate_left w32 (times (rotate_left w32 (times h 0xcc9e2d51) 15) 0x1b873593) 13

abbrev pub length_step : ℕ → ℕ
length_step x = bit_xor (plus (times x 5) 0xe6546b64) 4

abbrev pub last_step : ℕ → ℕ
last_step x = folded 16 (times (folded 13 (times (folded 16 x) 0x85ebca6b)) 0xc2b2ae35)

-- the absolute value of 32 bits as a signed number, 0 for the least of them
abbrev pub magnitude : ℕ → ℕ
magnitude x = if x == 2 ^ 31 then 0 else unsigned_abs (cast_signed w32 x)

abbrev pub spread : ℕ → ℕ
spread h = magnitude (last_step (length_step (word_step h)))

-- the group of a key's bytes, of m groups
abbrev pub group : List ℕ → ℕ → ℕ
group bytes m = spread (hash_of bytes) % m

-- the part of group g, where m groups are cut into p parts
abbrev pub index_of_group : ℕ → ℕ → ℕ → ℕ
index_of_group g m p = g * p / m

-- the first and the last group of part i
abbrev pub first_of_index : ℕ → ℕ → ℕ → ℕ
first_of_index i m p = (i * m + p - 1) / p

abbrev pub last_of_index : ℕ → ℕ → ℕ → ℕ
last_of_index i m p = ((i + 1) * m - 1) / p

-- there may be so many groups
abbrev pub IsMaximum : ℕ → Type 0
IsMaximum m = (1 ≤ m) × (m ≤ 32768)

-- m groups may be cut into p parts
abbrev pub MayCut : ℕ → ℕ → Type 0
MayCut m p = IsMaximum m × (1 ≤ p) × (p ≤ m)

-- group g is one of those of part i
abbrev pub IsInRange : ℕ → ℕ → ℕ → ℕ → Type 0
IsInRange g i m p = (first_of_index i m p ≤ g) × (g ≤ last_of_index i m p)

-- a group is in the range of its own part
abbrev pub HasOwnRange : ℕ → ℕ → ℕ → Type 0
HasOwnRange g m p = MayCut m p → g < m → (index_of_group g m p < p) × IsInRange g (index_of_group g m p) m p

-- the first range begins at the first group, and the last ends at the last one
abbrev pub AreWhole : ℕ → ℕ → Type 0
AreWhole m p = MayCut m p → (first_of_index 0 m p ≡ 0) × (last_of_index (p - 1) m p ≡ m - 1)

-- a range has a group, and the next range begins one behind it
abbrev pub IsFollowed : ℕ → ℕ → ℕ → Type 0
IsFollowed i m p = MayCut m p → i < p → (first_of_index i m p ≤ last_of_index i m p) × (first_of_index (i + 1) m p ≡ last_of_index i m p + 1)

-- a group is in the range of its own part alone
abbrev pub HasNoOther : ℕ → ℕ → ℕ → ℕ → Type 0
HasNoOther g i m p = MayCut m p → g < m → i < p → IsInRange g i m p → i ≡ index_of_group g m p
