-- The bytes of keys.
use Rattle.std.proofs.Common.{◌≡◌, ℕ, ◌<◌, ◌≤◌, zero, suc, Bool, true, false, ◌&&◌, nat_le, List, [], ◌∷◌, length, refl, arith}
use Rattle.std.specs.List.{list_all, slice_index}
use Rattle.std.proofs.lemmas.Bool.{leb-true}
use Rattle.ax_base.specs.Heads.{AreBytes}
use Rattle.ax_keys.specs.Keys.{is_key, is_key_byte}

and_first : (a b : Bool) → (a && b) ≡ true → a ≡ true
and_first true b h = refl
and_first false b h = absurd (cc h)

and_rest : (a b : Bool) → (a && b) ≡ true → b ≡ true
and_rest true b h = h
and_rest false b h = absurd (cc h)

small : (w : List ℕ) → list_all is_key_byte w ≡ true → (k : ℕ) → k < length w → slice_index w k < 256
small [] h k below = absurd (omega arith)
small (b ∷ bs) h zero below =
    let most : b ≤ 126 = leb-true b 126 (and_rest (nat_le 33 b) (nat_le b 126) (and_first (is_key_byte b) (list_all is_key_byte bs) h)) in
    omega arith
small (b ∷ bs) h (suc k) below = small bs (and_rest (is_key_byte b) (list_all is_key_byte bs) h) k (omega arith)

-- each byte of a key is below 256
pub key_bytes : (w : List ℕ) → is_key w ≡ true → AreBytes w
key_bytes w h = small w (and_rest (nat_le 1 (length w) && nat_le (length w) 256) (list_all is_key_byte w) h)
