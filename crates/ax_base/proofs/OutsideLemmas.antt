-- What one call after another does to known bytes.
use Rattle.std.proofs.Math.Seq.{take-add}
use Rattle.std.proofs.Common.{◌≡◌, ℕ, ◌+◌, ◌<◌, ◌^◌, List, [], ◌++◌, take, drop, Option, Some, None, sym, ◌∙◌, ap, append_assoc, arith}
use Rattle.std.proofs.lemmas.List.{append-nil}
use Rattle.std.specs.Io.KnownBytes.{Appends, Keeps}
use Rattle.ax_base.specs.Outside.{Told, RoseByOne}

pub Appends-none : (a : Option (List ℕ)) → Appends a a []
Appends-none None = tt
Appends-none (Some xs) = sym (append-nil xs)

pub Appends-more : (a b c : Option (List ℕ)) (x y z : List ℕ) → Appends a b x → Appends b c y → x ++ y ≡ z → Appends a c z
Appends-more None b c x y z p q e = tt
Appends-more (Some xs) None c x y z p q e = absurd p
Appends-more (Some xs) (Some ys) None x y z p q e = absurd q
Appends-more (Some xs) (Some ys) (Some zs) x y z p q e = q ∙ ap (λ w. w ++ y) p ∙ append_assoc xs x y ∙ ap (λ w. xs ++ w) e

pub Appends-kept : (a b c : Option (List ℕ)) (x : List ℕ) → Appends a b x → Keeps b c → Appends a c x
Appends-kept None b c x p q = tt
Appends-kept (Some xs) None c x p q = absurd p
Appends-kept (Some xs) (Some ys) None x p q = absurd q
Appends-kept (Some xs) (Some ys) (Some zs) x p q = q ∙ p

-- the first m + n: the first m, and n of what is then left
pub take_next : {A : Type 0} (m n : ℕ) (l r : List A) → r ≡ drop m l → take m l ++ take n r ≡ take (m + n) l
take_next m n l r e = ap (λ s. take m l ++ take n s) e ∙ sym (take-add m n l)

-- facts of told bytes, one after another
pub Told-trans : {P Q R : List ℕ → List ℕ → Type 0} (l0 l1 l2 : Option (List ℕ)) → Told l0 l1 P → Told l1 l2 Q → ((a b c : List ℕ) → P a b → Q b c → R a c) → Told l0 l2 R
Told-trans None l1 l2 p q f = tt
Told-trans (Some a) None l2 p q f = absurd p
Told-trans (Some a) (Some b) None p q f = absurd q
Told-trans (Some a) (Some b) (Some c) p q f = f a b c p q

-- what follows of a fact of told bytes
pub Told-map : {P Q : List ℕ → List ℕ → Type 0} (l0 l1 : Option (List ℕ)) → Told l0 l1 P → ((a b : List ℕ) → P a b → Q a b) → Told l0 l1 Q
Told-map None l1 p f = tt
Told-map (Some a) None p f = absurd p
Told-map (Some a) (Some b) p f = f a b p
