-- The pairs of a map's entries rise as these do.
use Rattle.std.proofs.Common.{◌≡◌, sym, ap, subst, ◌∙◌, ℤ, List, [], ◌∷◌, ◌++◌, map, refl}
use Rattle.std.specs.List.Sorted.{IsStrictlySortedBy}
use Rattle.std.specs.Map.{keys_of}
use Rattle.std.specs.Ordering.{int_cmp}
use Rattle.std.proofs.lemmas.List.{append-nil}
use Rattle.ax_base.specs.declared.lists.Pair.{Pair}
use Rattle.ax_text.specs.Cells.{pair_of}
use Rattle.ax_text.specs.Rising.{IsRising}

-- entries as pairs, by the same keys
places : (es : List (ℤ × ℤ)) → map (λ (p : Pair). p.at) (map pair_of es) ≡ keys_of es
places [] = refl
places (e ∷ es) = ap (λ ks. e.0 ∷ ks) (places es)

-- pairs that are entries rise as these do
pub pairs_rise : (ps : List Pair) (left es : List (ℤ × ℤ)) → ps ++ map pair_of left ≡ map pair_of es → left ≡ [] → IsRising es → IsStrictlySortedBy int_cmp (map (λ (p : Pair). p.at) ps)
pairs_rise ps left es same none s =
    let all : ps ≡ map pair_of es = sym (append-nil ps) ∙ sym (ap (λ (xs : List (ℤ × ℤ)). ps ++ map pair_of xs) none) ∙ same in
    subst (λ (xs : List Pair). IsStrictlySortedBy int_cmp (map (λ (p : Pair). p.at) xs)) (sym all) (subst (IsStrictlySortedBy int_cmp) (sym (places es)) s)

pub no_pairs : (ps : List Pair) → ps ≡ [] → IsStrictlySortedBy int_cmp (map (λ (p : Pair). p.at) ps)
unfolding IsStrictlySortedBy
no_pairs ps e = subst (λ (xs : List Pair). IsStrictlySortedBy int_cmp (map (λ (p : Pair). p.at) xs)) (sym e) tt
