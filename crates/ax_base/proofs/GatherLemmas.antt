-- Bytes that are gathered and handed on.
use Rattle.std.proofs.Common.{◌≡◌, ℕ, ◌+◌, ◌-◌, ◌≤◌, List, [], ◌++◌, length, take, drop, Option, Some, None, unwrap_or, refl, sym, ap, ◌∙◌, append_assoc, arith}
use Rattle.std.proofs.lemmas.List.{drop-take, drop-append-le, take-append-drop, length-take, take_at}
use Rattle.std.proofs.lemmas.Option.{none-some}
use Rattle.std.proofs.Math.Seq.{take-append-add}
use Rattle.std.specs.Io.KnownBytes.{Appends, append_known}
use Rattle.ax_base.specs.Outside.{AppendsSome}
use Rattle.ax_base.specs.Gathered.{Begins, Moves}
use Rattle.ax_base.proofs.OutsideLemmas.{Appends-more}

-- what is put behind bytes comes behind those that are not passed
pub gathered : (old new piece : List ℕ) (from to n : ℕ) → from ≤ to → to ≤ length old → take (to + n) new ≡ take to old ++ take n piece → take (to + n - from) (drop from new) ≡ take (to - from) (drop from old) ++ take n piece
gathered old new piece from to n h room put =
    sym (drop-take from (to + n - from) new)
    ∙ ap (λ k. drop from (take k new)) (omega arith)
    ∙ ap (drop from) put
    ∙ drop-append-le from (take to old) (take n piece) (omega (arith, length-take to old))
    ∙ ap (λ k. drop from (take k old) ++ take n piece) (omega arith)
    ∙ ap (λ s. s ++ take n piece) (drop-take from (to - from) old)

pub Moves-more : (a b c : Option (List ℕ)) (h h1 h2 piece : List ℕ) (n : ℕ) → Moves a b h h1 → Appends b c (take n piece) → piece ≡ h1 → h2 ≡ drop n h1 → Moves a c h h2
Moves-more a b c h h1 h2 piece n p q same e = (
  p.0 ++ take n piece,
  p.1 ∙ ap (λ s. p.0 ++ s) (sym (ap (λ s. take n s ++ h2) same ∙ ap (λ s. take n h1 ++ s) e ∙ take-append-drop n h1)) ∙ sym (append_assoc p.0 (take n piece) h2),
  Appends-more a b c p.0 (take n piece) (p.0 ++ take n piece) p.2 q refl,
)

-- what was known then is no longer than what begins with it
begins_within : (then a : List ℕ) → Begins (Some then) (Some a) → length then ≤ length a
begins_within then a p =
    omega (arith, length-take (length then) a, ap (λ o. length (unwrap_or o [])) p)

-- of bytes that a gathering sink took, the inner one holds some
pub Appends-begun : (then inner : Option (List ℕ)) (pending bytes : List ℕ) → Begins then inner → Appends then (append_known inner pending) bytes → AppendsSome then inner bytes
Appends-begun None inner pending bytes p q = (0, tt)
Appends-begun (Some then) None pending bytes p q = absurd (none-some then p)
Appends-begun (Some then) (Some a) pending bytes p q =
    let n = length a - length then in (
      n,
      sym (take_at a pending (length a) refl)
          ∙ ap (take (length a)) q
          ∙ ap (λ k. take k (then ++ bytes)) (omega (arith, begins_within then a p))
          ∙ take-append-add then bytes n,
    )
