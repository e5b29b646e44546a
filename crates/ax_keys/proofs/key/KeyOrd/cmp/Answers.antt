use Rattle.std.proofs.Common.{rules, ◌≡◌, ◌<◌, List, ℕ, sym, subst, arith}
use Rattle.std.specs.Ordering.{nat_cmp}
use Rattle.std.specs.declared.cmp.Ordering.TheVariants.{Less, Greater}
use Rattle.std.specs.Cmp.Lexicographic.{slice_cmp}
use Rattle.ax_base.specs.Heads.{head_of, AreBytes}
use Rattle.ax_base.proofs.HeadLemmas.{head_less, head_greater}
use Rattle.ax_keys.proofs.KeyLemmas.{key_bytes}
use Rattle.ax_keys.proofs.key.KeyOrd.cmp.Goals as goal

pub returns-then-self-other : goal.returns-then-self-other
returns-then-self-other c =
    let a : List ℕ = c.self.inside.bytes in
    let b : List ℕ = c.other.inside.bytes in
    let of_a : c.self.inside.head ≡ head_of a = c.self.invariant.1 in
    let of_b : c.other.inside.head ≡ head_of b = c.other.invariant.1 in
    let small : AreBytes a = key_bytes a c.self.invariant.0 in
    let fits : AreBytes b = key_bytes b c.other.invariant.0 in
    let less : c.self.inside.head < c.other.inside.head = search rules in
    subst (λ x. Less ≡ slice_cmp nat_cmp x c.args.other.now) c.self.view_is (subst (λ y. Less ≡ slice_cmp nat_cmp a y) c.other.view_is
    (sym (head_less a b small fits (omega arith))))

pub returns-then-other-self : goal.returns-then-other-self
returns-then-other-self c =
    let a : List ℕ = c.self.inside.bytes in
    let b : List ℕ = c.other.inside.bytes in
    let of_a : c.self.inside.head ≡ head_of a = c.self.invariant.1 in
    let of_b : c.other.inside.head ≡ head_of b = c.other.invariant.1 in
    let small : AreBytes a = key_bytes a c.self.invariant.0 in
    let fits : AreBytes b = key_bytes b c.other.invariant.0 in
    let more : c.other.inside.head < c.self.inside.head = search rules in
    subst (λ x. Greater ≡ slice_cmp nat_cmp x c.args.other.now) c.self.view_is (subst (λ y. Greater ≡ slice_cmp nat_cmp a y) c.other.view_is
    (sym (head_greater a b small fits (omega arith))))
