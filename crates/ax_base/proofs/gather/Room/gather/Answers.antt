use Rattle.std.proofs.Common.{◌≡◌, ◌≤◌, ℕ, ◌+◌, ◌-◌, ◌∙◌, ap, List, ◌++◌, length, take, drop, arith, sym, vec_len}
use Rattle.std.proofs.lemmas.List.{with_items_is}
use Rattle.ax_base.proofs.GatherLemmas.{gathered}
use Rattle.ax_base.proofs.gather.Room.gather.Goals as goal
use Rattle.ax_base.proofs.gather.Room.gather.Goals.{then-self, else-self}

-- where nothing lies between two places, nothing lies at the front
nothing : (xs held : List ℕ) (from to : ℕ) → from ≡ to → take (to - from) (drop from xs) ≡ held → take (0 - 0) (drop 0 xs) ≡ held
nothing xs held from to e h =
    let none : to - from ≡ 0 = omega (arith, e) in
    sym (ap (λ k. take k (drop from xs)) none) ∙ h

pub returns-clause-held : goal.returns-clause-held
returns-clause-held c =
    let r = c.if-self.self-inside in
    let n = c.put-n.result in
    let piece = c.args.piece.now in
    let same = with_items_is r.bytes c.put-n.new.bytes (omega (arith, r.bytes.ok.0)) in
    let before : take (r.to - r.from) (drop r.from r.bytes.items) ≡ c.args.self.now =
    elim c.if-self.branch [
      | then-self w ↦ ap (λ v. take (v.to - v.from) (drop v.from v.bytes.items)) w.self-inside-is ∙ nothing c.self.inside.bytes.items c.args.self.now c.self.inside.from c.self.inside.to (omega arith) c.self.view_is
      | else-self w ↦ ap (λ v. take (v.to - v.from) (drop v.from v.bytes.items)) w.self-inside-is ∙ c.self.view_is
    ] in
    let ordered : r.from ≤ r.to =
    elim c.if-self.branch [
      | then-self w ↦ omega (arith, ap (λ v. v.from) w.self-inside-is)
      | else-self w ↦ omega (arith, ap (λ v. v.from) w.self-inside-is, ap (λ v. v.to) w.self-inside-is)
    ] in
    let within : r.to ≤ length r.bytes.items =
    elim c.if-self.branch [
      | then-self w ↦ omega (arith, ap (λ v. v.to) w.self-inside-is)
      | else-self w ↦ omega (arith, r.bytes.ok.0, ap (λ v. v.to) w.self-inside-is, ap (λ v. vec_len v.bytes) w.self-inside-is)
    ] in
    ap (λ xs. take (r.to + n - r.from) (drop r.from xs)) same
    ∙ gathered r.bytes.items c.put-n.new.bytes piece r.from r.to n ordered within (c.put-n.ensures.put ∙ ap (λ s. take r.to s ++ take n piece) c.deref_mut.ensures.value)
    ∙ ap (λ s. s ++ take n piece) before
