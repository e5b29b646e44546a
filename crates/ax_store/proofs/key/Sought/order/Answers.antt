use Rattle.std.proofs.Common.{◌≡◌, ◌∙◌, ◌≤◌, ap₂, sym, length, rules}
use Rattle.ax_base.specs.Heads.{head_of}
use Rattle.ax_store.specs.Held.{bytes_cmp}
use Rattle.ax_store.proofs.TieLemmas.{tied}
use Rattle.ax_store.proofs.key.Sought.order.Goals as goal

pub returns-then-other-ge8 : goal.returns-then-other-ge8
returns-then-other-ge8 c =
    let a = c.self.inside.bytes.now in
    let b = c.other.inside.bytes.now in
    let same : head_of a ≡ head_of b = search rules in
    let long_a : 8 ≤ length a = search rules in
    let long_b : 8 ≤ length b = search rules in
    c.cmp_by_heads.ensures ∙ ap₂ bytes_cmp c.behind.ensures c.behind-then-other-ge8.ensures
    ∙ sym (tied a b c.note_bytes.ensures c.note_bytes-2.ensures long_a long_b same)
    ∙ ap₂ bytes_cmp c.self.view_is c.other.view_is
