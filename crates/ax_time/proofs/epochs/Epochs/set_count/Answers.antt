use Rattle.std.proofs.Common.{◌≡◌, ◌<◌, ◌≤◌, length, sym, ap, subst, ◌∙◌, arith}
use Rattle.std.proofs.lemmas.Grind.{common_steps}
use Rattle.ax_time.proofs.EpochLemmas.{with_count-current, with_count-closed}
use Rattle.ax_time.specs.Epochs.{Book, place_of, with_count}
use Rattle.ax_time.proofs.epochs.Epochs.set_count.Goals as goal

pub returns-then-place-len : goal.returns-then-place-len
returns-then-place-len c =
    let shown : Book = record { oldest = c.self.inside.oldest; closed = c.self.inside.closed.items; count = c.self.inside.count } in
    let is : shown ≡ c.args.self.now = c.self.view_is in
    let at_end : place_of shown c.args.epoch ≡ length shown.closed = ap (λ b. place_of b c.args.epoch) is ∙ sym c.place-place.ensures ∙ c.if-place-len.true ∙ c.len.ensures ∙ grind (arith, common_steps) in
    with_count-current shown c.args.epoch c.args.count at_end ∙ ap (λ b. with_count b c.args.epoch c.args.count) is

pub returns-else-place-len : goal.returns-else-place-len
returns-else-place-len c =
    let epoch = c.args.epoch in
    let place = c.place-place.result in
    let shown : Book = record { oldest = c.self.inside.oldest; closed = c.self.inside.closed.items; count = c.self.inside.count } in
    let is : shown ≡ c.args.self.now = c.self.view_is in
    let there : place ≡ place_of shown epoch = c.place-place.ensures ∙ sym (ap (λ b. place_of b epoch) is) in
    let still_open : place_of shown epoch ≤ length shown.closed = subst (λ b. place_of b epoch ≤ length b.closed) (sym is) c.requires.open in
    let closed : place < length shown.closed = grind (arith, common_steps, there, still_open, c.if-place-len.false, c.len.ensures) in
    ap (λ cs. record { oldest = shown.oldest; closed = cs; count = shown.count }) c.put_count.ensures
    ∙ with_count-closed shown epoch c.args.count place there closed
    ∙ ap (λ b. with_count b epoch c.args.count) is
