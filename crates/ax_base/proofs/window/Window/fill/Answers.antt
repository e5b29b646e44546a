use Rattle.std.proofs.Common.{◌≡◌, ℕ, ◌+◌, ◌-◌, ◌∙◌, ap, sym, subst, List, take, drop, length, arith}
use Rattle.std.specs.Io.KnownBytes.{Consumes}
use Rattle.std.proofs.lemmas.List.{with_items_is, length-take, length-drop}
use Rattle.ax_base.proofs.WindowLemmas.{came}
use Rattle.ax_base.proofs.window.Window.fill.Goals as goal

pub returns-clause-taken : goal.returns-clause-taken
returns-clause-taken g c =
    let w = c.self.inside in
    let held = w.to - w.from in
    let v = c.args.self.now in
    let n = c.in_ok-n.n in
    let long : length v ≡ held = omega (arith, length-take held (drop w.from w.bytes.items), length-drop w.from w.bytes.items, ap length c.self.view_is) in
    let same = with_items_is w.bytes c.refill.new.bytes (omega (arith, w.bytes.ok.0)) in
    let P : List ℕ → Type 0 = λ s. Consumes (g.S.Source.left c.args.input.now) (g.S.Source.left c.refill.new.input) s in
    subst P (sym (ap (λ ys. drop (length v) (take (held + n - 0) (drop 0 ys))) same ∙ came c.refill.new.bytes v held n long)) c.in_ok-n.ensures.taken
