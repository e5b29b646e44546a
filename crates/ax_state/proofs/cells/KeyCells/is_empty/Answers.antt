use Rattle.ax_state.proofs.CellLemmas.{empty_held, held_empty}
use Rattle.ax_state.proofs.cells.KeyCells.is_empty.Goals as goal

pub returns : goal.returns
returns c =
    let held = c.self.inside.held.items in
    let cells = c.args.self.now in
    let told = rw c.deref.ensures.value at c.are_empty.ensures in
    (λ e. empty_held held cells c.self.view_is (told.0 e), λ a. told.1 (held_empty held cells c.self.view_is a))
