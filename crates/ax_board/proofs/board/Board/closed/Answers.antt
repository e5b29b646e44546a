use Rattle.std.proofs.Common.{rules, ◌≡◌, ap, sym, ◌∙◌, map, replicate, false}
use Rattle.ax_board.specs.Seats.{is_home}
use Rattle.ax_board.specs.Seats.{notes_of}
use Rattle.ax_board.proofs.Keeps.{starts}
use Rattle.ax_board.proofs.Tasks.{closed_task, closed_flags}
use Rattle.ax_board.proofs.board.Board.closed.Goals as goal

pub vacant-requires : goal.vacant-requires
vacant-requires g c = starts _ _ _ _ _ (search rules)

pub invariant_of-result-in-Ok-vacant-clause-task : goal.invariant_of-result-in-Ok-vacant-clause-task
invariant_of-result-in-Ok-vacant-clause-task g c = let e = c.in-Ok-vacant.ensures.4 in
    rw (e, c.in-Ok.ensures.items) (closed_task _)

pub invariant_of-result-in-Ok-vacant-clause-flags : goal.invariant_of-result-in-Ok-vacant-clause-flags
invariant_of-result-in-Ok-vacant-clause-flags g c =
    let made : c.in-Ok-from_elem.home.items ≡ replicate c.from-count.result false = search rules in
    made ∙ (closed_flags _ c.from-count.result ∙ sym (ap (λ m. map is_home (notes_of m.0.0)) c.in-Ok-vacant.ensures.4))
