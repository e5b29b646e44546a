use Rattle.std.proofs.Common.{rules, ◌≡◌, ℕ, ◌+◌, ◌<◌, ◌≤◌, ◌∷◌, ap, sym, ◌∙◌, subst, arith, length, map, set, false, true, Some, None}
use mathlib.Core.Option.{some}
use lib.ListN.{get_elem?}
use Rattle.atomic_table.specs.Table.{rest}
use Rattle.ax_board.specs.Seats.{is_home, at_home}
use Rattle.ax_board.specs.Trail.{bare}
use Rattle.ax_board.specs.Seats.{notes_of, told_of}
use Rattle.ax_board.proofs.Beside.{posts}
use Rattle.ax_board.proofs.Tasks.{in_front, posted_task, refilled, flags_now, length_now, home_note}
use Rattle.ax_board.specs.declared.view.Deed.TheVariants.{Left, Added}
use Rattle.ax_board.specs.declared.view.Note.TheVariants.{Home, Out}
use Rattle.ax_board.proofs.board.Board.post_at.Goals as goal

pub exchange-requires : goal.exchange-requires
exchange-requires g c = let s = c.bring.new.self in let f = c.bring.ensures.front in
    (search rules, in_front s.seat.me.1 c.args.at f.0 (s.task.slots ∙ f.1))

pub store-requires : goal.store-requires
store-requires g c = let s = c.bring.new.self in let f = c.bring.ensures.front in let z = c.args.self.now.key in
    let m = bare c.exchange.new.seat.me in
    let is = ap bare c.exchange.ensures.3 in
    let full = refilled (bare s.seat.me) m s.order.items c.args.at c.exchange.result (Some c.args.work) s.task c.exchange.ensures.2 is in
    let first : m.1 ≡ (c.args.at, Some c.args.work) ∷ rest m.1 = ap (λ k. k.1) is ∙ ap (λ t. (c.args.at, Some c.args.work) ∷ t) (sym (ap (λ k. rest k.1) is)) in
    let home : get_elem? (notes_of m.0) c.args.at ≡ some Home = ap (λ k. get_elem? (notes_of k.0) c.args.at) is ∙ (ap (λ v. get_elem? (notes_of v) c.args.at) c.bring.ensures.seat.1 ∙ home_note (notes_of c.args.seat.now.seat.me.0.0) c.args.at c.requires.home) in
    (search rules, search rules, posts _ _ _ _ _ _ _ c.args.work c.exchange.new.seat.me (omega arith) full.view first c.requires.fresh home)

pub invariant_of-seat-clause-task : goal.invariant_of-seat-clause-task
invariant_of-seat-clause-task g c = let s = c.bring.new.self in let f = c.bring.ensures.front in let z = c.args.self.now.key in
    let m = bare c.exchange.new.seat.me in
    let is = ap bare c.exchange.ensures.3 in
    let first : m.1 ≡ (c.args.at, Some c.args.work) ∷ rest m.1 = ap (λ k. k.1) is ∙ ap (λ t. (c.args.at, Some c.args.work) ∷ t) (sym (ap (λ k. rest k.1) is)) in
    let below : c.args.at < length (notes_of s.seat.me.0.0) = omega (arith, s.wide, ap (λ z. z.slots) c.bring.ensures.seat.0, ap (λ z. z.slots) c.requires.board) in
    let home : at_home (notes_of s.seat.me.0.0) c.args.at ≡ true = ap (λ v. at_home (notes_of v) c.args.at) c.bring.ensures.seat.1 ∙ c.requires.home in
    let now = c.ring.ensures.same ∙ c.store.ensures.2.0 c.args.work first in
    rw c.pop_front.ensures.rest (rw f.1 (posted_task (bare s.seat.me) m _ s.order.items f.0 c.args.at None (Some c.args.work) _ s.task f.1 is below home now))

pub invariant_of-seat-clause-flags : goal.invariant_of-seat-clause-flags
invariant_of-seat-clause-flags g c = let s = c.bring.new.self in
    let m = bare c.exchange.new.seat.me in
    let is = ap bare c.exchange.ensures.3 in
    let first : m.1 ≡ (c.args.at, Some c.args.work) ∷ rest m.1 = ap (λ k. k.1) is ∙ ap (λ t. (c.args.at, Some c.args.work) ∷ t) (sym (ap (λ k. rest k.1) is)) in
    let now = c.ring.ensures.same ∙ c.store.ensures.2.0 c.args.work first in
    ap (λ l. set l c.args.at false) (s.flags ∙ sym (ap (λ k. map is_home (notes_of k.0)) is)) ∙ flags_now m _ c.args.at (Out (g.W.Work.job c.args.work)) _ now

pub invariant_of-seat-clause-wide : goal.invariant_of-seat-clause-wide
invariant_of-seat-clause-wide g c = let s = c.bring.new.self in
    let m = bare c.exchange.new.seat.me in
    let is = ap bare c.exchange.ensures.3 in
    let first : m.1 ≡ (c.args.at, Some c.args.work) ∷ rest m.1 = ap (λ k. k.1) is ∙ ap (λ t. (c.args.at, Some c.args.work) ∷ t) (sym (ap (λ k. rest k.1) is)) in
    let now = c.ring.ensures.same ∙ c.store.ensures.2.0 c.args.work first in
    length_now m (bare c.ring.new.seat.me) c.args.at (Out (g.W.Work.job c.args.work)) _ now
    ∙ (ap (λ k. length (notes_of k.0)) is ∙ (s.wide ∙ ap (λ z. z.slots) (sym (c.ring.ensures.board ∙ (c.store.ensures.0 ∙ c.exchange.ensures.0)))))

pub invariant_of-seat-clause-room : goal.invariant_of-seat-clause-room
invariant_of-seat-clause-room g c = let s = c.bring.new.self in
    let m = bare c.exchange.new.seat.me in
    let is = ap bare c.exchange.ensures.3 in
    let first : m.1 ≡ (c.args.at, Some c.args.work) ∷ rest m.1 = ap (λ k. k.1) is ∙ ap (λ t. (c.args.at, Some c.args.work) ∷ t) (sym (ap (λ k. rest k.1) is)) in
    let now = c.ring.ensures.same ∙ c.store.ensures.2.0 c.args.work first in
    let same : length (notes_of c.ring.new.seat.me.0.0) ≡ length (notes_of s.seat.me.0.0) = length_now m (bare c.ring.new.seat.me) c.args.at (Out (g.W.Work.job c.args.work)) _ now ∙ ap (λ k. length (notes_of k.0)) is in
    subst (λ (n : ℕ). n ≤ c.pop_front.new.self.cap) (sym same) (subst (λ (n : ℕ). length (notes_of s.seat.me.0.0) ≤ n) (sym c.pop_front.ensures.capacity) s.room)

pub returns-clause-told : goal.returns-clause-told
returns-clause-told g c =
    let m = bare c.exchange.new.seat.me in
    let is = ap bare c.exchange.ensures.3 in
    let first : m.1 ≡ (c.args.at, Some c.args.work) ∷ rest m.1 = ap (λ k. k.1) is ∙ ap (λ t. (c.args.at, Some c.args.work) ∷ t) (sym (ap (λ k. rest k.1) is)) in
    let now = c.ring.ensures.same ∙ c.store.ensures.2.0 c.args.work first in
    ap (λ k. told_of k.0) now ∙ (ap (λ k. told_of k.0) is ∙ ap told_of c.bring.ensures.seat.1)

pub returns-clause-rang : goal.returns-clause-rang
returns-clause-rang g c = let r = c.ring.ensures.rang in
    (r.0, r.1 ∙ ap (λ t. Added (c.args.self.now.cells + 1) r.0 1 ∷ t) (c.store.ensures.2.1 ∙ ap (λ t. Left c.args.at 1 ∷ t) (ap (λ k. k.0.1) c.exchange.ensures.3 ∙ c.bring.ensures.found)))
