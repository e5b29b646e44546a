use Rattle.std.proofs.Common.{◌≡◌, IsSome, ap, refl, subst}
use Rattle.std.specs.BTreeMap.{get}
use Rattle.ax_text.specs.Cells.{Cells}
use Rattle.ax_text.specs.Run.{times_after}
use Rattle.ax_keys.specs.Keys.{key_cmp}
use Rattle.ax_state.specs.KeyCells.{shown_cells}
use Rattle.ax_time.specs.Timers.{PutsTimes, times_of}
use Rattle.ax_lang.specs.Shown.{shown_kinds}
use Rattle.ax_plain.specs.Handler.{run_from}
use Rattle.ax_plain.specs.Plain.{cells_or, map_of}
use Rattle.ax_plain.proofs.ThreadLemmas.{known, ran_plain, ran_fits, ran_others}
use Rattle.ax_plain.proofs.plain.PlainThread.run_held.Goals as goal

pub returns-clause-held : goal.returns-clause-held
returns-clause-held g c = λ held. known c.args.self.now.states c.args.key.now c.get_mut.ensures.ordered (subst IsSome c.in-Some.ensures.value refl)

pub returns-clause-steps : goal.returns-clause-steps
returns-clause-steps g c = λ held.
    let kinds = shown_kinds c.args.program.now in
    let m = c.args.self.now.states in
    let t = c.args.self.now.timers in
    let key = c.args.key.now in
    let cells = c.run_handler.new.cells in
    let some : IsSome (get key_cmp m key) = subst IsSome c.in-Some.ensures.value refl in
    let after = c.get_mut.follows.holds cells in
    let ran = λ (x : Cells). run_from c.args.program.now c.args.handler c.args.facts.now x in
    let E : Cells → Type 0 = λ x. shown_cells cells ≡ (ran x).cells in
    let T : Cells → Type 0 = λ x. PutsTimes t c.run_handler.new.timers key (times_after (ran x).talk.ops (times_of t key)) in
    let same = ap (cells_or kinds) c.in-Some.ensures.value in
    ran_plain kinds m (c.get_mut.follows.lender cells) t c.run_handler.new.timers key cells (after.3 some).0 c.args.self.now.wm (ran (map_of kinds m t key).cells)
    after.1 (subst E same c.in_ok-run_handler.ensures.cells) (subst T same c.in_ok-run_handler.ensures.times)

pub returns-clause-fits : goal.returns-clause-fits
returns-clause-fits g c =
    let some : IsSome (get key_cmp c.args.self.now.states c.args.key.now) = subst IsSome c.in-Some.ensures.value refl in
    let after = c.get_mut.follows.holds c.run_handler.new.cells in
    ran_fits (shown_kinds c.args.program.now) c.args.self.now.states (c.get_mut.follows.lender c.run_handler.new.cells) c.args.self.now.timers c.run_handler.new.timers c.args.key.now c.run_handler.new.cells (after.3 some).0
    c.run_handler.ensures.kinds c.requires c.run_handler.ensures.others

pub returns-in_err-run_handler-clause-fits : goal.returns-in_err-run_handler-clause-fits
returns-in_err-run_handler-clause-fits g c =
    let some : IsSome (get key_cmp c.args.self.now.states c.args.key.now) = subst IsSome c.in-Some.ensures.value refl in
    let after = c.get_mut.follows.holds c.run_handler.new.cells in
    ran_fits (shown_kinds c.args.program.now) c.args.self.now.states (c.get_mut.follows.lender c.run_handler.new.cells) c.args.self.now.timers c.run_handler.new.timers c.args.key.now c.run_handler.new.cells (after.3 some).0
    c.run_handler.ensures.kinds c.requires c.run_handler.ensures.others

pub returns-clause-others : goal.returns-clause-others
returns-clause-others g c =
    let some : IsSome (get key_cmp c.args.self.now.states c.args.key.now) = subst IsSome c.in-Some.ensures.value refl in
    let after = c.get_mut.follows.holds c.run_handler.new.cells in
    ran_others (shown_kinds c.args.program.now) c.args.self.now.states (c.get_mut.follows.lender c.run_handler.new.cells) c.args.self.now.timers c.run_handler.new.timers c.args.key.now c.run_handler.new.cells (after.3 some).0
    c.run_handler.ensures.others

pub returns-in_err-run_handler-clause-others : goal.returns-in_err-run_handler-clause-others
returns-in_err-run_handler-clause-others g c =
    let some : IsSome (get key_cmp c.args.self.now.states c.args.key.now) = subst IsSome c.in-Some.ensures.value refl in
    let after = c.get_mut.follows.holds c.run_handler.new.cells in
    ran_others (shown_kinds c.args.program.now) c.args.self.now.states (c.get_mut.follows.lender c.run_handler.new.cells) c.args.self.now.timers c.run_handler.new.timers c.args.key.now c.run_handler.new.cells (after.3 some).0
    c.run_handler.ensures.others
