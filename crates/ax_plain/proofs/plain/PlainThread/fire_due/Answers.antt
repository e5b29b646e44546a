use Rattle.std.proofs.Common.{◌∙◌, ◌-◌, ℤ, FitsSigned, w64, rules, arith, ap, refl, sym, subst}
use Rattle.std.proofs.Math.Facts.{to_z-of_z}
use Rattle.std.specs.BTreeMap.{keys}
use Rattle.ax_time.specs.Timers.{times_of}
use Rattle.ax_machine.specs.Firings.{most_firings}
use Rattle.ax_machine.specs.Sync.{Plain, all_fired}
use Rattle.ax_lang.specs.Shown.{shown_program, shown_kinds}
use Rattle.ax_plain.specs.Agenda.{Lists, Puts}
use Rattle.ax_plain.specs.Plain.{map_of, shown_plain}
use Rattle.ax_plain.proofs.RunLemmas.{at_err}
use Rattle.ax_plain.proofs.FireLemmas.{begin_firing, has_held, is_known, least_is, ended_stands, ended_grown, firing_failed, firing_cut, went_on}
use Rattle.ax_plain.proofs.plain.PlainThread.fire_due.Goals as goal

pub due-init : goal.due-init
due-init g c =
    let kinds = shown_kinds c.args.program.now in
    let t = c.args.self.now in
    let fits : FitsSigned w64 c.args.time.now = search rules in
    let L : ℤ → Type 0 = λ w. Lists w (λ k. most_firings) (times_of t.timers) c.in-Ok.agenda in
    record {
      firing = begin_firing (shown_program c.args.program.now) (g.K.Sink.holds c.args.out.now) t.wm (keys t.states) (map_of kinds t.states t.timers) c.in-Ok.agenda
          (subst L (to_z-of_z fits ∙ sym c.requires.mark) c.in-Ok.ensures);
      fits = c.requires.fits;
      mark = c.requires.mark;
      counts = refl;
      base = refl;
    }

pub fire-requires-clause-first : goal.fire-requires-clause-first
fire-requires-clause-first g c =
    let f = c.due.invariant.firing in
    let t = c.due.self in
    least_is t.wm f.more (times_of t.timers) c.in-Some.timer c.in-Some.left (c.in-Some.ensures.next t.wm f.more (times_of t.timers) f.lists)

pub due-smaller : goal.due-smaller
due-smaller g c = omega (arith, c.in-Some.ensures.some, c.in-Some.ensures.count, c.in-Ok-put.ensures.count)

pub returns-in_err-fire-clause-part : goal.returns-in_err-fire-clause-part
returns-in_err-fire-clause-part g c =
    let kinds = shown_kinds c.args.program.now in
    let p = shown_program c.args.program.now in
    let whole = all_fired p (shown_plain kinds c.args.self.now) in
    let f = c.due.invariant.firing in
    let t = c.due.self in
    let d = c.in-Some.timer in
    let next = c.in-Some.ensures.next t.wm f.more (times_of t.timers) f.lists in
    let known = is_known t.states d.key (has_held kinds t.states t.timers d.key d.time c.due.invariant.fits (least_is t.wm f.more (times_of t.timers) d c.in-Some.left next)) in
    at_err c.from_residual.result (firing_failed p whole (g.K.Sink.holds c.args.out.now) (g.K.Sink.holds c.due.out) (shown_plain kinds t) c.due.agenda f d c.in-Some.left known next (g.K.Sink.holds c.fire.new.out) c.in_err-fire.ensures.part)

pub due-preserved : goal.due-preserved
due-preserved g c =
    let kinds = shown_kinds c.args.program.now in
    let p = shown_program c.args.program.now in
    let whole = all_fired p (shown_plain kinds c.args.self.now) in
    let f = c.due.invariant.firing in
    let t = c.due.self in
    let d = c.in-Some.timer in
    let next = c.in-Some.ensures.next t.wm f.more (times_of t.timers) f.lists in
    let known = is_known t.states d.key (has_held kinds t.states t.timers d.key d.time c.due.invariant.fits (least_is t.wm f.more (times_of t.timers) d c.in-Some.left next)) in
    let fits : FitsSigned w64 c.args.time.now = search rules in
    let ran = c.in_ok-fire.ensures in
    let mark = c.due.invariant.mark in
    let P : ℤ → Type 0 = λ w. Puts w d.key c.least_of-least.result (c.in-Some.left - 1) c.pop.new.self c.put.new.self in
    record {
      firing = went_on p whole (g.K.Sink.holds c.args.out.now) (g.K.Sink.holds c.due.out) (shown_plain kinds t) c.due.agenda f d c.in-Some.left known next (g.K.Sink.holds c.fire.new.out) (shown_plain kinds c.fire.new.self) c.pop.new.self c.put.new.self c.least_of-least.result
          ran.steps ran.lines (c.in-Some.ensures.rest t.wm f.more (times_of t.timers) f.lists) c.least_of-least.ensures.least (subst P (to_z-of_z fits ∙ sym mark) c.in-Ok-put.ensures.ok);
      fits = ran.fits;
      mark = ap (λ (x : Plain). x.wm) ran.steps ∙ mark;
      counts = ran.counts ∙ c.due.invariant.counts;
      base = ran.base ∙ c.due.invariant.base;
    }

pub returns-in_default-put-clause-part : goal.returns-in_default-put-clause-part
returns-in_default-put-clause-part g c =
    let kinds = shown_kinds c.args.program.now in
    let p = shown_program c.args.program.now in
    let whole = all_fired p (shown_plain kinds c.args.self.now) in
    let f = c.due.invariant.firing in
    let t = c.due.self in
    let d = c.in-Some.timer in
    let next = c.in-Some.ensures.next t.wm f.more (times_of t.timers) f.lists in
    let known = is_known t.states d.key (has_held kinds t.states t.timers d.key d.time c.due.invariant.fits (least_is t.wm f.more (times_of t.timers) d c.in-Some.left next)) in
    firing_cut p whole (g.K.Sink.holds c.args.out.now) (g.K.Sink.holds c.due.out) (shown_plain kinds t) c.due.agenda f d c.in-Some.left known next (g.K.Sink.holds c.fire.new.out) c.in_ok-fire.ensures.lines

pub returns-clause-steps : goal.returns-clause-steps
returns-clause-steps g c =
    let kinds = shown_kinds c.args.program.now in
    let p = shown_program c.args.program.now in
    let f = c.due.invariant.firing in
    let t = c.due.self in
    let none = c.in_default-pop.ensures.none t.wm f.more (times_of t.timers) f.lists in
    ended_stands p (all_fired p (shown_plain kinds c.args.self.now)) (g.K.Sink.holds c.args.out.now) (g.K.Sink.holds c.due.out) (shown_plain kinds t) c.due.agenda f none

pub returns-clause-lines : goal.returns-clause-lines
returns-clause-lines g c =
    let kinds = shown_kinds c.args.program.now in
    let p = shown_program c.args.program.now in
    let f = c.due.invariant.firing in
    let t = c.due.self in
    let none = c.in_default-pop.ensures.none t.wm f.more (times_of t.timers) f.lists in
    ended_grown p (all_fired p (shown_plain kinds c.args.self.now)) (g.K.Sink.holds c.args.out.now) (g.K.Sink.holds c.due.out) (shown_plain kinds t) c.due.agenda f none
