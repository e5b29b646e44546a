use Rattle.std.proofs.Common.{◌≡◌, sym, ap, ◌∙◌, arith}
use Rattle.std.specs.Option.{option_copied}
use Rattle.ax_context.specs.Slots.{Slots, at}
use Rattle.ax_context.proofs.SlotLemmas.{named}
use Rattle.ax_context.proofs.NumberLemmas.{gap_none, gap_some, gap_all}
use Rattle.ax_context.proofs.contexts.Contexts.gap.Goals as goal
use Rattle.ax_context.proofs.contexts.Contexts.gap.Goals.{in-Some, in_default}

pub loop-slot-preserved : goal.loop-slot-preserved
loop-slot-preserved g c =
    let s = c.args.self.now in
    let got : at s (named c.loop-slot.slot) ≡ option_copied c.get.result =
    ap (λ (v : Slots g.row.T.Denot). at v (named c.loop-slot.slot)) (sym c.self.view_is) ∙ sym c.get.ensures in
    elim c.match-get.branch [
      | in-Some w ↦
          let there = got ∙ ap option_copied w.in-Some.is in
          rw (w.free-is, w.min-free.ensures)
          (gap_some s c.args.number c.loop-slot.slot c.loop-slot.free w.steps_between.result w.in-Some.context.now there
          (omega arith) (omega arith) w.steps_between.ensures c.loop-slot.invariant)
      | in_default w ↦
          rw w.free-is
          (gap_none s c.args.number c.loop-slot.slot c.loop-slot.free (got ∙ ap option_copied w.in_default.is) c.loop-slot.invariant)
    ]

pub returns-clause-free : goal.returns-clause-free
returns-clause-free g c = gap_all c.args.self.now c.args.number c.loop-slot.slot c.loop-slot.free
    (rw (← c.self.view_is) (omega (arith, c.capacity-slot-end.ensures.slots))) c.loop-slot.invariant
