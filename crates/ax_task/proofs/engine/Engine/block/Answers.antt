use Rattle.std.proofs.Common.{◌≡◌, ◌∙◌, ℤ, List, map, FitsSigned, w64, rules, ap, ap₂}
use Rattle.std.proofs.Math.Facts.{to_z-of_z}
use Rattle.ax_text.specs.Programs.{State}
use Rattle.ax_state.specs.Decls.{shown_states}
use Rattle.ax_time.proofs.KeptLemmas.{if_ok}
use Rattle.ax_machine.specs.Blocks.{lines_among, block_text}
use Rattle.ax_lang.specs.declared.program.Program.{Program}
use Rattle.ax_lang.specs.Shown.{shown_program}
use Rattle.ax_snapshot.specs.Snaps.{shown_part}
use Rattle.ax_task.proofs.Snapping.{lines_of, wm_is}
use Rattle.ax_task.proofs.engine.Engine.block.Goals as goal

pub returns : goal.returns
returns c =
    let e = c.args.self.now in
    let parts = map shown_part c.in_ok-snaps.field-0 in
    let states : List State = (shown_program e.core.program).states in
    let id : FitsSigned w64 c.args.id = search rules in
    let wm : FitsSigned w64 c.wm.result = search rules in
    let declared : shown_states c.decls.result.now ≡ states = c.decls.ensures.states ∙ ap (λ (p : Program). (shown_program p).states) c.program.ensures in
    let marks = ap₂ (λ (i w : ℤ). block_text e.settings.groups (shown_states c.decls.result.now) i w parts) (to_z-of_z id) (to_z-of_z wm) in
    let by = ap₂ (λ (ss : List State) (w : ℤ). block_text e.settings.groups ss c.args.id w parts) declared (wm_is e c.requires.ready c.wm.result c.wm.ensures) in
    if_ok c.write_snapshot.result (λ bytes is. record {
      parts = parts;
      lines = λ k. ap (lines_among states k) c.in_ok-snaps.ensures.parts ∙ lines_of e c.requires.ready c.timers.result.now c.timers.ensures c.in_ok-keys.keys.keys c.in_ok-keys.ensures.states c.in_ok-keys.ensures.timers k;
      text = is ∙ marks ∙ by;
    }) c.write_snapshot.ensures
