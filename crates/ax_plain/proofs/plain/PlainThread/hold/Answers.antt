use Rattle.std.proofs.Common.{◌≡◌, ◌∙◌, None, ap, refl, subst}
use Rattle.std.specs.BTreeMap.{get, keys}
use mathlib.Core.Path.{fun_ext}
use Rattle.ax_text.specs.Programs.{untouched}
use Rattle.ax_keys.specs.Keys.{key_cmp}
use Rattle.ax_machine.specs.Entries.{Key}
use Rattle.ax_machine.specs.Sync.{Plain, knows}
use Rattle.ax_lang.specs.Shown.{shown_kinds}
use Rattle.ax_plain.specs.Plain.{map_of}
use Rattle.ax_plain.proofs.ThreadLemmas.{held_plain, plain, ran_fits}
use Rattle.ax_plain.proofs.plain.PlainThread.hold.Goals as goal

pub returns-in-Ok-clause-knows : goal.returns-in-Ok-clause-knows
returns-in-Ok-clause-knows c =
    let kinds = shown_kinds c.args.program.now in
    let m = c.args.self.now.states in
    let n = c.insert.new.self in
    let t = c.args.self.now.timers in
    let key = c.in_ok-key.key in
    let none : get key_cmp m key ≡ None = ap (get key_cmp m) c.in_ok-key.ensures ∙ c.requires.absent in
    let P : Key → Type 0 = λ k. plain c.args.self.now.wm (keys n) (map_of kinds n t) ≡ knows k (plain c.args.self.now.wm (keys m) (map_of kinds m t)) in
    subst P c.in_ok-key.ensures (held_plain kinds m n t key c.in_ok-cells.cells none (c.in-Ok.ensures.updates).0 c.args.self.now.wm c.in-Ok.ensures.entries
    (fun_ext c.in_ok-cells.ensures.untouched ∙ ap untouched c.decls.ensures.kinds))

pub returns-in-Ok-clause-others : goal.returns-in-Ok-clause-others
returns-in-Ok-clause-others c = λ q e. ap (λ (x : Plain). x.map q) (returns-in-Ok-clause-knows c)

pub returns-in-Ok-clause-fits : goal.returns-in-Ok-clause-fits
returns-in-Ok-clause-fits c = ran_fits (shown_kinds c.args.program.now) c.args.self.now.states c.insert.new.self c.args.self.now.timers c.args.self.now.timers c.in_ok-key.key c.in_ok-cells.cells
    (c.in-Ok.ensures.updates).0 (c.in_ok-cells.ensures.kinds ∙ c.decls.ensures.kinds) c.requires.fits (λ q e. refl)
