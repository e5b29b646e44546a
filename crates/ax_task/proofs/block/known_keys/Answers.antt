use Rattle.std.proofs.Common.{◌∙◌, sym}
use Rattle.std.specs.List.{list_any}
use Rattle.std.specs.BTreeMap.{is_at}
use Rattle.std.specs.BTreeSet.{contains}
use Rattle.ax_keys.specs.Keys.{key_cmp}
use Rattle.ax_task.proofs.Snapping.{neither, never_timed}
use Rattle.ax_task.proofs.block.known_keys.Goals as goal

pub returns-clause-states : goal.returns-clause-states
returns-clause-states c = λ s q h.
    let before = (neither (contains key_cmp c.add_keys.new.keys q) (list_any (λ t. is_at (key_cmp q) t.key) c.args.timers.now) (sym (c.in_ok-add_timers.ensures q) ∙ h)).0 in
    c.in_ok-keys.ensures.others s q (neither (contains key_cmp c.new-keys.result q) (list_any (is_at (key_cmp q)) c.in_ok-keys.field-0) (sym (c.in_ok-add_keys.ensures q) ∙ before)).1

pub returns-clause-timers : goal.returns-clause-timers
returns-clause-timers c = λ q h.
    never_timed q c.args.timers.now (neither (contains key_cmp c.add_keys.new.keys q) (list_any (λ t. is_at (key_cmp q) t.key) c.args.timers.now) (sym (c.in_ok-add_timers.ensures q) ∙ h)).1
