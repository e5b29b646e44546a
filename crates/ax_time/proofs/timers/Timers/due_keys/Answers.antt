use Rattle.std.proofs.Common.{◌≡◌, ◌↔◌, List, ℕ, ℤ, length, subst}
use Rattle.std.proofs.Math.Facts.{to_z-of_z}
use Rattle.std.specs.List.{Contains, list_any}
use Rattle.std.specs.declared.ops.Bound.TheVariants.{Excluded, Unbounded}
use Rattle.std.specs.BTreeSet.{contains, keys_between}
use Rattle.ax_text.specs.Times.{HasDue}
use Rattle.ax_keys.specs.Keys.{key_cmp}
use Rattle.ax_time.specs.Timers.{times_of}
use Rattle.ax_time.specs.Held.{due_order, names}
use Rattle.ax_time.proofs.KeptLemmas.{if_ok}
use Rattle.ax_time.proofs.DueLemmas.{due_seen}
use Rattle.ax_time.proofs.timers.Timers.due_keys.Goals as goal

pub returns-clause-due : goal.returns-clause-due
returns-clause-due c =
    let kept = c.self.inside.kept in
    let All : ℤ → List (List ℕ) → Type 0 = λ w ns. (q : List ℕ) → contains key_cmp c.in_ok-due.due q ≡ list_any (λ d. names ns q d.1) (keys_between due_order Unbounded (Excluded (w, length ns)) kept.by_time) in
    let all : All c.args.w kept.named.items = subst (All c.args.w) c.as_slice.ensures.value (subst (λ w. All w c.as_slice.result.now) (to_z-of_z c.ranges.w) c.in_ok-due.ensures) in
    if_ok c.list_keys.result (λ ks same q.
    subst (λ v. Contains ks q ↔ HasDue c.args.w (times_of v q)) c.self.view_is (due_seen kept c.self.invariant c.args.w c.in_ok-due.due ks same all q)) c.list_keys.ensures.keys
