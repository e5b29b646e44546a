use Rattle.std.proofs.Common.{◌≡◌, ◌∙◌, ◌+◌, ◌==◌, if◌then◌else◌, ℕ, ap, ap₂, length, not, sym}
use Rattle.std.specs.FinMap.{entries, len, len-entries, retain_keys}
use Rattle.std.proofs.lemmas.List.{length-map}
use Rattle.std.proofs.lemmas.Result.{on_ok_weaker}
use Rattle.ax_store.specs.declared.change.Change.TheVariants.{Delete}
use Rattle.ax_store.specs.Held.{Content, Held, Text, begins, runs_after_flush}
use Rattle.ax_store.specs.Entries.{Layer, deletes}
use Rattle.ax_store.specs.Layers.{layers_of, over}
use Rattle.ax_store.proofs.DeleteLemmas.{deletes_are, over-deletes}
use Rattle.ax_store.proofs.run_store.RunStore.delete_prefix.Goals as goal

pub returns-clause-ok : goal.returns-clause-ok
returns-clause-ok c =
    let prefix = c.args.prefix.now in
    let before = c.leave_place.new.self.content in
    let same : before ≡ c.args.self.now.content = c.leave_place.ensures.content ∙ c.flush.ensures.content in
    let is : c.in_ok-deletes.deletes ≡ deletes (entries (retain_keys before (begins prefix)))
    = c.in_ok-deletes.ensures.deletes ∙ deletes_are prefix (layers_of c.self.inside.layers) c.in_ok-found.found c.into_deletes.ensures.rising c.in_ok-found.ensures
    ∙ ap (λ (s : Held). deletes (entries (retain_keys s.content (begins prefix)))) c.self.view_is in
    on_ok_weaker c.push_run.result (λ h. h
    ∙ ap (λ (l : Layer). over l before) is
    ∙ over-deletes before (begins prefix)
    ∙ ap (λ (m : Content). retain_keys m (λ key. not (begins prefix key))) same) c.push_run.ensures.ok

pub returns-clause-runs : goal.returns-clause-runs
returns-clause-runs c =
    let prefix = c.args.prefix.now in
    let before = c.leave_place.new.self.content in
    let same : before ≡ c.args.self.now.content = c.leave_place.ensures.content ∙ c.flush.ensures.content in
    let is : c.in_ok-deletes.deletes ≡ deletes (entries (retain_keys before (begins prefix)))
    = c.in_ok-deletes.ensures.deletes ∙ deletes_are prefix (layers_of c.self.inside.layers) c.in_ok-found.found c.into_deletes.ensures.rising c.in_ok-found.ensures
    ∙ ap (λ (s : Held). deletes (entries (retain_keys s.content (begins prefix)))) c.self.view_is in
    let count : length c.in_ok-deletes.deletes ≡ len (retain_keys c.args.self.now.content (begins prefix))
    = ap (λ (l : Layer). length l) is ∙ length-map (entries (retain_keys before (begins prefix))) (λ (e : Text × Text). (e.0, Delete))
    ∙ sym (len-entries (retain_keys before (begins prefix)))
    ∙ ap (λ (m : Content). len (retain_keys m (begins prefix))) same in
    let runs : c.leave_place.new.self.runs ≡ (if runs_after_flush c.args.self.now.memtable c.args.self.now.runs == 4 then 1 else runs_after_flush c.args.self.now.memtable c.args.self.now.runs)
    = c.in_ok-leave_place.ensures.runs ∙ ap (λ (n : ℕ). if n == 4 then 1 else n) c.in_ok-flush.ensures.runs in
    on_ok_weaker c.push_run.result (λ h. h ∙ ap₂ (λ (m n : ℕ). m + (if n == 0 then 0 else 1)) runs count) c.push_run.ensures.runs
