use Rattle.std.proofs.Common.{◌≡◌, ◌∙◌, ap, cond, None, List, Option, option_map, true}
use Rattle.std.proofs.lemmas.Result.{IfOk-weaker}
use Rattle.ax_store.specs.declared.change.Change.{Change}
use Rattle.ax_store.specs.Held.{Text, begins}
use Rattle.ax_store.specs.Entries.{Layer, entry_at, or_below, seen}
use Rattle.ax_store.specs.Layers.{newest_of}
use Rattle.ax_store.proofs.MergeLemmas.{begun}
use Rattle.ax_store.proofs.PrefixLemmas.{entry-part}
use Rattle.ax_store.proofs.SeenLemmas.{seen_whole}
use Rattle.ax_store.proofs.layers.Layers.part.Goals as goal

pub returns : goal.returns
returns c =
    let prefix = c.args.prefix.now in
    let memtable = c.args.self.now.memtable in
    let first : (q : Text) → entry_at c.from_entries.result q ≡ cond (begins prefix q) (entry_at memtable q) None
    = λ q. ap (λ (l : Layer). entry_at l q) (c.from_entries.ensures ∙ c.in_ok-entries.ensures.part) ∙ entry-part prefix memtable q in
    let rest : (q : Text) → option_map (seen true) (newest_of c.deref.result.now q) ≡ newest_of c.args.self.now.runs.items q
    = λ q. seen_whole (newest_of c.deref.result.now q) ∙ ap (λ (l : List Layer). newest_of l q) c.deref.ensures.value in
    IfOk-weaker c.merge_parts.result _ _ (λ run h q. h q
    ∙ ap (λ (o : Option Change). or_below o (cond (begins prefix q) (option_map (seen true) (newest_of c.deref.result.now q)) None)) (first q)
    ∙ ap (λ (o : Option Change). or_below (cond (begins prefix q) (entry_at memtable q) None) (cond (begins prefix q) o None)) (rest q)
    ∙ begun (begins prefix q) (entry_at memtable q) (newest_of c.args.self.now.runs.items q)) c.merge_parts.ensures
