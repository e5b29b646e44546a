use Rattle.std.proofs.Common.{◌≡◌, ◌∙◌, ap, cond, None, ◌∷◌, List, Option, option_map, false, sym}
use Rattle.std.proofs.lemmas.Result.{IfOk-weaker}
use Rattle.ax_store.specs.declared.change.Change.{Change}
use Rattle.ax_store.specs.Held.{Text, begins}
use Rattle.ax_store.specs.Entries.{Layer, entry_at, or_below, seen}
use Rattle.ax_store.specs.Layers.{newest_of}
use Rattle.ax_store.proofs.layers.Layers.marks.Goals as goal

pub returns : goal.returns
returns c =
    let prefix = c.args.prefix.now in
    let none : (q : Text) → entry_at c.new.result q ≡ None = λ q. ap (λ (l : Layer). entry_at l q) c.new.ensures in
    let rest : (q : Text) → newest_of c.deref.result.now q ≡ newest_of (c.args.self.now.memtable ∷ c.args.self.now.runs.items) q
    = λ q. ap (λ (l : List Layer). newest_of l q) c.deref.ensures.value ∙ ap (λ (l : Layer). newest_of (l ∷ c.args.self.now.runs.items) q) (sym c.requires) in
    IfOk-weaker c.merge_parts.result _ _ (λ run h q. h q
    ∙ ap (λ (o : Option Change). or_below o (cond (begins prefix q) (option_map (seen false) (newest_of c.deref.result.now q)) None)) (none q)
    ∙ ap (λ (o : Option Change). cond (begins prefix q) (option_map (seen false) o) None) (rest q)) c.merge_parts.ensures
