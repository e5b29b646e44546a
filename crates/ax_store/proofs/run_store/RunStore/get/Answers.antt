use Rattle.std.proofs.Common.{◌≡◌, ◌∙◌, ap, sym, Some, None, rules}
use Rattle.std.specs.FinMap as map
use Rattle.ax_store.specs.declared.change.Change.TheVariants.{Put, Delete}
use Rattle.ax_store.specs.Held.{Held}
use Rattle.ax_store.specs.Layers.{layers_of, newest_of, shown}
use Rattle.ax_store.proofs.ContentLemmas.{get_content}
use Rattle.ax_store.proofs.run_store.RunStore.get.Goals as goal

pub returns-in_ok-from_slice-in-Some-Put : goal.returns-in_ok-from_slice-in-Some-Put
returns-in_ok-from_slice-in-Some-Put c =
    let layers = layers_of c.self.inside.layers in
    let is : newest_of layers c.args.key.now ≡ Some (Put c.in_ok-from_slice-in-Some-Put.field-0) = search rules in
    ap shown (sym is) ∙ sym (get_content layers c.args.key.now) ∙ ap (λ (h : Held). map.get h.content c.args.key.now) c.self.view_is

pub returns-in-Some-Delete : goal.returns-in-Some-Delete
returns-in-Some-Delete c =
    let layers = layers_of c.self.inside.layers in
    let is : newest_of layers c.args.key.now ≡ Some Delete = search rules in
    ap shown (sym is) ∙ sym (get_content layers c.args.key.now) ∙ ap (λ (h : Held). map.get h.content c.args.key.now) c.self.view_is

pub returns-in-None : goal.returns-in-None
returns-in-None c =
    let layers = layers_of c.self.inside.layers in
    let is : newest_of layers c.args.key.now ≡ None = search rules in
    ap shown (sym is) ∙ sym (get_content layers c.args.key.now) ∙ ap (λ (h : Held). map.get h.content c.args.key.now) c.self.view_is
