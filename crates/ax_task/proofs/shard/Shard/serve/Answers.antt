use Rattle.std.proofs.Common.{◌≡◌, ◌∙◌, List, refl, sym, subst, true}
use Rattle.ax_text.specs.declared.vocabulary.Kind.{Kind}
use Rattle.ax_text.specs.Suits.{fits_in}
use Rattle.ax_buffer.specs.declared.items.Item.{Item}
use Rattle.ax_task.specs.Serving.{content_of, IsPartServed, IsServed}
use Rattle.ax_task.proofs.BatchLemmas.{none_yet, one_more, part_more, part_served, all_served, at_fault, item_fits}
use Rattle.ax_task.proofs.shard.Shard.serve.Goals as goal

pub serve_item-requires : goal.serve_item-requires
serve_item-requires c =
    let P : List Kind → Type 0 = λ ks. fits_in ks c.item-item.result.request ≡ true in
    subst P (sym c.loop-item.invariant.kinds)
    (item_fits c.args.self.now.kinds c.args.batch.now c.as_slice-item-items.result.now c.loop-item.item-index c.item-item.result c.requires c.as_slice-item-items.ensures c.loop-item-test.true c.item-item.is)

pub loop-item-init : goal.loop-item-init
loop-item-init c = record {
  kinds = refl;
  served = none_yet c.as_slice-item-items.result.now (content_of c.args.self.now) c.new-replies.result c.new-replies.ensures;
}

pub loop-item-preserved : goal.loop-item-preserved
loop-item-preserved c =
    let told = c.in_ok-reply.ensures in
    record {
      kinds = told.kinds ∙ c.loop-item.invariant.kinds;
      served = one_more c.as_slice-item-items.result.now (content_of c.args.self.now) (content_of c.loop-item.self) c.loop-item.item-index c.loop-item.replies c.loop-item.invariant.served
          (content_of c.serve_item.new.self) c.item-item.result c.in_ok-reply.reply c.push.new.self c.loop-item-test.true c.item-item.is told.reply told.content c.in_ok-push.ensures.ok;
    }

pub returns-in_err-reply-clause-served : goal.returns-in_err-reply-clause-served
returns-in_err-reply-clause-served c =
    let P : List Item → Type 0 = λ is. IsPartServed is (content_of c.args.self.now) (content_of c.serve_item.new.self) in
    at_fault c.args.batch.now (content_of c.args.self.now) (content_of c.serve_item.new.self) c.from_residual.result (c.from_residual.ensures.0)
    (subst P c.as_slice-item-items.ensures
    (part_served c.as_slice-item-items.result.now (content_of c.args.self.now) (content_of c.loop-item.self) c.loop-item.item-index c.loop-item.replies c.loop-item.invariant.served
    (content_of c.serve_item.new.self) c.in_err-reply.ensures.err))

pub returns-in_err-push-clause-served : goal.returns-in_err-push-clause-served
returns-in_err-push-clause-served c =
    let P : List Item → Type 0 = λ is. IsPartServed is (content_of c.args.self.now) (content_of c.serve_item.new.self) in
    at_fault c.args.batch.now (content_of c.args.self.now) (content_of c.serve_item.new.self) c.from_residual-in_err-push.result (c.from_residual-in_err-push.ensures.0)
    (subst P c.as_slice-item-items.ensures
    (part_more c.as_slice-item-items.result.now (content_of c.args.self.now) (content_of c.loop-item.self) c.loop-item.item-index c.loop-item.replies c.loop-item.invariant.served
    (content_of c.serve_item.new.self) c.item-item.result c.loop-item-test.true c.item-item.is c.in_ok-reply.ensures.content))

pub returns-clause-served : goal.returns-clause-served
returns-clause-served c =
    let P : List Item → Type 0 = λ is. IsServed is (content_of c.args.self.now) (content_of c.loop-item.self) c.loop-item.replies in
    subst P c.as_slice-item-items.ensures
    (all_served c.as_slice-item-items.result.now (content_of c.args.self.now) (content_of c.loop-item.self) c.loop-item.item-index c.loop-item.replies c.loop-item.invariant.served c.loop-item-test.false)
