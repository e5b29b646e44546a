use Rattle.std.proofs.Common.{◌≡◌, ◌∙◌, ◌<◌, List, length, get_or, set, ap, sym, arith}
use Rattle.std.proofs.lemmas.List.{get_or_default, length-set}
use Rattle.ax_buffer.specs.declared.items.Item.{Item}
use Rattle.ax_state.specs.Decls.{kinds}
use Rattle.ax_task.specs.Shards.{Serving}
use Rattle.ax_task.proofs.SoundLemmas.{there, fits_there, kinds_are, sound_behind, came_behind}
use Rattle.ax_task.proofs.shards.Shards.poll.Goals as goal

pub index_mut-requires : goal.index_mut-requires
index_mut-requires c =
    let inside = c.self.inside in
    let v : Serving = record { kinds = kinds inside.decls; shards = inside.shards.items; batches = inside.batches.items; sent = inside.sent.items; order = inside.order.items } in
    let place = c.next_place-place.result in
    let in_sent : place < length v.sent = omega (arith, c.next_place-place.ensures.small, c.len.ensures, inside.sent.ok) in
    let chosen : c.from-at.result ≡ get_or v.sent place 0 = c.from-at.ensures ∙ c.remove-shard.ensures.value ∙ get_or_default v.sent place c.remove-shard.result 0 in_sent in
    let is : c.from-at.result < length inside.batches.items = there v (c.self.invariant).0 place c.from-at.result in_sent chosen in
    omega (arith, is, inside.batches.ok)

pub index_mut-requires-2 : goal.index_mut-requires-2
index_mut-requires-2 c =
    let inside = c.self.inside in
    let v : Serving = record { kinds = kinds inside.decls; shards = inside.shards.items; batches = inside.batches.items; sent = inside.sent.items; order = inside.order.items } in
    let place = c.next_place-place.result in
    let in_sent : place < length v.sent = omega (arith, c.next_place-place.ensures.small, c.len.ensures, inside.sent.ok) in
    let chosen : c.from-at.result ≡ get_or v.sent place 0 = c.from-at.ensures ∙ c.remove-shard.ensures.value ∙ get_or_default v.sent place c.remove-shard.result 0 in_sent in
    let is : c.from-at.result < length inside.batches.items = there v (c.self.invariant).0 place c.from-at.result in_sent chosen in
    let same : length inside.shards.items ≡ length inside.batches.items = (c.self.invariant).0.shards in
    omega (arith, is, same, inside.shards.ok)

pub serve-replies-requires : goal.serve-replies-requires
serve-replies-requires c =
    let inside = c.self.inside in
    let v : Serving = record { kinds = kinds inside.decls; shards = inside.shards.items; batches = inside.batches.items; sent = inside.sent.items; order = inside.order.items } in
    let place = c.next_place-place.result in
    let in_sent : place < length v.sent = omega (arith, c.next_place-place.ensures.small, c.len.ensures, inside.sent.ok) in
    let chosen : c.from-at.result ≡ get_or v.sent place 0 = c.from-at.ensures ∙ c.remove-shard.ensures.value ∙ get_or_default v.sent place c.remove-shard.result 0 in_sent in
    let batch : c.replace-batch.result ≡ get_or inside.batches.items c.from-at.result c.replace-batch.result = c.replace-batch.ensures.value ∙ c.index_mut.ensures.value ∙ ap (λ (b : List Item). get_or inside.batches.items c.from-at.result b) (sym c.replace-batch.ensures.value) in
    fits_there v (c.self.invariant).0 place c.from-at.result in_sent chosen c.index_mut-2.result.now c.index_mut-2.ensures.value c.replace-batch.result batch

pub invariant_of-self : goal.invariant_of-self
invariant_of-self c =
    let inside = c.self.inside in
    let v : Serving = record { kinds = kinds inside.decls; shards = inside.shards.items; batches = inside.batches.items; sent = inside.sent.items; order = inside.order.items } in
    let place = c.next_place-place.result in
    let in_sent : place < length v.sent = omega (arith, c.next_place-place.ensures.small, c.len.ensures, inside.sent.ok) in
    let chosen : c.from-at.result ≡ get_or v.sent place 0 = c.from-at.ensures ∙ c.remove-shard.ensures.value ∙ get_or_default v.sent place c.remove-shard.result 0 in_sent in
    let left = ap (λ (b : List Item). set inside.batches.items c.from-at.result b) (c.replace-batch.ensures.after ∙ c.new.ensures) in
    let same = c.serve-replies.ensures.kinds ∙ kinds_are v (c.self.invariant).0 place c.from-at.result in_sent chosen c.index_mut-2.result.now c.index_mut-2.ensures.value in (
      sound_behind v (c.self.invariant).0 place c.from-at.result in_sent chosen c.serve-replies.new.self c.next_place-place.new.order.items (set inside.batches.items c.from-at.result c.replace-batch.new.dest) c.remove-shard.new.self.items left c.remove-shard.ensures.items same,
      omega (arith, (c.self.invariant).1, c.remove-shard.ensures.capacity, length-set inside.shards.items c.from-at.result c.serve-replies.new.self),
    )

pub returns-clause-gives : goal.returns-clause-gives
returns-clause-gives c =
    let inside = c.self.inside in
    let v : Serving = record { kinds = kinds inside.decls; shards = inside.shards.items; batches = inside.batches.items; sent = inside.sent.items; order = inside.order.items } in
    let place = c.next_place-place.result in
    let in_sent : place < length v.sent = omega (arith, c.next_place-place.ensures.small, c.len.ensures, inside.sent.ok) in
    let chosen : c.from-at.result ≡ get_or v.sent place 0 = c.from-at.ensures ∙ c.remove-shard.ensures.value ∙ get_or_default v.sent place c.remove-shard.result 0 in_sent in
    let batch : c.replace-batch.result ≡ get_or inside.batches.items c.from-at.result c.replace-batch.result = c.replace-batch.ensures.value ∙ c.index_mut.ensures.value ∙ ap (λ (b : List Item). get_or inside.batches.items c.from-at.result b) (sym c.replace-batch.ensures.value) in
    let left = ap (λ (b : List Item). set inside.batches.items c.from-at.result b) (c.replace-batch.ensures.after ∙ c.new.ensures) in
    came_behind v (c.self.invariant).0 place c.from-at.result in_sent chosen c.serve-replies.new.self c.next_place-place.new.order.items c.serve-replies.result c.index_mut-2.result.now c.index_mut-2.ensures.value
    c.replace-batch.result batch c.serve-replies.ensures.served (set inside.batches.items c.from-at.result c.replace-batch.new.dest) c.remove-shard.new.self.items left c.remove-shard.ensures.items
    c.args.self.now c.self.view_is c.remove-shard.result c.from-at.ensures
