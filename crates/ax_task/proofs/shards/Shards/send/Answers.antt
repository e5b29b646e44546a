use Rattle.std.proofs.Common.{◌≡◌, ◌<◌, ◌++◌, ◌∷◌, [], List, ℕ, length, set, ap, sym, subst, arith}
use Rattle.ax_buffer.specs.declared.items.Item.{Item}
use Rattle.ax_state.specs.Decls.{kinds}
use Rattle.ax_task.specs.Serving.{AllFit}
use Rattle.ax_task.specs.Shards.{Serving, out, AreSound}
use Rattle.ax_task.proofs.SoundLemmas.{room_left, sound_sent}
use Rattle.ax_task.proofs.shards.Shards.send.Goals as goal

pub push_reserved-requires : goal.push_reserved-requires
push_reserved-requires c =
    let inside = c.self.inside in
    let v : Serving = record { kinds = kinds inside.decls; shards = inside.shards.items; batches = inside.batches.items; sent = inside.sent.items; order = inside.order.items } in
    let P : Serving → Type 0 = λ x. c.args.shard < length x.batches in
    let Q : Serving → Type 0 = λ x. out x c.args.shard ≡ [] in
    let left = room_left v (c.self.invariant).0 c.args.shard c.args.batch (subst P (sym c.self.view_is) c.requires.shard) (subst Q (sym c.self.view_is) c.requires.home) c.requires.some in
    omega (arith, left, (c.self.invariant).1, inside.sent.ok)

pub invariant_of-self : goal.invariant_of-self
invariant_of-self c =
    let inside = c.self.inside in
    let v : Serving = record { kinds = kinds inside.decls; shards = inside.shards.items; batches = inside.batches.items; sent = inside.sent.items; order = inside.order.items } in
    let P : Serving → Type 0 = λ x. c.args.shard < length x.batches in
    let Q : Serving → Type 0 = λ x. out x c.args.shard ≡ [] in
    let R : Serving → Type 0 = λ x. AllFit x.kinds c.args.batch in
    let sound = sound_sent v (c.self.invariant).0 c.args.shard c.args.batch (subst P (sym c.self.view_is) c.requires.shard) (subst Q (sym c.self.view_is) c.requires.home) c.requires.some (subst R (sym c.self.view_is) c.requires.fit) in
    let S : List (List Item) → Type 0 = λ bs. AreSound (record { kinds = v.kinds; shards = v.shards; batches = bs; sent = v.sent ++ c.args.shard ∷ []; order = v.order }) in
    let T : List ℕ → Type 0 = λ sent. AreSound (record { kinds = v.kinds; shards = v.shards; batches = set v.batches c.from.result c.args.batch; sent = sent; order = v.order }) in
    (subst T (sym c.push_reserved.ensures.items) (subst S (ap (λ (n : ℕ). set v.batches n c.args.batch) (sym c.from.ensures)) sound), omega (arith, (c.self.invariant).1, c.push_reserved.ensures.capacity))
