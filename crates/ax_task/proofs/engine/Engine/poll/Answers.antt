use Rattle.std.proofs.Common.{◌≡◌, Ok, refl, ap}
use Rattle.ax_task.specs.Shards.{Serving, shard_count, held, out, Came}
use Rattle.ax_task.specs.declared.engine.Engine.{Engine}
use Rattle.ax_task.proofs.Sending.{stays_on, came_ok, comes_of, comes, comes_less, back_next}
use Rattle.ax_task.proofs.engine.Engine.poll.Goals as goal

pub returns-in_default-clause-moves : goal.returns-in_default-clause-moves
returns-in_default-clause-moves c = stays_on c.args.self.now _ refl refl c.poll.ensures.count c.poll.ensures.kinds refl c.in_default.ensures.gives

pub deliver-requires-clause-out : goal.deliver-requires-clause-out
deliver-requires-clause-out c =
    let e = c.args.self.now in
    let v = c.poll.new.self in
    let rs = c.in_ok-back.field-0 in
    let shard = c.in-Some.back.shard in
    let ok : c.in-Some.back.replies ≡ Ok rs = c.in_ok-back.was in
    let came : Came (shard_count e.shards) (out e.shards) (out v) (held e.shards) (held v) shard (Ok rs) = came_ok _ _ _ _ _ shard _ rs ok c.in-Some.ensures.gives in
    comes_of e c.requires.ready v (shard_count e.shards) shard rs came.shard came

pub returns-clause-moves : goal.returns-clause-moves
returns-clause-moves c =
    let e = c.args.self.now in
    let v = c.poll.new.self in
    let rs = c.in_ok-back.field-0 in
    let shard = c.in-Some.back.shard in
    let ok : c.in-Some.back.replies ≡ Ok rs = c.in_ok-back.was in
    let came : Came (shard_count e.shards) (out e.shards) (out v) (held e.shards) (held v) shard (Ok rs) = came_ok _ _ _ _ _ shard _ rs ok c.in-Some.ensures.gives in
    comes e _ refl refl c.poll.ensures.count c.poll.ensures.kinds c.deliver.ensures.sound c.deliver.ensures.same c.deliver.ensures.keys shard came.shard (shard_count e.shards) rs came c.deliver.ensures.outs c.deliver.ensures.served

pub returns-clause-falls : goal.returns-clause-falls
returns-clause-falls c = λ _.
    let e = c.args.self.now in
    let new : Engine = record { alloc = e.alloc; settings = e.settings; batch = e.batch; core = c.deliver.new.self; shards = c.poll.new.self; text = e.text } in
    let v = c.poll.new.self in
    let rs = c.in_ok-back.field-0 in
    let shard = c.in-Some.back.shard in
    let ok : c.in-Some.back.replies ≡ Ok rs = c.in_ok-back.was in
    let came : Came (shard_count e.shards) (out e.shards) (out v) (held e.shards) (held v) shard (Ok rs) = came_ok _ _ _ _ _ shard _ rs ok c.in-Some.ensures.gives in
    comes_less e new refl refl c.poll.ensures.count c.poll.ensures.kinds c.deliver.ensures.sound c.deliver.ensures.same c.deliver.ensures.keys shard came.shard (shard_count e.shards) rs came c.deliver.ensures.outs c.deliver.ensures.served
    c.requires.ready

pub returns-in_default-clause-still : goal.returns-in_default-clause-still
returns-in_default-clause-still c = λ _.
    let e = c.args.self.now in
    let put : Serving → Engine = λ (v : Serving). record e { shards = v } in
    ap put c.in_default.ensures.still

pub returns-clause-back : goal.returns-clause-back
returns-clause-back c = λ _.
    let e = c.args.self.now in
    let new : Engine = record { alloc = e.alloc; settings = e.settings; batch = e.batch; core = c.deliver.new.self; shards = c.poll.new.self; text = e.text } in
    let v = c.poll.new.self in
    let rs = c.in_ok-back.field-0 in
    let shard = c.in-Some.back.shard in
    let ok : c.in-Some.back.replies ≡ Ok rs = c.in_ok-back.was in
    let came : Came (shard_count e.shards) (out e.shards) (out v) (held e.shards) (held v) shard (Ok rs) = came_ok _ _ _ _ _ shard _ rs ok c.in-Some.ensures.gives in
    back_next e new (shard_count e.shards) shard rs came c.in-Some.ensures.next c.deliver.ensures.order c.deliver.ensures.idle c.deliver.ensures.number refl refl c.deliver.ensures.served
