use Rattle.std.proofs.Common.{◌≡◌, ◌+◌, ◌<◌, ◌++◌, List, length, take, set, true, refl, sym, ap, subst, arith}
use Rattle.std.specs.List.{All}
use Rattle.std.specs.Vec.{with_item}
use Rattle.ax_text.specs.Suits.{fits_in}
use Rattle.ax_lang.specs.Shown.{shown_kinds}
use Rattle.ax_buffer.specs.declared.items.Item.{Item}
use Rattle.ax_buffer.specs.Buffer.{queue_of, total}
use Rattle.ax_core.specs.declared.controller.Controller.{Controller}
use Rattle.ax_core.specs.Flow.{out_of}
use Rattle.ax_core.specs.Events.{AsksAll, names_in, OfKeys}
use Rattle.ax_core.specs.Order.{SendsFirst}
use Rattle.ax_core.proofs.BatchLemmas.{outs_put, there_too, sound_out, stands_out, asks_batch, of_keys, of_keys_in}
use Rattle.ax_core.proofs.BatchFits.{fit_batch}
use Rattle.ax_core.proofs.Orders.{sends_first}
use Rattle.ax_core.proofs.controller.Controller.batch_for.Goals as goal

pub returns-clause-sound : goal.returns-clause-sound
returns-clause-sound c =
    let a : Controller = c.args.self.now in
    let b : Controller = record c.args.self.now { buffer = c.take_batch.new.self; outs = with_item c.args.self.now.outs c.args.shard c.put_names.new.out } in
    let there : (c.args.shard < length a.buffer.queues) × (c.args.shard < length a.outs.items) = there_too a c.args.shard c.requires.sound.flow c.requires.shard in
    let same : c.in_ok-batch.batch ≡ take c.args.max (queue_of a.buffer c.args.shard) = c.in_ok-batch.ensures.batch in
    let count : total length b.buffer.queues + length (take c.args.max (queue_of a.buffer c.args.shard)) ≡ total length a.buffer.queues = omega (arith, c.in_ok-batch.ensures.len, ap length same) in
    let outs : set a.outs.items c.args.shard c.put_names.new.out ≡ set a.outs.items c.args.shard (out_of a c.args.shard ++ names_in (take c.args.max (queue_of a.buffer c.args.shard))) =
    outs_put a.outs.items c.args.shard c.index_mut.result.now c.put_names.new.out c.in_ok-batch.batch (take c.args.max (queue_of a.buffer c.args.shard)) there.1 c.index_mut.ensures.value c.in_ok-put_names.ensures same in
    sound_out a b c.args.shard c.args.max c.requires.shard c.in_ok-batch.ensures.queues count c.take_batch.ensures.room outs refl c.requires.sound

pub returns-clause-stands : goal.returns-clause-stands
returns-clause-stands c =
    let a : Controller = c.args.self.now in
    let b : Controller = record c.args.self.now { buffer = c.take_batch.new.self; outs = with_item c.args.self.now.outs c.args.shard c.put_names.new.out } in
    let there : (c.args.shard < length a.buffer.queues) × (c.args.shard < length a.outs.items) = there_too a c.args.shard c.requires.sound.flow c.requires.shard in
    let same : c.in_ok-batch.batch ≡ take c.args.max (queue_of a.buffer c.args.shard) = c.in_ok-batch.ensures.batch in
    let count : total length b.buffer.queues + length (take c.args.max (queue_of a.buffer c.args.shard)) ≡ total length a.buffer.queues = omega (arith, c.in_ok-batch.ensures.len, ap length same) in
    let outs : set a.outs.items c.args.shard c.put_names.new.out ≡ set a.outs.items c.args.shard (out_of a c.args.shard ++ names_in (take c.args.max (queue_of a.buffer c.args.shard))) =
    outs_put a.outs.items c.args.shard c.index_mut.result.now c.put_names.new.out c.in_ok-batch.batch (take c.args.max (queue_of a.buffer c.args.shard)) there.1 c.index_mut.ensures.value c.in_ok-put_names.ensures same in
    λ m x. stands_out a b c.args.shard c.args.max c.requires.shard c.in_ok-batch.ensures.queues count c.take_batch.ensures.room outs refl c.requires.sound m x

pub returns-clause-asks : goal.returns-clause-asks
returns-clause-asks c =
    let a : Controller = c.args.self.now in
    let same : c.in_ok-batch.batch ≡ take c.args.max (queue_of a.buffer c.args.shard) = c.in_ok-batch.ensures.batch in
    λ m x. subst (λ (is : List Item). AsksAll a c.args.shard m is) (sym same) (asks_batch a m c.requires.sound.flow x.stands c.args.shard c.args.max)

pub returns-clause-outs : goal.returns-clause-outs
returns-clause-outs c =
    let a : Controller = c.args.self.now in
    let there : (c.args.shard < length a.buffer.queues) × (c.args.shard < length a.outs.items) = there_too a c.args.shard c.requires.sound.flow c.requires.shard in
    outs_put a.outs.items c.args.shard c.index_mut.result.now c.put_names.new.out c.in_ok-batch.batch c.in_ok-batch.batch there.1 c.index_mut.ensures.value c.in_ok-put_names.ensures refl

pub returns-clause-keys_of : goal.returns-clause-keys_of
returns-clause-keys_of c =
    let a : Controller = c.args.self.now in
    let b : Controller = record c.args.self.now { buffer = c.take_batch.new.self; outs = with_item c.args.self.now.outs c.args.shard c.put_names.new.out } in
    let same : c.in_ok-batch.batch ≡ take c.args.max (queue_of a.buffer c.args.shard) = c.in_ok-batch.ensures.batch in
    subst (λ (is : List Item). OfKeys b is) (sym same) (of_keys_in a b refl (take c.args.max (queue_of a.buffer c.args.shard)) (of_keys a c.requires.sound.flow c.args.shard c.args.max))

pub returns-clause-order : goal.returns-clause-order
returns-clause-order c =
    let a : Controller = c.args.self.now in
    let b : Controller = record c.args.self.now { buffer = c.take_batch.new.self; outs = with_item c.args.self.now.outs c.args.shard c.put_names.new.out } in
    let there : (c.args.shard < length a.buffer.queues) × (c.args.shard < length a.outs.items) = there_too a c.args.shard c.requires.sound.flow c.requires.shard in
    subst (λ (is : List Item). SendsFirst a b c.args.shard c.args.max is) (sym c.in_ok-batch.ensures.batch)
    (sends_first a b c.args.shard c.args.max c.requires.sound.flow there.0 refl c.in_ok-batch.ensures.queues refl)

pub returns-clause-fit : goal.returns-clause-fit
returns-clause-fit c =
    let a : Controller = c.args.self.now in
    subst (All (λ i. fits_in (shown_kinds a.program) i.request ≡ true)) (sym c.in_ok-batch.ensures.batch)
    (fit_batch a c.requires.sound.control c.requires.sound.flow c.requires.sound.stands.stands c.args.shard c.args.max)
