use Rattle.std.proofs.Common.{◌≡◌, ◌+◌, ◌<◌, ◌≤◌, ℕ, List, [], ◌∷◌, length, drop, refl, ap, ◌∙◌, subst, arith}
use Rattle.std.specs.List.{remove_range}
use Rattle.std.specs.Vec.{with_item}
use Rattle.ax_buffer.specs.declared.items.Reply.{Reply}
use Rattle.ax_core.specs.declared.record.Name.{Name}
use Rattle.ax_core.specs.declared.controller.Controller.{Controller}
use Rattle.ax_core.specs.Flow.{out_of}
use Rattle.ax_core.specs.Batches.{IsPlaceOf}
use Rattle.ax_core.proofs.BatchLemmas.{same_at}
use Rattle.ax_core.proofs.Forgotten.{name_of, cons_of, forgotten, first_live, first_shard, fits}
use Rattle.ax_core.proofs.controller.Controller.forget.Goals as goal

pub get-requires : goal.get-requires
get-requires c =
    let x : Reply = c.in-Some.first.now in
    let e : c.args.r.now ≡ x ∷ drop 1 c.args.r.now = cons_of c.as_slice.result.now c.args.r.now x c.as_slice.ensures c.in-Some.ensures.item.3.0 c.in-Some.ensures.item.1 in
    first_live c.args.self.now c.requires.sound.flow c.args.r.now c.requires.out x (drop 1 c.args.r.now) e

pub take_out-requires : goal.take_out-requires
take_out-requires c =
    let a : Controller = c.args.self.now in
    let x : Reply = c.in-Some.first.now in
    let e : c.args.r.now ≡ x ∷ drop 1 c.args.r.now = cons_of c.as_slice.result.now c.args.r.now x c.as_slice.ensures c.in-Some.ensures.item.3.0 c.in-Some.ensures.item.1 in
    let there : c.shard_of-shard.result ≡ c.requires.out.shard = c.shard_of-shard.ensures.value ∙ first_shard a c.requires.sound.flow c.args.r.now c.requires.out x (drop 1 c.args.r.now) e c.get.result.now c.get.ensures in
    let low : c.shard_of-shard.result < length a.outs.items = omega (arith, c.shard_of-shard.ensures.small, c.requires.sound.flow.shards.1) in
    let seen : c.as_slice-2.result.now ≡ out_of a c.requires.out.shard = c.as_slice-2.ensures ∙ (c.index.ensures ∙ (same_at a.outs.items c.shard_of-shard.result c.index.result.now [] low ∙ ap (out_of a) there)) in
    let held : c.index_mut.result.now ≡ out_of a c.requires.out.shard = c.index_mut.ensures.value ∙ (same_at a.outs.items c.shard_of-shard.result c.index_mut.result.now [] low ∙ ap (out_of a) there) in
    let found : IsPlaceOf (out_of a c.requires.out.shard) (name_of x) c.place_of-place.result = subst (λ (ns : List Name). IsPlaceOf ns (name_of x) c.place_of-place.result) seen c.place_of-place.ensures in
    let fit : c.place_of-place.result + length c.args.r.now ≤ length (out_of a c.requires.out.shard) = fits a c.requires.sound.flow c.args.r.now c.requires.out x (drop 1 c.args.r.now) e (out_of a c.requires.out.shard) c.place_of-place.result refl found in
    omega (arith, c.len.ensures, ap length held, fit)

pub returns : goal.returns
returns c =
    let a : Controller = c.args.self.now in
    let x : Reply = c.in-Some.first.now in
    let e : c.args.r.now ≡ x ∷ drop 1 c.args.r.now = cons_of c.as_slice.result.now c.args.r.now x c.as_slice.ensures c.in-Some.ensures.item.3.0 c.in-Some.ensures.item.1 in
    let there : c.shard_of-shard.result ≡ c.requires.out.shard = c.shard_of-shard.ensures.value ∙ first_shard a c.requires.sound.flow c.args.r.now c.requires.out x (drop 1 c.args.r.now) e c.get.result.now c.get.ensures in
    let low : c.shard_of-shard.result < length a.outs.items = omega (arith, c.shard_of-shard.ensures.small, c.requires.sound.flow.shards.1) in
    let seen : c.as_slice-2.result.now ≡ out_of a c.requires.out.shard = c.as_slice-2.ensures ∙ (c.index.ensures ∙ (same_at a.outs.items c.shard_of-shard.result c.index.result.now [] low ∙ ap (out_of a) there)) in
    let held : c.index_mut.result.now ≡ out_of a c.requires.out.shard = c.index_mut.ensures.value ∙ (same_at a.outs.items c.shard_of-shard.result c.index_mut.result.now [] low ∙ ap (out_of a) there) in
    let found : IsPlaceOf (out_of a c.requires.out.shard) (name_of x) c.place_of-place.result = subst (λ (ns : List Name). IsPlaceOf ns (name_of x) c.place_of-place.result) seen c.place_of-place.ensures in
    let left : c.take_out.new.out ≡ remove_range (out_of a c.requires.out.shard) c.place_of-place.result (c.place_of-place.result + length c.args.r.now) = c.take_out.ensures
    ∙ (ap (λ (ns : List Name). remove_range ns c.place_of-place.result (c.place_of-place.result + c.len.result)) held
    ∙ ap (λ (n : ℕ). remove_range (out_of a c.requires.out.shard) c.place_of-place.result (c.place_of-place.result + n)) c.len.ensures) in
    let b : Controller = record c.args.self.now { outs = with_item c.args.self.now.outs c.shard_of-shard.result c.take_out.new.out } in
    forgotten a c.requires.sound.flow c.args.r.now c.requires.out x (drop 1 c.args.r.now) e c.place_of-place.result found b c.shard_of-shard.result c.take_out.new.out refl
    (λ o. c.shard_of-shard.ensures.value ∙ first_shard a c.requires.sound.flow c.args.r.now o x (drop 1 c.args.r.now) e c.get.result.now c.get.ensures) left refl
