use Rattle.std.proofs.Common.{◌≡◌, ◌<◌, ◌++◌, [], length, get_or, sym, ◌∙◌, subst, arith}
use Rattle.std.proofs.lemmas.List.{append-nil}
use Rattle.ax_lang.specs.declared.program.Program.{Program}
use Rattle.ax_core.specs.Events.{names_of}
use Rattle.ax_core_tests.specs.Hands.{AreFor}
use Rattle.ax_core_tests.proofs.Hands.{same_at, last_out, out_set}
use Rattle.ax_core_tests.proofs.hand.Hand.deliver_last.Goals as goal

pub deliver-requires-clause-out : goal.deliver-requires-clause-out
deliver-requires-clause-out c =
    let low : c.args.shard < length c.args.self.now.served.items = omega (arith, c.if-at-len.false, c.len.ensures) in
    let cut : get_or c.args.self.now.served.items c.args.shard [] ≡ c.split_last.new.replies ++ c.in_ok-last.last =
    sym (c.index_mut.ensures.value ∙ same_at c.args.self.now.served.items c.args.shard c.index_mut.result.now [] low) ∙ c.in_ok-last.ensures in
    record {
      shard = c.args.shard;
      before = names_of c.split_last.new.replies;
      behind = [];
      there = last_out c.args.self.now.core c.args.self.now.served.items c.args.shard c.split_last.new.replies c.in_ok-last.last c.requires.out cut;
    }

pub returns : goal.returns
returns c =
    let low : c.args.shard < length c.args.self.now.served.items = omega (arith, c.if-at-len.false, c.len.ensures) in
    let cut : get_or c.args.self.now.served.items c.args.shard [] ≡ c.split_last.new.replies ++ c.in_ok-last.last =
    sym (c.index_mut.ensures.value ∙ same_at c.args.self.now.served.items c.args.shard c.index_mut.result.now [] low) ∙ c.in_ok-last.ensures in
    record {
      sound = c.deliver.ensures.sound;
      states = subst (λ (p : Program). AreFor p c.args.self.now.states) (sym c.deliver.ensures.same.program) c.requires.states;
      out = c.deliver.ensures.outs c.args.shard (names_of c.split_last.new.replies) [] (last_out c.args.self.now.core c.args.self.now.served.items c.args.shard c.split_last.new.replies c.in_ok-last.last c.requires.out cut)
          ∙ out_set c.args.self.now.core.outs.items c.args.self.now.served.items c.args.shard (names_of c.split_last.new.replies ++ []) c.split_last.new.replies c.requires.out (append-nil (names_of c.split_last.new.replies));
    }
