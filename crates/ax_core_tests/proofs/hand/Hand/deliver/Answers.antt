use Rattle.std.proofs.Common.{◌<◌, List, [], length, ap, sym, ◌∙◌, subst, arith}
use Rattle.ax_lang.specs.declared.program.Program.{Program}
use Rattle.ax_buffer.specs.declared.items.Reply.{Reply}
use Rattle.ax_core.specs.Events.{names_of}
use Rattle.ax_core_tests.specs.Hands.{AreFor}
use Rattle.ax_core_tests.proofs.Hands.{same_at, batch_out, is_out, out_set}
use Rattle.ax_core_tests.proofs.hand.Hand.deliver.Goals as goal

pub deliver-requires-clause-out : goal.deliver-requires-clause-out
deliver-requires-clause-out c =
    let low : c.args.shard < length c.args.self.now.served.items = omega (arith, c.if-at-len.false, c.len.ensures) in
    batch_out c.args.self.now.core c.args.self.now.served.items c.args.shard c.replace-replies.result c.requires.out
    (c.replace-replies.ensures.value ∙ (c.index_mut.ensures.value ∙ same_at c.args.self.now.served.items c.args.shard c.index_mut.result.now [] low))

pub returns : goal.returns
returns c =
    let low : c.args.shard < length c.args.self.now.served.items = omega (arith, c.if-at-len.false, c.len.ensures) in
    record {
      sound = c.deliver.ensures.sound;
      states = subst (λ (p : Program). AreFor p c.args.self.now.states) (sym c.deliver.ensures.same.program) c.requires.states;
      out = c.deliver.ensures.outs c.args.shard [] [] (is_out c.args.self.now.core c.args.self.now.served.items c.args.shard c.replace-replies.result c.requires.out
          (c.replace-replies.ensures.value ∙ (c.index_mut.ensures.value ∙ same_at c.args.self.now.served.items c.args.shard c.index_mut.result.now [] low)))
          ∙ out_set c.args.self.now.core.outs.items c.args.self.now.served.items c.args.shard [] c.replace-replies.new.dest c.requires.out (ap (λ (rs : List Reply). names_of rs) (sym (c.replace-replies.ensures.after ∙ c.new.ensures)));
    }
