use Rattle.std.proofs.Common.{◌≡◌, ◌++◌, List, [], get_or, set, refl, ap, ◌∙◌, subst}
use Rattle.ax_lang.specs.declared.program.Program.{Program}
use Rattle.ax_buffer.specs.declared.items.Reply.{Reply}
use Rattle.ax_core.specs.declared.record.Name.{Name}
use Rattle.ax_core.specs.Events.{names_in, names_of}
use Rattle.ax_core_tests.specs.Hands.{AreFor}
use Rattle.ax_core_tests.proofs.Hands.{same_at, batch_behind, out_set}
use Rattle.ax_core_tests.proofs.hand.Hand.take.Goals as goal

pub returns : goal.returns
returns c =
    let named : names_of c.serve.new.replies ≡ names_of (get_or c.args.self.now.served.items c.args.shard []) ++ names_in c.in_ok-batch.batch =
    c.in_ok-serve.ensures.names
    ∙ ap (λ (rs : List Reply). names_of rs ++ names_in c.in_ok-batch.batch) (c.index_mut.ensures.value ∙ same_at c.args.self.now.served.items c.args.shard c.index_mut.result.now [] c.requires.there) in
    record {
      sound = c.in_ok-batch.ensures.sound;
      states = subst (λ (p : Program). AreFor p c.serve.new.states) c.program.ensures c.serve.ensures.states;
      out = c.in_ok-batch.ensures.outs
          ∙ (ap (λ (ns : List Name). set c.args.self.now.core.outs.items c.args.shard ns) (batch_behind c.args.self.now.core c.args.self.now.served.items c.args.shard (names_in c.in_ok-batch.batch) c.serve.new.replies c.requires.ready.out named)
          ∙ out_set c.args.self.now.core.outs.items c.args.self.now.served.items c.args.shard (names_of c.serve.new.replies) c.serve.new.replies c.requires.ready.out refl);
    }
