use Rattle.std.proofs.Common.{◌≡◌, ◌∙◌, ◌++◌, [], ◌∷◌, ap, sym, subst, false, true, append-nil, rules}
use Rattle.std.specs.List.{All}
use Rattle.std.proofs.lemmas.List.Elements.{All-tail}
use Rattle.ax_store.specs.declared.change.Change.{Change}
use Rattle.ax_store.specs.Held.{Text, begins}
use Rattle.ax_store.specs.Entries.{Layer, IsRising, is_before, part, texts}
use Rattle.ax_store.proofs.PrefixLemmas.{none_here, one_more, rising_tail}
use Rattle.ax_store.proofs.memtable.copy_first.Goals as goal

pub returns-then-not-starts_with : goal.returns-then-not-starts_with
returns-then-not-starts_with c =
    let e : Text × Change = (c.in-Some.key.now.items, c.in-Some.change.now) in
    let es = texts c.next.new.self in
    let is : texts c.loop-key.rest ≡ e ∷ es = ap texts c.in-Some.ensures.steps in
    let begins_not : begins c.args.prefix.now e.0 ≡ false = search rules in
    let none = none_here c.args.prefix.now e es (subst IsRising is c.loop-key.invariant.rising) (subst (λ (l : Layer). All (λ e. is_before c.args.prefix.now e ≡ false) l) is c.loop-key.invariant.from) begins_not in
    sym (append-nil c.loop-key.found.items) ∙ ap (λ (l : Layer). c.loop-key.found.items ++ l) (sym none ∙ ap (part c.args.prefix.now) (sym is)) ∙ c.loop-key.invariant.found

pub loop-key-preserved : goal.loop-key-preserved
loop-key-preserved c =
    let e : Text × Change = (c.in-Some.key.now.items, c.in-Some.change.now) in
    let es = texts c.next.new.self in
    let is : texts c.loop-key.rest ≡ e ∷ es = ap texts c.in-Some.ensures.steps in
    let begins_is : begins c.args.prefix.now e.0 ≡ true = search rules in
    let pushed : c.push.new.self.items ≡ c.loop-key.found.items ++ e ∷ [] = search rules in
    record {
      found = ap (λ (l : Layer). l ++ part c.args.prefix.now es) pushed ∙ one_more c.args.prefix.now c.loop-key.found.items e es begins_is
          ∙ ap (λ (l : Layer). c.loop-key.found.items ++ part c.args.prefix.now l) (sym is) ∙ c.loop-key.invariant.found;
      rising = rising_tail e es (subst IsRising is c.loop-key.invariant.rising);
      from = All-tail (λ e. is_before c.args.prefix.now e ≡ false) e es (subst (λ (l : Layer). All (λ e. is_before c.args.prefix.now e ≡ false) l) is c.loop-key.invariant.from);
    }
