use Rattle.std.proofs.Common.{◌≡◌, ◌∙◌, ◌∷◌, ◌++◌, [], length, None, IsOk, ap, refl, sym, rules, arith}
use Rattle.std.specs.BTreeMap.{get}
use Rattle.ax_keys.specs.Keys.{key_cmp}
use Rattle.ax_time.proofs.KeptLemmas.{agree_held, held_same}
use Rattle.ax_time.proofs.kept.Kept.hold.Goals as goal

pub returns-clause-kept : goal.returns-clause-kept
returns-clause-kept c =
    let none : get key_cmp c.args.self.now.by_key c.in_ok-key.key ≡ None = ap (get key_cmp c.args.self.now.by_key) c.in_ok-key.ensures ∙ c.requires.absent in
    let ok : IsOk c.push.result = c.push.ensures.succeeds (omega (arith, c.in-Ok.ensures.ok)) in
    let name : c.in_ok-name.name ≡ c.in_ok-key.key = c.in_ok-name.ensures ∙ sym c.in_ok-key.ensures in
    let items : c.push.new.self.items ≡ c.args.self.now.named.items ++ c.in_ok-key.key ∷ [] = search rules in
    let number : c.len-number.result ≡ length c.args.self.now.named.items = search rules in
    agree_held c.args.self.now _ c.requires.kept c.in_ok-key.key (record { number = c.len-number.result; times = c.new-times.result }) none c.new-times.ensures.empty
    number items (c.in-Ok-insert.ensures.updates).0 (λ q. refl) c.insert.ensures.ordered c.new-times.ensures.ordered

pub returns-clause-same : goal.returns-clause-same
returns-clause-same c =
    let none : get key_cmp c.args.self.now.by_key c.in_ok-key.key ≡ None = ap (get key_cmp c.args.self.now.by_key) c.in_ok-key.ensures ∙ c.requires.absent in
    held_same c.args.self.now.by_key c.insert.new.self c.in_ok-key.key (record { number = c.len-number.result; times = c.new-times.result }) none c.new-times.ensures.empty c.in-Ok-insert.ensures.entries
