use Rattle.std.proofs.Common.{◌≢◌, refl, sym, ap, ◌∙◌, inl, inr, arith}
use Rattle.std.proofs.lemmas.Bool.{cases_eq}
use Rattle.slab.specs.Slab.{get}
use Rattle.ax_buffer.specs.Chains.{next_of, item_of}
use Rattle.ax_buffer.proofs.ChainLemmas.{vacant_differs}
use Rattle.ax_buffer.proofs.chain.append.Goals as goal

pub returns-then-chain-eq0-clause-appended : goal.returns-then-chain-eq0-clause-appended
unfolding item_of
returns-then-chain-eq0-clause-appended c =
    let told = c.insert_reserved-place.ensures in
    record {
      free = told.was_vacant;
      stored = ap item_of told.updates.changed;
      items = λ p differs. ap item_of (told.updates.others p differs);
      links = λ p differs _. ap next_of (told.updates.others p differs);
      behind = λ some. absurd (omega (arith, some, c.if-chain-eq0.true));
      first = λ some. absurd (omega (arith, some, c.if-chain-eq0.true));
      alone = λ _. refl;
      longer_by_one = omega (arith, c.if-chain-eq0.true);
    }

pub returns-clause-appended : goal.returns-clause-appended
unfolding item_of
returns-clause-appended c =
    let told = c.insert_reserved-place.ensures in
    let linked = c.link.ensures in
    let last = c.args.chain.now.last in
    let place = c.insert_reserved-place.result in
    let away : place ≢ last = vacant_differs c.args.nodes.now place last told.was_vacant (c.requires.live (omega (arith, c.if-chain-eq0.false))) in
    record {
      free = told.was_vacant;
      stored = ap item_of (linked.others place away ∙ told.updates.changed);
      items = λ p differs. elim (cases_eq p last) [
        | inl e ↦ ap (λ q. item_of (get c.link.new.nodes q)) e ∙ linked.item ∙ ap item_of (told.updates.others last (λ f. away (sym f))) ∙ ap (λ q. item_of (get c.args.nodes.now q)) (sym e)
        | inr other ↦ ap item_of (linked.others p other ∙ told.updates.others p differs)
      ];
      links = λ p differs other. ap next_of (linked.others p (other (omega (arith, c.if-chain-eq0.false))) ∙ told.updates.others p differs);
      behind = λ _. linked.next;
      first = λ _. refl;
      alone = λ none. absurd (omega (arith, none, c.if-chain-eq0.false));
      longer_by_one = refl;
    }
