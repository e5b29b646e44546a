use Rattle.std.proofs.Common.{◌∙◌, List, length, map, refl, sym, ap, subst, arith}
use Rattle.ax_lang.specs.declared.link.Starts.{Starts}
use Rattle.ax_lang.specs.Forms.{shown_row}
use Rattle.ax_lang.specs.Links.{levels_at, AllUpTo}
use Rattle.ax_lang.proofs.LinkLemmas.{onto, onto_none, line_onto, line_stays, line_fits, linked_text, empty_list}
use Rattle.ax_lang.proofs.link.link.Goals as goal

pub loop-row-init : goal.loop-row-init
loop-row-init c =
    let none = c.new-blocks.ensures.items in
    let steps = c.args.steps.now.items in
    let rows = map shown_row c.args.rows.items in
    record {
      up = subst (AllUpTo (length steps)) (sym none) tt;
      levels = ap (λ (bs : List Starts). onto rows (levels_at steps bs)) none ∙ onto_none rows;
      longer = omega arith;
      stays = λ place low. refl;
      fits = λ fields locals ks a b. (a, b);
    }

pub loop-row-preserved : goal.loop-row-preserved
loop-row-preserved c =
    let all = c.loop-row.rows.items in
    let left = c.pop.new.self.items in
    let r = c.in-Some.row in
    let first = c.args.steps.now.items in
    let steps = c.loop-row.steps.items in
    let now = c.link_row.new.steps.items in
    let blocks = c.loop-row.blocks.items in
    let after = c.link_row.new.blocks.items in
    let it = c.in_ok-link_row.ensures in
    let so = c.loop-row.invariant in
    record {
      up = it.up;
      levels = line_onto all left r steps now blocks after c.in-Some.ensures.items it ∙ so.levels;
      longer = (let a = so.longer in let b = it.longer in omega arith);
      stays = line_stays first steps now so.longer so.stays it.stays;
      fits = line_fits c.args.rows.items all left r first steps now blocks after c.in-Some.ensures.items it so.fits;
    }

pub returns-clause-text : goal.returns-clause-text
returns-clause-text c = linked_text c.args.rows.items c.loop-row.rows.items c.loop-row.steps.items c.loop-row.blocks.items c.take_starts.new.blocks.items c.take_starts.result (empty_list c.loop-row.rows.items (sym c.loop-row.rows.ok.0 ∙ c.in_default.ensures.cases.0)) c.loop-row.invariant.levels c.take_starts.ensures

pub returns-clause-place : goal.returns-clause-place
returns-clause-place c = c.take_starts.ensures.text (length c.loop-row.steps.items) c.loop-row.invariant.up
