use Rattle.std.proofs.Common.{◌≡◌, map, ap, true}
use Rattle.ax_text.specs.Rows.{text_of}
use Rattle.ax_state.specs.Decls.{kinds}
use Rattle.ax_lang.specs.Forms.{shown_row}
use Rattle.ax_lang.specs.Steps.{rows_some, text_at, steps_fit}
use Rattle.ax_lang.proofs.FitLemmas.{rows_more}
use Rattle.ax_lang.proofs.CountLemmas.{numbered}
use Rattle.ax_lang.proofs.ProgramLemmas.{row_text, row_valid, timer_valid, row_apart, timer_apart, counted}
use Rattle.ax_lang.proofs.program.Program.new.Goals as goal

pub invariant_of-result : goal.invariant_of-result
invariant_of-result c =
    let fields = c.args.fields in
    let locals = c.args.locals in
    let ks = kinds c.args.decls in
    let rows = c.args.row.items in
    let due = c.args.timer in
    let steps = c.link.new.steps.items in
    let more = c.link_some.new.steps.items in
    let row = c.in_ok-row.row in
    let timer = c.in_ok-timer.timer in
    let none : steps_fit fields locals ks 0 c.in-Ok.steps.items ≡ true = ap (steps_fit fields locals ks 0) c.in-Ok.ensures.items in
    let text : text_at more row ≡ text_of (map shown_row rows) = row_text rows steps more row c.in_ok-row.ensures.text c.in_ok-row.ensures.place c.in_ok-timer.ensures.stays in
    record {
      few_fields = c.requires.fields;
      few_states = c.requires.states;
      few_locals = c.requires.locals;
      named = c.requires.named;
      distinct = c.requires.distinct;
      fits = c.in_ok-timer.ensures.fits fields locals ks (c.in_ok-row.ensures.fits fields locals ks none c.requires.row) (rows_more fields locals ks (rows_some due) c.requires.timer);
      row_valid = row_valid fields locals ks rows more row text c.requires.row;
      timer_valid = timer_valid locals ks due more timer c.in_ok-timer.ensures.text c.requires.timer;
      row_apart = row_apart rows more row text c.requires.row_arms;
      timer_apart = timer_apart due more timer c.in_ok-timer.ensures.text c.requires.timer_arms;
      numbered = numbered locals rows due more row timer text c.in_ok-timer.ensures.text c.requires.row_blocks c.requires.timer_blocks c.requires.names;
      counted = counted c.args.width rows due more row timer text c.in_ok-timer.ensures.text c.requires.row_blocks c.requires.timer_blocks c.requires.width;
      narrow = c.requires.narrow;
    }
