use Rattle.std.proofs.Common.{length, take_all, ap, ◌∙◌, arith}
use Rattle.ax_base.specs.Lines.{no_feed}
use Rattle.ax_base.proofs.PieceLemmas.{shows_long, shows_much, shows_line, shows_line_much, split_at_feed, no_feed-take, no_feed-fewer}
use Rattle.ax_base.proofs.find.look.Goals as goal

pub returns-then-limit-gt65536 : goal.returns-then-limit-gt65536
returns-then-limit-gt65536 c =
    let held = c.args.held.now in
    let n = c.in-Some.n in (
      shows_long held n c.args.limit (omega (arith, c.in-Some.ensures.0)) c.in-Some.ensures.1 (omega arith) (omega arith),
      (n, omega arith, omega (arith, c.in-Some.ensures.0), omega arith, c.in-Some.ensures.1),
    )

pub returns-then-n-limit : goal.returns-then-n-limit
returns-then-n-limit c =
    let held = c.args.held.now in
    let n = c.in-Some.n in (
      c.in-Some.ensures.0,
      omega arith,
      shows_line held n c.args.limit c.in-Some.ensures.0 c.in-Some.ensures.1 c.in-Some.ensures.2 (omega (arith, c.else-n-gt65536.either)) (omega arith),
      (omega (arith, c.else-n-gt65536.either), c.in-Some.ensures.1, split_at_feed held n c.in-Some.ensures.0 c.in-Some.ensures.2),
    )

pub returns-else-n-limit : goal.returns-else-n-limit
returns-else-n-limit c =
    let held = c.args.held.now in
    let n = c.in-Some.n in (
      shows_line_much held n c.args.limit c.in-Some.ensures.0 c.in-Some.ensures.1 c.in-Some.ensures.2 (omega (arith, c.else-n-gt65536.either)) (omega arith),
      (omega (arith, c.in-Some.ensures.0), omega (arith, c.else-n-gt65536.either), no_feed-fewer held c.args.limit n (omega arith) c.in-Some.ensures.1),
    )

pub returns-then-limit-gt65536-2 : goal.returns-then-limit-gt65536-2
returns-then-limit-gt65536-2 c =
    let held = c.args.held.now in
    let none = ap no_feed (take_all (length held) held (omega arith)) ∙ c.in-None.ensures in (
      shows_long held (length held) c.args.limit (omega arith) none (omega arith) (omega arith),
      (length held, omega arith, omega arith, omega arith, none),
    )

pub returns-then-held-limit : goal.returns-then-held-limit
returns-then-held-limit c = (
  shows_much c.args.held.now c.args.limit c.in-None.ensures (omega arith) (omega arith),
  (omega arith, omega arith, no_feed-take c.args.held.now c.args.limit c.in-None.ensures),
)
