-- How many requests wait behind a callback, and that those that were served stay counted.
use Rattle.std.proofs.Common.{◌≡◌, ℕ, suc, ◌+◌, ◌≤◌, length, List, sym, ap, ◌∙◌, arith, Option, Some, None}
use Rattle.ax_text.specs.declared.vocabulary.Request.{Request}
use Rattle.ax_text.specs.declared.vocabulary.Answer.{Answer}
use Rattle.ax_text.specs.Exprs.{Facts}
use Rattle.ax_text.specs.Run.{Talk}
use Rattle.ax_text.specs.Prints.{has}
use Rattle.ax_text.specs.Controls.{Cursor, Control, Ask' as Asked, Turn, Going, Event, Serve, Give, slots, waiting, replaced, begin, give, request_at, serve_at, give_at}
use Rattle.ax_text.specs.Counts.{BeginCounts, GiveCounts, StepCounts}
use Rattle.ax_text.proofs.Asked.{begin_asked, give_asked, slots_waiting}
use Rattle.ax_text.proofs.LowSlots.{slots_asked, slots_counted, replaced_length}

module _ (f : Facts) where
  pub begin_counts : (k : Cursor) (used : List ℕ) (t : Talk) → BeginCounts f k used t
  begin_counts k used t = slots_asked (begin f k used t) (begin_asked f k used t)

  pub give_counts : (c : Control) (s : ℕ) (a : Answer) (t : Talk) → GiveCounts f c s a t
  give_counts c s a t h =
      let it : Turn = give f c s a t in
      let r : suc (length (replaced s it.asks (waiting c))) ≡ length it.asks + length (waiting c) = replaced_length s it.asks (waiting c) (sym (ap (has s) (slots_waiting c)) ∙ h) in
      let e : length (waiting it.control) ≡ length (replaced s it.asks (waiting c)) = ap (λ (xs : List Asked). length xs) (give_asked f c s a t h) in
      let b : length (slots it.control) ≡ length (waiting it.control) = slots_counted it.control in
      let d : length (slots c) ≡ length (waiting c) = slots_counted c in
      omega arith

  serve_counts : (q : Option Request) (a : Option Answer) (s : ℕ) (g : Going) → g.world.served ≤ (serve_at s q a g).world.served
  serve_counts None a s g = omega arith
  serve_counts (Some q) (Some a) s g = omega arith
  serve_counts (Some q) None s g = omega arith

  gives_count : (a : Option Answer) (s : ℕ) (g : Going) → g.world.served ≤ (give_at f s a g).world.served
  gives_count None s g = omega arith
  gives_count (Some a) s g = omega arith

  pub step_counts : (e : Event) (g : Going) → StepCounts f e g
  step_counts (Serve s) g = serve_counts (request_at g.control s) (g.answers s) s g
  step_counts (Give s) g = gives_count (g.answers s) s g
