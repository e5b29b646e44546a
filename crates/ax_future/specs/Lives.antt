-- A machine on its way, among requests that are served and answers that are given in any order.
use Rattle.std.specs.Prelude.{◌≡◌, ℕ, pos, [], ◌∷◌, ◌++◌, true, Some, None}
use Rattle.ax_text.specs.declared.vocabulary.Handler.{Handler}
use Rattle.ax_text.specs.declared.vocabulary.Answer.{Answer}
use Rattle.ax_text.specs.declared.vocabulary.Request.{Request}
use Rattle.ax_text.specs.Functions.{upd}
use Rattle.ax_text.specs.Exprs.{Facts}
use Rattle.ax_text.specs.Cells.{Cells}
use Rattle.ax_text.specs.Texts.{Text}
use Rattle.ax_text.specs.Jobs.{text_for}
use Rattle.ax_text.specs.Run.{run, begun}
use Rattle.ax_text.specs.Silent.{silent}
use Rattle.ax_text.specs.Controls.{Rest, Going, Serve, is_done, request_at, begin, give, step, comes_to}
use Rattle.ax_text.specs.Underway.{IsUnderway}
use Rattle.ax_lang.specs.declared.program.Program.{Program}
use Rattle.ax_lang.specs.Shown.{shown_program}
use Rattle.ax_future.specs.declared.machine.Machine.{Machine}
use Rattle.ax_future.specs.declared.callback.Turn.{Turn}
use Rattle.ax_future.specs.Machines.{control_of, names_of, left_by}

-- what a handler of a program says
abbrev pub text_of : Program → Handler → Text
text_of p h = text_for (shown_program p) h

-- a handler that a machine has begun on these states of its key
abbrev pub begun_by : Program → Cells → Machine → Turn → Going
begun_by p cells m t = record {
  control = control_of p m;
  answers = λ s. None;
  world = record { talk = record { names = names_of m; lines = t.outs; ops = t.timer_ops }; cells = cells; served = 0 };
}

-- a handler that a machine has moved on by the answer of a slot
abbrev pub moved_by : Program → ℕ → Going → Machine → Turn → Going
moved_by p s g m t = record {
  control = control_of p m;
  answers = upd g.answers s None;
  world = record {
    talk = record { names = names_of m; lines = g.world.talk.lines ++ t.outs; ops = g.world.talk.ops ++ t.timer_ops };
    cells = g.world.cells;
    served = g.world.served;
  };
}

-- a machine stands for a handler on its way that comes to what its run on these states comes to
pub record StandsFor (p : Program) (h : Handler) (f : Facts) (cells : Cells) (m : Machine) (g : Going) : Type 0 where
  pub control : control_of p m ≡ g.control
  pub names : names_of m ≡ g.world.talk.names
  pub underway : IsUnderway g
  pub same : comes_to f g ≡ run f (text_of p h) (begun cells)

-- so it does when it has started
abbrev pub Starts : Program → Handler → Facts → Cells → Machine → Turn → Type 0
Starts p h f cells m t = begin f (Rest (text_of p h) ∷ []) [] (silent (λ i. pos 0)) ≡ left_by p m t → StandsFor p h f cells m (begun_by p cells m t)

-- when a request of it is served
abbrev pub Serves : Program → Handler → Facts → Cells → Machine → Going → ℕ → Request → Type 0
Serves p h f cells m g s r = StandsFor p h f cells m g → request_at (control_of p m) s ≡ Some r → g.answers s ≡ None → StandsFor p h f cells m (step f (Serve s) g)

-- and when an answer that was served is given to it
abbrev pub Moves : Program → Handler → Facts → Cells → Machine → Going → ℕ → Answer → Machine → Turn → Type 0
Moves p h f cells m g s a m' t =
    StandsFor p h f cells m g → g.answers s ≡ Some a → give f (control_of p m) s a (silent (names_of m)) ≡ left_by p m' t → StandsFor p h f cells m' (moved_by p s g m' t)

-- where it is done, what was done is what the run does
abbrev pub Ends : Program → Handler → Facts → Cells → Machine → Going → Type 0
Ends p h f cells m g = StandsFor p h f cells m g → is_done (control_of p m) ≡ true → g.world ≡ run f (text_of p h) (begun cells)
