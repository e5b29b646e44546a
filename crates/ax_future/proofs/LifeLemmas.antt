-- A machine comes to what the run of its handler comes to.
use Rattle.std.proofs.Common.{◌≡◌, ◌∙◌, ℕ, [], None, refl, sym, ap, subst}
use Rattle.ax_text.specs.declared.vocabulary.Handler.{Handler}
use Rattle.ax_text.specs.declared.vocabulary.Request.{Request}
use Rattle.ax_text.specs.declared.vocabulary.Answer.{Answer}
use Rattle.ax_text.specs.Functions.{upd}
use Rattle.ax_text.specs.Exprs.{Facts, Names}
use Rattle.ax_text.specs.Cells.{Cells}
use Rattle.ax_text.specs.Run.{Talk, begun}
use Rattle.ax_text.specs.Silent.{silent, told_in}
use Rattle.ax_text.specs.Controls.{Control, Turn, Going, Serve, Give, is_done, give, started, request_at, step, comes_to}
use Rattle.ax_text.specs.Underway.{IsUnderway}
use Rattle.ax_text.proofs.Going.{start_underway, step_underway, comes_to_run, serves_at, gives_at}
use Rattle.ax_text.proofs.Steps.{done_left}
use Rattle.ax_text.proofs.Telling.{steps_silently}
use Rattle.ax_lang.specs.declared.program.Program.{Program}
use Rattle.ax_future.specs.declared.machine.Machine.{Machine}
use Rattle.ax_future.specs.declared.callback.Turn.{Turn as CodeTurn}
use Rattle.ax_future.specs.Machines.{control_of, left_by}
use Rattle.ax_future.specs.Lives.{text_of, begun_by, moved_by, Starts, Serves, Moves, Ends}
use Rattle.ax_future.proofs.MachineLemmas.{handler_accepted}

module _ (p : Program) (h : Handler) (f : Facts) (cells : Cells) where
  pub starts : (m : Machine) (t : CodeTurn) → Starts p h f cells m t
  starts m t q = record {
    control = refl;
    names = refl;
    underway = subst IsUnderway here (start_underway f (text_of p h) (begun cells) (handler_accepted p h));
    same = sym (ap (comes_to f) here) ∙ comes_to_run f (text_of p h) cells [] (handler_accepted p h);
  }
    where
      here : started f (text_of p h) (begun cells) ≡ begun_by p cells m t
      here = ap (λ (it : Turn). record { control = it.control; answers = λ s. None; world = record { talk = it.talk; cells = cells; served = 0 } }) q

  pub serves : (m : Machine) (g : Going) (s : ℕ) (r : Request) → Serves p h f cells m g s r
  serves m g s r k e n =
      let one = serves_at f g s r k.underway (sym (ap (λ (c : Control). request_at c s) k.control) ∙ e) n in
      record {
        control = k.control ∙ sym one.control;
        names = k.names ∙ sym (ap (λ (t : Talk). t.names) one.talk);
        underway = step_underway f (Serve s) g k.underway;
        same = one.same ∙ k.same;
      }

  pub moves : (m : Machine) (g : Going) (s : ℕ) (a : Answer) (m' : Machine) (t : CodeTurn) → Moves p h f cells m g s a m' t
  moves m g s a m' t k n q = record {
    control = refl;
    names = refl;
    underway = subst IsUnderway here (step_underway f (Give s) g k.underway);
    same = sym (ap (comes_to f) here) ∙ ((gives_at f g s a k.underway n).same ∙ k.same);
  }
    where
      gave : give f g.control s a (silent g.world.talk.names) ≡ left_by p m' t
      gave = sym (ap (λ (c : Control). give f c s a (silent g.world.talk.names)) k.control) ∙ (sym (ap (λ (ns : Names). give f (control_of p m) s a (silent ns)) k.names) ∙ q)

      here : step f (Give s) g ≡ moved_by p s g m' t
      here = steps_silently f s a g n ∙ ap (λ (it : Turn). record { control = it.control; answers = upd g.answers s None; world = told_in g.world it.talk }) gave

  pub ends : (m : Machine) (g : Going) → Ends p h f cells m g
  ends m g k d = sym (done_left f g.control g.answers (sym (ap is_done k.control) ∙ d) g.world) ∙ k.same
