-- Controls of accepted texts are sound.
use Rattle.std.proofs.Common.{ℕ, List, [], ◌∷◌}
use Rattle.ax_text.specs.declared.vocabulary.Kind.{Kind}
use Rattle.ax_text.specs.declared.vocabulary.Answer.{Answer}
use Rattle.ax_text.specs.Exprs.{Facts}
use Rattle.ax_text.specs.Texts.{Text}
use Rattle.ax_text.specs.Run.{Talk}
use Rattle.ax_text.specs.Controls.{Rest, Cursor, Control, slots, begin, without, give}
use Rattle.ax_text.specs.Widths.{CursorWide, FrameWide, ControlWide}
use Rattle.ax_text.specs.Suits.{CursorSuits, FrameSuits}
use Rattle.ax_text.specs.Sound.{everything, BeginsSound, GivesSound}
use Rattle.ax_text.proofs.Steps.{Goes, begin_ok, given}
use Rattle.ax_text.proofs.Accepting.{accepted_fits}
use Rattle.ax_text.proofs.Wide.{begin_wide, give_in_wide}
use Rattle.ax_text.proofs.LowSlots.{start_low, give_low}
use Rattle.ax_text.proofs.Wakeful.{begin_wakes, give_wakes}
use Rattle.ax_text.proofs.Suiting.{text_suits, begin_suits, give_suits}

module _ (n : ℕ) (kinds : List Kind) (f : Facts) where
  pub begin_sound : (fields locals : ℕ) (text : Text) (t : Talk) → BeginsSound n kinds f fields locals text t
  unfolding CursorWide FrameWide Goes CursorSuits FrameSuits
  begin_sound fields locals text t a h w =
      let k : Cursor = Rest text ∷ [] in
      let it = begin_ok f k everything [] (accepted_fits text a, tt) t in
      let wide : ControlWide n (begin f k [] t).control = begin_wide f n k [] t (w, tt) in
      record {
        fits = it.fits;
        split = it.split;
        wide = wide;
        low = start_low f n k t wide;
        suits = begin_suits kinds f k [] t (text_suits fields locals kinds text h, tt);
        wakeful = begin_wakes f k [] t;
      }

  pub give_sound : (c : Control) (s : ℕ) (a : Answer) (t : Talk) → GivesSound n kinds f c s a t
  unfolding give
  give_sound c s a t h m =
      let it = given f c everything s a h.fits h.split m t in
      let wide : ControlWide n (give f c s a t).control = give_in_wide f n c s a (without s (slots c)) t h.wide in
      record {
        fits = it.fits;
        split = it.split;
        wide = wide;
        low = give_low f n c s a t h.low m wide;
        suits = give_suits kinds f c s a t h.suits;
        wakeful = give_wakes f c s a t h.wakeful;
      }
