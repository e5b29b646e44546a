-- What each control of an accepted text is, whatever was served and given.
use Rattle.std.specs.Prelude.{◌≡◌, ◌≤◌, ◌<◌, refl, ℕ, List, [], ◌∷◌, true, false, ◌&&◌, Some}
use Rattle.ax_text.specs.declared.vocabulary.Kind.{Kind}
use Rattle.ax_text.specs.declared.vocabulary.Request.{Request}
use Rattle.ax_text.specs.declared.vocabulary.Answer.{Answer}
use Rattle.ax_text.specs.Exprs.{Facts}
use Rattle.ax_text.specs.Texts.{Text}
use Rattle.ax_text.specs.Programs.{width}
use Rattle.ax_text.specs.Valid.{text_fits}
use Rattle.ax_text.specs.Run.{Talk}
use Rattle.ax_text.specs.Prints.{has, is_accepted}
use Rattle.ax_text.specs.Controls.{Rest, Control, Done, Wait, Arms, Ask', slots, waiting, is_done, request_at, begin, give}
use Rattle.ax_text.specs.Footprints.{Footprint, ControlFits}
use Rattle.ax_text.specs.Widths.{ControlWide}
use Rattle.ax_text.specs.Suits.{Suits}

-- the footprint of everything
unfoldable pub everything : Footprint
everything = record { reads = λ n. true; sets = λ n. true; uses = λ n. true; changes = λ n. true; speaks = true; sets_read = λ n h. refl; changes_used = λ n h. refl }

-- the two arms of each pair wait at different slots
unfoldable pub Split : Control → Type 0
Split Done = Unit {0}
Split (Wait s r after k) = Unit {0}
Split (Arms one two k) = ((s : ℕ) → has s (slots one) ≡ true → has s (slots two) ≡ false) × Split one × Split two

-- each slot of these is below n
unfoldable pub Low : ℕ → List Ask' → Type 0
Low n [] = Unit {0}
Low n (a ∷ as') = (a.slot < n) × Low n as'

-- two arms that are both done never stand side by side: what comes behind them has begun
unfoldable pub IsWakeful : Control → Type 0
IsWakeful Done = Unit {0}
IsWakeful (Wait s r after k) = Unit {0}
IsWakeful (Arms one two k) = ((is_done one && is_done two) ≡ false) × IsWakeful one × IsWakeful two

-- a request that waits
pub record IsWaiting (c : Control) : Type 0 where
  pub slot : ℕ
  pub request : Request
  pub stands : request_at c slot ≡ Some request

-- its arms are apart and wait at different slots, at most n requests are out at once, at slots below n, states of
-- these kinds serve each request that it makes, and it waits unless it is done
pub record IsSound (n : ℕ) (kinds : List Kind) (c : Control) : Type 0 where
  pub fits : ControlFits c everything
  pub split : Split c
  pub wide : ControlWide n c
  pub low : Low n (waiting c)
  pub suits : Suits kinds c
  pub wakeful : IsWakeful c

-- an accepted text that fits begins soundly
abbrev pub BeginsSound : ℕ → List Kind → Facts → ℕ → ℕ → Text → Talk → Type 0
BeginsSound n kinds f fields locals text t =
    is_accepted text ≡ true → text_fits fields locals kinds text ≡ true → width text ≤ n → IsSound n kinds (begin f (Rest text ∷ []) [] t).control

-- and an answer keeps it so
abbrev pub GivesSound : ℕ → List Kind → Facts → Control → ℕ → Answer → Talk → Type 0
GivesSound n kinds f c s a t = IsSound n kinds c → has s (slots c) ≡ true → IsSound n kinds (give f c s a t).control
