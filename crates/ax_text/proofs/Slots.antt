-- The slots of a handler on its way.
use Rattle.std.proofs.Common.{◌≡◌, ◌∙◌, ◌≤◌, ℕ, nat_eq, List, [], ◌∷◌, ◌++◌, Bool, true, false, ◌||◌, refl, ap, Option, Some, None}
use Rattle.std.proofs.lemmas.Bool.{eq-eqb}
use Rattle.ax_text.specs.declared.vocabulary.Request.{Request}
use Rattle.ax_text.specs.declared.vocabulary.Answer.{Answer}
use Rattle.ax_text.specs.Exprs.{Facts}
use Rattle.ax_text.specs.Cells.{Cells}
use Rattle.ax_text.specs.Texts.{Text}
use Rattle.ax_text.specs.Programs.{width}
use Rattle.ax_text.specs.Run.{Talk, World, begun}
use Rattle.ax_text.specs.Prints.{has, is_accepted}
use Rattle.ax_text.specs.Controls.{Rest, Control, Done, Wait, Arms, Going, Event, Serve, Give, slots, waiting, without, give, request_at, started, serve_at, give_at, step, steps}
use Rattle.ax_text.specs.Widths.{ControlWide, CursorWide, FrameWide}
use Rattle.ax_text.specs.Sound.{Split, Low}
use Rattle.ax_text.specs.Futures.{going}
use Rattle.ax_text.specs.Underway.{IsUnderway, Differ, KeepsSlots}
use Rattle.ax_text.proofs.Steps.{mem_append}
use Rattle.ax_text.proofs.Wide.{slots_wide, begin_wide, give_in_wide, step_wide}
use Rattle.ax_text.proofs.LowSlots.{start_low, give_low}
use Rattle.ax_text.proofs.Going.{start_underway, step_underway, waits_here}

differ_append : (xs ys : List ℕ) → Differ xs → Differ ys → ((s : ℕ) → has s xs ≡ true → has s ys ≡ false) → Differ (xs ++ ys)
differ_append [] ys p q h = q
differ_append (x ∷ xs) ys p q h = (
  mem_append x xs ys ∙ (ap (λ (b : Bool). b || has x ys) p.0 ∙ h x (rw (eq-eqb x x refl) refl)),
  differ_append xs ys p.1 q (λ s m. h s (rw m (or_true (nat_eq s x)))),
)
  where
    or_true : (b : Bool) → (b || true) ≡ true
    or_true true = refl
    or_true false = refl

pub split_differ : (c : Control) → Split c → Differ (slots c)
unfolding Split
split_differ Done d = tt
split_differ (Wait s r n k) d = (refl, tt)
split_differ (Arms one two k) d = differ_append (slots one) (slots two) (split_differ one d.1) (split_differ two d.2) d.0

module _ (n : ℕ) (f : Facts) where
  -- what every step keeps
  record Keeping (g : Going) : Type 0 where
    underway : IsUnderway g
    wide : ControlWide n g.control
    low : Low n (waiting g.control)

  give_wide : (a : Answer) (c : Control) (t : Talk) (s : ℕ) → ControlWide n c → ControlWide n (give f c s a t).control
  unfolding give
  give_wide a c t s h = give_in_wide f n c s a (without s (slots c)) t h

  step_low : (e : Event) (g : Going) → Keeping g → Low n (waiting (step f e g).control)
  step_low (Serve s) g h = of (request_at g.control s) (g.answers s) where
    of : (q : Option Request) (a : Option Answer) → Low n (waiting (serve_at s q a g).control)
    of None a = h.low
    of (Some q) None = h.low
    of (Some q) (Some a) = h.low
  step_low (Give s) g h = of (g.answers s) refl where
    of : (a : Option Answer) → g.answers s ≡ a → Low n (waiting (give_at f s a g).control)
    of None e = h.low
    of (Some a) e = give_low f n g.control s a g.world.talk h.low (waits_here f a s g e h.underway) (give_wide a g.control g.world.talk s h.wide)

  steps_keep : (es : List Event) (g : Going) → Keeping g → Keeping (steps f es g)
  steps_keep [] g h = h
  steps_keep (e ∷ es) g h = steps_keep es (step f e g) (record { underway = step_underway f e g h.underway; wide = step_wide f n e g h.wide; low = step_low e g h })

  starts_keeping : (text : Text) (w : World) → is_accepted text ≡ true → width text ≤ n → Keeping (started f text w)
  unfolding CursorWide FrameWide
  starts_keeping text w a l =
      let wide : ControlWide n (started f text w).control = begin_wide f n (Rest text ∷ []) [] w.talk (l, tt) in
      record { underway = start_underway f text w a; wide = wide; low = start_low f n (Rest text ∷ []) w.talk wide }

  pub keeps_slots : (text : Text) (cells : Cells) (es : List Event) → KeepsSlots n f text cells es
  keeps_slots text cells es a l =
      let g : Going = going f text cells es in
      let k = steps_keep es (started f text (begun cells)) (starts_keeping text (begun cells) a l) in
      record { differ = split_differ g.control k.underway.split; few = slots_wide n g.control k.wide; low = k.low }
