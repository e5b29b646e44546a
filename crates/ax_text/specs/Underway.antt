-- A handler on its way: what each serve and each answer does.
use Rattle.std.specs.Prelude.{◌≡◌, ◌≢◌, ◌≤◌, ◌<◌, ℕ, suc, ◌-◌, List, [], ◌∷◌, ◌++◌, length, true, false, Some, None}
use Rattle.std.specs.List.{AllByRecursion}
use Rattle.ax_text.specs.declared.vocabulary.Request.{Request}
use Rattle.ax_text.specs.declared.vocabulary.Answer.{Answer}
use Rattle.ax_text.specs.Exprs.{Facts}
use Rattle.ax_text.specs.Cells.{Cells}
use Rattle.ax_text.specs.Texts.{Text, Both}
use Rattle.ax_text.specs.Programs.{width}
use Rattle.ax_text.specs.Run.{Talk, World, run}
use Rattle.ax_text.specs.Prints.{has, is_accepted}
use Rattle.ax_text.specs.Controls.{Cursor, Control, Ask', Going, Event, Serve, Give, slots, waiting, least_free, begin, without, give, request_at, started, step, comes_to}
use Rattle.ax_text.specs.Footprints.{ControlFits}
use Rattle.ax_text.specs.Sound.{everything, Split, Low, IsWakeful}
use Rattle.ax_text.specs.Futures.{going}

-- its arms are apart and wait at different slots, it waits unless it is done, and answers stand only where it waits
pub record IsUnderway (g : Going) : Type 0 where
  pub fits : ControlFits g.control everything
  pub split : Split g.control
  pub wakeful : IsWakeful g.control
  pub blank : (s : ℕ) → has s (slots g.control) ≡ false → g.answers s ≡ None

-- how many requests are still to be served
abbrev pub to_serve : Facts → Going → ℕ
to_serve f g = (comes_to f g).served - g.world.served

-- behind a serve: one request fewer is left, the handler comes to the same, and hasn't moved or said anything
pub record ServesOne (f : Facts) (g h : Going) : Type 0 where
  pub one : to_serve f g ≡ suc (to_serve f h)
  pub same : comes_to f h ≡ comes_to f g
  pub control : h.control ≡ g.control
  pub talk : h.world.talk ≡ g.world.talk

-- behind an answer: as many requests are left, the handler comes to the same, and has moved; the states are as they were
pub record GivesOn (f : Facts) (g h : Going) : Type 0 where
  pub none : to_serve f h ≡ to_serve f g
  pub same : comes_to f h ≡ comes_to f g
  pub control : h.control ≢ g.control
  pub cells : h.world.cells ≡ g.world.cells
  pub served : h.world.served ≡ g.world.served

-- a request that waits, and isn't served yet
abbrev pub ServesAt : Facts → Going → ℕ → Request → Type 0
ServesAt f g s r = IsUnderway g → request_at g.control s ≡ Some r → g.answers s ≡ None → ServesOne f g (step f (Serve s) g)

-- an answer that was served, and isn't given yet
abbrev pub GivesAt : Facts → Going → ℕ → Answer → Type 0
GivesAt f g s a = IsUnderway g → g.answers s ≡ Some a → GivesOn f g (step f (Give s) g)

abbrev pub StartsUnderway : Facts → Text → World → Type 0
StartsUnderway f text w = is_accepted text ≡ true → IsUnderway (started f text w)

abbrev pub StepsUnderway : Facts → Event → Going → Type 0
StepsUnderway f e g = IsUnderway g → IsUnderway (step f e g)

-- no number twice
abbrev pub Differ : List ℕ → Type 0
Differ [] = Unit {0}
Differ (s ∷ ss) = (has s ss ≡ false) × Differ ss

-- the slots differ, there are at most n, and each is below n
pub record HasSlots (n : ℕ) (c : Control) : Type 0 where
  pub differ : Differ (slots c)
  pub few : length (slots c) ≤ n
  pub low : Low n (waiting c)

abbrev pub KeepsSlots : ℕ → Facts → Text → Cells → List Event → Type 0
KeepsSlots n f text cells events = is_accepted text ≡ true → width text ≤ n → HasSlots n (going f text cells events).control

-- each request in turn takes the least slot that is free then
unfoldable pub TakesLeast : List ℕ → List Ask' → Type 0
TakesLeast used [] = Unit {0}
TakesLeast used (a ∷ as') = (a.slot ≡ least_free used) × TakesLeast (used ++ a.slot ∷ []) as'

abbrev pub BeginTakesLeast : Facts → Cursor → List ℕ → Talk → Type 0
BeginTakesLeast f k used t = TakesLeast used (begin f k used t).asks

abbrev pub GiveTakesLeast : Facts → Control → ℕ → Answer → Talk → Type 0
GiveTakesLeast f c s a t = has s (slots c) ≡ true → TakesLeast (without s (slots c)) (give f c s a t).asks

-- the least slot that is free: it is, and none below it is
pub record IsLeastFree (used : List ℕ) (slot : ℕ) : Type 0 where
  pub free : has slot used ≡ false
  pub least : (s : ℕ) → s < slot → has s used ≡ true

-- slots that strictly rise
unfoldable pub SlotsRise : List Ask' → Type 0
SlotsRise [] = Unit {0}
SlotsRise (a ∷ as') = AllByRecursion (λ b. a.slot < b.slot) as' × SlotsRise as'

-- the arms of an accepted text may run in either order
abbrev pub ArmsCommute : Facts → Text → Text → Text → World → Type 0
ArmsCommute f one two rest w = is_accepted (Both one two rest) ≡ true → run f one (run f two w) ≡ run f two (run f one w)
