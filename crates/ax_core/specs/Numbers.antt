-- The numbers that contexts get, in the order in which they are made.
use Rattle.std.specs.Prelude.{◌≡◌, ◌⊎◌, ℕ, zero, suc, List, [], ◌∷◌, Option, Some, None}
use Rattle.ax_context.specs.Slots.{ahead, IsTaken, IsFirstFree}
use Rattle.ax_core.specs.declared.effects.Fired.{Fired}
use Rattle.ax_core.specs.declared.controller.Controller.{Controller}
use Rattle.ax_core.specs.Views.{contexts_of}

-- the next number, and whether a context that is in flight has a number
abbrev pub next_number : Controller → ℕ
next_number a = (contexts_of a).next

abbrev pub IsUsed : Controller → ℕ → Type 0
IsUsed a n = IsTaken (contexts_of a) n

-- a context was made with the next number that no context in flight has, and the next is one more
pub record IsNumbered (old new : Controller) (n : ℕ) : Type 0 where
  pub number : IsFirstFree (contexts_of old) n
  pub next : next_number new ≡ ahead n 1
  pub used : (k : ℕ) → IsUsed new k → (k ≡ n) ⊎ IsUsed old k

-- no context was made, and the next number stays
pub record NoneNumbered (old new : Controller) : Type 0 where
  pub next : next_number new ≡ next_number old
  pub used : (k : ℕ) → IsUsed new k → IsUsed old k

-- contexts may have been given up, and then one was made where this has a number
abbrev pub NumbersWith : Controller → Controller → Option ℕ → Type 0
NumbersWith old new None = NoneNumbered old new
NumbersWith old new (Some n) = (mid : Controller) × NoneNumbered old mid × IsNumbered mid new n

-- that of a timer that fires
abbrev pub number_fired : Option Fired → Option ℕ
number_fired None = None
number_fired (Some f) = Some f.context

abbrev pub NumbersBehind : Controller → Controller → Option Fired → Type 0
NumbersBehind old new fired = NumbersWith old new (number_fired fired)

-- no context was made yet: the first gets 1
pub record NothingNumbered (a : Controller) : Type 0 where
  pub next : next_number a ≡ 1
  pub used : (k : ℕ) → IsUsed a k → ⊥

-- a call, by the controller that it leaves and the number of the context that it made, if any
pub record Call : Type 0 where
  pub leaves : Controller
  pub number : Option ℕ

-- calls in their order
abbrev pub AreCalls : Controller → List Call → Type 0
AreCalls a [] = Unit {0}
AreCalls a (c ∷ cs) = NumbersWith a c.leaves c.number × AreCalls c.leaves cs

-- the numbers of the contexts that they made
abbrev pub with_number : Option ℕ → List ℕ → List ℕ
with_number None ns = ns
with_number (Some n) ns = n ∷ ns

abbrev pub numbers_of : List Call → List ℕ
numbers_of [] = []
numbers_of (c ∷ cs) = with_number c.number (numbers_of cs)

-- so many numbers, from this one on
abbrev pub numbers_from : ℕ → ℕ → List ℕ
numbers_from n zero = []
numbers_from n (suc k) = n ∷ numbers_from (suc n) k
