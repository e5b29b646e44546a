-- Which events are allowed.
use Rattle.std.specs.Prelude.{◌≡◌, ℕ, ◌<◌, int_lt, List, [], ◌∷◌, true, false, Option, Some, None}
use Rattle.ax_text.specs.declared.vocabulary.Request.{Request}
use Rattle.ax_text.specs.declared.vocabulary.Answer.{Answer}
use Rattle.ax_text.specs.Programs.{Program}
use Rattle.ax_text.specs.Controls.{request_at}
use Rattle.ax_machine.specs.Entries.{Key}
use Rattle.ax_execution.specs.Contexts.{Stage, Unbegun, Begun, Context, Waiting, Row, Mark, is_idle}
use Rattle.ax_execution.specs.Machine.{Closing, ByWatermark, ByBarrier, Closed, Machine, Happening, Admit, Close, Fire, Start, Serve, Deliver, Send, Rules, happens, in_flight}

abbrev pub IsWatermark : Closing → Type 0
IsWatermark (ByWatermark time) = Unit {0}
IsWatermark (ByBarrier id) = ⊥

abbrev pub NoBarrier : List Closed → Type 0
NoBarrier [] = Unit {0}
NoBarrier (c ∷ cs) = IsWatermark c.closing × NoBarrier cs

-- no barrier is unsent, and in serial mode no marker
abbrev pub IsOpen : Rules → Machine → Type 0
IsOpen r m = NoBarrier m.unsent × (r.serial ≡ true → m.unsent ≡ [])

abbrev pub NoneIsIdle : Machine → Type 0
NoneIsIdle m = (k : Key) → is_idle (m.parts k) ≡ false

-- nothing of an epoch up to e is left
abbrev pub OwnedLater : ℕ → Option Context → Type 0
OwnedLater e None = Unit {0}
OwnedLater e (Some c) = e < c.epoch

abbrev pub WaitLater : ℕ → List Waiting → Type 0
WaitLater e [] = Unit {0}
WaitLater e (Row n f facts ∷ is) = (e < f) × WaitLater e is
WaitLater e (Mark f w more ∷ is) = (e < f) × WaitLater e is

abbrev pub IsFinished : ℕ → Machine → Type 0
IsFinished e m = (k : Key) → OwnedLater e (m.parts k).owner × WaitLater e (m.parts k).waiting

abbrev pub FirstIsFinished : List Closed → Machine → Type 0
FirstIsFinished [] m = ⊥
FirstIsFinished (c ∷ cs) m = IsFinished c.epoch m

abbrev pub NumbersOwner : ℕ → Option Context → Type 0
NumbersOwner n None = ⊥
NumbersOwner n (Some c) = c.number ≡ n

-- no context in flight has this number
abbrev pub NotIn : ℕ → List Waiting → Type 0
NotIn n [] = Unit {0}
NotIn n (Row i e f ∷ is) = (i ≡ n → ⊥) × NotIn n is
NotIn n (Mark e w more ∷ is) = NotIn n is

abbrev pub IsNew : ℕ → Machine → Type 0
IsNew n m = (k : Key) → (NumbersOwner n (m.parts k).owner → ⊥) × NotIn n (m.parts k).waiting

abbrev pub StageUnbegun : Stage → Type 0
StageUnbegun Unbegun = Unit {0}
StageUnbegun (Begun r) = ⊥

-- a request of a slot that wasn't served, and one that was
abbrev pub StageAsks : ℕ → Stage → Type 0
StageAsks slot Unbegun = ⊥
StageAsks slot (Begun r) = ((q : Request) × (request_at r.control slot ≡ Some q)) × (r.answers slot ≡ None)

abbrev pub StageHas : ℕ → Stage → Type 0
StageHas slot Unbegun = ⊥
StageHas slot (Begun r) = (a : Answer) × (r.answers slot ≡ Some a)

abbrev pub OfOwner : (Stage → Type 0) → Option Context → Type 0
OfOwner P None = ⊥
OfOwner P (Some c) = P c.stage

abbrev pub MayFireNow : Key → Option Key → Type 0
MayFireNow k None = Unit {0}
MayFireNow k (Some j) = j ≡ k

abbrev pub Allowed : Rules → Happening → Machine → Type 0
Allowed r (Admit n k time values) m = (m.must ≡ None) × IsOpen r m × (in_flight m < r.limit) × NoneIsIdle m × IsNew n m
Allowed r (Close (ByWatermark w)) m = (m.must ≡ None) × IsOpen r m × (int_lt m.wm w ≡ true)
Allowed r (Close (ByBarrier id)) m = (m.must ≡ None) × IsOpen r m
Allowed r (Fire n k) m = MayFireNow k m.must × (is_idle (m.parts k) ≡ true) × (in_flight m < r.limit) × IsNew n m
Allowed r (Start k) m = (m.must ≡ None) × OfOwner StageUnbegun (m.parts k).owner
Allowed r (Serve k slot) m = (m.must ≡ None) × OfOwner (StageAsks slot) (m.parts k).owner
Allowed r (Deliver k slot) m = (m.must ≡ None) × OfOwner (StageHas slot) (m.parts k).owner
Allowed r Send m = (m.must ≡ None) × FirstIsFinished m.unsent m

-- events, each allowed at its place
abbrev pub IsRun : Rules → ℕ → Program → List Happening → Machine → Type 0
IsRun r g p [] m = Unit {0}
IsRun r g p (e ∷ es) m = Allowed r e m × IsRun r g p es (happens g p e m)
