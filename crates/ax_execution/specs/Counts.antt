-- The references of a context, and what of an epoch is left.
use Rattle.std.specs.Prelude.{ℕ, ◌+◌, nat_eq, List, [], ◌∷◌, length, Bool, true, false, if◌then◌else◌, Option, Some, None}
use Rattle.ax_text.specs.declared.vocabulary.Handler.{Handler}
use Rattle.ax_text.specs.declared.vocabulary.Handler.TheVariants as handler
use Rattle.ax_text.specs.Controls.{slots}
use Rattle.ax_execution.specs.Contexts.{Stage, Unbegun, Begun, Context, Waiting, Row, Mark, Part}
use Rattle.ax_execution.specs.Machine.{Machine, Happening, Admit, Close, Fire, Start, Serve, Deliver, Send}
use Rattle.ax_execution.specs.Sums.{total}

-- the requests of a context whose callback hasn't ended, and one until its start has ended
abbrev pub references : Stage → ℕ
references Unbegun = 1
references (Begun r) = length (slots r.control)

abbrev pub one_at : ℕ → ℕ → ℕ
one_at e f = if nat_eq f e then 1 else 0

-- one for a row of an epoch; a firing is covered by its mark
abbrev pub row_of_epoch : ℕ → Handler → ℕ → ℕ
row_of_epoch e handler.Row f = one_at e f
row_of_epoch e handler.Timer f = 0

abbrev pub owner_of_epoch : ℕ → Option Context → ℕ
owner_of_epoch e None = 0
owner_of_epoch e (Some c) = row_of_epoch e c.job.handler c.epoch

abbrev pub waiting_of_epoch : ℕ → List Waiting → ℕ
waiting_of_epoch e [] = 0
waiting_of_epoch e (Row n f facts ∷ is) = one_at e f + waiting_of_epoch e is
waiting_of_epoch e (Mark f w more ∷ is) = one_at e f + waiting_of_epoch e is

abbrev pub part_of_epoch : ℕ → Part → ℕ
part_of_epoch e part = owner_of_epoch e part.owner + waiting_of_epoch e part.waiting

-- the contexts of rows of an epoch, and its marks
abbrev pub epoch_count : ℕ → Machine → ℕ
epoch_count e m = total m.keys (λ k. part_of_epoch e (m.parts k))

-- the contexts that have a number
abbrev pub owner_numbered : ℕ → Option Context → ℕ
owner_numbered n None = 0
owner_numbered n (Some c) = one_at n c.number

abbrev pub rows_numbered : ℕ → List Waiting → ℕ
rows_numbered n [] = 0
rows_numbered n (Row i e f ∷ is) = one_at n i + rows_numbered n is
rows_numbered n (Mark e w more ∷ is) = rows_numbered n is

abbrev pub part_numbered : ℕ → Part → ℕ
part_numbered n part = owner_numbered n part.owner + rows_numbered n part.waiting

abbrev pub number_count : ℕ → Machine → ℕ
number_count n m = total m.keys (λ k. part_numbered n (m.parts k))

-- the references of the contexts that have a number: a row that waits hasn't begun
abbrev pub owner_references : ℕ → Option Context → ℕ
owner_references n None = 0
owner_references n (Some c) = if nat_eq c.number n then references c.stage else 0

abbrev pub part_references : ℕ → Part → ℕ
part_references n part = owner_references n part.owner + rows_numbered n part.waiting

abbrev pub reference_count : ℕ → Machine → ℕ
reference_count n m = total m.keys (λ k. part_references n (m.parts k))

-- one for a context that is given up
abbrev pub one_if_gone : Bool → ℕ
one_if_gone true = 1
one_if_gone false = 0

-- how many contexts an event makes: one at a row and at a firing
abbrev pub made : Happening → ℕ
made (Admit n k time values) = 1
made (Close c) = 0
made (Fire n k) = 1
made (Start k) = 0
made (Serve k slot) = 0
made (Deliver k slot) = 0
made Send = 0

-- how many of them have a number
abbrev pub made_as : ℕ → Happening → ℕ
made_as n (Admit i k time values) = one_at n i
made_as n (Close c) = 0
made_as n (Fire i k) = one_at n i
made_as n (Start k) = 0
made_as n (Serve k slot) = 0
made_as n (Deliver k slot) = 0
made_as n Send = 0

-- whether a callback of a context with this number runs
abbrev pub owns : ℕ → Option Context → Bool
owns n None = false
owns n (Some c) = nat_eq c.number n

abbrev pub calls : ℕ → Happening → Machine → Bool
calls n (Admit i k time values) m = false
calls n (Close c) m = false
calls n (Fire i k) m = false
calls n (Start k) m = owns n (m.parts k).owner
calls n (Serve k slot) m = false
calls n (Deliver k slot) m = owns n (m.parts k).owner
calls n Send m = false

abbrev pub counted : Bool → ℕ → ℕ
counted b x = if b then x else 0
