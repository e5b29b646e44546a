-- What is kept of one key: an owner or none, and what waits for the key, the oldest first.
use Rattle.std.specs.Prelude.{◌+◌, Bool, true, false, ◌&&◌, List, [], ◌∷◌, ◌++◌, drop, nat_lt, Option, Some, None, is_none, if◌then◌else◌}
use Rattle.ax_keys.specs.declared.TheConstants.{MOST_FIRINGS}
use Rattle.ax_context.specs.declared.id.Id.{Id}
use Rattle.ax_account.specs.declared.part.Waiting.{Waiting}
use Rattle.ax_account.specs.declared.part.Waiting.TheVariants.{Row, Mark}
use Rattle.ax_account.specs.declared.part.Next.{Next}
use Rattle.ax_account.specs.declared.part.Next.TheVariants as next

pub record Part : Type 0 where
  pub owner : Option Id
  pub waiting : List Waiting

-- a key that nobody owns and for which nothing waits
abbrev pub free : Part
free = record { owner = None; waiting = [] }

abbrev pub is_empty : List Waiting → Bool
is_empty [] = true
is_empty (item ∷ items) = false

abbrev pub is_free : Part → Bool
is_free part = is_none part.owner && is_empty part.waiting

-- a key that a row owns, and for which nothing waits
abbrev pub owned : Id → Part
owned id = record { owner = Some id; waiting = [] }

-- one more item waits, the last of all
abbrev pub waits : Waiting → Part → Part
waits item part = record { owner = part.owner; waiting = part.waiting ++ item ∷ [] }

-- the item in front
abbrev pub next_of : List Waiting → Next
next_of [] = next.Free
next_of (Row id ∷ items) = next.Row id
next_of (Mark epoch time fired ∷ items) = next.Mark epoch time fired

-- a key without owner for which these wait is handed over: a row in front leaves and owns it, a mark in front stays
abbrev pub taken_up : List Waiting → Part
taken_up [] = free
taken_up (Row id ∷ items) = record { owner = Some id; waiting = items }
taken_up (Mark epoch time fired ∷ items) = record { owner = None; waiting = Mark epoch time fired ∷ items }

-- the mark in front is taken off
abbrev pub mark_ended : List Waiting → List Waiting
mark_ended items = drop 1 items

abbrev pub is_mark : Next → Bool
is_mark (next.Row id) = false
is_mark (next.Mark epoch time fired) = true
is_mark next.Free = false

-- a mark that has fired less often than a mark may
abbrev pub may_fire : Next → Bool
may_fire (next.Row id) = false
may_fire (next.Mark epoch time fired) = nat_lt fired MOST_FIRINGS
may_fire next.Free = false

-- the mark in front has fired once more; it stays in front
abbrev pub fired_once : List Waiting → List Waiting
fired_once [] = []
fired_once (Row id ∷ items) = Row id ∷ items
fired_once (Mark epoch time fired ∷ items) = Mark epoch time (fired + 1) ∷ items

abbrev pub fired_by : Id → Part → Part
fired_by id part = record { owner = Some id; waiting = fired_once part.waiting }

-- a key with no owner and a mark in front
abbrev pub may_idle : Part → Bool
may_idle part = is_none part.owner && is_mark (next_of part.waiting)

-- what is kept of a part: nothing where it is free
abbrev pub kept : Part → Option Part
kept part = if is_free part then None else Some part
