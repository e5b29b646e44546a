-- A handler that waits, as data: controls, how they begin, take answers, and what is left of them.
use Rattle.std.specs.Prelude.{ℕ, zero, suc, ◌+◌, List, [], ◌∷◌, ◌++◌, Bool, true, false, ◌&&◌, nat_eq, if◌then◌else◌, Option, Some, None}
use Rattle.ax_base.specs.declared.lists.Pair.{Pair}
use Rattle.ax_text.specs.declared.vocabulary.Request.{Request}
use Rattle.ax_text.specs.declared.vocabulary.Answer.{Answer}
use Rattle.ax_text.specs.Exprs.{Facts, value}
use Rattle.ax_text.specs.Cells.{answer_of}
use Rattle.ax_text.specs.Texts.{Loop, Text, Stop, Act, Ask, If, Each, Both}
use Rattle.ax_text.specs.Run.{Talk, World, with_names, act, request_of, After, after_of, take_in, talk_in, apply, loop_request, turns_of, bind, run_turns, choose, run}
use Rattle.ax_text.specs.Functions.{upd}
use Rattle.ax_text.specs.Prints.{has}

-- what is still to be run: a text, or the turns that are left of an `each`
pub data Frame : Type 0 where
  Rest : (text : Text) → Frame
  Turns : (loop : Loop) → (turns : List Pair) → (body : Text) → Frame

-- a place in the text, the innermost frame first
abbrev pub Cursor : Type 0
Cursor = List Frame

-- where an answer goes: to a local name, or into an `each`
pub data Next : Type 0 where
  Take : (after : After) → Next
  Begin : (loop : Loop) → (body : Text) → Next

pub data Control : Type 0 where
  Done : Control
  Wait : (slot : ℕ) → (request : Request) → (next : Next) → (cursor : Cursor) → Control
  Arms : (one two : Control) → (cursor : Cursor) → Control

pub record Ask' : Type 0 where
  pub slot : ℕ
  pub request : Request

-- what a callback leaves: the control, what was said, and what is asked
pub record Turn : Type 0 where
  pub control : Control
  pub talk : Talk
  pub asks : List Ask'

abbrev pub slots : Control → List ℕ
slots Done = []
slots (Wait s r n k) = s ∷ []
slots (Arms one two k) = slots one ++ slots two

-- the requests that wait, with their slots
abbrev pub waiting : Control → List Ask'
waiting Done = []
waiting (Wait s r n k) = record { slot = s; request = r } ∷ []
waiting (Arms one two k) = waiting one ++ waiting two

-- others in the place of the one at a slot
abbrev pub replaced : ℕ → List Ask' → List Ask' → List Ask'
replaced s others [] = []
replaced s others (a ∷ as') = if nat_eq s a.slot then others ++ as' else a ∷ replaced s others as'

abbrev pub is_done : Control → Bool
is_done Done = true
is_done (Wait s r n k) = false
is_done (Arms one two k) = false

abbrev pub free_from : ℕ → ℕ → List ℕ → ℕ
free_from zero n used = n
free_from (suc more) n used = if has n used then free_from more (suc n) used else n

abbrev pub total : List ℕ → ℕ
total [] = 0
total (x ∷ xs) = x + total xs

-- the least slot that is free
unfoldable pub least_free : List ℕ → ℕ
least_free used = free_from (suc (total used)) 0 used

abbrev pub ended : Talk → Turn
ended t = record { control = Done; talk = t; asks = [] }

abbrev pub also : List Ask' → Turn → Turn
also asks it = record { control = it.control; talk = it.talk; asks = asks ++ it.asks }

abbrev pub waits : ℕ → Request → Next → Cursor → Talk → Turn
waits s r n k t = record { control = Wait s r n k; talk = t; asks = record { slot = s; request = r } ∷ [] }

-- two arms that went as far as they can, and what goes on behind them
abbrev pub joined : Control → Control → List Ask' → Cursor → (Talk → Turn) → Talk → Turn
joined one two asks k go t = if is_done one && is_done two then also asks (go t) else record { control = Arms one two k; talk = t; asks = asks }

-- from a text through the statements that ask nothing; `go` goes on at the cursor behind it
abbrev pub begin_text : Facts → Text → List ℕ → Cursor → (Talk → Turn) → Talk → Turn
begin_text f Stop used k go t = go t
begin_text f (Act q c) used k go t = begin_text f c used k go (act f q t)
begin_text f (Ask a c) used k go t = waits (least_free used) (request_of f a t.names) (Take (after_of f a t.names)) (Rest c ∷ k) t
begin_text f (If e a b c) used k go t =
    choose (value f t.names e)
    (begin_text f a used (Rest c ∷ k) (begin_text f c used k go))
    (begin_text f b used (Rest c ∷ k) (begin_text f c used k go)) t
begin_text f (Each l body c) used k go t = waits (least_free used) (loop_request l) (Begin l body) (Rest c ∷ k) t
begin_text f (Both a b c) used k go t =
    let one : Turn = begin_text f a used [] ended t in
    let two : Turn = begin_text f b (used ++ slots one.control) [] ended one.talk in
    joined one.control two.control (one.asks ++ two.asks) (Rest c ∷ k) (begin_text f c used k go) two.talk

abbrev pub begin_turns : Facts → Loop → List Pair → Text → List ℕ → Cursor → (Talk → Turn) → Talk → Turn
begin_turns f l [] body used k go t = go t
begin_turns f l (p ∷ ps) body used k go t =
    begin_text f body used (Turns l ps body ∷ k) (begin_turns f l ps body used k go) (with_names (bind l p t.names) t)

abbrev pub begin_frame : Facts → Frame → List ℕ → Cursor → (Talk → Turn) → Talk → Turn
begin_frame f (Rest c) used k go t = begin_text f c used k go t
begin_frame f (Turns l ps body) used k go t = begin_turns f l ps body used k go t

unfoldable pub begin : Facts → Cursor → List ℕ → Talk → Turn
begin f [] used t = ended t
begin f (x ∷ k) used t = begin_frame f x used k (begin f k used) t

abbrev pub resume : Facts → Next → Answer → Cursor → List ℕ → Talk → Turn
resume f (Take after) a k used t = begin f k used (with_names (take_in after a t.names) t)
resume f (Begin l body) a k used t = begin f (Turns l (turns_of a) body ∷ k) used t

-- an answer is handed to the wait of a slot; `used` are the slots of the other waits
abbrev pub give_in : Facts → Control → ℕ → Answer → List ℕ → Talk → Turn
give_in f Done s a used t = ended t
give_in f (Wait s' r n k) s a used t = resume f n a k used t
give_in f (Arms one two k) s a used t =
    if has s (slots one)
    then (let it : Turn = give_in f one s a used t in joined it.control two it.asks k (begin f k used) it.talk)
    else (let it : Turn = give_in f two s a used t in joined one it.control it.asks k (begin f k used) it.talk)

abbrev pub without : ℕ → List ℕ → List ℕ
without s [] = []
without s (x ∷ xs) = if nat_eq s x then without s xs else x ∷ without s xs

unfoldable pub give : Facts → Control → ℕ → Answer → Talk → Turn
give f c s a t = give_in f c s a (without s (slots c)) t

-- a request that waits at a slot
abbrev pub request_at : Control → ℕ → Option Request
request_at Done s = None
request_at (Wait s' r n k) s = if nat_eq s s' then Some r else None
request_at (Arms one two k) s = if has s (slots one) then request_at one s else request_at two s

abbrev pub run_frame : Facts → Frame → World → World
run_frame f (Rest t) w = run f t w
run_frame f (Turns l ps body) w = run_turns (run f body) l ps w

abbrev pub run_cursor : Facts → Cursor → World → World
run_cursor f [] w = w
run_cursor f (x ∷ k) w = run_cursor f k (run_frame f x w)

abbrev pub finish : Facts → Next → Answer → World → World
finish f (Take after) a w = talk_in (λ t. with_names (take_in after a t.names) t) w
finish f (Begin l body) a w = run_turns (run f body) l (turns_of a) w

-- the answers that were served, by slot
abbrev pub Answers : Type 0
Answers = ℕ → Option Answer

-- what was answered, or is applied now
abbrev pub left_wait : Facts → Option Answer → Request → Next → World → World
left_wait f (Some a) r n w = finish f n a w
left_wait f None r n w = finish f n (answer_of r w.cells) (apply r w)

-- what a control still has to do, with the answers that were served
abbrev pub left : Facts → Answers → Control → World → World
left f answers Done w = w
left f answers (Wait s r n k) w = run_cursor f k (left_wait f (answers s) r n w)
left f answers (Arms one two k) w = run_cursor f k (left f answers two (left f answers one w))

-- the three ways to put controls together: the answer is taken in, the text goes on behind, two arms wait side by side
abbrev pub taken_by : Control → After → Control
taken_by Done after = Done
taken_by (Wait s r n k) after = Wait s r (Take after) k
taken_by (Arms one two k) after = Arms one two k

abbrev pub compose : Control → Cursor → Control
compose Done rest = Arms Done Done rest
compose (Wait s r n k) rest = Wait s r n (k ++ rest)
compose (Arms one two k) rest = Arms one two (k ++ rest)

abbrev pub combine : Control → Control → Control
combine one two = Arms one two []

-- a handler on its way: requests are served and answers given in any order

pub record Going : Type 0 where
  pub control : Control
  pub answers : Answers
  pub world : World

pub data Event : Type 0 where
  Serve : (slot : ℕ) → Event
  Give : (slot : ℕ) → Event

abbrev pub started : Facts → Text → World → Going
started f t w =
    let it : Turn = begin f (Rest t ∷ []) [] w.talk in
    record { control = it.control; answers = λ s. None; world = record { talk = it.talk; cells = w.cells; served = w.served } }

abbrev pub serve_at : ℕ → Option Request → Option Answer → Going → Going
serve_at s (Some r) None g = record { control = g.control; answers = upd g.answers s (Some (answer_of r g.world.cells)); world = apply r g.world }
serve_at s r a g = g

abbrev pub give_at : Facts → ℕ → Option Answer → Going → Going
give_at f s None g = g
give_at f s (Some a) g =
    let it : Turn = give f g.control s a g.world.talk in
    record { control = it.control; answers = upd g.answers s None; world = record { talk = it.talk; cells = g.world.cells; served = g.world.served } }

abbrev pub step : Facts → Event → Going → Going
step f (Serve s) g = serve_at s (request_at g.control s) (g.answers s) g
step f (Give s) g = give_at f s (g.answers s) g

abbrev pub steps : Facts → List Event → Going → Going
steps f [] g = g
steps f (e ∷ es) g = steps f es (step f e g)

-- what is still to be done, with what was done
abbrev pub comes_to : Facts → Going → World
comes_to f g = left f g.answers g.control g.world
