-- The run of a handler: each statement acts at once, and nothing waits.
use Rattle.std.specs.Prelude.{ℕ, ℤ, pos, ◌+◌, List, [], ◌∷◌, ◌++◌, map, if◌then◌else◌}
use Rattle.std.specs.Ordering.{int_eq}
use Rattle.ax_base.specs.declared.lists.Pair.{Pair}
use Rattle.ax_text.specs.declared.vocabulary.Request.{Request}
use Rattle.ax_text.specs.declared.vocabulary.Request.TheVariants as request
use Rattle.ax_text.specs.declared.vocabulary.Answer.{Answer}
use Rattle.ax_text.specs.declared.vocabulary.Answer.TheVariants as answer
use Rattle.ax_text.specs.declared.vocabulary.TimerOp.{TimerOp}
use Rattle.ax_text.specs.declared.vocabulary.TimerOp.TheVariants as timer
use Rattle.ax_text.specs.Functions.{upd}
use Rattle.ax_text.specs.Exprs.{Facts, Names, flag, value}
use Rattle.ax_text.specs.Cells.{Cells, answer_of, cells_after}
use Rattle.ax_text.specs.KeyStates.{KeyState}
use Rattle.ax_text.specs.Times.{insert_time, remove_time}
use Rattle.ax_text.specs.Texts.{Quiet, Let, Emit, Timer, Untimer, Asking, Get, GetAt, Has, Empty, Put, PutAt, PutAll, Add, Remove, Clear, Loop, Items, Entries, Text, Stop, Act, Ask, If, Each, Both}

-- what a handler has worked out so far: its local names, the output lines that it wrote, and what it did to its key's timers
pub record Talk : Type 0 where
  pub names : Names
  pub lines : List (List ℤ)
  pub ops : List TimerOp

-- with the states of its key, and how many requests were served
pub record World : Type 0 where
  pub talk : Talk
  pub cells : Cells
  pub served : ℕ

abbrev pub with_names : Names → Talk → Talk
with_names names t = record { names = names; lines = t.lines; ops = t.ops }

abbrev pub act : Facts → Quiet → Talk → Talk
act f (Let name e) t = with_names (upd t.names name (value f t.names e)) t
act f (Emit values) t = record { names = t.names; lines = t.lines ++ map (value f t.names) values ∷ []; ops = t.ops }
act f (Timer time) t = record { names = t.names; lines = t.lines; ops = t.ops ++ timer.Set (value f t.names time) ∷ [] }
act f (Untimer time) t = record { names = t.names; lines = t.lines; ops = t.ops ++ timer.Unset (value f t.names time) ∷ [] }

-- what is asked; expressions are worked out when the statement begins
abbrev pub request_of : Facts → Asking → Names → Request
request_of f (Get name state missing) names = request.ValueGet state
request_of f (GetAt name state place missing) names = request.MapGet state (value f names place)
request_of f (Has name state place) names = request.MapHas state (value f names place)
request_of f (Empty name state) names = request.MapEmpty state
request_of f (Put state number) names = request.ValuePut state (value f names number)
request_of f (PutAt state place number) names = request.MapPut state (value f names place) (value f names number)
request_of f (PutAll state numbers) names = request.ListPut state (map (value f names) numbers)
request_of f (Add state number) names = request.ListAdd state (value f names number)
request_of f (Remove state place) names = request.MapRemove state (value f names place)
request_of f (Clear state) names = request.Clear state

-- what becomes of an answer
pub data After : Type 0 where
  Assign : (name : ℕ) → (missing : ℤ) → After
  Ignore : After

abbrev pub after_of : Facts → Asking → Names → After
after_of f (Get name state missing) names = Assign name (value f names missing)
after_of f (GetAt name state place missing) names = Assign name (value f names missing)
after_of f (Has name state place) names = Assign name (pos 0)
after_of f (Empty name state) names = Assign name (pos 0)
after_of f _ names = Ignore

abbrev pub number_or : Answer → ℤ → ℤ
number_or (answer.Found number) d = number
number_or (answer.Flag b) d = flag b
number_or _ d = d

abbrev pub take_in : After → Answer → Names → Names
take_in (Assign name missing) a names = upd names name (number_or a missing)
take_in Ignore a names = names

abbrev pub talk_in : (Talk → Talk) → World → World
talk_in f w = record { talk = f w.talk; cells = w.cells; served = w.served }

-- a request is served
abbrev pub apply : Request → World → World
apply r w = record { talk = w.talk; cells = cells_after r w.cells; served = w.served + 1 }

-- a request is served at once, and its answer taken in
abbrev pub serve : Request → After → World → World
serve r after w = talk_in (λ t. with_names (take_in after (answer_of r w.cells) t.names) t) (apply r w)

abbrev pub act_in : Facts → Quiet → World → World
act_in f q w = talk_in (act f q) w

abbrev pub ask_in : Facts → Asking → World → World
ask_in f a w = serve (request_of f a w.talk.names) (after_of f a w.talk.names) w

-- what an `each` asks, and the turns that the answer gives it
abbrev pub loop_request : Loop → Request
loop_request (Items name state) = request.ListGet state
loop_request (Entries key number state) = request.MapEntries state

abbrev pub turns_of : Answer → List Pair
turns_of (answer.Items items) = map (λ i. record { at = i; number = pos 0 }) items
turns_of (answer.Pairs pairs) = pairs
turns_of _ = []

-- the names of an `each` take a turn
abbrev pub bind : Loop → Pair → Names → Names
bind (Items name state) p names = upd names name p.at
bind (Entries key number state) p names = upd (upd names key p.at) number p.number

abbrev pub run_turns : (World → World) → Loop → List Pair → World → World
run_turns go l [] w = w
run_turns go l (p ∷ ps) w = run_turns go l ps (go (talk_in (λ t. with_names (bind l p t.names) t) w))

abbrev pub choose : {A : Type 0} → ℤ → A → A → A
choose n a b = if int_eq n (pos 0) then b else a

abbrev pub run : Facts → Text → World → World
run f Stop w = w
run f (Act q t) w = run f t (act_in f q w)
run f (Ask a t) w = run f t (ask_in f a w)
run f (If e a b t) w = run f t (choose (value f w.talk.names e) (run f a) (run f b) w)
run f (Each l body t) w = run f t (run_turns (run f body) l (turns_of (answer_of (loop_request l) w.cells)) (apply (loop_request l) w))
run f (Both a b t) w = run f t (run f b (run f a w))

-- a handler begins: its local names are 0
abbrev pub begun : Cells → World
begun cells = record { talk = record { names = λ i. pos 0; lines = []; ops = [] }; cells = cells; served = 0 }

-- the times of a key behind what was done to its timers, in order
abbrev pub time_after : TimerOp → List ℤ → List ℤ
time_after (timer.Set time) times = insert_time time times
time_after (timer.Unset time) times = remove_time time times

abbrev pub times_after : List TimerOp → List ℤ → List ℤ
times_after [] times = times
times_after (o ∷ os) times = times_after os (time_after o times)

-- what a key has behind a run that began with this
abbrev pub state_after : KeyState → World → KeyState
state_after s w = record { cells = w.cells; times = times_after w.talk.ops s.times }
