-- The control of a key, and of the machine, behind each event.
use Rattle.std.proofs.Common.{◌≡◌, ℕ, zero, suc, ℤ, int_le, List, [], ◌∷◌, ◌++◌, Bool, true, false, cond, Option, Some, None, refl, sym, ap, ◌∙◌, append-nil}
use Rattle.std.specs.Str.{bytes_eq}
use Rattle.std.specs.BTreeSet.{insert_key}
use Rattle.ax_keys.specs.Keys.{key_cmp}
use Rattle.ax_text.specs.declared.vocabulary.Answer.{Answer}
use Rattle.ax_text.specs.Functions.{upd}
use Rattle.ax_text.specs.Exprs.{Facts}
use Rattle.ax_text.specs.Cells.{Cells}
use Rattle.ax_text.specs.Run.{times_after}
use Rattle.ax_text.specs.Jobs.{Job, Group}
use Rattle.ax_text.specs.Programs.{Program}
use Rattle.ax_text.specs.Controls.{Turn, Answers, is_done}
use Rattle.ax_text.specs.Silent.{unanswered}
use Rattle.ax_machine.specs.Entries.{Key, says}
use Rattle.ax_machine.specs.Firings.{most_firings}
use Rattle.ax_machine.specs.KeySync.{Said}
use Rattle.ax_execution.specs.Groups.{row_facts}
use Rattle.ax_execution.specs.Origins.{Origin}
use Rattle.ax_execution.specs.Contexts.{Running, Stage, Unbegun, Begun, Context, Waiting, Row, Mark, Part, running_group, is_due, may_fire, is_idle_with}
use Rattle.ax_execution.specs.Rest.{silent}
use Rattle.ax_execution.specs.Turns.{Effects, handed, timed, closed_with, left_by, called_back, begins, gives, start_owner, start, start_effects, owner_starts, serve, give_answer, deliver_owner, deliver, deliver_effects, owner_gives, fire_due, fire_front, fire, admit_at, admit, mark_at, mark}
use Rattle.ax_execution.specs.KeyControls.{KeyControl, control_of, owner_answer, keeps_answer}
use Rattle.ax_execution.specs.ControlTurns.{handed_on, called_back_on, start_owner_on, start_on, give_answer_on, deliver_owner_on, deliver_on, fire_due_on, fire_front_on, fire_on, admit_at_on, admit_on, mark_at_on, mark_on}
use Rattle.ax_execution.specs.Machine.{ByWatermark, ByBarrier, Closed, Machine, Happening, Admit, Close, Fire, Start, Serve, Deliver, Send, part_at, must_fire, goes_on, send_first, sends_first, happens, outcome, machine_from}
use Rattle.ax_execution.specs.MachineControls.{control_of_machine, at_origin, control_at, must_fire_on, control_goes_on, send_first_on, happens_on, answer_of_event, first_closing, outcome_on, sent_entries}
use Rattle.ax_execution.proofs.Cut.{serve_sees, start_effects_see, deliver_effects_see}

abbrev key : Option Context → List Waiting → Said → Part
key o is s = record { owner = o; waiting = is; said = s }

abbrev context : ℕ → ℕ → Job → Stage → Context
context n e j st = record { number = n; epoch = e; job = j; stage = st }

abbrev hushed : Running → Running
hushed r = record { control = r.control; names = r.names; answers = r.answers; lines = []; served = 0 }

if_control : (b : Bool) (x y : Part) (u v : KeyControl) → control_of x ≡ u → control_of y ≡ v → control_of (cond b x y) ≡ cond b u v
if_control true x y u v p q = p
if_control false x y u v p q = q

handed_control : (is : List Waiting) (s : Said) → control_of (handed is s) ≡ handed_on is s.state.times
handed_control [] s = refl
handed_control (Row n e f ∷ is) s = refl
handed_control (Mark e w more ∷ is) s = if_control (may_fire w more s.state.times) _ _ _ _ refl (handed_control is s)

back_control : (c : Context) (t : Turn) (answers : Answers) (lines : List (List ℤ)) (served : ℕ) (is : List Waiting) (s : Said)
    → control_of (called_back c (left_by t answers lines served) is (timed t s)) ≡ called_back_on c t answers is (times_after t.talk.ops s.state.times)
back_control c t answers lines served is s =
    if_control (is_done t.control) _ _ _ _ (handed_control is (closed_with (running_group c.job (left_by t answers lines served)) (timed t s))) refl

start_control_at : (p : Program) (o : Option Context) (is : List Waiting) (s : Said) → control_of (start_owner p o (key o is s)) ≡ start_owner_on p (silent o) (control_of (key o is s))
start_control_at p None is s = refl
start_control_at p (Some c) is s = of c.number c.epoch c.stage
  where
    of : (n e : ℕ) (st : Stage) → control_of (start_owner p (Some (context n e c.job st)) (key (Some (context n e c.job st)) is s))
        ≡ start_owner_on p (silent (Some (context n e c.job st))) (control_of (key (Some (context n e c.job st)) is s))
    of n e Unbegun = back_control (context n e c.job Unbegun) (begins p c.job) unanswered [] 0 is s
    of n e (Begun r) = refl

pub start_control : (p : Program) (part : Part) → control_of (start p part) ≡ start_on p (control_of part)
start_control p part = start_control_at p part.owner part.waiting part.said

answer_control : (n e : ℕ) (j : Job) (r : Running) (slot : ℕ) (a : Option Answer) (is : List Waiting) (s : Said)
    → control_of (give_answer (context n e j (Begun r)) r slot a (key (Some (context n e j (Begun r))) is s))
    ≡ give_answer_on (context n e j (Begun (hushed r))) (hushed r) slot a (control_of (key (Some (context n e j (Begun r))) is s))
answer_control n e j r slot None is s = refl
answer_control n e j r slot (Some a) is s = back_control (context n e j (Begun r)) (gives j r slot a) (upd r.answers slot None) r.lines r.served is s

deliver_control_at : (slot : ℕ) (o : Option Context) (is : List Waiting) (s : Said) → control_of (deliver_owner slot o (key o is s)) ≡ deliver_owner_on slot (silent o) (control_of (key o is s))
deliver_control_at slot None is s = refl
deliver_control_at slot (Some c) is s = of c.number c.epoch c.stage
  where
    of : (n e : ℕ) (st : Stage) → control_of (deliver_owner slot (Some (context n e c.job st)) (key (Some (context n e c.job st)) is s))
        ≡ deliver_owner_on slot (silent (Some (context n e c.job st))) (control_of (key (Some (context n e c.job st)) is s))
    of n e Unbegun = refl
    of n e (Begun r) = answer_control n e c.job r slot (r.answers slot) is s

pub deliver_control : (slot : ℕ) (part : Part) → control_of (deliver slot part) ≡ deliver_on slot (control_of part)
deliver_control slot part = deliver_control_at slot part.owner part.waiting part.said

-- a row, a mark and a firing

admit_control_at : (n e : ℕ) (f : Facts) (o : Option Context) (is : List Waiting) (s : Said) → control_of (admit_at n e f o is s) ≡ admit_at_on n e f (silent o) is s.state.times
admit_control_at n e f None [] s = refl
admit_control_at n e f None (i ∷ is) s = refl
admit_control_at n e f (Some c) is s = refl

pub admit_control : (n e : ℕ) (f : Facts) (part : Part) → control_of (admit n e f part) ≡ admit_on n e f (control_of part)
admit_control n e f part = admit_control_at n e f part.owner part.waiting part.said

mark_control_at : (e : ℕ) (w : ℤ) (more : ℕ) (o : Option Context) (is : List Waiting) (s : Said) → control_of (mark_at e w more o is s) ≡ mark_at_on e w more (silent o) is s.state.times
mark_control_at e w more None [] s = if_control (is_due w s.state.times) _ _ _ _ refl refl
mark_control_at e w more None (i ∷ is) s = refl
mark_control_at e w more (Some c) is s = refl

pub mark_control : (e : ℕ) (w : ℤ) (more : ℕ) (part : Part) → control_of (mark e w more part) ≡ mark_on e w more (control_of part)
mark_control e w more part = mark_control_at e w more part.owner part.waiting part.said

abbrev timing : Cells → List ℤ → List Group → Said
timing cells times groups = record { state = record { cells = cells; times = times }; groups = groups }

due_control : (n e : ℕ) (w : ℤ) (more : ℕ) (is : List Waiting) (cells : Cells) (times : List ℤ) (groups : List Group)
    → control_of (fire_due n e w more is times (key None (Mark e w (suc more) ∷ is) (timing cells times groups)))
    ≡ fire_due_on n e w more is times (control_of (key None (Mark e w (suc more) ∷ is) (timing cells times groups)))
due_control n e w more is cells [] groups = refl
due_control n e w more is cells (t ∷ ts) groups = if_control (int_le t w) _ _ _ _ refl refl

fire_control_at : (n : ℕ) (o : Option Context) (is : List Waiting) (s : Said) → control_of (fire_front n o is (key o is s)) ≡ fire_front_on n (silent o) is (control_of (key o is s))
fire_control_at n None [] s = refl
fire_control_at n None (Row i e f ∷ is) s = refl
fire_control_at n None (Mark e w zero ∷ is) s = refl
fire_control_at n None (Mark e w (suc more) ∷ is) s = due_control n e w more is s.state.cells s.state.times s.groups
fire_control_at n (Some c) is s = refl

pub fire_control : (n : ℕ) (part : Part) → control_of (fire n part) ≡ fire_on n (control_of part)
fire_control n part = fire_control_at n part.owner part.waiting part.said

-- the machine

pub idle_silent : (o : Option Context) (is : List Waiting) → is_idle_with (silent o) is ≡ is_idle_with o is
idle_silent None is = refl
idle_silent (Some c) is = refl

must_control : (k : Key) (part : Part) → must_fire k part ≡ must_fire_on k (control_of part)
must_control k part = ap (λ (b : Bool). cond b (Some k) None) (sym (idle_silent part.owner part.waiting))

at_control : (parts : Key → Part) (k : Key) (part : Part) (c : KeyControl) → control_of part ≡ c → (q : Key) → control_of (part_at parts k part q) ≡ control_at (λ j. control_of (parts j)) k c q
at_control parts k part c e q = if_control (bytes_eq k q) part (parts q) c (control_of (parts q)) e refl

pub goes_control : (k : Key) (must next : Option Key) (lines : List (List ℤ)) (part : Part) (c : KeyControl) (m : Machine) → must ≡ next → control_of part ≡ c
    → control_of_machine (goes_on k must lines part m) ≡ control_goes_on k next c (control_of_machine m)
goes_control k must next lines part c m e f =
    λ i. record { wm = m.wm; epoch = m.epoch; keys = m.keys; unsent = m.unsent; controls = λ q. at_control m.parts k part c f q i; must = e i }

callback_control : (k : Key) (lines : List (List ℤ)) (part : Part) (c : KeyControl) (m : Machine) → control_of part ≡ c
    → control_of_machine (goes_on k (must_fire k part) lines part m) ≡ control_goes_on k (must_fire_on k c) c (control_of_machine m)
callback_control k lines part c m e = goes_control k (must_fire k part) (must_fire_on k c) lines part c m (must_control k part ∙ ap (must_fire_on k) e) e

sent_control : (g : ℕ) (p : Program) (cs : List Closed) (m : Machine) → control_of_machine (send_first g p cs m) ≡ send_first_on cs (control_of_machine m)
sent_control g p [] m = refl
sent_control g p (c ∷ cs) m = refl

pub event_control : (g : ℕ) (p : Program) (e : Happening) (m : Machine) → control_of_machine (happens g p e m) ≡ happens_on p e (answer_of_event e m) (control_of_machine m)
event_control g p (Admit n k time values) m =
    let f : Facts = row_facts m.wm time values in
    λ i. record {
      wm = m.wm;
      epoch = m.epoch;
      must = m.must;
      unsent = m.unsent;
      keys = insert_key key_cmp m.keys k;
      controls = λ q. at_control m.parts k (admit n m.epoch f (m.parts k)) (admit_on n m.epoch f (control_of (m.parts k))) (admit_control n m.epoch f (m.parts k)) q i;
    }
event_control g p (Close (ByWatermark w)) m =
    λ i. record {
      wm = w;
      epoch = suc m.epoch;
      keys = m.keys;
      must = m.must;
      unsent = m.unsent ++ record { epoch = m.epoch; closing = ByWatermark w } ∷ [];
      controls = λ k. mark_control m.epoch w most_firings (m.parts k) i;
    }
event_control g p (Close (ByBarrier id)) m = refl
event_control g p (Fire n k) m = goes_control k None None [] (fire n (m.parts k)) (fire_on n (control_of (m.parts k))) m refl (fire_control n (m.parts k))
event_control g p (Start k) m = callback_control k (start_effects p (m.parts k)).lines (start p (m.parts k)) (start_on p (control_of (m.parts k))) m (start_control p (m.parts k))
event_control g p (Serve k slot) m =
    goes_control k m.must m.must [] (serve slot (m.parts k)) (keeps_answer slot (owner_answer slot (m.parts k).owner (m.parts k).said.state.cells) (control_of (m.parts k))) m refl (serve_sees slot (m.parts k))
event_control g p (Deliver k slot) m = callback_control k (deliver_effects slot (m.parts k)).lines (deliver slot (m.parts k)) (deliver_on slot (control_of (m.parts k))) m (deliver_control slot (m.parts k))
event_control g p Send m = sent_control g p m.unsent m

pub origin_control : (from : Origin) → control_of_machine (machine_from from) ≡ at_origin from
origin_control from = refl

-- what an event does besides

sends_on : (g : ℕ) (p : Program) (cs : List Closed) (m : Machine) → (sends_first g p cs m).entries ≡ sent_entries g p (first_closing cs) m
sends_on g p [] m = refl
sends_on g p (c ∷ cs) m = refl

sends_ask : (g : ℕ) (p : Program) (cs : List Closed) (m : Machine) → (sends_first g p cs m).asks ≡ []
sends_ask g p [] m = refl
sends_ask g p (c ∷ cs) m = refl

sends_keep : (g : ℕ) (p : Program) (cs : List Closed) (m : Machine) → (sends_first g p cs m).gone ≡ false
sends_keep g p [] m = refl
sends_keep g p (c ∷ cs) m = refl

sends_fire : (g : ℕ) (p : Program) (cs : List Closed) (m : Machine) → (sends_first g p cs m).fires ≡ None
sends_fire g p [] m = refl
sends_fire g p (c ∷ cs) m = refl

said_lines : (k : Key) (a b : Effects) → a ≡ b → says k a.lines ≡ says k b.lines ++ []
said_lines k a b e = ap (λ (x : Effects). says k x.lines) e ∙ sym (append-nil (says k b.lines))

pub entries_on : (g : ℕ) (p : Program) (e : Happening) (m : Machine)
    → (outcome g p e m).entries ≡ (outcome_on p e (control_of_machine m)).lines ++ sent_entries g p (outcome_on p e (control_of_machine m)).sent m
entries_on g p (Admit n k time values) m = refl
entries_on g p (Close c) m = refl
entries_on g p (Fire n k) m = refl
entries_on g p (Start k) m = said_lines k (owner_starts p (m.parts k).owner) (owner_starts p (silent (m.parts k).owner)) (start_effects_see p (m.parts k).owner)
entries_on g p (Serve k slot) m = refl
entries_on g p (Deliver k slot) m = said_lines k (owner_gives slot (m.parts k).owner) (owner_gives slot (silent (m.parts k).owner)) (deliver_effects_see slot (m.parts k).owner)
entries_on g p Send m = sends_on g p m.unsent m

pub asks_on : (g : ℕ) (p : Program) (e : Happening) (m : Machine) → (outcome g p e m).asks ≡ (outcome_on p e (control_of_machine m)).asks
asks_on g p (Admit n k time values) m = refl
asks_on g p (Close c) m = refl
asks_on g p (Fire n k) m = refl
asks_on g p (Start k) m = ap (λ (x : Effects). x.asks) (start_effects_see p (m.parts k).owner)
asks_on g p (Serve k slot) m = refl
asks_on g p (Deliver k slot) m = ap (λ (x : Effects). x.asks) (deliver_effects_see slot (m.parts k).owner)
asks_on g p Send m = sends_ask g p m.unsent m

pub gone_on : (g : ℕ) (p : Program) (e : Happening) (m : Machine) → (outcome g p e m).gone ≡ (outcome_on p e (control_of_machine m)).gone
gone_on g p (Admit n k time values) m = refl
gone_on g p (Close c) m = refl
gone_on g p (Fire n k) m = refl
gone_on g p (Start k) m = ap (λ (x : Effects). x.gone) (start_effects_see p (m.parts k).owner)
gone_on g p (Serve k slot) m = refl
gone_on g p (Deliver k slot) m = ap (λ (x : Effects). x.gone) (deliver_effects_see slot (m.parts k).owner)
gone_on g p Send m = sends_keep g p m.unsent m

pub fires_on : (g : ℕ) (p : Program) (e : Happening) (m : Machine) → (outcome g p e m).fires ≡ (outcome_on p e (control_of_machine m)).fires
fires_on g p (Admit n k time values) m = refl
fires_on g p (Close c) m = refl
fires_on g p (Fire n k) m = refl
fires_on g p (Start k) m = must_control k (start p (m.parts k)) ∙ ap (must_fire_on k) (start_control p (m.parts k))
fires_on g p (Serve k slot) m = refl
fires_on g p (Deliver k slot) m = must_control k (deliver slot (m.parts k)) ∙ ap (must_fire_on k) (deliver_control slot (m.parts k))
fires_on g p Send m = sends_fire g p m.unsent m
