-- Each event but Serve looks at the control of a key alone; Serve looks at its cells for one answer.
use Rattle.std.proofs.Common.{◌≡◌, ℕ, zero, suc, ℤ, int_le, List, [], ◌∷◌, Bool, true, false, cond, Option, Some, None, refl, ap, ◌∙◌}
use Rattle.ax_text.specs.declared.vocabulary.Request.{Request}
use Rattle.ax_text.specs.declared.vocabulary.Answer.{Answer}
use Rattle.ax_text.specs.Functions.{upd}
use Rattle.ax_text.specs.Exprs.{Facts}
use Rattle.ax_text.specs.Jobs.{Job}
use Rattle.ax_text.specs.Programs.{Program, untouched}
use Rattle.ax_text.specs.Controls.{is_done, request_at}
use Rattle.ax_text.specs.Silent.{unanswered}
use Rattle.ax_machine.specs.KeySync.{Said}
use Rattle.ax_execution.specs.Contexts.{Running, Stage, Unbegun, Begun, Context, Waiting, Row, Mark, Part, running_group, is_due, may_fire}
use Rattle.ax_execution.specs.Rest.{silent_stage, silent}
use Rattle.ax_execution.specs.Turns.{handed, timed, closed_with, left_by, staged, called_back, begins, gives, start_owner, owner_starts, serve_request, serve_owner, serve, start, give_answer, deliver_owner, deliver, owner_gives, answer_gives, fire_due, fire_front, fire, admit_at, admit, mark_at, mark}
use Rattle.ax_execution.specs.KeyControls.{control_of, SeesControl, answer_to, stage_answer, owner_answer, keeps_answer}

abbrev key : Option Context → List Waiting → Said → Part
key o is s = record { owner = o; waiting = is; said = s }

-- what is said with the same times, but nothing else
abbrev bare_said : Said → Said
bare_said s = record { state = record { cells = untouched []; times = s.state.times }; groups = [] }

if_same : (b : Bool) (x y u v : Part) → control_of x ≡ control_of u → control_of y ≡ control_of v → control_of (cond b x y) ≡ control_of (cond b u v)
if_same true x y u v p q = p
if_same false x y u v p q = q

handed_sees : (is : List Waiting) (s t : Said) → s.state.times ≡ t.state.times → control_of (handed is s) ≡ control_of (handed is t)
handed_sees [] s t e = ap (λ (times : List ℤ). record { owner = None; waiting = []; times = times }) e
handed_sees (Row n f facts ∷ is) s t e = ap (λ (times : List ℤ). record { owner = (handed (Row n f facts ∷ is) s).owner; waiting = is; times = times }) e
handed_sees (Mark f w more ∷ is) s t e =
    if_same (may_fire w more s.state.times) (key None (Mark f w more ∷ is) s) (handed is s) (key None (Mark f w more ∷ is) t) (handed is t)
    (ap (λ (times : List ℤ). record { owner = None; waiting = Mark f w more ∷ is; times = times }) e) (handed_sees is s t e)
    ∙ ap (λ (times : List ℤ). control_of (cond (may_fire w more times) (key None (Mark f w more ∷ is) t) (handed is t))) e

back_sees : (c d : Context) (r u : Running) (is : List Waiting) (s t : Said) → s.state.times ≡ t.state.times → r.control ≡ u.control
    → silent (Some (staged c (Begun r))) ≡ silent (Some (staged d (Begun u))) → control_of (called_back c r is s) ≡ control_of (called_back d u is t)
back_sees c d r u is s t e f o =
    if_same (is_done r.control) (handed is (closed_with (running_group c.job r) s)) (key (Some (staged c (Begun r))) is s) (handed is (closed_with (running_group d.job u) t)) (key (Some (staged d (Begun u))) is t)
    (handed_sees is (closed_with (running_group c.job r) s) (closed_with (running_group d.job u) t) e)
    (λ i. record { owner = o i; waiting = is; times = e i })
    ∙ ap (λ k. control_of (cond (is_done k) (handed is (closed_with (running_group d.job u) t)) (key (Some (staged d (Begun u))) is t))) f

start_sees_at : (p : Program) (o : Option Context) (is : List Waiting) (s : Said) → control_of (start_owner p o (key o is s)) ≡ control_of (start_owner p (silent o) (key (silent o) is (bare_said s)))
start_sees_at p None is s = refl
start_sees_at p (Some c) is s = of c.number c.epoch c.stage
  where
    of : (n f : ℕ) (st : Stage) → control_of (start_owner p (Some (record { number = n; epoch = f; job = c.job; stage = st })) (key (Some (record { number = n; epoch = f; job = c.job; stage = st })) is s))
        ≡ control_of (start_owner p (silent (Some (record { number = n; epoch = f; job = c.job; stage = st }))) (key (silent (Some (record { number = n; epoch = f; job = c.job; stage = st }))) is (bare_said s)))
    of n f Unbegun =
        let d : Context = record { number = n; epoch = f; job = c.job; stage = Unbegun } in
        back_sees d d (left_by (begins p c.job) unanswered [] 0) (left_by (begins p c.job) unanswered [] 0) is (timed (begins p c.job) s) (timed (begins p c.job) (bare_said s)) refl refl refl
    of n f (Begun r) = refl

pub start_sees : (p : Program) → SeesControl (start p)
start_sees p part = start_sees_at p part.owner part.waiting part.said

answer_sees : (n f : ℕ) (c : Context) (r : Running) (slot : ℕ) (a : Option Answer) (is : List Waiting) (s : Said)
    → control_of (give_answer (record { number = n; epoch = f; job = c.job; stage = Begun r }) r slot a (key (Some (record { number = n; epoch = f; job = c.job; stage = Begun r })) is s))
    ≡ control_of (give_answer (record { number = n; epoch = f; job = c.job; stage = silent_stage (Begun r) }) (record { control = r.control; names = r.names; answers = r.answers; lines = []; served = 0 }) slot a
    (key (Some (record { number = n; epoch = f; job = c.job; stage = silent_stage (Begun r) })) is (bare_said s)))
answer_sees n f c r slot None is s = refl
answer_sees n f c r slot (Some a) is s =
    let d : Context = record { number = n; epoch = f; job = c.job; stage = Begun r } in
    let u : Context = record { number = n; epoch = f; job = c.job; stage = silent_stage (Begun r) } in
    back_sees d u (left_by (gives c.job r slot a) (upd r.answers slot None) r.lines r.served) (left_by (gives c.job r slot a) (upd r.answers slot None) [] 0) is
    (timed (gives c.job r slot a) s) (timed (gives c.job r slot a) (bare_said s)) refl refl refl

deliver_sees_at : (slot : ℕ) (o : Option Context) (is : List Waiting) (s : Said) → control_of (deliver_owner slot o (key o is s)) ≡ control_of (deliver_owner slot (silent o) (key (silent o) is (bare_said s)))
deliver_sees_at slot None is s = refl
deliver_sees_at slot (Some c) is s = of c.number c.epoch c.stage
  where
    of : (n f : ℕ) (st : Stage) → control_of (deliver_owner slot (Some (record { number = n; epoch = f; job = c.job; stage = st })) (key (Some (record { number = n; epoch = f; job = c.job; stage = st })) is s))
        ≡ control_of (deliver_owner slot (silent (Some (record { number = n; epoch = f; job = c.job; stage = st }))) (key (silent (Some (record { number = n; epoch = f; job = c.job; stage = st }))) is (bare_said s)))
    of n f Unbegun = refl
    of n f (Begun r) = answer_sees n f c r slot (r.answers slot) is s

pub deliver_sees : (slot : ℕ) → SeesControl (deliver slot)
deliver_sees slot part = deliver_sees_at slot part.owner part.waiting part.said

pub start_effects_see : (p : Program) (o : Option Context) → owner_starts p o ≡ owner_starts p (silent o)
start_effects_see p None = refl
start_effects_see p (Some c) = of c.stage
  where
    of : (st : Stage) → owner_starts p (Some (record { number = c.number; epoch = c.epoch; job = c.job; stage = st })) ≡ owner_starts p (Some (record { number = c.number; epoch = c.epoch; job = c.job; stage = silent_stage st }))
    of Unbegun = refl
    of (Begun r) = refl

answer_effects : (j : Job) (r : Running) (slot : ℕ) (a : Option Answer) → answer_gives j r slot a ≡ answer_gives j (record { control = r.control; names = r.names; answers = r.answers; lines = []; served = 0 }) slot a
answer_effects j r slot None = refl
answer_effects j r slot (Some a) = refl

pub deliver_effects_see : (slot : ℕ) (o : Option Context) → owner_gives slot o ≡ owner_gives slot (silent o)
deliver_effects_see slot None = refl
deliver_effects_see slot (Some c) = of c.stage
  where
    of : (st : Stage) → owner_gives slot (Some (record { number = c.number; epoch = c.epoch; job = c.job; stage = st })) ≡ owner_gives slot (Some (record { number = c.number; epoch = c.epoch; job = c.job; stage = silent_stage st }))
    of Unbegun = refl
    of (Begun r) = answer_effects c.job r slot (r.answers slot)

-- a row, a mark and a firing

admit_sees_at : (n e : ℕ) (f : Facts) (o : Option Context) (is : List Waiting) (s : Said) → control_of (admit_at n e f o is s) ≡ control_of (admit_at n e f (silent o) is (bare_said s))
admit_sees_at n e f None [] s = refl
admit_sees_at n e f None (i ∷ is) s = refl
admit_sees_at n e f (Some c) is s = of c.stage
  where
    of : (st : Stage) → control_of (admit_at n e f (Some (record { number = c.number; epoch = c.epoch; job = c.job; stage = st })) is s)
        ≡ control_of (admit_at n e f (silent (Some (record { number = c.number; epoch = c.epoch; job = c.job; stage = st }))) is (bare_said s))
    of Unbegun = refl
    of (Begun r) = refl

pub admit_sees : (n e : ℕ) (f : Facts) → SeesControl (admit n e f)
admit_sees n e f part = admit_sees_at n e f part.owner part.waiting part.said

mark_sees_at : (e : ℕ) (w : ℤ) (more : ℕ) (o : Option Context) (is : List Waiting) (s : Said) → control_of (mark_at e w more o is s) ≡ control_of (mark_at e w more (silent o) is (bare_said s))
mark_sees_at e w more None [] s = if_same (is_due w s.state.times) (key None (Mark e w more ∷ []) s) (key None [] s) (key None (Mark e w more ∷ []) (bare_said s)) (key None [] (bare_said s)) refl refl
mark_sees_at e w more None (i ∷ is) s = refl
mark_sees_at e w more (Some c) is s = of c.stage
  where
    of : (st : Stage) → control_of (mark_at e w more (Some (record { number = c.number; epoch = c.epoch; job = c.job; stage = st })) is s)
        ≡ control_of (mark_at e w more (silent (Some (record { number = c.number; epoch = c.epoch; job = c.job; stage = st }))) is (bare_said s))
    of Unbegun = refl
    of (Begun r) = refl

pub mark_sees : (e : ℕ) (w : ℤ) (more : ℕ) → SeesControl (mark e w more)
mark_sees e w more part = mark_sees_at e w more part.owner part.waiting part.said

due_sees : (n e : ℕ) (w : ℤ) (more : ℕ) (is : List Waiting) (times : List ℤ) (s : Said)
    → control_of (fire_due n e w more is times (key None (Mark e w (suc more) ∷ is) s)) ≡ control_of (fire_due n e w more is times (key None (Mark e w (suc more) ∷ is) (bare_said s)))
due_sees n e w more is [] s = refl
due_sees n e w more is (t ∷ ts) s = if_same (int_le t w) _ _ _ _ refl refl

fire_sees_at : (n : ℕ) (o : Option Context) (is : List Waiting) (s : Said) → control_of (fire_front n o is (key o is s)) ≡ control_of (fire_front n (silent o) is (key (silent o) is (bare_said s)))
fire_sees_at n None [] s = refl
fire_sees_at n None (Row i e f ∷ is) s = refl
fire_sees_at n None (Mark e w zero ∷ is) s = refl
fire_sees_at n None (Mark e w (suc more) ∷ is) s = due_sees n e w more is s.state.times s
fire_sees_at n (Some c) is s = of c.stage
  where
    of : (st : Stage) → control_of (fire_front n (Some (record { number = c.number; epoch = c.epoch; job = c.job; stage = st })) is (key (Some (record { number = c.number; epoch = c.epoch; job = c.job; stage = st })) is s))
        ≡ control_of (fire_front n (silent (Some (record { number = c.number; epoch = c.epoch; job = c.job; stage = st }))) is (key (silent (Some (record { number = c.number; epoch = c.epoch; job = c.job; stage = st }))) is (bare_said s)))
    of Unbegun = refl
    of (Begun r) = refl

pub fire_sees : (n : ℕ) → SeesControl (fire n)
fire_sees n part = fire_sees_at n part.owner part.waiting part.said

-- an answer of the cells

request_sees : (n f : ℕ) (j : Job) (r : Running) (slot : ℕ) (q : Option Request) (is : List Waiting) (s : Said)
    → control_of (serve_request (record { number = n; epoch = f; job = j; stage = Begun r }) r slot q (key (Some (record { number = n; epoch = f; job = j; stage = Begun r })) is s))
    ≡ keeps_answer slot (answer_to q s.state.cells) (control_of (key (Some (record { number = n; epoch = f; job = j; stage = Begun r })) is s))
request_sees n f j r slot None is s = refl
request_sees n f j r slot (Some q) is s = refl

serve_sees_at : (slot : ℕ) (o : Option Context) (is : List Waiting) (s : Said) → control_of (serve_owner slot o (key o is s)) ≡ keeps_answer slot (owner_answer slot o s.state.cells) (control_of (key o is s))
serve_sees_at slot None is s = refl
serve_sees_at slot (Some c) is s = of c.stage
  where
    of : (st : Stage) → control_of (serve_owner slot (Some (record { number = c.number; epoch = c.epoch; job = c.job; stage = st })) (key (Some (record { number = c.number; epoch = c.epoch; job = c.job; stage = st })) is s))
        ≡ keeps_answer slot (stage_answer slot st s.state.cells) (control_of (key (Some (record { number = c.number; epoch = c.epoch; job = c.job; stage = st })) is s))
    of Unbegun = refl
    of (Begun r) = request_sees c.number c.epoch c.job r slot (request_at r.control slot) is s

pub serve_sees : (slot : ℕ) (part : Part) → control_of (serve slot part) ≡ keeps_answer slot (owner_answer slot part.owner part.said.state.cells) (control_of part)
serve_sees slot part = serve_sees_at slot part.owner part.waiting part.said
