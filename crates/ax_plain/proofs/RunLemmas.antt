-- A handler's run, one turn after another.
use Rattle.std.proofs.Common.{◌≡◌, ℕ, ℤ, pos, ◌+◌, ◌<◌, ◌≤◌, List, [], ◌∷◌, ◌++◌, true, false, length, take, drop, get_or, Option, Some, Result, Ok, Err, OnOk, OnErr, inr, refl, sym, ap, ◌∙◌, subst, arith, append_assoc}
use Rattle.std.proofs.lemmas.List.{append-nil, take-append-drop, take_at, take_all, drop_all, at_drop_more}
use Rattle.std.specs.Io.KnownBytes.{Appends}
use mathlib.Core.Path.{fun_ext}
use Rattle.ax_base.proofs.OutsideLemmas.{Appends-none, Appends-more}
use Rattle.ax_base.specs.Outside.{AppendsSome, Counts, WriteCounts, OwnCounts}
use Rattle.ax_base.specs.declared.outside.SinkFault.{SinkFault}
use Rattle.ax_base.specs.declared.outside.SinkFault.TheVariants as fault
use Rattle.ax_text.specs.declared.vocabulary.Answer.{Answer}
use Rattle.ax_text.specs.declared.vocabulary.Handler.{Handler}
use Rattle.ax_text.specs.declared.vocabulary.Handler.TheVariants as handler
use Rattle.ax_text.specs.declared.vocabulary.Kind.{Kind}
use Rattle.ax_text.specs.declared.vocabulary.Request.{Request}
use Rattle.ax_text.specs.declared.vocabulary.TimerOp.{TimerOp}
use Rattle.ax_text.specs.Exprs.{Facts, Names}
use Rattle.ax_text.specs.Cells.{Cells, answer_of, cells_after}
use Rattle.ax_text.specs.Texts.{Text}
use Rattle.ax_text.specs.Prints.{is_accepted}
use Rattle.ax_text.specs.Programs.{program_width}
use Rattle.ax_text.specs.Jobs.{text_for}
use Rattle.ax_text.specs.Run.{World, run, begun, time_after, times_after}
use Rattle.ax_text.specs.Controls.{Rest, Control, Done, Turn, begin, give, request_at}
use Rattle.ax_text.specs.Silent.{silent, unanswered, at_once}
use Rattle.ax_text.specs.Sound as control
use Rattle.ax_text.proofs.Behind.{Same, same_left}
use Rattle.ax_text.proofs.Telling.{begins_at_once, serves_at_once}
use Rattle.ax_time.specs.declared.timer.Timer.{Timer}
use Rattle.ax_time.specs.Timers.{times_of, PutsTimes}
use Rattle.ax_time.proofs.KeptLemmas.{times_same}
use Rattle.ax_machine.specs.Entries.{Key, Out, says, text_of, entry_text}
use Rattle.ax_lang.specs.declared.program.Program.{Program}
use Rattle.ax_lang.specs.Shown.{shown_program, shown_kinds}
use Rattle.ax_lang.proofs.ProgramLemmas.{row_accepted, timer_accepted}
use Rattle.ax_future.specs.declared.callback.Turn.{Turn as CodeTurn}
use Rattle.ax_future.specs.declared.machine.Machine.{Machine}
use Rattle.ax_future.specs.Machines.{control_of, names_of, left_by, IsSound}
use Rattle.ax_plain.specs.declared.handler.RunFacts.{RunFacts}
use Rattle.ax_plain.specs.Handler.{shown_run_facts, run_from, fresh, behind, comes_to, TakesTurn, LeavesOthers}
use Rattle.ax_plain.proofs.TimesLemmas.{puts_elsewhere, puts_then, puts_at, times_after_both}

-- ---- what stands after an error

pub on_err : {T E P Q : Type 0} (r : Result T E) → OnErr r P → (P → Q) → OnErr r Q
on_err (Ok x) p f = tt
on_err (Err e) p f = f p

-- what holds, holds at an error
pub at_err : {T E P : Type 0} (r : Result T E) → P → OnErr r P
at_err (Ok x) p = tt
at_err (Err e) p = p

-- nothing was written
pub AppendsSome-none : (a : Option (List ℕ)) (x : List ℕ) → AppendsSome a a x
AppendsSome-none a x = (0, Appends-none a)

-- all was written
pub AppendsSome-all : (a b : Option (List ℕ)) (x : List ℕ) → Appends a b x → AppendsSome a b x
AppendsSome-all a b x p = (length x, subst (Appends a b) (sym (take_all (length x) x (omega arith))) p)

-- these bytes, and then some of the next
pub AppendsSome-behind : (a b c : Option (List ℕ)) (x y z all : List ℕ) → Appends a b x → AppendsSome b c y → x ++ (y ++ z) ≡ all → AppendsSome a c all
AppendsSome-behind a b c x y z all p q e =
    let first : List ℕ = x ++ take q.0 y in
    let behind : List ℕ = drop q.0 y ++ z in
    let split : first ++ behind ≡ all = append_assoc x (take q.0 y) behind ∙ ap (λ t. x ++ t) (sym (append_assoc (take q.0 y) (drop q.0 y) z) ∙ ap (λ t. t ++ z) (take-append-drop q.0 y)) ∙ e in
    let same : take (length first) all ≡ first = ap (take (length first)) (sym split) ∙ take_at first behind (length first) refl in
    (length first, Appends-more a b c x (take q.0 y) (take (length first) all) p q.1 (sym same))

-- the times of other keys stay where a key's timers are set, and where nothing has changed
pub set_others : {T E : Type 0} (r : Result T E) (t u : List Timer) (k : Key) (xs : List ℤ) → OnOk r (PutsTimes t u k xs) → OnErr r (u ≡ t) → LeavesOthers k t u
set_others (Ok x) t u k xs p e q a = puts_elsewhere t u k q xs p a
set_others (Err f) t u k xs p e q a = ap (λ v. times_of v q) e

-- a line was written, and then the rest of the lines
pub line_then : (a b c : Option (List ℕ)) (key : Key) (x : List ℤ) (xs : List (List ℤ)) → Appends a b (entry_text (Out key x)) → Appends b c (text_of (says key xs)) → Appends a c (text_of (says key (x ∷ xs)))
line_then a b c key x xs p q = Appends-more a b c (entry_text (Out key x)) (text_of (says key xs)) _ p q refl

pub line_then_some : (a b c : Option (List ℕ)) (key : Key) (x : List ℤ) (xs : List (List ℤ)) → Appends a b (entry_text (Out key x)) → AppendsSome b c (text_of (says key xs)) → AppendsSome a c (text_of (says key (x ∷ xs)))
line_then_some a b c key x xs p q = AppendsSome-behind a b c (entry_text (Out key x)) (text_of (says key xs)) [] _ p q (ap (λ t. entry_text (Out key x) ++ t) (append-nil (text_of (says key xs))))

-- the first of the lines failed
pub line_some : (a b : Option (List ℕ)) (key : Key) (x : List ℤ) (xs : List (List ℤ)) → AppendsSome a b (entry_text (Out key x)) → AppendsSome a b (text_of (says key (x ∷ xs)))
line_some a b key x xs q = AppendsSome-behind a a b [] (entry_text (Out key x)) (text_of (says key xs)) _ (Appends-none a) q refl

-- what is left of a list begins with the item at its place
drop_next : {A : Type 0} (xs : List A) (i : ℕ) (x : A) → i < length xs → x ≡ get_or xs i x → drop i xs ≡ x ∷ drop (i + 1) xs
drop_next xs i x h is = at_drop_more (λ l. l) xs i x h ∙ ap (λ y. y ∷ drop (i + 1) xs) (sym is)

-- the same, where a line of a list was written
module _ (a b : Option (List ℕ)) (key : Key) (xs : List (List ℤ)) (i : ℕ) (x y : List ℤ) (h : i < length xs) (is : x ≡ get_or xs i x) (e : y ≡ x) where
  left_is : text_of (says key (y ∷ drop (i + 1) xs)) ≡ text_of (says key (drop i xs))
  left_is = ap (λ z. text_of (says key (z ∷ drop (i + 1) xs))) e ∙ sym (ap (λ l. text_of (says key l)) (drop_next xs i x h is))

  pub lines_on : (c : Option (List ℕ)) → Appends a b (entry_text (Out key y)) → Appends b c (text_of (says key (drop (i + 1) xs))) → Appends a c (text_of (says key (drop i xs)))
  lines_on c p q = subst (Appends a c) left_is (line_then a b c key y (drop (i + 1) xs) p q)

  pub lines_on_some : (c : Option (List ℕ)) → Appends a b (entry_text (Out key y)) → AppendsSome b c (text_of (says key (drop (i + 1) xs))) → AppendsSome a c (text_of (says key (drop i xs)))
  lines_on_some c p q = subst (AppendsSome a c) left_is (line_then_some a b c key y (drop (i + 1) xs) p q)

  pub lines_failed : AppendsSome a b (entry_text (Out key y)) → AppendsSome a b (text_of (says key (drop i xs)))
  lines_failed q = subst (AppendsSome a b) left_is (line_some a b key y (drop (i + 1) xs) q)

-- a timer was set or taken off, and then the rest was done
pub op_then : (t t' u : List Timer) (key : Key) (o : TimerOp) (os : List TimerOp) → PutsTimes t t' key (time_after o (times_of t key)) → PutsTimes t' u key (times_after os (times_of t' key))
    → PutsTimes t u key (times_after (o ∷ os) (times_of t key))
op_then t t' u key o os p q = puts_then t t' u key _ _ p (subst (PutsTimes t' u key) (ap (times_after os) (puts_at t t' key _ p)) q)

-- the same, of an operation of a list
pub ops_on : (t t' u : List Timer) (key : Key) (os : List TimerOp) (i : ℕ) (d : TimerOp) → i < length os → PutsTimes t t' key (time_after (get_or os i d) (times_of t key))
    → PutsTimes t' u key (times_after (drop (i + 1) os) (times_of t' key)) → PutsTimes t u key (times_after (drop i os) (times_of t key))
ops_on t t' u key os i d h p q =
    subst (λ (l : List TimerOp). PutsTimes t u key (times_after l (times_of t key))) (sym (at_drop_more (λ l. l) os i d h)) (op_then t t' u key (get_or os i d) (drop (i + 1) os) p q)

-- no operation is left
pub ops_end : (t : List Timer) (key : Key) (os : List TimerOp) (i : ℕ) → length os ≤ i → PutsTimes t t key (times_after (drop i os) (times_of t key))
ops_end t key os i h = times_same t key (times_after (drop i os) (times_of t key)) (ap (λ (l : List TimerOp). times_after l (times_of t key)) (drop_all i os h))

-- a sink's counts by a call that takes memory of its own
pub own_counts : {T : Type 0} (a b : Counts) (r : Result T SinkFault) → WriteCounts a b r → OwnCounts a b r
own_counts a b (Ok x) h = h
own_counts a b (Err fault.Failed) h = h
own_counts a b (Err fault.NoMemory) h = (h.0, inr h.1)

-- the same behind calls that kept them
pub counts_behind : {T : Type 0} (a b c : Counts) (r : Result T SinkFault) → b ≡ a → OwnCounts b c r → OwnCounts a c r
counts_behind {T} a b c r e h = let P : Counts → Type 0 = λ x. OwnCounts x c r in subst P e h

-- ---- turns

world : Names → List (List ℤ) → List TimerOp → Cells → ℕ → World
world names lines ops cells served = record { talk = record { names = names; lines = lines; ops = ops }; cells = cells; served = served }

-- what was said and served before comes before
at_behind : (f : Facts) (c : Control) (names : Names) (lines : List (List ℤ)) (ops : List TimerOp) (cells : Cells) (n : ℕ)
    → at_once f c (world names lines ops cells n) ≡ behind lines ops n (at_once f c (fresh (silent names) cells))
unfolding world Same
at_behind f c names lines ops cells n =
    ap (at_once f c) (λ i. world names (sym (append-nil lines) i) (sym (append-nil ops) i) cells (none n i))
    ∙ same_left f lines ops n c unanswered (fresh (silent names) cells)
  where
    none : (m : ℕ) → m ≡ m + 0
    none m = omega arith

-- a handler begins, and what is left comes behind what its first turn says
pub begins_turn : (f : Facts) (text : Text) (cells : Cells) (it : Turn) → is_accepted text ≡ true → begin f (Rest text ∷ []) [] (silent (λ i. pos 0)) ≡ it
    → run f text (begun cells) ≡ behind it.talk.lines it.talk.ops 0 (at_once f it.control (fresh (silent it.talk.names) cells))
unfolding world
begins_turn f text cells it a e =
    sym (begins_at_once f text cells a)
    ∙ ap (λ (x : Turn). at_once f x.control (world x.talk.names x.talk.lines x.talk.ops cells 0)) e
    ∙ at_behind f it.control it.talk.names it.talk.lines it.talk.ops cells 0

-- a request is served and its answer given, and what is left comes behind what the turn says
pub serves_turn : (n : ℕ) (kinds : List Kind) (f : Facts) (c : Control) (s : ℕ) (r : Request) (names : Names) (cells : Cells) (it : Turn)
    → control.IsSound n kinds c → request_at c s ≡ Some r → give f c s (answer_of r cells) (silent names) ≡ it
    → at_once f c (fresh (silent names) cells) ≡ behind it.talk.lines it.talk.ops 1 (at_once f it.control (fresh (silent it.talk.names) (cells_after r cells)))
unfolding world
serves_turn n kinds f c s r names cells it h w e =
    sym (serves_at_once f n kinds c s r (fresh (silent names) cells) h w)
    ∙ ap (λ (x : Turn). at_once f x.control (world x.talk.names x.talk.lines x.talk.ops (cells_after r cells) 1)) e
    ∙ at_behind f it.control it.talk.names it.talk.lines it.talk.ops (cells_after r cells) 1

-- the machine's turn: what was asked at a slot was served
pub takes_turn : (f : Facts) (p : Program) (m m' : Machine) (turn : CodeTurn) (s : ℕ) (r : Request) (a : Answer) (cells cells' : Cells)
    → IsSound p m → request_at (control_of p m) s ≡ Some r → a ≡ answer_of r cells → ((i : ℕ) → cells' i ≡ cells_after r cells i)
    → give f (control_of p m) s a (silent (names_of m)) ≡ left_by p m' turn → TakesTurn f p m m' cells cells' turn true
takes_turn f p m m' turn s r a cells cells' h w e after g =
    let gave : give f (control_of p m) s (answer_of r cells) (silent (names_of m)) ≡ left_by p m' turn = sym (ap (λ (x : Answer). give f (control_of p m) s x (silent (names_of m))) e) ∙ g in
    serves_turn (program_width (shown_program p)) (shown_kinds p) f (control_of p m) s r (names_of m) cells (left_by p m' turn) h w gave
    ∙ sym (ap (λ (x : Cells). behind turn.outs turn.timer_ops 1 (comes_to f p m' x)) (fun_ext after))

-- the machine is done
pub takes_none : (f : Facts) (p : Program) (m : Machine) (turn : CodeTurn) (cells : Cells) → control_of p m ≡ Done → TakesTurn f p m m cells cells turn false
takes_none f p m turn cells e = ap (λ (c : Control). at_once f c (fresh (silent (names_of m)) cells)) e

-- a machine started
pub starts_turn : (f : Facts) (p : Program) (h : Handler) (m : Machine) (turn : CodeTurn) (facts : RunFacts) (cells : Cells)
    → f ≡ shown_run_facts facts → begin f (Rest (text_for (shown_program p) h) ∷ []) [] (silent (λ i. pos 0)) ≡ left_by p m turn
    → run_from p h facts cells ≡ behind turn.outs turn.timer_ops 0 (comes_to f p m cells)
starts_turn f p h m turn facts cells e g =
    sym (ap (λ (x : Facts). run x (text_for (shown_program p) h) (begun cells)) e)
    ∙ begins_turn f (text_for (shown_program p) h) cells (left_by p m turn) (accepted h) g
  where
    accepted : (h : Handler) → is_accepted (text_for (shown_program p) h) ≡ true
    accepted handler.Row = row_accepted p
    accepted handler.Timer = timer_accepted p

behind_both : (l m : List (List ℤ)) (o p : List TimerOp) (n k : ℕ) (w : World) → behind l o n (behind m p k w) ≡ behind (l ++ m) (o ++ p) (n + k) w
unfolding world
behind_both l m o p n k w = λ i. world w.talk.names (sym (append_assoc l m w.talk.lines) i) (sym (append_assoc o p w.talk.ops) i) w.cells (sums n k w.served i) where
  sums : (a b c : ℕ) → a + (b + c) ≡ a + b + c
  sums a b c = omega arith

-- ---- the run so far

-- `whole` is what the run comes to, and `rest` what is left behind a turn that says these lines and does these operations;
-- the sink grew by the lines before, and the key's timers are those behind what was done to them before
pub record GoneOn (key : Key) (whole : World) (h0 h : Option (List ℕ)) (t0 t : List Timer) (lines : List (List ℤ)) (ops : List TimerOp) (rest : World) : Type 0 where
  pub said : List (List ℤ)
  pub did : List TimerOp
  pub served : ℕ
  pub grown : Appends h0 h (text_of (says key said))
  pub times : PutsTimes t0 t key (times_after did (times_of t0 key))
  pub same : whole ≡ behind (said ++ lines) (did ++ ops) served rest

pub says_both : (key : Key) (xs ys : List (List ℤ)) → text_of (says key (xs ++ ys)) ≡ text_of (says key xs) ++ text_of (says key ys)
says_both key [] ys = refl
says_both key (x ∷ xs) ys = ap (λ t. entry_text (Out key x) ++ t) (says_both key xs ys) ∙ sym (append_assoc (entry_text (Out key x)) (text_of (says key xs)) (text_of (says key ys)))

pub start_gone_on : (key : Key) (whole : World) (h : Option (List ℕ)) (t : List Timer) (lines : List (List ℤ)) (ops : List TimerOp) (rest : World) → whole ≡ behind lines ops 0 rest
    → GoneOn key whole h h t t lines ops rest
start_gone_on key whole h t lines ops rest e = record {
  said = [];
  did = [];
  served = 0;
  grown = Appends-none h;
  times = times_same t key (times_of t key) refl;
  same = e;
}

module _ (key : Key) (whole : World) (h0 h : Option (List ℕ)) (t0 t : List Timer) (lines : List (List ℤ)) (ops : List TimerOp) (rest : World) (g : GoneOn key whole h0 h t0 t lines ops rest) where
  module _ (h' : Option (List ℕ)) where
    -- the turn was done
    module _ (t' : List Timer) (a : Appends h h' (text_of (says key lines))) (p : PutsTimes t t' key (times_after ops (times_of t key))) where
      grown_now : Appends h0 h' (text_of (says key (g.said ++ lines)))
      grown_now = Appends-more h0 h h' _ _ _ g.grown a (sym (says_both key g.said lines))

      times_now : PutsTimes t0 t' key (times_after (g.did ++ ops) (times_of t0 key))
      times_now =
          let times : times_after ops (times_of t key) ≡ times_after (g.did ++ ops) (times_of t0 key) =
          ap (times_after ops) (puts_at t0 t key _ g.times) ∙ sym (times_after_both g.did ops (times_of t0 key)) in
          puts_then t0 t t' key _ _ g.times (subst (PutsTimes t t' key) times p)

      -- and another comes
      pub GoneOn-turn : (lines' : List (List ℤ)) (ops' : List TimerOp) (rest' : World) → rest ≡ behind lines' ops' 1 rest' → GoneOn key whole h0 h' t0 t' lines' ops' rest'
      GoneOn-turn lines' ops' rest' e = record {
        said = g.said ++ lines;
        did = g.did ++ ops;
        served = g.served + 1;
        grown = grown_now;
        times = times_now;
        same = g.same ∙ ap (behind (g.said ++ lines) (g.did ++ ops) g.served) e ∙ behind_both (g.said ++ lines) lines' (g.did ++ ops) ops' g.served 1 rest';
      }

      -- and no other comes
      pub GoneOn-end : (names : Names) (cells : Cells) → rest ≡ fresh (silent names) cells
          → (cells ≡ whole.cells) × PutsTimes t0 t' key (times_after whole.talk.ops (times_of t0 key)) × Appends h0 h' (text_of (says key whole.talk.lines))
      GoneOn-end names cells e =
          let all : whole ≡ behind (g.said ++ lines) (g.did ++ ops) g.served (fresh (silent names) cells) = g.same ∙ ap (behind (g.said ++ lines) (g.did ++ ops) g.served) e in
          let said : g.said ++ lines ≡ whole.talk.lines = sym (append-nil (g.said ++ lines)) ∙ sym (ap (λ (w : World). w.talk.lines) all) in
          let did : g.did ++ ops ≡ whole.talk.ops = sym (append-nil (g.did ++ ops)) ∙ sym (ap (λ (w : World). w.talk.ops) all) in
          let P : List (List ℤ) → Type 0 = λ ls. Appends h0 h' (text_of (says key ls)) in
          let Q : List TimerOp → Type 0 = λ os. PutsTimes t0 t' key (times_after os (times_of t0 key)) in
          (sym (ap (λ (w : World). w.cells) all), subst Q did times_now, subst P said grown_now)

    -- the turn failed: the sink took a prefix of what the whole run writes
    pub GoneOn-failed : AppendsSome h h' (text_of (says key lines)) → AppendsSome h0 h' (text_of (says key whole.talk.lines))
    GoneOn-failed a =
        let all : g.said ++ (lines ++ rest.talk.lines) ≡ whole.talk.lines = sym (append_assoc g.said lines rest.talk.lines) ∙ sym (ap (λ (w : World). w.talk.lines) g.same) in
        AppendsSome-behind h0 h h' (text_of (says key g.said)) (text_of (says key lines)) (text_of (says key rest.talk.lines)) (text_of (says key whole.talk.lines)) g.grown a
        (ap (λ x. text_of (says key g.said) ++ x) (sym (says_both key lines rest.talk.lines))
        ∙ sym (says_both key g.said (lines ++ rest.talk.lines))
        ∙ ap (λ (l : List (List ℤ)). text_of (says key l)) all)

    -- the turn was done, and then there was no memory
    pub GoneOn-cut : Appends h h' (text_of (says key lines)) → AppendsSome h0 h' (text_of (says key whole.talk.lines))
    GoneOn-cut a = GoneOn-failed (AppendsSome-all h h' (text_of (says key lines)) a)

-- fewer requests are left
pub fewer_left : (rest rest' : World) (lines : List (List ℤ)) (ops : List TimerOp) → rest ≡ behind lines ops 1 rest' → rest'.served < rest.served
fewer_left rest rest' lines ops e = let one : rest.served ≡ 1 + rest'.served = ap (λ (w : World). w.served) e in less rest'.served rest.served one where
  less : (m n : ℕ) → n ≡ 1 + m → m < n
  less m n h = omega arith
