-- The handlers of accepted programs keep what the machine needs of them.
use Rattle.std.proofs.Common.{◌≡◌, ℕ, ◌+◌, ℤ, pos, List, [], ◌∷◌, ◌++◌, true, false, nat_eq, Option, Some, None, refl, sym, ap, ◌∙◌, arith}
use Rattle.std.proofs.lemmas.List.{append-nil}
use Rattle.std.proofs.lemmas.Bool.{both_ways, eqb-true}
use Rattle.ax_text.specs.declared.vocabulary.Handler.{Handler}
use Rattle.ax_text.specs.declared.vocabulary.Handler.TheVariants as handler
use Rattle.ax_text.specs.declared.vocabulary.Answer.{Answer}
use Rattle.ax_text.specs.declared.vocabulary.TimerOp.{TimerOp}
use Rattle.ax_text.specs.Functions.{upd}
use Rattle.ax_text.specs.Exprs.{Facts, Names}
use Rattle.ax_text.specs.Cells.{Cells}
use Rattle.ax_text.specs.Texts.{Text}
use Rattle.ax_text.specs.Programs.{Program}
use Rattle.ax_text.specs.Run.{Talk, World, run, time_after, times_after}
use Rattle.ax_text.specs.Prints.{has, is_accepted}
use Rattle.ax_text.specs.Controls.{Rest, Control, Turn, Answers, slots, begin, without, give, left}
use Rattle.ax_text.specs.Footprints.{ControlFits}
use Rattle.ax_text.specs.Sound.{Split, IsWakeful, everything}
use Rattle.ax_text.specs.Jobs.{Job, Group, group_of, text_for}
use Rattle.ax_text.proofs.Keeps.{by_cases}
use Rattle.ax_text.proofs.Steps.{Blank, BlankBut, Goes, IsStep, IsGiven, after_talk, begin_ok, given, serve_ok, upd_at, upd_off, without_keeps}
use Rattle.ax_text.proofs.Accepting.{accepted_fits}
use Rattle.ax_text.proofs.Behind.{Same, behind, same_left}
use Rattle.ax_text.specs.Silent.{silent as silent_talk, unanswered}
use Rattle.ax_machine.specs.KeySync.{Said, ran}
use Rattle.ax_execution.specs.Accepted.{AreAccepted}
use Rattle.ax_execution.specs.Contexts.{Running}
use Rattle.ax_execution.specs.Rest.{rest_running}
use Rattle.ax_execution.specs.Turns.{timed, left_by, begins}
use Rattle.ax_execution.proofs.Handles.{Handles, goes_in, silenced}
use Rattle.ax_text.proofs.Wakeful.{begin_wakes, give_wakes, slot_waits, waits_for}
use Rattle.ax_execution.proofs.Counts.{serve_counts, give_counts}

some_none : {A : Type 0} {x : A} → Some x ≡ None → ⊥
some_none h = cc h

world_path : {v w : World} → v.talk.names ≡ w.talk.names → v.talk.lines ≡ w.talk.lines → v.talk.ops ≡ w.talk.ops → v.cells ≡ w.cells → v.served ≡ w.served → v ≡ w
world_path a b c d e = λ i. record { talk = record { names = a i; lines = b i; ops = c i }; cells = d i; served = e i }

abbrev world : Names → List (List ℤ) → List TimerOp → Cells → ℕ → World
world names lines ops cells served = record { talk = record { names = names; lines = lines; ops = ops }; cells = cells; served = served }

-- what was said before makes no difference
left_behind : (f : Facts) (answers : Answers) (c : Control) (l : List (List ℤ)) (o : List TimerOp) (n : ℕ) (w : World) → left f answers c (behind l o n w) ≡ behind l o n (left f answers c w)
unfolding Same
left_behind f answers c l o n w = same_left f l o n c answers w

-- lines and a count that are brought in at the start
started_with : (names : Names) (lines : List (List ℤ)) (ops : List TimerOp) (cells : Cells) (n : ℕ) → world names lines ops cells n ≡ behind lines [] n (world names [] ops cells 0)
started_with names lines ops cells n = world_path refl (sym (append-nil lines)) refl refl plus_zero
  where
    plus_zero : n ≡ n + 0
    plus_zero = omega arith

-- what a key has behind this
abbrev said_with : Job → List ℤ → List Group → World → Said
said_with j times groups w = record { state = record { cells = w.cells; times = times_after w.talk.ops times }; groups = groups ++ group_of j w ∷ [] }

ops_append : (xs ys : List TimerOp) (ts : List ℤ) → times_after (xs ++ ys) ts ≡ times_after ys (times_after xs ts)
ops_append [] ys ts = refl
ops_append (x ∷ xs) ys ts = ops_append xs ys (time_after x ts)

-- timer operations that were applied already
resumed : (j : Job) (times : List ℤ) (groups : List Group) (go : World → World) → ((o : List TimerOp) (w : World) → go (behind [] o 0 w) ≡ behind [] o 0 (go w))
    → (names : Names) (lines : List (List ℤ)) (ops : List TimerOp) (cells : Cells) (n : ℕ)
    → said_with j (times_after ops times) groups (go (world names lines [] cells n)) ≡ said_with j times groups (go (world names lines ops cells n))
resumed j times groups go h names lines ops cells n =
    (λ i. record { state = record { cells = end.cells; times = later i }; groups = groups ++ record { job = j; lines = end.talk.lines; served = counted i } ∷ [] })
    ∙ ap (said_with j times groups) (sym (h ops bare) ∙ ap go (world_path refl refl (append-nil ops) refl (sym zero_plus)))
  where
    bare : World
    bare = world names lines [] cells n

    end : World
    end = go bare

    later : times_after end.talk.ops (times_after ops times) ≡ times_after (ops ++ end.talk.ops) times
    later = sym (ops_append ops end.talk.ops times)

    counted : end.served ≡ 0 + end.served
    counted = omega arith

    zero_plus : n ≡ 0 + n
    zero_plus = omega arith

-- its arms are apart and wait at different slots, answers stand only where it waits, and no two arms are done
pub record Good (r : Running) : Type 0 where
  pub fits : ControlFits r.control everything
  pub split : Split r.control
  pub blank : (j : ℕ) → has j (slots r.control) ≡ false → r.answers j ≡ None
  pub wakes : IsWakeful r.control

text_accepted : (p : Program) → AreAccepted p → (h : Handler) → is_accepted (text_for p h) ≡ true
text_accepted p a handler.Row = a.row
text_accepted p a handler.Timer = a.timer

step_of : (f : Facts) (t : Text) (talk : Talk) → is_accepted t ≡ true → IsStep f everything [] (begin f (Rest t ∷ []) [] talk) (after_talk f (λ w. run f t w) talk)
unfolding Goes after_talk
step_of f t talk a = begin_ok f (Rest t ∷ []) everything [] (accepted_fits t a, tt) talk

begin_left : (f : Facts) (t : Text) (talk : Talk) (cells : Cells) → is_accepted t ≡ true
    → left f unanswered (begin f (Rest t ∷ []) [] talk).control (record { talk = (begin f (Rest t ∷ []) [] talk).talk; cells = cells; served = 0 }) ≡ run f t (record { talk = talk; cells = cells; served = 0 })
unfolding Blank after_talk
begin_left f t talk cells a = (step_of f t talk a).law unanswered (λ s h. refl) cells 0

begin_good : (p : Program) → AreAccepted p → (j : Job) → Good (left_by (begins p j) unanswered [] 0)
begin_good p a j =
    let it = step_of j.facts (text_for p j.handler) (silent_talk (λ i. pos 0)) (text_accepted p a j.handler) in
    record { fits = it.fits; split = it.split; blank = λ s h. refl; wakes = begin_wakes j.facts (Rest (text_for p j.handler) ∷ []) [] (silent_talk (λ i. pos 0)) }

begin_law : (p : Program) → AreAccepted p → (j : Job) (s : Said) → rest_running j (left_by (begins p j) unanswered [] 0) (timed (begins p j) s) ≡ ran p j s.state s
begin_law p a j s =
    resumed j s.state.times s.groups (left j.facts unanswered (begins p j).control) (λ o w. left_behind j.facts unanswered (begins p j).control [] o 0 w)
    (begins p j).talk.names (begins p j).talk.lines (begins p j).talk.ops s.state.cells 0
    ∙ ap (said_with j s.state.times s.groups) (begin_left j.facts (text_for p j.handler) (silent_talk (λ i. pos 0)) s.state.cells (text_accepted p a j.handler))

-- an answer stands at a slot that waits
pub waits_here : (r : Running) (slot : ℕ) (a : Answer) → Good r → r.answers slot ≡ Some a → has slot (slots r.control) ≡ true
waits_here r slot a g h = by_cases (has slot (slots r.control)) (λ x. x) (λ x. absurd (some_none (sym h ∙ g.blank slot x)))

module _ (f : Facts) (r : Running) (slot : ℕ) (a : Answer) (g : Good r) (h : r.answers slot ≡ Some a) where
  it : Turn
  it = give f r.control slot a (silent_talk r.names)

  gave : IsGiven f everything r.control slot a (without slot (slots r.control)) (silent_talk r.names) it
  unfolding it
  gave = given f r.control everything slot a g.fits g.split (waits_here r slot a g h) (silent_talk r.names)

  -- a slot that no longer waits was the one that was answered, or waited never
  gone : (j : ℕ) → has j (slots it.control) ≡ false → nat_eq slot j ≡ false → has j (slots r.control) ≡ false
  gone j x y = by_cases (has j (slots r.control)) (λ z. absurd (both_ways (has j (slots it.control)) x (gave.others j z y))) (λ z. z)

  pub give_good : Good (left_by (give f r.control slot a (silent_talk r.names)) (upd r.answers slot None) r.lines r.served)
  unfolding it
  give_good = record {
    fits = gave.fits;
    split = gave.split;
    blank = λ j x. by_cases (nat_eq slot j) (λ y. upd_at r.answers slot None j y) (λ y. upd_off r.answers slot None j y ∙ g.blank j (gone j x y));
    wakes = give_wakes f r.control slot a (silent_talk r.names) g.wakes;
  }

  blank_but : BlankBut f slot (without slot (slots r.control)) r.answers
  unfolding BlankBut
  blank_but j x y = g.blank j (by_cases (has j (slots r.control)) (λ z. absurd (both_ways (has j (without slot (slots r.control))) x (without_keeps slot (slots r.control) j z y))) (λ z. z))

  pub give_left : (cells : Cells)
      → left f (upd r.answers slot None) (give f r.control slot a (silent_talk r.names)).control (record { talk = (give f r.control slot a (silent_talk r.names)).talk; cells = cells; served = 0 })
      ≡ left f r.answers r.control (record { talk = silent_talk r.names; cells = cells; served = 0 })
  unfolding it
  give_left cells = gave.law r.answers h blank_but cells 0

give_law : (j : Job) (r : Running) (slot : ℕ) (a : Answer) (s : Said) → Good r → r.answers slot ≡ Some a
    → rest_running j (left_by (give j.facts r.control slot a (silent_talk r.names)) (upd r.answers slot None) r.lines r.served) (timed (give j.facts r.control slot a (silent_talk r.names)) s) ≡ rest_running j r s
give_law j r slot a s g h =
    resumed j s.state.times s.groups (left f blank it.control) (λ o w. left_behind f blank it.control [] o 0 w) it.talk.names (r.lines ++ it.talk.lines) it.talk.ops cells r.served
    ∙ ap (said_with j s.state.times s.groups)
    (ap (left f blank it.control) (world_path refl refl refl refl plus_zero)
    ∙ (left_behind f blank it.control r.lines [] r.served (record { talk = it.talk; cells = cells; served = 0 })
    ∙ (ap (behind r.lines [] r.served) (give_left f r slot a g h cells)
    ∙ (sym (left_behind f r.answers r.control r.lines [] r.served (world r.names [] [] cells 0))
    ∙ ap (left f r.answers r.control) (sym (started_with r.names r.lines [] cells r.served))))))
  where
    f : Facts
    f = j.facts

    cells : Cells
    cells = s.state.cells

    blank : Answers
    blank = upd r.answers slot None

    it : Turn
    it = give j.facts r.control slot a (silent_talk r.names)

    plus_zero : r.served ≡ r.served + 0
    plus_zero = omega arith

blank_served : (c : Control) (answers : Answers) (n : ℕ) (o : Option Answer) → has n (slots c) ≡ true → ((j : ℕ) → has j (slots c) ≡ false → answers j ≡ None)
    → (j : ℕ) → has j (slots c) ≡ false → upd answers n o j ≡ None
blank_served c answers n o m h j x = by_cases (nat_eq n j)
    (λ y. absurd (both_ways (has j (slots c)) x (ap (λ (i : ℕ). has i (slots c)) (sym (eqb-true n j y)) ∙ m)))
    (λ y. upd_off answers n o j y ∙ h j x)

pub handles : (p : Program) → AreAccepted p → Handles p Good
handles p accepted = record {
  begin_good = begin_good p accepted;
  serve_good = λ r slot q a g e h. record { fits = g.fits; split = g.split; blank = blank_served r.control r.answers slot (Some a) (slot_waits r.control slot q e) g.blank; wakes = g.wakes };
  give_good = λ j r slot a g h. give_good j.facts r slot a g h;
  begin_law = begin_law p accepted;
  serve_law = λ j r slot q s g e h. ap (said_with j s.state.times s.groups) (serve_ok j.facts r.control everything r.answers slot q g.fits g.split e h (goes_in r s.state.cells));
  give_law = give_law;
  left_further = λ j r cells. ap (left j.facts r.answers r.control) (started_with r.names r.lines [] cells r.served)
      ∙ left_behind j.facts r.answers r.control r.lines [] r.served (goes_in (silenced r) cells);
  waits = λ r g h. let w = waits_for r.control g.wakes g.split h in (w.slot, w.request, w.stands);
  serve_counts = λ r slot q a g e h. serve_counts r.control r.answers slot q a g.split e h;
  give_counts = λ j r slot a g h. give_counts j.facts r.control everything r.answers slot a (silent_talk r.names) g.fits g.split (waits_here r slot a g h) h g.blank;
}
