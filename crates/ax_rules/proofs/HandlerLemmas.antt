-- The rows of a section's handlers, line by line.
use Rattle.std.proofs.Common.{◌≡◌, ◌∙◌, ℕ, ◌≤◌, max, length, List, [], ◌∷◌, ◌++◌, map, refl, sym, ap, subst, Bool, true, false, not, ◌&&◌, nat_lt, nat_eq, Option, Some, None, is_some, if◌then◌else◌, arith}
use Rattle.std.proofs.lemmas.Bool.{and_parts, true≢false, false≢true, not-false}
use Rattle.std.proofs.lemmas.Bool.Decides.{nat_tests}
use Rattle.ax_text.specs.Rows.{HandlerLine, ActLine, AskLine, IfLine, EachLine, BothLine, SecondLine, EndLine, Wide, may_follow, follow, all_ok, widened_by, now_of}
use Rattle.ax_text.specs.Rows as rows
use Rattle.ax_syntax.specs.Shapes.{Shape, Input, State, OnRow, OnTimer, End, Else, With}
use Rattle.ax_rules.specs.declared.kinds.FaultKind.TheVariants as fault
use Rattle.ax_rules.specs.declared.blocks.Part.{Part}
use Rattle.ax_rules.specs.declared.blocks.Part.TheVariants as part
use Rattle.ax_rules.specs.declared.blocks.Print.{Print}
use Rattle.ax_rules.specs.declared.blocks.Frame.{Frame}
use Rattle.ax_rules.specs.declared.tables.Tables.{Tables}
use Rattle.ax_rules.specs.Frames.{is_yes, is_one, top_is, has_conflict, frames_with, opened, top_width, widest_with, closed}
use Rattle.ax_rules.specs.Lines.{row_with, timer_with, has_row, has_timer, frames_of, widest_of, tables_of}
use Rattle.ax_rules.specs.Faults.{fault_by, is_inside, may_stand, is_too_many, is_too_deep, is_twice, has_unknown, has_wrong_kind, is_loud_in_arm, is_too_wide, print_in, block_fault, fault_in}
use Rattle.ax_rules.specs.Laws.{part_in, wide_in, makes}
use Rattle.ax_rules.specs.Sections.{is_whole}
use Rattle.ax_rules.specs.Handlers.{IsRowOf, MakesRow, row_after, timer_after, Make, handler, AreRows, RowsHold}
use Rattle.ax_rules.proofs.FaultLemmas.{passed}
use Rattle.ax_rules.proofs.RunLemmas.{Runs, runs_on, begun, IsFree, IsHandler, Ended, ends}

-- what a line without a fault has passed
pub record Passes (t : Tables) (s : Shape) : Type 0 where
  pub stands : may_stand t s ≡ true
  pub few : is_too_many t s ≡ false
  pub once : is_twice t s ≡ false
  pub known : has_unknown t s ≡ false
  pub kind : has_wrong_kind t s ≡ false
  pub blocks : IsFree s (print_in t s) t.frames

free : (p : Print) (s : Shape) (fs : List Frame) → block_fault p s fs ≡ None → IsFree s p fs
unfolding block_fault
free p s fs h =
    let silent = passed (is_loud_in_arm s fs) fault.InArm _ h in
    let apart = passed (has_conflict p fs) fault.Conflict _ silent.1 in
    record { silent = silent.0; apart = apart.0; narrow = (passed (is_too_wide s fs) fault.TooWide None apart.1).0 }

pub passes_all : (t : Tables) (s : Shape) → fault_in t s ≡ None → Passes t s
unfolding fault_in
passes_all t s h =
    let word = passed (not (may_stand t s)) fault.Word _ h in
    let many = passed (is_too_many t s) fault.TooMany _ word.1 in
    let deep = passed (is_too_deep t s) fault.TooDeep _ many.1 in
    let twice = passed (is_twice t s) fault.Twice _ deep.1 in
    let unknown = passed (has_unknown t s) fault.UnknownName _ twice.1 in
    let kind = passed (has_wrong_kind t s) fault.Kind _ unknown.1 in
    record { stands = not-false (may_stand t s) word.0; few = many.0; once = twice.0; known = unknown.0; kind = kind.0; blocks = free (print_in t s) s t.frames kind.1 }

-- a handler that has begun, with its open blocks and how wide it is where it has ended
abbrev pub HandlerAt : List Frame → List HandlerLine → ℕ → Type 0
HandlerAt [] rs n = Ended rs n
HandlerAt (f ∷ fs) rs n = Runs (f ∷ fs) rs × (n ≡ 0)

-- how far the handlers are: whether `on row` and `on timer` have begun, the open blocks, how wide they are, and their rows
abbrev pub Stage : Bool → Bool → List Frame → ℕ → List HandlerLine → List HandlerLine → Type 0
Stage false timer fs n rs ts = (timer ≡ false) × (fs ≡ []) × (n ≡ 0) × (rs ≡ []) × (ts ≡ [])
Stage true false fs n rs ts = HandlerAt fs rs n × (ts ≡ [])
Stage true true fs n rs ts = (w : ℕ) × (v : ℕ) × Ended rs w × HandlerAt fs ts v × (n ≡ max w v)

running : (fs : List Frame) (rs : List HandlerLine) (n : ℕ) → Runs fs rs → n ≡ 0 → HandlerAt fs rs n
running [] rs n h e = absurd h.outer
running (f ∷ fs) rs n h e = (h, e)

-- no row more
stays : (row timer : Bool) (fs : List Frame) (n : ℕ) (rs ts : List HandlerLine) (o : Option HandlerLine) → o ≡ None → Stage row timer fs n rs ts → Stage row timer fs n (row_after timer o rs) (timer_after timer o ts)
stays row timer fs n rs ts o e h = subst (λ (x : Option HandlerLine). Stage row timer fs n (row_after timer x rs) (timer_after timer x ts)) (sym e) h

-- `on row` begins
on_row : (timer : Bool) (fs : List Frame) (n : ℕ) (rs ts : List HandlerLine) → Stage false timer fs n rs ts → Stage true timer (opened part.Body 0 ∷ []) n rs ts
on_row true fs n rs ts h = absurd (true≢false h.0)
on_row false fs n rs ts h = ((subst (Runs (opened part.Body 0 ∷ [])) (sym h.3) begun, h.2), h.4)

some_frame : (f : Frame) (fs : List Frame) → (f ∷ fs) ≡ [] → ⊥
some_frame f fs h = cc

max_none : (n : ℕ) → n ≡ max n 0
max_none n = omega arith

-- `on timer` begins
on_timer : (row timer : Bool) (fs : List Frame) (n : ℕ) (rs ts : List HandlerLine) → row ≡ true → timer ≡ false → fs ≡ [] → Stage row timer fs n rs ts → Stage row true (opened part.Body 0 ∷ []) n rs ts
on_timer false timer fs n rs ts r e f h = absurd (false≢true r)
on_timer true true fs n rs ts r e f h = absurd (true≢false e)
on_timer true false fs n rs ts r e f h =
    let e' : Ended rs n = subst (λ (gs : List Frame). HandlerAt gs rs n) f h.0 in
    (n, 0, e', (subst (Runs (opened part.Body 0 ∷ [])) (sym h.1) begun, refl), max_none n)

-- a line makes one row more
one_more : (row timer : Bool) (f : Frame) (fs gs : List Frame) (n : ℕ) (r : HandlerLine) (rs ts : List HandlerLine) → ((qs : List HandlerLine) → Runs (f ∷ fs) qs → Runs gs (qs ++ r ∷ [])) → Stage row timer (f ∷ fs) n rs ts
    → Stage row timer gs n (row_after timer (Some r) rs) (timer_after timer (Some r) ts)
one_more false timer f fs gs n r rs ts go h = absurd (some_frame f fs h.1)
one_more true false f fs gs n r rs ts go h = (running gs (rs ++ r ∷ []) n (go rs h.0.0) h.0.1, h.1)
one_more true true f fs gs n r rs ts go h = (h.0, h.1, h.2, running gs (ts ++ r ∷ []) h.1 (go ts h.3.0) h.3.1, h.4)

max_first : (n w : ℕ) → n ≡ 0 → max n w ≡ w
max_first n w e = omega arith

max_second : (n w v u : ℕ) → n ≡ max w v → v ≡ 0 → max n u ≡ max w u
max_second n w v u e f = omega arith

-- the `end` of a handler
at_end : (row timer : Bool) (f : Frame) (n : ℕ) (rs ts : List HandlerLine) → is_too_wide End (f ∷ []) ≡ false → Stage row timer (f ∷ []) n rs ts → Stage row timer [] (max n (top_width (f ∷ []))) rs ts
at_end false timer f n rs ts w h = absurd (some_frame f [] h.1)
at_end true false f n rs ts w h =
    (subst (Ended rs) (sym (max_first n (top_width (f ∷ [])) h.0.1)) (ends f rs w h.0.0), h.1)
at_end true true f n rs ts w h =
    (h.0, top_width (f ∷ []), h.2, ends f ts w h.3.0, max_second n h.0 h.1 (top_width (f ∷ [])) h.4 h.3.1)

outside_none : (fs : List Frame) → not (nat_lt 0 (length fs)) ≡ true → fs ≡ []
outside_none [] h = refl
outside_none (f ∷ fs) h = absurd (grind (arith, nat_tests))

-- a row that needs an open block alone
abbrev is_plain : HandlerLine → Bool
is_plain SecondLine = false
is_plain EndLine = false
is_plain r = true

plain_follows : (r : HandlerLine) (f : Frame) (fs : List Frame) → is_plain r ≡ true → may_follow r (map wide_in (f ∷ fs)) ≡ true
plain_follows (ActLine q) f fs h = refl
plain_follows (AskLine a) f fs h = refl
plain_follows (IfLine e) f fs h = refl
plain_follows (EachLine l) f fs h = refl
plain_follows BothLine f fs h = refl
plain_follows SecondLine f fs h = absurd (false≢true h)
plain_follows EndLine f fs h = absurd (false≢true h)

-- `else` and `with` stand in a block that has a second part
turns : (p : Part → Bool) (f : Frame) (fs : List Frame) → ((q : Part) → p q ≡ true → rows.has_second (part_in q) ≡ true) → p part.Body ≡ false → p f.part ≡ true → IsHandler (f ∷ fs) → may_follow SecondLine (map wide_in (f ∷ fs)) ≡ true
turns p f [] g b h i = absurd (false≢true (sym b ∙ (ap p (sym i.0) ∙ h)))
turns p f (k ∷ fs) g b h i = g f.part h

yes_turns : (q : Part) → is_yes q ≡ true → rows.has_second (part_in q) ≡ true
yes_turns part.Yes h = refl
yes_turns part.No h = absurd (false≢true h)
yes_turns part.Body h = absurd (false≢true h)
yes_turns part.One h = absurd (false≢true h)
yes_turns part.Two h = absurd (false≢true h)

one_turns : (q : Part) → is_one q ≡ true → rows.has_second (part_in q) ≡ true
one_turns part.Yes h = absurd (false≢true h)
one_turns part.No h = absurd (false≢true h)
one_turns part.Body h = absurd (false≢true h)
one_turns part.One h = refl
one_turns part.Two h = absurd (false≢true h)

-- what a row needs of the open blocks
abbrev Needs : HandlerLine → List Frame → Type 0
Needs r fs = IsHandler fs → may_follow r (map wide_in fs) ≡ true

-- a line that makes one row
makes_one : (row timer : Bool) (s : Shape) (p : Print) (f : Frame) (fs : List Frame) (n : ℕ) (rs ts : List HandlerLine) (o : Option HandlerLine) (r : HandlerLine) → o ≡ Some r → IsRowOf s p r → IsFree s p (f ∷ fs) → Needs r (f ∷ fs) → Stage row timer (f ∷ fs) n rs ts
    → Stage row timer (frames_with s p (f ∷ fs)) n (row_after timer o rs) (timer_after timer o ts)
makes_one row timer s p f fs n rs ts o r e i c m h =
    subst (λ (x : Option HandlerLine). Stage row timer (frames_with s p (f ∷ fs)) n (row_after timer x rs) (timer_after timer x ts)) (sym e)
    (one_more row timer f fs (frames_with s p (f ∷ fs)) n r rs ts (λ qs k. runs_on s r p (f ∷ fs) qs i c (m k.outer) k) h)

not_one : (fs : List Frame) (f g : Frame) → nat_eq (length (f ∷ g ∷ fs)) 1 ≡ false
not_one fs f g = grind (arith, nat_tests)

end_row : (p : Print) → p ≡ record { sets = []; reads = []; changes = []; gets = [] } → IsRowOf End p EndLine
end_row p e = record { made = refl; touches = e; loud = refl }

at_end_row : (row timer : Bool) (p : Print) (fs : List Frame) (n : ℕ) (rs ts : List HandlerLine) (o : Option HandlerLine) → p ≡ record { sets = []; reads = []; changes = []; gets = [] } → nat_lt 0 (length fs) ≡ true → MakesRow End p (closed fs) o → IsFree End p fs
    → Stage row timer fs n rs ts → Stage row timer (closed fs) (widest_with End fs n) (row_after timer o rs) (timer_after timer o ts)
at_end_row row timer p [] n rs ts o e i m c h = absurd (false≢true i)
at_end_row row timer p (f ∷ []) n rs ts o e i m c h = stays row timer [] (max n (top_width (f ∷ []))) rs ts o m (at_end row timer f n rs ts c.narrow h)
at_end_row row timer p (f ∷ g ∷ fs) n rs ts o e i m c h =
    subst (λ (w : ℕ). Stage row timer (closed (f ∷ g ∷ fs)) w (row_after timer o rs) (timer_after timer o ts)) (sym (ap (λ (b : Bool). if b then max n (top_width (f ∷ g ∷ fs)) else n) (not_one fs f g)))
    (makes_one row timer End p f (g ∷ fs) n rs ts o EndLine m (end_row p e) c (λ k. refl) h)

-- a line that stands in any block
plain_line : (row timer : Bool) (s : Shape) (p : Print) (fs : List Frame) (n : ℕ) (rs ts : List HandlerLine) (o : Option HandlerLine) (r : HandlerLine) → o ≡ Some r → IsRowOf s p r → is_plain r ≡ true → nat_lt 0 (length fs) ≡ true → IsFree s p fs → Stage row timer fs n rs ts
    → Stage row timer (frames_with s p fs) n (row_after timer o rs) (timer_after timer o ts)
plain_line row timer s p [] n rs ts o r e m a i c h = absurd (false≢true i)
plain_line row timer s p (f ∷ fs) n rs ts o r e m a i c h = makes_one row timer s p f fs n rs ts o r e m c (λ k. plain_follows r f fs a) h

-- `else`, or `with`
second_line : (row timer : Bool) (s : Shape) (p : Print) (fs : List Frame) (n : ℕ) (rs ts : List HandlerLine) (o : Option HandlerLine) (r : HandlerLine) (q : Part → Bool) → o ≡ Some r → IsRowOf s p r → r ≡ SecondLine
    → ((x : Part) → q x ≡ true → rows.has_second (part_in x) ≡ true) → q part.Body ≡ false → top_is q fs ≡ true → IsFree s p fs → Stage row timer fs n rs ts
    → Stage row timer (frames_with s p fs) n (row_after timer o rs) (timer_after timer o ts)
second_line row timer s p [] n rs ts o r q e m is g b i c h = absurd (false≢true i)
second_line row timer s p (f ∷ fs) n rs ts o r q e m is g b i c h =
    makes_one row timer s p f fs n rs ts o r e m c (λ k. subst (λ (x : HandlerLine). may_follow x (map wide_in (f ∷ fs)) ≡ true) (sym is) (turns q f fs g b i k)) h

else_row : (r : HandlerLine) → makes Else r ≡ true → r ≡ SecondLine
else_row (ActLine q) h = absurd (false≢true h)
else_row (AskLine a) h = absurd (false≢true h)
else_row (IfLine e) h = absurd (false≢true h)
else_row (EachLine l) h = absurd (false≢true h)
else_row BothLine h = absurd (false≢true h)
else_row SecondLine h = refl
else_row EndLine h = absurd (false≢true h)

with_row : (r : HandlerLine) → makes With r ≡ true → r ≡ SecondLine
with_row (ActLine q) h = absurd (false≢true h)
with_row (AskLine a) h = absurd (false≢true h)
with_row (IfLine e) h = absurd (false≢true h)
with_row (EachLine l) h = absurd (false≢true h)
with_row BothLine h = absurd (false≢true h)
with_row SecondLine h = refl
with_row EndLine h = absurd (false≢true h)

abbrev is_plain_line : Shape → Bool
is_plain_line End = false
is_plain_line Else = false
is_plain_line With = false
is_plain_line s = true

plain_row : (s : Shape) (r : HandlerLine) → is_plain_line s ≡ true → makes s r ≡ true → is_plain r ≡ true
plain_row s (ActLine q) l m = refl
plain_row s (AskLine a) l m = refl
plain_row s (IfLine e) l m = refl
plain_row s (EachLine x) l m = refl
plain_row s BothLine l m = refl
plain_row Else SecondLine l m = absurd (false≢true l)
plain_row With SecondLine l m = absurd (false≢true l)
plain_row s SecondLine l m = absurd (false≢true m)
plain_row End EndLine l m = absurd (false≢true l)
plain_row s EndLine l m = absurd (false≢true m)

print_end : (t : Tables) → print_in t End ≡ record { sets = []; reads = []; changes = []; gets = [] }
unfolding print_in
print_end t = refl

-- one line more
pub stage_on : (s : Shape) (t : Tables) (rs ts : List HandlerLine) (o : Option HandlerLine) → Passes t s → MakesRow s (print_in t s) (frames_with s (print_in t s) t.frames) o → Stage t.row t.timer t.frames t.widest rs ts
    → Stage (row_with s t.row) (timer_with s t.timer) (frames_with s (print_in t s) t.frames) (widest_with s t.frames t.widest) (row_after (timer_with s t.timer) o rs) (timer_after (timer_with s t.timer) o ts)
unfolding may_stand is_twice
stage_on (Input fields) t rs ts o c m h = stays t.row t.timer t.frames t.widest rs ts o m h
stage_on (State name kind) t rs ts o c m h = stays t.row t.timer t.frames t.widest rs ts o m h
stage_on OnRow t rs ts o c m h =
    stays true t.timer (opened part.Body 0 ∷ []) t.widest rs ts o m
    (on_row t.timer t.frames t.widest rs ts (subst (λ (b : Bool). Stage b t.timer t.frames t.widest rs ts) c.once h))
stage_on OnTimer t rs ts o c m h =
    let a = and_parts (not (is_inside t)) t.row c.stands in
    stays t.row true (opened part.Body 0 ∷ []) t.widest rs ts o m
    (on_timer t.row t.timer t.frames t.widest rs ts a.1 c.once (outside_none t.frames a.0) h)
stage_on End t rs ts o c m h =
    at_end_row t.row t.timer (print_in t End) t.frames t.widest rs ts o (print_end t) (and_parts (is_inside t) (not (top_is is_one t.frames)) c.stands).0 m c.blocks h
stage_on Else t rs ts o c m h = second_line t.row t.timer Else (print_in t Else) t.frames t.widest rs ts o m.0 is_yes m.1 m.2 (else_row m.0 m.2.made) yes_turns refl c.stands c.blocks h
stage_on With t rs ts o c m h = second_line t.row t.timer With (print_in t With) t.frames t.widest rs ts o m.0 is_one m.1 m.2 (with_row m.0 m.2.made) one_turns refl c.stands c.blocks h
stage_on s t rs ts o c m h = plain_line t.row t.timer s (print_in t s) t.frames t.widest rs ts o m.0 m.1 m.2 (plain_row s m.0 refl m.2.made) c.stands c.blocks h

passes : (s : Shape) (ls : List Shape) → fault_by ls s ≡ None → Passes (tables_of ls) s
unfolding fault_by
passes s ls h = passes_all (tables_of ls) s h

-- how far the handlers of lines are
at_lines : (ls : List Shape) (rs ts : List HandlerLine) → Make ls rs ts → Stage (has_row ls) (has_timer ls) (frames_of ls) (widest_of ls) rs ts
unfolding tables_of print_in
at_lines [] rs ts h = (refl, refl, refl, h.0, h.1)
at_lines (s ∷ ls) rs ts h =
    subst (λ (qs : List HandlerLine). Stage (has_row (s ∷ ls)) (has_timer (s ∷ ls)) (frames_of (s ∷ ls)) (widest_of (s ∷ ls)) qs ts) (sym h.5)
    (subst (λ (us : List HandlerLine). Stage (has_row (s ∷ ls)) (has_timer (s ∷ ls)) (frames_of (s ∷ ls)) (widest_of (s ∷ ls)) (row_after (has_timer (s ∷ ls)) h.0 h.1) us) (sym h.6)
    (stage_on s (tables_of ls) h.1 h.2 h.0 (passes s ls h.3) h.4 (at_lines ls h.1 h.2 h.7)))

-- both handlers have ended

both_wide : (n w v a b : ℕ) → a ≡ w → b ≡ v → n ≡ max w v → n ≡ max a b
both_wide n w v a b e f g = omega arith

both_narrow : (n w v : ℕ) → w ≤ 16 → v ≤ 16 → n ≡ max w v → n ≤ 16
both_narrow n w v e f g = omega arith

both_ended : (n w v : ℕ) (rs ts : List HandlerLine) → Ended rs w → Ended ts v → n ≡ max w v → AreRows n rs ts
both_ended n w v rs ts a b e = record {
  row_follows = a.follows;
  timer_follows = b.follows;
  row_ok = a.ok;
  timer_ok = b.ok;
  width = both_wide n w v (now_of (widened_by rs handler)) (now_of (widened_by ts handler)) a.width b.width e;
  narrow = both_narrow n w v a.narrow b.narrow e;
}

no_timer : Ended [] 0
no_timer = record { follows = refl; ok = refl; width = refl; narrow = omega arith }

ended_all : (row timer : Bool) (fs : List Frame) (n : ℕ) (rs ts : List HandlerLine) → row ≡ true → fs ≡ [] → Stage row timer fs n rs ts → AreRows n rs ts
ended_all false timer fs n rs ts r e h = absurd (false≢true r)
ended_all true false fs n rs ts r e h = both_ended n n 0 rs ts (subst (λ (gs : List Frame). HandlerAt gs rs n) e h.0) (subst (λ (us : List HandlerLine). Ended us 0) (sym h.1) no_timer) (max_none n)
ended_all true true fs n rs ts r e h = both_ended n h.0 h.1 rs ts h.2 (subst (λ (gs : List Frame). HandlerAt gs ts h.1) e h.3) h.4

pub rows_hold : (ls : List Shape) (rs ts : List HandlerLine) → RowsHold ls rs ts
unfolding tables_of is_whole
rows_hold ls rs ts = λ m w.
    let a = and_parts (is_some (tables_of ls).fields && has_row ls) (not (is_inside (tables_of ls))) w in
    ended_all (has_row ls) (has_timer ls) (frames_of ls) (widest_of ls) rs ts (and_parts (is_some (tables_of ls).fields) (has_row ls) a.0).1 (outside_none (frames_of ls) a.1) (at_lines ls rs ts m)
