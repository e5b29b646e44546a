-- What a run of a valid program leaves has 64 bits.
use Rattle.std.proofs.Common.{◌≡◌, refl, sym, subst, ◌∙◌, ℕ, ℤ, pos, Bool, true, false, ◌&&◌, nat_le, nat_eq, cond, if◌then◌else◌, List, [], ◌∷◌, ◌++◌, length, map, None, Some, Ordering, Less, Equal, Greater}
use Rattle.std.specs.List.{list_all, filter}
use Rattle.std.specs.Ordering.{int_cmp, int_eq, match_ordering}
use Rattle.std.specs.Prelude.{not}
use Rattle.std.specs.Map.{remove_entry}
use Rattle.std.specs.BTreeMap.{is_at, insert_entry}
use Rattle.ax_base.specs.declared.lists.Pair.{Pair}
use Rattle.std.proofs.lemmas.Bool.{and_parts, and_from}
use Rattle.std.proofs.lemmas.List.{length-map}
use Rattle.std.proofs.lemmas.List.Folds.{list_all-append}
use Rattle.ax_base.specs.Numbers.{is_number}
use Rattle.ax_text.specs.declared.vocabulary.Kind.{Kind}
use Rattle.ax_text.specs.declared.vocabulary.Kind.TheVariants as kind
use Rattle.ax_text.specs.declared.vocabulary.Request.{Request}
use Rattle.ax_text.specs.declared.vocabulary.Request.TheVariants as request
use Rattle.ax_text.specs.declared.vocabulary.Answer.{Answer}
use Rattle.ax_text.specs.declared.vocabulary.Answer.TheVariants as answer
use Rattle.ax_text.specs.declared.vocabulary.TimerOp.{TimerOp}
use Rattle.ax_text.specs.declared.vocabulary.TimerOp.TheVariants as timer
use Rattle.ax_text.specs.Exprs.{Expr, Facts, Names, value}
use Rattle.ax_text.specs.Cells.{Cell, Value, Items as ItemsCell, Entries as EntriesCell, Cells, number_in, items_in, entries_in, entry_at, pair_of, empty_cell, kind_of, found, state_of, answer_in, answer_of, cell_after}
use Rattle.ax_text.specs.Times.{insert_time}
use Rattle.ax_text.specs.Texts.{Quiet, Let, Emit, Timer, Untimer, Asking, Get, GetAt, Has, Empty, Put, PutAt, PutAll, Add, Remove, Clear, Loop, Items, Entries, Text, Stop, Act, Ask, If, Each, Both}
use Rattle.ax_text.specs.Functions.{upd}
use Rattle.ax_text.specs.KeyStates.{KeyState}
use Rattle.ax_text.specs.Run.{World, After, Assign, Ignore, request_of, after_of, take_in, number_or, talk_in, with_names, apply, serve, act_in, ask_in, loop_request, turns_of, bind, run_turns, run, begun, time_after, times_after, state_after}
use Rattle.ax_text.specs.Valid.{expr_fits, exprs_fit, quiet_fits, asking_fits, loop_fits, text_fits}
use Rattle.ax_input.specs.OutLines.{is_few}
use Rattle.ax_input.proofs.ValueLemmas.{AreNumbers, value_number}

abbrev pub entry_good : (ℤ × ℤ) → Bool
entry_good e = is_number e.0 && is_number e.1

abbrev pub cell_good : Cell → Bool
cell_good (Value None) = true
cell_good (Value (Some n)) = is_number n
cell_good (ItemsCell items) = list_all is_number items
cell_good (EntriesCell entries) = list_all entry_good entries

abbrev pub line_good : List ℤ → Bool
line_good line = is_few (length line) && list_all is_number line

abbrev pub op_good : TimerOp → Bool
op_good (timer.Set time) = is_number time
op_good (timer.Unset time) = true

pub record GoodWorld (w : World) : Type 0 where
  pub names : (i : ℕ) → is_number (w.talk.names i) ≡ true
  pub lines : list_all line_good w.talk.lines ≡ true
  pub ops : list_all op_good w.talk.ops ≡ true
  pub cells : (i : ℕ) → cell_good (w.cells i) ≡ true

pub record GoodState (s : KeyState) : Type 0 where
  pub cells : (i : ℕ) → cell_good (s.cells i) ≡ true
  pub times : list_all is_number s.times ≡ true

pub all_last : {A : Type 0} (p : A → Bool) (xs : List A) (x : A) → list_all p xs ≡ true → p x ≡ true → list_all p (xs ++ x ∷ []) ≡ true
all_last p xs x h g = list_all-append p xs (x ∷ []) ∙ and_from (list_all p xs) (list_all p (x ∷ [])) h (and_from (p x) true g refl)

values_numbers : (fields locals : ℕ) (f : Facts) (names : Names) (xs : List Expr) → AreNumbers f → ((i : ℕ) → is_number (names i) ≡ true) → list_all (expr_fits fields locals) xs ≡ true → list_all is_number (map (value f names) xs) ≡ true
values_numbers fields locals f names [] h g e = refl
values_numbers fields locals f names (x ∷ xs) h g e =
    let p = and_parts (expr_fits fields locals x) (list_all (expr_fits fields locals) xs) e in
    and_from (is_number (value f names x)) (list_all is_number (map (value f names) xs)) (value_number fields locals f names x h g p.0) (values_numbers fields locals f names xs h g p.1)

emit_good : (fields locals : ℕ) (f : Facts) (names : Names) (xs : List Expr) → AreNumbers f → ((i : ℕ) → is_number (names i) ≡ true) → quiet_fits fields locals (Emit xs) ≡ true → line_good (map (value f names) xs) ≡ true
emit_good fields locals f names xs h g e =
    let p = and_parts (nat_le 1 (length xs) && nat_le (length xs) 16) (list_all (expr_fits fields locals) xs) e in
    and_from (is_few (length (map (value f names) xs))) (list_all is_number (map (value f names) xs))
    (subst (λ (n : ℕ). is_few n ≡ true) (sym (length-map xs (value f names))) p.0) (values_numbers fields locals f names xs h g p.1)

upd_good : {A : Type 0} (p : A → Bool) (f : ℕ → A) (i : ℕ) (x : A) → ((j : ℕ) → p (f j) ≡ true) → p x ≡ true → (j : ℕ) → p (upd f i x j) ≡ true
upd_good p f i x h g j = cases (nat_eq i j) where
  cases : (b : Bool) → p (if b then x else f j) ≡ true
  cases true = g
  cases false = h j

act_good : (fields locals : ℕ) (f : Facts) (q : Quiet) (w : World) → AreNumbers f → quiet_fits fields locals q ≡ true → GoodWorld w → GoodWorld (act_in f q w)
act_good fields locals f (Let name x) w h e g =
    let p = and_parts _ (expr_fits fields locals x) e in
    record { names = upd_good is_number w.talk.names name (value f w.talk.names x) g.names (value_number fields locals f w.talk.names x h g.names p.1); lines = g.lines; ops = g.ops; cells = g.cells }
act_good fields locals f (Emit xs) w h e g = record { names = g.names; lines = all_last line_good w.talk.lines (map (value f w.talk.names) xs) g.lines (emit_good fields locals f w.talk.names xs h g.names e); ops = g.ops; cells = g.cells }
act_good fields locals f (Timer t) w h e g = record { names = g.names; lines = g.lines; ops = all_last op_good w.talk.ops (timer.Set (value f w.talk.names t)) g.ops (value_number fields locals f w.talk.names t h g.names e); cells = g.cells }
act_good fields locals f (Untimer t) w h e g = record { names = g.names; lines = g.lines; ops = all_last op_good w.talk.ops (timer.Unset (value f w.talk.names t)) g.ops refl; cells = g.cells }

-- requests and answers

abbrev pair_good : Pair → Bool
pair_good p = is_number p.at && is_number p.number

abbrev request_good : Request → Bool
request_good (request.ValuePut state number) = is_number number
request_good (request.ListAdd state number) = is_number number
request_good (request.ListPut state items) = list_all is_number items
request_good (request.MapPut state at number) = is_number at && is_number number
request_good _ = true

abbrev answer_good : Answer → Bool
answer_good (answer.Found number) = is_number number
answer_good (answer.Items items) = list_all is_number items
answer_good (answer.Pairs pairs) = list_all pair_good pairs
answer_good _ = true

abbrev after_good_in : After → Bool
after_good_in (Assign name missing) = is_number missing
after_good_in Ignore = true

items_good : (c : Cell) → cell_good c ≡ true → list_all is_number (items_in c) ≡ true
items_good (Value number) h = refl
items_good (ItemsCell items) h = h
items_good (EntriesCell entries) h = refl

entries_good : (c : Cell) → cell_good c ≡ true → list_all entry_good (entries_in c) ≡ true
entries_good (Value number) h = refl
entries_good (ItemsCell items) h = refl
entries_good (EntriesCell entries) h = h

pub empty_good : (k : Kind) → cell_good (empty_cell k) ≡ true
empty_good kind.Value = refl
empty_good kind.List = refl
empty_good kind.Map = refl

put_entry_good : (k n : ℤ) (es : List (ℤ × ℤ)) → is_number k ≡ true → is_number n ≡ true → list_all entry_good es ≡ true → list_all entry_good (insert_entry int_cmp es k n) ≡ true
put_entry_good k n [] h i g = and_from (is_number k && is_number n) true (and_from (is_number k) (is_number n) h i) refl
put_entry_good k n (e ∷ es) h i g =
    let p = and_parts (entry_good e) (list_all entry_good es) g in
    let here = and_from (is_number k) (is_number n) h i in
    let q = and_parts (is_number e.0) (is_number e.1) p.0 in
    cases (int_cmp k e.0) here (and_from (is_number e.0) (is_number n) q.0 i) p.0 p.1 (put_entry_good k n es h i p.1)
  where
    cases : (o : Ordering) → (is_number k && is_number n) ≡ true → (is_number e.0 && is_number n) ≡ true → entry_good e ≡ true → list_all entry_good es ≡ true → list_all entry_good (insert_entry int_cmp es k n) ≡ true
        → list_all entry_good (match_ordering o ((k, n) ∷ e ∷ es) ((e.0, n) ∷ es) (e ∷ insert_entry int_cmp es k n)) ≡ true
    cases Less a b c d r = and_from (is_number k && is_number n) (list_all entry_good (e ∷ es)) a (and_from (entry_good e) (list_all entry_good es) c d)
    cases Equal a b c d r = and_from (is_number e.0 && is_number n) (list_all entry_good es) b d
    cases Greater a b c d r = and_from (entry_good e) (list_all entry_good (insert_entry int_cmp es k n)) c r

drop_entry_good : (test : ℤ → Bool) (es : List (ℤ × ℤ)) → list_all entry_good es ≡ true → list_all entry_good (remove_entry test es) ≡ true
drop_entry_good test [] g = refl
drop_entry_good test (e ∷ es) g =
    let p = and_parts (entry_good e) (list_all entry_good es) g in
    cases (test e.0) p.0 p.1 (drop_entry_good test es p.1)
  where
    cases : (b : Bool) → entry_good e ≡ true → list_all entry_good es ≡ true → list_all entry_good (remove_entry test es) ≡ true → list_all entry_good (cond b es (e ∷ remove_entry test es)) ≡ true
    cases true a c r = c
    cases false a c r = and_from (entry_good e) (list_all entry_good (remove_entry test es)) a r

found_good : (c : Cell) → cell_good c ≡ true → answer_good (found (number_in c)) ≡ true
found_good (Value None) h = refl
found_good (Value (Some n)) h = h
found_good (ItemsCell items) h = refl
found_good (EntriesCell entries) h = refl

entry_found_good : (k : ℤ) (es : List (ℤ × ℤ)) → list_all entry_good es ≡ true → answer_good (found (entry_at k es)) ≡ true
entry_found_good k [] g = refl
entry_found_good k (e ∷ es) g =
    let p = and_parts (entry_good e) (list_all entry_good es) g in
    let q = and_parts (is_number e.0) (is_number e.1) p.0 in
    cases (is_at (int_cmp k) e.0) q.1 (entry_found_good k es p.1)
  where
    cases : (b : Bool) → is_number e.1 ≡ true → answer_good (found (entry_at k es)) ≡ true → answer_good (found (cond b (Some e.1) (entry_at k es))) ≡ true
    cases true a r = a
    cases false a r = r

pairs_good : (es : List (ℤ × ℤ)) → list_all entry_good es ≡ true → list_all pair_good (map pair_of es) ≡ true
pairs_good [] g = refl
pairs_good (e ∷ es) g =
    let p = and_parts (entry_good e) (list_all entry_good es) g in
    and_from (pair_good (pair_of e)) (list_all pair_good (map pair_of es)) p.0 (pairs_good es p.1)

answered_good : (r : Request) (c : Cell) → cell_good c ≡ true → answer_good (answer_in r c) ≡ true
answered_good (request.ValueGet state) c g = found_good c g
answered_good (request.ValuePut state number) c g = refl
answered_good (request.ListGet state) c g = items_good c g
answered_good (request.ListAdd state number) c g = refl
answered_good (request.ListPut state items) c g = refl
answered_good (request.MapGet state at) c g = entry_found_good at (entries_in c) (entries_good c g)
answered_good (request.MapPut state at number) c g = refl
answered_good (request.MapRemove state at) c g = refl
answered_good (request.MapHas state at) c g = refl
answered_good (request.MapEmpty state) c g = refl
answered_good (request.MapEntries state) c g = pairs_good (entries_in c) (entries_good c g)
answered_good (request.Clear state) c g = refl

changed_good : (r : Request) (c : Cell) → request_good r ≡ true → cell_good c ≡ true → cell_good (cell_after r c) ≡ true
changed_good (request.ValueGet state) c h g = g
changed_good (request.ValuePut state number) c h g = h
changed_good (request.ListGet state) c h g = g
changed_good (request.ListAdd state number) c h g = all_last is_number (items_in c) number (items_good c g) h
changed_good (request.ListPut state items) c h g = h
changed_good (request.MapGet state at) c h g = g
changed_good (request.MapPut state at number) c h g =
    let p = and_parts (is_number at) (is_number number) h in
    put_entry_good at number (entries_in c) p.0 p.1 (entries_good c g)
changed_good (request.MapRemove state at) c h g = drop_entry_good (is_at (int_cmp at)) (entries_in c) (entries_good c g)
changed_good (request.MapHas state at) c h g = g
changed_good (request.MapEmpty state) c h g = g
changed_good (request.MapEntries state) c h g = g
changed_good (request.Clear state) c h g = empty_good (kind_of c)

apply_good : (r : Request) (w : World) → request_good r ≡ true → GoodWorld w → GoodWorld (apply r w)
apply_good r w h g = record {
  names = g.names;
  lines = g.lines;
  ops = g.ops;
  cells = upd_good cell_good w.cells (state_of r) (cell_after r (w.cells (state_of r))) g.cells (changed_good r (w.cells (state_of r)) h (g.cells (state_of r)));
}

flag_good : (b : Bool) → is_number (if b then pos 1 else pos 0) ≡ true
flag_good true = refl
flag_good false = refl

taken_number : (a : Answer) (d : ℤ) → answer_good a ≡ true → is_number d ≡ true → is_number (number_or a d) ≡ true
taken_number answer.Done d h g = g
taken_number (answer.Found number) d h g = h
taken_number answer.Missing d h g = g
taken_number (answer.Items items) d h g = g
taken_number (answer.Pairs pairs) d h g = g
taken_number (answer.Flag b) d h g = flag_good b

taken_good : (after : After) (a : Answer) (names : Names) → after_good_in after ≡ true → answer_good a ≡ true → ((i : ℕ) → is_number (names i) ≡ true) → (i : ℕ) → is_number (take_in after a names i) ≡ true
taken_good (Assign name missing) a names h e g = upd_good is_number names name (number_or a missing) g (taken_number a missing e h)
taken_good Ignore a names h e g = g

serve_good : (r : Request) (after : After) (w : World) → request_good r ≡ true → after_good_in after ≡ true → GoodWorld w → GoodWorld (serve r after w)
serve_good r after w h i g =
    let a = apply_good r w h g in
    record {
      names = taken_good after (answer_of r w.cells) w.talk.names i (answered_good r (w.cells (state_of r)) (g.cells (state_of r))) g.names;
      lines = a.lines;
      ops = a.ops;
      cells = a.cells;
    }

-- what statements of a program that fits ask

module _ (fields locals : ℕ) (ks : List Kind) (f : Facts) (names : Names) (h : AreNumbers f) (g : (i : ℕ) → is_number (names i) ≡ true) where
  number_good : (e : Expr) → expr_fits fields locals e ≡ true → is_number (value f names e) ≡ true
  number_good e fits = value_number fields locals f names e h g fits

  asked_good : (a : Asking) → asking_fits fields locals ks a ≡ true → request_good (request_of f a names) ≡ true
  asked_good (Get name state missing) e = refl
  asked_good (GetAt name state place missing) e = refl
  asked_good (Has name state place) e = refl
  asked_good (Empty name state) e = refl
  asked_good (Put state number) e = number_good number (and_parts _ (expr_fits fields locals number) e).1
  asked_good (PutAt state place number) e =
      let p = and_parts _ (expr_fits fields locals place && expr_fits fields locals number) e in
      let q = and_parts (expr_fits fields locals place) (expr_fits fields locals number) p.1 in
      and_from (is_number (value f names place)) (is_number (value f names number)) (number_good place q.0) (number_good number q.1)
  asked_good (PutAll state numbers) e =
      let p = and_parts _ (exprs_fit fields locals numbers) e in
      let q = and_parts _ (list_all (expr_fits fields locals) numbers) p.1 in
      values_numbers fields locals f names numbers h g q.1
  asked_good (Add state number) e = number_good number (and_parts _ (expr_fits fields locals number) e).1
  asked_good (Remove state place) e = refl
  asked_good (Clear state) e = refl

  assigned_good : (a : Asking) → asking_fits fields locals ks a ≡ true → after_good_in (after_of f a names) ≡ true
  assigned_good (Get name state missing) e = number_good missing (and_parts _ (expr_fits fields locals missing) e).1
  assigned_good (GetAt name state place missing) e =
      let p = and_parts _ (expr_fits fields locals place && expr_fits fields locals missing) e in
      number_good missing (and_parts (expr_fits fields locals place) (expr_fits fields locals missing) p.1).1
  assigned_good (Has name state place) e = refl
  assigned_good (Empty name state) e = refl
  assigned_good (Put state number) e = refl
  assigned_good (PutAt state place number) e = refl
  assigned_good (PutAll state numbers) e = refl
  assigned_good (Add state number) e = refl
  assigned_good (Remove state place) e = refl
  assigned_good (Clear state) e = refl

ask_good : (fields locals : ℕ) (ks : List Kind) (f : Facts) (a : Asking) (w : World) → AreNumbers f → asking_fits fields locals ks a ≡ true → GoodWorld w → GoodWorld (ask_in f a w)
ask_good fields locals ks f a w h e g =
    serve_good (request_of f a w.talk.names) (after_of f a w.talk.names) w (asked_good fields locals ks f w.talk.names h g.names a e) (assigned_good fields locals ks f w.talk.names h g.names a e) g

-- the turns of an `each`

item_turns_good : (items : List ℤ) → list_all is_number items ≡ true → list_all pair_good (turns_of (answer.Items items)) ≡ true
item_turns_good [] g = refl
item_turns_good (n ∷ ns) g =
    let p = and_parts (is_number n) (list_all is_number ns) g in
    and_from (is_number n && is_number (pos 0)) (list_all pair_good (turns_of (answer.Items ns))) (and_from (is_number n) (is_number (pos 0)) p.0 refl) (item_turns_good ns p.1)

turns_good : (a : Answer) → answer_good a ≡ true → list_all pair_good (turns_of a) ≡ true
turns_good answer.Done h = refl
turns_good (answer.Found number) h = refl
turns_good answer.Missing h = refl
turns_good (answer.Items items) h = item_turns_good items h
turns_good (answer.Pairs pairs) h = h
turns_good (answer.Flag b) h = refl

bound_good : (l : Loop) (p : Pair) (names : Names) → pair_good p ≡ true → ((i : ℕ) → is_number (names i) ≡ true) → (i : ℕ) → is_number (bind l p names i) ≡ true
bound_good (Items name state) p names h g = upd_good is_number names name p.at g (and_parts (is_number p.at) (is_number p.number) h).0
bound_good (Entries key number state) p names h g =
    let q = and_parts (is_number p.at) (is_number p.number) h in
    upd_good is_number (upd names key p.at) number p.number (upd_good is_number names key p.at g q.0) q.1

run_turns_good : (go : World → World) (l : Loop) (ps : List Pair) (w : World) → ((v : World) → GoodWorld v → GoodWorld (go v)) → list_all pair_good ps ≡ true → GoodWorld w → GoodWorld (run_turns go l ps w)
run_turns_good go l [] w goes h g = g
run_turns_good go l (p ∷ ps) w goes h g =
    let q = and_parts (pair_good p) (list_all pair_good ps) h in
    let begins : World = talk_in (λ t. with_names (bind l p t.names) t) w in
    run_turns_good go l ps (go begins) goes q.1 (goes begins (record { names = bound_good l p w.talk.names q.0 g.names; lines = g.lines; ops = g.ops; cells = g.cells }))

loop_good : (l : Loop) → request_good (loop_request l) ≡ true
loop_good (Items name state) = refl
loop_good (Entries key number state) = refl

chosen_good : (b : Bool) (one other : World → World) (w : World) → GoodWorld (one w) → GoodWorld (other w) → GoodWorld ((if b then other else one) w)
chosen_good true one other w g h = h
chosen_good false one other w g h = g

pub run_good : (fields locals : ℕ) (ks : List Kind) (f : Facts) (t : Text) (w : World) → AreNumbers f → text_fits fields locals ks t ≡ true → GoodWorld w → GoodWorld (run f t w)
run_good fields locals ks f Stop w h e g = g
run_good fields locals ks f (Act q t) w h e g =
    let p = and_parts (quiet_fits fields locals q) (text_fits fields locals ks t) e in
    run_good fields locals ks f t (act_in f q w) h p.1 (act_good fields locals f q w h p.0 g)
run_good fields locals ks f (Ask a t) w h e g =
    let p = and_parts (asking_fits fields locals ks a) (text_fits fields locals ks t) e in
    run_good fields locals ks f t (ask_in f a w) h p.1 (ask_good fields locals ks f a w h p.0 g)
run_good fields locals ks f (If x a b t) w h e g =
    let p = and_parts (expr_fits fields locals x && text_fits fields locals ks a) (text_fits fields locals ks b && text_fits fields locals ks t) e in
    let q = and_parts (expr_fits fields locals x) (text_fits fields locals ks a) p.0 in
    let r = and_parts (text_fits fields locals ks b) (text_fits fields locals ks t) p.1 in
    run_good fields locals ks f t ((if int_eq (value f w.talk.names x) (pos 0) then run f b else run f a) w) h r.1
    (chosen_good (int_eq (value f w.talk.names x) (pos 0)) (run f a) (run f b) w (run_good fields locals ks f a w h q.1 g) (run_good fields locals ks f b w h r.0 g))
run_good fields locals ks f (Each l body t) w h e g =
    let p = and_parts (loop_fits locals ks l && text_fits fields locals ks body) (text_fits fields locals ks t) e in
    let q = and_parts (loop_fits locals ks l) (text_fits fields locals ks body) p.0 in
    let r : Request = loop_request l in
    let turns : List Pair = turns_of (answer_of r w.cells) in
    run_good fields locals ks f t (run_turns (run f body) l turns (apply r w)) h p.1
    (run_turns_good (run f body) l turns (apply r w) (λ v i. run_good fields locals ks f body v h q.1 i) (turns_good (answer_of r w.cells) (answered_good r (w.cells (state_of r)) (g.cells (state_of r)))) (apply_good r w (loop_good l) g))
run_good fields locals ks f (Both a b t) w h e g =
    let p = and_parts (text_fits fields locals ks a && text_fits fields locals ks b) (text_fits fields locals ks t) e in
    let q = and_parts (text_fits fields locals ks a) (text_fits fields locals ks b) p.0 in
    run_good fields locals ks f t (run f b (run f a w)) h p.1 (run_good fields locals ks f b (run f a w) h q.1 (run_good fields locals ks f a w h q.0 g))

pub begun_good : (cells : Cells) → ((i : ℕ) → cell_good (cells i) ≡ true) → GoodWorld (begun cells)
begun_good cells h = record { names = λ i. refl; lines = refl; ops = refl; cells = h }

inserted_good : (t : ℤ) (xs : List ℤ) → is_number t ≡ true → list_all is_number xs ≡ true → list_all is_number (insert_time t xs) ≡ true
inserted_good t [] h g = and_from (is_number t) true h refl
inserted_good t (x ∷ xs) h g =
    let p = and_parts (is_number x) (list_all is_number xs) g in
    cases (int_cmp t x) p.0 (inserted_good t xs h p.1)
  where
    cases : (o : Ordering) → is_number x ≡ true → list_all is_number (insert_time t xs) ≡ true → list_all is_number (match_ordering o (t ∷ x ∷ xs) (x ∷ xs) (x ∷ insert_time t xs)) ≡ true
    cases Less a b = and_from (is_number t) (list_all is_number (x ∷ xs)) h g
    cases Equal a b = g
    cases Greater a b = and_from (is_number x) (list_all is_number (insert_time t xs)) a b

filter_good : (q : ℤ → Bool) (xs : List ℤ) → list_all is_number xs ≡ true → list_all is_number (filter q xs) ≡ true
filter_good q [] g = refl
filter_good q (x ∷ xs) g =
    let p = and_parts (is_number x) (list_all is_number xs) g in
    cases (q x) p.0 (filter_good q xs p.1)
  where
    cases : (b : Bool) → is_number x ≡ true → list_all is_number (filter q xs) ≡ true → list_all is_number (cond b (x ∷ filter q xs) (filter q xs)) ≡ true
    cases true a b = and_from (is_number x) (list_all is_number (filter q xs)) a b
    cases false a b = b

time_good : (o : TimerOp) (xs : List ℤ) → op_good o ≡ true → list_all is_number xs ≡ true → list_all is_number (time_after o xs) ≡ true
time_good (timer.Set t) xs h g = inserted_good t xs h g
time_good (timer.Unset t) xs h g = filter_good (λ x. not (int_eq t x)) xs g

times_good : (os : List TimerOp) (xs : List ℤ) → list_all op_good os ≡ true → list_all is_number xs ≡ true → list_all is_number (times_after os xs) ≡ true
times_good [] xs h g = g
times_good (o ∷ os) xs h g =
    let p = and_parts (op_good o) (list_all op_good os) h in
    times_good os (time_after o xs) p.1 (time_good o xs p.0 g)

pub after_good : (s : KeyState) (w : World) → GoodState s → GoodWorld w → GoodState (state_after s w)
after_good s w h g = record { cells = g.cells; times = times_good w.talk.ops s.times g.ops h.times }
