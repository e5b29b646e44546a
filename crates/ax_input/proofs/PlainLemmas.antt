-- What the plain thread of a valid program writes for events that lines spell, and what may be written in its place.
use Rattle.std.proofs.Common.{◌≡◌, refl, sym, subst, ℕ, zero, suc, ◌*◌, ◌^◌, ◌<◌, ℤ, int_le, int_lt, Bool, true, false, ◌&&◌, cond, if◌then◌else◌, List, [], ◌∷◌, ◌++◌, length, Option, None, Some, Ordering, Less, Equal, Greater, slice_index_or, nat_le}
use Rattle.std.specs.List.{list_all, AllByRecursion}
use Rattle.std.specs.Str.{bytes_eq}
use Rattle.std.specs.Ordering.{match_ordering, is_lt}
use Rattle.std.specs.BTreeSet.{insert_key}
use Rattle.std.proofs.lemmas.Bool.{and_parts, and_from}
use Rattle.ax_base.specs.Numbers.{is_number}
use Rattle.ax_keys.specs.Keys.{is_key, key_cmp}
use Rattle.ax_text.specs.declared.vocabulary.Kind.TheVariants as kind
use Rattle.ax_text.specs.Times.{later_times}
use Rattle.ax_text.specs.KeyStates.{KeyState}
use Rattle.ax_text.specs.Run.{World, state_after, begun}
use Rattle.ax_text.specs.Texts.{Text}
use Rattle.ax_text.specs.Programs.{Program, kinds_of, text_or_stop}
use Rattle.ax_text.specs.Jobs.{row_job, firing_job, job_run}
use Rattle.ax_text.specs.Valid.{text_fits, timer_fits, IsValid}
use Rattle.ax_machine.specs.Entries.{Key, Marker, Watermark, Entry, says, lines_of}
use Rattle.ax_machine.specs.Entries as entry
use Rattle.ax_machine.specs.Events.{Event, Row, Mark, Barrier}
use Rattle.ax_machine.specs.OutLines.{Out}
use Rattle.ax_machine.specs.Firings.{Due, most_firings, due_of, due_cmp, candidate, earlier, next_due, one_less}
use Rattle.ax_machine.specs.Sync.{Map, Plain, does, knows, without_least, fire, fire_next, fire_all, all_fired, at_watermark, writes, parts_of, block_of, plain_step, plain_steps, plain_start, sync}
use Rattle.ax_machine.specs.Lawful.{IsPrefix, one_more, cuts_from, cuts, markers}
use Rattle.ax_machine.proofs.FiringLemmas.{same_key, key_is}
use Rattle.ax_input.specs.Events.{is_event, is_id}
use Rattle.ax_input.specs.OutLines.{is_line}
use Rattle.ax_input.specs.PlainEntries.{IsRun, WritesPlain, SoFarIsPlain, WholeIsPlain, BytesTell}
use Rattle.ax_input.proofs.EntryLemmas.{determined}
use Rattle.ax_input.proofs.RunLemmas.{line_good, GoodWorld, GoodState, run_good, begun_good, empty_good, after_good}
use Rattle.ax_input.proofs.BlockLemmas.{GoodPart, IsNear, block_near, all_plain}

record GoodPlain (s : Plain) : Type 0 where
  wm : is_number s.wm ≡ true
  keys : list_all is_key s.keys ≡ true
  map : (k : Key) → GoodState (s.map k)
  entries : AllByRecursion IsNear s.entries

all_behind : {A : Type 0} (P : A → Type 0) (xs ys : List A) → AllByRecursion P xs → AllByRecursion P ys → AllByRecursion P (xs ++ ys)
all_behind P [] ys h g = g
all_behind P (x ∷ xs) ys h g = (h.0, all_behind P xs ys h.1 g)

says_near : (k : Key) (lines : List (List ℤ)) → is_key k ≡ true → list_all line_good lines ≡ true → AllByRecursion IsNear (says k lines)
says_near k [] h g = tt
says_near k (line ∷ lines) h g =
    let p = and_parts (line_good line) (list_all line_good lines) g in
    (and_from (is_key k) (line_good line) h p.0, says_near k lines h p.1)

state_if : (b : Bool) (x y : KeyState) → GoodState x → GoodState y → GoodState (cond b x y)
state_if true x y h g = h
state_if false x y h g = g

does_good : (k : Key) (state : KeyState) (w : World) (s : Plain) → is_key k ≡ true → GoodState state → GoodWorld w → GoodPlain s → GoodPlain (does k state w s)
does_good k state w s h x y g = record {
  wm = g.wm;
  keys = g.keys;
  map = λ j. state_if (bytes_eq k j) (state_after state w) (s.map j) (after_good state w x y) (g.map j);
  entries = all_behind IsNear s.entries (says k w.talk.lines) g.entries (says_near k w.talk.lines h y.lines);
}

-- jobs of a valid program

timer_text : (locals : ℕ) (p : Program) (t : Option Text) → timer_fits locals (kinds_of p.states) t ≡ true → text_fits 0 locals (kinds_of p.states) (text_or_stop t) ≡ true
timer_text locals p None h = refl
timer_text locals p (Some t) h = h

row_good : (p : Program) (v : IsValid p) (wm time : ℤ) (values : List ℤ) (state : KeyState) → is_number wm ≡ true → is_number time ≡ true → list_all is_number values ≡ true → GoodState state
    → GoodWorld (job_run p (row_job wm time values) state.cells)
row_good p v wm time values state a b c g =
    run_good p.fields v.locals (kinds_of p.states) (record { time = time; wm = wm; values = values }) p.row (begun state.cells) (record { time = b; wm = a; values = c }) v.row (begun_good state.cells g.cells)

firing_good : (p : Program) (v : IsValid p) (wm time : ℤ) (state : KeyState) → is_number wm ≡ true → is_number time ≡ true → GoodState state → GoodWorld (job_run p (firing_job wm time) state.cells)
firing_good p v wm time state a b g =
    run_good 0 v.locals (kinds_of p.states) (record { time = time; wm = wm; values = [] }) (text_or_stop p.timer) (begun state.cells) (record { time = b; wm = a; values = refl }) (timer_text v.locals p p.timer v.timer) (begun_good state.cells g.cells)

later_good : (s : KeyState) → GoodState s → GoodState (without_least s)
later_good s g = record { cells = g.cells; times = cases s.times g.times } where
  cases : (ts : List ℤ) → list_all is_number ts ≡ true → list_all is_number (later_times ts) ≡ true
  cases [] h = refl
  cases (t ∷ ts) h = (and_parts (is_number t) (list_all is_number ts) h).1

-- the timer that fires next

abbrev GoodDue : Option Due → Type 0
GoodDue None = Unit {0}
GoodDue (Some d) = (is_key d.key ≡ true) × (is_number d.time ≡ true)

due_good : (w : ℤ) (k : Key) (ts : List ℤ) → is_key k ≡ true → list_all is_number ts ≡ true → GoodDue (due_of w k ts)
due_good w k [] h g = tt
due_good w k (t ∷ ts) h g = cases (int_le t w) where
  cases : (b : Bool) → GoodDue (if b then Some (record { time = t; key = k }) else None)
  cases true = (h, (and_parts (is_number t) (list_all is_number ts) g).0)
  cases false = tt

candidate_good : (w : ℤ) (n : ℕ) (k : Key) (s : KeyState) → is_key k ≡ true → GoodState s → GoodDue (candidate w n k s)
candidate_good w zero k s h g = tt
candidate_good w (suc n) k s h g = due_good w k s.times h g.times

earlier_good : (a b : Option Due) → GoodDue a → GoodDue b → GoodDue (earlier a b)
earlier_good None b h g = g
earlier_good (Some a) None h g = h
earlier_good (Some a) (Some b) h g = cases (is_lt (due_cmp b a)) where
  cases : (t : Bool) → GoodDue (if t then Some b else Some a)
  cases true = g
  cases false = h

next_good : (w : ℤ) (ks : List Key) (more : Key → ℕ) (map : Map) → list_all is_key ks ≡ true → ((k : Key) → GoodState (map k)) → GoodDue (next_due w ks more map)
next_good w [] more map h g = tt
next_good w (k ∷ ks) more map h g =
    let p = and_parts (is_key k) (list_all is_key ks) h in
    earlier_good (candidate w (more k) k (map k)) (next_due w ks more map) (candidate_good w (more k) k (map k) p.0 (g k)) (next_good w ks more map p.1 g)

fire_good : (p : Program) (v : IsValid p) (d : Due) (s : Plain) → GoodDue (Some d) → GoodPlain s → GoodPlain (fire p d s)
fire_good p v d s h g =
    does_good d.key (without_least (s.map d.key)) (job_run p (firing_job s.wm d.time) (s.map d.key).cells) s h.0 (later_good (s.map d.key) (g.map d.key))
    (firing_good p v s.wm d.time (s.map d.key) g.wm h.1 (g.map d.key)) g

fire_next_good : (p : Program) (v : IsValid p) (go : (Key → ℕ) → Plain → Plain) → ((more : Key → ℕ) (s : Plain) → GoodPlain s → GoodPlain (go more s))
    → (o : Option Due) (more : Key → ℕ) (s : Plain) → GoodDue o → GoodPlain s → GoodPlain (fire_next p go o more s)
fire_next_good p v go goes None more s h g = g
fire_next_good p v go goes (Some d) more s h g = goes (one_less more d.key) (fire p d s) (fire_good p v d s h g)

fire_all_good : (p : Program) (v : IsValid p) (fuel : ℕ) (more : Key → ℕ) (s : Plain) → GoodPlain s → GoodPlain (fire_all p fuel more s)
fire_all_good p v zero more s g = g
fire_all_good p v (suc n) more s g = fire_next_good p v (fire_all p n) (fire_all_good p v n) (next_due s.wm s.keys more s.map) more s (next_good s.wm s.keys more s.map g.keys g.map) g

plain_if : (b : Bool) (s t : Plain) → GoodPlain s → GoodPlain t → GoodPlain (cond b s t)
plain_if true s t h g = h
plain_if false s t h g = g

key_put : (k : Key) (ks : List Key) → is_key k ≡ true → list_all is_key ks ≡ true → list_all is_key (insert_key key_cmp ks k) ≡ true
key_put k [] h g = and_from (is_key k) true h refl
key_put k (x ∷ xs) h g =
    let p = and_parts (is_key x) (list_all is_key xs) g in
    cases (key_cmp k x) p.0 (key_put k xs h p.1)
  where
    cases : (o : Ordering) → is_key x ≡ true → list_all is_key (insert_key key_cmp xs k) ≡ true → list_all is_key (match_ordering o (k ∷ x ∷ xs) (x ∷ xs) (x ∷ insert_key key_cmp xs k)) ≡ true
    cases Less a b = and_from (is_key k) (list_all is_key (x ∷ xs)) h g
    cases Equal a b = g
    cases Greater a b = and_from (is_key x) (list_all is_key (insert_key key_cmp xs k)) a b

parts_good : (ks : List Key) (map : Map) → list_all is_key ks ≡ true → ((k : Key) → GoodState (map k)) → AllByRecursion GoodPart (parts_of ks map)
parts_good [] map h g = tt
parts_good (k ∷ ks) map h g =
    let p = and_parts (is_key k) (list_all is_key ks) h in
    (record { key = p.0; state = g k }, parts_good ks map p.1 g)

step_good : (m : ℕ) (p : Program) (v : IsValid p) (e : Event) (s : Plain) → is_event e ≡ true → GoodPlain s → GoodPlain (plain_step m p e s)
step_good m p v (Row k time values) s h g =
    let a = and_parts (is_key k && is_number time) (nat_le (length values) 16 && list_all is_number values) h in
    let b = and_parts (is_key k) (is_number time) a.0 in
    let c = and_parts (nat_le (length values) 16) (list_all is_number values) a.1 in
    does_good k (s.map k) (job_run p (row_job s.wm time values) (s.map k).cells) (knows k s) b.0 (g.map k)
    (row_good p v s.wm time values (s.map k) g.wm b.1 c.1 (g.map k))
    (record { wm = g.wm; keys = key_put k s.keys b.0 g.keys; map = g.map; entries = g.entries })
step_good m p v (Mark w) s h g =
    let fired : GoodPlain (all_fired p (at_watermark w s)) =
    fire_all_good p v (most_firings * length s.keys) (λ k. most_firings) (at_watermark w s) (record { wm = h; keys = g.keys; map = g.map; entries = g.entries }) in
    plain_if (int_lt s.wm w) (writes (Watermark w) (all_fired p (at_watermark w s))) s
    (record { wm = fired.wm; keys = fired.keys; map = fired.map; entries = all_behind IsNear (all_fired p (at_watermark w s)).entries (entry.Mark (Watermark w) ∷ []) fired.entries (h, tt) }) g
step_good m p v (Barrier id) s h g =
    let a = and_parts (is_number id) (is_id id) h in
    record {
      wm = g.wm;
      keys = g.keys;
      map = g.map;
      entries = all_behind IsNear s.entries (entry.Mark (block_of m p id s) ∷ []) g.entries (block_near m p.states id s.wm (parts_of s.keys s.map) v.named a.0 g.wm (parts_good s.keys s.map g.keys g.map), tt);
    }

steps_good : (m : ℕ) (p : Program) (v : IsValid p) (es : List Event) (s : Plain) → list_all is_event es ≡ true → GoodPlain s → GoodPlain (plain_steps m p es s)
steps_good m p v [] s h g = g
steps_good m p v (e ∷ es) s h g =
    let a = and_parts (is_event e) (list_all is_event es) h in
    steps_good m p v es (plain_step m p e s) a.1 (step_good m p v e s a.0 g)

start_good : (p : Program) → GoodPlain (plain_start p)
start_good p = record { wm = refl; keys = refl; map = λ k. record { cells = λ i. empty_good (slice_index_or (kinds_of p.states) i kind.Value); times = refl }; entries = tt }

sync_near : (m : ℕ) (p : Program) (events : List Event) → IsRun p events → AllByRecursion IsNear (sync m p events).entries
sync_near m p events r = (steps_good m p r.valid events (plain_start p) r.spelled (start_good p)).entries

pub sync_plain : (m : ℕ) (p : Program) (events : List Event) → WritesPlain m p events
sync_plain m p events r short = all_plain (sync m p events).entries (sync_near m p events r) short

-- lists that are lawful

abbrev LineNear : Key → List ℤ → Type 0
LineNear k line = is_line (Out k line) ≡ true

abbrev MarkNear : Marker → Type 0
MarkNear m = IsNear (entry.Mark m)

lines_near : (k : Key) (es : List Entry) → AllByRecursion IsNear es → AllByRecursion (LineNear k) (lines_of k es)
lines_near k [] h = tt
lines_near k (entry.Out j line ∷ es) h = cases (bytes_eq j k) refl (lines_near k es h.1) where
  cases : (b : Bool) → bytes_eq j k ≡ b → AllByRecursion (LineNear k) (lines_of k es) → AllByRecursion (LineNear k) (if b then line ∷ lines_of k es else lines_of k es)
  cases true e rest = (subst (λ (q : Key). LineNear q line) (key_is j k e) h.0, rest)
  cases false e rest = rest
lines_near k (entry.Mark m ∷ es) h = lines_near k es h.1

markers_near : (n : Key → ℕ) (es : List Entry) → AllByRecursion IsNear es → AllByRecursion MarkNear (markers (cuts_from n es))
markers_near n [] h = tt
markers_near n (entry.Out k line ∷ es) h = markers_near (one_more n k) es h.1
markers_near n (entry.Mark m ∷ es) h = (h.0, markers_near n es h.1)

front_all : {A : Type 0} (P : A → Type 0) (xs rest : List A) → AllByRecursion P (xs ++ rest) → AllByRecursion P xs
front_all P [] rest h = tt
front_all P (x ∷ xs) rest h = (h.0, front_all P xs rest h.1)

prefix_all : {A : Type 0} (P : A → Type 0) (xs ys : List A) → IsPrefix xs ys → AllByRecursion P ys → AllByRecursion P xs
prefix_all P xs ys f h = front_all P xs f.0 (subst (AllByRecursion P) f.1 h)

near_from : (n : Key → ℕ) (es : List Entry) → ((k : Key) → AllByRecursion (LineNear k) (lines_of k es)) → AllByRecursion MarkNear (markers (cuts_from n es)) → AllByRecursion IsNear es
near_from n [] h g = tt
near_from n (entry.Out j line ∷ es) h g = (here (bytes_eq j j) (same_key j) (h j), near_from (one_more n j) es (λ k. there k (bytes_eq j k) (h k)) g) where
  here : (b : Bool) → b ≡ true → AllByRecursion (LineNear j) (if b then line ∷ lines_of j es else lines_of j es) → LineNear j line
  here true e x = x.0
  here false e x = absurd (cc)

  there : (k : Key) (b : Bool) → AllByRecursion (LineNear k) (if b then line ∷ lines_of k es else lines_of k es) → AllByRecursion (LineNear k) (lines_of k es)
  there k true x = x.1
  there k false x = x
near_from n (entry.Mark m ∷ es) h g = (g.0, near_from n es h g.1)

pub so_far_plain : (m : ℕ) (serial : Bool) (p : Program) (events : List Event) (written : List Entry) → SoFarIsPlain m serial p events written
so_far_plain m serial p events written r lawful short =
    let near = sync_near m p events r in
    let plain = (sync m p events).entries in
    all_plain written (near_from (λ k. 0) written (λ k. prefix_all (LineNear k) (lines_of k written) (lines_of k plain) (lawful.lines k) (lines_near k plain near))
    (prefix_all MarkNear (markers (cuts written)) (markers (cuts plain)) lawful.markers (markers_near (λ k. 0) plain near))) short

pub whole_plain : (m : ℕ) (serial : Bool) (p : Program) (events : List Event) (written : List Entry) → WholeIsPlain m serial p events written
whole_plain m serial p events written r lawful short =
    let near = sync_near m p events r in
    let plain = (sync m p events).entries in
    all_plain written (near_from (λ k. 0) written (λ k. subst (AllByRecursion (LineNear k)) (sym (lawful.lines k)) (lines_near k plain near))
    (subst (AllByRecursion MarkNear) (sym lawful.markers) (markers_near (λ k. 0) plain near))) short

pub bytes_tell : (m : ℕ) (serial : Bool) (p : Program) (events : List Event) (one two : List Entry) → BytesTell m serial p events one two
bytes_tell m serial p events one two r a b short same =
    determined one two (so_far_plain m serial p events one r a short) (so_far_plain m serial p events two r b (subst (λ (t : List ℕ). length t < 2 ^ 63) same short)) same
