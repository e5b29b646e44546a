-- The timers that fire at a watermark, one after another.
use Rattle.std.proofs.Common.{◌≡◌, ℕ, zero, suc, ◌-◌, ◌*◌, ◌≤◌, ℤ, int_le, List, [], ◌∷◌, ◌++◌, Bool, true, false, cond, length, Option, Some, None, IsSome, refl, sym, ap, ◌∙◌, subst, append_assoc, append-nil}
use Rattle.std.proofs.lemmas.Map.Made.{is_some-lookup}
use Rattle.std.specs.Io.KnownBytes.{Appends}
use Rattle.std.specs.List.{list_any}
use Rattle.std.specs.Str.{bytes_eq}
use Rattle.std.specs.BTreeMap.{get, is_at, keys}
use mathlib.Core.Path.{fun_ext}
use Rattle.ax_base.proofs.OutsideLemmas.{Appends-none, Appends-more}
use Rattle.ax_text.specs.declared.vocabulary.Handler.TheVariants as handler
use Rattle.ax_text.specs.declared.vocabulary.Kind.{Kind}
use Rattle.ax_text.specs.Cells.{Cell, Cells}
use Rattle.ax_text.specs.Exprs.{Facts}
use Rattle.ax_text.specs.Programs.{Program, text_or_stop}
use Rattle.ax_text.specs.Times.{least_time, later_times}
use Rattle.ax_text.specs.Run.{World, run, begun, state_after}
use Rattle.ax_text.specs.Jobs.{firing_job, job_run}
use Rattle.ax_keys.specs.Keys.{key_cmp}
use Rattle.ax_time.specs.declared.timer.Timer.{Timer}
use Rattle.ax_time.specs.Timers.{times_of, PutsTimes}
use Rattle.ax_time.proofs.KeptLemmas.{same_key}
use Rattle.ax_machine.specs.Entries.{Key, Entry, says, text_of, entry_text}
use Rattle.ax_machine.specs.Firings.{most_firings, one_less}
use Rattle.ax_machine.specs.Firings as machine
use Rattle.ax_machine.specs.Sync.{Map, Plain, does, without_least, fire, fire_all, all_fired, silent}
use Rattle.ax_machine.proofs.FiringLemmas.{total, key_is, total_most, fire_all_next, fire_all_end}
use Rattle.ax_machine.proofs.StepLemmas.{fire_all_writes, text_of-append}
use Rattle.ax_lang.specs.declared.program.Program.{Program as CodeProgram}
use Rattle.ax_lang.specs.Shown.{shown_program}
use Rattle.ax_plain.specs.declared.agenda.Due.{Due}
use Rattle.ax_plain.specs.declared.handler.RunFacts.{RunFacts}
use Rattle.ax_plain.specs.Agenda.{shown_due, timer_of, Lists, without, NoneFires, IsFirstDue, Puts}
use Rattle.ax_plain.specs.Handler.{shown_run_facts}
use Rattle.ax_base.specs.Outside.{AppendsSome}
use Rattle.ax_plain.specs.Plain.{Held, cells_or, map_of, Fits, run_at}
use Rattle.ax_plain.proofs.AgendaLemmas.{put_back, pops_next, pops_none}
use Rattle.ax_plain.proofs.RunLemmas.{AppendsSome-behind, AppendsSome-all}
use Rattle.ax_plain.proofs.ThreadLemmas.{key_state, plain}
use Rattle.ax_plain.proofs.TimesLemmas.{puts_at, puts_elsewhere}

-- ---- one firing

-- a key with a timer is held
pub has_held : (kinds : List Kind) (m : Held) (t : List Timer) (k : Key) (time : ℤ) → Fits kinds m t → least_time (times_of t k) ≡ Some time → IsSome (get key_cmp m k)
has_held kinds m t k time f e = by_held (get key_cmp m k) refl where
  by_held : (o : Option (List Cell)) → get key_cmp m k ≡ o → IsSome o
  by_held None n = let none : None ≡ Some time = sym (ap least_time (f.times k n)) ∙ e in absurd (cc)
  by_held (Some x) n = refl

-- and so it is among the keys
pub is_known : (m : Held) (k : Key) → IsSome (get key_cmp m k) → list_any (bytes_eq k) (keys m) ≡ true
is_known m k h = sym (ap (λ (f : Key → Bool). list_any f (keys m)) (fun_ext (λ q. same_key k q))) ∙ sym (is_some-lookup (is_at (key_cmp k)) m.entries) ∙ h

-- a key's first timer is taken off
pub taken_fits : (kinds : List Kind) (m : Held) (t u : List Timer) (k : Key) → Fits kinds m t → PutsTimes t u k (later_times (times_of t k)) → Fits kinds m u
taken_fits kinds m t u k f p = record {
  cells = f.cells;
  times = λ q none. by_key q (f.times q none) (bytes_eq k q) refl;
}
  where
    by_key : (q : Key) → times_of t q ≡ [] → (b : Bool) → bytes_eq k q ≡ b → times_of u q ≡ []
    by_key q none true e = p q ∙ ap (λ (b : Bool). cond b (later_times (times_of t k)) (times_of t q)) e ∙ ap (λ x. later_times (times_of t x)) (key_is k q e) ∙ ap later_times none
    by_key q none false e = puts_elsewhere t u k q (later_times (times_of t k)) p e ∙ none

-- then the run of its handler is a firing
pub fired_is : (p : CodeProgram) (facts : RunFacts) (kinds : List Kind) (m : Held) (t u : List Timer) (wm : ℤ) (d : machine.Due)
    → PutsTimes t u d.key (later_times (times_of t d.key))
    → shown_run_facts facts ≡ record { time = d.time; wm = wm; values = [] }
    → run_at p handler.Timer facts d.key (plain wm (keys m) (map_of kinds m u)) ≡ fire (shown_program p) d (plain wm (keys m) (map_of kinds m t))
fired_is p facts kinds m t u wm d h ef =
    ap (λ (f : Facts). does d.key (map_of kinds m u d.key) (run f (text_or_stop (shown_program p).timer) (begun cells)) (plain wm (keys m) (map_of kinds m u))) ef
    ∙ ap (λ ts. does d.key (key_state cells ts) ran (plain wm (keys m) (map_of kinds m u))) (puts_at t u d.key later h)
    ∙ ap (λ (x : Map). record { wm = wm; keys = keys m; map = x; entries = says d.key ran.talk.lines }) (fun_ext (λ q. elsewhere q (bytes_eq d.key q) refl))
  where
    cells : Cells
    cells = cells_or kinds (get key_cmp m d.key)

    later : List ℤ
    later = later_times (times_of t d.key)

    ran : World
    ran = run (record { time = d.time; wm = wm; values = [] }) (text_or_stop (shown_program p).timer) (begun cells)

    elsewhere : (q : Key) (b : Bool) → bytes_eq d.key q ≡ b
        → cond b (state_after (key_state cells later) ran) (map_of kinds m u q) ≡ cond b (state_after (key_state cells later) ran) (map_of kinds m t q)
    elsewhere q true e = refl
    elsewhere q false e = ap (key_state (cells_or kinds (get key_cmp m q))) (puts_elsewhere t u d.key q later h e)

-- ---- what fires next

own_least : (w : ℤ) (n : ℕ) (k : Key) (times : List ℤ) (d : machine.Due) → timer_of w n k times ≡ Some d → least_time times ≡ Some d.time
own_least w zero k times d e = absurd (cc)
own_least w (suc n) k [] d e = absurd (cc)
own_least w (suc n) k (t ∷ ts) d e = by_due (int_le t w) e where
  by_due : (b : Bool) → cond b (Some (record { time = t; key = k })) None ≡ Some d → Some t ≡ Some d.time
  by_due true h = let same : record { time = t; key = k } ≡ d = cc in ap (λ (x : machine.Due). Some x.time) same
  by_due false h = absurd (cc)

pub least_is : (w : ℤ) (more : Key → ℕ) (times : Key → List ℤ) (d : Due) (n : ℕ) → IsFirstDue w more times d n → least_time (times d.key) ≡ Some d.time
least_is w more times d n next = own_least w (more d.key) d.key (times d.key) (shown_due d) next.is

-- ---- all firings of a watermark

-- the thread, where this was written
abbrev pub said : List Entry → Plain → Plain
said es s = record { wm = s.wm; keys = s.keys; map = s.map; entries = es }

-- `whole` is what all firings come to; the sink grew by what was written so far, and the agenda lists what may fire yet
pub record Firing (p : Program) (whole : Plain) (h0 h : Option (List ℕ)) (s : Plain) (agenda : List (Due × ℕ)) : Type 0 where
  pub fuel : ℕ
  pub more : Key → ℕ
  pub written : List Entry
  pub rest : fire_all p fuel more (said written s) ≡ whole
  pub enough : total s.keys more ≤ fuel
  pub grown : Appends h0 h (text_of written)
  pub lists : Lists s.wm more (λ k. (s.map k).times) agenda

pub begin_firing : (p : Program) (h : Option (List ℕ)) (wm : ℤ) (ks : List Key) (map : Map) (agenda : List (Due × ℕ)) → Lists wm (λ k. most_firings) (λ k. (map k).times) agenda
    → Firing p (all_fired p (plain wm ks map)) h h (plain wm ks map) agenda
begin_firing p h wm ks map agenda lists = record {
  fuel = most_firings * length ks;
  more = λ k. most_firings;
  written = [];
  rest = refl;
  enough = total_most ks most_firings;
  grown = Appends-none h;
  lists = lists;
}

module _ (p : Program) (whole : Plain) (h0 h : Option (List ℕ)) (s : Plain) (agenda : List (Due × ℕ)) (g : Firing p whole h0 h s agenda) where
  -- nothing fires any more
  module _ (none : NoneFires s.wm g.more (λ k. (s.map k).times)) where
    all_fired_is : whole ≡ said g.written s
    all_fired_is = sym g.rest ∙ fire_all_end p g.fuel g.more (said g.written s) (pops_none s.wm g.more s.map (λ k. (s.map k).times) (λ k. refl) s.keys none)

    pub ended_stands : said [] s ≡ silent whole
    ended_stands = sym (ap silent all_fired_is)

    pub ended_grown : Appends h0 h (text_of whole.entries)
    ended_grown = let P : Plain → Type 0 = λ x. Appends h0 h (text_of x.entries) in subst P (sym all_fired_is) g.grown

  -- a timer fires
  module _ (d : Due) (n : ℕ) (known : list_any (bytes_eq d.key) s.keys ≡ true) (next : IsFirstDue s.wm g.more (λ k. (s.map k).times) d n) where
    far : (less : ℕ) × (fire_all p g.fuel g.more (said g.written s) ≡ fire_all p less (one_less g.more d.key) (fire p (shown_due d) (said g.written s))) × (total s.keys (one_less g.more d.key) ≤ less)
    far = fire_all_next p g.fuel g.more (said g.written s) (shown_due d) (pops_next s.wm g.more s.map (λ k. (s.map k).times) (λ k. refl) s.keys d n known next) g.enough

    -- what is written behind it
    tail : List Entry
    tail = (fire_all p far.0 (one_less g.more d.key) (silent (fire p (shown_due d) (said g.written s)))).entries

    whole_text : text_of g.written ++ (text_of (fire p (shown_due d) (said [] s)).entries ++ text_of tail) ≡ text_of whole.entries
    unfolding tail
    whole_text =
        let now : List Entry = (fire p (shown_due d) (said [] s)).entries in
        sym (append_assoc (text_of g.written) (text_of now) (text_of tail))
        ∙ ap (λ x. x ++ text_of tail) (sym (text_of-append g.written now))
        ∙ sym (text_of-append (g.written ++ now) tail)
        ∙ ap (λ (x : Plain). text_of x.entries) (sym (fire_all_writes p far.0 (one_less g.more d.key) (fire p (shown_due d) (said g.written s))) ∙ sym far.1 ∙ g.rest)

    pub firing_failed : (h' : Option (List ℕ)) → AppendsSome h h' (text_of (fire p (shown_due d) (said [] s)).entries) → AppendsSome h0 h' (text_of whole.entries)
    firing_failed h' a = AppendsSome-behind h0 h h' (text_of g.written) (text_of (fire p (shown_due d) (said [] s)).entries) (text_of tail) (text_of whole.entries) g.grown a whole_text

    -- the firing was written, and then there was no memory
    pub firing_cut : (h' : Option (List ℕ)) → Appends h h' (text_of (fire p (shown_due d) (said [] s)).entries) → AppendsSome h0 h' (text_of whole.entries)
    firing_cut h' a = firing_failed h' (AppendsSome-all h h' (text_of (fire p (shown_due d) (said [] s)).entries) a)

    -- and the key is put back
    pub went_on : (h' : Option (List ℕ)) (s' : Plain) (left agenda' : List (Due × ℕ)) (least : Option ℤ) → s' ≡ silent (fire p (shown_due d) (said [] s))
        → Appends h h' (text_of (fire p (shown_due d) (said [] s)).entries)
        → Lists s.wm (without d.key g.more) (λ k. (s.map k).times) left → least ≡ least_time (s'.map d.key).times → Puts s.wm d.key least (n - 1) left agenda'
        → Firing p whole h0 h' s' agenda'
    went_on h' s' left agenda' least stands a lists first puts =
        let now : List Entry = (fire p (shown_due d) (said [] s)).entries in
        let others : (q : Key) → bytes_eq d.key q ≡ false → (s'.map q).times ≡ (s.map q).times = (λ q e. ap (λ (x : Plain). (x.map q).times) stands ∙ other q e) in
        let F : Plain → Type 0 = λ x. total x.keys (one_less g.more d.key) ≤ far.0 in
        let L : ℤ → Type 0 = λ w. Lists w (one_less g.more d.key) (λ k. (s'.map k).times) agenda' in
        record {
          fuel = far.0;
          more = one_less g.more d.key;
          written = g.written ++ now;
          rest = ap (λ (x : Plain). fire_all p far.0 (one_less g.more d.key) (said (g.written ++ now) x)) stands ∙ sym far.1 ∙ g.rest;
          enough = subst F (sym stands) far.2;
          grown = Appends-more h0 h h' (text_of g.written) (text_of now) _ g.grown a (sym (text_of-append g.written now));
          lists = subst L (sym (ap (λ (x : Plain). x.wm) stands)) (put_back s.wm d.key g.more (λ k. (s.map k).times) (λ k. (s'.map k).times) n least left agenda' others next.left first lists puts);
        }
      where
        other : (q : Key) → bytes_eq d.key q ≡ false → ((fire p (shown_due d) (said [] s)).map q).times ≡ (s.map q).times
        other q e = ap (λ (b : Bool). (cond b (state_after (without_least (s.map d.key)) (job_run p (firing_job s.wm d.time) (s.map d.key).cells)) (s.map q)).times) e

-- ---- the line of the watermark

pub marked : (a b c : Option (List ℕ)) (es : List Entry) (e : Entry) → Appends a b (text_of es) → Appends b c (entry_text e) → Appends a c (text_of (es ++ e ∷ []))
marked a b c es e p q = Appends-more a b c (text_of es) (entry_text e) _ p q (ap (λ t. text_of es ++ t) (sym (append-nil (entry_text e))) ∙ sym (text_of-append es (e ∷ [])))

pub marked_some : (a b c : Option (List ℕ)) (es : List Entry) (e : Entry) → Appends a b (text_of es) → AppendsSome b c (entry_text e) → AppendsSome a c (text_of (es ++ e ∷ []))
marked_some a b c es e p q = AppendsSome-behind a b c (text_of es) (entry_text e) [] _ p q (sym (text_of-append es (e ∷ [])))

pub front_some : (a b : Option (List ℕ)) (es fs : List Entry) → AppendsSome a b (text_of es) → AppendsSome a b (text_of (es ++ fs))
front_some a b es fs q = AppendsSome-behind a a b [] (text_of es) (text_of fs) _ (Appends-none a) q (sym (text_of-append es fs))
