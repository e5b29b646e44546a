-- A step does the same whatever was written before, and writes behind it.
use Rattle.std.proofs.Common.{◌≡◌, ℕ, zero, suc, ◌*◌, ℤ, int_lt, List, [], ◌∷◌, ◌++◌, length, Bool, true, false, cond, Option, Some, None, refl, sym, ap, ◌∙◌, append_assoc, append-nil, subst}
use Rattle.ax_text.specs.Run.{World}
use Rattle.ax_text.specs.KeyStates.{KeyState}
use Rattle.ax_text.specs.Programs.{Program}
use Rattle.ax_text.specs.Jobs.{row_job, firing_job, job_run}
use Rattle.ax_machine.specs.Entries.{Key, Marker, Watermark, Entry, says, entry_text, text_of}
use Rattle.ax_machine.specs.Entries as entry
use Rattle.ax_machine.specs.Events.{Event, Row, Mark, Barrier}
use Rattle.ax_machine.specs.Firings.{Due, most_firings, next_due, one_less}
use Rattle.ax_machine.specs.Sync.{Plain, without_least, does, knows, fire, fire_next, fire_all, all_fired, at_watermark, writes, block_of, plain_step, plain_steps, plain_start, sync, silent, behind}
use Rattle.ax_machine.specs.Lawful.{LawfulSoFar, LawfulSoFarFor}
use Rattle.ax_machine.proofs.FrontLemmas.{lawful_so_far_longer}

with_entries : {s t : Plain} → s.wm ≡ t.wm → s.keys ≡ t.keys → s.map ≡ t.map → s.entries ≡ t.entries → s ≡ t
with_entries p q r e = λ i. record { wm = p i; keys = q i; map = r i; entries = e i }

does_behind : (es : List Entry) (k : Key) (state : KeyState) (w : World) (s : Plain) → does k state w (behind es s) ≡ behind es (does k state w s)
does_behind es k state w s = with_entries refl refl refl (append_assoc es s.entries (says k w.talk.lines))

writes_behind : (es : List Entry) (m : Marker) (s : Plain) → writes m (behind es s) ≡ behind es (writes m s)
writes_behind es m s = with_entries refl refl refl (append_assoc es s.entries (entry.Mark m ∷ []))

pub fire_behind : (es : List Entry) (p : Program) (d : Due) (s : Plain) → fire p d (behind es s) ≡ behind es (fire p d s)
fire_behind es p d s = does_behind es d.key (without_least (s.map d.key)) (job_run p (firing_job s.wm d.time) (s.map d.key).cells) s

fire_next_behind : (es : List Entry) (p : Program) (go : (Key → ℕ) → Plain → Plain) → ((more : Key → ℕ) (s : Plain) → go more (behind es s) ≡ behind es (go more s))
    → (o : Option Due) (more : Key → ℕ) (s : Plain) → fire_next p go o more (behind es s) ≡ behind es (fire_next p go o more s)
fire_next_behind es p go goes None more s = refl
fire_next_behind es p go goes (Some d) more s = ap (go (one_less more d.key)) (fire_behind es p d s) ∙ goes (one_less more d.key) (fire p d s)

pub fire_all_behind : (es : List Entry) (p : Program) (fuel : ℕ) (more : Key → ℕ) (s : Plain) → fire_all p fuel more (behind es s) ≡ behind es (fire_all p fuel more s)
fire_all_behind es p zero more s = refl
fire_all_behind es p (suc n) more s = fire_next_behind es p (fire_all p n) (fire_all_behind es p n) (next_due s.wm s.keys more s.map) more s

pub silent_behind : (s : Plain) → s ≡ behind s.entries (silent s)
silent_behind s = with_entries refl refl refl (sym (append-nil s.entries))

-- what a firing, and all of them, write
pub fire_writes : (p : Program) (d : Due) (s : Plain) → fire p d s ≡ behind s.entries (fire p d (silent s))
fire_writes p d s = ap (fire p d) (silent_behind s) ∙ fire_behind s.entries p d (silent s)

pub fire_all_writes : (p : Program) (fuel : ℕ) (more : Key → ℕ) (s : Plain) → fire_all p fuel more s ≡ behind s.entries (fire_all p fuel more (silent s))
fire_all_writes p fuel more s = ap (fire_all p fuel more) (silent_behind s) ∙ fire_all_behind s.entries p fuel more (silent s)

watermark_if : (es : List Entry) (b : Bool) (x y s : Plain) → x ≡ behind es y → cond b x (behind es s) ≡ behind es (cond b y s)
watermark_if es true x y s e = e
watermark_if es false x y s e = refl

watermark_behind : (es : List Entry) (p : Program) (w : ℤ) (s : Plain)
    → writes (Watermark w) (all_fired p (at_watermark w (behind es s))) ≡ behind es (writes (Watermark w) (all_fired p (at_watermark w s)))
watermark_behind es p w s =
    ap (writes (Watermark w)) (fire_all_behind es p (most_firings * length s.keys) (λ k. most_firings) (at_watermark w s))
    ∙ writes_behind es (Watermark w) (all_fired p (at_watermark w s))

-- a step behind more entries
pub step_further : (m : ℕ) (p : Program) (e : Event) (es : List Entry) (s : Plain) → plain_step m p e (behind es s) ≡ behind es (plain_step m p e s)
step_further m p (Row k time values) es s = does_behind es k (s.map k) (job_run p (row_job s.wm time values) (s.map k).cells) (knows k s)
step_further m p (Mark w) es s = watermark_if es (int_lt s.wm w)
    (writes (Watermark w) (all_fired p (at_watermark w (behind es s)))) (writes (Watermark w) (all_fired p (at_watermark w s))) s (watermark_behind es p w s)
step_further m p (Barrier id) es s = writes_behind es (block_of m p id s) s

pub steps_further : (m : ℕ) (p : Program) (events : List Event) (es : List Entry) (s : Plain) → plain_steps m p events (behind es s) ≡ behind es (plain_steps m p events s)
steps_further m p [] es s = refl
steps_further m p (e ∷ events) es s = ap (plain_steps m p events) (step_further m p e es s) ∙ steps_further m p events es (plain_step m p e s)

pub step_behind : (m : ℕ) (p : Program) (e : Event) (s : Plain) → plain_step m p e s ≡ behind s.entries (plain_step m p e (silent s))
step_behind m p e s = ap (plain_step m p e) (silent_behind s) ∙ step_further m p e s.entries (silent s)

pub steps_behind : (m : ℕ) (p : Program) (events : List Event) (s : Plain) → plain_steps m p events s ≡ behind s.entries (plain_steps m p events (silent s))
steps_behind m p events s = ap (plain_steps m p events) (silent_behind s) ∙ steps_further m p events s.entries (silent s)

-- events, and then further ones
pub steps_append : (m : ℕ) (p : Program) (xs ys : List Event) (s : Plain) → plain_steps m p (xs ++ ys) s ≡ plain_steps m p ys (plain_steps m p xs s)
steps_append m p [] ys s = refl
steps_append m p (e ∷ xs) ys s = steps_append m p xs ys (plain_step m p e s)

-- what the plain thread writes for more events begins with what it writes for the first of them
pub sync_longer : (m : ℕ) (p : Program) (xs ys : List Event)
    → (sync m p (xs ++ ys)).entries ≡ (sync m p xs).entries ++ (plain_steps m p ys (silent (sync m p xs))).entries
sync_longer m p xs ys = ap (λ (s : Plain). s.entries) (steps_append m p xs ys (plain_start p) ∙ steps_behind m p ys (sync m p xs))

pub lawful_for_more : (m : ℕ) (serial : Bool) (p : Program) (xs ys : List Event) (written : List Entry)
    → LawfulSoFarFor m serial p xs written → LawfulSoFarFor m serial p (xs ++ ys) written
lawful_for_more m serial p xs ys written h =
    let So : List Entry → Type 0 = LawfulSoFar serial written in
    subst So (sym (sync_longer m p xs ys)) (lawful_so_far_longer serial written (sync m p xs).entries (plain_steps m p ys (silent (sync m p xs))).entries h)

-- the text of entries, and then of further ones
pub text_of-append : (xs ys : List Entry) → text_of (xs ++ ys) ≡ text_of xs ++ text_of ys
text_of-append [] ys = refl
text_of-append (e ∷ xs) ys = ap (λ (t : List ℕ). entry_text e ++ t) (text_of-append xs ys) ∙ sym (append_assoc (entry_text e) (text_of xs) (text_of ys))
