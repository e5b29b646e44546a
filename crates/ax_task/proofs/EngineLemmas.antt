-- What each thing that an engine does makes of a run.
use Rattle.std.proofs.Common.{◌≡◌, ◌<◌, inl, inr, ℕ, ℤ, zero, suc, int_lt, Bool, true, false, List, [], ◌∷◌, ◌++◌, length, get_or, Option, None, Result, Ok, Err, OnOk, IfOk, refl, sym, ap, ◌∙◌, subst, arith}
use Rattle.std.proofs.lemmas.List.{append-nil}
use Rattle.std.specs.Io.KnownBytes.{Appends}
use Rattle.ax_base.specs.Outside.{AppendsSome}
use Rattle.ax_base.proofs.OutsideLemmas.{Appends-none}
use Rattle.ax_machine.specs.Entries.{Key, Watermark, Block, Entry, says, text_of, entry_text, marker_text}
use Rattle.ax_machine.specs.Entries as entry
use Rattle.ax_machine.specs.Events.{Event}
use Rattle.ax_machine.specs.Events as event
use Rattle.ax_machine.specs.Blocks.{part_lines, lines_among, block_text}
use Rattle.ax_machine.specs.Lawful.{LawfulFor, LawfulSoFarFor}
use Rattle.ax_text.specs.Programs.{Program as AnyProgram, untouched}
use Rattle.ax_lang.specs.declared.program.Program.{Program}
use Rattle.ax_lang.specs.Shown.{shown_program, shown_kinds}
use Rattle.ax_buffer.specs.Buffer.{total}
use Rattle.ax_time.specs.Timers.{times_of}
use Rattle.ax_time.specs.declared.epoch.Marker.{Marker}
use Rattle.ax_time.specs.declared.epoch.Marker.TheVariants as marker
use Rattle.ax_execution.specs.Origins.{first}
use Rattle.ax_execution.specs.Machine.{Admit, Close, Closed, Send, marker_of}
use Rattle.ax_execution.specs.MachineControls.{MachineControl, control_of_machine, at_origin, in_flight_on, happens_on, send_first_on}
use Rattle.ax_execution.specs.KeyControls.{KeyControl}
use Rattle.ax_core.specs.declared.settings.Settings.{Settings}
use Rattle.ax_core.specs.declared.effects.Fired.{Fired}
use Rattle.ax_core.specs.declared.effects.Effects.{Effects}
use Rattle.ax_core.specs.declared.controller.Controller.{Controller}
use Rattle.ax_core.specs.Epochs.{closing_of}
use Rattle.ax_core.specs.Flow.{out_of}
use Rattle.ax_core.specs.Sound.{StandsFor, IsSound}
use Rattle.ax_execution.specs.ControlsAllowed.{FirstIsFinishedOn}
use Rattle.ax_core.specs.Events.{SameRules, KeysStay, Makes, MayFireOn, Fires, Runs, Sends, StaysUnsent}
use Rattle.ax_task.specs.Shards.{shard_count, held, out}
use Rattle.ax_task.specs.Refined.{content_over, Refines}
use Rattle.ax_task.specs.Engines.{Stands, ShardsStay, IsReady, MovesOn, Takes, Wrote, Writes, WroteSome, WritesSome, IsQuiet, IsBlockOf, IsMarkerText, WroteMarker, WritesPart}
use Rattle.ax_task.specs.declared.engine.Engine.{Engine}
use Rattle.ax_task.proofs.Refining.{Leaves}
use Rattle.ax_task.proofs.Things.{marker_event, fires_on, admits_on, closes_on, sends_on, runs_on, skips_on}
use Rattle.ax_task.proofs.Blocks.{block_is}
use Rattle.ax_task.proofs.Contents.{refines_first}
use Rattle.ax_task.proofs.Resting.{so_far, whole, rests}
use Rattle.ax_task.proofs.Written.{AppendsSome-none}

leaves : (a b : Controller) → SameRules a b → b.outs ≡ a.outs → KeysStay a b → Leaves a b
leaves a b same outs keys = record { same = same; outs = outs; keys = keys }

-- another controller behind the same shards
pub shards_stay : (e e' : Engine) → e'.settings ≡ e.settings → e'.batch ≡ e.batch → e'.shards ≡ e.shards → ShardsStay e e'
shards_stay e e' settings batch shards = record { settings = settings; batch = batch; shards = shards }

pub stands_as : (s : Settings) (p : Program) (e e' : Engine) (read read' : List Event) (written written' : List Entry) → ShardsStay e e' → Stands s p e read written
    → IsSound e'.core → Refines s p e'.core (content_over s (held e.shards)) (out e.shards) read' written' → Stands s p e' read' written'
stands_as s p e e' read read' written written' d x sound r = record {
  sound = sound;
  refines = subst (λ (v : _). Refines s p e'.core (content_over s (held v)) (out v) read' written') (sym d.shards) r;
  settings = d.settings ∙ x.settings;
  shards = ap shard_count d.shards ∙ x.shards;
  kinds = ap (λ (v : _). v.kinds) d.shards ∙ x.kinds;
  some = x.some;
  batch = subst (λ (n : ℕ). 0 < n) (sym d.batch) x.batch;
}

-- what was written may have been written so far
pub so_far_here : (s : Settings) (p : Program) (e : Engine) (read : List Event) (written : List Entry) → Stands s p e read written → LawfulSoFarFor s.groups s.serial (shown_program p) read written
so_far_here s p e read written x = so_far s p e.core (content_over s (held e.shards)) (out e.shards) read written x.refines

-- nothing more was written
pub some_none : (e : Engine) (h : Option (List ℕ)) → WritesSome e h h
some_none e h s p read written x = record {
  entries = [];
  so_far = subst (λ (es : List Entry). LawfulSoFarFor s.groups s.serial (shown_program p) read es) (sym (append-nil written)) (so_far_here s p e read written x);
  part = AppendsSome-none h [];
}

pub writes_none : (e e' : Engine) (h : Option (List ℕ)) → MovesOn e e' → Writes e e' h h
writes_none e e' h m s p read written x = record {
  entries = [];
  stands = subst (λ (es : List Entry). Stands s p e' read es) (sym (append-nil written)) (m s p read written x);
  grown = Appends-none h;
}

module _ (e e' : Engine) (d : ShardsStay e e') (sound : IsSound e'.core) (same : SameRules e.core e'.core) (outs : e'.core.outs ≡ e.core.outs) (keys : KeysStay e.core e'.core) where
  on : Leaves e.core e'.core
  on = leaves e.core e'.core same outs keys

  -- a key fires
  pub fire_moves : (f : Fired) → ((m : MachineControl) → StandsFor e.core m → Fires e.core e'.core f m) → MovesOn e e'
  fire_moves f h s p read written x = stands_as s p e e' read read written written d x sound
      (fires_on s p e.core e'.core (content_over s (held e.shards)) (out e.shards) read written x.refines f on (h (control_of_machine x.refines.machine) x.refines.stands))

  -- a row comes in
  pub admit_takes : (n : ℕ) (key : Key) (time : ℤ) (values : List ℤ) → ((m : MachineControl) → StandsFor e.core m → Makes e.core e'.core (Admit n key time values) m) → Takes e e' (event.Row key time values)
  admit_takes n key time values h s p read written x = stands_as s p e e' read (read ++ event.Row key time values ∷ []) written written d x sound
      (admits_on s p e.core e'.core (content_over s (held e.shards)) (out e.shards) read written x.refines n key time values on (h (control_of_machine x.refines.machine) x.refines.stands))

  -- an epoch is closed
  pub close_takes : (k : Marker) → ((m : MachineControl) → StandsFor e.core m → Makes e.core e'.core (Close (closing_of k)) m) → Takes e e' (marker_event k)
  close_takes k h s p read written x = stands_as s p e e' read (read ++ marker_event k ∷ []) written written d x sound
      (closes_on s p e.core e'.core (content_over s (held e.shards)) (out e.shards) read written x.refines k on (h (control_of_machine x.refines.machine) x.refines.stands))

  -- a mail is run
  module _ (f : Effects) (h : (m : MachineControl) → StandsFor e.core m → Runs e.core e'.core f m) where
    pub mail_stands : (s : Settings) (p : Program) (read : List Event) (written : List Entry) → Stands s p e read written → Stands s p e' read (written ++ says f.key f.outs)
    mail_stands s p read written x = stands_as s p e e' read read written (written ++ says f.key f.outs) d x sound
        (runs_on s p e.core e'.core (content_over s (held e.shards)) (out e.shards) read written x.refines f on (h (control_of_machine x.refines.machine) x.refines.stands))

    pub mail_writes : (g g' : Option (List ℕ)) → Appends g g' (text_of (says f.key f.outs)) → Writes e e' g g'
    mail_writes g g' grown s p read written x = record { entries = says f.key f.outs; stands = mail_stands s p read written x; grown = grown }

    pub mail_writes_some : (g g' : Option (List ℕ)) → AppendsSome g g' (text_of (says f.key f.outs)) → WritesSome e g g'
    mail_writes_some g g' part s p read written x = record { entries = says f.key f.outs; so_far = so_far_here s p e' read (written ++ says f.key f.outs) (mail_stands s p read written x); part = part }

-- the engine that wrote a marker's text
controls_sent : (q : AnyProgram) (c : MachineControl) → (happens_on q Send None c).controls ≡ c.controls
controls_sent q c = of c.unsent
  where
    of : (cs : List Closed) → (send_first_on cs c).controls ≡ c.controls
    of [] = refl
    of (d ∷ ds) = refl

wm_sent : (q : AnyProgram) (c : MachineControl) → (happens_on q Send None c).wm ≡ c.wm
wm_sent q c = of c.unsent
  where
    of : (cs : List Closed) → (send_first_on cs c).wm ≡ c.wm
    of [] = refl
    of (d ∷ ds) = refl

-- a marker is sent
module _ (e e' : Engine) (d : ShardsStay e e') (sound : IsSound e'.core) (same : SameRules e.core e'.core) (outs : e'.core.outs ≡ e.core.outs) (keys : KeysStay e.core e'.core)
    (k : Marker) (h : (m : MachineControl) → StandsFor e.core m → Sends e.core e'.core k m) where
  module _ (s : Settings) (p : Program) (read : List Event) (written : List Entry) (x : Stands s p e read written) where
    abbrev c : MachineControl
    c = control_of_machine x.refines.machine

    it : Entry
    it = entry.Mark (marker_of s.groups (shown_program p) (closing_of k) x.refines.machine)

    sent : Sends e.core e'.core k c
    sent = h c x.refines.stands

    stands : Stands s p e' read (written ++ it ∷ [])
    unfolding it
    stands = stands_as s p e e' read read written (written ++ it ∷ []) d x sound
        (sends_on s p e.core e'.core (content_over s (held e.shards)) (out e.shards) read written x.refines k (leaves e.core e'.core same outs keys) sent)

    wm_same : e'.core.wm ≡ e.core.wm
    wm_same = sent.made.stands.stands.wm ∙ (wm_sent (shown_program e.core.program) c ∙ sym x.refines.stands.stands.wm)

    times_same : (q : Key) → times_of e'.core.timers q ≡ times_of e.core.timers q
    times_same q = (sent.made.stands.stands.keys q).times ∙ (ap (λ (f : Key → KeyControl). (f q).times) (controls_sent (shown_program e.core.program) c) ∙ sym (x.refines.stands.stands.keys q).times)

    text_is : (kind : Marker) (text : List ℕ) → IsMarkerText e' kind text → text ≡ marker_text (marker_of s.groups (shown_program p) (closing_of kind) x.refines.machine)
    text_is (marker.Mark time) text t = t
    text_is (marker.Barrier id) text t =
        let program : e'.core.program ≡ p = same.program ∙ x.refines.program in
        let settings : e'.settings ≡ s = d.settings ∙ x.settings in
        t.text
        ∙ (ap (λ (u : Settings). block_text u.groups (shown_program e'.core.program).states id e'.core.wm t.parts) settings
        ∙ (ap (λ (u : Program). block_text s.groups (shown_program u).states id e'.core.wm t.parts) program
        ∙ (ap (λ (w : ℤ). block_text s.groups (shown_program p).states id w t.parts) wm_same
        ∙ ap marker_text (sym (block_is s p e.core (content_over s (held e.shards)) (out e.shards) read written x.refines id t.parts (λ q. lines_for t q))))))
      where
        lines_for : IsBlockOf e' id text → (q : Key) → lines_among (shown_program p).states q t.parts
            ≡ part_lines (shown_program p).states (record { key = q; state = record { cells = content_over s (held e.shards) q; times = times_of e.core.timers q } })
        lines_for u q =
            subst (λ (ts : List ℤ). lines_among (shown_program p).states q t.parts ≡ part_lines (shown_program p).states (record { key = q; state = record { cells = content_over s (held e.shards) q; times = ts } })) (times_same q)
            (subst (λ (v : _). lines_among (shown_program p).states q t.parts ≡ part_lines (shown_program p).states (record { key = q; state = record { cells = content_over s (held v) q; times = times_of e'.core.timers q } })) d.shards
            (subst (λ (r : Settings). lines_among (shown_program p).states q t.parts ≡ part_lines (shown_program p).states (record { key = q; state = record { cells = content_over r (held e'.shards) q; times = times_of e'.core.timers q } })) (d.settings ∙ x.settings)
            (subst (λ (r : Program). lines_among (shown_program r).states q t.parts ≡ part_lines (shown_program r).states (record { key = q; state = record { cells = content_over e'.settings (held e'.shards) q; times = times_of e'.core.timers q } })) (same.program ∙ x.refines.program)
            (t.lines q))))

    entry_is : (text : List ℕ) → IsMarkerText e' k text → text ≡ text_of (it ∷ [])
    unfolding it
    entry_is text t = text_is k text t ∙ sym (append-nil (marker_text (marker_of s.groups (shown_program p) (closing_of k) x.refines.machine)))

  pub marker_writes : (g g' : Option (List ℕ)) → WroteMarker e' k g g' → Writes e e' g g'
  marker_writes g g' w s p read written x = record {
    entries = it s p read written x ∷ [];
    stands = stands s p read written x;
    grown = subst (Appends g g') (entry_is s p read written x w.text w.is) w.grown;
  }

  pub marker_moves : (e'' : Engine) → ShardsStay e' e'' → e''.core ≡ e'.core → (g g' : Option (List ℕ)) → WroteMarker e' k g g' → Writes e e'' g g'
  marker_moves e'' d' core g g' w s p read written x = record {
    entries = it s p read written x ∷ [];
    stands = let y : Stands s p e' read (written ++ it s p read written x ∷ []) = stands s p read written x in
        stands_as s p e' e'' read read (written ++ it s p read written x ∷ []) (written ++ it s p read written x ∷ []) d' y (subst IsSound (sym core) y.sound)
        (subst (λ (a : Controller). Refines s p a (content_over s (held e'.shards)) (out e'.shards) read (written ++ it s p read written x ∷ [])) (sym core) y.refines);
    grown = subst (Appends g g') (entry_is s p read written x w.text w.is) w.grown;
  }

  pub marker_writes_some : (g g' : Option (List ℕ)) → WritesPart e' k g g' → WritesSome e g g'
  marker_writes_some g g' w s p read written x = of w
    where
      of : WritesPart e' k g g' → WroteSome s p read written g g'
      of (inl same) = subst (λ (o : Option (List ℕ)). WroteSome s p read written g o) (sym same) (some_none e g s p read written x)
      of (inr v) = record {
        entries = it s p read written x ∷ [];
        so_far = so_far_here s p e' read (written ++ it s p read written x ∷ []) (stands s p read written x);
        part = subst (AppendsSome g g') (entry_is s p read written x v.text v.is) v.part;
      }

-- a watermark that isn't greater is skipped
pub skip_takes : (e : Engine) (time : ℤ) → ((m : MachineControl) → StandsFor e.core m → int_lt m.wm time ≡ false) → Takes e e (event.Mark time)
skip_takes e time h s p read written x = record {
  sound = x.sound;
  refines = skips_on s p e.core (content_over s (held e.shards)) (out e.shards) read written x.refines time
      (ap (λ (w : ℤ). int_lt w time) x.refines.stands.stands.wm ∙ h (control_of_machine x.refines.machine) x.refines.stands);
  settings = x.settings;
  shards = x.shards;
  kinds = x.kinds;
  some = x.some;
  batch = x.batch;
}

-- at rest all was written
pub rest_is_whole : (s : Settings) (p : Program) (e : Engine) (read : List Event) (written : List Entry) → Stands s p e read written → IsQuiet e.core → ((m : MachineControl) → StandsFor e.core m → in_flight_on m ≡ 0)
    → LawfulFor s.groups s.serial (shown_program p) read written
rest_is_whole s p e read written x quiet none =
    let c : MachineControl = control_of_machine x.refines.machine in
    whole s p e.core (content_over s (held e.shards)) (out e.shards) read written x.refines
    (rests s p e.core (content_over s (held e.shards)) (out e.shards) read written x.refines x.some (none (control_of_machine x.refines.machine) x.refines.stands)
    (quiet.fires (control_of_machine x.refines.machine) x.refines.stands) (quiet.sends (control_of_machine x.refines.machine) x.refines.stands))

-- nothing is out of a controller that was just made
none_in : {A : Type 0} (xs : List (List A)) (i : ℕ) → total length xs ≡ 0 → get_or xs i [] ≡ []
none_in [] i h = refl
none_in ([] ∷ xs) zero h = refl
none_in ((x ∷ y) ∷ xs) zero h = absurd (omega (arith, h))
none_in (x ∷ xs) (suc i) h = none_in xs i (omega (arith, h))

pub first_stands : (s : Settings) (p : Program) (e : Engine) → IsSound e.core → StandsFor e.core (at_origin (first (shown_program p))) → e.core.program ≡ p → e.core.settings ≡ s → e.settings ≡ s
    → shard_count e.shards ≡ s.shards → e.shards.kinds ≡ shown_kinds p → ((shard : ℕ) → out e.shards shard ≡ []) → ((shard : ℕ) (k : Key) → held e.shards shard k ≡ untouched (shown_kinds p))
    → 0 < s.in_flight → 0 < e.batch → Stands s p e [] []
first_stands s p e sound stands program settings own shards kinds home blank some batch = record {
  sound = sound;
  refines = refines_first s p e.core program settings (content_over s (held e.shards)) (out e.shards) stands none home (λ k. blank (_) k);
  settings = own;
  shards = shards;
  kinds = kinds;
  some = some;
  batch = batch;
}
  where
    none : (shard : ℕ) → out_of e.core shard ≡ []
    none shard = none_in e.core.outs.items shard (omega (arith, stands.stands.way))

-- the oldest closed epoch isn't finished
pub unsent_moves : (e e' : Engine) → ShardsStay e e' → ((m : MachineControl) → StandsFor e.core m → StaysUnsent e.core e'.core m) → MovesOn e e'
unsent_moves e e' d h s p read written x =
    let same : e'.core ≡ e.core = (h (control_of_machine x.refines.machine) x.refines.stands).same in
    stands_as s p e e' read read written written d x (subst IsSound (sym same) x.sound)
    (subst (λ (a : Controller). Refines s p a (content_over s (held e.shards)) (out e.shards) read written) (sym same) x.refines)

pub unsent_same : (e e' : Engine) → IsReady e → ((m : MachineControl) → StandsFor e.core m → StaysUnsent e.core e'.core m) → e'.core ≡ e.core
unsent_same e e' r h = (h (control_of_machine r.stands.refines.machine) r.stands.refines.stands).same

pub unsent_none : (e e' : Engine) → IsReady e → ((m : MachineControl) → StandsFor e.core m → StaysUnsent e.core e'.core m) → (m : MachineControl) → StandsFor e'.core m → FirstIsFinishedOn m.unsent m → ⊥
unsent_none e e' r h m y = (h m (subst (λ (a : Controller). StandsFor a m) (unsent_same e e' r h) y)).unfinished

-- where it goes on from, it is ready
pub ready_behind : (e e' : Engine) → IsReady e → (h h' : Option (List ℕ)) → Writes e e' h h' → IsReady e'
ready_behind e e' r h h' w =
    let y : Wrote r.settings r.program e' r.read r.written h h' = w r.settings r.program r.read r.written r.stands in
    record { settings = r.settings; program = r.program; read = r.read; written = r.written ++ y.entries; stands = y.stands }

-- the engine behind a marker that was taken and isn't written
pub ready_sent : (e e' : Engine) → ShardsStay e e' → IsSound e'.core → SameRules e.core e'.core → e'.core.outs ≡ e.core.outs → KeysStay e.core e'.core
    → (k : Marker) → ((m : MachineControl) → StandsFor e.core m → Sends e.core e'.core k m) → IsReady e → IsReady e'
ready_sent e e' d sound same outs keys k h r = record {
  settings = r.settings;
  program = r.program;
  read = r.read;
  written = r.written ++ it e e' d sound same outs keys k h r.settings r.program r.read r.written r.stands ∷ [];
  stands = stands e e' d sound same outs keys k h r.settings r.program r.read r.written r.stands;
}

-- nothing is left to do between events
pub quiet : (a b : Controller) → b ≡ a → ((m : MachineControl) → StandsFor a m → MayFireOn a m → ⊥) → ((m : MachineControl) → StandsFor b m → FirstIsFinishedOn m.unsent m → ⊥) → IsQuiet b
quiet a b same fires sends = record { fires = subst (λ (d : Controller). (m : MachineControl) → StandsFor d m → MayFireOn d m → ⊥) (sym same) fires; sends = sends }

-- an epoch is closed, if memory is there
pub close_ok : {E : Type 0} (e e' : Engine) → ShardsStay e e' → (k : Marker) → (r : Result (Unit {0}) E) → OnOk r (IsSound e'.core) → OnOk r (SameRules e.core e'.core) → OnOk r (e'.core.outs ≡ e.core.outs) → OnOk r (KeysStay e.core e'.core)
    → OnOk r ((m : MachineControl) → StandsFor e.core m → Makes e.core e'.core (Close (closing_of k)) m) → OnOk r (Takes e e' (marker_event k))
close_ok e e' d k (Ok x) sound same outs keys event = close_takes e e' d sound same outs keys k event
close_ok e e' d k (Err x) sound same outs keys event = tt

pub true_false : true ≡ false → ⊥
true_false e = cc e

-- the same, where a marker was looked for
pub quiet_if : {E : Type 0} (a b : Controller) (r : Result Bool E) → IfOk r (λ sent. sent ≡ false → (m : MachineControl) → StandsFor b m → FirstIsFinishedOn m.unsent m → ⊥) → IfOk r (λ sent. sent ≡ false → b ≡ a)
    → ((m : MachineControl) → StandsFor a m → MayFireOn a m → ⊥) → IfOk r (λ sent. sent ≡ false → IsQuiet b)
quiet_if a b (Ok x) none same fires = λ e. quiet a b (same e) fires (none e)
quiet_if a b (Err e) none same fires = tt
