-- A task goes on step by step, and ends.
use Rattle.std.proofs.Common.{◌≡◌, ℕ, ℤ, List, [], ◌∷◌, ◌++◌, inl, inr, false, Option, Some, None, Err, refl, sym, ap, ◌∙◌, subst}
use Rattle.std.proofs.lemmas.List.{append-nil}
use Rattle.ax_base.specs.Outside.{Counts, Told, OwnCounts}
use Rattle.ax_base.specs.Reader.{Reader}
use Rattle.ax_base.specs.declared.outside.SinkFault.{SinkFault}
use Rattle.ax_base.specs.declared.outside.SinkFault.TheVariants as sink
use Rattle.ax_base.proofs.OutsideLemmas.{Appends-none, Appends-more, Told-map}
use Rattle.ax_machine.specs.Entries.{text_of}
use Rattle.ax_machine.specs.Events.{Event}
use Rattle.ax_machine.proofs.StepLemmas.{lawful_for_more, text_of-append}
use Rattle.ax_input.specs.Shown.{shown_event}
use Rattle.ax_input.specs.declared.event.Event.{Event as CodeEvent}
use Rattle.ax_lang.specs.declared.program.Program.{Program}
use Rattle.ax_lang.specs.Shown.{shown_program}
use Rattle.ax_core.specs.declared.settings.Settings.{Settings}
use Rattle.ax_execution.specs.MachineControls.{MachineControl, in_flight_on}
use Rattle.ax_core.specs.Sound.{StandsFor}
use Rattle.ax_task.specs.Clause.{WritesLawful, WritesPart, StreamEnds, EndCounts, MayRise}
use Rattle.ax_task.specs.Parse.{Stream}
use Rattle.ax_task.specs.Reads.{sink_end}
use Rattle.ax_task.specs.Passes.{events_at, Taken, Took}
use Rattle.ax_task.specs.Passes as passes
use Rattle.ax_task.specs.Known.{Knows, IsInputEnd}
use Rattle.ax_task.specs.Engines.{Stands, MovesOn, Takes, Wrote, Writes, WroteSome, WritesSome, IsQuiet}
use Rattle.ax_task.specs.Tasks.{held_events, Outer, From, FoundCounts, IsFound, MayRead, ReadsOn, ReadsShort, IsUnderway, HasEnded}
use Rattle.ax_task.specs.declared.end.End.{End}
use Rattle.ax_task.specs.declared.end.End.TheVariants as end
use Rattle.ax_task.specs.declared.engine.Engine.{Engine}
use Rattle.ax_task.specs.declared.reading.Reading.{Reading}
use Rattle.ax_task.proofs.Written.{AppendsSome-behind}
use Rattle.ax_task.proofs.EngineLemmas.{some_none, rest_is_whole}
use Rattle.ax_task.proofs.Knowing.{known_first, known_taken, ends_found, stops_found}

-- how often reading failed, where memory is short or writing failed
may_rise : (before now : ℕ) (found : Option End) → FoundCounts before now found → MayRise before now
may_rise before now None c = inl c
may_rise before now (Some end.Ok) c = inl c
may_rise before now (Some (end.Input line kind)) c = inl c
may_rise before now (Some (end.Program line kind)) c = inl c
may_rise before now (Some end.Read) c = inr c
may_rise before now (Some end.Write) c = inl c
may_rise before now (Some end.NoMemory) c = inl c

cut_counts : (T : Type 0) (r r' : ℕ) (w w' : Counts) (f : SinkFault) → MayRise r r' → OwnCounts {T = T} w w' (Err f) → EndCounts (record { reads = r; writes = w }) (record { reads = r'; writes = w' }) (sink_end f)
cut_counts T r r' w w' sink.Failed m c = (m, c.0, c.1)
cut_counts T r r' w w' sink.NoMemory m c = (m, c.0, c.1)

found_counts : (r r' : ℕ) (w w' : Counts) (e : End) → IsInputEnd e → FoundCounts r r' (Some e) → w' ≡ w → EndCounts (record { reads = r; writes = w }) (record { reads = r'; writes = w' }) e
found_counts r r' w w' end.Ok i c same = (c, same)
found_counts r r' w w' (end.Input line kind) i c same = (c, same)
found_counts r r' w w' (end.Program line kind) i c same = absurd i
found_counts r r' w w' end.Read i c same = (c, same)
found_counts r r' w w' end.Write i c same = absurd i
found_counts r r' w w' end.NoMemory i c same = absurd i

module _ (s : Settings) (p : Program) (from : From) (e : Engine) (r : Reading) (lines : Reader) (now : Outer) (x : IsUnderway s p from e r lines now) where
  -- lines were written
  pub went_on : (e' : Engine) (h' : Option (List ℕ)) (w' : Counts) → Writes e e' now.holds h' → w' ≡ now.writes
      → IsUnderway s p from e' r lines (record { left = now.left; reads = now.reads; holds = h'; writes = w' })
  went_on e' h' w' w same =
      let y : Wrote s p e' x.read x.written now.holds h' = w s p x.read x.written x.stands in
      record {
        read = x.read;
        written = x.written ++ y.entries;
        stands = y.stands;
        grown = Appends-more from.outer.holds now.holds h' (text_of x.written) (text_of y.entries) (text_of (x.written ++ y.entries)) x.grown y.grown (sym (text_of-append x.written y.entries));
        has_read = x.has_read;
        writes = same ∙ x.writes;
      }

  pub moved_on : (e' : Engine) → MovesOn e e' → IsUnderway s p from e' r lines now
  moved_on e' m = record { read = x.read; written = x.written; stands = m s p x.read x.written x.stands; grown = x.grown; has_read = x.has_read; writes = x.writes }

  -- the next event was looked for
  pub looked_on : (r' : Reading) (lines' : Reader) (l' : Option (List ℕ)) (f' : ℕ) → ReadsOn r r' lines lines' now.left l' now.reads f'
      → IsUnderway s p from e r' lines' (record { left = l'; reads = f'; holds = now.holds; writes = now.writes })
  looked_on r' lines' l' f' o = record { read = x.read; written = x.written; stands = x.stands; grown = x.grown; has_read = o from x.read x.has_read; writes = x.writes }

  -- the event that was held was taken
  pub took_on : (e' : Engine) (r' : Reading) (event : CodeEvent) → r.next ≡ Some event → r'.next ≡ None → r'.events ≡ r.events → r'.found ≡ r.found → Takes e e' (shown_event event) → IsUnderway s p from e' r' lines now
  took_on e' r' event was none events found t = record {
    read = x.read ++ shown_event event ∷ [];
    written = x.written;
    stands = t s p x.read x.written x.stands;
    grown = x.grown;
    has_read = record {
      knows = subst (λ (o : Option End). Told from.outer.left now.left (λ a b. Knows from.means (events_at r'.events.fields r'.events.last lines) ((x.read ++ shown_event event ∷ []) ++ held_events r'.next) (record { held = from.held; left = a }) (record { held = lines.held; left = b }) o)) (sym found)
          (subst (λ (o : Option CodeEvent). Told from.outer.left now.left (λ a b. Knows from.means (events_at r'.events.fields r'.events.last lines) ((x.read ++ shown_event event ∷ []) ++ held_events o) (record { held = from.held; left = a }) (record { held = lines.held; left = b }) r.found)) (sym none)
          (subst (λ (es : List Event). Told from.outer.left now.left (λ a b. Knows from.means (events_at r'.events.fields r'.events.last lines) es (record { held = from.held; left = a }) (record { held = lines.held; left = b }) r.found)) (sym (append-nil (x.read ++ shown_event event ∷ [])))
          (subst (λ (v : _). Told from.outer.left now.left (λ a b. Knows from.means (events_at v.fields v.last lines) (x.read ++ shown_event event ∷ []) (record { held = from.held; left = a }) (record { held = lines.held; left = b }) r.found)) (sym events)
          (subst (λ (o : Option CodeEvent). Told from.outer.left now.left (λ a b. Knows from.means (events_at r.events.fields r.events.last lines) (x.read ++ held_events o) (record { held = from.held; left = a }) (record { held = lines.held; left = b }) r.found)) was x.has_read.knows))));
      found = subst IsFound (sym found) x.has_read.found;
      counts = subst (FoundCounts from.outer.reads now.reads) (sym found) x.has_read.counts;
      may = subst (λ (o : Option End). MayRead lines o) (sym found) x.has_read.may;
    };
    writes = x.writes;
  }

  -- the events that were read
  abbrev seen : List Event
  seen = x.read ++ held_events r.next

  -- the run is cut off: the sink has some of what may be written for the events that were read
  ends_cut : (T : Type 0) (f : SinkFault) (l' : Option (List ℕ)) (reads' : ℕ) (h' : Option (List ℕ)) (w' : Counts) → Told from.outer.left l' (λ a b. Taken seen from.means (record { held = from.held; left = a }) b)
      → MayRise from.outer.reads reads' → WritesSome e now.holds h' → OwnCounts {T = T} now.writes w' (Err f)
      → HasEnded s p from (record { left = l'; reads = reads'; holds = h'; writes = w' }) (sink_end f)
  ends_cut T f l' reads' h' w' taken rise some counts = record {
    told = told_cut f l' taken;
    stopped = (seen, took f l' taken, wrote f);
    counts = cut_counts T from.outer.reads reads' from.outer.writes w' f rise (subst (λ (w : Counts). OwnCounts {T = T} w w' (Err f)) x.writes counts);
  }
    where
      y : WroteSome s p x.read x.written now.holds h'
      y = some s p x.read x.written x.stands

      part : WritesPart s.groups s.serial (shown_program p) seen (record { old = from.outer.holds; new = h' })
      part = (
        x.written ++ y.entries,
        lawful_for_more s.groups s.serial (shown_program p) x.read (held_events r.next) (x.written ++ y.entries) y.so_far,
        AppendsSome-behind from.outer.holds now.holds h' (text_of x.written) (text_of y.entries) [] (text_of (x.written ++ y.entries)) x.grown y.part
            (ap (λ (t : List ℕ). text_of x.written ++ t) (append-nil (text_of y.entries)) ∙ sym (text_of-append x.written y.entries)),
      )

      wrote : (f : SinkFault) → passes.Wrote s.groups s.serial (shown_program p) seen (record { old = from.outer.holds; new = h' }) (sink_end f)
      wrote sink.Failed = part
      wrote sink.NoMemory = part

      took : (f : SinkFault) (l' : Option (List ℕ)) → Told from.outer.left l' (λ a b. Taken seen from.means (record { held = from.held; left = a }) b)
          → Told from.outer.left l' (λ a b. Took seen from.means (record { held = from.held; left = a }) b (sink_end f))
      took sink.Failed l' t = t
      took sink.NoMemory l' t = t

      told_cut : (f : SinkFault) (l' : Option (List ℕ)) → Told from.outer.left l' (λ a b. Taken seen from.means (record { held = from.held; left = a }) b)
          → Told from.outer.left l' (λ a b. StreamEnds (λ events. WritesLawful s.groups s.serial (shown_program p) events (record { old = from.outer.holds; new = h' })) (from.means (from.held ++ a)) b (sink_end f))
      told_cut sink.Failed l' t = Told-map from.outer.left l' t (λ a b z. tt)
      told_cut sink.NoMemory l' t = Told-map from.outer.left l' t (λ a b z. tt)

  taken_here : Told from.outer.left now.left (λ a b. Taken seen from.means (record { held = from.held; left = a }) b)
  taken_here = known_taken from.means (events_at r.events.fields r.events.last lines) from.held lines.held from.outer.left now.left seen r.found x.has_read.knows

  -- a line could not be written, or memory was short for it
  pub broke_off : (T : Type 0) (f : SinkFault) (h' : Option (List ℕ)) (w' : Counts) → WritesSome e now.holds h' → OwnCounts {T = T} now.writes w' (Err f)
      → HasEnded s p from (record { left = now.left; reads = now.reads; holds = h'; writes = w' }) (sink_end f)
  broke_off T f h' w' some counts = ends_cut T f now.left now.reads h' w' taken_here (may_rise from.outer.reads now.reads r.found x.has_read.counts) some counts

  -- memory was short elsewhere
  pub short_here : HasEnded s p from now end.NoMemory
  short_here = broke_off (Unit {0}) sink.NoMemory now.holds now.writes (some_none e now.holds) (refl, inl refl)

  -- memory was short as the next event was read
  pub short_read : (l' : Option (List ℕ)) → ReadsShort r lines now.left l' now.reads → HasEnded s p from (record { left = l'; reads = now.reads; holds = now.holds; writes = now.writes }) end.NoMemory
  short_read l' o = ends_cut (Unit {0}) sink.NoMemory l' now.reads now.holds now.writes (o from x.read x.has_read) (may_rise from.outer.reads now.reads r.found x.has_read.counts) (some_none e now.holds) (refl, inl refl)

  -- nothing is left to do
  pub ended_well : (end : End) → r.found ≡ Some end → r.next ≡ None → IsQuiet e.core → ((m : MachineControl) → StandsFor e.core m → in_flight_on m ≡ 0) → HasEnded s p from now end
  ended_well end found none quiet done = record {
    told = ends_found from.means (events_at r.events.fields r.events.last lines) from.held lines.held from.outer.left now.left seen s.groups s.serial (shown_program p) from.outer.holds now.holds end known all;
    stopped = stops_found from.means (events_at r.events.fields r.events.last lines) from.held lines.held from.outer.left now.left seen s.groups s.serial (shown_program p) from.outer.holds now.holds end is known all;
    counts = found_counts from.outer.reads now.reads from.outer.writes now.writes end is (subst (FoundCounts from.outer.reads now.reads) found x.has_read.counts) x.writes;
  }
    where
      is : IsInputEnd end
      is = subst IsFound found x.has_read.found

      known : Told from.outer.left now.left (λ a b. Knows from.means (events_at r.events.fields r.events.last lines) seen (record { held = from.held; left = a }) (record { held = lines.held; left = b }) (Some end))
      known = subst (λ (o : Option End). Told from.outer.left now.left (λ a b. Knows from.means (events_at r.events.fields r.events.last lines) seen (record { held = from.held; left = a }) (record { held = lines.held; left = b }) o)) found x.has_read.knows

      seen_is : x.read ≡ seen
      seen_is = sym (ap (λ (o : Option CodeEvent). x.read ++ held_events o) none ∙ append-nil x.read)

      all : WritesLawful s.groups s.serial (shown_program p) seen (record { old = from.outer.holds; new = now.holds })
      all = subst (λ (es : List Event). WritesLawful s.groups s.serial (shown_program p) es (record { old = from.outer.holds; new = now.holds })) seen_is
          (x.written, rest_is_whole s p e x.read x.written x.stands quiet done, x.grown)

-- nothing has changed
pub same_underway : (s : Settings) (p : Program) (from : From) (e e' : Engine) (r r' : Reading) (lines : Reader) (now : Outer) → (e' ≡ e) × (r' ≡ r) → IsUnderway s p from e r lines now → IsUnderway s p from e' r' lines now
same_underway s p from e e' r r' lines now h x = subst (λ (d : Engine). IsUnderway s p from d r' lines now) (sym h.0) (subst (λ (q : Reading). IsUnderway s p from e q lines now) (sym h.1) x)

-- before the first step
pub starts : (s : Settings) (p : Program) (first : ℤ) (e : Engine) (r : Reading) (lines : Reader) (now : Outer) → Stands s p e [] [] → r.events.fields ≡ (shown_program p).fields → r.events.last ≡ first → r.next ≡ None → r.found ≡ None → lines.failed ≡ false
    → IsUnderway s p (record { means = events_at (shown_program p).fields first lines; held = lines.held; outer = now }) e r lines now
starts s p first e r lines now x fields last next found may = record {
  read = [];
  written = [];
  stands = x;
  grown = Appends-none now.holds;
  has_read = record {
    knows =
        subst (λ (o : Option End). Told now.left now.left (λ a b. Knows F (events_at r.events.fields r.events.last lines) ([] ++ held_events r.next) (record { held = lines.held; left = a }) (record { held = lines.held; left = b }) o)) (sym found)
        (subst (λ (o : Option CodeEvent). Told now.left now.left (λ a b. Knows F (events_at r.events.fields r.events.last lines) ([] ++ held_events o) (record { held = lines.held; left = a }) (record { held = lines.held; left = b }) None)) (sym next)
        (subst (λ (n : ℤ). Told now.left now.left (λ a b. Knows F (events_at r.events.fields n lines) [] (record { held = lines.held; left = a }) (record { held = lines.held; left = b }) None)) (sym last)
        (subst (λ (n : ℕ). Told now.left now.left (λ a b. Knows F (events_at n first lines) [] (record { held = lines.held; left = a }) (record { held = lines.held; left = b }) None)) (sym fields)
        (known_first F lines.held now.left))));
    found = subst IsFound (sym found) tt;
    counts = subst (FoundCounts now.reads now.reads) (sym found) refl;
    may = subst (λ (o : Option End). MayRead lines o) (sym found) may;
  };
  writes = refl;
}
  where
    F : List ℕ → Stream
    F = events_at (shown_program p).fields first lines
