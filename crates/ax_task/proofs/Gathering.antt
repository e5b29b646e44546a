-- A run whose sink gathers: what the sink inside it took.
use Rattle.std.proofs.Common.{◌≡◌, ℕ, ◌≤◌, ◌<◌, ◌⊎◌, inl, inr, List, [], ◌++◌, take, Bool, true, false, Option, Some, None, Result, Ok, Err, OnErr, refl, sym, ap, ◌∙◌, subst, arith}
use Rattle.std.proofs.lemmas.Bool.{false≢true, cases_lt}
use Rattle.std.proofs.lemmas.List.{append-nil, take-take, take_all, length-take}
use Rattle.std.specs.Io.KnownBytes.{Appends, Keeps, append_known}
use Rattle.ax_base.specs.Outside.{RoseByOne, Counts, WriteCounts, Told, AppendsSome}
use Rattle.ax_base.specs.declared.outside.SinkFault.{SinkFault}
use Rattle.ax_base.specs.declared.outside.SinkFault.TheVariants as sink
use Rattle.ax_base.specs.Gathered.{Begins}
use Rattle.ax_base.proofs.GatherLemmas.{Appends-begun}
use Rattle.ax_base.proofs.OutsideLemmas.{Appends-kept, Told-map}
use Rattle.ax_text.specs.Programs.{Program}
use Rattle.ax_machine.specs.Entries.{text_of}
use Rattle.ax_machine.specs.Events.{Event}
use Rattle.ax_task.specs.Parse.{Stream}
use Rattle.ax_task.specs.Clause.{WritesLawful, WritesPart, StreamEnds, RunCounts, EndCounts}
use Rattle.ax_task.specs.Reads.{sink_end, is_stopped}
use Rattle.ax_task.specs.Passes.{Feed, Taken, Took, Wrote}
use Rattle.ax_task.proofs.Written.{AppendsSome-all}
use Rattle.ax_task.proofs.Progress.{holds, wrote_some}
use Rattle.ax_task.specs.declared.end.End.{End}
use Rattle.ax_task.specs.declared.end.End.TheVariants as end

take_some : (k n : ℕ) (text : List ℕ) → (j : ℕ) × (take k (take n text) ≡ take j text)
take_some k n text = by_order (cases_lt k n) where
  by_order : (k < n) ⊎ (n ≤ k) → (j : ℕ) × (take k (take n text) ≡ take j text)
  by_order (inl h) = (k, take-take k n text (omega (arith, h)))
  by_order (inr h) = (n, take_all k (take n text) (omega (arith, length-take n text, h)))

-- the sink inside took a prefix of some bytes, where it took one together with what is gathered
pub inner_some : (h0 inner : Option (List ℕ)) (pending text : List ℕ) → Begins h0 inner → AppendsSome h0 (append_known inner pending) text → AppendsSome h0 inner text
inner_some h0 inner pending text b s =
    let own : AppendsSome h0 inner (take s.0 text) = Appends-begun h0 inner pending (take s.0 text) b s.1 in
    let cut = take_some own.0 s.0 text in
    (cut.0, subst (Appends h0 inner) cut.1 own.1)

module _ (m : ℕ) (serial : Bool) (p : Program) (h0 h1 h2 : Option (List ℕ)) where
  -- all was written
  lawful_kept : Keeps h1 h2 → (events : List Event) → WritesLawful m serial p events (holds h0 h1) → WritesLawful m serial p events (holds h0 h2)
  lawful_kept k events w = (w.0, w.1, Appends-kept h0 h1 h2 (text_of w.0) w.2 k)

  pub stream_kept : Keeps h1 h2 → (s : Stream) (left : List ℕ) (e : End) → StreamEnds (λ es. WritesLawful m serial p es (holds h0 h1)) s left e → StreamEnds (λ es. WritesLawful m serial p es (holds h0 h2)) s left e
  stream_kept k s left end.Ok x = (x.0, x.1, lawful_kept k s.events x.2)
  stream_kept k s left (end.Input line kind) x = (x.0, lawful_kept k s.events x.1)
  stream_kept k s left (end.Program line kind) x = absurd x
  stream_kept k s left end.Read x = tt
  stream_kept k s left end.Write x = tt
  stream_kept k s left end.NoMemory x = tt

  pub wrote_kept : Keeps h1 h2 → (done : List Event) (e : End) → is_stopped e ≡ false → Wrote m serial p done (holds h0 h1) e → Wrote m serial p done (holds h0 h2) e
  wrote_kept k done end.Ok s w = lawful_kept k done w
  wrote_kept k done (end.Input line kind) s w = lawful_kept k done w
  wrote_kept k done end.Read s w = lawful_kept k done w
  wrote_kept k done (end.Program line kind) s w = absurd w
  wrote_kept k done end.Write s w = absurd (false≢true (sym s))
  wrote_kept k done end.NoMemory s w = absurd (false≢true (sym s))

  module _ (part : (text : List ℕ) → AppendsSome h0 h1 text → AppendsSome h0 h2 text) (done : List Event) where
    -- a part of a part was written
    some_of_part : WritesPart m serial p done (holds h0 h1) → WritesPart m serial p done (holds h0 h2)
    some_of_part w = (w.0, w.1, part (text_of w.0) w.2)

    some_of_all : WritesLawful m serial p done (holds h0 h1) → WritesPart m serial p done (holds h0 h2)
    some_of_all w = wrote_some m serial p done h0 h1 h2 (λ text grown. part text (AppendsSome-all h0 h1 text grown)) w

    any_part : (e : End) → Wrote m serial p done (holds h0 h1) e → WritesPart m serial p done (holds h0 h2)
    any_part end.Ok w = some_of_all w
    any_part (end.Input line kind) w = some_of_all w
    any_part end.Read w = some_of_all w
    any_part (end.Program line kind) w = absurd w
    any_part end.Write w = some_of_part w
    any_part end.NoMemory w = some_of_part w

    pub wrote_cut : (e : End) (f : SinkFault) → Wrote m serial p done (holds h0 h1) e → Wrote m serial p done (holds h0 h2) (sink_end f)
    wrote_cut e sink.Failed w = any_part e w
    wrote_cut e sink.NoMemory w = any_part e w

    pub wrote_stopped : (e : End) → is_stopped e ≡ true → Wrote m serial p done (holds h0 h1) e → Wrote m serial p done (holds h0 h2) e
    wrote_stopped end.Write s w = some_of_part w
    wrote_stopped end.NoMemory s w = some_of_part w
    wrote_stopped end.Ok s w = absurd (false≢true s)
    wrote_stopped (end.Input line kind) s w = absurd (false≢true s)
    wrote_stopped end.Read s w = absurd (false≢true s)
    wrote_stopped (end.Program line kind) s w = absurd (false≢true s)

-- the events that were taken, whatever stopped the run behind them
taken_of : (done : List Event) (F : List ℕ → Stream) (old : Feed) (left : List ℕ) (e : End) → Took done F old left e → Taken done F old left
taken_of done F old left end.Read t = t.0
taken_of done F old left end.Ok t = t
taken_of done F old left end.Write t = t
taken_of done F old left end.NoMemory t = t
taken_of done F old left (end.Input line kind) t = t
taken_of done F old left (end.Program line kind) t = t

pub took_cut : (done : List Event) (F : List ℕ → Stream) (old : Feed) (left : List ℕ) (e : End) (f : SinkFault) → Took done F old left e → Took done F old left (sink_end f)
took_cut done F old left e sink.Failed t = taken_of done F old left e t
took_cut done F old left e sink.NoMemory t = taken_of done F old left e t

pub ends_cut : (Writes : List Event → Type 0) (s : Stream) (left : List ℕ) (f : SinkFault) → StreamEnds Writes s left (sink_end f)
ends_cut Writes s left sink.Failed = tt
ends_cut Writes s left sink.NoMemory = tt

-- the ends where nothing is written any more leave open what was written
pub ends_stopped : (Writes Others : List Event → Type 0) (s : Stream) (left : List ℕ) (e : End) → is_stopped e ≡ true → StreamEnds Writes s left e → StreamEnds Others s left e
ends_stopped Writes Others s left end.Write st x = tt
ends_stopped Writes Others s left end.NoMemory st x = tt
ends_stopped Writes Others s left end.Ok st x = absurd (false≢true st)
ends_stopped Writes Others s left (end.Input line kind) st x = absurd (false≢true st)
ends_stopped Writes Others s left end.Read st x = tt
ends_stopped Writes Others s left (end.Program line kind) st x = absurd x

-- the counts, where a last write fails behind an end
flush_counts : (old mid : RunCounts) (writes : Counts) (f : SinkFault) → (mid.reads ≡ old.reads) ⊎ RoseByOne old.reads mid.reads → mid.writes ≡ old.writes
    → WriteCounts {T = Unit {0}} mid.writes writes (Err f) → EndCounts old (record { reads = mid.reads; writes = writes }) (sink_end f)
flush_counts old mid writes sink.Failed reads same c =
    let P : Counts → Type 0 = λ w. RoseByOne w.faults writes.faults × (writes.short ≡ w.short) in
    let d = subst P same c in (reads, d.0, d.1)
flush_counts old mid writes sink.NoMemory reads same c =
    let P : Counts → Type 0 = λ w. (writes.faults ≡ w.faults) × RoseByOne w.short writes.short in
    let d = subst P same c in (reads, d.0, inr d.1)

pub counts_cut : (old mid : RunCounts) (writes : Counts) (e : End) (f : SinkFault) → is_stopped e ≡ false → EndCounts old mid e → WriteCounts {T = Unit {0}} mid.writes writes (Err f)
    → EndCounts old (record { reads = mid.reads; writes = writes }) (sink_end f)
counts_cut old mid writes end.Ok f s c w = flush_counts old mid writes f (inl c.0) c.1 w
counts_cut old mid writes (end.Input line kind) f s c w = flush_counts old mid writes f (inl c.0) c.1 w
counts_cut old mid writes (end.Program line kind) f s c w = flush_counts old mid writes f (inl c.0) c.1 w
counts_cut old mid writes end.Read f s c w = flush_counts old mid writes f (inr c.0) c.1 w
counts_cut old mid writes end.Write f s c w = absurd (false≢true (sym s))
counts_cut old mid writes end.NoMemory f s c w = absurd (false≢true (sym s))

-- what a sink holds with nothing gathered for it
pub known_nil : (a : Option (List ℕ)) (room : List ℕ) → room ≡ [] → append_known a room ≡ a
known_nil None room e = refl
known_nil (Some xs) room e = ap (λ r. Some (xs ++ r)) e ∙ ap Some (append-nil xs)

pub keeps_nil : (a b : Option (List ℕ)) (room : List ℕ) → room ≡ [] → Keeps a (append_known b room) → Keeps a b
keeps_nil None b room e k = tt
keeps_nil (Some xs) None room e k = absurd k
keeps_nil (Some xs) (Some ys) room e k = sym (append-nil ys) ∙ ap (λ r. ys ++ r) (sym e) ∙ k

pub keeps_refl : (a : Option (List ℕ)) → Keeps a a
keeps_refl None = tt
keeps_refl (Some xs) = refl

-- of what was taken the sink inside took a prefix, also where some was handed on since
pub part_kept : (h0 h1 inner : Option (List ℕ)) (room : List ℕ) → Keeps h1 (append_known inner room) → Begins h0 inner → (text : List ℕ) → AppendsSome h0 h1 text → AppendsSome h0 inner text
part_kept h0 h1 inner room k b text s = inner_some h0 inner room text b (s.0, Appends-kept h0 h1 (append_known inner room) (take s.0 text) s.1 k)

pub part_same : (h0 inner : Option (List ℕ)) (room : List ℕ) → Begins h0 inner → (text : List ℕ) → AppendsSome h0 (append_known inner room) text → AppendsSome h0 inner text
part_same h0 inner room b text s = inner_some h0 inner room text b s

-- a run of events, whose sink held `h` with what was gathered for it before, and `h1` behind
module _ (m : ℕ) (serial : Bool) (p : Program) (h h0 h1 h2 : Option (List ℕ)) (same : h ≡ h0) (l0 l1 : Option (List ℕ)) where
  abbrev pub Ends : Option (List ℕ) → Option (List ℕ) → (List ℕ → Stream) → End → Type 0
  Ends old new S e = Told l0 l1 (λ a b. StreamEnds (λ es. WritesLawful m serial p es (holds old new)) (S a) b e)

  abbrev pub Stop : Option (List ℕ) → Option (List ℕ) → (List ℕ → Stream) → List ℕ → End → Type 0
  Stop old new F held e = (done : List Event) × Told l0 l1 (λ a b. Took done F (record { held = held; left = a }) b e) × Wrote m serial p done (holds old new) e

  pub told_stopped : (S : List ℕ → Stream) (e : End) → is_stopped e ≡ true → Ends h h1 S e → Ends h0 h2 S e
  told_stopped S e st x = Told-map l0 l1 x (λ a b y. ends_stopped (λ es. WritesLawful m serial p es (holds h h1)) (λ es. WritesLawful m serial p es (holds h0 h2)) (S a) b e st y)

  pub told_kept : (S : List ℕ → Stream) (e : End) → Keeps h1 h2 → Ends h h1 S e → Ends h0 h2 S e
  told_kept S e k x =
      let P : Option (List ℕ) → Type 0 = λ o. Ends o h1 S e in
      Told-map l0 l1 (subst P same x) (λ a b y. stream_kept m serial p h0 h1 h2 k (S a) b e y)

  pub told_cut : (S : List ℕ → Stream) (e r : End) (f : SinkFault) → r ≡ sink_end f → Ends h h1 S e → Ends h0 h2 S r
  told_cut S e r f is x =
      let P : End → Type 0 = λ t. Ends h0 h2 S t in
      subst P (sym is) (Told-map l0 l1 x (λ a b y. ends_cut (λ es. WritesLawful m serial p es (holds h0 h2)) (S a) b f))

  module _ (F : List ℕ → Stream) (held : List ℕ) (e : End) where
    pub stop_stopped : ((text : List ℕ) → AppendsSome h0 h1 text → AppendsSome h0 h2 text) → is_stopped e ≡ true → Stop h h1 F held e → Stop h0 h2 F held e
    stop_stopped part st x =
        let P : Option (List ℕ) → Type 0 = λ o. Wrote m serial p x.0 (holds o h1) e in
        (x.0, x.1, wrote_stopped m serial p h0 h1 h2 part x.0 e st (subst P same x.2))

    pub stop_kept : Keeps h1 h2 → is_stopped e ≡ false → Stop h h1 F held e → Stop h0 h2 F held e
    stop_kept k st x =
        let P : Option (List ℕ) → Type 0 = λ o. Wrote m serial p x.0 (holds o h1) e in
        (x.0, x.1, wrote_kept m serial p h0 h1 h2 k x.0 e st (subst P same x.2))

    pub stop_cut : (r : End) (f : SinkFault) → r ≡ sink_end f → ((text : List ℕ) → AppendsSome h0 h1 text → AppendsSome h0 h2 text) → Stop h h1 F held e → Stop h0 h2 F held r
    stop_cut r f is part x =
        let P : Option (List ℕ) → Type 0 = λ o. Wrote m serial p x.0 (holds o h1) e in
        let Q : End → Type 0 = λ t. Stop h0 h2 F held t in
        subst Q (sym is)
        (x.0, Told-map l0 l1 x.1 (λ a b t. took_cut x.0 F (record { held = held; left = a }) b e f t), wrote_cut m serial p h0 h1 h2 part x.0 e f (subst P same x.2))

-- what was taken whole was taken, also where handing it on failed
pub kept_some : (r : Result (Unit {0}) SinkFault) (a b c : Option (List ℕ)) (text : List ℕ) → Appends a b text → Keeps b c → OnErr r (AppendsSome a c text)
kept_some (Ok u) a b c text p k = tt
kept_some (Err f) a b c text p k = AppendsSome-all a c text (Appends-kept a b c text p k)
