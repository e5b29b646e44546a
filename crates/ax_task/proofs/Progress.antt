-- How far a run has come.
use Rattle.std.proofs.Common.{◌≡◌, ℕ, List, [], ◌∷◌, ◌++◌, Bool, Option, Some, None, Err, refl, sym, ap, ◌∙◌, append_assoc, subst}
use Rattle.std.specs.Io.KnownBytes.{Appends}
use Rattle.std.proofs.lemmas.List.{append-nil}
use Rattle.ax_base.specs.Outside.{Told, AppendsSome}
use Rattle.ax_base.specs.declared.outside.SinkFault.{SinkFault}
use Rattle.ax_base.specs.declared.outside.SinkFault.TheVariants as sink
use Rattle.ax_base.proofs.OutsideLemmas.{Appends-none, Appends-more, Told-trans}
use Rattle.ax_task.proofs.Written.{AppendsSome-none, AppendsSome-all, AppendsSome-behind}
use Rattle.ax_text.specs.Programs.{Program}
use Rattle.ax_machine.specs.Entries.{Entry, text_of}
use Rattle.ax_machine.specs.Events.{Event}
use Rattle.ax_machine.specs.Sync.{Plain, plain_step, plain_start, sync, silent, behind}
use Rattle.ax_machine.specs.Lawful.{LawfulSoFar, LawfulSoFarFor}
use Rattle.ax_machine.proofs.LawfulLemmas.{lawful_itself}
use Rattle.ax_machine.proofs.FrontLemmas.{lawful_so_far_front, whole_so_far}
use Rattle.ax_machine.proofs.StepLemmas.{step_behind, steps_append, text_of-append}
use Rattle.ax_task.specs.Parse.{Stream, Ending, Clean, Fault, with_event, ends}
use Rattle.ax_task.specs.Clause.{Holds, WritesLawful, WritesPart, StreamEnds}
use Rattle.ax_task.specs.Reads.{NextOf, sink_end, end_in_stream}
use Rattle.ax_task.specs.Passes.{in_front, SomePassed, NextPasses, Taken, Took, Wrote}
use Rattle.ax_task.proofs.Feeds.{feed, Passed-none, Passed-trans, Passed-as, Passed-map}
use Rattle.ax_task.proofs.Passing.{Goes}
use Rattle.ax_task.specs.declared.end.End.TheVariants as end
use Rattle.ax_task.specs.declared.read_fault.ReadFault.{ReadFault}
use Rattle.ax_task.specs.declared.read_fault.ReadFault.TheVariants as read

-- what a sink held and holds
abbrev pub holds : Option (List ℕ) → Option (List ℕ) → Holds
holds old new = record { old = old; new = new }

-- these events were taken; `s` is what the plain thread has behind them, and what was written is the text of its entries
pub record GoneOn (m : ℕ) (p : Program) (F G : List ℕ → Stream) (held0 held : List ℕ) (l0 l : Option (List ℕ)) (s : Plain) (h0 h : Option (List ℕ)) : Type 0 where
  pub done : List Event
  pub passed : Told l0 l (λ a b. Goes F (λ x. in_front done (G x)) (feed held0 a) (feed held b))
  pub stands : s ≡ silent (sync m p done)
  pub grown : Appends h0 h (text_of (sync m p done).entries)

-- all that may be written of some events is a part of it
so_far_itself : (m : ℕ) (serial : Bool) (p : Program) (done : List Event) → LawfulSoFarFor m serial p done (sync m p done).entries
so_far_itself m serial p done =
    let all : List Entry = (sync m p done).entries in
    let P : List Entry → Type 0 = LawfulSoFar serial all in
    subst P (append-nil all) (lawful_so_far_front serial all [])

-- a list that is lawful is lawful so far
-- what was written whole, written in part
pub wrote_some : (m : ℕ) (serial : Bool) (p : Program) (done : List Event) (h0 h1 h2 : Option (List ℕ))
    → ((text : List ℕ) → Appends h0 h1 text → AppendsSome h0 h2 text) → WritesLawful m serial p done (holds h0 h1) → WritesPart m serial p done (holds h0 h2)
wrote_some m serial p done h0 h1 h2 part w = (w.0, whole_so_far serial w.0 (sync m p done).entries w.1, part (text_of w.0) w.2)

none_passed : (F : List ℕ → Stream) (held : List ℕ) (l : Option (List ℕ)) → Told l l (λ a b. Goes F (λ x. in_front [] (F x)) (feed held a) (feed held b))
none_passed F held None = tt
none_passed F held (Some a) = ([], Passed-none F held a held a refl)

-- before the first event
pub at_start : (m : ℕ) (p : Program) (F : List ℕ → Stream) (held : List ℕ) (l h : Option (List ℕ)) (s : Plain) → s ≡ plain_start p → GoneOn m p F F held held l l s h h
at_start m p F held l h s e = record {
  done = [];
  passed = none_passed F held l;
  stands = e;
  grown = Appends-none h;
}

none_taken : (F : List ℕ → Stream) (held : List ℕ) (l : Option (List ℕ)) → Told l l (λ a b. Taken [] F (feed held a) b)
none_taken F held None = tt
none_taken F held (Some a) = record { w = []; rest = held; behind = F; passed = Passed-none F held a held a refl }

-- nothing was taken yet
pub stops_once : (m : ℕ) (serial : Bool) (p : Program) (F : List ℕ → Stream) (held : List ℕ) (l h : Option (List ℕ))
    → (done : List Event) × Told l l (λ a b. Took done F (feed held a) b end.NoMemory) × Wrote m serial p done (holds h h) end.NoMemory
stops_once m serial p F held l h = ([], none_taken F held l, ([], lawful_so_far_front serial [] (sync m p []).entries, AppendsSome-none h []))

module _ (m : ℕ) (p : Program) (done : List Event) (e : Event) where
  -- one event more, from the thread of which what was written is left aside
  event_aside : sync m p (done ++ e ∷ []) ≡ behind (sync m p done).entries (plain_step m p e (silent (sync m p done)))
  event_aside = steps_append m p done (e ∷ []) (plain_start p) ∙ step_behind m p e (sync m p done)

  -- what the thread has behind it
  stands_more : (s s' : Plain) → s ≡ silent (sync m p done) → s' ≡ silent (plain_step m p e s) → s' ≡ silent (sync m p (done ++ e ∷ []))
  stands_more s s' is step = step ∙ ap (λ (t : Plain). silent (plain_step m p e t)) is ∙ ap (λ (t : Plain). silent t) (sym event_aside)

  -- what it adds to the text
  text_more : (s : Plain) → s ≡ silent (sync m p done) → text_of (sync m p done).entries ++ text_of (plain_step m p e s).entries ≡ text_of (sync m p (done ++ e ∷ [])).entries
  text_more s is =
      ap (λ (t : Plain). text_of (sync m p done).entries ++ text_of (plain_step m p e t).entries) is
      ∙ sym (text_of-append (sync m p done).entries (plain_step m p e (silent (sync m p done))).entries)
      ∙ ap (λ (t : Plain). text_of t.entries) (sym event_aside)

-- one more event in front
one_more : (done : List Event) (e : Event) (s : Stream) → in_front done (with_event e s) ≡ in_front (done ++ e ∷ []) s
one_more done e s = ap (λ (es : List Event). record { events = es; ending = s.ending }) (sym (append_assoc done (e ∷ []) s.events))

-- a line's event was passed, behind those before
event_passed : (F G H : List ℕ → Stream) (held0 a held1 b held2 c : List ℕ) (done : List Event) (e : Event)
    → Goes F (λ x. in_front done (G x)) (feed held0 a) (feed held1 b) → Goes G (λ x. with_event e (H x)) (feed held1 b) (feed held2 c)
    → Goes F (λ x. in_front (done ++ e ∷ []) (H x)) (feed held0 a) (feed held2 c)
event_passed F G H held0 a held1 b held2 c done e p q = (
  p.0 ++ q.0,
  Passed-as F (λ x. in_front done (with_event e (H x))) (λ x. in_front (done ++ e ∷ []) (H x)) held0 a (p.0 ++ q.0) held2 c
      (Passed-trans F (λ x. in_front done (G x)) (λ x. in_front done (with_event e (H x))) held0 a p.0 held1 b q.0 held2 c p.1
      (Passed-map (in_front done) G (λ x. with_event e (H x)) held1 b q.0 held2 c q.1))
      (λ x. one_more done e (H x)),
)

module _ (m : ℕ) (p : Program) (F G H : List ℕ → Stream) (held0 held1 held2 : List ℕ) (l0 l1 l2 h0 h1 : Option (List ℕ)) (s : Plain) where
  -- one event on
  pub event_on : (h2 : Option (List ℕ)) (s' : Plain) (e : Event) → GoneOn m p F G held0 held1 l0 l1 s h0 h1
      → Told l1 l2 (λ a b. Goes G (λ x. with_event e (H x)) (feed held1 a) (feed held2 b))
      → s' ≡ silent (plain_step m p e s) → Appends h1 h2 (text_of (plain_step m p e s).entries)
      → GoneOn m p F H held0 held2 l0 l2 s' h0 h2
  event_on h2 s' e g n stands wrote = record {
    done = g.done ++ e ∷ [];
    passed = Told-trans l0 l1 l2 g.passed n (λ a b c x y. event_passed F G H held0 a held1 b held2 c g.done e x y);
    stands = stands_more m p g.done e s s' g.stands stands;
    grown = Appends-more h0 h1 h2 (text_of (sync m p g.done).entries) (text_of (plain_step m p e s).entries) (text_of (sync m p (g.done ++ e ∷ [])).entries) g.grown wrote
        (text_more m p g.done e s g.stands);
  }

  -- what the bytes mean, where the events that were taken are all
  all_done : (done : List Event) (a b : List ℕ) (end : Ending) → Goes F (λ x. in_front done (G x)) (feed held0 a) (feed held1 b) → G (held1 ++ b) ≡ ends end
      → ((F (held0 ++ a)).ending ≡ end) × ((F (held0 ++ a)).events ≡ done)
  all_done done a b end x e =
      let whole : F (held0 ++ a) ≡ in_front done (ends end) = ap F x.1.bytes ∙ x.1.same (held1 ++ b) x.1.ended ∙ ap (in_front done) e in
      (ap (λ (t : Stream). t.ending) whole, ap (λ (t : Stream). t.events) whole ∙ append-nil done)

  module _ (serial : Bool) (g : GoneOn m p F G held0 held1 l0 l1 s h0 h1) where
    -- all that was taken was written
    pub wrote_all : WritesLawful m serial p g.done (holds h0 h1)
    wrote_all = ((sync m p g.done).entries, lawful_itself serial (sync m p g.done).entries, g.grown)

    abbrev Writes : List Event → Type 0
    Writes events = WritesLawful m serial p events (holds h0 h1)

    -- no event is left
    pub ends_well : Told l1 l2 (λ a b. (G (held1 ++ a) ≡ ends Clean) × (b ≡ [])) → Told l0 l2 (λ a b. StreamEnds Writes (F (held0 ++ a)) b end.Ok)
    ends_well n =
        Told-trans l0 l1 l2 g.passed n (λ a b c x y.
        let all = all_done g.done a b Clean x y.0 in (all.0, y.1, subst Writes (sym all.1) wrote_all))

    -- there is no next event
    pub ends_at : (f : ReadFault) → Told l1 l2 (λ a b. NextOf (G (held1 ++ a)) (H (held2 ++ b)) b (Err f)) → Told l0 l2 (λ a b. StreamEnds Writes (F (held0 ++ a)) b (end_in_stream f))
    ends_at (read.Fault line kind) n =
        Told-trans l0 l1 l2 g.passed n (λ a b c x y. let all = all_done g.done a b (Fault line kind) x y in (all.0, subst Writes (sym all.1) wrote_all))
    ends_at read.Read n = Told-trans l0 l1 l2 g.passed n (λ a b c x y. tt)
    ends_at read.NoMemory n = Told-trans l0 l1 l2 g.passed n (λ a b c x y. tt)

    -- some bytes more were read
    pub took_some : Told l1 l2 (λ a b. SomePassed G (feed held1 a) b) → Told l0 l2 (λ a b. Taken g.done F (feed held0 a) b)
    took_some n =
        Told-trans l0 l1 l2 g.passed n (λ a b c x y. record {
          w = x.0 ++ y.1;
          rest = y.2;
          behind = y.0;
          passed = Passed-trans F (λ v. in_front g.done (G v)) (λ v. in_front g.done (y.0 v)) held0 a x.0 held1 b y.1 y.2 c x.1 (Passed-map (in_front g.done) G y.0 held1 b y.1 y.2 c y.3);
        })

    -- what was taken and written where no event is left
    pub stops_well : Told l1 l2 (λ a b. SomePassed G (feed held1 a) b)
        → (done : List Event) × Told l0 l2 (λ a b. Took done F (feed held0 a) b end.Ok) × Wrote m serial p done (holds h0 h1) end.Ok
    stops_well n = (g.done, took_some n, wrote_all)

    -- what was taken and written where there is no next event
    pub stops_at : (f : ReadFault) → Told l1 l2 (λ a b. NextPasses G H (feed held1 a) (feed held2 b) (Err f)) → H [] ≡ ends Clean
        → (done : List Event) × Told l0 l2 (λ a b. Took done F (feed held0 a) b (end_in_stream f)) × Wrote m serial p done (holds h0 h1) (end_in_stream f)
    stops_at (read.Fault line kind) n none = (g.done, took_some n, wrote_all)
    stops_at read.NoMemory n none = (g.done, took_some n, wrote_some m serial p g.done h0 h1 h1 (λ text grown. AppendsSome-all h0 h1 text grown) wrote_all)
    stops_at read.Read n none = (
      g.done,
      Told-trans l0 l1 l2 g.passed n (λ a b c x y. (
        record {
          w = x.0 ++ y.0;
          rest = held2;
          behind = H;
          passed = Passed-trans F (λ v. in_front g.done (G v)) (λ v. in_front g.done (H v)) held0 a x.0 held1 b y.0 held2 c x.1 (Passed-map (in_front g.done) G H held1 b y.0 held2 c y.1);
        },
        none,
        y.2,
      )),
      wrote_all,
    )

    -- what was taken and written where an event could not be written whole
    pub stops_in : (e : Event) (f : SinkFault) (h2 : Option (List ℕ)) → Told l1 l2 (λ a b. Goes G (λ x. with_event e (H x)) (feed held1 a) (feed held2 b)) → AppendsSome h1 h2 (text_of (plain_step m p e s).entries)
        → (done : List Event) × Told l0 l2 (λ a b. Took done F (feed held0 a) b (sink_end f)) × Wrote m serial p done (holds h0 h2) (sink_end f)
    stops_in e f h2 n wrote = by_fault f where
      done : List Event
      done = g.done ++ e ∷ []

      taken : Told l0 l2 (λ a b. Taken done F (feed held0 a) b)
      taken =
          Told-trans l0 l1 l2 g.passed n (λ a b c x y.
          let all = event_passed F G H held0 a held1 b held2 c g.done e x y in record { w = all.0; rest = held2; behind = H; passed = all.1 })

      part : WritesPart m serial p done (holds h0 h2)
      part = (
        (sync m p done).entries,
        so_far_itself m serial p done,
        AppendsSome-behind h0 h1 h2 (text_of (sync m p g.done).entries) (text_of (plain_step m p e s).entries) [] (text_of (sync m p done).entries) g.grown wrote
            (ap (λ t. text_of (sync m p g.done).entries ++ t) (append-nil (text_of (plain_step m p e s).entries)) ∙ text_more m p g.done e s g.stands),
      )

      by_fault : (f : SinkFault) → (done : List Event) × Told l0 l2 (λ a b. Took done F (feed held0 a) b (sink_end f)) × Wrote m serial p done (holds h0 h2) (sink_end f)
      by_fault sink.Failed = (done, taken, part)
      by_fault sink.NoMemory = (done, taken, part)
