-- What a task knows of its input, from its first event to its end.
use Rattle.std.proofs.Common.{◌≡◌, ℕ, List, [], ◌∷◌, ◌++◌, Bool, Option, Some, None, Err, refl, sym, ap, ◌∙◌, append_assoc, subst}
use Rattle.std.proofs.lemmas.List.{append-nil}
use Rattle.ax_base.specs.Outside.{Told, AppendsSome}
use Rattle.std.specs.Io.KnownBytes.{Appends}
use Rattle.ax_base.proofs.OutsideLemmas.{Told-trans, Told-map}
use Rattle.ax_text.specs.Programs.{Program}
use Rattle.ax_machine.specs.Entries.{Entry, text_of}
use Rattle.ax_machine.specs.Events.{Event}
use Rattle.ax_machine.proofs.StepLemmas.{lawful_for_more, text_of-append}
use Rattle.ax_lang.specs.declared.program.Program.{Program as CodeProgram}
use Rattle.ax_lang.specs.Shown.{shown_program}
use Rattle.ax_buffer.specs.declared.items.Item.{Item}
use Rattle.ax_execution.specs.Machine.{IsAtRest}
use Rattle.ax_core.specs.declared.settings.Settings.{Settings}
use Rattle.ax_core.specs.declared.controller.Controller.{Controller}
use Rattle.ax_task.proofs.Written.{AppendsSome-behind}
use Rattle.ax_task.specs.Parse.{Stream, Ending, Clean, Fault, with_event, ends}
use Rattle.ax_task.specs.Clause.{WritesLawful, WritesPart, StreamEnds}
use Rattle.ax_task.specs.Reads.{NextOf, end_in_stream}
use Rattle.ax_task.specs.Passes.{Feed, SomePassed, NextPasses, in_front, Taken, Took, Wrote}
use Rattle.ax_task.specs.Known.{Knows, IsInputEnd}
use Rattle.ax_task.specs.Refined.{Refines}
use Rattle.ax_task.specs.Serving.{Content}
use Rattle.ax_task.specs.declared.end.End.{End}
use Rattle.ax_task.specs.declared.end.End.TheVariants as end
use Rattle.ax_task.specs.declared.read_fault.ReadFault.{ReadFault}
use Rattle.ax_task.specs.declared.read_fault.ReadFault.TheVariants as read
use Rattle.ax_task.proofs.Feeds.{feed, Passed-none, Passed-trans, Passed-as, Passed-map}
use Rattle.ax_task.proofs.Passing.{Goes}
use Rattle.ax_task.proofs.Progress.{holds}
use Rattle.ax_task.proofs.Resting.{so_far, whole}

told_both : (P Q : List ℕ → List ℕ → Type 0) (l0 l1 : Option (List ℕ)) → Told l0 l1 P → Told l0 l1 Q → Told l0 l1 (λ a b. P a b × Q a b)
told_both P Q None l1 p q = tt
told_both P Q (Some a) None p q = absurd p
told_both P Q (Some a) (Some b) p q = (p, q)

-- before the first event
pub known_first : (F : List ℕ → Stream) (held : List ℕ) (l : Option (List ℕ)) → Told l l (λ a b. Knows F F [] (feed held a) (feed held b) None)
known_first F held None = tt
known_first F held (Some a) = ([], Passed-none F held a held a refl)

-- one more event in front
one_more : (seen : List Event) (e : Event) (s : Stream) → in_front seen (with_event e s) ≡ in_front (seen ++ e ∷ []) s
one_more seen e s = ap (λ (es : List Event). record { events = es; ending = s.ending }) (sym (append_assoc seen (e ∷ []) s.events))

module _ (F G H : List ℕ → Stream) (held0 held1 held2 : List ℕ) (l0 l1 l2 : Option (List ℕ)) (seen : List Event) (known : Told l0 l1 (λ a b. Knows F G seen (feed held0 a) (feed held1 b) None)) where
  -- an event was read
  pub known_more : (e : Event) → Told l1 l2 (λ a b. Goes G (λ x. with_event e (H x)) (feed held1 a) (feed held2 b)) → Told l0 l2 (λ a b. Knows F H (seen ++ e ∷ []) (feed held0 a) (feed held2 b) None)
  known_more e n = Told-trans l0 l1 l2 known n (λ a b c x y. (
    x.0 ++ y.0,
    Passed-as F (λ v. in_front seen (with_event e (H v))) (λ v. in_front (seen ++ e ∷ []) (H v)) held0 a (x.0 ++ y.0) held2 c
        (Passed-trans F (λ v. in_front seen (G v)) (λ v. in_front seen (with_event e (H v))) held0 a x.0 held1 b y.0 held2 c x.1 (Passed-map (in_front seen) G (λ v. with_event e (H v)) held1 b y.0 held2 c y.1))
        (λ v. one_more seen e (H v)),
  ))

  -- all that the bytes mean, where no event is left
  all_seen : (a b : List ℕ) (end : Ending) → Knows F G seen (feed held0 a) (feed held1 b) None → G (held1 ++ b) ≡ ends end → ((F (held0 ++ a)).ending ≡ end) × ((F (held0 ++ a)).events ≡ seen)
  all_seen a b end x e =
      let whole : F (held0 ++ a) ≡ in_front seen (ends end) = ap F x.1.bytes ∙ x.1.same (held1 ++ b) x.1.ended ∙ ap (in_front seen) e in
      (ap (λ (t : Stream). t.ending) whole, ap (λ (t : Stream). t.events) whole ∙ append-nil seen)

  some_taken : (a b c : List ℕ) → Knows F G seen (feed held0 a) (feed held1 b) None → SomePassed G (feed held1 b) c → Taken seen F (feed held0 a) c
  some_taken a b c x y = record {
    w = x.0 ++ y.1;
    rest = y.2;
    behind = y.0;
    passed = Passed-trans F (λ v. in_front seen (G v)) (λ v. in_front seen (y.0 v)) held0 a x.0 held1 b y.1 y.2 c x.1 (Passed-map (in_front seen) G y.0 held1 b y.1 y.2 c y.3);
  }

  -- the input has ended
  pub known_end : Told l1 l2 (λ a b. (G (held1 ++ a) ≡ ends Clean) × (b ≡ [])) → Told l1 l2 (λ a b. SomePassed G (feed held1 a) b) → Told l0 l2 (λ a b. Knows F H seen (feed held0 a) (feed held2 b) (Some end.Ok))
  known_end n m = Told-trans l0 l1 l2 known (told_both (λ a b. (G (held1 ++ a) ≡ ends Clean) × (b ≡ [])) (λ a b. SomePassed G (feed held1 a) b) l1 l2 n m) (λ a b c x y.
      let all = all_seen a b Clean x y.0.0 in ((all.0, y.0.1, all.1), some_taken a b c x y.1))

  -- there is no next event
  pub known_fault : (f : ReadFault) → Told l1 l2 (λ a b. NextOf (G (held1 ++ a)) (H (held2 ++ b)) b (Err f)) → Told l1 l2 (λ a b. NextPasses G H (feed held1 a) (feed held2 b) (Err f)) → H [] ≡ ends Clean
      → Told l0 l2 (λ a b. Knows F H seen (feed held0 a) (feed held2 b) (Some (end_in_stream f)))
  known_fault (read.Fault line kind) n m none = Told-trans l0 l1 l2 known (told_both (λ a b. G (held1 ++ a) ≡ ends (Fault line kind)) (λ a b. SomePassed G (feed held1 a) b) l1 l2 n m) (λ a b c x y.
      let all = all_seen a b (Fault line kind) x y.0 in ((all.0, all.1), some_taken a b c x y.1))
  known_fault read.NoMemory n m none = Told-trans l0 l1 l2 known m (λ a b c x y. (tt, some_taken a b c x y))
  known_fault read.Read n m none = Told-trans l0 l1 l2 known m (λ a b c x y. (
    tt,
    (
      record {
        w = x.0 ++ y.0;
        rest = held2;
        behind = H;
        passed = Passed-trans F (λ v. in_front seen (G v)) (λ v. in_front seen (H v)) held0 a x.0 held1 b y.0 held2 c x.1 (Passed-map (in_front seen) G H held1 b y.0 held2 c y.1);
      },
      none,
      y.2,
    ),
  ))

  -- memory was short as the next event was read
  pub taken_short : Told l1 l2 (λ a b. SomePassed G (feed held1 a) b) → Told l0 l2 (λ a b. Taken seen F (feed held0 a) b)
  taken_short m = Told-trans l0 l1 l2 known m (λ a b c x y. some_taken a b c x y)

-- what was taken, whatever was found
took_taken : (F : List ℕ → Stream) (seen : List Event) (old : Feed) (left : List ℕ) (e : End) → Took seen F old left e → Taken seen F old left
took_taken F seen old left end.Ok t = t
took_taken F seen old left end.Read t = t.0
took_taken F seen old left end.Write t = t
took_taken F seen old left end.NoMemory t = t
took_taken F seen old left (end.Input line kind) t = t
took_taken F seen old left (end.Program line kind) t = t

module _ (F G : List ℕ → Stream) (held0 held : List ℕ) (l0 l : Option (List ℕ)) (seen : List Event) where
  pub known_taken : (found : Option End) → Told l0 l (λ a b. Knows F G seen (feed held0 a) (feed held b) found) → Told l0 l (λ a b. Taken seen F (feed held0 a) b)
  known_taken None k = Told-map l0 l k (λ a b x. record { w = x.0; rest = held; behind = G; passed = x.1 })
  known_taken (Some e) k = Told-map l0 l k (λ a b x. took_taken F seen (feed held0 a) b e x.1)

  -- the run ends as was found
  module _ (m : ℕ) (serial : Bool) (p : Program) (h0 h : Option (List ℕ)) where
    abbrev Writes : List Event → Type 0
    Writes events = WritesLawful m serial p events (holds h0 h)

    ends_so : (s : Stream) (left : List ℕ) (e : End) → StreamEnds (λ events. events ≡ seen) s left e → Writes seen → StreamEnds Writes s left e
    ends_so s left end.Ok x w = (x.0, x.1, subst Writes (sym x.2) w)
    ends_so s left end.Read x w = tt
    ends_so s left end.Write x w = tt
    ends_so s left end.NoMemory x w = tt
    ends_so s left (end.Input line kind) x w = (x.0, subst Writes (sym x.1) w)
    ends_so s left (end.Program line kind) x w = absurd x

    pub ends_found : (e : End) → Told l0 l (λ a b. Knows F G seen (feed held0 a) (feed held b) (Some e)) → Writes seen → Told l0 l (λ a b. StreamEnds Writes (F (held0 ++ a)) b e)
    ends_found e k w = Told-map l0 l k (λ a b x. ends_so (F (held0 ++ a)) b e x.0 w)

    wrote_found : (e : End) → IsInputEnd e → Writes seen → Wrote m serial p seen (holds h0 h) e
    wrote_found end.Ok i w = w
    wrote_found end.Read i w = w
    wrote_found (end.Input line kind) i w = w
    wrote_found end.Write i w = absurd i
    wrote_found end.NoMemory i w = absurd i
    wrote_found (end.Program line kind) i w = absurd i

    -- what was taken and written then
    pub stops_found : (e : End) → IsInputEnd e → Told l0 l (λ a b. Knows F G seen (feed held0 a) (feed held b) (Some e)) → Writes seen
        → (done : List Event) × Told l0 l (λ a b. Took done F (feed held0 a) b e) × Wrote m serial p done (holds h0 h) e
    stops_found e i k w = (seen, Told-map l0 l k (λ a b x. x.1), wrote_found e i w)

    -- the run is cut off
    pub stops_write : (found : Option End) → Told l0 l (λ a b. Knows F G seen (feed held0 a) (feed held b) found) → WritesPart m serial p seen (holds h0 h)
        → (done : List Event) × Told l0 l (λ a b. Took done F (feed held0 a) b end.Write) × Wrote m serial p done (holds h0 h) end.Write
    stops_write found k w = (seen, known_taken found k, w)

    pub stops_short : (found : Option End) → Told l0 l (λ a b. Knows F G seen (feed held0 a) (feed held b) found) → WritesPart m serial p seen (holds h0 h)
        → (done : List Event) × Told l0 l (λ a b. Took done F (feed held0 a) b end.NoMemory) × Wrote m serial p done (holds h0 h) end.NoMemory
    stops_short found k w = (seen, known_taken found k, w)

-- what was written

module _ (s : Settings) (p : CodeProgram) (a : Controller) (content : Content) (out : ℕ → List Item) (read : List Event) (h0 : Option (List ℕ)) where
  -- all of it, at rest
  pub wrote_whole : (written : List Entry) → (x : Refines s p a content out read written) → IsAtRest x.machine → (h : Option (List ℕ)) → Appends h0 h (text_of written)
      → WritesLawful s.groups s.serial (shown_program p) read (holds h0 h)
  wrote_whole written x rest h grown = (written, whole s p a content out read written x rest, grown)

  -- as much as was written of the last entries; further events may have been read
  pub wrote_part : (written more : List Entry) (next : List Event) → Refines s p a content out read (written ++ more) → (h1 h2 : Option (List ℕ)) → Appends h0 h1 (text_of written) → AppendsSome h1 h2 (text_of more)
      → WritesPart s.groups s.serial (shown_program p) (read ++ next) (holds h0 h2)
  wrote_part written more next x h1 h2 grown part = (
    written ++ more,
    lawful_for_more s.groups s.serial (shown_program p) read next (written ++ more) (so_far s p a content out read (written ++ more) x),
    AppendsSome-behind h0 h1 h2 (text_of written) (text_of more) [] (text_of (written ++ more)) grown part (ap (λ (t : List ℕ). text_of written ++ t) (append-nil (text_of more)) ∙ sym (text_of-append written more)),
  )
