-- The next event is looked for.
use Rattle.std.proofs.Common.{◌≡◌, ℕ, List, [], ◌∷◌, ◌++◌, false, Option, Some, None, IsSome, Ok, Err, refl, sym, ap, ◌∙◌, subst, append-nil}
use Rattle.std.proofs.lemmas.Option.{none-some}
use Rattle.ax_base.specs.Outside.{RoseByOne, Told}
use Rattle.ax_base.specs.Reader.{Reader}
use Rattle.ax_machine.specs.Events.{Event}
use Rattle.ax_input.specs.Shown.{shown_event}
use Rattle.ax_input.specs.declared.event.Event.{Event as CodeEvent}
use Rattle.ax_task.specs.Parse.{Stream, Clean, ends}
use Rattle.ax_task.specs.Reads.{NextOf}
use Rattle.ax_task.specs.Passes.{events_at, SomePassed, NextPasses}
use Rattle.ax_task.specs.Known.{Knows, IsInputEnd}
use Rattle.ax_task.specs.Due.{HeldBeforeEnd}
use Rattle.ax_task.specs.Tasks.{held_events, From, FoundCounts, IsFound, Finds, MayRead, HasRead, ReadsOn, ReadsShort}
use Rattle.ax_task.specs.declared.end.End.{End}
use Rattle.ax_task.specs.declared.end.End.TheVariants as end
use Rattle.ax_task.specs.declared.read_fault.ReadFault.TheVariants as read
use Rattle.ax_task.specs.declared.reading.Reading.{Reading}
use Rattle.ax_task.proofs.Feeds.{feed}
use Rattle.ax_task.proofs.Knowing.{known_more, known_end, known_fault, taken_short}

-- what bytes mean to the reader of events
abbrev means : Reading → Reader → List ℕ → Stream
means r lines = events_at r.events.fields r.events.last lines

module _ (r r' : Reading) (lines lines' : Reader) (l l' : Option (List ℕ)) (reads reads' : ℕ) (none : r.next ≡ None) (unfound : r.found ≡ None) where
  module _ (from : From) (taken : List Event) (h : HasRead from r lines l reads taken) where
    -- what is known so far
    known : Told from.outer.left l (λ a b. Knows from.means (means r lines) (taken ++ held_events r.next) (feed from.held a) (feed lines.held b) None)
    known = subst (λ (f : Option End). Told from.outer.left l (λ a b. Knows from.means (means r lines) (taken ++ held_events r.next) (feed from.held a) (feed lines.held b) f)) unfound h.knows

    count : reads ≡ from.outer.reads
    count = subst (FoundCounts from.outer.reads reads) unfound h.counts

    nothing_held : taken ++ held_events r.next ≡ taken
    nothing_held = ap (λ (o : Option CodeEvent). taken ++ held_events o) none ∙ append-nil taken

  -- an event was read
  pub reads_event : (e : CodeEvent) → r'.next ≡ Some e → r'.found ≡ None → Told l l' (λ a b. NextPasses (means r lines) (means r' lines') (feed lines.held a) (feed lines'.held b) (Ok (Some e)))
      → reads' ≡ reads → lines'.failed ≡ false → ReadsOn r r' lines lines' l l' reads reads'
  reads_event e next found n same sound from taken h = record {
    knows = subst (λ (f : Option End). Told from.outer.left l' (λ a b. Knows from.means (means r' lines') (taken ++ held_events r'.next) (feed from.held a) (feed lines'.held b) f)) (sym found)
        (subst (λ (o : Option CodeEvent). Told from.outer.left l' (λ a b. Knows from.means (means r' lines') (taken ++ held_events o) (feed from.held a) (feed lines'.held b) None)) (sym next)
        (subst (λ (es : List Event). Told from.outer.left l' (λ a b. Knows from.means (means r' lines') (es ++ shown_event e ∷ []) (feed from.held a) (feed lines'.held b) None)) (nothing_held from taken h)
        (known_more from.means (means r lines) (means r' lines') from.held lines.held lines'.held from.outer.left l l' (taken ++ held_events r.next) (known from taken h) (shown_event e) n)));
    found = subst IsFound (sym found) tt;
    counts = subst (FoundCounts from.outer.reads reads') (sym found) (same ∙ count from taken h);
    may = subst (MayRead lines') (sym found) sound;
  }

  module _ (still : r'.next ≡ r.next) where
    -- an end was found
    ended : (e : End) → r'.found ≡ Some e → IsInputEnd e → (from : From) (taken : List Event) → HasRead from r lines l reads taken
        → Told from.outer.left l' (λ a b. Knows from.means (means r' lines') (taken ++ held_events r.next) (feed from.held a) (feed lines'.held b) (Some e)) → FoundCounts from.outer.reads reads' (Some e)
        → HasRead from r' lines' l' reads' taken
    ended e found is from taken h knows counts = record {
      knows = subst (λ (f : Option End). Told from.outer.left l' (λ a b. Knows from.means (means r' lines') (taken ++ held_events r'.next) (feed from.held a) (feed lines'.held b) f)) (sym found)
          (subst (λ (o : Option CodeEvent). Told from.outer.left l' (λ a b. Knows from.means (means r' lines') (taken ++ held_events o) (feed from.held a) (feed lines'.held b) (Some e))) (sym still) knows);
      found = subst IsFound (sym found) is;
      counts = subst (FoundCounts from.outer.reads reads') (sym found) counts;
      may = subst (MayRead lines') (sym found) tt;
    }

    pub reads_end : r'.found ≡ Some end.Ok → Told l l' (λ a b. (means r lines (lines.held ++ a) ≡ ends Clean) × (b ≡ [])) → Told l l' (λ a b. SomePassed (means r lines) (feed lines.held a) b)
        → reads' ≡ reads → ReadsOn r r' lines lines' l l' reads reads'
    reads_end found n m same from taken h = ended end.Ok found tt from taken h
        (known_end from.means (means r lines) (means r' lines') from.held lines.held lines'.held from.outer.left l l' (taken ++ held_events r.next) (known from taken h) n m)
        (same ∙ count from taken h)

    pub reads_fault : (line kind : ℕ) → r'.found ≡ Some (end.Input line kind) → Told l l' (λ a b. NextOf (means r lines (lines.held ++ a)) (means r' lines' (lines'.held ++ b)) b (Err (read.Fault line kind)))
        → Told l l' (λ a b. NextPasses (means r lines) (means r' lines') (feed lines.held a) (feed lines'.held b) (Err (read.Fault line kind))) → reads' ≡ reads → ReadsOn r r' lines lines' l l' reads reads'
    reads_fault line kind found n m same from taken h = ended (end.Input line kind) found tt from taken h
        (known_fault from.means (means r lines) (means r' lines') from.held lines.held lines'.held from.outer.left l l' (taken ++ held_events r.next) (known from taken h) (read.Fault line kind) n m refl)
        (same ∙ count from taken h)

    pub reads_failed : r'.found ≡ Some end.Read → Told l l' (λ a b. NextOf (means r lines (lines.held ++ a)) (means r' lines' (lines'.held ++ b)) b (Err read.Read))
        → Told l l' (λ a b. NextPasses (means r lines) (means r' lines') (feed lines.held a) (feed lines'.held b) (Err read.Read)) → RoseByOne reads reads' → ReadsOn r r' lines lines' l l' reads reads'
    reads_failed found n m rose from taken h = ended end.Read found tt from taken h
        (known_fault from.means (means r lines) (means r' lines') from.held lines.held lines'.held from.outer.left l l' (taken ++ held_events r.next) (known from taken h) read.Read n m refl)
        (subst (λ (k : ℕ). RoseByOne k reads') (count from taken h) rose)

  -- memory was short
  pub reads_short : Told l l' (λ a b. SomePassed (means r lines) (feed lines.held a) b) → ReadsShort r lines l l' reads
  reads_short m from taken h = taken_short from.means (means r lines) (means r lines) from.held lines.held lines.held from.outer.left l l' (taken ++ held_events r.next) (known from taken h) m

-- an event is held only where no end was found

none_found : (o : Option End) → o ≡ None → IsSome o → ⊥
none_found None e h = cc h
none_found (Some x) e h = cc e

pub held_unfound : (r : Reading) → r.found ≡ None → HeldBeforeEnd r
held_unfound r unfound some = absurd (none_found r.found unfound some)

pub none_held : (r : Reading) → r.next ≡ None → HeldBeforeEnd r
none_held r none some = none

pub held_as : (r r' : Reading) → r' ≡ r → HeldBeforeEnd r → HeldBeforeEnd r'
held_as r r' same h = subst HeldBeforeEnd (sym same) h

pub unfound_held : (r : Reading) (e : CodeEvent) → HeldBeforeEnd r → r.next ≡ Some e → r.found ≡ None
unfound_held r e h next = of r.found (λ some. sym (h some) ∙ next)
  where
    of : (o : Option End) → (IsSome o → None ≡ Some e) → o ≡ None
    of None k = refl
    of (Some x) k = absurd (none-some e (k refl))

-- nothing is looked for
pub reads_none : (r : Reading) (lines : Reader) (l : Option (List ℕ)) (reads : ℕ) → ReadsOn r r lines lines l l reads reads
reads_none r lines l reads from taken h = h

-- nothing more was read
pub finds_same : (o : Option End) (l : Option (List ℕ)) (n : ℕ) → Finds o o l l n n
finds_same None l n = (tt, refl)
finds_same (Some e) l n = (refl, refl, refl)

-- the first look that finds an end
pub finds_first : (o found : Option End) (l l' : Option (List ℕ)) (n n' : ℕ) → o ≡ None → IsFound found → FoundCounts n n' found → Finds o found l l' n n'
finds_first o found l l' n n' is f c = subst (λ (d : Option End). Finds d found l l' n n') (sym is) (f, c)

-- no end was found
pub finds_none : (o : Option End) (l l' : Option (List ℕ)) (n n' : ℕ) → o ≡ None → n' ≡ n → Finds o o l l' n n'
finds_none o l l' n n' is c = subst (λ (d : Option End). Finds d d l l' n n') (sym is) (tt, c)
