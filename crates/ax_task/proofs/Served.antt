-- A batch that is served: the events of its replies are those of the machine, with the answers that the states of keys give.
use Rattle.std.proofs.Common.{◌≡◌, ℕ, List, [], ◌∷◌, false, Option, Some, None, refl, sym, ap, ap₂, ◌∙◌, subst}
use Rattle.std.proofs.lemmas.Bool.{cond-true, cond-false}
use Rattle.std.proofs.lemmas.List.{append-nil}
use Rattle.std.specs.Str.{bytes_eq}
use Rattle.std.specs.List.{AllByRecursion}
use Rattle.ax_text.specs.declared.vocabulary.Request.{Request}
use Rattle.ax_text.specs.declared.vocabulary.Answer.{Answer}
use Rattle.ax_text.specs.Cells.{Cells, answer_of, cells_after}
use Rattle.ax_text.specs.Programs.{Program as AnyProgram}
use Rattle.ax_text.specs.Controls.{Ask' as Asked}
use Rattle.ax_machine.specs.Entries.{Key}
use Rattle.ax_machine.proofs.FiringLemmas.{key_is}
use Rattle.ax_buffer.specs.declared.items.Item.{Item}
use Rattle.ax_context.specs.Slots.{at}
use Rattle.ax_execution.specs.Accepted.{AreAccepted}
use Rattle.ax_execution.specs.Asks.{stage_waits, owner_waits}
use Rattle.ax_execution.specs.Contexts.{Stage, Unbegun, Begun, Context}
use Rattle.ax_execution.specs.Rest.{silent, silent_stage}
use Rattle.ax_execution.specs.KeyControls.{stage_answer, owner_answer, answer_to}
use Rattle.ax_execution.specs.Turns.{serve}
use Rattle.ax_execution.specs.Machine.{Machine, Happening, Serve, Rules, happens, after_all, taken}
use Rattle.ax_execution.specs.MachineControls.{MachineControl, control_of_machine, happens_on, answer_of_event}
use Rattle.ax_execution.specs.ControlsAllowed.{AllowedOn, Answered, IsRunOn, with_answers}
use Rattle.ax_execution.specs.Reached.{IsReached}
use Rattle.ax_execution.proofs.Upto.{by_cases}
use Rattle.ax_execution.proofs.CellsKept.{serve_applies}
use Rattle.ax_execution.proofs.ControlWaits.{waits_on}
use Rattle.ax_execution.proofs.EventControls.{event_control}
use Rattle.ax_execution.proofs.ReachedLemmas.{event_reached}
use Rattle.ax_execution.proofs.ReachedOrderly.{reached_in_order, reached_sound}
use Rattle.ax_core.specs.declared.controller.Controller.{Controller}
use Rattle.ax_core.specs.Events.{key_in, serves}
use Rattle.ax_task.specs.Serving.{Content, content_with, replies_to, content_after}
use Rattle.ax_task.proofs.KeptAsks.{asked_at, WaitsFor, who_waits}

-- the events of a batch
abbrev pub serve_events : List Item → List Happening
serve_events [] = []
serve_events (i ∷ is) = Serve i.key i.slot ∷ serve_events is

pub none_taken : (is : List Item) → taken (serve_events is) ≡ []
none_taken [] = refl
none_taken (i ∷ is) = none_taken is

stage_silent : (st : Stage) → stage_waits (silent_stage st) ≡ stage_waits st
stage_silent Unbegun = refl
stage_silent (Begun r) = refl

waits_silent : (o : Option Context) → owner_waits (silent o) ≡ owner_waits o
waits_silent None = refl
waits_silent (Some c) = stage_silent c.stage

-- what the states of keys hold in the machine
abbrev pub Holds : Machine → Content → Type 0
Holds m content = (k : Key) → (m.parts k).said.state.cells ≡ content k

abbrev answered : Happening → Option Answer → Answered
answered e a = record { event = e; answer = a }

-- an item names a context of its key, which waits for its request
pub record IsOf (a : Controller) (c : MachineControl) (i : Item) : Type 0 where
  pub key : key_in (at a.contexts i.id) ≡ i.key
  pub waits : asked_at (owner_waits (c.controls i.key).owner) i.slot ≡ Some i.request

-- one request
module _ (g : ℕ) (p : AnyProgram) (i : Item) (m : Machine) (content : Content) (holds : Holds m content)
    (waits : asked_at (owner_waits (silent (m.parts i.key).owner)) i.slot ≡ Some i.request) where
  who : WaitsFor (m.parts i.key).owner i.slot i.request
  who = who_waits (m.parts i.key).owner i.slot i.request (ap (λ (xs : List Asked). asked_at xs i.slot) (sym (waits_silent (m.parts i.key).owner)) ∙ waits)

  -- it is answered as the states say
  pub answer_is : answer_of_event (Serve i.key i.slot) m ≡ Some (answer_of i.request (content i.key))
  answer_is =
      ap (λ (o : Option Context). owner_answer i.slot o (m.parts i.key).said.state.cells) who.owner
      ∙ (ap (λ (st : Stage). stage_answer i.slot st (m.parts i.key).said.state.cells) who.begun
      ∙ (ap (λ (q : Option Request). answer_to q (m.parts i.key).said.state.cells) who.asked
      ∙ ap (λ (c : Cells). Some (answer_of i.request c)) (holds i.key)))

  -- and changes them
  pub holds_behind : Holds (happens g p (Serve i.key i.slot) m) (content_with i content)
  holds_behind k = by_cases (bytes_eq i.key k)
      (λ x.
      let own : ((happens g p (Serve i.key i.slot) m).parts i.key).said.state.cells ≡ cells_after i.request (m.parts i.key).said.state.cells =
      serve_applies g p m i.key i.slot who.context who.running i.request who.owner who.begun who.asked in
      let own_now : ((happens g p (Serve i.key i.slot) m).parts i.key).said.state.cells ≡ cells_after i.request (content i.key) = own ∙ ap (cells_after i.request) (holds i.key) in
      subst (λ (j : Key). ((happens g p (Serve i.key i.slot) m).parts j).said.state.cells ≡ cells_after i.request (content i.key)) (key_is i.key k x) own_now
      ∙ sym (cond-true (bytes_eq i.key k) (cells_after i.request (content i.key)) (content k) x))
      (λ x.
      ap (λ (part : _). part.said.state.cells) (cond-false (bytes_eq i.key k) (serve i.slot (m.parts i.key)) (m.parts k) x)
      ∙ (holds k ∙ sym (cond-false (bytes_eq i.key k) (cells_after i.request (content i.key)) (content k) x)))

-- what a batch comes to
pub record IsServedBy (g : ℕ) (p : AnyProgram) (a : Controller) (is : List Item) (m : Machine) (content : Content) : Type 0 where
  pub answers : serves a (replies_to is content) ≡ with_answers g p (serve_events is) m
  pub holds : Holds (after_all g p (serve_events is) m) (content_after is content)

module _ (g : ℕ) (p : AnyProgram) (accepted : AreAccepted p) (a : Controller) (r : Rules) where
  one_event : (i : Item) (m : Machine) (content : Content) → Holds m content → IsOf a (control_of_machine m) i
      → answered (Serve (key_in (at a.contexts i.id)) i.slot) (Some (answer_of i.request (content i.key))) ≡ answered (Serve i.key i.slot) (answer_of_event (Serve i.key i.slot) m)
  one_event i m content holds x = ap₂ answered (ap (λ (k : Key). Serve k i.slot) x.key) (sym (answer_is g p i m content holds x.waits))

  -- each request of a batch, one after another
  pub serve_batch : (is : List Item) (m : Machine) (content : Content) → Holds m content → IsReached r p (control_of_machine m)
      → AllByRecursion (IsOf a (control_of_machine m)) is → IsRunOn r p (serves a (replies_to is content)) (control_of_machine m) → IsServedBy g p a is m content
  serve_batch [] m content holds reached all run = record { answers = refl; holds = holds }
  serve_batch (i ∷ is) m content holds reached all run =
      let c : MachineControl = control_of_machine m in
      let answer : Answer = answer_of i.request (content i.key) in
      let next : Machine = happens g p (Serve i.key i.slot) m in
      let path : control_of_machine next ≡ happens_on p (Serve i.key i.slot) (Some answer) c =
      event_control g p (Serve i.key i.slot) m ∙ ap (λ (o : Option Answer). happens_on p (Serve i.key i.slot) o c) (answer_is g p i m content holds all.0.waits) in
      let allowed : AllowedOn r (Serve i.key i.slot) c = subst (λ (k : Key). AllowedOn r (Serve k i.slot) c) all.0.key run.0 in
      let reached_next : IsReached r p (control_of_machine next) = subst (IsReached r p) (sym path) (event_reached r p (Serve i.key i.slot) (Some answer) c reached allowed (answer, refl)) in
      let run_next : IsRunOn r p (serves a (replies_to is (content_with i content))) (control_of_machine next) =
      subst (IsRunOn r p (serves a (replies_to is (content_with i content)))) (ap (λ (k : Key). happens_on p (Serve k i.slot) (Some answer) c) all.0.key ∙ sym path) run.2 in
      let still : (j : Item) → IsOf a c j → IsOf a (control_of_machine next) j =
      λ (j : Item) (x : IsOf a c j). record {
        key = x.key;
        waits = ap (λ (xs : List Asked). asked_at xs j.slot)
            (ap (λ (d : MachineControl). owner_waits (d.controls j.key).owner) path ∙ waits_on r p c (reached_in_order r p c accepted reached) (reached_sound r p c accepted reached) (Serve i.key i.slot) (Some answer) j.key allowed)
            ∙ x.waits;
      } in
      let rest : IsServedBy g p a is next (content_with i content) =
      serve_batch is next (content_with i content) (holds_behind g p i m content holds all.0.waits) reached_next (weaker (IsOf a c) (IsOf a (control_of_machine next)) is still all.1) run_next in
      record {
        answers = ap₂ (λ (x : Answered) (xs : List Answered). x ∷ xs) (one_event i m content holds all.0) rest.answers;
        holds = rest.holds;
      }
    where
      weaker : (P Q : Item → Type 0) (is : List Item) → ((j : Item) → P j → Q j) → AllByRecursion P is → AllByRecursion Q is
      weaker P Q [] h x = tt
      weaker P Q (j ∷ js) h x = (h j x.0, weaker P Q js h x.1)

-- nothing is written by it, and other keys stay

pub serves_write_nothing : (g : ℕ) (p : AnyProgram) (is : List Item) (m : Machine) → (after_all g p (serve_events is) m).written ≡ m.written
serves_write_nothing g p [] m = refl
serves_write_nothing g p (i ∷ is) m = serves_write_nothing g p is (happens g p (Serve i.key i.slot) m) ∙ append-nil m.written

pub others_stay : (g : ℕ) (p : AnyProgram) (k : Key) (is : List Item) (m : Machine) → AllByRecursion (λ (i : Item). bytes_eq i.key k ≡ false) is → (after_all g p (serve_events is) m).parts k ≡ m.parts k
others_stay g p k [] m h = refl
others_stay g p k (i ∷ is) m h = others_stay g p k is (happens g p (Serve i.key i.slot) m) h.1 ∙ cond-false (bytes_eq i.key k) (serve i.slot (m.parts i.key)) (m.parts k) h.0
