-- The machine goes on by events, and the controller stands for what they leave.
use Rattle.std.proofs.Common.{◌≡◌, ◌<◌, ℕ, List, [], ◌∷◌, ◌++◌, get_or, Option, None, refl, sym, ap, ap₂, ◌∙◌, subst}
use Rattle.std.proofs.lemmas.List.{get_or-map, length-map}
use Rattle.std.specs.List.{Contains}
use Rattle.ax_text.specs.declared.vocabulary.Answer.{Answer}
use Rattle.ax_text.specs.Programs.{Program as AnyProgram}
use Rattle.ax_machine.specs.Entries.{Key, Entry, says}
use Rattle.ax_machine.specs.Events.{Event}
use Rattle.ax_machine.specs.Events as event
use Rattle.ax_machine.specs.Sync.{plain_steps, plain_start, sync}
use Rattle.ax_machine.proofs.StepLemmas.{steps_append}
use Rattle.ax_lang.specs.declared.program.Program.{Program}
use Rattle.ax_lang.specs.Shown.{shown_program}
use Rattle.ax_buffer.specs.declared.items.Item.{Item}
use Rattle.ax_context.specs.Slots.{at}
use Rattle.ax_execution.specs.Origins.{first}
use Rattle.ax_execution.specs.Machine.{ByWatermark, ByBarrier, Machine, Happening, Admit, Close, Fire, Start, Serve, Deliver, Send, Rules, happens, outcome, after_all, taken, machine_from}
use Rattle.ax_execution.specs.Allowed.{IsRun}
use Rattle.ax_execution.specs.MachineControls.{MachineControl, control_of_machine, happens_on, answer_of_event}
use Rattle.ax_execution.specs.ControlsAllowed.{AllowedOn, IsAnswered}
use Rattle.ax_execution.specs.Reached.{IsReached}
use Rattle.ax_execution.proofs.CellsKept.{only_serve}
use Rattle.ax_execution.proofs.ControlsAllowed.{allowed_from}
use Rattle.ax_execution.proofs.EventControls.{event_control}
use Rattle.ax_execution.proofs.Outside.{written_grows}
use Rattle.ax_execution.proofs.Projected.{first_fits}
use Rattle.ax_execution.proofs.ReachedLemmas.{machine_reached}
use Rattle.ax_core.specs.declared.settings.Settings.{Settings}
use Rattle.ax_core.specs.declared.record.Name.{Name}
use Rattle.ax_core.specs.declared.controller.Controller.{Controller}
use Rattle.ax_core.specs.Flow.{shard_of}
use Rattle.ax_core.specs.Sound.{rules_of, StandsFor}
use Rattle.ax_core.specs.Events.{SameRules, KeysStay, Makes, OwnerAsks, Asks, names_in, key_in}
use Rattle.ax_core.proofs.Sends.{accepted}
use Rattle.ax_task.specs.Serving.{Content}
use Rattle.ax_task.specs.Refined.{Reaches, Refines}
use Rattle.ax_task.proofs.KeptAsks.{asks_kept}
use Rattle.ax_task.proofs.Served.{Holds}

-- events, and then further ones

pub run_append : (r : Rules) (g : ℕ) (p : AnyProgram) (es fs : List Happening) (m : Machine) → IsRun r g p es m → IsRun r g p fs (after_all g p es m) → IsRun r g p (es ++ fs) m
run_append r g p [] fs m a b = b
run_append r g p (e ∷ es) fs m a b = (a.0, run_append r g p es fs (happens g p e m) a.1 b)

pub after_append : (g : ℕ) (p : AnyProgram) (es fs : List Happening) (m : Machine) → after_all g p (es ++ fs) m ≡ after_all g p fs (after_all g p es m)
after_append g p [] fs m = refl
after_append g p (e ∷ es) fs m = after_append g p es fs (happens g p e m)

pub taken_append : (es fs : List Happening) → taken (es ++ fs) ≡ taken es ++ taken fs
taken_append [] fs = refl
taken_append (Admit n k time values ∷ es) fs = ap (λ (xs : List Event). event.Row k time values ∷ xs) (taken_append es fs)
taken_append (Close (ByWatermark w) ∷ es) fs = ap (λ (xs : List Event). event.Mark w ∷ xs) (taken_append es fs)
taken_append (Close (ByBarrier id) ∷ es) fs = ap (λ (xs : List Event). event.Barrier id ∷ xs) (taken_append es fs)
taken_append (Fire n k ∷ es) fs = taken_append es fs
taken_append (Start k ∷ es) fs = taken_append es fs
taken_append (Serve k slot ∷ es) fs = taken_append es fs
taken_append (Deliver k slot ∷ es) fs = taken_append es fs
taken_append (Send ∷ es) fs = taken_append es fs

-- the plain thread does the same with further events
pub sync_more : (g : ℕ) (p : AnyProgram) (xs ys zs : List Event) → sync g p xs ≡ sync g p ys → sync g p (xs ++ zs) ≡ sync g p (ys ++ zs)
sync_more g p xs ys zs e = steps_append g p xs zs (plain_start p) ∙ (ap (plain_steps g p zs) e ∙ sym (steps_append g p ys zs (plain_start p)))

no_answer : (e : Happening) (m : Machine) → IsAnswered e None → answer_of_event e m ≡ None
no_answer (Admit n k time values) m h = refl
no_answer (Close c) m h = refl
no_answer (Fire n k) m h = refl
no_answer (Start k) m h = refl
no_answer (Serve k slot) m h = absurd (cc h.1)
no_answer (Deliver k slot) m h = refl
no_answer Send m h = refl

pub no_serve : (e : Happening) → IsAnswered e None → (k : Key) (slot : ℕ) → e ≡ Serve k slot → ⊥
no_serve e h k slot x = let y : IsAnswered (Serve k slot) None = subst (λ (d : Happening). IsAnswered d None) x h in absurd (cc y.1)

-- the control behind an event that serves nothing
pub control_behind : (g : ℕ) (p : AnyProgram) (e : Happening) (m : Machine) → IsAnswered e None → control_of_machine (happens g p e m) ≡ happens_on p e None (control_of_machine m)
control_behind g p e m h = event_control g p e m ∙ ap (λ (o : Option Answer). happens_on p e o (control_of_machine m)) (no_answer e m h)

module _ (s : Settings) (p : AnyProgram) where
  abbrev r : Rules
  r = rules_of s

  abbrev g : ℕ
  g = s.groups

  pub reached_by : (content : Content) (read : List Event) (written : List Entry) (m : Machine) → Reaches s p content read written m → IsReached r p (control_of_machine m)
  reached_by content read written m x = subst (λ (n : Machine). IsReached r p (control_of_machine n)) (sym x.there) (machine_reached r g p (first p) x.events (first_fits p) x.run)

  pub reaches_on : (content content' : Content) (read read' : List Event) (written written' : List Entry) (m : Machine) → (x : Reaches s p content read written m) → (fs : List Happening)
      → IsRun r g p fs m → Holds (after_all g p fs m) content' → sync g p read' ≡ sync g p (taken x.events ++ taken fs) → (after_all g p fs m).written ≡ written'
      → Reaches s p content' read' written' (after_all g p fs m)
  reaches_on content content' read read' written written' m x fs run holds same wrote = record {
    events = x.events ++ fs;
    run = run_append r g p x.events fs (machine_from (first p)) x.run (subst (IsRun r g p fs) x.there run);
    there = ap (after_all g p fs) x.there ∙ sym (after_append g p x.events fs (machine_from (first p)));
    states = holds;
    same = same ∙ ap (sync g p) (sym (taken_append x.events fs));
    wrote = wrote;
  }

  -- one event that serves nothing
  pub reaches_one : (content : Content) (read new : List Event) (written more : List Entry) (m : Machine) → Reaches s p content read written m → (e : Happening)
      → IsAnswered e None → AllowedOn r e (control_of_machine m) → taken (e ∷ []) ≡ new → (outcome g p e m).entries ≡ more
      → Reaches s p content (read ++ new) (written ++ more) (happens g p e m)
  reaches_one content read new written more m x e none allowed takes says =
      reaches_on content content read (read ++ new) written (written ++ more) m x (e ∷ []) (allowed_from r e m allowed, tt)
      (λ k. only_serve g p e m k (no_serve e none k) ∙ x.states k)
      (sync_more g p read (taken x.events) new x.same ∙ ap (λ (es : List Event). sync g p (taken x.events ++ es)) (sym takes))
      (written_grows g p e m ∙ ap₂ (λ (a b : List Entry). a ++ b) x.wrote says)

-- a request of a batch that is out is called so
pub name_out : (is : List Item) (i : Item) → Contains is i → Contains (names_in is) (record { id = i.id; slot = i.slot })
name_out is i h = (
  h.0,
  subst (λ (n : ℕ). h.0 < n) (sym (length-map is (λ (j : Item). name_of j))) h.1,
  get_or-map (λ (j : Item). name_of j) is h.0 i (name_of i) h.1 ∙ ap (λ (j : Item). name_of j) h.2,
)
  where
    name_of : Item → Name
    name_of j = record { id = j.id; slot = j.slot }

-- every request of a batch that is out waits, unserved
abbrev pub AllAsk : Controller → (ℕ → List Item) → MachineControl → Type 0
AllAsk a out c = (shard : ℕ) (i : Item) → Contains (out shard) i → Asks a shard c i

-- a call that leaves what is out
pub record Leaves (a b : Controller) : Type 0 where
  pub same : SameRules a b
  pub outs : b.outs ≡ a.outs
  pub keys : KeysStay a b

module _ (s : Settings) (p : Program) (a : Controller) (out : ℕ → List Item) where
  -- one event that serves nothing
  pub all_ask : (content : Content) (read : List Event) (written : List Entry) (m : Machine) → Reaches s (shown_program p) content read written m → (e : Happening)
      → IsAnswered e None → AllowedOn (rules_of s) e (control_of_machine m) → AllAsk a out (control_of_machine m) → AllAsk a out (control_of_machine (happens s.groups (shown_program p) e m))
  all_ask content read written m x e none allowed asks shard i h = record {
    shard = (asks shard i h).shard;
    asks = subst (λ (c : MachineControl). OwnerAsks i (c.controls i.key).owner) (sym (control_behind s.groups (shown_program p) e m none))
        (asks_kept (rules_of s) (shown_program p) (accepted p) (control_of_machine m) (reached_by s (shown_program p) content read written m x) i (asks shard i h).asks e none allowed);
  }

module _ (s : Settings) (p : Program) (a b : Controller) (content : Content) (out : ℕ → List Item) (read : List Event) (written : List Entry) (x : Refines s p a content out read written) where
  -- what is out is of the keys that it was of
  pub key_stays : KeysStay a b → (shard : ℕ) (i : Item) → Contains (out shard) i → key_in (at b.contexts i.id) ≡ i.key
  key_stays stay shard i h =
      stay shard (record { id = i.id; slot = i.slot }) (subst (λ (ns : List Name). Contains ns (record { id = i.id; slot = i.slot })) (sym (x.names shard)) (name_out (out shard) i h))
      ∙ x.keys shard i h

  -- the controller behind a call stands for a machine
  pub stands_behind : Leaves a b → (read' : List Event) (written' : List Entry) (m : Machine) → Reaches s (shown_program p) content read' written' m → AllAsk a out (control_of_machine m)
      → StandsFor b (control_of_machine m) → Refines s p b content out read' written'
  stands_behind l read' written' m reaches asks stands = record {
    program = l.same.program ∙ x.program;
    settings = l.same.settings ∙ x.settings;
    machine = m;
    reaches = reaches;
    stands = stands;
    names = λ shard. ap (λ (o : _). get_or o.items shard []) l.outs ∙ x.names shard;
    keys = key_stays l.keys;
    asks = λ shard i h. record { shard = ap (λ (t : Settings). shard_of t i.key) l.same.settings ∙ (asks shard i h).shard; asks = (asks shard i h).asks };
  }

  -- a call that makes one event that serves nothing
  pub made : Leaves a b → (e : Happening) → IsAnswered e None → Makes a b e (control_of_machine x.machine) → (new : List Event) (more : List Entry)
      → taken (e ∷ []) ≡ new → (outcome s.groups (shown_program p) e x.machine).entries ≡ more → Refines s p b content out (read ++ new) (written ++ more)
  made l e none makes new more takes says =
      let allowed : AllowedOn (rules_of s) e (control_of_machine x.machine) = subst (λ (t : Settings). AllowedOn (rules_of t) e (control_of_machine x.machine)) x.settings makes.allowed in
      let stands : StandsFor b (happens_on (shown_program p) e None (control_of_machine x.machine)) = subst (λ (t : Program). StandsFor b (happens_on (shown_program t) e None (control_of_machine x.machine))) x.program makes.stands in
      stands_behind l (read ++ new) (written ++ more) (happens s.groups (shown_program p) e x.machine)
      (reaches_one s (shown_program p) content read new written more x.machine x.reaches e none allowed takes says)
      (all_ask s p a out content read written x.machine x.reaches e none allowed x.asks)
      (subst (StandsFor b) (sym (control_behind s.groups (shown_program p) e x.machine none)) stands)
