-- A batch goes out, and comes back served.
use Rattle.std.proofs.Common.{◌≡◌, ◌≢◌, ◌⊎◌, ◌<◌, ℕ, zero, suc, ◌+◌, List, [], ◌∷◌, ◌++◌, length, get_or, set, true, false, nat_eq, refl, sym, ap, ◌∙◌, subst, eqb-true, arith, append-nil, inl, inr}
use Rattle.std.proofs.lemmas.Bool.{cond-true, cond-false, eq-eqb}
use Rattle.std.specs.Str.{bytes_eq}
use Rattle.std.specs.List.{Contains, AllByRecursion}
use Rattle.ax_text.specs.Functions.{upd}
use Rattle.ax_text.specs.Programs.{Program as AnyProgram}
use Rattle.ax_machine.specs.Entries.{Key, Entry}
use Rattle.ax_machine.specs.Events.{Event}
use Rattle.ax_machine.specs.Sync.{sync}
use Rattle.ax_machine.proofs.FiringLemmas.{key_is}
use Rattle.ax_lang.specs.declared.program.Program.{Program}
use Rattle.ax_lang.specs.Shown.{shown_program}
use Rattle.ax_buffer.specs.declared.items.Item.{Item}
use Rattle.ax_buffer.specs.declared.items.Reply.{Reply}
use Rattle.ax_buffer.proofs.ListLemmas.{at_set}
use Rattle.ax_context.specs.Slots.{at}
use Rattle.ax_execution.specs.Contexts.{Part}
use Rattle.ax_execution.specs.KeyControls.{control_of}
use Rattle.ax_execution.specs.Machine.{Machine, Happening, after_all, taken, work}
use Rattle.ax_execution.specs.Allowed.{IsRun}
use Rattle.ax_execution.specs.MachineControls.{MachineControl, control_of_machine}
use Rattle.ax_execution.specs.ControlsAllowed.{Answered, IsRunOn, after_all_on}
use Rattle.ax_execution.proofs.Upto.{by_cases}
use Rattle.ax_execution.proofs.ControlsAllowed.{run_from, all_control}
use Rattle.ax_core.specs.declared.settings.Settings.{Settings}
use Rattle.ax_core.specs.declared.record.Name.{Name}
use Rattle.ax_core.specs.declared.controller.Controller.{Controller}
use Rattle.ax_core.specs.Flow.{shard_of, out_of}
use Rattle.ax_core.specs.Sound.{rules_of, StandsFor}
use Rattle.ax_core.specs.Events.{SameRules, KeysStay, OwnerAsks, Asks, AsksAll, names_in, names_of, key_in, serves, ServesAll}
use Rattle.ax_core.proofs.Sends.{accepted}
use Rattle.ax_task.specs.Serving.{Content, replies_to, content_with, content_after}
use Rattle.ax_task.specs.Refined.{Reaches, Refines}
use Rattle.ax_task.specs.Work.{work_in, left_to_do}
use Rattle.ax_task.proofs.Falling.{work_now, falls_served, less_left}
use Rattle.ax_task.proofs.KeptAsks.{asks_waits}
use Rattle.ax_task.proofs.Served.{serve_events, none_taken, IsOf, IsServedBy, serve_batch, serves_write_nothing, others_stay}
use Rattle.ax_task.proofs.Refining.{reached_by, reaches_on, key_stays}

true_false : true ≡ false → ⊥
true_false e = cc e

-- facts of each item of a batch, by its place

asks_at : (a : Controller) (shard : ℕ) (c : MachineControl) (is : List Item) → AsksAll a shard c is → (k : ℕ) → k < length is → (d : Item) → Asks a shard c (get_or is k d)
asks_at a shard c [] h k l d = absurd (omega arith)
asks_at a shard c (i ∷ is) h zero l d = h.0
asks_at a shard c (i ∷ is) h (suc k) l d = asks_at a shard c is h.1 k (omega arith) d

pub asks_in : (a : Controller) (shard : ℕ) (c : MachineControl) (is : List Item) → AsksAll a shard c is → (i : Item) → Contains is i → Asks a shard c i
asks_in a shard c is h i x = subst (Asks a shard c) x.2 (asks_at a shard c is h x.0 x.1 i)

first_in : (i : Item) (is : List Item) → Contains (i ∷ is) i
first_in i is = (0, omega arith, refl)

later_in : (i : Item) (is : List Item) (j : Item) → Contains is j → Contains (i ∷ is) j
later_in i is j h = (suc h.0, omega (arith, h.1), h.2)

pub all_of : (P : Item → Type 0) (is : List Item) → ((i : Item) → Contains is i → P i) → AllByRecursion P is
all_of P [] h = tt
all_of P (i ∷ is) h = (h i (first_in i is), all_of P is (λ j x. h j (later_in i is j x)))

none_in : (i : Item) → Contains [] i → ⊥
none_in i h = let l : h.0 < 0 = h.1 in omega arith

-- what a batch answers is called as the batch is
pub names_of_replies : (is : List Item) (content : Content) → names_of (replies_to is content) ≡ names_in is
names_of_replies [] content = refl
names_of_replies (i ∷ is) content = ap (λ (ns : List Name). record { id = i.id; slot = i.slot } ∷ ns) (names_of_replies is (content_with i content))

-- one shard has another batch
module _ (out out' : ℕ → List Item) (shard : ℕ) (batch : List Item) (now : (t : ℕ) → out' t ≡ upd out shard batch t) where
  pub out_here : (t : ℕ) → nat_eq shard t ≡ true → out' t ≡ batch
  out_here t x = now t ∙ cond-true (nat_eq shard t) batch (out t) x

  pub out_there : (t : ℕ) → nat_eq shard t ≡ false → out' t ≡ out t
  out_there t x = now t ∙ cond-false (nat_eq shard t) batch (out t) x

  pub names_now : (a b : Controller) → shard < length a.outs.items → b.outs.items ≡ set a.outs.items shard (names_in batch) → ((t : ℕ) → out_of a t ≡ names_in (out t)) → (t : ℕ) → out_of b t ≡ names_in (out' t)
  names_now a b inside outs names t = ap (λ (o : List (List Name)). get_or o t []) outs ∙ of (at_set a.outs.items shard t (names_in batch) [] inside)
    where
      of : ((t ≡ shard) × (get_or (set a.outs.items shard (names_in batch)) t [] ≡ names_in batch)) ⊎ ((t ≢ shard) × (get_or (set a.outs.items shard (names_in batch)) t [] ≡ get_or a.outs.items t []))
          → get_or (set a.outs.items shard (names_in batch)) t [] ≡ names_in (out' t)
      of h = elim h [
        | inl h ↦ h.1 ∙ ap names_in (sym (out_here t (eq-eqb shard t (sym h.0))))
        | inr h ↦ h.1 ∙ (names t ∙ ap names_in (sym (out_there t (by_cases (nat_eq shard t) (λ x. absurd (h.0 (sym (eqb-true shard t x)))) (λ x. x)))))
      ]

module _ (s : Settings) (p : Program) (a b : Controller) (content : Content) (out : ℕ → List Item) (read : List Event) (written : List Entry) (x : Refines s p a content out read written)
    (same : SameRules a b) (stay : KeysStay a b) (shard : ℕ) (inside : shard < length a.outs.items) where
  abbrev c : MachineControl
  c = control_of_machine x.machine

  asks_too : (m : MachineControl) (t : ℕ) (i : Item) → Asks a t m i → Asks b t m i
  asks_too m t i h = record { shard = ap (λ (u : Settings). shard_of u i.key) same.settings ∙ h.shard; asks = h.asks }

  -- a batch goes out to a shard that is home
  pub posts_on : (out' : ℕ → List Item) (batch : List Item) → out shard ≡ [] → ((t : ℕ) → out' t ≡ upd out shard batch t) → b.outs.items ≡ set a.outs.items shard (out_of a shard ++ names_in batch)
      → AsksAll a shard c batch → ((i : Item) → Contains batch i → key_in (at b.contexts i.id) ≡ i.key) → StandsFor b c → Refines s p b content out' read written
  posts_on out' batch home now outs asks keys stands = record {
    program = same.program ∙ x.program;
    settings = same.settings ∙ x.settings;
    machine = x.machine;
    reaches = x.reaches;
    stands = stands;
    names = names_now out out' shard batch now a b inside (outs ∙ ap (λ (ns : List Name). set a.outs.items shard (ns ++ names_in batch)) (x.names shard ∙ ap names_in home)) x.names;
    keys = λ t i h. by_cases (nat_eq shard t)
        (λ y. keys i (subst (λ (is : List Item). Contains is i) (out_here out out' shard batch now t y) h))
        (λ y. key_stays s p a b content out read written x stay t i (subst (λ (is : List Item). Contains is i) (out_there out out' shard batch now t y) h));
    asks = λ t i h. by_cases (nat_eq shard t)
        (λ y. asks_too c t i (subst (λ (u : ℕ). Asks a u c i) (eqb-true shard t y) (asks_in a shard c batch asks i (subst (λ (is : List Item). Contains is i) (out_here out out' shard batch now t y) h))))
        (λ y. asks_too c t i (x.asks t i (subst (λ (is : List Item). Contains is i) (out_there out out' shard batch now t y) h)));
  }

  -- a batch comes back
  module _ (out' : ℕ → List Item) (content' : Content) (rs : List Reply) (now : (t : ℕ) → out' t ≡ upd out shard [] t) (outs : b.outs.items ≡ set a.outs.items shard [])
      (replies : rs ≡ replies_to (out shard) content) (behind : (k : Key) → content' k ≡ content_after (out shard) content k) (served : ServesAll a b rs c) where
    q : AnyProgram
    q = shown_program p

    es : List Happening
    es = serve_events (out shard)

    m : Machine
    m = after_all s.groups (shown_program p) (serve_events (out shard)) x.machine

    run_here : IsRunOn (rules_of s) (shown_program p) (serves a (replies_to (out shard) content)) c
    run_here = subst (λ (rs : List Reply). IsRunOn (rules_of s) (shown_program p) (serves a rs) c) replies
        (subst (λ (u : Program). IsRunOn (rules_of s) (shown_program u) (serves a rs) c) x.program (subst (λ (u : Settings). IsRunOn (rules_of u) (shown_program a.program) (serves a rs) c) x.settings served.allowed))

    all : AllByRecursion (IsOf a c) (out shard)
    all = all_of (IsOf a c) (out shard) (λ i h. record { key = x.keys shard i h; waits = asks_waits i (c.controls i.key).owner (x.asks shard i h).asks })

    by : IsServedBy s.groups (shown_program p) a (out shard) x.machine content
    by = serve_batch s.groups (shown_program p) (accepted p) a (rules_of s) (out shard) x.machine content x.reaches.states (reached_by s (shown_program p) content read written x.machine x.reaches) all run_here

    run : IsRun (rules_of s) s.groups (shown_program p) (serve_events (out shard)) x.machine
    run = run_from (rules_of s) s.groups (shown_program p) (serve_events (out shard)) x.machine (subst (λ (hs : List Answered). IsRunOn (rules_of s) (shown_program p) hs c) by.answers run_here)

    reaches : Reaches s (shown_program p) content' read written m
    unfolding m
    reaches = reaches_on s (shown_program p) content content' read read written written x.machine x.reaches (serve_events (out shard)) run
        (λ k. by.holds k ∙ sym (behind k))
        (x.reaches.same ∙ ap (sync s.groups (shown_program p)) (sym (append-nil (taken x.reaches.events)) ∙ ap (λ (ts : List Event). taken x.reaches.events ++ ts) (sym (none_taken (out shard)))))
        (serves_write_nothing s.groups (shown_program p) (out shard) x.machine ∙ x.reaches.wrote)

    stands : StandsFor b (control_of_machine m)
    unfolding m
    stands = subst (StandsFor b) (sym (all_control s.groups (shown_program p) (serve_events (out shard)) x.machine))
        (subst (λ (hs : List Answered). StandsFor b (after_all_on (shown_program p) hs c)) by.answers
        (subst (λ (rs : List Reply). StandsFor b (after_all_on (shown_program p) (serves a rs) c)) replies
        (subst (λ (u : Program). StandsFor b (after_all_on (shown_program u) (serves a rs) c)) x.program served.stands)))

    -- a batch of another shard is of other keys
    others : (t : ℕ) (i : Item) → nat_eq shard t ≡ false → Asks a t c i → (j : Item) → Contains (out shard) j → bytes_eq j.key i.key ≡ false
    others t i y h j z = by_cases (bytes_eq j.key i.key)
        (λ e. absurd (true_false (sym (eq-eqb shard t (sym (x.asks shard j z).shard ∙ (ap (shard_of a.settings) (key_is j.key i.key e) ∙ h.shard))) ∙ y)))
        (λ e. e)

    still : (t : ℕ) (i : Item) → nat_eq shard t ≡ false → Asks a t c i → Asks b t (control_of_machine m) i
    unfolding m
    still t i y h = asks_too (control_of_machine m) t i (record {
      shard = h.shard;
      asks = subst (λ (part : Part). OwnerAsks i (control_of part).owner)
          (sym (others_stay s.groups (shown_program p) i.key (out shard) x.machine (all_of (λ (j : Item). bytes_eq j.key i.key ≡ false) (out shard) (others t i y h)))) h.asks;
    })

    pub back_on : Refines s p b content' out' read written
    back_on = record {
      program = same.program ∙ x.program;
      settings = same.settings ∙ x.settings;
      machine = m;
      reaches = reaches;
      stands = stands;
      names = names_now out out' shard [] now a b inside outs x.names;
      keys = λ t i h. by_cases (nat_eq shard t)
          (λ y. absurd (none_in i (subst (λ (is : List Item). Contains is i) (out_here out out' shard [] now t y) h)))
          (λ y. key_stays s p a b content out read written x stay t i (subst (λ (is : List Item). Contains is i) (out_there out out' shard [] now t y) h));
      asks = λ t i h. by_cases (nat_eq shard t)
          (λ y. absurd (none_in i (subst (λ (is : List Item). Contains is i) (out_here out out' shard [] now t y) h)))
          (λ y. still t i y (x.asks t i (subst (λ (is : List Item). Contains is i) (out_there out out' shard [] now t y) h)));
    }

    -- and less is left to do
    pub back_falls : 0 < length (out shard) → left_to_do b content' < left_to_do a content
    unfolding m
    back_falls some = less_left a b content content' (control_of_machine m) same stands
        (let now : work_in b content' ≡ work (shown_program p) (after_all s.groups (shown_program p) (serve_events (out shard)) x.machine) =
        work_now s p b content' (after_all s.groups (shown_program p) (serve_events (out shard)) x.machine) (same.program ∙ x.program) stands (λ k. by.holds k ∙ sym (behind k)) in
        let was : work_in a content ≡ work (shown_program p) x.machine = work_now s p a content x.machine x.program x.stands x.reaches.states in
        let served : work (shown_program p) (after_all s.groups (shown_program p) (serve_events (out shard)) x.machine) + length (out shard) ≡ work (shown_program p) x.machine =
        falls_served s p content read written x.machine x.reaches (out shard) run in
        omega arith)
