-- What the shards hold: at the start, and behind a batch.
use Rattle.std.proofs.Common.{◌≡◌, ◌≢◌, ℕ, List, [], ◌∷◌, true, false, nat_eq, refl, sym, ap, ◌∙◌, subst, eqb-true, arith}
use Rattle.std.proofs.lemmas.Bool.{cond-true, cond-false, eq-eqb}
use Rattle.std.specs.Str.{bytes_eq}
use Rattle.std.specs.List.{Contains, AllByRecursion}
use Rattle.ax_text.specs.Cells.{cells_after}
use Rattle.ax_text.specs.Programs.{untouched}
use Rattle.ax_machine.specs.Entries.{Key}
use Rattle.ax_machine.proofs.FiringLemmas.{key_is}
use Rattle.ax_lang.specs.declared.program.Program.{Program}
use Rattle.ax_lang.specs.Shown.{shown_program, shown_kinds}
use Rattle.ax_buffer.specs.declared.items.Item.{Item}
use Rattle.ax_execution.specs.Origins.{first}
use Rattle.ax_execution.specs.Machine.{machine_from}
use Rattle.ax_execution.specs.MachineControls.{at_origin}
use Rattle.ax_execution.proofs.Upto.{by_cases}
use Rattle.ax_core.specs.declared.settings.Settings.{Settings}
use Rattle.ax_core.specs.declared.controller.Controller.{Controller}
use Rattle.ax_core.specs.Flow.{shard_of, out_of}
use Rattle.ax_core.specs.Sound.{StandsFor}
use Rattle.ax_core.specs.Events.{names_in}
use Rattle.ax_task.specs.Serving.{Content, content_with, content_after}
use Rattle.ax_task.specs.Refined.{content_over, Refines}

true_false : true ≡ false → ⊥
true_false e = cc e

-- a batch looks at each key by itself
after_at : (is : List Item) (c d : Content) (k : Key) → c k ≡ d k → content_after is c k ≡ content_after is d k
after_at [] c d k e = e
after_at (i ∷ is) c d k e = after_at is (content_with i c) (content_with i d) k (by_cases (bytes_eq i.key k)
    (λ x.
    let same : c i.key ≡ d i.key = ap c (key_is i.key k x) ∙ (e ∙ ap d (sym (key_is i.key k x))) in
    cond-true (bytes_eq i.key k) (cells_after i.request (c i.key)) (c k) x ∙ (ap (cells_after i.request) same ∙ sym (cond-true (bytes_eq i.key k) (cells_after i.request (d i.key)) (d k) x)))
    (λ x. cond-false (bytes_eq i.key k) (cells_after i.request (c i.key)) (c k) x ∙ (e ∙ sym (cond-false (bytes_eq i.key k) (cells_after i.request (d i.key)) (d k) x))))

-- and leaves those alone of which it has no request
after_none : (is : List Item) (c : Content) (k : Key) → AllByRecursion (λ (i : Item). bytes_eq i.key k ≡ false) is → content_after is c k ≡ c k
after_none [] c k h = refl
after_none (i ∷ is) c k h = after_none is (content_with i c) k h.1 ∙ cond-false (bytes_eq i.key k) (cells_after i.request (c i.key)) (c k) h.0

-- one shard's batch is served
pub content_served : (s : Settings) (held held' : ℕ → Content) (shard : ℕ) (batch : List Item) → AllByRecursion (λ (i : Item). shard_of s i.key ≡ shard) batch
    → held' shard ≡ content_after batch (held shard) → ((t : ℕ) → t ≢ shard → held' t ≡ held t) → (k : Key) → content_over s held' k ≡ content_after batch (content_over s held) k
content_served s held held' shard batch placed here others k = by_cases (nat_eq shard (shard_of s k))
    (λ x.
    let e : shard ≡ shard_of s k = eqb-true shard (shard_of s k) x in
    ap (λ (t : ℕ). held' t k) (sym e) ∙ (ap (λ (c : Content). c k) here ∙ after_at batch (held shard) (content_over s held) k (ap (λ (t : ℕ). held t k) e)))
    (λ x.
    let apart : shard_of s k ≢ shard = λ e. true_false (sym (eq-eqb shard (shard_of s k) (sym e)) ∙ x) in
    ap (λ (c : Content). c k) (others (shard_of s k) apart) ∙ sym (after_none batch (content_over s held) k (all_apart apart batch placed)))
  where
    all_apart : shard_of s k ≢ shard → (is : List Item) → AllByRecursion (λ (i : Item). shard_of s i.key ≡ shard) is → AllByRecursion (λ (i : Item). bytes_eq i.key k ≡ false) is
    all_apart apart [] h = tt
    all_apart apart (i ∷ is) h = (
      by_cases (bytes_eq i.key k) (λ x. absurd (apart (ap (shard_of s) (sym (key_is i.key k x)) ∙ h.0))) (λ x. x),
      all_apart apart is h.1,
    )

-- before the first event
module _ (s : Settings) (p : Program) (a : Controller) (program : a.program ≡ p) (settings : a.settings ≡ s) (content : Content) (out : ℕ → List Item) where
  pub refines_first : StandsFor a (at_origin (first (shown_program p))) → ((shard : ℕ) → out_of a shard ≡ []) → ((shard : ℕ) → out shard ≡ []) → ((k : Key) → content k ≡ untouched (shown_kinds p)) → Refines s p a content out [] []
  refines_first stands none home blank = record {
    program = program;
    settings = settings;
    machine = machine_from (first (shown_program p));
    reaches = record { events = []; run = tt; there = refl; states = λ k. sym (blank k); same = refl; wrote = refl };
    stands = stands;
    names = λ shard. none shard ∙ sym (names_none shard);
    keys = λ shard i h. absurd (nothing i (subst (λ (is : List Item). Contains is i) (home shard) h));
    asks = λ shard i h. absurd (nothing i (subst (λ (is : List Item). Contains is i) (home shard) h));
  }
    where
      names_none : (shard : ℕ) → names_in (out shard) ≡ []
      names_none shard = ap names_in (home shard)

      nothing : (i : Item) → Contains [] i → ⊥
      nothing i h = omega (arith, h.1)
