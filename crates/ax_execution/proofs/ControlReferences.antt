-- A context of a control is in flight exactly while it has references, and it is given up where a callback leaves none.
use Rattle.std.proofs.Common.{◌≡◌, ℕ, ◌+◌, ◌≤◌, ◌<◌, nat_eq, true, false, Option, Some, None, refl, ap, arith, subst}
use Rattle.std.proofs.lemmas.Bool.{cond-true}
use Rattle.std.specs.Str.{bytes_eq}
use Rattle.std.specs.List.{list_any}
use Rattle.ax_text.specs.declared.vocabulary.Answer.{Answer}
use Rattle.ax_text.specs.Programs.{Program}
use Rattle.ax_machine.specs.Entries.{Key}
use Rattle.ax_execution.specs.Accepted.{AreAccepted}
use Rattle.ax_execution.specs.Contexts.{Context}
use Rattle.ax_execution.specs.Counts.{references, owner_numbered, rows_numbered, owner_references, one_if_gone, made_as, owns, counted}
use Rattle.ax_execution.specs.Machine.{Happening, Admit, Close, Fire, Start, Serve, Deliver, Send, Rules}
use Rattle.ax_execution.specs.Allowed.{StageUnbegun, StageHas}
use Rattle.ax_execution.specs.MachineControls.{MachineControl, happens_on, outcome_on, control_numbered, number_count_on, control_references, reference_count_on}
use Rattle.ax_execution.specs.ControlsAllowed.{AllowedOn, HoldBusy}
use Rattle.ax_execution.specs.ControlChanges.{calls_on}
use Rattle.ax_execution.specs.ControlOrder.{OwnerGoesOn, IsInOrder, OwnerIsSound, AreSound}
use Rattle.ax_execution.proofs.Handlers.{Good, handles}
use Rattle.ax_execution.proofs.KeySums.{in_total}
use Rattle.ax_execution.proofs.Outside.{owner_referred}
use Rattle.ax_execution.proofs.References.{total_at_most, total_none, unreferred, some_if, owned_one, gone_is}
use Rattle.ax_execution.proofs.ControlChanges.{owned_known}
use Rattle.ax_execution.proofs.ControlCounts.{numbers_of_change}
use Rattle.ax_execution.proofs.ControlOrder.{goes_to, event_in_order}
use Rattle.ax_execution.proofs.ControlSound.{owner_good, event_sound}

false_true : false ≡ true → ⊥
false_true e = cc e

pub none_referred_on : (n : ℕ) (m : MachineControl) → number_count_on n m ≡ 0 → reference_count_on n m ≡ 0
none_referred_on n m h = total_none (λ k. control_numbered n (m.controls k)) (λ k. control_references n (m.controls k)) m.keys (λ k. unreferred n (m.controls k).owner (rows_numbered n (m.controls k).waiting)) h

has_references : (n : ℕ) (o : Option Context) → ((c : Context) → o ≡ Some c → 0 < references c.stage) → owner_numbered n o ≤ owner_references n o
has_references n None h = omega arith
has_references n (Some c) h = some_if (nat_eq c.number n) (references c.stage) (h c refl)

none_made : (n : ℕ) (m : MachineControl) (e : Happening) → calls_on n e m ≡ true → made_as n e ≡ 0
none_made n m (Admit i k time values) h = absurd (false_true h)
none_made n m (Close c) h = refl
none_made n m (Fire i k) h = absurd (false_true h)
none_made n m (Start k) h = refl
none_made n m (Serve k slot) h = refl
none_made n m (Deliver k slot) h = refl
none_made n m Send h = refl

module _ (r : Rules) (p : Program) (accepted : AreAccepted p) (m : MachineControl) (o : IsInOrder r m) (sound : AreSound m) where
  pub owner_has : (k : Key) (c : Context) → (m.controls k).owner ≡ Some c → 0 < references c.stage
  owner_has k c e = owner_referred p Good (handles p accepted) c (owner_good (Some c) (subst OwnerIsSound e (sound k))) (goes_to (Some c) (subst OwnerGoesOn e (o.owners k)))

  all_referred : (n : ℕ) → number_count_on n m ≤ reference_count_on n m
  all_referred n = total_at_most (λ k. control_numbered n (m.controls k)) (λ k. control_references n (m.controls k)) m.keys
      (λ k. omega (arith, has_references n (m.controls k).owner (owner_has k)))

  pub none_numbered_on : (n : ℕ) → reference_count_on n m ≡ 0 → number_count_on n m ≡ 0
  none_numbered_on n h = omega (arith, all_referred n, h)

  busy : HoldBusy m.keys m
  busy = record { rise = o.keys.rise; others = o.keys.others }

  counts_owner : (n : ℕ) (k : Key) → list_any (bytes_eq k) m.keys ≡ true → owns n (m.controls k).owner ≡ true → 1 ≤ number_count_on n m
  counts_owner n k x h =
      let a : control_numbered n (m.controls k) ≤ number_count_on n m = in_total m.keys (λ j. control_numbered n (m.controls j)) k x in
      let b : owner_numbered n (m.controls k).owner ≡ 1 = owned_one n (m.controls k).owner h in
      omega arith

  called_counts : (n : ℕ) (e : Happening) → AllowedOn r e m → calls_on n e m ≡ true → 1 ≤ number_count_on n m
  called_counts n (Admit i k time values) a h = absurd (false_true h)
  called_counts n (Close c) a h = absurd (false_true h)
  called_counts n (Fire i k) a h = absurd (false_true h)
  called_counts n (Start k) a h = counts_owner n k (owned_known m busy StageUnbegun k a.1) h
  called_counts n (Serve k slot) a h = absurd (false_true h)
  called_counts n (Deliver k slot) a h = counts_owner n k (owned_known m busy (StageHas slot) k a.1) h
  called_counts n Send a h = absurd (false_true h)

  ends : (n : ℕ) (e : Happening) (a : Option Answer) → AllowedOn r e m → calls_on n e m ≡ true → number_count_on n (happens_on p e a m) + one_if_gone (outcome_on p e m).gone ≡ number_count_on n m
  ends n e a allowed h =
      let c : number_count_on n (happens_on p e a m) + counted (calls_on n e m) (one_if_gone (outcome_on p e m).gone) ≡ number_count_on n m + made_as n e = numbers_of_change r p m o sound n e a allowed in
      let z : made_as n e ≡ 0 = none_made n m e h in
      let d : counted (calls_on n e m) (one_if_gone (outcome_on p e m).gone) ≡ one_if_gone (outcome_on p e m).gone = cond-true (calls_on n e m) (one_if_gone (outcome_on p e m).gone) 0 h in
      omega arith

  -- where it is given up no reference is left
  pub gone_unreferred_on : (n : ℕ) (e : Happening) (a : Option Answer) → AllowedOn r e m → number_count_on n m ≤ 1 → calls_on n e m ≡ true → (outcome_on p e m).gone ≡ true → reference_count_on n (happens_on p e a m) ≡ 0
  gone_unreferred_on n e a allowed once h gone = none_referred_on n (happens_on p e a m)
      (let b : number_count_on n (happens_on p e a m) + one_if_gone (outcome_on p e m).gone ≡ number_count_on n m = ends n e a allowed h in
      let c : one_if_gone (outcome_on p e m).gone ≡ 1 = ap one_if_gone gone in
      omega arith)

-- and where none is left it is given up
pub unreferred_gone_on : (r : Rules) (p : Program) (accepted : AreAccepted p) (m : MachineControl) (o : IsInOrder r m) (sound : AreSound m) (n : ℕ) (e : Happening) (a : Option Answer) → AllowedOn r e m
    → calls_on n e m ≡ true → reference_count_on n (happens_on p e a m) ≡ 0 → (outcome_on p e m).gone ≡ true
unreferred_gone_on r p accepted m o sound n e a allowed h none = gone_is (outcome_on p e m).gone
    (let z : number_count_on n (happens_on p e a m) ≡ 0 = none_numbered_on r p accepted (happens_on p e a m) (event_in_order r p m o e a allowed) (event_sound m sound r p accepted e a allowed) n none in
    let b : number_count_on n (happens_on p e a m) + one_if_gone (outcome_on p e m).gone ≡ number_count_on n m = ends r p accepted m o sound n e a allowed h in
    let c : 1 ≤ number_count_on n m = called_counts r p accepted m o sound n e allowed h in
    omega arith)
