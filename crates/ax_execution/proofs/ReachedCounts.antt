-- An epoch of a control that is reached is finished exactly where its counts are 0.
use Rattle.std.proofs.Common.{◌≡◌, ℕ, ◌+◌, ◌≤◌, ◌<◌, nat_lt, List, [], ◌∷◌, length, Option, Some, None, refl, sym, ap₂, arith, subst}
use Rattle.std.proofs.lemmas.Bool.{ltb-true, ltb-false}
use Rattle.std.specs.Str.{bytes_eq}
use Rattle.std.specs.List.{list_any}
use Rattle.ax_text.specs.declared.vocabulary.Handler.{Handler}
use Rattle.ax_text.specs.declared.vocabulary.Handler.TheVariants as handler
use Rattle.ax_machine.specs.Entries.{Key}
use Rattle.ax_execution.specs.Contexts.{Context, Waiting, Row, Mark}
use Rattle.ax_execution.specs.Machine.{Closed, Rules}
use Rattle.ax_execution.specs.Allowed.{OwnedLater, WaitLater}
use Rattle.ax_execution.specs.Counts.{one_at, row_of_epoch, owner_of_epoch}
use Rattle.ax_execution.specs.MachineControls.{MachineControl, control_of_epoch, epoch_count_on}
use Rattle.ax_execution.specs.ControlsAllowed.{IsFinishedOn}
use Rattle.ax_execution.specs.Reached.{OwnerOpen, WaitingOpen, MarkInFront, Follow, IsOrderly}
use Rattle.ax_execution.proofs.Upto.{by_cases}
use Rattle.ax_execution.proofs.KeySums.{in_total}
use Rattle.ax_execution.proofs.Stuck.{zeros}
use Rattle.ax_execution.proofs.Outside.{one_here, later, owner_none, waiting_none, waiting_later}
use Rattle.ax_execution.proofs.ReachedOrderly.{Holds, follow_length, orderly}

pub finished_counts_on : (e : ℕ) (m : MachineControl) → IsFinishedOn e m → (u : ℕ) → u ≤ e → epoch_count_on u m ≡ 0
finished_counts_on e m h u a = zeros (λ k. control_of_epoch u (m.controls k)) m.keys
    (λ k. ap₂ (λ (x y : ℕ). x + y) (owner_none e u (m.controls k).owner a (h k).0) (waiting_none e u (m.controls k).waiting a (h k).1))

front_later : (e f : ℕ) (is : List Waiting) → MarkInFront f is → WaitLater e is → e < f
front_later e f [] x y = absurd x
front_later e f (Row n d facts ∷ is) x y = absurd x
front_later e f (Mark d w more ∷ is) x y = let z : e < d = y.0 in omega (arith, x, z)

row_later : (e f : ℕ) (x : Handler) (is : List Waiting) → (x ≡ handler.Timer → MarkInFront f is) → ((u : ℕ) → u ≤ e → row_of_epoch u x f ≡ 0) → WaitLater e is → e < f
row_later e f handler.Row is front h waits = later e f (λ a. let x : one_at f f ≡ 1 = one_here f in let y : one_at f f ≡ 0 = h f a in absurd (omega arith))
row_later e f handler.Timer is front h waits = front_later e f is (front refl) waits

owner_open : (m : MachineControl) (u : ℕ) → u + length m.unsent < m.epoch → (o : Option Context) → OwnerOpen m o → OwnedLater u o
owner_open m u h None a = tt
owner_open m u h (Some c) a = let x : m.epoch ≤ c.epoch + length m.unsent = a.unsent in omega (arith, h, x)

waiting_open : (m : MachineControl) (u : ℕ) → u + length m.unsent < m.epoch → (is : List Waiting) → WaitingOpen m is → WaitLater u is
waiting_open m u h [] a = tt
waiting_open m u h (Row n f facts ∷ is) a = let x : m.epoch ≤ f + length m.unsent = a.0.unsent in (omega (arith, h, x), waiting_open m u h is a.1)
waiting_open m u h (Mark f w more ∷ is) a = let x : m.epoch ≤ f + length m.unsent = a.0.unsent in (omega (arith, h, x), waiting_open m u h is a.1)

module _ (r : Rules) (m : MachineControl) (o : IsOrderly r m) where
  owned_later : (e : ℕ) (k : Key) (x : Option Context) → (m.controls k).owner ≡ x → ((u : ℕ) → u ≤ e → owner_of_epoch u x ≡ 0) → WaitLater e (m.controls k).waiting → OwnedLater e x
  owned_later e k None a h waits = tt
  owned_later e k (Some c) a h waits = row_later e c.epoch c.job.handler (m.controls k).waiting (o.firings k c a) h waits

  pub counts_finished_on : (e : ℕ) → ((u : ℕ) → u ≤ e → epoch_count_on u m ≡ 0) → IsFinishedOn e m
  counts_finished_on e h k = by_cases (list_any (bytes_eq k) m.keys)
      (λ x. let none : (u : ℕ) → u ≤ e → control_of_epoch u (m.controls k) ≡ 0 = λ u b.
      (let y : control_of_epoch u (m.controls k) ≤ epoch_count_on u m = in_total m.keys (λ j. control_of_epoch u (m.controls j)) k x in let z : epoch_count_on u m ≡ 0 = h u b in omega arith) in
      let waits : WaitLater e (m.controls k).waiting = waiting_later e (m.controls k).waiting (λ u b. let y : control_of_epoch u (m.controls k) ≡ 0 = none u b in omega arith) in
      (owned_later e k (m.controls k).owner refl (λ u b. let y : control_of_epoch u (m.controls k) ≡ 0 = none u b in omega arith) waits, waits))
      (λ x. (subst (OwnedLater e) (sym (o.absent k x).owner) tt, subst (WaitLater e) (sym (o.absent k x).waiting) tt))

  -- an epoch whose marker was sent
  pub sent_finished : (u : ℕ) → u + length m.unsent < m.epoch → IsFinishedOn u m
  sent_finished u h k = (owner_open m u h (m.controls k).owner (o.owners k), waiting_open m u h (m.controls k).waiting (o.waiting k))

-- of the oldest epoch whose marker isn't sent its own count is enough
pub first_finished : (r : Rules) (m : MachineControl) → Holds r m → (c : Closed) (cs : List Closed) → m.unsent ≡ c ∷ cs → epoch_count_on c.epoch m ≡ 0 → IsFinishedOn c.epoch m
first_finished r m hold c cs e none = counts_finished_on r m o c.epoch (λ u a. by_cases (nat_lt u c.epoch)
    (λ x. finished_counts_on u m (sent_finished r m o u (below u (ltb-true u c.epoch x))) u (omega arith))
    (λ x. let b : c.epoch ≤ u = ltb-false u c.epoch x in let same : c.epoch ≡ u = omega (arith, a, b) in subst (λ (i : ℕ). epoch_count_on i m ≡ 0) same none))
  where
    o : IsOrderly r m
    o = orderly r m hold

    below : (u : ℕ) → u < c.epoch → u + length m.unsent < m.epoch
    below u h =
        let f : Follow hold.oldest (c ∷ cs) m.epoch = subst (λ (x : List Closed). Follow hold.oldest x m.epoch) e hold.follow in
        let x : c.epoch ≡ hold.oldest = f.0 in
        let y : hold.oldest + length m.unsent ≡ m.epoch = follow_length hold.oldest m.unsent m.epoch hold.follow in
        omega (arith, h, x, y)
