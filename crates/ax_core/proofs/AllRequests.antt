-- All queues and batches together have just the requests that may be served.
use Rattle.std.proofs.Common.{◌≡◌, ◌<◌, ℕ, zero, suc, nat_eq, false, refl, subst, arith, Contains, eqb-true, inl, inr}
use Rattle.std.proofs.lemmas.List.Elements.{Contains-append_left, Contains-append_right, Contains-append_cases}
use Rattle.ax_execution.specs.MachineControls.{MachineControl}
use Rattle.ax_execution.proofs.Upto.{by_cases}
use Rattle.ax_core.specs.declared.controller.Controller.{Controller}
use Rattle.ax_core.specs.Flow.{shard_of, IsFlow}
use Rattle.ax_core.specs.Sound.{InRange, StandsFor}
use Rattle.ax_core.specs.Order.{Asked}
use Rattle.ax_core.specs.Requests.{requests_in, requests_below, all_requests, IsUnserved, IsToServe}
use Rattle.ax_core.proofs.CallFlows.{shard_inside}
use Rattle.ax_core.proofs.Unserved.{unserved, stands_there}

module _ (a : Controller) (r : Asked) where
  -- what stands in a shard stands below each greater number
  below : (n shard : ℕ) → shard < n → Contains (requests_in a shard) r → Contains (requests_below a n) r
  below zero shard l c = absurd (omega (arith, l))
  below (suc n) shard l c = by_cases (nat_eq shard n)
      (λ e. Contains-append_left (requests_in a n) (requests_below a n) r (subst (λ (s : ℕ). Contains (requests_in a s) r) (eqb-true shard n e) c))
      (λ e. Contains-append_right (requests_in a n) (requests_below a n) r (below n shard (smaller e) c))
    where
      smaller : nat_eq shard n ≡ false → shard < n
      smaller e = grind (arith, l, e)

module _ (a : Controller) (m : MachineControl) (flow : IsFlow a) (x : StandsFor a m) (r : Asked) where
  served : (shard : ℕ) → IsUnserved a m shard r → IsToServe a m r
  served shard u = record { key = u.key; owner = u.owner; may = u.may }

  served_below : (n : ℕ) → Contains (requests_below a n) r → IsToServe a m r
  served_below zero c = absurd (omega (arith, c.1))
  served_below (suc n) c = elim (Contains-append_cases (requests_in a n) (requests_below a n) r c) [
    | inl d ↦ served n (unserved a m flow x n r d)
    | inr d ↦ served_below n d
  ]

  pub all_to_serve : Contains (all_requests a) r → IsToServe a m r
  all_to_serve c = served_below a.settings.shards c

pub to_serve_all : (a : Controller) (m : MachineControl) → InRange a.settings → IsFlow a → StandsFor a m → (r : Asked) → IsToServe a m r → Contains (all_requests a) r
to_serve_all a m ranges flow x r it = below a r a.settings.shards (shard_of a.settings it.key) (shard_inside a.settings it.key ranges)
    (stands_there a m flow x (shard_of a.settings it.key) r (record { key = it.key; shard = refl; owner = it.owner; may = it.may }))
