-- At rest no work is left.
use Rattle.std.proofs.Common.{◌≡◌, ◌+◌, List, [], ◌++◌, length, Option, None, ap, ap₂, ◌∙◌, arith}
use Rattle.ax_text.specs.Programs.{Program}
use Rattle.ax_machine.specs.KeySync.{Said}
use Rattle.ax_execution.specs.Groups.{weight}
use Rattle.ax_execution.specs.Sums.{total}
use Rattle.ax_execution.specs.Contexts.{Context, Waiting}
use Rattle.ax_execution.specs.Rest.{part_work}
use Rattle.ax_execution.specs.Machine.{Closed, Machine, work, IsAtRest}
use Rattle.ax_execution.proofs.Stuck.{zeros}
use Rattle.ax_execution.proofs.Work.{weight_append}

free_work : (p : Program) (s : Said) → part_work p (record { owner = None; waiting = []; said = s }) ≡ 0
free_work p s = let a : weight (s.groups ++ []) ≡ weight s.groups + weight [] = weight_append s.groups [] in omega arith

pub rest_work : (p : Program) (m : Machine) → IsAtRest m → work p m ≡ 0
rest_work p m h =
    let a : total m.keys (λ k. part_work p (m.parts k)) ≡ 0 = zeros (λ k. part_work p (m.parts k)) m.keys (λ k.
    ap₂ (λ (o : Option Context) (is : List Waiting). part_work p (record { owner = o; waiting = is; said = (m.parts k).said })) (h.owners k) (h.waiting k) ∙ free_work p (m.parts k).said) in
    let b : length m.unsent ≡ 0 = ap (λ (cs : List Closed). length cs) h.unsent in
    omega arith
