use Rattle.std.proofs.Common.{rules, ◌≡◌, ◌∙◌, ◌≤◌, ◌<◌, ◌+◌, ℕ, List, OnOk, Result, Ok, Err, Some, None, to_z, of_z, w64, int_le, true, false, cond, sym, ap, subst}
use Rattle.std.specs.BTreeMap.{is_at}
use Rattle.ax_plain.specs.declared.agenda.Due.{Due}
use Rattle.ax_plain.specs.Agenda.{order, firings_at, firings_left}
use Rattle.ax_plain.proofs.AgendaLemmas.{stays_off, came, fires, no_time, none_left, too_late, timer_at, sum_after, some_behind, some_same, some_left}
use Rattle.ax_plain.proofs.agenda.Agenda.put.Goals as goal
use Rattle.ax_plain.proofs.agenda.Agenda.put.Goals.{in-Ok, in-Err, then-left-eq0-via-then-left-eq0, then-left-eq0-via-else-left-eq0+then-time-w}

on_ok : {T E P : Type 0} (r : Result T E) → P → OnOk r P
on_ok (Ok x) p = p
on_ok (Err e) p = tt

pub returns-in_default-clause-ok : goal.returns-in_default-clause-ok
returns-in_default-clause-ok c =
    let none : c.args.least ≡ None = search rules in
    stays_off c.args.w c.args.key c.args.least c.args.left c.args.self.now (ap (timer_at c.args.w c.args.left c.args.key) none ∙ no_time c.args.w c.args.left c.args.key)

pub returns-then-left-eq0-clause-ok : goal.returns-then-left-eq0-clause-ok
returns-then-left-eq0-clause-ok c = stays_off c.args.w c.args.key c.args.least c.args.left c.args.self.now
    (elim c.then-left-eq0.branch [
      | then-left-eq0-via-then-left-eq0 w ↦
          let none : c.args.left ≡ 0 = search rules in
          ap (λ n. timer_at c.args.w n c.args.key c.args.least) none ∙ none_left c.args.w c.args.key c.args.least
      | then-left-eq0-via-else-left-eq0+then-time-w w ↦
          let time : to_z w64 (of_z w64 c.in-Some.time) ≡ c.in-Some.time = search rules in
          let mark : to_z w64 (of_z w64 c.args.w) ≡ c.args.w = search rules in
          let seen : int_le (to_z w64 (of_z w64 c.in-Some.time)) (to_z w64 (of_z w64 c.args.w)) ≡ false = search rules in
          let late : int_le c.in-Some.time c.args.w ≡ false = sym (λ i. int_le (time i) (mark i)) ∙ seen in
          ap (timer_at c.args.w c.args.left c.args.key) c.in-Some.is ∙ too_late c.args.w c.args.left c.args.key c.in-Some.time late
    ])

pub returns-clause-ok : goal.returns-clause-ok
returns-clause-ok c =
    let time : to_z w64 (of_z w64 c.in-Some.time) ≡ c.in-Some.time = search rules in
    let mark : to_z w64 (of_z w64 c.args.w) ≡ c.args.w = search rules in
    let seen : int_le (to_z w64 (of_z w64 c.in-Some.time)) (to_z w64 (of_z w64 c.args.w)) ≡ true = search rules in
    let early : int_le c.in-Some.time c.args.w ≡ true = sym (λ i. int_le (time i) (mark i)) ∙ seen in
    let some : 0 < c.args.left = search rules in
    elim c.match-insert.branch [
      | in-Ok w ↦ on_ok c.match-insert.result (came c.args.w (record { time = c.in-Some.time; key = c.args.key }) c.args.least c.args.left c.args.self.now c.insert.new.self.entries
          (ap (timer_at c.args.w c.args.left c.args.key) c.in-Some.is ∙ fires c.args.w c.args.left c.args.key c.in-Some.time some early)
          (λ q. w.in-Ok.ensures.updates.0 q ∙ (λ i. cond (is_at (order (record { time = time i; key = c.args.key })) q) (Some c.args.left) (firings_at (c.self.view_is i) q))))
      | in-Err w ↦ search rules
    ]

pub returns-clause-count : goal.returns-clause-count
returns-clause-count c = elim c.match-insert.branch [
  | in-Ok w ↦ on_ok c.match-insert.result (subst (λ (es : List (Due × ℕ)). firings_left c.insert.new.self.entries ≤ firings_left es + c.args.left) c.self.view_is
      (sum_after c.self.inside.entries.entries c.insert.new.self.entries _ c.args.left w.in-Ok.ensures.was_ordered w.in-Ok.ensures.entries))
  | in-Err w ↦ search rules
]

pub invariant_of-self : goal.invariant_of-self
invariant_of-self c =
    let some : 0 < c.args.left = search rules in
    elim c.match-insert.branch [
      | in-Ok w ↦ some_behind c.self.inside.entries.entries c.insert.new.self.entries _ (Some c.args.left) c.self.invariant (λ n e. some_left c.args.left n some e) w.in-Ok.ensures.updates.0
      | in-Err w ↦ some_same c.self.inside.entries.entries c.insert.new.self.entries w.in-Err.ensures.err c.self.invariant
    ]
