use Rattle.std.proofs.Common.{◌≡◌, ◌∙◌, ℕ, ℤ, List, [], ◌∷◌, length, ◌↔◌, refl, sym, subst, to_z, of_z, w64, arith}
use Rattle.std.proofs.Math.Facts.{to_z-of_z}
use Rattle.std.specs.List.{Contains}
use Rattle.ax_text.specs.Times.{HasDue}
use Rattle.std.specs.List.Sorted.{IsStrictlySortedBy}
use Rattle.ax_keys.specs.Keys.{key_cmp}
use Rattle.ax_machine.specs.Entries.{Key}
use Rattle.ax_machine.specs.Firings.{most_firings}
use Rattle.ax_time.specs.Timers.{times_of}
use Rattle.ax_plain.specs.declared.agenda.Due.{Due}
use Rattle.ax_plain.specs.Agenda.{Lists}
use Rattle.ax_plain.proofs.AgendaLemmas.{starts, goes_on, yet}
use Rattle.std.proofs.lemmas.Map.Keys.{sorted_tail}
use Rattle.ax_plain.proofs.agenda.Agenda.begin.Goals as goal

no_key : (keys : List Key) → 0 ≡ length keys → keys ≡ []
no_key [] e = refl
no_key (k ∷ ks) e = absurd (omega arith)

pub loop-key-init : goal.loop-key-init
loop-key-init c =
    let keys : c.into_iter-key-iterator.result.rest.items ≡ c.in_ok-keys.keys = c.into_iter-key-iterator.ensures.into_iter_gives.0 ∙ c.into_vec-key-items.ensures in
    record {
      rising = subst (IsStrictlySortedBy key_cmp) (sym keys) c.in_ok-keys.ensures.rising;
      lists = subst (λ (es : List (Due × ℕ)). Lists (to_z w64 (of_z w64 c.args.w)) (yet c.into_iter-key-iterator.result.rest.items) (times_of c.args.timers.now) es) (sym c.new.ensures.empty)
          (starts (to_z w64 (of_z w64 c.args.w)) (times_of c.args.timers.now) c.into_iter-key-iterator.result.rest.items (subst (λ (keys : List Key). (q : Key) → Contains keys q ↔ HasDue (to_z w64 (of_z w64 c.args.w)) (times_of c.args.timers.now q)) (sym keys) c.in_ok-keys.ensures.due));
    }

pub loop-key-preserved : goal.loop-key-preserved
loop-key-preserved c =
    let at = c.in-Some.ensures.steps in
    let rises : IsStrictlySortedBy key_cmp (c.in-Some.key ∷ c.next.new.self.rest.items) = subst (IsStrictlySortedBy key_cmp) at.0 c.loop-key.invariant.rising in
    record {
      rising = sorted_tail key_cmp c.in-Some.key c.next.new.self.rest.items rises;
      lists = goes_on (to_z w64 (of_z w64 c.args.w)) (times_of c.args.timers.now) c.in-Some.key c.next.new.self.rest.items c.loop-key.agenda c.put.new.self c.least_of-least.result rises
          (subst (λ (keys : List Key). Lists (to_z w64 (of_z w64 c.args.w)) (yet keys) (times_of c.args.timers.now) c.loop-key.agenda) at.0 c.loop-key.invariant.lists)
          c.least_of-least.ensures.least c.in_ok-put.ensures.ok;
    }

pub returns : goal.returns
returns c =
    let mark : to_z w64 (of_z w64 c.args.w) ≡ c.args.w = to_z-of_z c.ranges.w in
    let none : c.loop-key.key-iterator.rest.items ≡ [] = no_key c.loop-key.key-iterator.rest.items (sym c.in-None.ensures.steps.0 ∙ c.loop-key.key-iterator.rest.ok.0) in
    subst (λ (w : ℤ). Lists w (λ k. most_firings) (times_of c.args.timers.now) c.loop-key.agenda) mark
    (subst (λ (keys : List Key). Lists (to_z w64 (of_z w64 c.args.w)) (yet keys) (times_of c.args.timers.now) c.loop-key.agenda) none c.loop-key.invariant.lists)
