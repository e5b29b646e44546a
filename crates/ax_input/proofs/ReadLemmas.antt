-- The event that a line says is one that a line spells.
use Rattle.std.proofs.Common.{◌≡◌, ℕ, ◌+◌, ◌≤◌, ℤ, List, [], ◌∷◌, length, refl, subst, arith, Bool, true, false, not, ◌&&◌, nat_le, ◌==◌, Option, Some, None, if◌then◌else◌}
use Rattle.std.specs.List.{list_all}
use Rattle.std.proofs.lemmas.Bool.{and_from, le-leb, eqb-true}
use lib.Chars.{codes}
use Rattle.ax_base.specs.Numbers.{number_of, is_number}
use Rattle.ax_base.specs.Words.{words_of}
use Rattle.ax_base.proofs.NumberLemmas.{number_fits}
use Rattle.ax_keys.specs.Keys.{is_key}
use Rattle.ax_syntax.specs.Words.{Word, same_word}
use Rattle.ax_machine.specs.Events.{Event, Barrier}
use Rattle.ax_input.specs.Spellings.{onto_some, numbers_of}
use Rattle.ax_input.specs.Events.{EventRead, Good, Bad, row_with, row_by, only_word, mark_with, mark_by, is_id, barrier_with, barrier_by, event_by, event_of, is_event}

-- an event that was read, if any, is one that a line spells
IsEventIf : EventRead → Type 0
IsEventIf (Good e) = is_event e ≡ true
IsEventIf (Bad kind) = Unit {0}

-- a number that was read, if any, has 64 bits
FitsIf : Option ℤ → Type 0
FitsIf None = Unit {0}
FitsIf (Some n) = is_number n ≡ true

word_fits : (w : Word) → FitsIf (number_of w)
unfolding FitsIf
word_fits w = cases (number_of w) refl where
  cases : (o : Option ℤ) → number_of w ≡ o → FitsIf o
  cases None e = tt
  cases (Some n) e = number_fits w n e

-- so have as many as there are words
AllFit : ℕ → Option (List ℤ) → Type 0
AllFit n None = Unit {0}
AllFit n (Some ns) = (length ns ≡ n) × (list_all is_number ns ≡ true)

onto_fits : (n : ℕ) (o : Option ℤ) (os : Option (List ℤ)) → FitsIf o → AllFit n os → AllFit (n + 1) (onto_some o os)
unfolding FitsIf AllFit
onto_fits n (Some m) (Some ns) h g = (omega (arith, g.0), and_from (is_number m) (list_all is_number ns) h g.1)
onto_fits n (Some m) None h g = tt
onto_fits n None os h g = tt

words_fit : (ws : List Word) → AllFit (length ws) (numbers_of ws)
unfolding AllFit
words_fit [] = (refl, refl)
words_fit (w ∷ ws) = subst (λ (n : ℕ). AllFit n (onto_some (number_of w) (numbers_of ws))) (omega arith) (onto_fits (length ws) (number_of w) (numbers_of ws) (word_fits w) (words_fit ws))

row_with_fits : (n : ℕ) (key : Word) (time : Option ℤ) (values : Option (List ℤ)) → n ≤ 16 → is_key key ≡ true → FitsIf time → AllFit n values → IsEventIf (row_with key time values)
unfolding IsEventIf FitsIf AllFit
row_with_fits n key (Some time) (Some values) few k h g =
    let long : length values ≡ n = g.0 in
    and_from (is_key key && is_number time) (nat_le (length values) 16 && list_all is_number values) (and_from (is_key key) (is_number time) k h)
    (and_from (nat_le (length values) 16) (list_all is_number values) (le-leb (length values) 16 (omega arith)) g.1)
row_with_fits n key (Some time) None few k h g = tt
row_with_fits n key None values few k h g = tt

row_fits : (fields : ℕ) (ws : List Word) → fields ≤ 16 → IsEventIf (row_by fields ws)
unfolding IsEventIf
row_fits fields [] few = tt
row_fits fields (key ∷ []) few = tt
row_fits fields (key ∷ time ∷ values) few = cases (length values == fields) (is_key key) refl refl where
  cases : (b k : Bool) → (length values == fields) ≡ b → is_key key ≡ k
      → IsEventIf (if not b then Bad 4 else if not k then Bad 2 else row_with key (number_of time) (numbers_of values))
  cases false k e f = tt
  cases true false e f = tt
  cases true true e f =
      let long : length values ≡ fields = eqb-true (length values) fields e in
      row_with_fits (length values) key (number_of time) (numbers_of values) (omega arith) f (word_fits time) (words_fit values)

mark_with_fits : (time : Option ℤ) → FitsIf time → IsEventIf (mark_with time)
unfolding IsEventIf FitsIf
mark_with_fits None h = tt
mark_with_fits (Some time) h = h

mark_fits : (w : Option Word) → IsEventIf (mark_by w)
unfolding IsEventIf
mark_fits None = tt
mark_fits (Some w) = mark_with_fits (number_of w) (word_fits w)

barrier_with_fits : (id : Option ℤ) → FitsIf id → IsEventIf (barrier_with id)
unfolding IsEventIf FitsIf
barrier_with_fits None h = tt
barrier_with_fits (Some id) h = cases (is_id id) refl where
  cases : (b : Bool) → is_id id ≡ b → IsEventIf (if b then Good (Barrier id) else Bad 3)
  cases true e = and_from (is_number id) (is_id id) h e
  cases false e = tt

barrier_fits : (w : Option Word) → IsEventIf (barrier_by w)
unfolding IsEventIf
barrier_fits None = tt
barrier_fits (Some w) = barrier_with_fits (number_of w) (word_fits w)

if_fits : (b : Bool) (x y : EventRead) → IsEventIf x → IsEventIf y → IsEventIf (if b then x else y)
if_fits true x y h g = h
if_fits false x y h g = g

by_fits : (fields : ℕ) (ws : List Word) → fields ≤ 16 → IsEventIf (event_by fields ws)
unfolding IsEventIf
by_fits fields [] few = tt
by_fits fields (w ∷ ws) few =
    if_fits (same_word w (codes "r")) (row_by fields ws) _ (row_fits fields ws few)
    (if_fits (same_word w (codes "w")) (mark_by (only_word ws)) _ (mark_fits (only_word ws))
    (if_fits (same_word w (codes "b")) (barrier_by (only_word ws)) (Bad 1) (barrier_fits (only_word ws)) tt))

-- where a row has at most 16 values, what a line says is an event that a line spells
pub read_fits : (fields : ℕ) (text : List ℕ) (e : Event) → fields ≤ 16 → event_of fields text ≡ Good e → is_event e ≡ true
unfolding event_of IsEventIf
read_fits fields text e few h = subst IsEventIf h (by_fits fields (words_of text) few)
