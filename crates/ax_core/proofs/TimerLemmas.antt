-- The timers of a key behind a callback.
use Rattle.std.proofs.Common.{◌≡◌, ℕ, ℤ, ◌+◌, ◌<◌, ◌≤◌, Bool, true, false, cond, List, ◌∷◌, length, drop, get_or, refl, sym, ap, ◌∙◌, subst}
use Rattle.std.proofs.lemmas.List.{drop_all, at_drop_more}
use Rattle.std.specs.Cmp.{tied_itself}
use Rattle.std.specs.Cmp.Lexicographic.{nat_list_cmp_total}
use Rattle.std.specs.Ordering.{is_eq}
use Rattle.std.specs.Str.{bytes_eq}
use Rattle.ax_text.specs.declared.vocabulary.TimerOp.{TimerOp}
use Rattle.ax_text.specs.Run.{time_after, times_after}
use Rattle.ax_machine.specs.Entries.{Key}
use Rattle.ax_time.specs.declared.timer.Timer.{Timer}
use Rattle.ax_time.specs.Timers.{times_of, PutsTimes}
use Rattle.ax_time.proofs.KeptLemmas.{same_key, times_same}

key_itself : (k : Key) → bytes_eq k k ≡ true
key_itself k = sym (same_key k k) ∙ ap is_eq (tied_itself nat_list_cmp_total k)

-- the key has the times that were put
pub puts_at : (a b : List Timer) (k : Key) (xs : List ℤ) → PutsTimes a b k xs → times_of b k ≡ xs
puts_at a b k xs h = h k ∙ ap (λ (t : Bool). cond t xs (times_of a k)) (key_itself k)

-- another key has those that it had
pub puts_elsewhere : (a b : List Timer) (k q : Key) (xs : List ℤ) → PutsTimes a b k xs → bytes_eq k q ≡ false → times_of b q ≡ times_of a q
puts_elsewhere a b k q xs h e = h q ∙ ap (λ (t : Bool). cond t xs (times_of a q)) e

puts_then : (a b c : List Timer) (k : Key) (xs ys : List ℤ) → PutsTimes a b k xs → PutsTimes b c k ys → PutsTimes a c k ys
puts_then a b c k xs ys h g q = g q ∙ ap (cond (bytes_eq k q) ys) (h q) ∙ by_key (bytes_eq k q) where
  by_key : (t : Bool) → cond t ys (cond t xs (times_of a q)) ≡ cond t ys (times_of a q)
  by_key true = refl
  by_key false = refl

-- a timer was set or taken off, and then the rest was done
op_then : (t t' u : List Timer) (key : Key) (o : TimerOp) (os : List TimerOp) → PutsTimes t t' key (time_after o (times_of t key)) → PutsTimes t' u key (times_after os (times_of t' key))
    → PutsTimes t u key (times_after (o ∷ os) (times_of t key))
op_then t t' u key o os p q = puts_then t t' u key _ _ p (subst (PutsTimes t' u key) (ap (times_after os) (puts_at t t' key _ p)) q)

-- the same, of an operation of a list
pub ops_on : (t t' u : List Timer) (key : Key) (os : List TimerOp) (i : ℕ) (d : TimerOp) → i < length os → PutsTimes t t' key (time_after (get_or os i d) (times_of t key))
    → PutsTimes t' u key (times_after (drop (i + 1) os) (times_of t' key)) → PutsTimes t u key (times_after (drop i os) (times_of t key))
ops_on t t' u key os i d h p q =
    subst (λ (l : List TimerOp). PutsTimes t u key (times_after l (times_of t key))) (sym (at_drop_more (λ l. l) os i d h)) (op_then t t' u key (get_or os i d) (drop (i + 1) os) p q)

-- no operation is left
pub ops_end : (t : List Timer) (key : Key) (os : List TimerOp) (i : ℕ) → length os ≤ i → PutsTimes t t key (times_after (drop i os) (times_of t key))
ops_end t key os i h = times_same t key (times_after (drop i os) (times_of t key)) (ap (λ (l : List TimerOp). times_after l (times_of t key)) (drop_all i os h))
