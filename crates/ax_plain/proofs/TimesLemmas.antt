-- The times of a key, when they change.
use Rattle.std.proofs.Common.{◌≡◌, ℕ, ℤ, Bool, true, false, cond, List, [], ◌∷◌, ◌++◌, refl, sym, ap, ◌∙◌}
use Rattle.std.specs.Cmp.{tied_itself}
use Rattle.std.specs.Cmp.Lexicographic.{nat_list_cmp_total}
use Rattle.std.specs.Ordering.{is_eq}
use Rattle.std.specs.Str.{bytes_eq}
use Rattle.ax_text.specs.declared.vocabulary.TimerOp.{TimerOp}
use Rattle.ax_text.specs.Run.{time_after, times_after}
use Rattle.ax_time.specs.declared.timer.Timer.{Timer}
use Rattle.ax_time.specs.Timers.{times_of, PutsTimes}
use Rattle.ax_time.proofs.KeptLemmas.{same_key}

pub key_itself : (k : List ℕ) → bytes_eq k k ≡ true
key_itself k = sym (same_key k k) ∙ ap is_eq (tied_itself nat_list_cmp_total k)

-- the key has the times that were put
pub puts_at : (a b : List Timer) (k : List ℕ) (xs : List ℤ) → PutsTimes a b k xs → times_of b k ≡ xs
puts_at a b k xs h = h k ∙ ap (λ (t : Bool). cond t xs (times_of a k)) (key_itself k)

-- another key has those that it had
pub puts_elsewhere : (a b : List Timer) (k q : List ℕ) (xs : List ℤ) → PutsTimes a b k xs → bytes_eq k q ≡ false → times_of b q ≡ times_of a q
puts_elsewhere a b k q xs h e = h q ∙ ap (λ (t : Bool). cond t xs (times_of a q)) e

pub puts_then : (a b c : List Timer) (k : List ℕ) (xs ys : List ℤ) → PutsTimes a b k xs → PutsTimes b c k ys → PutsTimes a c k ys
puts_then a b c k xs ys h g q = g q ∙ ap (cond (bytes_eq k q) ys) (h q) ∙ by_key (bytes_eq k q) where
  by_key : (t : Bool) → cond t ys (cond t xs (times_of a q)) ≡ cond t ys (times_of a q)
  by_key true = refl
  by_key false = refl

pub times_after_both : (xs ys : List TimerOp) (times : List ℤ) → times_after (xs ++ ys) times ≡ times_after ys (times_after xs times)
times_after_both [] ys times = refl
times_after_both (x ∷ xs) ys times = times_after_both xs ys (time_after x times)
