-- New requests go out at slots below the number of those that are out then.
use Rattle.std.proofs.Common.{◌≡◌, ◌∙◌, ℕ, suc, ◌+◌, ◌≤◌, ◌<◌, length, map, List, [], ◌∷◌, ◌++◌, true, false, nat_eq, refl, sym, ap, subst, arith, length-append}
use Rattle.std.proofs.lemmas.List.{length-map}
use Rattle.std.proofs.lemmas.Bool.{both_ways}
use Rattle.ax_text.specs.declared.vocabulary.Answer.{Answer}
use Rattle.ax_text.specs.Exprs.{Facts}
use Rattle.ax_text.specs.Run.{Talk}
use Rattle.ax_text.specs.Prints.{has}
use Rattle.ax_text.specs.Controls.{Cursor, Control, Ask' as Asked, Turn, slots, waiting, replaced, least_free, begin, give, without}
use Rattle.ax_text.specs.Widths.{ControlWide}
use Rattle.ax_text.specs.Sound.{Low}
use Rattle.ax_text.specs.Underway.{TakesLeast}
use Rattle.ax_text.proofs.Keeps.{by_cases}
use Rattle.ax_text.proofs.Wide.{slots_wide}
use Rattle.ax_text.proofs.Asked.{begin_asked, give_asked, slots_waiting}
use Rattle.ax_text.proofs.FreeSlots.{least_low}
use Rattle.ax_text.proofs.LeastSlots.{begin_least, give_least}

low_more : (n m : ℕ) (as' : List Asked) → n ≤ m → Low n as' → Low m as'
unfolding Low
low_more n m [] h l = tt
low_more n m (a ∷ as') h l = ((let b = l.0 in omega arith), low_more n m as' h l.1)

low_append : (n : ℕ) (as' bs : List Asked) → Low n as' → Low n bs → Low n (as' ++ bs)
unfolding Low
low_append n [] bs l m = m
low_append n (a ∷ as') bs l m = (l.0, low_append n as' bs l.1 m)

low_replaced : (n s : ℕ) (bs as' : List Asked) → Low n bs → Low n as' → Low n (replaced s bs as')
unfolding Low
low_replaced n s bs [] l m = tt
low_replaced n s bs (a ∷ as') l m = by_cases (nat_eq s a.slot) (λ e. rw e (low_append n bs as' l m.1)) (λ e. rw e (m.0, low_replaced n s bs as' l m.1))

wait_low : (used : List ℕ) (s n : ℕ) → s ≡ least_free used → s < length used + suc n
wait_low used s n e = let l = least_low used in omega arith

-- slots that are taken in turn are below the number of those that are in use then
takes_low : (used : List ℕ) (as' : List Asked) → TakesLeast used as' → Low (length used + length as') as'
unfolding TakesLeast Low
takes_low used [] t = tt
takes_low used (a ∷ as') t = (
  wait_low used a.slot (length as') t.0,
  low_more (length (used ++ a.slot ∷ []) + length as') (length used + length (a ∷ as')) as' (let e : length (used ++ a.slot ∷ []) ≡ length used + 1 = length-append used (a.slot ∷ []) in omega arith) (takes_low (used ++ a.slot ∷ []) as' t.1),
)

-- as many slots as requests wait
pub slots_counted : (c : Control) → length (slots c) ≡ length (waiting c)
slots_counted c = ap (λ (xs : List ℕ). length xs) (slots_waiting c) ∙ length-map (waiting c) (λ (a : Asked). a.slot)

pub slots_asked : (it : Turn) → waiting it.control ≡ it.asks → length (slots it.control) ≡ length it.asks
slots_asked it h = slots_counted it.control ∙ ap (λ (xs : List Asked). length xs) h

pub replaced_length : (s : ℕ) (bs as' : List Asked) → has s (map (λ (a : Asked). a.slot) as') ≡ true → suc (length (replaced s bs as')) ≡ length bs + length as'
replaced_length s bs [] h = absurd (both_ways false refl h)
replaced_length s bs (a ∷ as') h = by_cases (nat_eq s a.slot)
    (λ e. rw e (let l : length (bs ++ as') ≡ length bs + length as' = length-append bs as' in omega arith))
    (λ e. rw e (let l : suc (length (replaced s bs as')) ≡ length bs + length as' = replaced_length s bs as' (rw e at h) in omega arith))

module _ (f : Facts) where
  -- with no other wait
  pub start_low : (n : ℕ) (k : Cursor) (t : Talk) → ControlWide n (begin f k [] t).control → Low n (waiting (begin f k [] t).control)
  start_low n k t w =
      let it : Turn = begin f k [] t in
      let s : length (slots it.control) ≡ length it.asks = slots_asked it (begin_asked f k [] t) in
      let b : length (slots it.control) ≤ n = slots_wide n it.control w in
      subst (Low n) (sym (begin_asked f k [] t)) (low_more (0 + length it.asks) n it.asks (omega arith) (takes_low [] it.asks (begin_least f k [] t)))

  without_less : (s : ℕ) (xs : List ℕ) → has s xs ≡ true → length (without s xs) < length xs
  without_less s [] h = absurd (both_ways false refl h)
  without_less s (x ∷ xs) h = by_cases (nat_eq s x)
      (λ e. rw e (short xs))
      (λ e. rw e (let l : length (without s xs) < length xs = without_less s xs (rw e at h) in omega arith))
    where
      short : (ys : List ℕ) → length (without s ys) < suc (length ys)
      short [] = omega arith
      short (y ∷ ys) = let l : length (without s ys) < suc (length ys) = short ys in by_cases (nat_eq s y) (λ e. rw e (omega arith)) (λ e. rw e (omega arith))

  pub give_low : (n : ℕ) (c : Control) (s : ℕ) (a : Answer) (t : Talk) → Low n (waiting c) → has s (slots c) ≡ true → ControlWide n (give f c s a t).control → Low n (waiting (give f c s a t).control)
  unfolding give
  give_low n c s a t l h w =
      let it : Turn = give f c s a t in
      let asked : waiting it.control ≡ replaced s it.asks (waiting c) = give_asked f c s a t h in
      let b : length (slots it.control) ≤ n = slots_wide n it.control w in
      let d : length (slots it.control) ≡ length (waiting it.control) = slots_counted it.control in
      let d' : length (slots c) ≡ length (waiting c) = slots_counted c in
      let e : length (waiting it.control) ≡ length (replaced s it.asks (waiting c)) = ap (λ (xs : List Asked). length xs) asked in
      let r : suc (length (replaced s it.asks (waiting c))) ≡ length it.asks + length (waiting c) = replaced_length s it.asks (waiting c) (sym (ap (has s) (slots_waiting c)) ∙ h) in
      let u : length (without s (slots c)) < length (slots c) = without_less s (slots c) h in
      let new : Low n it.asks = low_more (length (without s (slots c)) + length it.asks) n it.asks (omega arith) (takes_low (without s (slots c)) it.asks (give_least f c s a t h)) in
      subst (Low n) (sym asked) (low_replaced n s it.asks (waiting c) new l)
