-- What a map has at a key, behind requests.
use Rattle.std.proofs.Common.{◌≡◌, ◌≢◌, refl, sym, ap, ◌∙◌, ℕ, nat_eq, ℤ, List, [], ◌∷◌, ◌++◌, Bool, true, false, cond, map, is_some, Ordering, Less, Equal, Greater, Option, Some, None}
use Rattle.std.specs.List.{AllByRecursion}
use Rattle.std.specs.List.Sorted.{IsStrictlySortedBy}
use Rattle.std.specs.Map.{keys_of, remove_entry}
use Rattle.std.specs.BTreeMap.{is_at, insert_entry}
use Rattle.std.specs.Ordering.{int_cmp, match_ordering, is_eq}
use Rattle.std.specs.Cmp.{tied_itself}
use Rattle.std.proofs.lemmas.Cmp.{int_cmp_total}
use Rattle.std.proofs.lemmas.Map.Lookups.{exact_signed}
use Rattle.std.proofs.lemmas.Bool.{eq-eqb}
use Rattle.ax_base.specs.declared.lists.Pair.{Pair}
use Rattle.ax_text.specs.declared.vocabulary.Kind.{Kind}
use Rattle.ax_text.specs.declared.vocabulary.Kind.TheVariants as kind
use Rattle.ax_text.specs.declared.vocabulary.Answer.{Answer}
use Rattle.ax_text.specs.declared.vocabulary.Answer.TheVariants as answer
use Rattle.ax_text.specs.declared.vocabulary.Request.TheVariants as request
use Rattle.ax_text.specs.Cells.{Cell, Entries, Cells, found, entry_at, entries_in, pair_of, has_none, items_in, answer_in, answer_of, cells_after, empty_cell, kind_of}
use Rattle.ax_text.specs.Rising.{IsRising, MapsRise}
use Rattle.ax_state.proofs.CellLemmas.{kind_of-empty}

at_itself : (k : ℤ) → is_at (int_cmp k) k ≡ true
at_itself k = ap is_eq (tied_itself int_cmp_total k)

at_other : (k q : ℤ) → q ≢ k → is_at (int_cmp q) k ≡ false
at_other k q d = of (int_cmp q k) refl where
  of : (o : Ordering) → int_cmp q k ≡ o → is_eq o ≡ false
  of Less e = refl
  of Greater e = refl
  of Equal e = absurd (d (exact_signed q k e))

put_found : (k n : ℤ) (es : List (ℤ × ℤ)) → entry_at k (insert_entry int_cmp es k n) ≡ Some n
put_found k n [] = ap (λ (b : Bool). cond b (Some n) None) (at_itself k)
put_found k n (e ∷ es) = of (int_cmp k e.0) refl (put_found k n es)
  where
    of : (o : Ordering) → int_cmp k e.0 ≡ o → entry_at k (insert_entry int_cmp es k n) ≡ Some n → entry_at k (match_ordering o ((k, n) ∷ e ∷ es) ((e.0, n) ∷ es) (e ∷ insert_entry int_cmp es k n)) ≡ Some n
    of Less h more = ap (λ (b : Bool). cond b (Some n) (entry_at k (e ∷ es))) (at_itself k)
    of Equal h more = ap (λ (o : Ordering). cond (is_eq o) (Some n) (entry_at k es)) h
    of Greater h more = ap (λ (o : Ordering). cond (is_eq o) (Some e.1) (entry_at k (insert_entry int_cmp es k n))) h ∙ more

put_other : (k q n : ℤ) (es : List (ℤ × ℤ)) → q ≢ k → entry_at q (insert_entry int_cmp es k n) ≡ entry_at q es
put_other k q n [] d = ap (λ (b : Bool). cond b (Some n) None) (at_other k q d)
put_other k q n (e ∷ es) d = of (int_cmp k e.0) refl (put_other k q n es d)
  where
    of : (o : Ordering) → int_cmp k e.0 ≡ o → entry_at q (insert_entry int_cmp es k n) ≡ entry_at q es
        → entry_at q (match_ordering o ((k, n) ∷ e ∷ es) ((e.0, n) ∷ es) (e ∷ insert_entry int_cmp es k n)) ≡ entry_at q (e ∷ es)
    of Less h more = ap (λ (b : Bool). cond b (Some n) (entry_at q (e ∷ es))) (at_other k q d)
    of Equal h more =
        let away : is_at (int_cmp q) e.0 ≡ false = ap (λ (z : ℤ). is_at (int_cmp q) z) (sym (exact_signed k e.0 h)) ∙ at_other k q d in
        ap (λ (b : Bool). cond b (Some n) (entry_at q es)) away ∙ sym (ap (λ (b : Bool). cond b (Some e.1) (entry_at q es)) away)
    of Greater h more = ap (λ (o : Option ℤ). cond (is_at (int_cmp q) e.0) (Some e.1) o) more

above_none : (k : ℤ) (es : List (ℤ × ℤ)) → AllByRecursion (λ y. int_cmp k y ≡ Less) (keys_of es) → entry_at k es ≡ None
above_none k [] a = refl
above_none k (e ∷ es) a = ap (λ (o : Ordering). cond (is_eq o) (Some e.1) (entry_at k es)) a.0 ∙ above_none k es a.1

removed_missing : (k : ℤ) (es : List (ℤ × ℤ)) → IsRising es → entry_at k (remove_entry (is_at (int_cmp k)) es) ≡ None
unfolding IsStrictlySortedBy
removed_missing k [] s = refl
removed_missing k (e ∷ es) s = of (int_cmp k e.0) refl (removed_missing k es s.1)
  where
    of : (o : Ordering) → int_cmp k e.0 ≡ o → entry_at k (remove_entry (is_at (int_cmp k)) es) ≡ None → entry_at k (cond (is_eq o) es (e ∷ remove_entry (is_at (int_cmp k)) es)) ≡ None
    of Less h more = ap (λ (o : Ordering). cond (is_eq o) (Some e.1) (entry_at k (remove_entry (is_at (int_cmp k)) es))) h ∙ more
    of Greater h more = ap (λ (o : Ordering). cond (is_eq o) (Some e.1) (entry_at k (remove_entry (is_at (int_cmp k)) es))) h ∙ more
    of Equal h more = ap (λ (z : ℤ). entry_at z es) (exact_signed k e.0 h) ∙ above_none e.0 es s.0

removed_other : (k q : ℤ) (es : List (ℤ × ℤ)) → q ≢ k → entry_at q (remove_entry (is_at (int_cmp k)) es) ≡ entry_at q es
removed_other k q [] d = refl
removed_other k q (e ∷ es) d = of (int_cmp k e.0) refl (removed_other k q es d)
  where
    of : (o : Ordering) → int_cmp k e.0 ≡ o → entry_at q (remove_entry (is_at (int_cmp k)) es) ≡ entry_at q es → entry_at q (cond (is_eq o) es (e ∷ remove_entry (is_at (int_cmp k)) es)) ≡ entry_at q (e ∷ es)
    of Less h more = ap (λ (o : Option ℤ). cond (is_at (int_cmp q) e.0) (Some e.1) o) more
    of Greater h more = ap (λ (o : Option ℤ). cond (is_at (int_cmp q) e.0) (Some e.1) o) more
    of Equal h more = sym (ap (λ (b : Bool). cond b (Some e.1) (entry_at q es)) (ap (λ (z : ℤ). is_at (int_cmp q) z) (sym (exact_signed k e.0 h)) ∙ at_other k q d))

same : (s : ℕ) → nat_eq s s ≡ true
same s = eq-eqb s s refl

module _ (cells : Cells) (s : ℕ) where
  pub get_after_map_put : (at n : ℤ) → answer_of (request.MapGet s at) (cells_after (request.MapPut s at n) cells) ≡ answer.Found n
  get_after_map_put at n = here (λ (c : Cell). found (entry_at at (entries_in c))) ∙ ap found (put_found at n (entries_in (cells s)))
    where
      here : (go : Cell → Answer) → go (cells_after (request.MapPut s at n) cells s) ≡ go (Entries (insert_entry int_cmp (entries_in (cells s)) at n))
      here go = rw (same s) refl

  pub other_after_map_put : (at n q : ℤ) → q ≢ at → answer_of (request.MapGet s q) (cells_after (request.MapPut s at n) cells) ≡ answer_of (request.MapGet s q) cells
  other_after_map_put at n q d = here (λ (c : Cell). found (entry_at q (entries_in c))) ∙ ap found (put_other at q n (entries_in (cells s)) d)
    where
      here : (go : Cell → Answer) → go (cells_after (request.MapPut s at n) cells s) ≡ go (Entries (insert_entry int_cmp (entries_in (cells s)) at n))
      here go = rw (same s) refl

  pub get_after_remove : (at : ℤ) → MapsRise cells → answer_of (request.MapGet s at) (cells_after (request.MapRemove s at) cells) ≡ answer.Missing
  get_after_remove at r = here (λ (c : Cell). found (entry_at at (entries_in c))) ∙ ap found (removed_missing at (entries_in (cells s)) (r s))
    where
      here : (go : Cell → Answer) → go (cells_after (request.MapRemove s at) cells s) ≡ go (Entries (remove_entry (is_at (int_cmp at)) (entries_in (cells s))))
      here go = rw (same s) refl

  pub other_after_remove : (at q : ℤ) → q ≢ at → answer_of (request.MapGet s q) (cells_after (request.MapRemove s at) cells) ≡ answer_of (request.MapGet s q) cells
  other_after_remove at q d = here (λ (c : Cell). found (entry_at q (entries_in c))) ∙ ap found (removed_other at q (entries_in (cells s)) d)
    where
      here : (go : Cell → Answer) → go (cells_after (request.MapRemove s at) cells s) ≡ go (Entries (remove_entry (is_at (int_cmp at)) (entries_in (cells s))))
      here go = rw (same s) refl

  pub items_after_add : (n : ℤ) → answer_of (request.ListGet s) (cells_after (request.ListAdd s n) cells) ≡ answer.Items (items_in (cells s) ++ n ∷ [])
  items_after_add n = rw (same s) refl

  pub items_after_put : (items : List ℤ) → answer_of (request.ListGet s) (cells_after (request.ListPut s items) cells) ≡ answer.Items items
  items_after_put items = rw (same s) refl

  pub has_found : (at n : ℤ) → answer_of (request.MapGet s at) cells ≡ answer.Found n → answer_of (request.MapHas s at) cells ≡ answer.Flag true
  has_found at n = of (entry_at at (entries_in (cells s))) where
    of : (o : Option ℤ) → found o ≡ answer.Found n → answer.Flag (is_some o) ≡ answer.Flag true
    of None e = absurd (cc e)
    of (Some m) e = refl

  pub has_missing : (at : ℤ) → answer_of (request.MapGet s at) cells ≡ answer.Missing → answer_of (request.MapHas s at) cells ≡ answer.Flag false
  has_missing at = of (entry_at at (entries_in (cells s))) where
    of : (o : Option ℤ) → found o ≡ answer.Missing → answer.Flag (is_some o) ≡ answer.Flag false
    of None e = refl
    of (Some m) e = absurd (cc e)

  pub empty_none : answer_of (request.MapEntries s) cells ≡ answer.Pairs [] → answer_of (request.MapEmpty s) cells ≡ answer.Flag true
  empty_none = of (entries_in (cells s)) where
    of : (es : List (ℤ × ℤ)) → answer.Pairs (map pair_of es) ≡ answer.Pairs [] → answer.Flag (has_none es) ≡ answer.Flag true
    of [] e = refl
    of (x ∷ es) e = absurd (cc e)

  pub empty_some : (p : Pair) (ps : List Pair) → answer_of (request.MapEntries s) cells ≡ answer.Pairs (p ∷ ps) → answer_of (request.MapEmpty s) cells ≡ answer.Flag false
  empty_some p ps = of (entries_in (cells s)) where
    of : (es : List (ℤ × ℤ)) → answer.Pairs (map pair_of es) ≡ answer.Pairs (p ∷ ps) → answer.Flag (has_none es) ≡ answer.Flag false
    of [] e = absurd (cc e)
    of (x ∷ es) e = refl

  pub cleared : (go : Cell → Answer) → ((k : Kind) → go (empty_cell k) ≡ go (empty_cell kind.Value)) → go (cells_after (request.Clear s) cells s) ≡ go (empty_cell kind.Value)
  cleared go h = rw (same s) (h (kind_of (cells s)))

module _ (cells : Cells) (s : ℕ) where
  pub value_after_clear : answer_of (request.ValueGet s) (cells_after (request.Clear s) cells) ≡ answer.Missing
  value_after_clear = cleared cells s (answer_in (request.ValueGet s)) (λ k. of k) where
    of : (k : Kind) → answer_in (request.ValueGet s) (empty_cell k) ≡ answer.Missing
    of kind.Value = refl
    of kind.List = refl
    of kind.Map = refl

  pub items_after_clear : answer_of (request.ListGet s) (cells_after (request.Clear s) cells) ≡ answer.Items []
  items_after_clear = cleared cells s (answer_in (request.ListGet s)) (λ k. of k) where
    of : (k : Kind) → answer_in (request.ListGet s) (empty_cell k) ≡ answer.Items []
    of kind.Value = refl
    of kind.List = refl
    of kind.Map = refl

  pub entries_after_clear : answer_of (request.MapEntries s) (cells_after (request.Clear s) cells) ≡ answer.Pairs []
  entries_after_clear = cleared cells s (answer_in (request.MapEntries s)) (λ k. of k) where
    of : (k : Kind) → answer_in (request.MapEntries s) (empty_cell k) ≡ answer.Pairs []
    of kind.Value = refl
    of kind.List = refl
    of kind.Map = refl

  pub kind_after_clear : kind_of (cells_after (request.Clear s) cells s) ≡ kind_of (cells s)
  kind_after_clear = rw (same s) (kind_of-empty (kind_of (cells s)))
