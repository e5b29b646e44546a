-- What was written of some bytes, and of some lines.
use Rattle.std.proofs.Common.{◌≡◌, ℕ, ℤ, ◌+◌, ◌<◌, List, [], ◌∷◌, ◌++◌, length, take, drop, get_or, Option, Result, Ok, Err, OnOk, OnErr, inr, refl, sym, ap, ◌∙◌, subst, arith, append_assoc}
use Rattle.std.proofs.lemmas.List.{append-nil, take-append-drop, take_at, take_all, at_drop_more}
use Rattle.std.specs.Io.KnownBytes.{Appends}
use Rattle.ax_base.proofs.OutsideLemmas.{Appends-none, Appends-more}
use Rattle.ax_base.specs.Outside.{AppendsSome, AppendsPart, Counts, WriteCounts, OwnCounts}
use Rattle.ax_base.specs.declared.outside.SinkFault.{SinkFault}
use Rattle.ax_base.specs.declared.outside.SinkFault.TheVariants as fault
use Rattle.ax_machine.specs.Entries.{Key, Out, says, text_of, entry_text}

-- what holds, holds at an error
pub at_err : {T E P : Type 0} (r : Result T E) → P → OnErr r P
at_err (Ok x) p = tt
at_err (Err e) p = p

-- nothing was written
pub AppendsSome-none : (a : Option (List ℕ)) (x : List ℕ) → AppendsSome a a x
AppendsSome-none a x = (0, Appends-none a)

-- all was written
pub AppendsSome-all : (a b : Option (List ℕ)) (x : List ℕ) → Appends a b x → AppendsSome a b x
AppendsSome-all a b x p = (length x, subst (Appends a b) (sym (take_all (length x) x (omega arith))) p)

-- these bytes, and then some of the next
pub AppendsSome-behind : (a b c : Option (List ℕ)) (x y z all : List ℕ) → Appends a b x → AppendsSome b c y → x ++ (y ++ z) ≡ all → AppendsSome a c all
AppendsSome-behind a b c x y z all p q e =
    let first : List ℕ = x ++ take q.0 y in
    let behind : List ℕ = drop q.0 y ++ z in
    let split : first ++ behind ≡ all = append_assoc x (take q.0 y) behind ∙ ap (λ t. x ++ t) (sym (append_assoc (take q.0 y) (drop q.0 y) z) ∙ ap (λ t. t ++ z) (take-append-drop q.0 y)) ∙ e in
    let same : take (length first) all ≡ first = ap (take (length first)) (sym split) ∙ take_at first behind (length first) refl in
    (length first, Appends-more a b c x (take q.0 y) (take (length first) all) p q.1 (sym same))

-- a line was written, and then the rest of the lines
pub line_then : (a b c : Option (List ℕ)) (key : Key) (x : List ℤ) (xs : List (List ℤ)) → Appends a b (entry_text (Out key x)) → Appends b c (text_of (says key xs)) → Appends a c (text_of (says key (x ∷ xs)))
line_then a b c key x xs p q = Appends-more a b c (entry_text (Out key x)) (text_of (says key xs)) _ p q refl

pub line_then_some : (a b c : Option (List ℕ)) (key : Key) (x : List ℤ) (xs : List (List ℤ)) → Appends a b (entry_text (Out key x)) → AppendsSome b c (text_of (says key xs)) → AppendsSome a c (text_of (says key (x ∷ xs)))
line_then_some a b c key x xs p q = AppendsSome-behind a b c (entry_text (Out key x)) (text_of (says key xs)) [] _ p q (ap (λ t. entry_text (Out key x) ++ t) (append-nil (text_of (says key xs))))

-- the first of the lines failed
pub line_some : (a b : Option (List ℕ)) (key : Key) (x : List ℤ) (xs : List (List ℤ)) → AppendsSome a b (entry_text (Out key x)) → AppendsSome a b (text_of (says key (x ∷ xs)))
line_some a b key x xs q = AppendsSome-behind a a b [] (entry_text (Out key x)) (text_of (says key xs)) _ (Appends-none a) q refl

-- what is left of a list begins with the item at its place
drop_next : {A : Type 0} (xs : List A) (i : ℕ) (x : A) → i < length xs → x ≡ get_or xs i x → drop i xs ≡ x ∷ drop (i + 1) xs
drop_next xs i x h is = at_drop_more (λ l. l) xs i x h ∙ ap (λ y. y ∷ drop (i + 1) xs) (sym is)

-- the same, where a line of a list was written
module _ (a b : Option (List ℕ)) (key : Key) (xs : List (List ℤ)) (i : ℕ) (x y : List ℤ) (h : i < length xs) (is : x ≡ get_or xs i x) (e : y ≡ x) where
  left_is : text_of (says key (y ∷ drop (i + 1) xs)) ≡ text_of (says key (drop i xs))
  left_is = ap (λ z. text_of (says key (z ∷ drop (i + 1) xs))) e ∙ sym (ap (λ l. text_of (says key l)) (drop_next xs i x h is))

  pub lines_on : (c : Option (List ℕ)) → Appends a b (entry_text (Out key y)) → Appends b c (text_of (says key (drop (i + 1) xs))) → Appends a c (text_of (says key (drop i xs)))
  lines_on c p q = subst (Appends a c) left_is (line_then a b c key y (drop (i + 1) xs) p q)

  pub lines_on_some : (c : Option (List ℕ)) → Appends a b (entry_text (Out key y)) → AppendsSome b c (text_of (says key (drop (i + 1) xs))) → AppendsSome a c (text_of (says key (drop i xs)))
  lines_on_some c p q = subst (AppendsSome a c) left_is (line_then_some a b c key y (drop (i + 1) xs) p q)

  pub lines_failed : AppendsSome a b (entry_text (Out key y)) → AppendsSome a b (text_of (says key (drop i xs)))
  lines_failed q = subst (AppendsSome a b) left_is (line_some a b key y (drop (i + 1) xs) q)

-- a sink's counts by a call that takes memory of its own
pub own_counts : {T : Type 0} (a b : Counts) (r : Result T SinkFault) → WriteCounts a b r → OwnCounts a b r
own_counts a b (Ok x) h = h
own_counts a b (Err fault.Failed) h = h
own_counts a b (Err fault.NoMemory) h = (h.0, inr h.1)

-- the same behind calls that kept them
pub counts_behind : {T : Type 0} (a b c : Counts) (r : Result T SinkFault) → b ≡ a → OwnCounts b c r → OwnCounts a c r
counts_behind {T} a b c r e h = let P : Counts → Type 0 = λ x. OwnCounts x c r in subst P e h

pub on_ok : {T E P Q : Type 0} (r : Result T E) → OnOk r P → (P → Q) → OnOk r Q
on_ok (Ok x) p f = f p
on_ok (Err e) p f = tt

pub on_err : {T E P Q : Type 0} (r : Result T E) → OnErr r P → (P → Q) → OnErr r Q
on_err (Ok x) p f = tt
on_err (Err e) p f = f p

-- a proper prefix is a prefix
pub some_of_part : (a b : Option (List ℕ)) (x : List ℕ) → AppendsPart a b x → AppendsSome a b x
some_of_part a b x p = (p.0, p.2)
