-- Frames, the innermost last, as a cursor.
use Rattle.std.proofs.Common.{◌≡◌, ◌≤◌, ◌<◌, ◌-◌, max, ℕ, zero, suc, length, List, [], ◌∷◌, ◌++◌, Option, Some, None, take, slice_get, slice_set, refl, sym, ◌∙◌, append_assoc, length-append, ◌+◌, ap, arith}
use Rattle.std.proofs.lemmas.List.{append-nil}
use Rattle.ax_text.specs.Controls.{Frame, Rest, Cursor}
use Rattle.ax_lang.specs.declared.program.Program.{Program}
use Rattle.ax_lang.specs.Shown.{text_from}
use Rattle.ax_future.specs.declared.node.Frame.{Frame as CodeFrame}
use Rattle.ax_future.specs.declared.node.Frame.TheVariants as frame
use Rattle.ax_future.specs.Nodes.{frame_in, cursor_in, behind, rest_in, front_of, place_of, highest}

pub cursor_more : (p : Program) (fs : List CodeFrame) (x : CodeFrame) → cursor_in p (fs ++ x ∷ []) ≡ frame_in p x ∷ cursor_in p fs
cursor_more p [] x = refl
cursor_more p (f ∷ fs) x = ap (λ (k : Cursor). k ++ frame_in p f ∷ []) (cursor_more p fs x)

pub highest_more : (fs : List CodeFrame) (x : CodeFrame) → highest (fs ++ x ∷ []) ≡ max (highest fs) (place_of x)
highest_more [] x = omega arith
highest_more (f ∷ fs) x = let e : highest (fs ++ x ∷ []) ≡ max (highest fs) (place_of x) = highest_more fs x in omega arith

-- more frames stand nearer
pub cursor_append : (p : Program) (fs gs : List CodeFrame) → cursor_in p (fs ++ gs) ≡ cursor_in p gs ++ cursor_in p fs
cursor_append p [] gs = sym (append-nil (cursor_in p gs))
cursor_append p (f ∷ fs) gs = ap (λ (k : Cursor). k ++ frame_in p f ∷ []) (cursor_append p fs gs) ∙ append_assoc (cursor_in p gs) (cursor_in p fs) (frame_in p f ∷ [])

-- another frame in front
behind_more : (a : Cursor) (x y : Frame) → behind ((a ++ x ∷ []) ++ y ∷ []) ≡ behind (a ++ x ∷ []) ++ y ∷ []
behind_more [] x y = refl
behind_more (z ∷ a) x y = refl

pub cursor_set : (p : Program) (fs : List CodeFrame) (n : ℕ) (y : CodeFrame) → suc n ≡ length fs → cursor_in p (slice_set fs n y) ≡ frame_in p y ∷ behind (cursor_in p fs)
cursor_set p [] n y h = absurd (omega arith)
cursor_set p (f ∷ []) zero y h = refl
cursor_set p (f ∷ []) (suc n) y h = absurd (omega arith)
cursor_set p (f ∷ g ∷ fs) zero y h = absurd (omega arith)
cursor_set p (f ∷ g ∷ fs) (suc n) y h = ap (λ (k : Cursor). k ++ frame_in p f ∷ []) (cursor_set p (g ∷ fs) n y (omega arith))
    ∙ ap (λ (k : Cursor). frame_in p y ∷ k) (sym (behind_more (cursor_in p fs) (frame_in p g) (frame_in p f)))

pub highest_set : (fs : List CodeFrame) (n : ℕ) (y : CodeFrame) → highest (slice_set fs n y) ≤ max (highest fs) (place_of y)
highest_set [] n y = omega arith
highest_set (f ∷ fs) zero y = omega arith
highest_set (f ∷ fs) (suc n) y = let h : highest (slice_set fs n y) ≤ max (highest fs) (place_of y) = highest_set fs n y in omega arith

-- what is in front
none_some : {A : Type 0} {x : A} → None ≡ Some x → ⊥
none_some h = cc h

some_same : {A : Type 0} {x y : A} → Some x ≡ Some y → x ≡ y
some_same h = cc h

last_first : (fs : List CodeFrame) (n : ℕ) (f : CodeFrame) → suc n ≡ length fs → slice_get fs n ≡ Some f → fs ≡ take n fs ++ f ∷ []
last_first [] n f h e = absurd (omega arith)
last_first (x ∷ []) zero f h e = ap (λ (y : CodeFrame). y ∷ []) (some_same e)
last_first (x ∷ []) (suc n) f h e = absurd (omega arith)
last_first (x ∷ y ∷ fs) zero f h e = absurd (omega arith)
last_first (x ∷ y ∷ fs) (suc n) f h e = ap (λ (ys : List CodeFrame). x ∷ ys) (last_first (y ∷ fs) n f (omega arith) e)

rest_some : (x : Option CodeFrame) (place : ℕ) → rest_in x ≡ Some place → x ≡ Some (frame.Rest place)
rest_some None place h = absurd (none_some h)
rest_some (Some (frame.Rest q)) place h = ap (λ (i : ℕ). Some (frame.Rest i)) (some_same h)
rest_some (Some (frame.Turns repeat)) place h = absurd (none_some h)

pub front_some : (fs : List CodeFrame) (place : ℕ) → front_of fs ≡ Some place → 0 < length fs
front_some [] place h = absurd (none_some h)
front_some (f ∷ fs) place h = omega arith

front_last : (fs : List CodeFrame) (place : ℕ) → front_of fs ≡ Some place → fs ≡ take (length fs - 1) fs ++ frame.Rest place ∷ []
front_last fs place h = let l : 0 < length fs = front_some fs place h in last_first fs (length fs - 1) (frame.Rest place) (omega arith) (rest_some (slice_get fs (length fs - 1)) place h)

front_taken : (p : Program) (fs : List CodeFrame) (place : ℕ) → front_of fs ≡ Some place → cursor_in p fs ≡ Rest (text_from p place) ∷ cursor_in p (take (length fs - 1) fs)
front_taken p fs place h = ap (cursor_in p) (front_last fs place h) ∙ cursor_more p (take (length fs - 1) fs) (frame.Rest place)

pub front_behind : (p : Program) (fs : List CodeFrame) (place : ℕ) → front_of fs ≡ Some place → behind (cursor_in p fs) ≡ cursor_in p (take (length fs - 1) fs)
front_behind p fs place h = ap behind (front_taken p fs place h)

pub front_cursor : (p : Program) (fs : List CodeFrame) (place : ℕ) → front_of fs ≡ Some place → cursor_in p fs ≡ Rest (text_from p place) ∷ behind (cursor_in p fs)
front_cursor p fs place h = front_taken p fs place h ∙ ap (λ (k : Cursor). Rest (text_from p place) ∷ k) (sym (front_behind p fs place h))

pub front_highest : (fs : List CodeFrame) (place : ℕ) → front_of fs ≡ Some place → highest fs ≡ max (highest (take (length fs - 1) fs)) place
front_highest fs place h = ap highest (front_last fs place h) ∙ highest_more (take (length fs - 1) fs) (frame.Rest place)

get_more : (fs : List CodeFrame) (x : CodeFrame) (n : ℕ) → suc n ≡ length (fs ++ x ∷ []) → slice_get (fs ++ x ∷ []) n ≡ Some x
get_more [] x zero h = refl
get_more [] x (suc n) h = absurd (omega arith)
get_more (f ∷ []) x zero h = absurd (omega arith)
get_more (f ∷ g ∷ fs) x zero h = absurd (omega arith)
get_more (f ∷ fs) x (suc n) h = get_more fs x n (omega arith)

pub front_more : (fs : List CodeFrame) (x : CodeFrame) → front_of (fs ++ x ∷ []) ≡ rest_in (Some x)
front_more fs x = let l : length (fs ++ x ∷ []) ≡ length fs + 1 = length-append fs (x ∷ []) in ap rest_in (get_more fs x (length (fs ++ x ∷ []) - 1) (omega arith))

pub rest_none : (fs gs : List CodeFrame) (place : ℕ) → front_of fs ≡ None → fs ≡ gs ++ frame.Rest place ∷ [] → ⊥
rest_none fs gs place h e = none_some (sym h ∙ (ap front_of e ∙ front_more gs (frame.Rest place)))
