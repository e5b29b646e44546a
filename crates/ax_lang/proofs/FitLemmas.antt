-- Where what the lines of a handler speak of exists, so does what their text speaks of.
use Rattle.std.proofs.Common.{◌≡◌, ℕ, ◌≤◌, List, [], ◌∷◌, refl, arith, true, ◌&&◌, Option, Some, None, Vec, map, Bool, nat_lt, nat_eq, not}
use Rattle.std.specs.List.{list_all}
use Rattle.std.proofs.lemmas.Bool.{and_parts, and_from, lt-ltb, ltb-true}
use Rattle.ax_text.specs.declared.vocabulary.Kind.{Kind}
use Rattle.ax_text.specs.declared.vocabulary.Kind.TheVariants as kind
use Rattle.ax_text.specs.declared.vocabulary.Atom.{Atom}
use Rattle.ax_text.specs.declared.vocabulary.Atom.TheVariants as atom
use Rattle.ax_text.specs.Exprs.{Expr, Leaf, Join}
use Rattle.ax_text.specs.Texts.{Loop, Items, Entries, Let, Emit, Timer, Untimer, Get, GetAt, Has, Empty, Put, PutAt, PutAll, Add, Remove, Clear}
use Rattle.ax_text.specs.Rows.{HandlerLine, ActLine, AskLine, IfLine, EachLine, BothLine, SecondLine, EndLine, Level, top, below, before, levels_of, text_of}
use Rattle.ax_text.specs.Valid.{has_kind, atom_fits, expr_fits, exprs_fit, quiet_fits, asking_fits, loop_fits, text_fits, timer_fits}
use Rattle.ax_lang.specs.declared.step.HandlerLine.{HandlerLine as CodeLine}
use Rattle.std.specs.declared.alloc.Global.{Global}
use Rattle.ax_lang.specs.Forms.{shown_row}
use Rattle.ax_lang.specs.Steps.{row_fits, rows_some, text_if}

lt_more : (i f g : ℕ) → f ≤ g → nat_lt i f ≡ true → nat_lt i g ≡ true
lt_more i f g h e = let low = ltb-true i f e in lt-ltb i g (omega arith)

atom_more : (f g n m : ℕ) (a : Atom) → f ≤ g → n ≤ m → atom_fits f n a ≡ true → atom_fits g m a ≡ true
atom_more f g n m (atom.Number z) h i e = e
atom_more f g n m (atom.Name x) h i e = lt_more x n m i e
atom_more f g n m (atom.Field x) h i e = lt_more x f g h e
atom_more f g n m atom.Time h i e = refl
atom_more f g n m atom.Watermark h i e = refl

expr_more : (f g n m : ℕ) (x : Expr) → f ≤ g → n ≤ m → expr_fits f n x ≡ true → expr_fits g m x ≡ true
expr_more f g n m (Leaf a) h i e = atom_more f g n m a h i e
expr_more f g n m (Join o a b) h i e =
    let p = and_parts (expr_fits f n a) (expr_fits f n b) e in
    and_from (expr_fits g m a) (expr_fits g m b) (expr_more f g n m a h i p.0) (expr_more f g n m b h i p.1)

all_more : (f g n m : ℕ) (xs : List Expr) → f ≤ g → n ≤ m → list_all (expr_fits f n) xs ≡ true → list_all (expr_fits g m) xs ≡ true
all_more f g n m [] h i e = refl
all_more f g n m (x ∷ xs) h i e =
    let p = and_parts (expr_fits f n x) (list_all (expr_fits f n) xs) e in
    and_from (expr_fits g m x) (list_all (expr_fits g m) xs) (expr_more f g n m x h i p.0) (all_more f g n m xs h i p.1)

first_more : (x a y : Bool) → (x && a) ≡ true → (x ≡ true → y ≡ true) → (y && a) ≡ true
first_more x a y e go = let p = and_parts x a e in and_from y a (go p.0) p.1

second_more : (a x y : Bool) → (a && x) ≡ true → (x ≡ true → y ≡ true) → (a && y) ≡ true
second_more a x y e go = let p = and_parts a x e in and_from a y p.0 (go p.1)

both_more : (f g n m : ℕ) (x y : Expr) → f ≤ g → n ≤ m → (expr_fits f n x && expr_fits f n y) ≡ true → (expr_fits g m x && expr_fits g m y) ≡ true
both_more f g n m x y h i e =
    let p = and_parts (expr_fits f n x) (expr_fits f n y) e in
    and_from (expr_fits g m x) (expr_fits g m y) (expr_more f g n m x h i p.0) (expr_more f g n m y h i p.1)

exprs_more : (f g n m : ℕ) (xs : List Expr) → f ≤ g → n ≤ m → exprs_fit f n xs ≡ true → exprs_fit g m xs ≡ true
exprs_more f g n m xs h i e = second_more _ (list_all (expr_fits f n) xs) (list_all (expr_fits g m) xs) e (all_more f g n m xs h i)

-- a name and a state, and some more
named_more : (n m name : ℕ) (state x y : Bool) → n ≤ m → ((nat_lt name n && state) && x) ≡ true → (x ≡ true → y ≡ true) → ((nat_lt name m && state) && y) ≡ true
named_more n m name state x y i e go =
    let p = and_parts (nat_lt name n && state) x e in
    and_from (nat_lt name m && state) y (first_more (nat_lt name n) state (nat_lt name m) p.0 (lt_more name n m i)) (go p.1)

loop_more : (n m : ℕ) (ks : List Kind) (l : Loop) → n ≤ m → loop_fits n ks l ≡ true → loop_fits m ks l ≡ true
loop_more n m ks (Items name state) i e = first_more (nat_lt name n) _ (nat_lt name m) e (lt_more name n m i)
loop_more n m ks (Entries key number state) i e =
    first_more ((nat_lt key n && nat_lt number n) && not (nat_eq key number)) (has_kind ks state kind.Map) ((nat_lt key m && nat_lt number m) && not (nat_eq key number)) e (λ x.
    first_more (nat_lt key n && nat_lt number n) (not (nat_eq key number)) (nat_lt key m && nat_lt number m) x (λ y.
    let p = and_parts (nat_lt key n) (nat_lt number n) y in
    and_from (nat_lt key m) (nat_lt number m) (lt_more key n m i p.0) (lt_more number n m i p.1)))

row_more : (f g n m : ℕ) (ks : List Kind) (r : HandlerLine) → f ≤ g → n ≤ m → row_fits f n ks r ≡ true → row_fits g m ks r ≡ true
row_more f g n m ks (ActLine (Let name x)) h i e =
    let p = and_parts (nat_lt name n) (expr_fits f n x) e in
    and_from (nat_lt name m) (expr_fits g m x) (lt_more name n m i p.0) (expr_more f g n m x h i p.1)
row_more f g n m ks (ActLine (Emit values)) h i e = exprs_more f g n m values h i e
row_more f g n m ks (ActLine (Timer time)) h i e = expr_more f g n m time h i e
row_more f g n m ks (ActLine (Untimer time)) h i e = expr_more f g n m time h i e
row_more f g n m ks (AskLine (Get name state missing)) h i e = named_more n m name _ _ _ i e (expr_more f g n m missing h i)
row_more f g n m ks (AskLine (GetAt name state place missing)) h i e = named_more n m name _ _ _ i e (both_more f g n m place missing h i)
row_more f g n m ks (AskLine (Has name state place)) h i e = named_more n m name _ _ _ i e (expr_more f g n m place h i)
row_more f g n m ks (AskLine (Empty name state)) h i e = first_more (nat_lt name n) _ (nat_lt name m) e (lt_more name n m i)
row_more f g n m ks (AskLine (Put state number)) h i e = second_more _ _ _ e (expr_more f g n m number h i)
row_more f g n m ks (AskLine (PutAt state place number)) h i e = second_more _ _ _ e (both_more f g n m place number h i)
row_more f g n m ks (AskLine (PutAll state numbers)) h i e = second_more _ _ _ e (exprs_more f g n m numbers h i)
row_more f g n m ks (AskLine (Add state number)) h i e = second_more _ _ _ e (expr_more f g n m number h i)
row_more f g n m ks (AskLine (Remove state place)) h i e = second_more _ _ _ e (expr_more f g n m place h i)
row_more f g n m ks (AskLine (Clear state)) h i e = e
row_more f g n m ks (IfLine x) h i e = expr_more f g n m x h i e
row_more f g n m ks (EachLine l) h i e = loop_more n m ks l i e
row_more f g n m ks BothLine h i e = refl
row_more f g n m ks SecondLine h i e = refl
row_more f g n m ks EndLine h i e = refl

-- what fits goes on to fit where more exists
pub rows_grow : (f g n m : ℕ) (ks : List Kind) (rs : List HandlerLine) → f ≤ g → n ≤ m → list_all (row_fits f n ks) rs ≡ true → list_all (row_fits g m ks) rs ≡ true
rows_grow f g n m ks [] h i e = refl
rows_grow f g n m ks (r ∷ rs) h i e =
    let p = and_parts (row_fits f n ks r) (list_all (row_fits f n ks) rs) e in
    and_from (row_fits g m ks r) (list_all (row_fits g m ks) rs) (row_more f g n m ks r h i p.0) (rows_grow f g n m ks rs h i p.1)

-- lines of a timer fit where a row has values
pub rows_more : (fields locals : ℕ) (ks : List Kind) (rs : List HandlerLine) → list_all (row_fits 0 locals ks) rs ≡ true → list_all (row_fits fields locals ks) rs ≡ true
rows_more fields locals ks rs e = rows_grow 0 fields locals locals ks rs (omega arith) (omega arith) e

-- the texts of the open blocks fit
abbrev LevelFits : ℕ → ℕ → List Kind → Level → Type 0
LevelFits f n ks l = (text_fits f n ks l.text ≡ true) × (text_fits f n ks l.second ≡ true)

abbrev LevelsFit : ℕ → ℕ → List Kind → List Level → Type 0
LevelsFit f n ks [] = Unit {0}
LevelsFit f n ks (l ∷ ls) = LevelFits f n ks l × LevelsFit f n ks ls

top_fits : (f n : ℕ) (ks : List Kind) (ls : List Level) → LevelsFit f n ks ls → LevelFits f n ks (top ls)
top_fits f n ks [] h = (refl, refl)
top_fits f n ks (l ∷ ls) h = h.0

below_fits : (f n : ℕ) (ks : List Kind) (ls : List Level) → LevelsFit f n ks ls → LevelsFit f n ks (below ls)
below_fits f n ks [] h = tt
below_fits f n ks (l ∷ ls) h = h.1

before_fits : (f n : ℕ) (ks : List Kind) (r : HandlerLine) (ls : List Level) → row_fits f n ks r ≡ true → LevelsFit f n ks ls → LevelsFit f n ks (before r ls)
before_fits f n ks (ActLine q) ls e h =
    let t = top_fits f n ks ls h in
    ((and_from (quiet_fits f n q) (text_fits f n ks (top ls).text) e t.0, t.1), below_fits f n ks ls h)
before_fits f n ks (AskLine a) ls e h =
    let t = top_fits f n ks ls h in
    ((and_from (asking_fits f n ks a) (text_fits f n ks (top ls).text) e t.0, t.1), below_fits f n ks ls h)
before_fits f n ks (IfLine x) ls e h =
    let t = top_fits f n ks ls h in
    let b = below_fits f n ks ls h in
    let u = top_fits f n ks (below ls) b in
    let one = text_fits f n ks (top ls).text in
    let other = text_fits f n ks (top ls).second in
    let rest = text_fits f n ks (top (below ls)).text in
    ((and_from (expr_fits f n x && one) (other && rest) (and_from (expr_fits f n x) one e t.0) (and_from other rest t.1 u.0), u.1), below_fits f n ks (below ls) b)
before_fits f n ks (EachLine l) ls e h =
    let t = top_fits f n ks ls h in
    let b = below_fits f n ks ls h in
    let u = top_fits f n ks (below ls) b in
    let body = text_fits f n ks (top ls).text in
    let rest = text_fits f n ks (top (below ls)).text in
    ((and_from (loop_fits n ks l && body) rest (and_from (loop_fits n ks l) body e t.0) u.0, u.1), below_fits f n ks (below ls) b)
before_fits f n ks BothLine ls e h =
    let t = top_fits f n ks ls h in
    let b = below_fits f n ks ls h in
    let u = top_fits f n ks (below ls) b in
    let one = text_fits f n ks (top ls).text in
    let two = text_fits f n ks (top ls).second in
    let rest = text_fits f n ks (top (below ls)).text in
    ((and_from (one && two) rest (and_from one two t.0 t.1) u.0, u.1), below_fits f n ks (below ls) b)
before_fits f n ks SecondLine ls e h = ((refl, (top_fits f n ks ls h).0), below_fits f n ks ls h)
before_fits f n ks EndLine ls e h = ((refl, refl), h)

levels_fit : (f n : ℕ) (ks : List Kind) (rs : List HandlerLine) → list_all (row_fits f n ks) rs ≡ true → LevelsFit f n ks (levels_of rs)
levels_fit f n ks [] e = tt
levels_fit f n ks (r ∷ rs) e =
    let p = and_parts (row_fits f n ks r) (list_all (row_fits f n ks) rs) e in
    before_fits f n ks r (levels_of rs) p.0 (levels_fit f n ks rs p.1)

pub text_of_fits : (fields locals : ℕ) (ks : List Kind) (rs : List HandlerLine) → list_all (row_fits fields locals ks) rs ≡ true → text_fits fields locals ks (text_of rs) ≡ true
unfolding text_of
text_of_fits fields locals ks rs e = (top_fits fields locals ks (levels_of rs) (levels_fit fields locals ks rs e)).0

pub timer_of_fits : (locals : ℕ) (ks : List Kind) (rows : Option (Vec CodeLine Global)) → list_all (row_fits 0 locals ks) (rows_some rows) ≡ true → timer_fits locals ks (text_if rows) ≡ true
timer_of_fits locals ks None e = refl
timer_of_fits locals ks (Some rows) e = text_of_fits 0 locals ks (map shown_row rows.items) e
