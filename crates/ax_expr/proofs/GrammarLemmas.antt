-- What the grammar spells is read as the tree that it spells.
use Rattle.std.proofs.Common.{◌≡◌, ◌∙◌, ℕ, ◌+◌, ◌≤◌, ◌<◌, List, [], ◌∷◌, ◌++◌, Bool, Some, None, refl, sym, ap, arith, append_assoc}
use Rattle.std.proofs.lemmas.List.{append-nil}
use Rattle.std.specs.Prelude.{if◌then◌else◌}
use Rattle.std.proofs.lemmas.Bool.{le-leb, lt-leb}
use Rattle.ax_text.specs.declared.vocabulary.Op.{Op}
use Rattle.ax_text.specs.declared.vocabulary.Op.TheVariants as op
use Rattle.ax_expr.specs.declared.tree.Token.{Token}
use Rattle.ax_expr.specs.declared.tree.Token.TheVariants.{Open, Close, Sign}
use Rattle.ax_text.specs.Exprs.{Expr, Leaf, Join}
use Rattle.ax_expr.specs.Levels.{level_of}
use Rattle.ax_expr.specs.Grammar.{Derivation, Single, Enclosed, Signed, IsPart, tokens_of, tree_in, IsReading}
use Rattle.ax_expr.specs.Reading.{Waiting, Opened, Before, Joined, joined, whole, closed, with_some, walk, tree_of}

pub level_from_1 : (o : Op) → 1 ≤ level_of o
level_from_1 op.Less = omega arith
level_from_1 op.AtMost = omega arith
level_from_1 op.Equal = omega arith
level_from_1 op.Differs = omega arith
level_from_1 op.AtLeast = omega arith
level_from_1 op.Greater = omega arith
level_from_1 op.Add = omega arith
level_from_1 op.Subtract = omega arith
level_from_1 op.Multiply = omega arith
level_from_1 op.Divide = omega arith
level_from_1 op.Remainder = omega arith

-- what waits on the left binds less tightly
abbrev Looser : ℕ → List Waiting → Type 0
Looser n [] = Unit {0}
Looser n (Opened ∷ ws) = Unit {0}
Looser n (Before l o ∷ ws) = level_of o < n

looser : (n m : ℕ) (ws : List Waiting) → n ≤ m → Looser n ws → Looser m ws
looser n m [] h k = tt
looser n m (Opened ∷ ws) h k = tt
looser n m (Before l o ∷ ws) h k = omega arith

joined_looser : (m n : ℕ) (x : Expr) (ws : List Waiting) → n ≤ m → Looser n ws → joined m x ws ≡ record { value = x; waiting = ws }
joined_looser m n x [] h k = refl
joined_looser m n x (Opened ∷ ws) h k = refl
joined_looser m n x (Before l o ∷ ws) h k = ap (λ (b : Bool). if b then joined m (Join o l x) ws else record { value = x; waiting = Before l o ∷ ws }) (lt-leb m (level_of o) (omega arith))

pub joined_before : (m : ℕ) (x l : Expr) (o : Op) (ws : List Waiting) → m ≤ level_of o → joined m x (Before l o ∷ ws) ≡ joined m (Join o l x) ws
joined_before m x l o ws h = ap (λ (b : Bool). if b then joined m (Join o l x) ws else record { value = x; waiting = Before l o ∷ ws }) (le-leb m (level_of o) h)

-- tokens were read that stand for a tree
record ReadAs (n : ℕ) (t : Expr) (ws : List Waiting) (tokens : List Token) : Type 0 where
  value : Expr
  waiting : List Waiting
  goes : (ms : List Token) → walk None ws (tokens ++ ms) ≡ walk (Some value) waiting ms
  same : (m : ℕ) → m ≤ n → joined m value waiting ≡ joined m t ws

bare : (n : ℕ) (o : Op) (a b : Expr) (ws : List Waiting) (left right : List Token) → n ≤ level_of o → Looser n ws
    → ReadAs (level_of o) a ws left → ReadAs (level_of o + 1) b (Before a o ∷ ws) right
    → ReadAs n (Join o a b) ws (left ++ (Sign o ∷ right))
bare n o a b ws left right h k one two =
    let l : ℕ = level_of o in
    let j : joined l one.value one.waiting ≡ record { value = a; waiting = ws } = one.same l (omega arith) ∙ joined_looser l n a ws h k in
    record {
      value = two.value;
      waiting = two.waiting;
      goes = λ ms. ap (walk None ws) (append_assoc left (Sign o ∷ right) ms)
          ∙ (one.goes (Sign o ∷ (right ++ ms))
          ∙ (ap (λ (it : Joined). walk None (Before it.value o ∷ it.waiting) (right ++ ms)) j ∙ two.goes ms));
      same = λ m u. two.same m (omega arith) ∙ joined_before m b a o ws (omega arith);
    }

inside : (n : ℕ) (t : Expr) (ws : List Waiting) (tokens : List Token) → ReadAs 1 t (Opened ∷ ws) tokens → ReadAs n t ws (Open ∷ (tokens ++ Close ∷ []))
inside n t ws tokens r =
    let j : joined 0 r.value r.waiting ≡ record { value = t; waiting = Opened ∷ ws } = r.same 0 (omega arith) in
    record {
      value = t;
      waiting = ws;
      goes = λ ms. ap (walk None (Opened ∷ ws)) (append_assoc tokens (Close ∷ []) ms)
          ∙ (r.goes (Close ∷ ms) ∙ ap (λ (it : Joined). with_some (closed it.waiting) (λ rest. walk (Some it.value) rest ms)) j);
      same = λ m u. refl;
    }

read_as : (d : Derivation) (n : ℕ) (ws : List Waiting) → IsPart n d → Looser n ws → ReadAs n (tree_in d) ws (tokens_of d)
read_as (Single a) n ws p k = record { value = Leaf a; waiting = ws; goes = λ ms. refl; same = λ m u. refl }
read_as (Enclosed d) n ws p k = inside n (tree_in d) ws (tokens_of d) (read_as d 1 (Opened ∷ ws) p tt)
read_as (Signed l o r) n ws p k =
    let h : n ≤ level_of o = p.0 in
    bare n o (tree_in l) (tree_in r) ws (tokens_of l) (tokens_of r) h k
    (read_as l (level_of o) ws p.1 (looser n (level_of o) ws h k))
    (read_as r (level_of o + 1) (Before (tree_in l) o ∷ ws) p.2 (omega arith))

derived : (d : Derivation) → IsPart 1 d → tree_of (tokens_of d) ≡ Some (tree_in d)
derived d p =
    let r : ReadAs 1 (tree_in d) [] (tokens_of d) = read_as d 1 [] p tt in
    ap (walk None []) (sym (append-nil (tokens_of d))) ∙ (r.goes [] ∙ ap (λ (it : Joined). whole it.value it.waiting) (r.same 0 (omega arith)))

pub is_reading : (tokens : List Token) (tree : Expr) → IsReading tokens tree
is_reading tokens tree s = ap tree_of (sym s.2) ∙ (derived s.0 s.1 ∙ ap Some s.3)
