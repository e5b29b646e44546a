-- What is read is in the grammar.
use Rattle.std.proofs.Common.{◌≡◌, ◌∙◌, ℕ, ◌+◌, ◌-◌, ◌≤◌, ◌<◌, List, [], ◌∷◌, ◌++◌, Bool, true, false, Option, Some, None, refl, sym, ap, subst, arith, append_assoc}
use Rattle.std.proofs.lemmas.Bool.Decides.{nat_tests}
use Rattle.std.proofs.lemmas.List.{append-nil}
use Rattle.std.proofs.lemmas.Option.{none-some, same_Some}
use Rattle.std.specs.Prelude.{nat_le, if◌then◌else◌}
use Rattle.ax_text.specs.declared.vocabulary.Op.{Op}
use Rattle.ax_expr.specs.declared.tree.Token.{Token}
use Rattle.ax_expr.specs.declared.tree.Token.TheVariants.{Operand, Open, Close, Sign}
use Rattle.ax_text.specs.Exprs.{Expr, Join}
use Rattle.ax_expr.specs.Levels.{level_of}
use Rattle.ax_expr.specs.Grammar.{Derivation, Single, Enclosed, Signed, IsPart, tokens_of, tree_in, Spells, IsGrammatical, SpellsOne, SpellsWhereBalanced}
use Rattle.ax_expr.specs.Reading.{Waiting, Opened, Before, Joined, joined, whole, closed, with_some, walk}
use Rattle.ax_expr.proofs.GrammarLemmas.{joined_before, level_from_1, is_reading}
use Rattle.ax_expr.specs.Balance.{is_balanced}
use Rattle.ax_expr.proofs.BalanceLemmas.{has_tree, has_no_tree}

-- what stands on the left, with its tokens
data Side : Type 0 where
  Bracket : Side
  Left : (part : Derivation) → (op : Op) → Side

abbrev seen : List Side → List Waiting
seen [] = []
seen (Bracket ∷ ss) = Opened ∷ seen ss
seen (Left d o ∷ ss) = Before (tree_in d) o ∷ seen ss

-- the tokens of what stands on the left, and those behind them
abbrev behind : List Side → List Token → List Token
behind [] ms = ms
behind (Bracket ∷ ss) ms = behind ss (Open ∷ ms)
behind (Left d o ∷ ss) ms = behind ss (tokens_of d ++ (Sign o ∷ ms))

-- how tightly the nearest sign binds
abbrev nearest : List Side → ℕ
nearest [] = 0
nearest (Bracket ∷ ss) = 0
nearest (Left d o ∷ ss) = level_of o

-- signs that stand in the same parentheses bind more and more tightly
abbrev Rises : List Side → Type 0
Rises [] = Unit {0}
Rises (Bracket ∷ ss) = Rises ss
Rises (Left d o ∷ ss) = (nearest ss < level_of o) × IsPart (level_of o) d × Rises ss

-- an operand was joined with what stands on its left
record Joins (n : ℕ) (d : Derivation) (ss : List Side) : Type 0 where
  by : Derivation
  sides : List Side
  is : joined n (tree_in d) (seen ss) ≡ record { value = tree_in by; waiting = seen sides }
  rises : Rises sides
  part : IsPart n by
  right : IsPart (nearest sides + 1) by
  same : (ms : List Token) → behind ss (tokens_of d ++ ms) ≡ behind sides (tokens_of by ++ ms)
  below : nearest sides ≤ n - 1

stays : (n : ℕ) (d l : Derivation) (o : Op) (ss : List Side) → nat_le n (level_of o) ≡ false → Rises (Left l o ∷ ss) → IsPart n d → IsPart (level_of o + 1) d → Joins n d (Left l o ∷ ss)
stays n d l o ss e r p q =
    record {
      by = d;
      sides = Left l o ∷ ss;
      is = ap (λ (b : Bool). if b then joined n (Join o (tree_in l) (tree_in d)) (seen ss) else record { value = tree_in d; waiting = Before (tree_in l) o ∷ seen ss }) e;
      rises = r;
      part = p;
      right = q;
      same = λ ms. refl;
      below = grind (arith, nat_tests);
    }

grows : (n : ℕ) (d l : Derivation) (o : Op) (ss : List Side) → n ≤ level_of o → Joins n (Signed l o d) ss → Joins n d (Left l o ∷ ss)
grows n d l o ss h j =
    record {
      by = j.by;
      sides = j.sides;
      is = joined_before n (tree_in d) (tree_in l) o (seen ss) h ∙ j.is;
      rises = j.rises;
      part = j.part;
      right = j.right;
      same = λ ms. ap (behind ss) (sym (append_assoc (tokens_of l) (Sign o ∷ tokens_of d) ms)) ∙ j.same ms;
      below = j.below;
    }

joins : (ss : List Side) (n : ℕ) (d : Derivation) → Rises ss → IsPart n d → IsPart (nearest ss + 1) d → Joins n d ss
joins [] n d r p q = record { by = d; sides = []; is = refl; rises = tt; part = p; right = q; same = λ ms. refl; below = omega arith }
joins (Bracket ∷ ss) n d r p q = record { by = d; sides = Bracket ∷ ss; is = refl; rises = r; part = p; right = q; same = λ ms. refl; below = omega arith }
joins (Left l o ∷ ss) n d r p q = cases (nat_le n (level_of o)) refl (λ h. joins ss n (Signed l o d) r.2 (h, r.1, q) (omega (arith, r.0), r.1, q)) where
  cases : (b : Bool) → nat_le n (level_of o) ≡ b → (n ≤ level_of o → Joins n (Signed l o d) ss) → Joins n d (Left l o ∷ ss)
  cases true e j = grows n d l o ss (grind (arith, nat_tests)) (j (grind (arith, nat_tests)))
  cases false e j = stays n d l o ss e r p q

-- at the end of an expression all is joined
ends : (d : Derivation) (ss : List Side) (t : Expr) → whole (tree_in d) (seen ss) ≡ Some t → IsPart (nearest ss + 1) d → Spells (behind ss (tokens_of d ++ [])) t
ends d [] t e p = (d, p, sym (append-nil (tokens_of d)), same_Some (tree_in d) t e)
ends d (Bracket ∷ ss) t e p = absurd (none-some t e)
ends d (Left l o ∷ ss) t e p = absurd (none-some t e)

abbrev seen_operand : Option Derivation → Option Expr
seen_operand None = None
seen_operand (Some d) = Some (tree_in d)

abbrev then_tokens : Option Derivation → List Token → List Token
then_tokens None ms = ms
then_tokens (Some d) ms = tokens_of d ++ ms

-- an operand is an atom
abbrev IsAtom : Option Derivation → Type 0
IsAtom None = Unit {0}
IsAtom (Some d) = (n : ℕ) → IsPart n d

-- a parenthesis was closed
record Closes (d : Derivation) (ss : List Side) (ms : List Token) (t : Expr) : Type 0 where
  sides : List Side
  goes : walk (Some (tree_in d)) (seen sides) ms ≡ Some t
  rises : Rises sides
  part : IsPart 1 d
  same : behind ss (tokens_of d ++ (Close ∷ ms)) ≡ behind sides (tokens_of (Enclosed d) ++ ms)

closes : (d : Derivation) (ss : List Side) (ms : List Token) (t : Expr) → with_some (closed (seen ss)) (λ rest. walk (Some (tree_in d)) rest ms) ≡ Some t → Rises ss → IsPart (nearest ss + 1) d → Closes d ss ms t
closes d [] ms t e r p = absurd (none-some t e)
closes d (Bracket ∷ ss) ms t e r p = record { sides = ss; goes = e; rises = r; part = p; same = ap (λ (xs : List Token). behind ss (Open ∷ xs)) (sym (append_assoc (tokens_of d) (Close ∷ []) ms)) }
closes d (Left l o ∷ ss) ms t e r p = absurd (none-some t e)

derives : (ms : List Token) (d : Option Derivation) (ss : List Side) (t : Expr) → IsAtom d → Rises ss → walk (seen_operand d) (seen ss) ms ≡ Some t → Spells (behind ss (then_tokens d ms)) t
derives [] None ss t a r h = absurd (none-some t h)
derives (Operand x ∷ ms) None ss t a r h = derives ms (Some (Single x)) ss t (λ n. tt) r h
derives (Open ∷ ms) None ss t a r h = derives ms None (Bracket ∷ ss) t tt r h
derives (Close ∷ ms) None ss t a r h = absurd (none-some t h)
derives (Sign o ∷ ms) None ss t a r h = absurd (none-some t h)
derives [] (Some d) ss t a r h =
    let j = joins ss 0 d r (a 0) (a (nearest ss + 1)) in
    let e = sym (ap (λ (it : Joined). whole it.value it.waiting) j.is) ∙ h in
    subst (λ (xs : List Token). Spells xs t) (sym (j.same [])) (ends j.by j.sides t e j.right)
derives (Operand x ∷ ms) (Some d) ss t a r h = absurd (none-some t h)
derives (Open ∷ ms) (Some d) ss t a r h = absurd (none-some t h)
derives (Close ∷ ms) (Some d) ss t a r h =
    let j = joins ss 0 d r (a 0) (a (nearest ss + 1)) in
    let e = sym (ap (λ (it : Joined). with_some (closed it.waiting) (λ rest. walk (Some it.value) rest ms)) j.is) ∙ h in
    let c = closes j.by j.sides ms t e j.rises j.right in
    subst (λ (xs : List Token). Spells xs t) (sym (j.same (Close ∷ ms) ∙ c.same)) (derives ms (Some (Enclosed j.by)) c.sides t (λ n. c.part) c.rises c.goes)
derives (Sign o ∷ ms) (Some d) ss t a r h =
    let j = joins ss (level_of o) d r (a (level_of o)) (a (nearest ss + 1)) in
    let e = sym (ap (λ (it : Joined). walk None (Before it.value o ∷ it.waiting) ms) j.is) ∙ h in
    subst (λ (xs : List Token). Spells xs t) (sym (j.same (Sign o ∷ ms))) (derives ms None (Left j.by o ∷ j.sides) t tt (omega (arith, j.below, level_from_1 o), j.part, j.rises) e)

pub is_grammatical : (tokens : List Token) (tree : Expr) → IsGrammatical tokens tree
is_grammatical tokens tree h = derives tokens None [] tree tt tt h

pub spells_one : (tokens : List Token) → SpellsOne tokens
spells_one tokens t u a b = same_Some t u (sym (is_reading tokens t a) ∙ is_reading tokens u b)

pub spells_where_balanced : (tokens : List Token) → SpellsWhereBalanced tokens
spells_where_balanced tokens = (λ b. let r = has_tree tokens b in (r.0, is_grammatical tokens r.0 r.1), λ s. balances tokens (is_balanced tokens) refl s) where
  balances : (tokens : List Token) (b : Bool) → is_balanced tokens ≡ b → (t : Expr) × Spells tokens t → b ≡ true
  balances tokens true e s = refl
  balances tokens false e s = absurd (none-some s.0 (sym (has_no_tree tokens e) ∙ is_reading tokens s.0 s.1))
