-- Each seat remembers, beside its view, what its steps did at the words.
use Rattle.std.specs.Prelude.{◌≡◌, ◌↔◌, ℕ, List, ◌∷◌, ◌++◌, map}
use Rattle.atomic_table.specs.Table.{State, Me, Step}
use Rattle.ax_board.specs.declared.view.Deed.{Deed}
use Rattle.ax_board.specs.declared.view.Deed.TheVariants.{Found, Left, Added}

-- what the steps of a seat did at the words, the last one first
abbrev pub Trail : Type 0
Trail = List Deed

-- a load or an exchange more, which found some number at the word i. It won where that is the number that was wanted
abbrev pub Tried : ℕ → ℕ → Type 0 → Trail → Trail → Type 0
Tried i wanted won old new = (n : ℕ) × (new ≡ Found i n ∷ old) × (won ↔ (n ≡ wanted))

-- one step more, which added one to the word of this bell
abbrev pub Rang : ℕ → Trail → Trail → Type 0
Rang bell old new = (n : ℕ) × (new ≡ Added bell n 1 ∷ old)

-- some loads more, and nothing else
abbrev pub Looked : Trail → Trail → Type 0
Looked old new = (seen : List (ℕ × ℕ)) × (new ≡ map (λ (x : ℕ × ℕ). Found x.0 x.1) seen ++ old)

module _ {S V : Type 0} where
  abbrev pub bare : Me S (V × Trail) → Me S V
  bare m = (m.0.0, m.1)

  -- a rule that says nothing of the trails
  abbrev pub Bare : (State S V → Type 0) → State S (V × Trail) → Type 0
  Bare holds s = holds record { words = s.words; homes = s.homes; views = map (λ (v : V × Trail). v.0) s.views }

  -- a load or an exchange, with the number that it found
  abbrev pub finds : (Step S → Me S V → ℕ → Me S V → Type 0) → Step S → Me S (V × Trail) → ℕ → Me S (V × Trail) → Type 0
  finds then st m r n = then st (bare m) r (bare n) × (n.0.1 ≡ Found st.word r ∷ m.0.1)

  -- an addition, with the number that it found and the one that it added
  abbrev pub adds : (Step S → Me S V → ℕ → Me S V → Type 0) → Step S → Me S (V × Trail) → ℕ → Me S (V × Trail) → Type 0
  adds then st m r n = then st (bare m) r (bare n) × (n.0.1 ≡ Added st.word r st.first ∷ m.0.1)

  -- a store, with the number that it left
  abbrev pub leaves : (Step S → Me S V → ℕ → Me S V → Type 0) → Step S → Me S (V × Trail) → ℕ → Me S (V × Trail) → Type 0
  leaves then st m r n = then st (bare m) r (bare n) × (n.0.1 ≡ Left st.word st.first ∷ m.0.1)
