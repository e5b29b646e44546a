-- Expressions of a few words.
use Rattle.std.specs.Prelude.{ℕ, List, [], ◌∷◌}
use lib.Chars.{codes}
use Rattle.ax_base.specs.Words.{words_of}
use Rattle.ax_text.specs.declared.vocabulary.Atom.TheVariants as atom
use Rattle.ax_text.specs.Exprs.{Expr, Leaf}
use Rattle.ax_syntax.specs.Words.{Word}
use Rattle.ax_lang.specs.Spelling.{WordsSpell, HasForm, StandsFor}

-- three local names, in a handler with two values

abbrev pub names : List Word
names = codes "a" ∷ codes "b" ∷ codes "c" ∷ []

abbrev pub a : Expr
a = Leaf (atom.Name 0)

abbrev pub b : Expr
b = Leaf (atom.Name 1)

abbrev pub c : Expr
c = Leaf (atom.Name 2)

-- the words of a text spell this expression
abbrev pub TextSpells : List ℕ → Expr → Type 0
TextSpells text e = WordsSpell (StandsFor names 2) (words_of text) e

-- they spell none, whatever their operands stand for
abbrev pub SpellsNone : List ℕ → Type 0
SpellsNone text = (e : Expr) → WordsSpell HasForm (words_of text) e → ⊥

-- they spell none with these names and values
abbrev pub SpellsNoneHere : List ℕ → Type 0
SpellsNoneHere text = (e : Expr) → WordsSpell (StandsFor names 2) (words_of text) e → ⊥
