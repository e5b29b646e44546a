-- What the words of texts spell, from what they are read as.
use Rattle.std.proofs.Common.{◌≡◌, ◌∙◌, sym, ℕ, List, true, false}
use Rattle.std.specs.List.{list_all}
use Rattle.std.proofs.lemmas.Bool.{true≢false}
use Rattle.ax_base.specs.Words.{words_of}
use Rattle.ax_text.specs.Exprs.{Expr}
use Rattle.ax_syntax.specs.Shapes.{is_expr}
use Rattle.ax_lang.specs.Rows.{tree_in}
use Rattle.ax_lang.specs.Spelling.{HasForm, is_there}
use Rattle.ax_lang.specs.Examples.{names, TextSpells, SpellsNone, SpellsNoneHere}
use Rattle.ax_lang.proofs.SpellingLemmas.{passes, reads_spelled}

pub text_spells : (text : List ℕ) (e : Expr) → is_expr (words_of text) ≡ true → list_all (is_there names 2) (words_of text) ≡ true → tree_in names (words_of text) ≡ e → TextSpells text e
text_spells text e h g r = (reads_spelled names 2 (words_of text) e).1 (h, g, r)

pub spells_none : (text : List ℕ) → is_expr (words_of text) ≡ false → SpellsNone text
spells_none text h e s = absurd (true≢false (sym (passes HasForm (λ w a o. o) (words_of text) e s) ∙ h))

pub spells_none_here : (text : List ℕ) → list_all (is_there names 2) (words_of text) ≡ false → SpellsNoneHere text
spells_none_here text h e s = let r = (reads_spelled names 2 (words_of text) e).0 s in absurd (true≢false (sym r.1 ∙ h))
