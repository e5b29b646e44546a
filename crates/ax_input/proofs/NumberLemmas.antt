-- Numbers, one word after another.
use Rattle.std.proofs.Common.{◌≡◌, ℤ, List, [], ◌∷◌, ◌++◌, Option, Some, None, refl, sym, ap, ◌∙◌}
use Rattle.ax_base.specs.Numbers.{number_of}
use Rattle.ax_syntax.specs.Words.{Word}
use Rattle.ax_input.specs.Spellings.{onto_some, numbers_of}

-- numbers in front of others, if there are any
abbrev pub onto : List ℤ → Option (List ℤ) → Option (List ℤ)
onto [] ns = ns
onto (x ∷ xs) ns = onto_some (Some x) (onto xs ns)

pub onto_none : (xs : List ℤ) → onto xs None ≡ None
onto_none [] = refl
onto_none (x ∷ xs) = ap (onto_some (Some x)) (onto_none xs)

pub onto_nil : (xs : List ℤ) → onto xs (Some []) ≡ Some xs
onto_nil [] = refl
onto_nil (x ∷ xs) = ap (onto_some (Some x)) (onto_nil xs)

onto_more : (xs : List ℤ) (x : ℤ) (ns : Option (List ℤ)) → onto (xs ++ x ∷ []) ns ≡ onto xs (onto_some (Some x) ns)
onto_more [] x ns = refl
onto_more (y ∷ xs) x ns = ap (onto_some (Some y)) (onto_more xs x ns)

-- one word on
pub onto_number : (xs : List ℤ) (x : ℤ) (w : Word) (ws : List Word) → number_of w ≡ Some x → onto (xs ++ x ∷ []) (numbers_of ws) ≡ onto xs (numbers_of (w ∷ ws))
onto_number xs x w ws e = onto_more xs x (numbers_of ws) ∙ ap (λ n. onto xs (onto_some n (numbers_of ws))) (sym e)

-- a word that is no number
pub onto_no_number : (xs : List ℤ) (w : Word) (ws : List Word) → number_of w ≡ None → onto xs (numbers_of (w ∷ ws)) ≡ None
onto_no_number xs w ws e = ap (λ n. onto xs (onto_some n (numbers_of ws))) e ∙ onto_none xs
