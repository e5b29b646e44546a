-- What clap finds in the words is what they ask for.
use Rattle.std.proofs.Common.{◌≡◌, ◌∙◌, List, [], Option, Some, None, inl, inr, ap, sym, subst, refl, true, option_and_then}
use Rattle.std.specs.List.{All}
use Rattle.std.specs.Str.{IsUtf8}
use Rattle.clap.specs.Words.{Kinds, HasKind, fault_of, first_of, first_value, is_simple, is_simple_and_free, matches_of, rows_of}
use Rattle.clap.specs.declared.error.kind.ErrorKind.TheVariants.{OutOfMemory}
use Rattle.clap.specs.declared.error.Error.{Error}
use Rattle.clap.specs.declared.parser.matches.Found.{Found}
use Rattle.clap.proofs.WalkLemmas.{first_value-rows}
use Rattle.clap.proofs.OnLiterals.{clap_on_literals}
use Rattle.ax_words.specs.Command.{app_for}
use Rattle.ax_words.specs.Options.{options, options_of, options_with}
use Rattle.ax_words.specs.Words.{Given, Spelling, Text, given_by, spellings_of, value_of}
use Rattle.ax_words.proofs.ClapCommand.{accepted, refused, first_value_of, or_none}

abbrev pub spellings : List Spelling
spellings = spellings_of options

pub simple : is_simple (app_for spellings) ≡ true
unfolding clap_on_literals
simple = refl

pub simple_and_free : is_simple_and_free (app_for spellings) ≡ true
unfolding clap_on_literals
simple_and_free = refl

-- clap finds the values that the words give
values_found : (words : List Text) → All IsUtf8 words → (f : Found) → rows_of f ≡ matches_of (app_for spellings) words → (g : Given) → given_by spellings None [] words ≡ Some g
    → (name : Text) → value_of g name ≡ first_value f name
values_found words u f rows g e name =
    let lookup = (accepted spellings words u g e).1 name in
    or_none (value_of g name) ∙ sym (first_value-rows f name ∙ ap (first_of name) rows ∙ first_value_of spellings words g name None refl lookup)

-- what the words ask for, where clap has no fault
pub asked_for : (words : List Text) → All IsUtf8 words → (f : Found) → rows_of f ≡ matches_of (app_for spellings) words → fault_of (app_for spellings) words ≡ []
    → options_of words ≡ options_with (first_value f)
asked_for words u f rows none = go (given_by spellings None [] words) refl
  where
    go : (r : Option Given) → given_by spellings None [] words ≡ r → option_and_then (λ given. options_with (value_of given)) r ≡ options_with (first_value f)
    go None e = absurd (refused spellings words u e none)
    go (Some g) e = let same = values_found words u f rows g e in λ i. options_with (λ name. same name i)

-- nothing is asked for, where clap has a fault that is no want of memory
pub nothing_asked : (words : List Text) → All IsUtf8 words → (e : Error) → (e.kind ≡ OutOfMemory → ⊥) → HasKind (fault_of (app_for spellings) words) e → options_of words ≡ None
nothing_asked words u e other has = go (given_by spellings None [] words) refl
  where
    go : (r : Option Given) → given_by spellings None [] words ≡ r → option_and_then (λ given. options_with (value_of given)) r ≡ None
    go None is = refl
    go (Some g) is =
        let free = (accepted spellings words u g is).0 in
        elim (subst (λ (ks : Kinds). HasKind ks e) free has) [ inl memory ↦ absurd (other memory) | inr among ↦ absurd among ]
