use Rattle.std.proofs.Common.{◌≡◌, ◌∙◌, IfOk, IfErr, IfSome, List, [], None, Some, Option, ap, subst, ok_or, sym}
use Rattle.clap.specs.Words.{App, HasKind, fault_of, first_value, found_of, is_simple, is_simple_and_free, matches_of, rows_of}
use Rattle.ax_words.specs.Command.{app_for}
use Rattle.ax_words.specs.Options.{AreInRange, texts}
use Rattle.ax_words.specs.Words.{Text}
use Rattle.ax_words.specs.declared.options.Options.{Options}
use Rattle.ax_words.specs.declared.options.WordFault.TheVariants.{Usage}
use Rattle.ax_words.proofs.Asked.{asked_for, nothing_asked, simple, simple_and_free, spellings}
use Rattle.ax_words.proofs.Ranges.{with_in_range}
use Rattle.ax_words.proofs.words.read_words.Goals as goal

told_ok : (asked found : Option Options) → asked ≡ found → IfOk (ok_or found Usage) (λ o. asked ≡ Some o)
told_ok asked None e = tt
told_ok asked (Some o) e = e

told_usage : (asked found : Option Options) → asked ≡ found → IfErr (ok_or found Usage) (λ e. e ≡ Usage → asked ≡ None)
told_usage asked None e = λ _. e
told_usage asked (Some o) e = tt

in_range : (found : Option Options) → IfSome found AreInRange → IfOk (ok_or found Usage) AreInRange
in_range None h = tt
in_range (Some o) h = h

pub returns-in-Ok-try_get_matches_from : goal.returns-in-Ok-try_get_matches_from
returns-in-Ok-try_get_matches_from c =
    let words : List Text = texts c.args.words.now in
    let app = c.in-Ok.ensures in
    let found = found_of c.in-Ok-try_get_matches_from.matches in
    let rows : rows_of found ≡ matches_of (app_for spellings) words = subst (λ (a : App). rows_of found ≡ matches_of a words) app (c.in-Ok-try_get_matches_from.ensures.matches (ap is_simple app ∙ simple)).0 in
    let none : fault_of (app_for spellings) words ≡ [] = subst (λ (a : App). fault_of a words ≡ []) app (c.in-Ok-try_get_matches_from.ensures.kinds (ap is_simple_and_free app ∙ simple_and_free)) in
    let asked = asked_for words c.note_texts.ensures found rows none ∙ sym c.options_found.ensures in
    record {
      accepted = rw c.ok_or.ensures.value (told_ok _ _ asked);
      refused = rw c.ok_or.ensures.value (told_usage _ _ asked);
      ranges = rw (c.ok_or.ensures.value, c.options_found.ensures) (in_range _ (with_in_range (first_value found)));
    }

pub returns-in-Err-clause-refused : goal.returns-in-Err-clause-refused
returns-in-Err-clause-refused c = λ usage.
    let words : List Text = texts c.args.words.now in
    let app = c.in-Ok.ensures in
    let has : HasKind (fault_of (app_for spellings) words) c.in-Err.error = subst (λ (a : App). HasKind (fault_of a words) c.in-Err.error) app (c.in-Err.ensures.kinds (ap is_simple_and_free app ∙ simple_and_free)) in
    nothing_asked words c.note_texts.ensures c.in-Err.error (c.fault_of.ensures usage) has
