use Rattle.std.proofs.Common.{◌∙◌, ap, Some}
use Rattle.clap.specs.Walk.{Rule, rule_of}
use Rattle.clap.specs.declared.builder.action.ArgAction.TheVariants.{Set}
use Rattle.clap.specs.declared.builder.arg.Arg.{Arg}
use Rattle.ax_words.proofs.command.option.Goals as goal

pub returns-clause-rule : goal.returns-clause-rule
returns-clause-rule c =
    ap rule_of c.action.ensures
    ∙ ap (λ (a : Arg). rule_of (record a { action = Some Set })) c.long.ensures
    ∙ ap (λ (r : Rule). record r { long = Some c.args.name.now; action = Some Set }) c.new.ensures.rule
