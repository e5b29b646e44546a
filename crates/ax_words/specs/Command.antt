-- The command line as clap is told of it.
use Rattle.std.specs.Prelude.{true, List, [], Some, codes, cond, map}
use Rattle.clap.specs.Walk.{Rule}
use Rattle.clap.specs.Simple.{App, Shape, new_rule, new_shape}
use Rattle.clap.specs.declared.builder.action.ArgAction.TheVariants.{Set, SetTrue}
use Rattle.ax_words.specs.Words.{Spelling}

-- an option
abbrev pub rule_for : Spelling → Rule
rule_for o = record (new_rule o.0) { long = Some o.0; action = Some (cond o.1 Set SetTrue) }

-- the command with no option
abbrev pub bare : Shape
bare = record (new_shape (codes "ax")) { no_binary_name = true; disable_help_flag = true; disable_version_flag = true }

-- the command with these options
abbrev pub app_for : List Spelling → App
app_for spellings = record { top = record bare { rules = map rule_for spellings }; subs = [] }
