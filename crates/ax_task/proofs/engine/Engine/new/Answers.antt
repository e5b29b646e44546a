use Rattle.std.proofs.Common.{refl, ap, ◌∙◌}
use Rattle.ax_lang.specs.Shown.{shown_kinds}
use Rattle.ax_text.specs.Programs.{untouched}
use Rattle.ax_task.proofs.EngineLemmas.{first_stands}
use Rattle.ax_task.proofs.engine.Engine.new.Goals as goal

pub returns-clause-stands : goal.returns-clause-stands
returns-clause-stands c =
    let core = c.requires.unused in
    let shards = c.in_ok-shards.ensures in
    let kinds = c.decls.ensures.kinds ∙ ap shown_kinds c.program.ensures in
    first_stands c.args.config.now.settings c.args.core.program _ core.sound core.stands refl core.settings refl shards.count (shards.kinds ∙ kinds) shards.home (λ s k. shards.untouched s k ∙ ap untouched kinds) c.requires.contexts c.requires.batch
