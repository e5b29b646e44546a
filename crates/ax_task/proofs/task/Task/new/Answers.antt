use Rattle.std.proofs.Common.{◌≡◌, [], w64, to_z, of_z, rules, Option, sym, ap, subst, ◌∙◌}
use Rattle.ax_lang.specs.declared.program.Program.{Program}
use Rattle.ax_lang.specs.Shown.{shown_program}
use Rattle.ax_task.specs.Engines.{Stands}
use Rattle.ax_task.specs.Tasks.{MayRead, IsFound}
use Rattle.ax_task.specs.declared.end.End.{End}
use Rattle.ax_task.proofs.Running.{starts_running}
use Rattle.ax_task.proofs.task.Task.new.Goals as goal

pub returns-clause-begins : goal.returns-clause-begins
returns-clause-begins c = λ p now is.
    let reading = c.new-reading.ensures in
    let same : to_z w64 (of_z w64 c.args.last_id) ≡ c.args.last_id = search rules in
    let fields = reading.fields ∙ c.fields.ensures.value ∙ ap (λ (q : Program). (shown_program q).fields) (c.program.ensures ∙ is) in
    starts_running c.args.c.now.settings p c.args.last_id _ _ c.args.lines _ now (subst (λ (q : Program). Stands c.args.c.now.settings q c.in_ok-engine.engine [] []) is c.in_ok-engine.ensures.stands)
    fields (reading.last ∙ same) reading.next reading.found c.requires.sound c.in_ok-room.ensures

pub returns-clause-steady : goal.returns-clause-steady
returns-clause-steady c =
    let found = sym c.new-reading.ensures.found in
    record {
      ready = record { settings = c.args.c.now.settings; program = c.args.core.program; read = []; written = []; stands = c.in_ok-engine.ensures.stands };
      may = subst (λ (o : Option End). MayRead c.args.lines o) found c.requires.sound;
      found = subst IsFound found tt;
      none = λ some. c.new-reading.ensures.next;
    }

pub returns-clause-fresh : goal.returns-clause-fresh
returns-clause-fresh c = record { next = c.new-reading.ensures.next; found = c.new-reading.ensures.found; gathered = c.in_ok-room.ensures }
