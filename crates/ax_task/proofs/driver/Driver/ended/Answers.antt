use Rattle.ax_task.proofs.Going.{ends_well, at_rest, none_held, cant_be}
use Rattle.ax_task.proofs.Stepping.{by_found, found_end, end_still}
use Rattle.ax_task.proofs.driver.Driver.ended.Goals as goal

pub returns-clause-well : goal.returns-clause-well
returns-clause-well c = ends_well c.args.self.now.engine c.args.self.now.reading c.requires.ready c.requires.quiet c.requires.mails c.requires.waits c.requires.blocked c.in-Some.end c.in-Some.is

pub returns-clause-rest : goal.returns-clause-rest
returns-clause-rest c = at_rest c.args.self.now.engine c.args.self.now.reading c.requires.ready c.requires.quiet c.requires.mails c.requires.waits c.requires.blocked c.in-Some.end c.in-Some.is c.requires.found

pub returns-clause-counts : goal.returns-clause-counts
returns-clause-counts c = end_still c.in-Some.end (found_end c.args.self.now.reading.found c.in-Some.end c.in-Some.is c.requires.found)

pub returns-clause-left : goal.returns-clause-left
returns-clause-left c = by_found c.in-Some.end (found_end c.args.self.now.reading.found c.in-Some.end c.in-Some.is c.requires.found) (record {
  work = c.requires.work;
  held = none_held c.args.self.now.engine c.args.self.now.reading c.requires.ready c.requires.quiet c.requires.mails c.requires.waits c.requires.blocked;
  waits = c.requires.waits;
})

pub unreachable-requires : goal.unreachable-requires
unreachable-requires c = cant_be c.args.self.now.engine c.args.self.now.reading c.requires.ready c.requires.quiet c.requires.mails c.requires.waits c.requires.blocked c.requires.looked c.in-None.is
