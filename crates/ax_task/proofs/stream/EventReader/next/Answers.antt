use Rattle.std.proofs.Common.{rules, ◌∙◌}
use Rattle.ax_task.proofs.Passing.{goes_on, next_skips, next_event_passes, next_err_passes, next_fails, some_passes}
use Rattle.ax_task.specs.Passes.{events_at}
use Rattle.ax_task.proofs.stream.EventReader.next.Goals as goal

pub returns-in-Err-clause-passes : goal.returns-in-Err-clause-passes
returns-in-Err-clause-passes g c =
    let left = g.S.Source.left in
    let first = c.args.self.now in
    let now = c.line.self in
    let behind = c.event_at.new.self in
    let read = rw c.in-Ok-Some.field-0-is at c.in-Ok-Some.ensures.read_here in
    next_err_passes (events_at first.fields first.last c.args.lines.now) (events_at now.fields now.last c.line.lines) c.args.lines.now.held c.line.lines.held (left c.args.input.now) (left c.line.input) (left c.next_in.new.input)
    (events_at behind.fields behind.last c.next_in.new.self) c.next_in.new.self.held read.0 c.in-Ok-Some.line.number c.in-Err.kind c.fault_at.result c.fault_at.ensures
    c.line.invariant.goes read.1

pub line-preserved : goal.line-preserved
line-preserved g c =
    let left = g.S.Source.left in
    let first = c.args.self.now in
    let now = c.line.self in
    let behind = c.event_at.new.self in
    record {
      same = search rules;
      goes = goes_on (events_at first.fields first.last c.args.lines.now) (events_at now.fields now.last c.line.lines) (events_at behind.fields behind.last c.next_in.new.self) (left c.args.input.now) (left c.line.input) (left c.next_in.new.input)
          c.args.lines.now.held c.line.lines.held c.next_in.new.self.held c.line.invariant.goes
          (next_skips now.fields behind.fields now.last behind.last (left c.line.input) (left c.next_in.new.input) c.line.lines c.next_in.new.self c.in-Ok-Some.line (rw c.in-Ok-Some.field-0-is at c.in-Ok-Some.ensures.read_here)
          (rw c.in-Ok-None-event_at.field-0-is at c.in-Ok-None-event_at.ensures.reads) (rw c.in-Ok-Some.field-0-is at c.in-Ok-Some.ensures.steps).1 c.in-Ok-None-event_at.ensures.fields (rw c.in-Ok-None-event_at.field-0-is at c.in-Ok-None-event_at.ensures.last));
      sound = search rules;
      less = search rules;
      count = c.in-Ok-Some.ensures.count ∙ c.line.invariant.count;
    }

pub returns-in-Err-Read-clause-passes : goal.returns-in-Err-Read-clause-passes
returns-in-Err-Read-clause-passes g c =
    let left = g.S.Source.left in
    let first = c.args.self.now in
    let now = c.line.self in
    next_fails now.fields now.last (events_at first.fields first.last c.args.lines.now) c.args.lines.now.held (left c.args.input.now) (left c.line.input) (left c.next_in.new.input) c.line.lines c.next_in.new.self
    c.line.invariant.goes (rw c.in-Err-Read.field-0-is at c.in-Err-Read.ensures.read_here)
    (rw c.in-Err-Read.field-0-is at c.in-Err-Read.ensures.steps).0 (rw c.in-Err-Read.field-0-is at c.in-Err-Read.ensures.steps).1 ((rw c.in-Err-Read.field-0-is at c.in-Err-Read.ensures.waits) tt)

pub returns-in-Err-NoMemory-clause-passes : goal.returns-in-Err-NoMemory-clause-passes
returns-in-Err-NoMemory-clause-passes g c =
    let left = g.S.Source.left in
    let first = c.args.self.now in
    let now = c.line.self in
    let read = rw c.in-Err-NoMemory.field-0-is at c.in-Err-NoMemory.ensures.read_here in
    some_passes (events_at first.fields first.last c.args.lines.now) (events_at now.fields now.last c.line.lines) c.args.lines.now.held c.line.lines.held (left c.args.input.now) (left c.line.input) (left c.next_in.new.input)
    read.0 c.line.invariant.goes read.1

pub returns-in-Ok-None-clause-passes : goal.returns-in-Ok-None-clause-passes
returns-in-Ok-None-clause-passes g c =
    let left = g.S.Source.left in
    let first = c.args.self.now in
    let now = c.line.self in
    let read = rw c.in-Ok-None.field-0-is at c.in-Ok-None.ensures.read_here in
    some_passes (events_at first.fields first.last c.args.lines.now) (events_at now.fields now.last c.line.lines) c.args.lines.now.held c.line.lines.held (left c.args.input.now) (left c.line.input) (left c.next_in.new.input)
    read.0 c.line.invariant.goes read.1

pub returns-in-Err-TooLong-clause-passes : goal.returns-in-Err-TooLong-clause-passes
returns-in-Err-TooLong-clause-passes g c =
    let left = g.S.Source.left in
    let first = c.args.self.now in
    let now = c.line.self in
    let read = rw c.in-Err-TooLong.field-0-is at c.in-Err-TooLong.ensures.read_here in
    some_passes (events_at first.fields first.last c.args.lines.now) (events_at now.fields now.last c.line.lines) c.args.lines.now.held c.line.lines.held (left c.args.input.now) (left c.line.input) (left c.next_in.new.input)
    read.0 c.line.invariant.goes read.1

pub returns-in-Err-TooMuch-clause-passes : goal.returns-in-Err-TooMuch-clause-passes
returns-in-Err-TooMuch-clause-passes g c =
    let left = g.S.Source.left in
    let first = c.args.self.now in
    let now = c.line.self in
    let read = rw c.in-Err-TooMuch.field-0-is at c.in-Err-TooMuch.ensures.read_here in
    some_passes (events_at first.fields first.last c.args.lines.now) (events_at now.fields now.last c.line.lines) c.args.lines.now.held c.line.lines.held (left c.args.input.now) (left c.line.input) (left c.next_in.new.input)
    read.0 c.line.invariant.goes read.1

pub returns-in-Ok-Some-event_at-clause-passes : goal.returns-in-Ok-Some-event_at-clause-passes
returns-in-Ok-Some-event_at-clause-passes g c =
    let left = g.S.Source.left in
    let first = c.args.self.now in
    let now = c.line.self in
    let behind = c.event_at.new.self in
    next_event_passes now.fields behind.fields now.last behind.last (events_at first.fields first.last c.args.lines.now) c.args.lines.now.held
    (left c.args.input.now) (left c.line.input) (left c.next_in.new.input) c.line.lines c.next_in.new.self c.in-Ok-Some.line c.in-Ok-Some-event_at.event
    c.line.invariant.goes (rw c.in-Ok-Some.field-0-is at c.in-Ok-Some.ensures.read_here)
    (rw c.in-Ok-Some-event_at.field-0-is at c.in-Ok-Some-event_at.ensures.reads).0 (rw c.in-Ok-Some.field-0-is at c.in-Ok-Some.ensures.steps).1 (rw c.in-Ok-Some-event_at.field-0-is at c.in-Ok-Some-event_at.ensures.reads).1 c.in-Ok-Some-event_at.ensures.fields (rw c.in-Ok-Some-event_at.field-0-is at c.in-Ok-Some-event_at.ensures.last)
