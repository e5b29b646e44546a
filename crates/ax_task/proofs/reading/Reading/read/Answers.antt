use Rattle.std.proofs.Common.{Some, refl}
use Rattle.ax_task.specs.declared.end.End.TheVariants as end
use Rattle.ax_task.specs.declared.reading.Reading.{Reading}
use Rattle.ax_task.proofs.ReadingLemmas.{reads_event, reads_end, reads_fault, reads_failed, reads_short, finds_first, finds_none, held_unfound, none_held}
use Rattle.ax_task.proofs.reading.Reading.read.Goals as goal

pub returns-in-Ok-Some-clause-reads : goal.returns-in-Ok-Some-clause-reads
returns-in-Ok-Some-clause-reads g c =
    let left = g.S.Source.left in
    let faults = g.S.Source.faults in
    let behind : Reading = record { events = c.next.new.self; next = Some c.in-Ok-Some.event; found = c.args.self.now.found } in
    reads_event c.args.self.now behind c.args.lines.now c.next.new.lines (left c.args.input.now) (left c.next.new.input) (faults c.args.input.now) (faults c.next.new.input) c.requires.next c.requires.found
    c.in-Ok-Some.event refl c.requires.found (rw c.in-Ok-Some.field-0-is at c.in-Ok-Some.ensures.passes) c.in-Ok-Some.ensures.count c.in-Ok-Some.ensures.sound

pub returns-in-Ok-None-clause-reads : goal.returns-in-Ok-None-clause-reads
returns-in-Ok-None-clause-reads g c =
    let left = g.S.Source.left in
    let faults = g.S.Source.faults in
    let behind : Reading = record { events = c.next.new.self; next = c.args.self.now.next; found = Some end.Ok } in
    reads_end c.args.self.now behind c.args.lines.now c.next.new.lines (left c.args.input.now) (left c.next.new.input) (faults c.args.input.now) (faults c.next.new.input) c.requires.next c.requires.found
    refl refl (rw c.in-Ok-None.field-0-is at c.in-Ok-None.ensures.told) (rw c.in-Ok-None.field-0-is at c.in-Ok-None.ensures.passes) c.in-Ok-None.ensures.count

pub returns-in-Err-NoMemory-clause-short : goal.returns-in-Err-NoMemory-clause-short
returns-in-Err-NoMemory-clause-short g c =
    let left = g.S.Source.left in
    let faults = g.S.Source.faults in
    let behind : Reading = record { events = c.next.new.self; next = c.args.self.now.next; found = c.args.self.now.found } in
    reads_short c.args.self.now behind c.args.lines.now c.next.new.lines (left c.args.input.now) (left c.next.new.input) (faults c.args.input.now) (faults c.next.new.input) c.requires.next c.requires.found
    (rw c.in-Err-NoMemory.field-0-is at c.in-Err-NoMemory.ensures.passes)

pub returns-in-Err-Fault-clause-reads : goal.returns-in-Err-Fault-clause-reads
returns-in-Err-Fault-clause-reads g c =
    let left = g.S.Source.left in
    let faults = g.S.Source.faults in
    let behind : Reading = record { events = c.next.new.self; next = c.args.self.now.next; found = Some (end.Input c.in-Err-Fault.line c.in-Err-Fault.kind) } in
    reads_fault c.args.self.now behind c.args.lines.now c.next.new.lines (left c.args.input.now) (left c.next.new.input) (faults c.args.input.now) (faults c.next.new.input) c.requires.next c.requires.found
    refl c.in-Err-Fault.line c.in-Err-Fault.kind refl (rw c.in-Err-Fault.field-0-is at c.in-Err-Fault.ensures.told) (rw c.in-Err-Fault.field-0-is at c.in-Err-Fault.ensures.passes) (rw c.in-Err-Fault.field-0-is at c.in-Err-Fault.ensures.count)

pub returns-in-Err-Read-clause-reads : goal.returns-in-Err-Read-clause-reads
returns-in-Err-Read-clause-reads g c =
    let left = g.S.Source.left in
    let faults = g.S.Source.faults in
    let behind : Reading = record { events = c.next.new.self; next = c.args.self.now.next; found = Some end.Read } in
    reads_failed c.args.self.now behind c.args.lines.now c.next.new.lines (left c.args.input.now) (left c.next.new.input) (faults c.args.input.now) (faults c.next.new.input) c.requires.next c.requires.found
    refl refl (rw c.in-Err-Read.field-0-is at c.in-Err-Read.ensures.told) (rw c.in-Err-Read.field-0-is at c.in-Err-Read.ensures.passes) (rw c.in-Err-Read.field-0-is at c.in-Err-Read.ensures.count)

pub returns-in-Ok-Some-clause-finds : goal.returns-in-Ok-Some-clause-finds
returns-in-Ok-Some-clause-finds g c =
    let left = g.S.Source.left in
    let faults = g.S.Source.faults in
    finds_none c.args.self.now.found (left c.args.input.now) (left c.next.new.input) (faults c.args.input.now) (faults c.next.new.input) c.requires.found c.in-Ok-Some.ensures.count

pub returns-in-Ok-None-clause-finds : goal.returns-in-Ok-None-clause-finds
returns-in-Ok-None-clause-finds g c =
    let left = g.S.Source.left in
    let faults = g.S.Source.faults in
    finds_first c.args.self.now.found (Some end.Ok) (left c.args.input.now) (left c.next.new.input) (faults c.args.input.now) (faults c.next.new.input) c.requires.found tt c.in-Ok-None.ensures.count

pub returns-in-Err-NoMemory-clause-finds : goal.returns-in-Err-NoMemory-clause-finds
returns-in-Err-NoMemory-clause-finds g c =
    let left = g.S.Source.left in
    let faults = g.S.Source.faults in
    finds_none c.args.self.now.found (left c.args.input.now) (left c.next.new.input) (faults c.args.input.now) (faults c.next.new.input) c.requires.found (rw c.in-Err-NoMemory.field-0-is at c.in-Err-NoMemory.ensures.count)

pub returns-in-Err-Fault-clause-finds : goal.returns-in-Err-Fault-clause-finds
returns-in-Err-Fault-clause-finds g c =
    let left = g.S.Source.left in
    let faults = g.S.Source.faults in
    finds_first c.args.self.now.found (Some (end.Input c.in-Err-Fault.line c.in-Err-Fault.kind)) (left c.args.input.now) (left c.next.new.input) (faults c.args.input.now) (faults c.next.new.input) c.requires.found tt (rw c.in-Err-Fault.field-0-is at c.in-Err-Fault.ensures.count)

pub returns-in-Err-Read-clause-finds : goal.returns-in-Err-Read-clause-finds
returns-in-Err-Read-clause-finds g c =
    let left = g.S.Source.left in
    let faults = g.S.Source.faults in
    finds_first c.args.self.now.found (Some end.Read) (left c.args.input.now) (left c.next.new.input) (faults c.args.input.now) (faults c.next.new.input) c.requires.found tt (rw c.in-Err-Read.field-0-is at c.in-Err-Read.ensures.count)

pub returns-in-Ok-Some-clause-none : goal.returns-in-Ok-Some-clause-none
returns-in-Ok-Some-clause-none g c = held_unfound (record { events = c.next.new.self; next = Some c.in-Ok-Some.event; found = c.args.self.now.found }) c.requires.found

pub returns-in-Ok-None-clause-none : goal.returns-in-Ok-None-clause-none
returns-in-Ok-None-clause-none g c = none_held (record { events = c.next.new.self; next = c.args.self.now.next; found = Some end.Ok }) c.requires.next

pub returns-in-Err-Fault-clause-none : goal.returns-in-Err-Fault-clause-none
returns-in-Err-Fault-clause-none g c = none_held (record { events = c.next.new.self; next = c.args.self.now.next; found = Some (end.Input c.in-Err-Fault.line c.in-Err-Fault.kind) }) c.requires.next

pub returns-in-Err-Read-clause-none : goal.returns-in-Err-Read-clause-none
returns-in-Err-Read-clause-none g c = none_held (record { events = c.next.new.self; next = c.args.self.now.next; found = Some end.Read }) c.requires.next
