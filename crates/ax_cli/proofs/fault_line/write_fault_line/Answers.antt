use Rattle.ax_cli.proofs.fault_line.write_fault_line.Goals as goal

pub returns-in-NoMemory : goal.returns-in-NoMemory
returns-in-NoMemory g c = rw c.in-NoMemory.is c.put.ensures

pub returns-in-Read : goal.returns-in-Read
returns-in-Read g c = rw c.in-Read.is c.put-in-Read.ensures

pub returns-in-Write : goal.returns-in-Write
returns-in-Write g c = rw c.in-Write.is c.put-in-Write.ensures
