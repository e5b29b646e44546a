use Rattle.ax_execution.proofs.CellsKept.{only_serve, serve_applies}
use Rattle.ax_execution.proofs.controls.only_serves_change_cells.Goals as goal

pub returns-clause-others : goal.returns-clause-others
returns-clause-others c g p e m k h = only_serve g p e m k h

pub returns-clause-served : goal.returns-clause-served
returns-clause-served c g p m k slot it running q owner stage asked = serve_applies g p m k slot it running q owner stage asked
