-- What a task keeps between its steps, whatever its source and its sink are.
use Rattle.ax_base.specs.Reader.{Reader}
use Rattle.ax_task.specs.Engines.{IsReady}
use Rattle.ax_task.specs.Due.{HeldBeforeEnd}
use Rattle.ax_task.specs.Tasks.{MayRead, IsFound}
use Rattle.ax_task.specs.declared.engine.Engine.{Engine}
use Rattle.ax_task.specs.declared.reading.Reading.{Reading}
use Rattle.ax_task.specs.declared.driver.Did.{Did}
use Rattle.ax_task.specs.declared.driver.Did.TheVariants as did

-- controller and shards stand for a run, the reader may be asked on unless an end was found, what was found is an end of the input, and then
-- no event is held
pub record CanGoOn (e : Engine) (r : Reading) (lines : Reader) : Type 0 where
  pub ready : IsReady e
  pub may : MayRead lines r.found
  pub found : IsFound r.found
  pub none : HeldBeforeEnd r

-- a fact where something was done
abbrev pub Where : Did → Type 0 → Type 0
Where did.Went P = P
Where did.Took P = P
Where (did.End end) P = Unit {0}
