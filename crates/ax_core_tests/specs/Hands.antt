-- A controller with what serves its batches.
use Rattle.std.specs.Prelude.{◌≡◌, map}
use Rattle.ax_state.specs.KeyCells.{cell_kinds}
use Rattle.ax_lang.specs.declared.program.Program.{Program}
use Rattle.ax_lang.specs.Shown.{shown_kinds}
use Rattle.ax_core.specs.Sound.{IsSound}
use Rattle.ax_core.specs.Events.{names_of}
use Rattle.ax_core_tests.specs.declared.states.States.{States}
use Rattle.ax_core_tests.specs.declared.hand.Hand.{Hand}

-- the states were made for the program
pub record AreFor (p : Program) (s : States) : Type 0 where
  pub a : cell_kinds s.a ≡ shown_kinds p
  pub b : cell_kinds s.b ≡ shown_kinds p
  pub others : cell_kinds s.others ≡ shown_kinds p

-- what is out of each shard was served
pub record IsReady (h : Hand) : Type 0 where
  pub sound : IsSound h.core
  pub states : AreFor h.core.program h.states
  pub out : h.core.outs.items ≡ map names_of h.served.items
