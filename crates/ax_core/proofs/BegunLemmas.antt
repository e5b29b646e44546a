-- A handler that has begun, or was given an answer, by what its machine tells.
use Rattle.std.proofs.Common.{◌≡◌, ℕ, pos, [], ◌∷◌, Result, Ok, Err, OnOk, refl}
use Rattle.ax_text.specs.declared.vocabulary.Answer.{Answer}
use Rattle.ax_text.specs.Controls.{Rest, waiting, replaced, begin, give}
use Rattle.ax_text.specs.Jobs.{text_for}
use Rattle.ax_text.specs.Silent.{silent}
use Rattle.ax_text.specs.Underway.{SlotsRise}
use Rattle.ax_lang.specs.declared.program.Program.{Program}
use Rattle.ax_lang.specs.Shown.{shown_program}
use Rattle.ax_future.specs.declared.callback.Turn.{Turn}
use Rattle.ax_future.specs.declared.machine.Machine.{Machine}
use Rattle.ax_future.specs.Machines as machine
use Rattle.ax_future.specs.Talks.{facts_in, asks_in}
use Rattle.ax_core.specs.declared.record.Record.{Record}
use Rattle.ax_core.specs.Callbacks.{with_machine, Begins, Resumed}

pub begun_so : {E : Type 0} (p : Program) (old : Record) (after : Machine) (t : Turn) (r : Result (Unit {0}) E)
    → OnOk r (begin (facts_in old.facts) (Rest (text_for (shown_program p) old.handler) ∷ []) [] (silent (λ i. pos 0)) ≡ machine.left_by p after t)
    → OnOk r (machine.IsSound p after) → OnOk r (waiting (machine.control_of p after) ≡ asks_in t.asks) → OnOk r (SlotsRise (asks_in t.asks)) → OnOk r (Begins p old (with_machine old after) t)
begun_so p old after t (Ok x) turn sound asks rise = record { after = after; there = refl; turn = turn; sound = sound; asks = asks; rise = rise }
begun_so p old after t (Err x) turn sound asks rise = tt

pub resumed_so : {E : Type 0} (p : Program) (old : Record) (before after : Machine) (slot : ℕ) (a : Answer) (t : Turn) (r : Result (Unit {0}) E)
    → OnOk r (give (facts_in old.facts) (machine.control_of p before) slot a (silent (machine.names_of before)) ≡ machine.left_by p after t)
    → OnOk r (machine.IsSound p after) → OnOk r (waiting (machine.control_of p after) ≡ replaced slot (asks_in t.asks) (waiting (machine.control_of p before))) → OnOk r (SlotsRise (asks_in t.asks))
    → OnOk r (Resumed p old (with_machine old after) before slot a t)
resumed_so p old before after slot a t (Ok x) turn sound asks rise = record { after = after; there = refl; turn = turn; sound = sound; asks = asks; rise = rise }
resumed_so p old before after slot a t (Err x) turn sound asks rise = tt
