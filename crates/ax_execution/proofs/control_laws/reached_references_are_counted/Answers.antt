use Rattle.std.proofs.Common.{◌≡◌, Some, subst}
use Rattle.ax_execution.specs.Contexts.{Running, Begun, Context}
use Rattle.ax_execution.specs.ControlOrder.{IsSoundRunning, StageIsSound, OwnerIsSound}
use Rattle.ax_text.proofs.Slots.{split_differ}
use Rattle.ax_execution.proofs.ControlReferences.{owner_has, none_referred_on, none_numbered_on, gone_unreferred_on, unreferred_gone_on}
use Rattle.ax_execution.proofs.ReachedOrderly.{reached_orderly, reached_in_order, reached_sound}
use Rattle.ax_execution.proofs.control_laws.reached_references_are_counted.Goals as goal

sound_here : (x : Context) (running : Running) → OwnerIsSound (Some x) → x.stage ≡ Begun running → IsSoundRunning running
sound_here x running a e = subst StageIsSound e a

pub returns-clause-slots : goal.returns-clause-slots
returns-clause-slots c r p m k x running accepted reached owner stage =
    split_differ running.control (sound_here x running (subst OwnerIsSound owner (reached_sound r p m accepted reached k)) stage).split

pub returns-clause-referred : goal.returns-clause-referred
returns-clause-referred c r p m k x accepted reached e = owner_has r p accepted m (reached_in_order r p m accepted reached) (reached_sound r p m accepted reached) k x e

pub returns-clause-live : goal.returns-clause-live
returns-clause-live c r p m n accepted reached = (none_referred_on n m, none_numbered_on r p accepted m (reached_in_order r p m accepted reached) (reached_sound r p m accepted reached) n)

pub returns-clause-gone : goal.returns-clause-gone
returns-clause-gone c r p m e a n accepted reached h called gone = gone_unreferred_on r p accepted m (reached_in_order r p m accepted reached) (reached_sound r p m accepted reached) n e a h ((reached_orderly r p m accepted reached).numbers n) called gone

pub returns-clause-last : goal.returns-clause-last
returns-clause-last c r p m e a n accepted reached h called none = unreferred_gone_on r p accepted m (reached_in_order r p m accepted reached) (reached_sound r p m accepted reached) n e a h called none
