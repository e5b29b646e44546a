-- The arms of an accepted text may run in either order.
use Rattle.std.proofs.Common.{sym}
use Rattle.ax_text.specs.Exprs.{Facts}
use Rattle.ax_text.specs.Texts.{Text, Both}
use Rattle.ax_text.specs.Run.{World, run}
use Rattle.ax_text.specs.Underway.{ArmsCommute}
use Rattle.ax_text.proofs.Keeps.{commute, keeps_run}
use Rattle.ax_text.proofs.Accepting.{accepted_fits}

pub arms_commute : (f : Facts) (one two rest : Text) (w : World) → ArmsCommute f one two rest w
arms_commute f one two rest w a =
    let h = accepted_fits (Both one two rest) a in
    sym (commute h.0 h.1 (run f one) (run f two) h.2.apart (keeps_run f one h.0 h.3) (keeps_run f two h.1 h.4) w)
