-- What a controller may do, read off its rooms.
use Rattle.std.specs.Prelude.{◌<ℤ◌, nat_lt, Bool, true, false, ◌&&◌, ◌||◌, not, List, [], ◌∷◌}
use Rattle.ax_context.specs.Slots.{live_count}
use Rattle.ax_time.specs.declared.epoch.Marker.{Marker}
use Rattle.ax_time.specs.declared.epoch.Marker.TheVariants as marker
use Rattle.ax_core.specs.declared.controller.Controller.{Controller}
use Rattle.ax_core.specs.Views.{accounts_of, barrier_of, contexts_of, epochs_of, mails_of, settings_of, wm_of}

abbrev pub is_empty : {A : Type 0} → List A → Bool
is_empty [] = true
is_empty (x ∷ xs) = false

-- no barrier waits to be sent, and in serial mode no marker
abbrev pub may_close : Controller → Bool
may_close a = not (barrier_of a) && (not (settings_of a).serial || is_empty (epochs_of a).closed)

-- there is room for one more context
abbrev pub has_room : Controller → Bool
has_room a = nat_lt (live_count (contexts_of a)) (contexts_of a).limit

abbrev pub may_admit : Controller → Bool
may_admit a = may_close a && (has_room a && is_empty (accounts_of a).idle)

abbrev pub may_fire : Controller → Bool
may_fire a = has_room a && not (is_empty (accounts_of a).idle)

-- a mail waits
abbrev pub has_mail : Controller → Bool
has_mail a = not (is_empty (mails_of a).mails)

-- a watermark is greater than each one before
abbrev pub IsNext : Controller → Marker → Type 0
IsNext a (marker.Mark time) = wm_of a <ℤ time
IsNext a (marker.Barrier id) = Unit {0}
