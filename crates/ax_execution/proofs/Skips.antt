-- The machine takes no watermark that is skipped.
use Rattle.std.proofs.Common.{◌≡◌, ℕ, ℤ, int_lt, List, [], ◌∷◌, refl, ap, ◌∙◌, subst}
use Rattle.std.proofs.lemmas.Bool.{cond-true}
use Rattle.ax_text.specs.Programs.{Program}
use Rattle.ax_machine.specs.Events.{Event, without_skipped}
use Rattle.ax_machine.specs.Events as event
use Rattle.ax_execution.specs.Machine.{ByWatermark, ByBarrier, Closed, Machine, Happening, Admit, Close, Fire, Start, Serve, Deliver, Send, Rules, send_first, happens, taken}
use Rattle.ax_execution.specs.Allowed.{IsRun}

send_wm : (g : ℕ) (p : Program) (cs : List Closed) (m : Machine) → (send_first g p cs m).wm ≡ m.wm
send_wm g p [] m = refl
send_wm g p (c ∷ cs) m = refl

pub none_skipped : (r : Rules) (g : ℕ) (p : Program) (es : List Happening) (m : Machine) → IsRun r g p es m → without_skipped m.wm (taken es) ≡ taken es
none_skipped r g p [] m h = refl
none_skipped r g p (Admit n k time values ∷ es) m h = ap (λ (xs : List Event). event.Row k time values ∷ xs) (none_skipped r g p es _ h.1)
none_skipped r g p (Close (ByWatermark w) ∷ es) m h =
    cond-true (int_lt m.wm w) (event.Mark w ∷ without_skipped w (taken es)) (without_skipped m.wm (taken es)) h.0.2
    ∙ ap (λ (xs : List Event). event.Mark w ∷ xs) (none_skipped r g p es _ h.1)
none_skipped r g p (Close (ByBarrier id) ∷ es) m h = ap (λ (xs : List Event). event.Barrier id ∷ xs) (none_skipped r g p es _ h.1)
none_skipped r g p (Fire n k ∷ es) m h = none_skipped r g p es _ h.1
none_skipped r g p (Start k ∷ es) m h = none_skipped r g p es _ h.1
none_skipped r g p (Serve k slot ∷ es) m h = none_skipped r g p es _ h.1
none_skipped r g p (Deliver k slot ∷ es) m h = none_skipped r g p es _ h.1
none_skipped r g p (Send ∷ es) m h =
    subst (λ (w : ℤ). without_skipped w (taken es) ≡ taken es) (send_wm g p m.unsent m) (none_skipped r g p es (happens g p Send m) h.1)
