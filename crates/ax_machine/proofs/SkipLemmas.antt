-- Watermarks that are skipped.
use Rattle.std.proofs.Common.{◌≡◌, ℕ, ◌*◌, ℤ, int_lt, List, [], ◌∷◌, Bool, true, false, cond, length, refl, ap, ◌∙◌, subst}
use Rattle.std.proofs.lemmas.Bool.{cond-true}
use Rattle.ax_text.specs.Programs.{Program}
use Rattle.ax_machine.specs.Entries.{Watermark}
use Rattle.ax_machine.specs.Events.{Event, Row, Mark, Barrier, without_skipped}
use Rattle.ax_machine.specs.Firings.{most_firings}
use Rattle.ax_machine.specs.Sync.{Plain, all_fired, at_watermark, writes, plain_step, plain_steps, plain_start, first_wm, sync}
use Rattle.ax_machine.proofs.KeyLemmas.{fire_all_beside}

-- at a watermark, where the further events may be so cut in each state behind it
at_mark : (m : ℕ) (p : Program) (w : ℤ) (es : List Event) (s : Plain) → ((t : Plain) → plain_steps m p (without_skipped t.wm es) t ≡ plain_steps m p es t)
    → (b : Bool) → int_lt s.wm w ≡ b → plain_steps m p (cond b (Mark w ∷ without_skipped w es) (without_skipped s.wm es)) s ≡ plain_steps m p es (cond b (writes (Watermark w) (all_fired p (at_watermark w s))) s)
at_mark m p w es s goes true e =
    let fired : Plain = writes (Watermark w) (all_fired p (at_watermark w s)) in
    let same : fired.wm ≡ w = (fire_all_beside p (most_firings * length s.keys) (λ k. most_firings) (at_watermark w s)).wm in
    ap (λ (t : Plain). plain_steps m p (without_skipped w es) t) (cond-true (int_lt s.wm w) fired s e)
    ∙ subst (λ (v : ℤ). plain_steps m p (without_skipped v es) fired ≡ plain_steps m p es fired) same (goes fired)
at_mark m p w es s goes false e = goes s

pub skipped : (m : ℕ) (p : Program) (es : List Event) (s : Plain) → plain_steps m p (without_skipped s.wm es) s ≡ plain_steps m p es s
skipped m p [] s = refl
skipped m p (Row k time values ∷ es) s = skipped m p es (plain_step m p (Row k time values) s)
skipped m p (Mark w ∷ es) s = at_mark m p w es s (λ t. skipped m p es t) (int_lt s.wm w) refl
skipped m p (Barrier id ∷ es) s = skipped m p es (plain_step m p (Barrier id) s)

pub sync_skips : (m : ℕ) (p : Program) (es : List Event) → sync m p (without_skipped first_wm es) ≡ sync m p es
sync_skips m p es = skipped m p es (plain_start p)
