-- A key that sets its next timer whenever it fires stops at the bound.
use Rattle.std.proofs.Common.{◌≡◌, ℕ, zero, suc, ◌+◌, ◌≤◌, ◌<◌, ◌^◌, ℤ, pos, int_le, List, [], ◌∷◌, codes, refl, ap, ◌∙◌, arith, w64, FitsSigned, le-leb}
use Rattle.std.specs.Int.{int_wrapping_add}
use Rattle.std.proofs.lemmas.Bool.{cond-true}
use Rattle.std.proofs.lemmas.Int.{wrapping_add_is, int_wrap_fits, ints}
use Rattle.ax_text.specs.Exprs.{apply_op}
use Rattle.ax_machine.specs.Firings.{most_firings}
use Rattle.ax_text.specs.KeyStates.{KeyState}
use Rattle.ax_text.specs.Jobs.{row_job, firing_job}
use Rattle.ax_text.specs.Times.{insert_time, later_times}
use Rattle.ax_machine.specs.Sync.{without_least, first_wm, sync}
use Rattle.ax_machine.specs.KeySync.{Said, ran, fire_first, key_fires, untold}
use Rattle.ax_machine.specs.Examples.{ticking, many_ticks}
use Rattle.ax_machine.proofs.KeyLemmas.{is_projected}

next_time : (t : ℕ) → t < 2 ^ 62 → int_wrapping_add w64 (pos t) (pos 1) ≡ pos (t + 1)
next_time t small =
    let here : FitsSigned w64 (pos t) = omega (arith, ints) in
    let one : FitsSigned w64 (pos 1) = omega (arith, ints) in
    let next : FitsSigned w64 (pos (t + 1)) = omega (arith, ints) in
    wrapping_add_is w64 (pos t) (pos 1) here one ∙ int_wrap_fits w64 (pos (t + 1)) next

-- what a key has behind the firing of its timer at t
ticked : ℕ → ℕ → Said → Said
ticked w t s = ran ticking (firing_job (pos w) (pos t)) (without_least s.state) s

next_tick : (w t : ℕ) (s : Said) → t < 2 ^ 62 → s.state.times ≡ pos t ∷ [] → (ticked w t s).state.times ≡ pos (t + 1) ∷ []
unfolding apply_op ticked
next_tick w t s small e =
    ap (λ (ts : List ℤ). insert_time (int_wrapping_add w64 (pos t) (pos 1)) (later_times ts)) e
    ∙ ap (λ (v : ℤ). v ∷ []) (next_time t small)

ticks_on : (w t : ℕ) (go : Said → Said) (s : Said) → t ≤ w → s.state.times ≡ pos t ∷ [] → fire_first ticking (pos w) go s.state.times s ≡ go (ticked w t s)
unfolding ticked
ticks_on w t go s h e =
    ap (λ (ts : List ℤ). fire_first ticking (pos w) go ts s) e ∙ cond-true (int_le (pos t) (pos w)) (go (ticked w t s)) s (le-leb t w h)

ticks : (w n t : ℕ) (s : Said) → w < 2 ^ 62 → t + n ≤ suc w → s.state.times ≡ pos t ∷ [] → (key_fires ticking (pos w) n s).state.times ≡ pos (t + n) ∷ []
ticks w zero t s small h e = e ∙ ap (λ (i : ℕ). pos i ∷ []) (omega arith)
ticks w (suc n) t s small h e =
    ap (λ (x : Said). x.state.times) (ticks_on w t (key_fires ticking (pos w) n) s (omega arith) e)
    ∙ ticks w n (t + 1) (ticked w t s) small (omega arith) (next_tick w t s (omega arith) e)
    ∙ ap (λ (i : ℕ). pos i ∷ []) (omega arith)

most : most_firings ≡ 65536
unfolding most_firings
most = refl

pub ticks_to_the_bound : ((sync 128 ticking many_ticks).map (codes "a")).times ≡ pos 65536 ∷ []
ticks_to_the_bound =
    let before : Said = ran ticking (row_job first_wm (pos 1) (pos 0 ∷ [])) (untold ticking).state (untold ticking) in
    ap (λ (s : KeyState). s.times) (is_projected 128 ticking (codes "a") many_ticks).state
    ∙ ticks 100000 most_firings 0 before (omega arith) (omega (arith, most)) refl
    ∙ ap (λ (i : ℕ). pos i ∷ []) (omega (arith, most))
