-- The keys of a control are all that ever had anything.
use Rattle.std.proofs.Common.{◌≡◌, ℕ, ℤ, List, [], ◌∷◌, true, false, Option, Some, None, refl, sym, ap, subst, inl, inr}
use Rattle.std.proofs.lemmas.Bool.{cond-false, both_ways}
use Rattle.std.proofs.lemmas.Cmp.{nat_list_cmp_total}
use Rattle.std.specs.Str.{bytes_eq}
use Rattle.std.specs.List.{list_any}
use Rattle.std.specs.List.Sorted.{IsStrictlySortedBy}
use Rattle.std.specs.BTreeSet.{insert_key}
use Rattle.ax_keys.specs.Keys.{key_cmp}
use Rattle.ax_text.specs.declared.vocabulary.Answer.{Answer}
use Rattle.ax_text.specs.KeyStates.{KeyState}
use Rattle.ax_text.specs.Programs.{Program}
use Rattle.ax_machine.specs.Entries.{Key}
use Rattle.ax_machine.specs.Firings.{most_firings}
use Rattle.ax_machine.proofs.FiringLemmas.{key_is, has_inserted}
use Rattle.ax_machine.proofs.RisingLemmas.{rising_put}
use Rattle.ax_execution.specs.Groups.{row_facts}
use Rattle.ax_execution.specs.Contexts.{Context, Waiting, Mark, is_due}
use Rattle.ax_execution.specs.Origins.{Origin, IsOrigin}
use Rattle.ax_execution.specs.KeyControls.{KeyControl, keeps_answer}
use Rattle.ax_execution.specs.ControlTurns.{start_on, deliver_on, fire_on, admit_on, mark_at_on}
use Rattle.ax_execution.specs.Machine.{ByWatermark, ByBarrier, Closed, Happening, Admit, Close, Fire, Start, Serve, Deliver, Send, Rules}
use Rattle.ax_execution.specs.Allowed.{StageUnbegun, StageAsks, StageHas}
use Rattle.ax_execution.specs.MachineControls.{MachineControl, at_origin, control_at, send_first_on, happens_on}
use Rattle.ax_execution.specs.ControlsAllowed.{AllowedOn, IsFreeOn, HoldBusy, AreAllKeys}
use Rattle.ax_execution.proofs.Upto.{by_cases}
use Rattle.ax_execution.proofs.ControlChanges.{owned_known, idle_known}

-- never touched
record IsUntouched (c : KeyControl) : Type 0 where
  free : IsFreeOn c
  times : c.times ≡ []

pub origin_all : (p : Program) (from : Origin) → IsOrigin p from → AreAllKeys (at_origin from)
origin_all p from fits = record {
  rise = fits.keys;
  others = λ k h. record { owner = refl; waiting = refl };
  times = λ k h. ap (λ (s : KeyState). s.times) (fits.others k h);
}

marked_untouched : (e : ℕ) (w : ℤ) (more : ℕ) (o : Option Context) (is : List Waiting) (times : List ℤ) → o ≡ None → is ≡ [] → times ≡ [] → IsUntouched (mark_at_on e w more o is times)
marked_untouched e w more None [] times a b c = subst IsUntouched
    (sym (cond-false (is_due w times) (record { owner = None; waiting = Mark e w more ∷ []; times = times }) (record { owner = None; waiting = []; times = times }) (ap (is_due w) c)))
    (record { free = record { owner = refl; waiting = refl }; times = c })
marked_untouched e w more None (x ∷ is) times a b c = absurd (cc b)
marked_untouched e w more (Some d) is times a b c = absurd (cc a)

module _ (m : MachineControl) (all : AreAllKeys m) where
  untouched_there : (k : Key) → list_any (bytes_eq k) m.keys ≡ false → IsUntouched (m.controls k)
  untouched_there k h = record { free = all.others k h; times = all.times k h }

  -- where a key that is known changes
  known_changes : (k : Key) (q : KeyControl) → list_any (bytes_eq k) m.keys ≡ true → (j : Key) → list_any (bytes_eq j) m.keys ≡ false → IsUntouched (control_at m.controls k q j)
  known_changes k q known j h = by_cases (bytes_eq k j)
      (λ x. absurd (both_ways (list_any (bytes_eq j) m.keys) h (subst (λ (i : Key). list_any (bytes_eq i) m.keys ≡ true) (key_is k j x) known)))
      (λ x. subst IsUntouched (sym (cond-false (bytes_eq k j) q (m.controls j) x)) (untouched_there j h))

  busy : HoldBusy m.keys m
  busy = record { rise = all.rise; others = all.others }

  -- a control whose keys are the same
  same_keys : (next : MachineControl) → next.keys ≡ m.keys → ((j : Key) → list_any (bytes_eq j) m.keys ≡ false → IsUntouched (next.controls j)) → AreAllKeys next
  same_keys next e h = record {
    rise = subst (IsStrictlySortedBy key_cmp) (sym e) all.rise;
    others = λ k x. (h k (subst (λ (ks : List Key). list_any (bytes_eq k) ks ≡ false) e x)).free;
    times = λ k x. (h k (subst (λ (ks : List Key). list_any (bytes_eq k) ks ≡ false) e x)).times;
  }

  put_untouched : (k : Key) (q : KeyControl) (j : Key) → list_any (bytes_eq j) (insert_key key_cmp m.keys k) ≡ false → IsUntouched (control_at m.controls k q j)
  put_untouched k q j h = by_cases (bytes_eq k j)
      (λ x. absurd (both_ways (list_any (bytes_eq j) (insert_key key_cmp m.keys k)) h (has_inserted j k m.keys (inl (sym (key_is k j x))))))
      (λ x. subst IsUntouched (sym (cond-false (bytes_eq k j) q (m.controls j) x))
      (by_cases (list_any (bytes_eq j) m.keys)
      (λ y. absurd (both_ways (list_any (bytes_eq j) (insert_key key_cmp m.keys k)) h (has_inserted j k m.keys (inr y))))
      (λ y. untouched_there j y)))

  sent_all : (cs : List Closed) → AreAllKeys (send_first_on cs m)
  sent_all [] = all
  sent_all (c ∷ cs) = record { rise = all.rise; others = all.others; times = all.times }

  pub event_all : (r : Rules) (p : Program) (e : Happening) (a : Option Answer) → AllowedOn r e m → AreAllKeys (happens_on p e a m)
  event_all r p (Admit n k time values) a h =
      let q : KeyControl = admit_on n m.epoch (row_facts m.wm time values) (m.controls k) in
      record {
        rise = rising_put nat_list_cmp_total k m.keys all.rise;
        others = λ j x. (put_untouched k q j x).free;
        times = λ j x. (put_untouched k q j x).times;
      }
  event_all r p (Close (ByWatermark w)) a h = same_keys (happens_on p (Close (ByWatermark w)) a m) refl
      (λ j x. marked_untouched m.epoch w most_firings (m.controls j).owner (m.controls j).waiting (m.controls j).times (all.others j x).owner (all.others j x).waiting (all.times j x))
  event_all r p (Close (ByBarrier id)) a h = record { rise = all.rise; others = all.others; times = all.times }
  event_all r p (Fire n k) a h = same_keys (happens_on p (Fire n k) a m) refl (known_changes k (fire_on n (m.controls k)) (idle_known m busy k h.1))
  event_all r p (Start k) a h = same_keys (happens_on p (Start k) a m) refl (known_changes k (start_on p (m.controls k)) (owned_known m busy StageUnbegun k h.1))
  event_all r p (Serve k slot) a h = same_keys (happens_on p (Serve k slot) a m) refl (known_changes k (keeps_answer slot a (m.controls k)) (owned_known m busy (StageAsks slot) k h.1))
  event_all r p (Deliver k slot) a h = same_keys (happens_on p (Deliver k slot) a m) refl (known_changes k (deliver_on slot (m.controls k)) (owned_known m busy (StageHas slot) k h.1))
  event_all r p Send a h = sent_all m.unsent
