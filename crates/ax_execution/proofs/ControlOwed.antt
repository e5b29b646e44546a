-- How the references of owners change with each event.
use Rattle.std.proofs.Common.{◌≡◌, ℕ, ◌+◌, ℤ, pos, List, [], ◌∷◌, length, Bool, true, false, cond, Option, Some, None, refl, sym, ap, ◌∙◌, arith, subst}
use Rattle.std.specs.Str.{bytes_eq}
use Rattle.std.specs.List.{list_any}
use Rattle.std.specs.BTreeSet.{insert_key}
use Rattle.ax_keys.specs.Keys.{key_cmp}
use Rattle.ax_text.specs.declared.vocabulary.Answer.{Answer}
use Rattle.ax_text.specs.Functions.{upd}
use Rattle.ax_text.specs.Exprs.{Facts}
use Rattle.ax_text.specs.Programs.{Program}
use Rattle.ax_text.specs.Controls.{Control, Done, Wait, Arms, Rest, Ask' as Asked, Turn, Answers, is_done, slots}
use Rattle.ax_text.specs.Run.{times_after}
use Rattle.ax_text.specs.Jobs.{Job, text_for}
use Rattle.ax_text.specs.Silent.{silent as silent_talk, unanswered}
use Rattle.ax_text.proofs.Asked.{begin_asked}
use Rattle.ax_machine.specs.Entries.{Key}
use Rattle.ax_machine.specs.Firings.{most_firings}
use Rattle.ax_execution.specs.Sums.{total}
use Rattle.ax_execution.specs.Groups.{row_facts}
use Rattle.ax_execution.specs.Rest.{silent}
use Rattle.ax_execution.specs.Contexts.{Stage, Unbegun, Begun, Context, Waiting, Row, Mark, owners, may_fire, is_idle_with}
use Rattle.ax_execution.specs.Counts.{references, counted}
use Rattle.ax_execution.specs.Turns.{staged, begins, gives, Effects, owner_starts, owner_gives}
use Rattle.ax_execution.specs.KeyControls.{KeyControl, owner_keeps, stage_keeps, keeps_answer}
use Rattle.ax_execution.specs.ControlTurns.{is_idle_on, handed_on, paused, called_back_on, start_on, deliver_on, fire_on, admit_on, mark_on}
use Rattle.ax_execution.specs.Machine.{ByWatermark, ByBarrier, Closed, Happening, Admit, Close, Fire, Start, Serve, Deliver, Send, Rules}
use Rattle.ax_execution.specs.MachineControls.{MachineControl, control_at, send_first_on, happens_on}
use Rattle.ax_execution.specs.ControlsAllowed.{AllowedOn, HoldBusy}
use Rattle.ax_execution.specs.ControlOrder.{FrontMayFire, IsInOrder, AreSound}
use Rattle.ax_execution.specs.Allowed.{StageUnbegun, StageAsks, StageHas, OfOwner}
use Rattle.ax_execution.specs.Reached.{owed_to, owed_in}
use Rattle.ax_execution.specs.OwedChanges.{is_free_with, is_free_on, owed_more, owed_less}
use Rattle.ax_execution.proofs.Upto.{OwnerGood}
use Rattle.ax_execution.proofs.KeySums.{total_same}
use Rattle.ax_execution.proofs.Handlers.{Good, waits_here}
use Rattle.ax_execution.proofs.GivenUp.{asked_length, given_length, stage_good}
use Rattle.ax_execution.proofs.ControlChanges.{owned_known, idle_known}
use Rattle.ax_execution.proofs.ControlSound.{owner_good}
use Rattle.ax_execution.proofs.KeyCases.{start_case, deliver_case, fire_case, mark_case}
use Rattle.ax_execution.proofs.SingleKeys.{keyed, own_control, one_changes, one_enters, free_owed}

true_false : true ≡ false → ⊥
true_false e = cc e

-- what a callback leaves

begun_length : (p : Program) (j : Job) → length (slots (begins p j).control) ≡ length (begins p j).asks
begun_length p j = asked_length (begins p j).control ∙ ap (λ (xs : List Asked). length xs) (begin_asked j.facts (Rest (text_for p j.handler) ∷ []) [] (silent_talk (λ i. pos 0)))

done_length : (c : Control) → is_done c ≡ true → length (slots c) ≡ 0
done_length Done h = refl
done_length (Wait s r n k) h = absurd (cc h)
done_length (Arms one two k) h = absurd (cc h)

-- the references of owners

handed_owed : (is : List Waiting) (times : List ℤ) → owed_to (handed_on is times).owner ≡ owners (handed_on is times).owner
handed_owed [] times = refl
handed_owed (Row n e f ∷ is) times = refl
handed_owed (Mark e w more ∷ is) times = of (may_fire w more times) (handed_owed is times)
  where
    of : (b : Bool) → owed_to (handed_on is times).owner ≡ owners (handed_on is times).owner
        → owed_to (cond b (keyed None (Mark e w more ∷ is) times) (handed_on is times)).owner ≡ owners (cond b (keyed None (Mark e w more ∷ is) times) (handed_on is times)).owner
    of true h = refl
    of false h = h

back_owed : (c : Context) (t : Turn) (answers : Answers) (is : List Waiting) (times : List ℤ)
    → owed_to (called_back_on c t answers is times).owner ≡ length (slots t.control) + counted (is_done t.control) (owners (called_back_on c t answers is times).owner)
back_owed c t answers is times = of (is_done t.control) refl
  where
    waits : KeyControl
    waits = keyed (Some (staged c (Begun (paused t answers)))) is times

    of : (b : Bool) → is_done t.control ≡ b → owed_to (cond b (handed_on is times) waits).owner ≡ length (slots t.control) + counted b (owners (cond b (handed_on is times) waits).owner)
    of true h =
        let x : length (slots t.control) ≡ 0 = done_length t.control h in
        let y : owed_to (handed_on is times).owner ≡ owners (handed_on is times).owner = handed_owed is times in
        omega arith
    of false h = omega arith

started_owed : (p : Program) (q : KeyControl) → OfOwner StageUnbegun q.owner
    → owed_to (start_on p q).owner + 1 ≡ owed_to q.owner + (length (owner_starts p q.owner).asks + counted (owner_starts p q.owner).gone (owners (start_on p q).owner))
started_owed p q h = start_case (λ (x : KeyControl) (e : Effects). owed_to x.owner + 1 ≡ owed_to q.owner + (length e.asks + counted e.gone (owners x.owner))) p q
    (λ c x y.
    let a : owed_to (called_back_on c (begins p c.job) unanswered q.waiting (times_after (begins p c.job).talk.ops q.times)).owner
    ≡ length (slots (begins p c.job).control) + counted (is_done (begins p c.job).control) (owners (called_back_on c (begins p c.job) unanswered q.waiting (times_after (begins p c.job).talk.ops q.times)).owner) =
    back_owed c (begins p c.job) unanswered q.waiting (times_after (begins p c.job).talk.ops q.times) in
    let b : owed_to q.owner ≡ 1 = ap owed_to x ∙ ap references y in
    let d : length (slots (begins p c.job).control) ≡ length (begins p c.job).asks = begun_length p c.job in
    omega arith) h

delivered_owed : (slot : ℕ) (q : KeyControl) → OwnerGood Good q.owner → OfOwner (StageHas slot) q.owner
    → owed_to (deliver_on slot q).owner + 1 ≡ owed_to q.owner + (length (owner_gives slot q.owner).asks + counted (owner_gives slot q.owner).gone (owners (deliver_on slot q).owner))
delivered_owed slot q ok h = deliver_case (λ (x : KeyControl) (e : Effects). owed_to x.owner + 1 ≡ owed_to q.owner + (length e.asks + counted e.gone (owners x.owner))) slot q
    (λ c x v y z w.
    let a : owed_to (called_back_on c (gives c.job x slot v) (upd x.answers slot None) q.waiting (times_after (gives c.job x slot v).talk.ops q.times)).owner
    ≡ length (slots (gives c.job x slot v).control) + counted (is_done (gives c.job x slot v).control) (owners (called_back_on c (gives c.job x slot v) (upd x.answers slot None) q.waiting (times_after (gives c.job x slot v).talk.ops q.times)).owner) =
    back_owed c (gives c.job x slot v) (upd x.answers slot None) q.waiting (times_after (gives c.job x slot v).talk.ops q.times) in
    let b : owed_to q.owner ≡ length (slots x.control) = ap owed_to y ∙ ap references z in
    let d : length (slots (gives c.job x slot v).control) + 1 ≡ length (slots x.control) + length (gives c.job x slot v).asks =
    given_length c.job x slot v (waits_here x slot v (stage_good c x (subst (OwnerGood Good) y ok) z) w) in
    omega arith) h

kept_owed : (slot : ℕ) (a : Option Answer) (q : KeyControl) → owed_to (keeps_answer slot a q).owner ≡ owed_to q.owner
kept_owed slot a q = of q.owner
  where
    stage : (x : Context) (st : Stage) (b : Option Answer) → owed_to (silent (Some (staged x (stage_keeps slot b st)))) ≡ references st
    stage x Unbegun None = refl
    stage x Unbegun (Some d) = refl
    stage x (Begun r) None = refl
    stage x (Begun r) (Some d) = refl

    of : (o : Option Context) → owed_to (silent (owner_keeps slot a o)) ≡ owed_to o
    of None = refl
    of (Some x) = stage x x.stage a

fired_owed : (n : ℕ) (q : KeyControl) → is_idle_on q ≡ true → FrontMayFire q.waiting q.times → owed_to (fire_on n q).owner ≡ 1 + owed_to q.owner
fired_owed n q idle front = fire_case (λ (x : KeyControl). owed_to x.owner ≡ 1 + owed_to q.owner) n q (λ e w more is t ts a b d. ap (λ (o : Option Context). 1 + owed_to o) (sym a)) idle front

admitted_owed : (n e : ℕ) (f : Facts) (q : KeyControl) → owed_to (admit_on n e f q).owner ≡ counted (is_free_on q) 1 + owed_to q.owner
admitted_owed n e f q = of q.owner q.waiting
  where
    of : (o : Option Context) (is : List Waiting) → owed_to (admit_on n e f (keyed o is q.times)).owner ≡ counted (is_free_with o is) 1 + owed_to o
    of None [] = refl
    of None (i ∷ is) = refl
    of (Some c) is = omega arith

marked_owed : (e : ℕ) (w : ℤ) (more : ℕ) (q : KeyControl) → owed_to (mark_on e w more q).owner ≡ owed_to q.owner
marked_owed e w more q = mark_case (λ (x : KeyControl). owed_to x.owner ≡ owed_to q.owner) e w more q (λ y. refl) refl

module _ (r : Rules) (p : Program) (m : MachineControl) (o : IsInOrder r m) (sound : AreSound m) where
  busy : HoldBusy m.keys m
  busy = record { rise = o.keys.rise; others = o.keys.others }

  front : (k : Key) → is_idle_on (m.controls k) ≡ true → FrontMayFire (m.controls k).waiting (m.controls k).times
  front k i = o.front k (of (m.controls k).owner refl i)
    where
      of : (x : Option Context) → (m.controls k).owner ≡ x → is_idle_with x (m.controls k).waiting ≡ true → (m.controls k).owner ≡ None
      of None e h = e
      of (Some c) e h = absurd (true_false (sym h))

  owed_shifts : (k : Key) (q : KeyControl) (x y : ℕ) → list_any (bytes_eq k) m.keys ≡ true → owed_to q.owner + x ≡ owed_to (m.controls k).owner + y
      → total m.keys (λ j. owed_to (control_at m.controls k q j).owner) + x ≡ owed_in m + y
  owed_shifts k q x y known h =
      let a : total m.keys (λ j. owed_to (control_at m.controls k q j).owner) + owed_to (m.controls k).owner ≡ owed_in m + owed_to q.owner = one_changes (λ (c : KeyControl). owed_to c.owner) m.controls m.keys busy.rise k q known in
      omega arith

  owed_sent : (cs : List Closed) → owed_in (send_first_on cs m) + 0 ≡ owed_in m + 0
  owed_sent [] = refl
  owed_sent (c ∷ cs) = refl

  -- the owner that is there behind a callback
  here_owner : (k : Key) (q : KeyControl) → owners (control_at m.controls k q k).owner ≡ owners q.owner
  here_owner k q = ap (λ (c : KeyControl). owners c.owner) (own_control m.controls k q)

  called : (k : Key) (q : KeyControl) (asks : ℕ) (gone : Bool) → list_any (bytes_eq k) m.keys ≡ true → owed_to q.owner + 1 ≡ owed_to (m.controls k).owner + (asks + counted gone (owners q.owner))
      → total m.keys (λ j. owed_to (control_at m.controls k q j).owner) + 1 ≡ owed_in m + (asks + counted gone (owners (control_at m.controls k q k).owner))
  called k q asks gone known h =
      let a : counted gone (owners (control_at m.controls k q k).owner) ≡ counted gone (owners q.owner) = ap (counted gone) (here_owner k q) in
      let b : total m.keys (λ j. owed_to (control_at m.controls k q j).owner) + 1 ≡ owed_in m + (asks + counted gone (owners q.owner)) = owed_shifts k q 1 (asks + counted gone (owners q.owner)) known h in
      omega arith

  pub owed_changes_on : (e : Happening) (a : Option Answer) → AllowedOn r e m → owed_in (happens_on p e a m) + owed_less e ≡ owed_in m + owed_more p e m (happens_on p e a m)
  owed_changes_on (Admit n k time values) a h =
      let q : KeyControl = admit_on n m.epoch (row_facts m.wm time values) (m.controls k) in
      let x : total (insert_key key_cmp m.keys k) (λ j. owed_to (control_at m.controls k q j).owner) + owed_to (m.controls k).owner ≡ owed_in m + owed_to q.owner =
      one_enters (λ (c : KeyControl). owed_to c.owner) m.controls m.keys busy.rise k q (λ x. free_owed (m.controls k) (busy.others k x)) in
      let b : owed_to q.owner ≡ counted (is_free_on (m.controls k)) 1 + owed_to (m.controls k).owner = admitted_owed n m.epoch (row_facts m.wm time values) (m.controls k) in
      omega arith
  owed_changes_on (Close (ByWatermark w)) a h =
      ap (λ (x : ℕ). x + 0) (total_same (λ k. owed_to (m.controls k).owner) (λ k. owed_to (mark_on m.epoch w most_firings (m.controls k)).owner) m.keys (λ k. marked_owed m.epoch w most_firings (m.controls k)))
  owed_changes_on (Close (ByBarrier id)) a h = refl
  owed_changes_on (Fire n k) a h = owed_shifts k (fire_on n (m.controls k)) 0 1 (idle_known m busy k h.1)
      (let a : owed_to (fire_on n (m.controls k)).owner ≡ 1 + owed_to (m.controls k).owner = fired_owed n (m.controls k) h.1 (front k h.1) in omega arith)
  owed_changes_on (Start k) a h = called k (start_on p (m.controls k)) (length (owner_starts p (m.controls k).owner).asks) (owner_starts p (m.controls k).owner).gone (owned_known m busy StageUnbegun k h.1) (started_owed p (m.controls k) h.1)
  owed_changes_on (Serve k slot) a h = owed_shifts k (keeps_answer slot a (m.controls k)) 0 0 (owned_known m busy (StageAsks slot) k h.1) (ap (λ (x : ℕ). x + 0) (kept_owed slot a (m.controls k)))
  owed_changes_on (Deliver k slot) a h = called k (deliver_on slot (m.controls k)) (length (owner_gives slot (m.controls k).owner).asks) (owner_gives slot (m.controls k).owner).gone (owned_known m busy (StageHas slot) k h.1) (delivered_owed slot (m.controls k) (owner_good (m.controls k).owner (sound k)) h.1)
  owed_changes_on Send a h = owed_sent m.unsent
