-- A request that is asked and not served stays so, until it is served.
use Rattle.std.proofs.Common.{◌≡◌, ℕ, zero, suc, ℤ, int_le, List, [], ◌∷◌, ◌++◌, map, Bool, true, false, cond, ◌||◌, nat_eq, Option, Some, None, refl, sym, ap, ap₂, ◌∙◌, subst, eqb-true}
use Rattle.std.proofs.lemmas.Bool.{cond-true, cond-false, eq-eqb}
use Rattle.std.specs.Str.{bytes_eq}
use Rattle.ax_text.specs.declared.vocabulary.Request.{Request}
use Rattle.ax_text.specs.declared.vocabulary.Answer.{Answer}
use Rattle.ax_text.specs.Functions.{upd}
use Rattle.ax_text.specs.Exprs.{Facts}
use Rattle.ax_text.specs.Prints.{has}
use Rattle.ax_text.specs.Programs.{Program}
use Rattle.ax_text.specs.Jobs.{firing_job}
use Rattle.ax_text.specs.Controls.{Control, Done, Wait, Arms, Ask' as Asked, Turn, Answers, slots, waiting, replaced, is_done, request_at}
use Rattle.ax_text.proofs.Asked.{slots_waiting}
use Rattle.ax_text.proofs.Steps.{without_keeps}
use Rattle.ax_machine.specs.Entries.{Key}
use Rattle.ax_machine.specs.Firings.{most_firings}
use Rattle.ax_machine.proofs.FiringLemmas.{key_is}
use Rattle.ax_buffer.specs.declared.items.Item.{Item}
use Rattle.ax_execution.specs.Accepted.{AreAccepted}
use Rattle.ax_execution.specs.Groups.{row_facts}
use Rattle.ax_execution.specs.Contexts.{Running, Stage, Unbegun, Begun, Context, new_context, Waiting, Row, Mark, is_due, may_fire}
use Rattle.ax_execution.specs.Asks.{stage_waits, owner_waits, waits_behind, AreOutside, slots_beside}
use Rattle.ax_execution.specs.Machine.{ByWatermark, ByBarrier, Closed, Happening, Admit, Close, Fire, Start, Serve, Deliver, Send, Rules}
use Rattle.ax_execution.specs.Allowed.{StageUnbegun, StageHas, OfOwner}
use Rattle.ax_execution.specs.Turns.{gives, staged}
use Rattle.ax_execution.specs.KeyControls.{KeyControl}
use Rattle.ax_execution.specs.ControlTurns.{handed_on, paused, called_back_on, start_on, give_answer_on, deliver_stage_on, deliver_owner_on, deliver_on, fire_due_on, fire_front_on, fire_on, admit_at_on, admit_on, mark_at_on, mark_on}
use Rattle.ax_execution.specs.MachineControls.{MachineControl, control_at, send_first_on, happens_on, outcome_on}
use Rattle.ax_execution.specs.ControlsAllowed.{AllowedOn, IsAnswered}
use Rattle.ax_execution.specs.Reached.{IsReached}
use Rattle.ax_execution.proofs.SingleKeys.{keyed}
use Rattle.ax_execution.proofs.Upto.{by_cases}
use Rattle.ax_execution.proofs.ControlWaits.{waits_on, outside_on}
use Rattle.ax_execution.proofs.ReachedOrderly.{reached_in_order, reached_sound}
use Rattle.ax_core.specs.Events.{StageAsksIt, OwnerAsks}

true_false : true ≡ false → ⊥
true_false e = cc e

-- what is asked at a slot, among those that wait
abbrev pub asked_at : List Asked → ℕ → Option Request
asked_at [] n = None
asked_at (x ∷ xs) n = cond (nat_eq n x.slot) (Some x.request) (asked_at xs n)

abbrev slots_of : List Asked → List ℕ
slots_of xs = map (λ (x : Asked). x.slot) xs

at_append : (xs ys : List Asked) (n : ℕ) → asked_at (xs ++ ys) n ≡ cond (has n (slots_of xs)) (asked_at xs n) (asked_at ys n)
at_append [] ys n = refl
at_append (x ∷ xs) ys n = of (nat_eq n x.slot) (at_append xs ys n)
  where
    of : (b : Bool) → asked_at (xs ++ ys) n ≡ cond (has n (slots_of xs)) (asked_at xs n) (asked_at ys n)
        → cond b (Some x.request) (asked_at (xs ++ ys) n) ≡ cond (b || has n (slots_of xs)) (cond b (Some x.request) (asked_at xs n)) (asked_at ys n)
    of true e = refl
    of false e = e

pub asked_waits : (c : Control) (n : ℕ) → asked_at (waiting c) n ≡ request_at c n
asked_waits Done n = refl
asked_waits (Wait s r x k) n = refl
asked_waits (Arms one two k) n =
    at_append (waiting one) (waiting two) n
    ∙ (ap (λ (xs : List ℕ). cond (has n xs) (asked_at (waiting one) n) (asked_at (waiting two) n)) (sym (slots_waiting one))
    ∙ ap₂ (λ (a b : Option Request). cond (has n (slots one)) a b) (asked_waits one n) (asked_waits two n))

asked_has : (xs : List Asked) (n : ℕ) (q : Request) → asked_at xs n ≡ Some q → has n (slots_of xs) ≡ true
asked_has [] n q e = absurd (cc e)
asked_has (x ∷ xs) n q e = of (nat_eq n x.slot) e (asked_has xs n q)
  where
    of : (b : Bool) → cond b (Some x.request) (asked_at xs n) ≡ Some q → (asked_at xs n ≡ Some q → has n (slots_of xs) ≡ true) → (b || has n (slots_of xs)) ≡ true
    of true e h = refl
    of false e h = h e

not_among : (used : List ℕ) (n : ℕ) (xs : List Asked) → has n used ≡ true → AreOutside used xs → has n (slots_of xs) ≡ false
not_among used n [] h o = refl
not_among used n (x ∷ xs) h o = by_cases (nat_eq n x.slot)
    (λ e. absurd (true_false (sym h ∙ (ap (λ (s : ℕ). has s used) (eqb-true n x.slot e) ∙ o.0))))
    (λ e. rw e (not_among used n xs h o.1))

-- others come in the place of another slot
replaced_keeps : (s n : ℕ) (asks xs : List Asked) (q : Request) → nat_eq s n ≡ false → has n (slots_of asks) ≡ false → asked_at xs n ≡ Some q → asked_at (replaced s asks xs) n ≡ Some q
replaced_keeps s n asks [] q d o e = absurd (cc e)
replaced_keeps s n asks (x ∷ xs) q d o e = by_cases (nat_eq s x.slot)
    (λ y.
    let other : nat_eq n x.slot ≡ false = by_cases (nat_eq n x.slot)
    (λ z. absurd (true_false (sym (eq-eqb s n (eqb-true s x.slot y ∙ sym (eqb-true n x.slot z))) ∙ d)))
    (λ z. z) in
    ap (λ (ys : List Asked). asked_at ys n) (cond-true (nat_eq s x.slot) (asks ++ xs) (x ∷ replaced s asks xs) y)
    ∙ (at_append asks xs n ∙ (cond-false (has n (slots_of asks)) (asked_at asks n) (asked_at xs n) o
    ∙ (sym (cond-false (nat_eq n x.slot) (Some x.request) (asked_at xs n) other) ∙ e))))
    (λ y.
    ap (λ (ys : List Asked). asked_at ys n) (cond-false (nat_eq s x.slot) (asks ++ xs) (x ∷ replaced s asks xs) y)
    ∙ of (nat_eq n x.slot) e (replaced_keeps s n asks xs q d o))
  where
    of : (b : Bool) → cond b (Some x.request) (asked_at xs n) ≡ Some q → (asked_at xs n ≡ Some q → asked_at (replaced s asks xs) n ≡ Some q) → cond b (Some x.request) (asked_at (replaced s asks xs) n) ≡ Some q
    of true e h = e
    of false e h = h e

-- no answer was served at a slot
abbrev StageBlank : ℕ → Stage → Type 0
StageBlank slot Unbegun = Unit {0}
StageBlank slot (Begun r) = r.answers slot ≡ None

abbrev OwnerBlank : ℕ → Option Context → Type 0
OwnerBlank slot None = Unit {0}
OwnerBlank slot (Some c) = StageBlank slot c.stage

-- the context that waits at a slot
pub record WaitsFor (o : Option Context) (slot : ℕ) (q : Request) : Type 0 where
  pub context : Context
  pub running : Running
  pub owner : o ≡ Some context
  pub begun : context.stage ≡ Begun running
  pub asked : request_at running.control slot ≡ Some q

pub who_waits : (o : Option Context) (slot : ℕ) (q : Request) → asked_at (owner_waits o) slot ≡ Some q → WaitsFor o slot q
who_waits None slot q e = absurd (cc e)
who_waits (Some c) slot q e = of c.stage refl e
  where
    of : (st : Stage) → c.stage ≡ st → asked_at (stage_waits st) slot ≡ Some q → WaitsFor (Some c) slot q
    of Unbegun s e = absurd (cc e)
    of (Begun r) s e = record { context = c; running = r; owner = refl; begun = s; asked = sym (asked_waits r.control slot) ∙ e }

module _ (i : Item) where
  pub asks_waits : (o : Option Context) → OwnerAsks i o → asked_at (owner_waits o) i.slot ≡ Some i.request
  asks_waits None h = absurd h
  asks_waits (Some c) h = of c.stage h
    where
      of : (st : Stage) → StageAsksIt i st → asked_at (stage_waits st) i.slot ≡ Some i.request
      of Unbegun h = absurd h
      of (Begun r) h = asked_waits r.control i.slot ∙ h.0

  asks_blank : (o : Option Context) → OwnerAsks i o → OwnerBlank i.slot o
  asks_blank None h = absurd h
  asks_blank (Some c) h = of c.stage h
    where
      of : (st : Stage) → StageAsksIt i st → StageBlank i.slot st
      of Unbegun h = absurd h
      of (Begun r) h = h.1

  asks_from : (o : Option Context) → asked_at (owner_waits o) i.slot ≡ Some i.request → OwnerBlank i.slot o → OwnerAsks i o
  asks_from None e b = absurd (cc e)
  asks_from (Some c) e b = of c.stage e b
    where
      of : (st : Stage) → asked_at (stage_waits st) i.slot ≡ Some i.request → StageBlank i.slot st → StageAsksIt i st
      of Unbegun e b = absurd (cc e)
      of (Begun r) e b = (sym (asked_waits r.control i.slot) ∙ e, b)

-- answers at a slot, behind each event of a key

handed_blank : (slot : ℕ) (is : List Waiting) (times : List ℤ) → OwnerBlank slot (handed_on is times).owner
handed_blank slot [] times = tt
handed_blank slot (Row n e f ∷ is) times = tt
handed_blank slot (Mark e w more ∷ is) times = of (may_fire w more times) (handed_blank slot is times)
  where
    of : (b : Bool) → OwnerBlank slot (handed_on is times).owner → OwnerBlank slot (cond b (keyed None (Mark e w more ∷ is) times) (handed_on is times)).owner
    of true h = tt
    of false h = h

back_blank : (slot : ℕ) (c : Context) (t : Turn) (answers : Answers) (is : List Waiting) (times : List ℤ) → answers slot ≡ None → OwnerBlank slot (called_back_on c t answers is times).owner
back_blank slot c t answers is times h = of (is_done t.control)
  where
    of : (b : Bool) → OwnerBlank slot (cond b (handed_on is times) (keyed (Some (staged c (Begun (paused t answers)))) is times)).owner
    of true = handed_blank slot is times
    of false = h

admit_blank : (slot n e : ℕ) (f : Facts) (c : KeyControl) → OwnerBlank slot c.owner → OwnerBlank slot (admit_on n e f c).owner
admit_blank slot n e f c h = of c.owner c.waiting h
  where
    of : (o : Option Context) (is : List Waiting) → OwnerBlank slot o → OwnerBlank slot (admit_at_on n e f o is c.times).owner
    of None [] h = tt
    of None (i ∷ is) h = h
    of (Some x) is h = h

mark_blank : (slot e : ℕ) (w : ℤ) (more : ℕ) (c : KeyControl) → OwnerBlank slot c.owner → OwnerBlank slot (mark_on e w more c).owner
mark_blank slot e w more c h = of c.owner c.waiting h
  where
    either : (b : Bool) (x y : List Waiting) → OwnerBlank slot (cond b (keyed None x c.times) (keyed None y c.times)).owner
    either true x y = tt
    either false x y = tt

    of : (o : Option Context) (is : List Waiting) → OwnerBlank slot o → OwnerBlank slot (mark_at_on e w more o is c.times).owner
    of None [] h = either (is_due w c.times) (Mark e w more ∷ []) []
    of None (i ∷ is) h = h
    of (Some x) is h = h

fire_blank : (slot n : ℕ) (c : KeyControl) → OwnerBlank slot c.owner → OwnerBlank slot (fire_on n c).owner
fire_blank slot n c h = of c.owner c.waiting
  where
    due : (e : ℕ) (w : ℤ) (more : ℕ) (is : List Waiting) (times : List ℤ) → OwnerBlank slot (fire_due_on n e w more is times c).owner
    due e w more is [] = h
    due e w more is (t ∷ ts) = fires (int_le t w)
      where
        fires : (b : Bool) → OwnerBlank slot (cond b (keyed (Some (new_context n e (firing_job w t))) (Mark e w more ∷ is) ts) c).owner
        fires true = tt
        fires false = h

    of : (o : Option Context) (is : List Waiting) → OwnerBlank slot (fire_front_on n o is c).owner
    of None [] = h
    of None (Row i e f ∷ is) = h
    of None (Mark e w zero ∷ is) = h
    of None (Mark e w (suc more) ∷ is) = due e w more is c.times
    of (Some x) is = h

-- an answer is given that stands at another slot
deliver_blank : (slot s : ℕ) (c : KeyControl) → OwnerBlank slot c.owner → OwnerBlank slot (deliver_on s c).owner
deliver_blank slot s c h = of c.owner h
  where
    answers : (x : Context) (r : Running) (a : Option Answer) → OwnerBlank slot c.owner → r.answers slot ≡ None → OwnerBlank slot (give_answer_on x r s a c).owner
    answers x r None h b = h
    answers x r (Some a) h b = back_blank slot x (gives x.job r s a) (upd r.answers s None) c.waiting _ (either (nat_eq s slot) b)
      where
        either : (y : Bool) → r.answers slot ≡ None → cond y None (r.answers slot) ≡ None
        either true b = refl
        either false b = b

    stage : (x : Context) (st : Stage) → StageBlank slot st → OwnerBlank slot (deliver_stage_on x s st c).owner
    stage x Unbegun b = h
    stage x (Begun r) b = answers x r (r.answers s) h b

    of : (o : Option Context) → OwnerBlank slot o → OwnerBlank slot (deliver_owner_on s o c).owner
    of None b = h
    of (Some x) b = stage x x.stage b

-- one key goes on
at_key : (P : Option Context → Type 0) (controls : Key → KeyControl) (j : Key) (q : KeyControl) (k : Key) → (j ≡ k → P q.owner) → P (controls k).owner → P (control_at controls j q k).owner
at_key P controls j q k a b = by_cases (bytes_eq j k)
    (λ x. subst (λ (c : KeyControl). P c.owner) (sym (cond-true (bytes_eq j k) q (controls k) x)) (a (key_is j k x)))
    (λ x. subst (λ (c : KeyControl). P c.owner) (sym (cond-false (bytes_eq j k) q (controls k) x)) b)

module _ (r : Rules) (p : Program) (accepted : AreAccepted p) (m : MachineControl) (reached : IsReached r p m) (i : Item) (here : OwnerAsks i (m.controls i.key).owner) where
  waited : asked_at (owner_waits (m.controls i.key).owner) i.slot ≡ Some i.request
  waited = asks_waits i (m.controls i.key).owner here

  blank : OwnerBlank i.slot (m.controls i.key).owner
  blank = asks_blank i (m.controls i.key).owner here

  -- it isn't answered
  other_slot : (s : ℕ) → OfOwner (StageHas s) (m.controls i.key).owner → nat_eq s i.slot ≡ false
  other_slot s a = of (m.controls i.key).owner a blank
    where
      stage : (st : Stage) → StageHas s st → StageBlank i.slot st → nat_eq s i.slot ≡ false
      stage Unbegun a b = absurd a
      stage (Begun x) a b = by_cases (nat_eq s i.slot)
          (λ y. let e : None ≡ Some a.0 = sym b ∙ (ap x.answers (sym (eqb-true s i.slot y)) ∙ a.1) in absurd (cc e))
          (λ y. y)

      of : (o : Option Context) → OfOwner (StageHas s) o → OwnerBlank i.slot o → nat_eq s i.slot ≡ false
      of None a b = absurd a
      of (Some c) a b = stage c.stage a b

  begun : OfOwner StageUnbegun (m.controls i.key).owner → ⊥
  begun a = of (m.controls i.key).owner a here
    where
      stage : (st : Stage) → StageUnbegun st → StageAsksIt i st → ⊥
      stage Unbegun a b = b
      stage (Begun x) a b = a

      of : (o : Option Context) → OfOwner StageUnbegun o → OwnerAsks i o → ⊥
      of None a b = a
      of (Some c) a b = stage c.stage a b

  behind : (e : Happening) → AllowedOn r e m → owner_waits ((happens_on p e None m).controls i.key).owner ≡ waits_behind i.key e (outcome_on p e m).asks (owner_waits (m.controls i.key).owner)
  behind e h = waits_on r p m (reached_in_order r p m accepted reached) (reached_sound r p m accepted reached) e None i.key h

  now : (e : Happening) → AllowedOn r e m → asked_at (waits_behind i.key e (outcome_on p e m).asks (owner_waits (m.controls i.key).owner)) i.slot ≡ Some i.request
      → asked_at (owner_waits ((happens_on p e None m).controls i.key).owner) i.slot ≡ Some i.request
  now e h x = ap (λ (xs : List Asked). asked_at xs i.slot) (behind e h) ∙ x

  delivered : (j : Key) (s : ℕ) → AllowedOn r (Deliver j s) m → asked_at (waits_behind i.key (Deliver j s) (outcome_on p (Deliver j s) m).asks (owner_waits (m.controls i.key).owner)) i.slot ≡ Some i.request
  delivered j s h = by_cases (bytes_eq j i.key)
      (λ x.
      let same : j ≡ i.key = key_is j i.key x in
      let at_here : AllowedOn r (Deliver i.key s) m = subst (λ (k : Key). AllowedOn r (Deliver k s) m) same h in
      let other : nat_eq s i.slot ≡ false = other_slot s at_here.1 in
      let asks : List Asked = (outcome_on p (Deliver j s) m).asks in
      let outside : AreOutside (slots_beside s (owner_waits (m.controls i.key).owner)) asks =
      subst (λ (k : Key). AreOutside (slots_beside s (owner_waits (m.controls i.key).owner)) (outcome_on p (Deliver k s) m).asks) (sym same)
      (outside_on r p m (reached_in_order r p m accepted reached) (reached_sound r p m accepted reached) i.key s at_here) in
      let among : has i.slot (slots_beside s (owner_waits (m.controls i.key).owner)) ≡ true =
      without_keeps s (slots_of (owner_waits (m.controls i.key).owner)) i.slot (asked_has (owner_waits (m.controls i.key).owner) i.slot i.request waited) other in
      ap (λ (xs : List Asked). asked_at xs i.slot) (cond-true (bytes_eq j i.key) (replaced s asks (owner_waits (m.controls i.key).owner)) (owner_waits (m.controls i.key).owner) x)
      ∙ replaced_keeps s i.slot asks (owner_waits (m.controls i.key).owner) i.request other (not_among _ i.slot asks among outside) waited)
      (λ x.
      ap (λ (xs : List Asked). asked_at xs i.slot) (cond-false (bytes_eq j i.key) (replaced s (outcome_on p (Deliver j s) m).asks (owner_waits (m.controls i.key).owner)) (owner_waits (m.controls i.key).owner) x)
      ∙ waited)

  sent : (cs : List Closed) → OwnerAsks i ((send_first_on cs m).controls i.key).owner
  sent [] = here
  sent (c ∷ cs) = here

  -- behind each event that serves nothing
  pub asks_kept : (e : Happening) → IsAnswered e None → AllowedOn r e m → OwnerAsks i ((happens_on p e None m).controls i.key).owner
  asks_kept (Admit n j time values) x h = asks_from i _ (now (Admit n j time values) h waited)
      (at_key (OwnerBlank i.slot) m.controls j (admit_on n m.epoch (row_facts m.wm time values) (m.controls j)) i.key
      (λ e. admit_blank i.slot n m.epoch (row_facts m.wm time values) (m.controls j) (subst (λ (k : Key). OwnerBlank i.slot (m.controls k).owner) (sym e) blank)) blank)
  asks_kept (Close (ByWatermark w)) x h = asks_from i _ (now (Close (ByWatermark w)) h waited) (mark_blank i.slot m.epoch w most_firings (m.controls i.key) blank)
  asks_kept (Close (ByBarrier id)) x h = here
  asks_kept (Fire n j) x h = asks_from i _ (now (Fire n j) h waited)
      (at_key (OwnerBlank i.slot) m.controls j (fire_on n (m.controls j)) i.key
      (λ e. fire_blank i.slot n (m.controls j) (subst (λ (k : Key). OwnerBlank i.slot (m.controls k).owner) (sym e) blank)) blank)
  asks_kept (Start j) x h = at_key (OwnerAsks i) m.controls j (start_on p (m.controls j)) i.key
      (λ e. absurd (begun (subst (λ (k : Key). OfOwner StageUnbegun (m.controls k).owner) e h.1))) here
  asks_kept (Serve j s) x h = absurd (cc x.1)
  asks_kept (Deliver j s) x h = asks_from i _ (now (Deliver j s) h (delivered j s h))
      (at_key (OwnerBlank i.slot) m.controls j (deliver_on s (m.controls j)) i.key
      (λ e. deliver_blank i.slot s (m.controls j) (subst (λ (k : Key). OwnerBlank i.slot (m.controls k).owner) (sym e) blank)) blank)
  asks_kept Send x h = sent m.unsent
