-- What waits at each key behind an event.
use Rattle.std.proofs.Common.{◌≡◌, ℕ, ◌+◌, ℤ, pos, List, [], ◌∷◌, length, Bool, true, false, cond, Some, None, refl, sym, ap, ◌∙◌, arith, subst, map}
use Rattle.std.proofs.lemmas.Bool.{cond-true, cond-false}
use Rattle.std.specs.Str.{bytes_eq}
use Rattle.ax_text.specs.declared.vocabulary.Answer.{Answer}
use Rattle.ax_text.specs.Functions.{upd}
use Rattle.ax_text.specs.Programs.{Program}
use Rattle.ax_text.specs.Controls.{Rest, Control, Done, Wait, Arms, Ask' as Asked, slots, waiting, replaced, without, is_done}
use Rattle.ax_text.specs.Jobs.{text_for}
use Rattle.ax_text.specs.Underway.{TakesLeast, SlotsRise}
use Rattle.ax_text.proofs.LeastSlots.{begin_least, give_least, takes_rise}
use Rattle.ax_text.proofs.Asked.{begin_asked, give_asked, slots_waiting}
use Rattle.ax_text.specs.Silent.{silent as silent_talk, unanswered}
use Rattle.ax_machine.specs.Entries.{Key}
use Rattle.ax_machine.specs.Firings.{most_firings}
use Rattle.ax_machine.specs.KeySync.{Said}
use Rattle.ax_machine.proofs.FiringLemmas.{key_is, same_key}
use Rattle.ax_execution.specs.Groups.{row_facts}
use Rattle.ax_execution.specs.Contexts.{Running, running_group, Begun, Context, Waiting, Row, Mark, Part, may_fire}
use Rattle.ax_execution.specs.Asks.{stage_waits, owner_waits, waits_behind, AreOutside, slots_beside}
use Rattle.ax_execution.specs.Turns.{handed, timed, closed_with, left_by, staged, called_back, begins, gives, Effects, start_effects, deliver_effects, admit, mark, fire, start, serve, deliver}
use Rattle.ax_execution.specs.Machine.{ByWatermark, ByBarrier, Closed, Machine, Happening, Admit, Close, Fire, Start, Serve, Deliver, Send, Rules, part_at, send_first, happens, sends_first, outcome}
use Rattle.ax_execution.specs.Allowed.{Allowed}
use Rattle.ax_execution.proofs.Upto.{by_cases, part_of, OwnerGood}
use Rattle.ax_execution.proofs.Orderly.{IsOrderly}
use Rattle.ax_execution.proofs.Handlers.{Good, waits_here}
use Rattle.ax_execution.proofs.GivenUp.{asked_length, given_length, stage_good}
use Rattle.ax_execution.proofs.Asking.{takes_outside}
use Rattle.ax_execution.proofs.Cases.{start_case, deliver_case, serve_case, fire_case, admit_case, mark_case}

handed_waits : (is : List Waiting) (s : Said) → owner_waits (handed is s).owner ≡ []
handed_waits [] s = refl
handed_waits (Row n e f ∷ is) s = refl
handed_waits (Mark e w more ∷ is) s = of (may_fire w more s.state.times) (handed_waits is s)
  where
    of : (b : Bool) → owner_waits (handed is s).owner ≡ [] → owner_waits (cond b (part_of None (Mark e w more ∷ is) s) (handed is s)).owner ≡ []
    of true h = refl
    of false h = h

done_waits : (c : Control) → is_done c ≡ true → [] ≡ waiting c
done_waits Done h = refl
done_waits (Wait s r n k) h = absurd (cc h)
done_waits (Arms one two k) h = absurd (cc h)

back_waits : (c : Context) (r : Running) (is : List Waiting) (s : Said) → owner_waits (called_back c r is s).owner ≡ waiting r.control
back_waits c r is s = of (is_done r.control) refl
  where
    of : (b : Bool) → is_done r.control ≡ b → owner_waits (cond b (handed is (closed_with (running_group c.job r) s)) (part_of (Some (staged c (Begun r))) is s)).owner ≡ waiting r.control
    of true h = handed_waits is (closed_with (running_group c.job r) s) ∙ done_waits r.control h
    of false h = refl

owner_is : (c : Context) (x : Running) (part : Part) → part.owner ≡ Some c → c.stage ≡ Begun x → owner_waits part.owner ≡ waiting x.control
owner_is c x part a b = ap owner_waits a ∙ ap stage_waits b

module _ (r : Rules) (m : Machine) (o : IsOrderly r m) (good : (k : Key) → OwnerGood Good (m.parts k).owner) (g : ℕ) (p : Program) where
  Waits : Key → Part → Type 0
  Waits k q = owner_waits q.owner ≡ owner_waits (m.parts k).owner

  started : (k : Key) → Allowed r (Start k) m → owner_waits (start p (m.parts k)).owner ≡ (start_effects p (m.parts k)).asks
  started k h = start_case (λ (q : Part) (e : Effects). owner_waits q.owner ≡ e.asks) p (m.parts k)
      (λ c x y. back_waits c (left_by (begins p c.job) unanswered [] 0) (m.parts k).waiting _ ∙ begin_asked c.job.facts (Rest (text_for p c.job.handler) ∷ []) [] (silent_talk (λ i. pos 0))) h.1

  delivered : (k : Key) (slot : ℕ) → Allowed r (Deliver k slot) m → owner_waits (deliver slot (m.parts k)).owner ≡ replaced slot (deliver_effects slot (m.parts k)).asks (owner_waits (m.parts k).owner)
  delivered k slot h = deliver_case (λ (q : Part) (e : Effects). owner_waits q.owner ≡ replaced slot e.asks (owner_waits (m.parts k).owner)) slot (m.parts k)
      (λ c x a y z w. back_waits c (left_by (gives c.job x slot a) (upd x.answers slot None) x.lines x.served) (m.parts k).waiting _
      ∙ (give_asked c.job.facts x.control slot a (silent_talk x.names) (waits_here x slot a (stage_good c x (subst (OwnerGood Good) y (good k)) z) w)
      ∙ ap (replaced slot (gives c.job x slot a).asks) (sym (owner_is c x (m.parts k) y z)))) h.1

  served : (k : Key) (slot : ℕ) → Allowed r (Serve k slot) m → owner_waits (serve slot (m.parts k)).owner ≡ owner_waits (m.parts k).owner
  served k slot h = serve_case (λ (q : Part). owner_waits q.owner ≡ owner_waits (m.parts k).owner) slot (m.parts k) (λ c x q y z w. sym (owner_is c x (m.parts k) y z)) h.1

  fired : (k : Key) (n : ℕ) → Allowed r (Fire n k) m → owner_waits (fire n (m.parts k)).owner ≡ owner_waits (m.parts k).owner
  fired k n h = fire_case (λ (q : Part). owner_waits q.owner ≡ owner_waits (m.parts k).owner) n (m.parts k) (λ e w more is t a b. ap owner_waits (sym a)) m.must k h.1 (o.sound.ordered k)

  admitted : (k : Key) (n e : ℕ) (f : _) → owner_waits (admit n e f (m.parts k)).owner ≡ owner_waits (m.parts k).owner
  admitted k n e f = admit_case (λ (q : Part). owner_waits q.owner ≡ owner_waits (m.parts k).owner) n e f (m.parts k).owner (m.parts k).waiting (m.parts k).said (λ a b. ap owner_waits (sym a)) refl

  marked : (k : Key) (e : ℕ) (w : ℤ) (more : ℕ) → owner_waits (mark e w more (m.parts k)).owner ≡ owner_waits (m.parts k).owner
  marked k e w more = mark_case (λ (q : Part). owner_waits q.owner ≡ owner_waits (m.parts k).owner) e w more (m.parts k).owner (m.parts k).waiting (m.parts k).said refl refl

  -- an event of a key, seen from each key
  seen : (j : Key) (q : Part) (k : Key) (next : List Asked → List Asked) → owner_waits q.owner ≡ next (owner_waits (m.parts j).owner)
      → owner_waits (part_at m.parts j q k).owner ≡ cond (bytes_eq j k) (next (owner_waits (m.parts k).owner)) (owner_waits (m.parts k).owner)
  seen j q k next h = by_cases (bytes_eq j k)
      (λ x. ap (λ (y : Part). owner_waits y.owner) (cond-true (bytes_eq j k) q (m.parts k) x)
      ∙ (subst (λ (i : Key). owner_waits q.owner ≡ next (owner_waits (m.parts i).owner)) (key_is j k x) h
      ∙ sym (cond-true (bytes_eq j k) (next (owner_waits (m.parts k).owner)) (owner_waits (m.parts k).owner) x)))
      (λ x. ap (λ (y : Part). owner_waits y.owner) (cond-false (bytes_eq j k) q (m.parts k) x) ∙ sym (cond-false (bytes_eq j k) (next (owner_waits (m.parts k).owner)) (owner_waits (m.parts k).owner) x))

  stays : (j : Key) (q : Part) (k : Key) → owner_waits q.owner ≡ owner_waits (m.parts j).owner → owner_waits (part_at m.parts j q k).owner ≡ owner_waits (m.parts k).owner
  stays j q k h = seen j q k (λ xs. xs) h ∙ both (bytes_eq j k)
    where
      both : (b : Bool) → cond b (owner_waits (m.parts k).owner) (owner_waits (m.parts k).owner) ≡ owner_waits (m.parts k).owner
      both true = refl
      both false = refl

  sent : (k : Key) (cs : List Closed) → owner_waits ((send_first g p cs m).parts k).owner ≡ owner_waits (m.parts k).owner
  sent k [] = refl
  sent k (c ∷ cs) = refl

  pub event_waits : (e : Happening) (k : Key) → Allowed r e m → owner_waits ((happens g p e m).parts k).owner ≡ waits_behind k e (outcome g p e m).asks (owner_waits (m.parts k).owner)
  event_waits (Admit n j time values) k h = stays j (admit n m.epoch (row_facts m.wm time values) (m.parts j)) k (admitted j n m.epoch (row_facts m.wm time values))
  event_waits (Close (ByWatermark w)) k h = marked k m.epoch w most_firings
  event_waits (Close (ByBarrier id)) k h = refl
  event_waits (Fire n j) k h = stays j (fire n (m.parts j)) k (fired j n h)
  event_waits (Start j) k h = seen j (start p (m.parts j)) k (λ xs. (start_effects p (m.parts j)).asks) (started j h)
  event_waits (Serve j slot) k h = stays j (serve slot (m.parts j)) k (served j slot h)
  event_waits (Deliver j slot) k h = seen j (deliver slot (m.parts j)) k (replaced slot (deliver_effects slot (m.parts j)).asks) (delivered j slot h)
  event_waits Send k h = sent k m.unsent

  given_least : (k : Key) (slot : ℕ) (c : Context) (x : Running) (a : Answer) → (m.parts k).owner ≡ Some c → c.stage ≡ Begun x → x.answers slot ≡ Some a
      → TakesLeast (without slot (slots x.control)) (gives c.job x slot a).asks
  given_least k slot c x a y z w = give_least c.job.facts x.control slot a (silent_talk x.names) (waits_here x slot a (stage_good c x (subst (OwnerGood Good) y (good k)) z) w)

  start_rises : (k : Key) → Allowed r (Start k) m → SlotsRise (start_effects p (m.parts k)).asks
  start_rises k h = start_case (λ (q : Part) (e : Effects). SlotsRise e.asks) p (m.parts k)
      (λ c x y. takes_rise [] (begins p c.job).asks (begin_least c.job.facts (Rest (text_for p c.job.handler) ∷ []) [] (silent_talk (λ i. pos 0)))) h.1

  deliver_rises : (k : Key) (slot : ℕ) → Allowed r (Deliver k slot) m → SlotsRise (deliver_effects slot (m.parts k)).asks
  deliver_rises k slot h = deliver_case (λ (q : Part) (e : Effects). SlotsRise e.asks) slot (m.parts k)
      (λ c x a y z w. takes_rise (without slot (slots x.control)) (gives c.job x slot a).asks (given_least k slot c x a y z w)) h.1

  sent_rises : (cs : List Closed) → SlotsRise (sends_first g p cs m).asks
  unfolding SlotsRise
  sent_rises [] = tt
  sent_rises (c ∷ cs) = tt

  pub asks_rise : (e : Happening) → Allowed r e m → SlotsRise (outcome g p e m).asks
  unfolding SlotsRise
  asks_rise (Admit n j time values) h = tt
  asks_rise (Close c) h = tt
  asks_rise (Fire n j) h = tt
  asks_rise (Start j) h = start_rises j h
  asks_rise (Serve j slot) h = tt
  asks_rise (Deliver j slot) h = deliver_rises j slot h
  asks_rise Send h = sent_rises m.unsent

  pub deliver_outside : (k : Key) (slot : ℕ) → Allowed r (Deliver k slot) m → AreOutside (slots_beside slot (owner_waits (m.parts k).owner)) (deliver_effects slot (m.parts k)).asks
  deliver_outside k slot h = deliver_case (λ (q : Part) (e : Effects). AreOutside (slots_beside slot (owner_waits (m.parts k).owner)) e.asks) slot (m.parts k)
      (λ c x a y z w. subst (λ (xs : List ℕ). AreOutside (without slot xs) (gives c.job x slot a).asks)
      (slots_waiting x.control ∙ ap (map (λ (b : Asked). b.slot)) (sym (owner_is c x (m.parts k) y z)))
      (takes_outside (without slot (slots x.control)) (gives c.job x slot a).asks (given_least k slot c x a y z w))) h.1

  -- how many wait at the key whose callback has ended
  pub start_length : (k : Key) → Allowed r (Start k) m → length (owner_waits (start p (m.parts k)).owner) ≡ length (start_effects p (m.parts k)).asks
  start_length k h = ap (λ (xs : List Asked). length xs) (started k h)

  pub deliver_length : (k : Key) (slot : ℕ) → Allowed r (Deliver k slot) m
      → length (owner_waits (deliver slot (m.parts k)).owner) + 1 ≡ length (owner_waits (m.parts k).owner) + length (deliver_effects slot (m.parts k)).asks
  deliver_length k slot h = deliver_case (λ (q : Part) (e : Effects). length (owner_waits q.owner) + 1 ≡ length (owner_waits (m.parts k).owner) + length e.asks) slot (m.parts k)
      (λ c x a y z w.
      let b : length (owner_waits (called_back c (left_by (gives c.job x slot a) (upd x.answers slot None) x.lines x.served) (m.parts k).waiting (timed (gives c.job x slot a) (m.parts k).said)).owner) ≡ length (waiting (gives c.job x slot a).control) =
      ap (λ (xs : List Asked). length xs) (back_waits c (left_by (gives c.job x slot a) (upd x.answers slot None) x.lines x.served) (m.parts k).waiting (timed (gives c.job x slot a) (m.parts k).said)) in
      let d : length (owner_waits (m.parts k).owner) ≡ length (waiting x.control) = ap (λ (xs : List Asked). length xs) (owner_is c x (m.parts k) y z) in
      let f : length (slots (gives c.job x slot a).control) ≡ length (waiting (gives c.job x slot a).control) = asked_length (gives c.job x slot a).control in
      let i : length (slots x.control) ≡ length (waiting x.control) = asked_length x.control in
      let j : length (slots (gives c.job x slot a).control) + 1 ≡ length (slots x.control) + length (gives c.job x slot a).asks =
      given_length c.job x slot a (waits_here x slot a (stage_good c x (subst (OwnerGood Good) y (good k)) z) w) in
      omega arith) h.1

  pub started_length : (k : Key) → Allowed r (Start k) m → length (owner_waits ((happens g p (Start k) m).parts k).owner) ≡ length (outcome g p (Start k) m).asks
  started_length k h = ap (λ (q : Part). length (owner_waits q.owner)) (cond-true (bytes_eq k k) (start p (m.parts k)) (m.parts k) (same_key k)) ∙ start_length k h

  pub delivered_length : (k : Key) (slot : ℕ) → Allowed r (Deliver k slot) m
      → length (owner_waits ((happens g p (Deliver k slot) m).parts k).owner) + 1 ≡ length (owner_waits (m.parts k).owner) + length (outcome g p (Deliver k slot) m).asks
  delivered_length k slot h = ap (λ (q : Part). length (owner_waits q.owner) + 1) (cond-true (bytes_eq k k) (deliver slot (m.parts k)) (m.parts k) (same_key k)) ∙ deliver_length k slot h
