-- How contexts in flight, those of a number and their references change, as of the control.
use Rattle.std.proofs.Common.{◌≡◌, ℕ, ◌+◌, List, length, Bool, true, Option, Some, None, refl, sym, ap, ap₂, ◌∙◌, arith, subst}
use Rattle.std.specs.List.{list_any}
use Rattle.std.specs.List.Sorted.{IsStrictlySortedBy}
use Rattle.std.specs.Str.{bytes_eq}
use Rattle.ax_keys.specs.Keys.{key_cmp}
use Rattle.ax_text.specs.declared.vocabulary.Answer.{Answer}
use Rattle.ax_text.specs.Controls.{Ask'}
use Rattle.ax_text.specs.Programs.{Program}
use Rattle.ax_machine.specs.Entries.{Key}
use Rattle.ax_execution.specs.Contexts.{Stage, Unbegun, Begun, Context, Waiting, owners, rows_in}
use Rattle.ax_execution.specs.KeyControls.{KeyControl, keeps_answer}
use Rattle.ax_execution.specs.ControlTurns.{contexts_on}
use Rattle.ax_execution.specs.Machine.{ByWatermark, ByBarrier, Machine, Happening, Admit, Close, Fire, Start, Serve, Deliver, Send, Rules, happens, outcome, in_flight}
use Rattle.ax_execution.specs.Allowed.{StageAsks, Allowed}
use Rattle.ax_execution.specs.Counts.{owner_numbered, rows_numbered, owner_references, number_count, reference_count, one_if_gone, made, made_as, calls, counted}
use Rattle.ax_execution.specs.MachineControls.{MachineControl, control_of_machine, happens_on, answer_of_event, outcome_on, in_flight_on, control_numbered, number_count_on, control_references, reference_count_on}
use Rattle.ax_execution.specs.ControlsAllowed.{AllowedOn, IsFreeOn, HoldBusy}
use Rattle.ax_execution.specs.ControlChanges.{calls_on}
use Rattle.ax_execution.specs.ControlOrder.{IsInOrder, AreSound}
use Rattle.ax_execution.proofs.Upto.{OwnerGood}
use Rattle.ax_execution.proofs.Handlers.{Good}
use Rattle.ax_execution.proofs.Orderly.{IsOrderly}
use Rattle.ax_execution.proofs.GivenUp.{flight_changes, numbers_change, references_change}
use Rattle.ax_execution.proofs.EventControls.{event_control, gone_on, asks_on}
use Rattle.ax_execution.proofs.ControlsAllowed.{flight_on, numbers_on, referred_on, allowed_from}
use Rattle.ax_execution.proofs.ControlSums.{shifted}
use Rattle.ax_execution.proofs.ControlChanges.{owned_known}
use Rattle.ax_execution.proofs.ControlOrder.{bare_machine, order_to, same_control}
use Rattle.ax_execution.proofs.ControlSound.{owner_good}

pub free_contexts : (c : KeyControl) → IsFreeOn c → contexts_on c ≡ 0
free_contexts c h = ap₂ (λ (o : Option Context) (is : List Waiting). owners o + rows_in is) h.owner h.waiting

pub free_numbered : (n : ℕ) (c : KeyControl) → IsFreeOn c → control_numbered n c ≡ 0
free_numbered n c h = ap₂ (λ (o : Option Context) (is : List Waiting). owner_numbered n o + rows_numbered n is) h.owner h.waiting

pub free_references : (n : ℕ) (c : KeyControl) → IsFreeOn c → control_references n c ≡ 0
free_references n c h = ap₂ (λ (o : Option Context) (is : List Waiting). owner_references n o + rows_numbered n is) h.owner h.waiting

-- an answer that is kept changes none of them

abbrev keyed : Option Context → List Waiting → KeyControl → KeyControl
keyed o is c = record { owner = o; waiting = is; times = c.times }

kept_contexts : (slot : ℕ) (a : Option Answer) (c : KeyControl) → contexts_on (keeps_answer slot a c) ≡ contexts_on c
kept_contexts slot a c = of c.owner
  where
    of : (o : Option Context) → contexts_on (keeps_answer slot a (keyed o c.waiting c)) ≡ contexts_on (keyed o c.waiting c)
    of None = refl
    of (Some x) = refl

kept_numbered : (n slot : ℕ) (a : Option Answer) (c : KeyControl) → control_numbered n (keeps_answer slot a c) ≡ control_numbered n c
kept_numbered n slot a c = of c.owner
  where
    of : (o : Option Context) → control_numbered n (keeps_answer slot a (keyed o c.waiting c)) ≡ control_numbered n (keyed o c.waiting c)
    of None = refl
    of (Some x) = refl

kept_references : (n slot : ℕ) (a : Option Answer) (c : KeyControl) → control_references n (keeps_answer slot a c) ≡ control_references n c
kept_references n slot a c = of c.owner
  where
    stage : (x : Context) (st : Stage) (b : Option Answer)
        → control_references n (keeps_answer slot b (keyed (Some (record { number = x.number; epoch = x.epoch; job = x.job; stage = st })) c.waiting c))
        ≡ control_references n (keyed (Some (record { number = x.number; epoch = x.epoch; job = x.job; stage = st })) c.waiting c)
    stage x Unbegun None = refl
    stage x Unbegun (Some d) = refl
    stage x (Begun r) None = refl
    stage x (Begun r) (Some d) = refl

    of : (o : Option Context) → control_references n (keeps_answer slot a (keyed o c.waiting c)) ≡ control_references n (keyed o c.waiting c)
    of None = refl
    of (Some x) = stage x x.stage a

module _ (r : Rules) (p : Program) (m : MachineControl) (o : IsInOrder r m) (sound : AreSound m) where
  here : Machine
  here = bare_machine m

  same : control_of_machine here ≡ m
  unfolding here
  same = same_control r m o

  orderly : IsOrderly r here
  unfolding here
  orderly = order_to r m o

  rises : IsStrictlySortedBy key_cmp here.keys
  unfolding here bare_machine
  rises = o.keys.rise

  good : (k : Key) → OwnerGood Good (here.parts k).owner
  unfolding here bare_machine
  good k = owner_good (m.controls k).owner (sound k)

  allowed : (e : Happening) → AllowedOn r e m → Allowed r e here
  allowed e h = allowed_from r e here (subst (AllowedOn r e) (sym same) h)

  path : (e : Happening) → control_of_machine (happens 0 p e here) ≡ happens_on p e (answer_of_event e here) m
  path e = event_control 0 p e here ∙ ap (happens_on p e (answer_of_event e here)) same

  gone : (e : Happening) → (outcome 0 p e here).gone ≡ (outcome_on p e m).gone
  gone e = gone_on 0 p e here ∙ ap (λ (c : MachineControl). (outcome_on p e c).gone) same

  asked : (e : Happening) → (outcome 0 p e here).asks ≡ (outcome_on p e m).asks
  asked e = asks_on 0 p e here ∙ ap (λ (c : MachineControl). (outcome_on p e c).asks) same

  called : (n : ℕ) (e : Happening) → calls n e here ≡ calls_on n e m
  unfolding here bare_machine
  called n (Admit i k time values) = refl
  called n (Close c) = refl
  called n (Fire i k) = refl
  called n (Start k) = refl
  called n (Serve k slot) = refl
  called n (Deliver k slot) = refl
  called n Send = refl

  busy : HoldBusy m.keys m
  busy = record { rise = o.keys.rise; others = o.keys.others }

  known : (k : Key) (slot : ℕ) → AllowedOn r (Serve k slot) m → list_any (bytes_eq k) m.keys ≡ true
  known k slot h = owned_known m busy (StageAsks slot) k h.1

  flight_by : (e : Happening) → AllowedOn r e m → in_flight_on (happens_on p e (answer_of_event e here) m) + one_if_gone (outcome_on p e m).gone ≡ in_flight_on m + made e
  flight_by e h =
      let law : in_flight (happens 0 p e here) + one_if_gone (outcome 0 p e here).gone ≡ in_flight here + made e = flight_changes r here orderly rises good 0 p e (allowed e h) in
      let x : in_flight_on (control_of_machine (happens 0 p e here)) ≡ in_flight (happens 0 p e here) = flight_on (happens 0 p e here) in
      let y : in_flight_on (control_of_machine (happens 0 p e here)) ≡ in_flight_on (happens_on p e (answer_of_event e here) m) = ap in_flight_on (path e) in
      let z : in_flight_on m ≡ in_flight here = ap in_flight_on (sym same) ∙ flight_on here in
      let w : one_if_gone (outcome 0 p e here).gone ≡ one_if_gone (outcome_on p e m).gone = ap one_if_gone (gone e) in
      omega arith

  pub flight_change : (e : Happening) (a : Option Answer) → AllowedOn r e m → in_flight_on (happens_on p e a m) + one_if_gone (outcome_on p e m).gone ≡ in_flight_on m + made e
  flight_change (Admit n k time values) a h = flight_by (Admit n k time values) h
  flight_change (Close (ByWatermark w)) a h = flight_by (Close (ByWatermark w)) h
  flight_change (Close (ByBarrier id)) a h = flight_by (Close (ByBarrier id)) h
  flight_change (Fire n k) a h = flight_by (Fire n k) h
  flight_change (Start k) a h = flight_by (Start k) h
  flight_change (Serve k slot) a h = shifted contexts_on free_contexts m k (keeps_answer slot a (m.controls k)) 0 0 busy (known k slot h) (ap (λ (x : ℕ). x + 0) (kept_contexts slot a (m.controls k)))
  flight_change (Deliver k slot) a h = flight_by (Deliver k slot) h
  flight_change Send a h = flight_by Send h

  numbers_by : (n : ℕ) (e : Happening) → AllowedOn r e m
      → number_count_on n (happens_on p e (answer_of_event e here) m) + counted (calls_on n e m) (one_if_gone (outcome_on p e m).gone) ≡ number_count_on n m + made_as n e
  numbers_by n e h =
      let law : number_count n (happens 0 p e here) + counted (calls n e here) (one_if_gone (outcome 0 p e here).gone) ≡ number_count n here + made_as n e =
      numbers_change r here orderly rises good 0 p n e (allowed e h) in
      let x : number_count_on n (control_of_machine (happens 0 p e here)) ≡ number_count n (happens 0 p e here) = numbers_on n (happens 0 p e here) in
      let y : number_count_on n (control_of_machine (happens 0 p e here)) ≡ number_count_on n (happens_on p e (answer_of_event e here) m) = ap (number_count_on n) (path e) in
      let z : number_count_on n m ≡ number_count n here = ap (number_count_on n) (sym same) ∙ numbers_on n here in
      let w : counted (calls n e here) (one_if_gone (outcome 0 p e here).gone) ≡ counted (calls_on n e m) (one_if_gone (outcome_on p e m).gone) =
      ap₂ (λ (b g : Bool). counted b (one_if_gone g)) (called n e) (gone e) in
      omega arith

  pub numbers_of_change : (n : ℕ) (e : Happening) (a : Option Answer) → AllowedOn r e m
      → number_count_on n (happens_on p e a m) + counted (calls_on n e m) (one_if_gone (outcome_on p e m).gone) ≡ number_count_on n m + made_as n e
  numbers_of_change n (Admit i k time values) a h = numbers_by n (Admit i k time values) h
  numbers_of_change n (Close (ByWatermark w)) a h = numbers_by n (Close (ByWatermark w)) h
  numbers_of_change n (Close (ByBarrier id)) a h = numbers_by n (Close (ByBarrier id)) h
  numbers_of_change n (Fire i k) a h = numbers_by n (Fire i k) h
  numbers_of_change n (Start k) a h = numbers_by n (Start k) h
  numbers_of_change n (Serve k slot) a h = shifted (control_numbered n) (free_numbered n) m k (keeps_answer slot a (m.controls k)) 0 0 busy (known k slot h) (ap (λ (x : ℕ). x + 0) (kept_numbered n slot a (m.controls k)))
  numbers_of_change n (Deliver k slot) a h = numbers_by n (Deliver k slot) h
  numbers_of_change n Send a h = numbers_by n Send h

  references_by : (n : ℕ) (e : Happening) → AllowedOn r e m
      → reference_count_on n (happens_on p e (answer_of_event e here) m) + counted (calls_on n e m) 1 ≡ reference_count_on n m + (made_as n e + counted (calls_on n e m) (length (outcome_on p e m).asks))
  references_by n e h =
      let law : reference_count n (happens 0 p e here) + counted (calls n e here) 1 ≡ reference_count n here + (made_as n e + counted (calls n e here) (length (outcome 0 p e here).asks)) =
      references_change r here orderly rises good 0 p n e (allowed e h) in
      let x : reference_count_on n (control_of_machine (happens 0 p e here)) ≡ reference_count n (happens 0 p e here) = referred_on n (happens 0 p e here) in
      let y : reference_count_on n (control_of_machine (happens 0 p e here)) ≡ reference_count_on n (happens_on p e (answer_of_event e here) m) = ap (reference_count_on n) (path e) in
      let z : reference_count_on n m ≡ reference_count n here = ap (reference_count_on n) (sym same) ∙ referred_on n here in
      let v : counted (calls n e here) 1 ≡ counted (calls_on n e m) 1 = ap (λ (b : Bool). counted b 1) (called n e) in
      let w : counted (calls n e here) (length (outcome 0 p e here).asks) ≡ counted (calls_on n e m) (length (outcome_on p e m).asks) =
      ap₂ (λ (b : Bool) (xs : List Ask'). counted b (length xs)) (called n e) (asked e) in
      omega arith

  pub references_of_change : (n : ℕ) (e : Happening) (a : Option Answer) → AllowedOn r e m
      → reference_count_on n (happens_on p e a m) + counted (calls_on n e m) 1 ≡ reference_count_on n m + (made_as n e + counted (calls_on n e m) (length (outcome_on p e m).asks))
  references_of_change n (Admit i k time values) a h = references_by n (Admit i k time values) h
  references_of_change n (Close (ByWatermark w)) a h = references_by n (Close (ByWatermark w)) h
  references_of_change n (Close (ByBarrier id)) a h = references_by n (Close (ByBarrier id)) h
  references_of_change n (Fire i k) a h = references_by n (Fire i k) h
  references_of_change n (Start k) a h = references_by n (Start k) h
  references_of_change n (Serve k slot) a h =
      let x : control_references n (keeps_answer slot a (m.controls k)) ≡ control_references n (m.controls k) = kept_references n slot a (m.controls k) in
      let y : reference_count_on n (happens_on p (Serve k slot) a m) + 0 ≡ reference_count_on n m + 0 =
      shifted (control_references n) (free_references n) m k (keeps_answer slot a (m.controls k)) 0 0 busy (known k slot h) (omega arith) in
      omega arith
  references_of_change n (Deliver k slot) a h = references_by n (Deliver k slot) h
  references_of_change n Send a h = references_by n Send h
