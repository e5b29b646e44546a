-- The marker of the oldest closed epoch, which is sent once nothing of that epoch is left.
use Rattle.std.proofs.Common.{◌≡◌, ◌≤◌, ◌<◌, ℕ, suc, ◌+◌, ◌-◌, ◌%◌, ◌^◌, nat_eq, nat_lt, List, [], ◌∷◌, ◌++◌, length, Bool, cond, Option, Some, None, refl, sym, ap, ap₂, ◌∙◌, subst, arith, eqb-true, ltb-true, ltb-false}
use Rattle.std.proofs.lemmas.Bool.{eq-eqb}
use Rattle.std.specs.Str.{bytes_eq}
use Rattle.std.specs.List.{list_any}
use Rattle.ax_text.specs.declared.vocabulary.Answer.{Answer}
use Rattle.ax_text.specs.declared.vocabulary.Handler.{Handler}
use Rattle.ax_text.specs.declared.vocabulary.Handler.TheVariants as handler
use Rattle.ax_text.specs.Programs.{Program}
use Rattle.ax_lang.specs.declared.program.Program.{Program as CodeProgram}
use Rattle.ax_lang.specs.Shown.{shown_program}
use Rattle.ax_lang.proofs.ProgramLemmas.{row_accepted, timer_accepted}
use Rattle.ax_time.specs.declared.epoch.Closed.{Closed as Ended}
use Rattle.ax_time.specs.Epochs.{Book, Fits64, count_of, count_at, markers_of}
use Rattle.ax_execution.specs.Accepted.{AreAccepted}
use Rattle.ax_execution.specs.Contexts.{Context, Waiting, Row, Mark}
use Rattle.ax_execution.specs.Counts.{one_at, row_of_epoch, owner_of_epoch, waiting_of_epoch}
use Rattle.ax_execution.specs.Machine.{ByWatermark, ByBarrier, Closed, Happening, Admit, Close, Fire, Start, Serve, Deliver, Send, Rules}
use Rattle.ax_execution.specs.Allowed.{IsWatermark, NoBarrier, OwnedLater, WaitLater}
use Rattle.ax_execution.specs.MachineControls.{MachineControl, send_first_on, happens_on, control_of_epoch, epoch_count_on}
use Rattle.ax_execution.specs.ControlsAllowed.{AllowedOn, IsAnswered, IsFinishedOn}
use Rattle.ax_execution.specs.Reached.{IsReached, OwnerOpen, WaitingOpen, Follow, MarkInFront, IsOrderly}
use Rattle.ax_execution.proofs.KeySums.{in_total}
use Rattle.ax_execution.proofs.Stuck.{zeros}
use Rattle.ax_execution.proofs.Upto.{by_cases}
use Rattle.ax_execution.proofs.ReachedLemmas.{everywhere}
use Rattle.ax_core.specs.Contexts.{wrapped}
use Rattle.ax_core.specs.Epochs.{MarkersStand, EpochsStand}

pub accepted : (p : CodeProgram) → AreAccepted (shown_program p)
accepted p = record { row = row_accepted p; timer = timer_accepted p }

-- nothing of an epoch is left where all is later

later : (e f : ℕ) → (f ≤ e → ⊥) → e < f
later e f h = by_cases (nat_lt e f) (λ x. ltb-true e f x) (λ x. absurd (h (ltb-false e f x)))

one_here : (e : ℕ) → one_at e e ≡ 1
one_here e = ap (λ (b : Bool). cond b 1 0) (eq-eqb e e refl)

none_later : (e f : ℕ) → e < f → one_at e f ≡ 0
none_later e f h = ap (λ (b : Bool). cond b 1 0) (by_cases (nat_eq f e) (λ x. let same : f ≡ e = eqb-true f e x in absurd (omega arith)) (λ x. x))

owner_none : (e : ℕ) (c : Option Context) → OwnedLater e c → owner_of_epoch e c ≡ 0
owner_none e None h = refl
owner_none e (Some c) h = of c.job.handler
  where
    of : (x : Handler) → row_of_epoch e x c.epoch ≡ 0
    of handler.Row = none_later e c.epoch h
    of handler.Timer = refl

waiting_none : (e : ℕ) (is : List Waiting) → WaitLater e is → waiting_of_epoch e is ≡ 0
waiting_none e [] h = refl
waiting_none e (Row n f facts ∷ is) h = ap₂ (λ (x y : ℕ). x + y) (none_later e f h.0) (waiting_none e is h.1)
waiting_none e (Mark f w more ∷ is) h = ap₂ (λ (x y : ℕ). x + y) (none_later e f h.0) (waiting_none e is h.1)

pub finished_none : (e : ℕ) (m : MachineControl) → IsFinishedOn e m → epoch_count_on e m ≡ 0
finished_none e m h = zeros (λ k. control_of_epoch e (m.controls k)) m.keys (λ k. ap₂ (λ (x y : ℕ). x + y) (owner_none e (m.controls k).owner (h k).0) (waiting_none e (m.controls k).waiting (h k).1))

-- and all is later where nothing of it is left, and nothing is earlier

above : (e f : ℕ) → e ≤ f → one_at e f ≡ 0 → e < f
above e f a h = later e f (λ b. let same : f ≡ e = omega arith in let x : one_at e e ≡ 1 = one_here e in let y : one_at e e ≡ 0 = subst (λ (g : ℕ). one_at e g ≡ 0) same h in absurd (omega arith))

waiting_above : (e : ℕ) (m : MachineControl) → e + length m.unsent ≡ m.epoch → (is : List Waiting) → WaitingOpen m is → waiting_of_epoch e is ≡ 0 → WaitLater e is
waiting_above e m s [] o h = tt
waiting_above e m s (Row n f facts ∷ is) o h =
    let x : one_at e f + waiting_of_epoch e is ≡ 0 = h in
    let a : m.epoch ≤ f + length m.unsent = o.0.unsent in
    (above e f (omega arith) (omega arith), waiting_above e m s is o.1 (omega arith))
waiting_above e m s (Mark f w more ∷ is) o h =
    let x : one_at e f + waiting_of_epoch e is ≡ 0 = h in
    let a : m.epoch ≤ f + length m.unsent = o.0.unsent in
    (above e f (omega arith) (omega arith), waiting_above e m s is o.1 (omega arith))

in_front : (e f : ℕ) (is : List Waiting) → MarkInFront f is → WaitLater e is → e < f
in_front e f [] x y = absurd x
in_front e f (Row n d facts ∷ is) x y = absurd x
in_front e f (Mark d w more ∷ is) x y = let z : e < d = y.0 in let same : d ≡ f = x in omega arith

owner_above : (e : ℕ) (m : MachineControl) → e + length m.unsent ≡ m.epoch → (c : Option Context) (is : List Waiting) → OwnerOpen m c
    → ((d : Context) → c ≡ Some d → d.job.handler ≡ handler.Timer → MarkInFront d.epoch is) → owner_of_epoch e c ≡ 0 → WaitLater e is → OwnedLater e c
owner_above e m s None is o f h w = tt
owner_above e m s (Some c) is o f h w = of c.job.handler refl h
  where
    of : (x : Handler) → c.job.handler ≡ x → row_of_epoch e x c.epoch ≡ 0 → e < c.epoch
    of handler.Row same y = let a : m.epoch ≤ c.epoch + length m.unsent = o.unsent in above e c.epoch (omega arith) y
    of handler.Timer same y = in_front e c.epoch is (f c refl same) w

pub none_finished : (r : Rules) (m : MachineControl) → IsOrderly r m → (e : ℕ) → e + length m.unsent ≡ m.epoch → epoch_count_on e m ≡ 0 → IsFinishedOn e m
none_finished r m o e s h k = by_cases (list_any (bytes_eq k) m.keys)
    (λ x.
    let y : owner_of_epoch e (m.controls k).owner + waiting_of_epoch e (m.controls k).waiting ≤ epoch_count_on e m = in_total m.keys (λ j. control_of_epoch e (m.controls j)) k x in
    let waits : WaitLater e (m.controls k).waiting = waiting_above e m s (m.controls k).waiting (o.waiting k) (omega arith) in
    (owner_above e m s (m.controls k).owner (m.controls k).waiting (o.owners k) (o.firings k) (omega arith) waits, waits))
    (λ x. (subst (OwnedLater e) (sym (o.absent k x).owner) tt, subst (WaitLater e) (sym (o.absent k x).waiting) tt))

-- a barrier is unsent only as the last

abbrev pub BarrierLast : List Closed → Type 0
BarrierLast [] = Unit {0}
BarrierLast (c ∷ cs) = ((IsWatermark c.closing → ⊥) → cs ≡ []) × BarrierLast cs

one_more : (cs : List Closed) (c : Closed) → NoBarrier cs → BarrierLast (cs ++ c ∷ [])
one_more [] c h = (λ n. refl, tt)
one_more (d ∷ cs) c h = (λ n. absurd (n h.0), one_more cs c h.1)

first_gone : (m : MachineControl) (cs : List Closed) → BarrierLast m.unsent → BarrierLast cs → BarrierLast (send_first_on cs m).unsent
first_gone m [] h x = h
first_gone m (c ∷ cs) h x = x.1

last_kept : (r : Rules) (p : Program) (e : Happening) (a : Option Answer) (m : MachineControl) → BarrierLast m.unsent → AllowedOn r e m → IsAnswered e a → BarrierLast (happens_on p e a m).unsent
last_kept r p (Admit n k time values) a m h b c = h
last_kept r p (Close (ByWatermark w)) a m h b c = one_more m.unsent (record { epoch = m.epoch; closing = ByWatermark w }) b.1.0
last_kept r p (Close (ByBarrier id)) a m h b c = one_more m.unsent (record { epoch = m.epoch; closing = ByBarrier id }) b.1.0
last_kept r p (Fire n k) a m h b c = h
last_kept r p (Start k) a m h b c = h
last_kept r p (Serve k slot) a m h b c = h
last_kept r p (Deliver k slot) a m h b c = h
last_kept r p Send a m h b c = first_gone m m.unsent h h

pub barrier_last : (r : Rules) (p : Program) (m : MachineControl) → IsReached r p m → BarrierLast m.unsent
barrier_last r p m reached = everywhere r p (λ (x : MachineControl). BarrierLast x.unsent) (last_kept r p) (λ from fits. tt) m reached

-- the oldest closed epoch in the book

pub markers_length : (cs : List Ended) (ds : List Closed) → MarkersStand (markers_of cs) ds → length cs ≡ length ds
markers_length [] [] h = refl
markers_length [] (d ∷ ds) h = absurd h
markers_length (c ∷ cs) [] h = absurd h
markers_length (c ∷ cs) (d ∷ ds) h = ap suc (markers_length cs ds h.1)

oldest_is : (oldest n e epoch : ℕ) → oldest < 2 ^ 64 → (oldest + n) % 2 ^ 64 ≡ epoch % 2 ^ 64 → e + n ≡ epoch → e % 2 ^ 64 ≡ oldest
oldest_is oldest n e epoch a b c = omega (arith, a, b, c)

place_oldest : (oldest : ℕ) → oldest < 2 ^ 64 → (oldest + (2 ^ 64 - oldest)) % 2 ^ 64 ≡ 0
place_oldest oldest a = omega (arith, a)

module _ (book : Book) (barrier : Bool) (r : Rules) (m : MachineControl) (fits : Fits64 book) (h : EpochsStand book barrier m) (o : IsOrderly r m)
    (c : Ended) (cs : List Ended) (d : Closed) (ds : List Closed) (closed : book.closed ≡ c ∷ cs) (unsent : m.unsent ≡ d ∷ ds) where
  same_length : length book.closed ≡ length m.unsent
  same_length = markers_length book.closed m.unsent h.markers

  -- its number
  pub first_epoch : d.epoch + length m.unsent ≡ m.epoch
  first_epoch =
      let a : length m.unsent ≤ m.epoch = o.unsent in
      let b : (m.epoch - length m.unsent) + length m.unsent ≡ m.epoch = omega arith in
      let f : Follow (m.epoch - length m.unsent) (d ∷ ds) m.epoch = subst (λ (xs : List Closed). Follow (m.epoch - length m.unsent) xs m.epoch) unsent (o.oldest (m.epoch - length m.unsent) b) in
      let e : d.epoch ≡ m.epoch - length m.unsent = f.0 in
      omega arith

  pub first_number : wrapped d.epoch ≡ book.oldest
  first_number = oldest_is book.oldest (length book.closed) d.epoch m.epoch fits.oldest h.current (ap (λ (n : ℕ). d.epoch + n) same_length ∙ first_epoch)

  -- what is left of it
  pub first_count : c.count ≡ epoch_count_on d.epoch m
  first_count =
      let a : d.epoch + length m.unsent ≡ m.epoch = first_epoch in
      let here : count_of book (wrapped d.epoch) ≡ c.count =
      ap (count_of book) first_number ∙ ap (count_at book.closed book.count) (place_oldest book.oldest fits.oldest) ∙ ap (λ (xs : List Ended). count_at xs book.count 0) closed in
      sym here ∙ h.counts d.epoch (omega arith) (omega arith)

  pub finished_zero : IsFinishedOn d.epoch m → c.count ≡ 0
  finished_zero done = first_count ∙ finished_none d.epoch m done

  pub zero_finished : c.count ≡ 0 → IsFinishedOn d.epoch m
  zero_finished e = none_finished r m o d.epoch first_epoch (sym first_count ∙ e)
