-- A callback of a context: what its machine stands for behind it, and whether its context is given up.
use Rattle.std.proofs.Common.{◌≡◌, ℕ, ◌+◌, ◌<◌, nat_eq, pos, Bool, true, false, ◌&&◌, List, [], ◌∷◌, ◌++◌, map, length, length-append, Option, Some, None, refl, sym, ap, ◌∙◌, subst, arith, eqb-true}
use Rattle.std.proofs.lemmas.List.{length-map}
use Rattle.std.proofs.lemmas.Bool.{cond-true, cond-false}
use Rattle.ax_text.specs.declared.vocabulary.Answer.{Answer}
use Rattle.ax_text.specs.declared.vocabulary.Kind.{Kind}
use Rattle.ax_text.specs.Controls.{Ask' as Asked, Answers, Control, Turn, Rest, slots, waiting, replaced, is_done, begin, give}
use Rattle.ax_text.proofs.Asked.{slots_waiting}
use Rattle.ax_text.specs.Functions.{upd}
use Rattle.ax_text.specs.Jobs.{Job, text_for}
use Rattle.ax_text.specs.Prints.{has}
use Rattle.ax_text.specs.Silent.{silent}
use Rattle.ax_text.specs.Sound as control
use Rattle.ax_lang.specs.declared.program.Program.{Program}
use Rattle.ax_lang.specs.Shown.{shown_program}
use Rattle.ax_future.specs.declared.callback.Turn.{Turn as CodeTurn}
use Rattle.ax_future.specs.declared.machine.Machine.{Machine}
use Rattle.ax_future.specs.Machines as machine
use Rattle.ax_future.specs.Talks.{facts_in, ask_in, asks_in}
use Rattle.ax_future.proofs.MachineLemmas.{done_where_none}
use Rattle.ax_machine.specs.Entries.{Key}
use Rattle.ax_context.specs.declared.id.Id.{Id}
use Rattle.ax_context.specs.declared.contexts.Context.{Context as Held}
use Rattle.ax_mailbox.specs.declared.mail.Mail.{Mail}
use Rattle.ax_mailbox.specs.declared.mail.Mail.TheVariants as mail
use Rattle.ax_execution.specs.Contexts.{Running, Begun, Context}
use Rattle.ax_execution.specs.Turns.{begins, gives, staged}
use Rattle.ax_execution.specs.ControlTurns.{paused}
use Rattle.ax_execution.proofs.Upto.{by_cases}
use Rattle.ax_core.specs.declared.record.Record.{Record}
use Rattle.ax_core.specs.Contexts.{same_id, answer_if, answer_in, IsRunning, StageStands, IsJob, IsContext}
use Rattle.ax_core.specs.Flow.{one_if, answered_as}
use Rattle.ax_core.specs.Callbacks.{with_machine, Begins, Resumed}

-- what the code's callback left is the turn of the control
pub turn_begins : (p : Program) (k : Key) (old new : Record) (t : CodeTurn) (j : Job) → IsJob k old j → (b : Begins p old new t) → begins (shown_program p) j ≡ machine.left_by p b.after t
turn_begins p k old new t j is b =
    sym (λ i. begin (is.facts i) (Rest (text_for (shown_program p) (is.handler i)) ∷ []) [] (silent (λ n. pos 0))) ∙ b.turn

pub turn_gives : (p : Program) (k : Key) (ms : List Mail) (id : Id) (old new : Record) (m : Machine) (slot : ℕ) (a : Answer) (t : CodeTurn) (j : Job) (r : Running)
    → IsJob k old j → IsRunning p ms id m r → (g : Resumed p old new m slot a t) → gives j r slot a ≡ machine.left_by p g.after t
turn_gives p k ms id old new m slot a t j r is runs g =
    sym (λ i. give (is.facts i) (runs.control i) slot a (silent (runs.names i))) ∙ g.turn

-- as many slots wait as requests
waiting_length : (c : Control) → length (slots c) ≡ length (waiting c)
waiting_length c = ap (λ (ns : List ℕ). length ns) (slots_waiting c) ∙ length-map (waiting c) (λ (a : Asked). a.slot)

replaced_length : (s : ℕ) (others xs : List Asked) → has s (map (λ (a : Asked). a.slot) xs) ≡ true → length (replaced s others xs) + 1 ≡ length xs + length others
replaced_length s others [] h = absurd (cc h)
replaced_length s others (a ∷ xs) h = by_cases (nat_eq s a.slot)
    (λ x. ap (λ (ys : List Asked). length ys + 1) (cond-true (nat_eq s a.slot) (others ++ xs) (a ∷ replaced s others xs) x)
    ∙ (let l : length (others ++ xs) ≡ length others + length xs = length-append others xs in omega arith))
    (λ x. ap (λ (ys : List Asked). length ys + 1) (cond-false (nat_eq s a.slot) (others ++ xs) (a ∷ replaced s others xs) x)
    ∙ (let l : length (replaced s others xs) + 1 ≡ length xs + length others = replaced_length s others xs (rw x at h) in omega arith))

-- its requests and the reference of what it was called for are the references behind it, and one
pub begun_references : (p : Program) (old new : Record) (t : CodeTurn) (b : Begins p old new t) → 1 + length t.asks ≡ 1 + length (slots (machine.control_of p b.after))
begun_references p old new t b =
    let one : length (slots (machine.control_of p b.after)) ≡ length (waiting (machine.control_of p b.after)) = waiting_length (machine.control_of p b.after) in
    let two : length (waiting (machine.control_of p b.after)) ≡ length (asks_in t.asks) = ap (λ (xs : List Asked). length xs) b.asks in
    let three : length (asks_in t.asks) ≡ length t.asks = length-map t.asks ask_in in
    omega arith

pub given_references : (p : Program) (old new : Record) (m : Machine) (slot : ℕ) (a : Answer) (t : CodeTurn) (g : Resumed p old new m slot a t) → has slot (slots (machine.control_of p m)) ≡ true
    → length (slots (machine.control_of p m)) + length t.asks ≡ 1 + length (slots (machine.control_of p g.after))
given_references p old new m slot a t g waits =
    let there : has slot (map (λ (b : Asked). b.slot) (waiting (machine.control_of p m))) ≡ true = ap (has slot) (sym (slots_waiting (machine.control_of p m))) ∙ waits in
    let one : length (replaced slot (asks_in t.asks) (waiting (machine.control_of p m))) + 1 ≡ length (waiting (machine.control_of p m)) + length (asks_in t.asks) =
    replaced_length slot (asks_in t.asks) (waiting (machine.control_of p m)) there in
    let two : length (waiting (machine.control_of p g.after)) ≡ length (replaced slot (asks_in t.asks) (waiting (machine.control_of p m))) = ap (λ (xs : List Asked). length xs) g.asks in
    let three : length (slots (machine.control_of p g.after)) ≡ length (waiting (machine.control_of p g.after)) = waiting_length (machine.control_of p g.after) in
    let four : length (slots (machine.control_of p m)) ≡ length (waiting (machine.control_of p m)) = waiting_length (machine.control_of p m) in
    let five : length (asks_in t.asks) ≡ length t.asks = length-map t.asks ask_in in
    omega arith

nothing : {A : Type 0} (xs : List A) → 1 + length xs ≡ 1 → xs ≡ []
nothing [] h = refl
nothing (x ∷ xs) h = absurd (omega (arith, h))

-- no reference is left exactly where the handler has ended
pub is_gone : (n : ℕ) (kinds : List Kind) (c : Control) → control.IsSound n kinds c → 1 + length (slots c) ≡ 1 → is_done c ≡ true
is_gone n kinds c sound one = (done_where_none n kinds c (is_done c) refl sound).1 (nothing (slots c) one)

pub is_live : (n : ℕ) (kinds : List Kind) (c : Control) → control.IsSound n kinds c → 1 < 1 + length (slots c) → is_done c ≡ false
is_live n kinds c sound more = by_cases (is_done c)
    (λ x. let none : length (slots c) ≡ 0 = ap (λ (xs : List ℕ). length xs) ((done_where_none n kinds c (is_done c) refl sound).0 x) in absurd (omega (arith, more)))
    (λ x. x)

-- what is held of a context that waits on
pub held_on : (p : Program) (ms ns : List Mail) (key : Key) (id : Id) (h g : Held Record) (c : Context) (t : Turn) (answers : Answers) (m : Machine) (turn : CodeTurn)
    → IsContext p ms key id h c → t ≡ machine.left_by p m turn → machine.IsSound p m → g.payload ≡ with_machine h.payload m → g.number ≡ h.number → g.epoch ≡ h.epoch
    → g.count ≡ length (slots (machine.control_of p m)) → ((slot : ℕ) → answer_in ns id slot ≡ answers slot) → IsContext p ns key id g (staged c (Begun (paused t answers)))
held_on p ms ns key id h g c t answers m turn is same sound payload number epoch count given = record {
  number = number ∙ is.number;
  epoch = epoch ∙ is.epoch;
  count = count ∙ ap (λ (x : Turn). length (slots x.control)) (sym same);
  job = record {
    key = ap (λ (r : Record). r.facts.key) payload ∙ is.job.key;
    handler = ap (λ (r : Record). r.handler) payload ∙ is.job.handler;
    facts = ap (λ (r : Record). facts_in r.facts) payload ∙ is.job.facts;
  };
  stage = subst (λ (o : Option Machine). StageStands p ns id o (Begun (paused t answers))) (sym (ap (λ (r : Record). r.machine) payload)) (record {
    control = sym (ap (λ (x : Turn). x.control) same);
    names = sym (ap (λ (x : Turn). x.talk.names) same);
    answers = given;
    sound = sound;
  });
}

-- ---- the answers behind a mail that was taken

none_first : (n : ℕ) → n ≡ 0 + n
none_first n = omega arith

-- no mail answers a slot
pub none_answers : (ms : List Mail) (id : Id) (slot : ℕ) → answered_as id slot ms ≡ 0 → answer_in ms id slot ≡ None
none_answers [] id slot h = refl
none_answers (mail.Start i ∷ ms) id slot h = none_answers ms id slot (none_first (answered_as id slot ms) ∙ h)
none_answers (mail.Fire i ∷ ms) id slot h = none_answers ms id slot (none_first (answered_as id slot ms) ∙ h)
none_answers (mail.Reply i s a ∷ ms) id slot h = of (same_id i id && nat_eq s slot) h (none_answers ms id slot)
  where
    of : (b : Bool) → one_if b + answered_as id slot ms ≡ 0 → (answered_as id slot ms ≡ 0 → answer_in ms id slot ≡ None) → answer_if b a (answer_in ms id slot) ≡ None
    of true e f = absurd (omega (arith, e))
    of false e f = f (none_first (answered_as id slot ms) ∙ e)

-- an answer that was handed over is gone, and those at other slots stay
pub given_answers : (ms : List Mail) (id : Id) (slot : ℕ) (a : Answer) (answers : Answers) → same_id id id ≡ true → ((s : ℕ) → answer_in (mail.Reply id slot a ∷ ms) id s ≡ answers s) → answered_as id slot ms ≡ 0
    → (s : ℕ) → answer_in ms id s ≡ upd answers slot None s
given_answers ms id slot a answers self given none s = by_cases (nat_eq slot s)
    (λ x. subst (λ (n : ℕ). answer_in ms id n ≡ None) (eqb-true slot s x) (none_answers ms id slot none) ∙ sym (cond-true (nat_eq slot s) None (answers s) x))
    (λ x. sym (cond-false (same_id id id && nat_eq slot s) (Some a) (answer_in ms id s) (ap (λ (b : Bool). b && nat_eq slot s) self ∙ x)) ∙ given s ∙ sym (cond-false (nat_eq slot s) None (answers s) x))

-- and it was that of the control
pub answer_given : (ms : List Mail) (id : Id) (slot : ℕ) (a : Answer) (answers : Answers) → same_id id id ≡ true → nat_eq slot slot ≡ true → ((s : ℕ) → answer_in (mail.Reply id slot a ∷ ms) id s ≡ answers s)
    → answers slot ≡ Some a
answer_given ms id slot a answers self same given =
    sym (given slot) ∙ cond-true (same_id id id && nat_eq slot slot) (Some a) (answer_in ms id slot) (ap (λ (b : Bool). b && nat_eq slot slot) self ∙ same)

-- no other context's answers change
pub others_answered : (ms : List Mail) (id other : Id) (slot s : ℕ) (a : Answer) → same_id id other ≡ false → answer_in (mail.Reply id slot a ∷ ms) other s ≡ answer_in ms other s
others_answered ms id other slot s a differ = cond-false (same_id id other && nat_eq slot s) (Some a) (answer_in ms other s) (ap (λ (b : Bool). b && nat_eq slot s) differ)
