-- Which contexts are to be started behind a callback.
use Rattle.std.proofs.Common.{◌≡◌, ◌≢◌, ℕ, ◌+◌, Bool, true, false, ◌&&◌, List, [], ◌∷◌, Option, Some, None, is_none, refl, sym, ap, ap₂, ◌∙◌, arith}
use Rattle.std.specs.Str.{bytes_eq}
use Rattle.ax_machine.specs.Entries.{Key}
use Rattle.ax_machine.proofs.FiringLemmas.{key_is, same_key}
use Rattle.ax_context.specs.declared.id.Id.{Id}
use Rattle.ax_context.specs.declared.contexts.Context.{Context as Held}
use Rattle.ax_context.specs.Slots.{at}
use Rattle.ax_account.specs.declared.part.Waiting.{Waiting as Item}
use Rattle.ax_account.specs.declared.part.Waiting.TheVariants as item
use Rattle.ax_account.specs.declared.part.Next.{Next}
use Rattle.ax_account.specs.declared.part.Next.TheVariants as next
use Rattle.ax_account.specs.Parts.{next_of, taken_up}
use Rattle.ax_account.specs.Accounts.{owner_of}
use Rattle.ax_mailbox.specs.declared.mail.Mail.{Mail}
use Rattle.ax_execution.proofs.Upto.{by_cases}
use Rattle.ax_core.specs.declared.record.Record.{Record}
use Rattle.ax_core.specs.declared.controller.Controller.{Controller}
use Rattle.ax_core.specs.Contexts.{same_id}
use Rattle.ax_core.specs.Flow.{one_if, starts_as, started_as, is_owner, is_to_start}
use Rattle.ax_core.specs.Callbacks.{with_start}
use Rattle.ax_core.proofs.Flows.{start_more}

-- whether a context comes next at its key
abbrev pub next_is : Id → Next → Bool
next_is i next.Free = false
next_is i (next.Row j) = same_id j i
next_is i (next.Mark e w fired) = false

more_none : (n : ℕ) → n ≡ n + 0
more_none n = omega arith

pub starts_posted : (n : Next) (ns : List Mail) (i : Id) → started_as i (with_start n ns) ≡ started_as i ns + one_if (next_is i n)
starts_posted next.Free ns i = more_none (started_as i ns)
starts_posted (next.Row j) ns i = start_more ns j i
starts_posted (next.Mark e w fired) ns i = more_none (started_as i ns)

-- it is the owner then
pub next_owns : (i : Id) (is : List Item) → is_owner i (taken_up is).owner ≡ next_is i (next_of is)
next_owns i [] = refl
next_owns i (item.Row j ∷ is) = refl
next_owns i (item.Mark e w fired ∷ is) = refl

-- a context of a key that hasn't begun
abbrev pub IsUnbegunOf : Key → Option (Held Record) → Type 0
IsUnbegunOf key None = ⊥
IsUnbegunOf key (Some h) = (h.payload.facts.key ≡ key) × (is_none h.payload.machine ≡ true)

true_false : true ≡ false → ⊥
true_false e = cc e

and_false : (b : Bool) → (b && false) ≡ false
and_false true = refl
and_false false = refl

module _ (old new : Controller) (id : Id) (key : Key) (i : Id) (differ : same_id id i ≡ false) (n : Next)
    (was : owner_of old.accounts key ≡ Some id) (now : is_owner i (owner_of new.accounts key) ≡ next_is i n) (others : (q : Key) → q ≢ key → owner_of new.accounts q ≡ owner_of old.accounts q) where
  to_start : (o : Option (Held Record)) → (next_is i n ≡ true → IsUnbegunOf key o) → one_if (is_to_start old i o) + one_if (next_is i n) ≡ one_if (is_to_start new i o)
  to_start None f = by_cases (next_is i n) (λ x. absurd (f x)) (λ x. ap (λ (b : Bool). 0 + one_if b) x)
  to_start (Some h) f = by_cases (bytes_eq key h.payload.facts.key)
      (λ x. let k : key ≡ h.payload.facts.key = key_is key h.payload.facts.key x in
      let before : is_owner i (owner_of old.accounts h.payload.facts.key) ≡ false = ap (λ (q : Key). is_owner i (owner_of old.accounts q)) (sym k) ∙ ap (is_owner i) was ∙ differ in
      let behind : is_owner i (owner_of new.accounts h.payload.facts.key) ≡ next_is i n = ap (λ (q : Key). is_owner i (owner_of new.accounts q)) (sym k) ∙ now in
      let quiet : is_to_start old i (Some h) ≡ false = ap (λ (b : Bool). is_none h.payload.machine && b) before ∙ and_false (is_none h.payload.machine) in
      by_cases (next_is i n)
      (λ y. ap₂ (λ (b d : Bool). one_if b + one_if d) quiet y ∙ sym (ap₂ (λ (b d : Bool). one_if (b && d)) (f y).1 (behind ∙ y)))
      (λ y. ap₂ (λ (b d : Bool). one_if b + one_if d) quiet y ∙ sym (ap (λ (b : Bool). one_if b) (ap (λ (b : Bool). is_none h.payload.machine && b) (behind ∙ y) ∙ and_false (is_none h.payload.machine)))))
      (λ x. let stays : owner_of new.accounts h.payload.facts.key ≡ owner_of old.accounts h.payload.facts.key =
      others h.payload.facts.key (λ same. true_false (sym (same_key key) ∙ ap (bytes_eq key) (sym same) ∙ x)) in
      let never : next_is i n ≡ false = by_cases (next_is i n) (λ y. absurd (true_false (sym (same_key key) ∙ ap (bytes_eq key) (sym (f y).0) ∙ x))) (λ y. y) in
      ap (λ (b : Bool). one_if (is_to_start old i (Some h)) + one_if b) never ∙ sym (more_none (one_if (is_to_start old i (Some h))))
      ∙ sym (ap (λ (o : Option Id). one_if (is_none h.payload.machine && is_owner i o)) stays))

  -- each other context has its start mail, the one that owns the key now too
  pub starts_others : (m : Mail) (ns : List Mail) → old.mails.mails ≡ m ∷ ns → new.mails.mails ≡ with_start n ns → starts_as i m ≡ 0 → at new.contexts i ≡ at old.contexts i
      → (next_is i n ≡ true → IsUnbegunOf key (at old.contexts i)) → started_as i old.mails.mails ≡ one_if (is_to_start old i (at old.contexts i))
      → started_as i new.mails.mails ≡ one_if (is_to_start new i (at new.contexts i))
  starts_others m ns taken posted quiet same f once =
      let rest : started_as i ns ≡ one_if (is_to_start old i (at old.contexts i)) = left (started_as i ns) (starts_as i m) quiet ∙ sym (ap (started_as i) taken) ∙ once in
      ap (started_as i) posted ∙ starts_posted n ns i ∙ ap (λ (k : ℕ). k + one_if (next_is i n)) rest ∙ to_start (at old.contexts i) f
      ∙ sym (ap (λ (o : Option (Held Record)). one_if (is_to_start new i o)) same)
    where
      left : (a b : ℕ) → b ≡ 0 → a ≡ b + a
      left a b e = omega arith

-- the context itself has begun, and no mail starts it
pub starts_own : (n : Next) (ns : List Mail) (id : Id) → started_as id ns ≡ 0 → next_is id n ≡ false → started_as id (with_start n ns) ≡ 0
starts_own n ns id none other = starts_posted n ns id ∙ ap₂ (λ (k : ℕ) (b : Bool). k + one_if b) none other
