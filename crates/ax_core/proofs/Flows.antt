-- The flow of the requests where a row comes.
use Rattle.std.proofs.Common.{◌≡◌, ◌≢◌, ℕ, ◌+◌, nat_eq, List, [], ◌∷◌, ◌++◌, true, false, Option, Some, None, refl, sym, ap, ◌∙◌, subst, arith, eqb-true}
use Rattle.std.proofs.lemmas.Bool.{eq-eqb}
use Rattle.ax_lang.specs.declared.program.Program.{Program}
use Rattle.ax_machine.specs.Entries.{Key}
use Rattle.ax_context.specs.declared.id.Id.{Id}
use Rattle.ax_context.specs.declared.contexts.Context.{Context as Held}
use Rattle.ax_context.specs.Ids.{slot_of}
use Rattle.ax_context.specs.Slots.{Slots, at}
use Rattle.ax_mailbox.specs.declared.mail.Mail.{Mail}
use Rattle.ax_mailbox.specs.declared.mail.Mail.TheVariants as mail
use Rattle.ax_execution.specs.Contexts.{Context}
use Rattle.ax_execution.proofs.Upto.{by_cases}
use Rattle.ax_core.specs.declared.record.Record.{Record}
use Rattle.ax_core.specs.Contexts.{same_id, ContextStands}
use Rattle.ax_core.specs.Keys.{OwnerStands}
use Rattle.ax_core.specs.Flow.{one_if, answers_as, answered_as, started_as, is_owner}

pub start_answered : (ms : List Mail) (one id : Id) (slot : ℕ) → answered_as id slot (ms ++ mail.Start one ∷ []) ≡ answered_as id slot ms
start_answered [] one id slot = refl
start_answered (m ∷ ms) one id slot = ap (λ (n : ℕ). answers_as id slot m + n) (start_answered ms one id slot)

pub start_more : (ms : List Mail) (one id : Id) → started_as id (ms ++ mail.Start one ∷ []) ≡ started_as id ms + one_if (same_id one id)
start_more [] one id = omega arith
start_more (m ∷ ms) one id = let e : started_as id (ms ++ mail.Start one ∷ []) ≡ started_as id ms + one_if (same_id one id) = start_more ms one id in omega arith

same_number : (n : ℕ) → nat_eq n n ≡ true
same_number n = eq-eqb n n refl

pub same_self : (id : Id) → same_id id id ≡ true
same_self id = same_number (slot_of id)

pub same_is : (i j : Id) → same_id i j ≡ true → i ≡ j
same_is i j h = ap (λ (n : ℕ). record { slot = n }) (eqb-true (slot_of i) (slot_of j) h)

pub other_ids : (i j : Id) → same_id i j ≡ false → j ≢ i
other_ids i j h e = differs (sym (ap (same_id i) e ∙ same_self i) ∙ h)
  where
    differs : true ≡ false → ⊥
    differs x = cc x

-- the owner of a key is live
pub owner_is_live : (p : Program) (ms : List Mail) (s : Slots Record) (key : Key) (o : Option Id) (c : Option Context) → OwnerStands p ms s key o c → (id : Id) → at s id ≡ None → is_owner id o ≡ false
owner_is_live p ms s key None None h id gone = refl
owner_is_live p ms s key None (Some c) h id gone = absurd h
owner_is_live p ms s key (Some j) None h id gone = absurd h
owner_is_live p ms s key (Some j) (Some c) h id gone = by_cases (same_id j id)
    (λ x. absurd (subst (λ (o : Option (Held Record)). ContextStands p ms key j o c) (ap (at s) (same_is j id x) ∙ gone) h))
    (λ x. x)
