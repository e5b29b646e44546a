-- The mark in front of a key that was handed over fires.
use Rattle.std.proofs.Common.{◌≡◌, ◌<◌, ℕ, ℤ, Bool, true, false, cond, ◌&&◌, List, [], ◌∷◌, length, None, IsSome, nat_lt, refl, sym, ap, ◌∙◌, subst}
use Rattle.ax_keys.specs.declared.TheConstants.{MOST_FIRINGS}
use Rattle.ax_text.specs.Times.{least_time}
use Rattle.ax_machine.specs.Entries.{Key}
use Rattle.ax_context.specs.Slots.{live_count}
use Rattle.ax_account.specs.declared.part.Waiting.{Waiting}
use Rattle.ax_account.specs.declared.part.Waiting.TheVariants as item
use Rattle.ax_account.specs.declared.part.Next.{Next}
use Rattle.ax_account.specs.Parts.{Part, next_of, taken_up, is_mark, may_fire}
use Rattle.ax_account.specs.Accounts.{waiting_of, owner_of}
use Rattle.ax_mailbox.specs.declared.mail.Mail.{Mail}
use Rattle.ax_time.specs.Timers.{times_of}
use Rattle.ax_execution.specs.Contexts.{is_due}
use Rattle.ax_core.specs.declared.controller.Controller.{Controller}
use Rattle.ax_core.specs.Callbacks.{fires, behind_marks, with_start, waits_next, HandsOver}

-- a mark in front that fires
record MarkNext (times : List ℤ) (left : List Waiting) : Type 0 where
  pub owner : (taken_up left).owner ≡ None
  pub waits : (taken_up left).waiting ≡ left
  pub may : may_fire (next_of left) ≡ true
  pub due : IsSome (least_time times)
  pub quiet : (ms : List Mail) → with_start (next_of left) ms ≡ ms

due_first : (w : ℤ) (times : List ℤ) → is_due w times ≡ true → IsSome (least_time times)
due_first w [] h = absurd (cc h)
due_first w (t ∷ ts) h = refl

both : (a b : Bool) → (a && b) ≡ true → (a ≡ true) × (b ≡ true)
both true b h = (refl, h)
both false b h = absurd (cc h)

at_mark : (times : List ℤ) (e : ℕ) (w : ℤ) (fired : ℕ) (is : List Waiting) (b : Bool) → fires w fired times ≡ b → (is_mark (next_of (behind_marks times is)) ≡ true → MarkNext times (behind_marks times is))
    → is_mark (next_of (cond b (item.Mark e w fired ∷ is) (behind_marks times is))) ≡ true → MarkNext times (cond b (item.Mark e w fired ∷ is) (behind_marks times is))
at_mark times e w fired is true x rest h = record {
  owner = refl;
  waits = refl;
  may = (both (nat_lt fired MOST_FIRINGS) (is_due w times) x).0;
  due = due_first w times (both (nat_lt fired MOST_FIRINGS) (is_due w times) x).1;
  quiet = λ ms. refl;
}
at_mark times e w fired is false x rest h = rest h

mark_next : (times : List ℤ) (is : List Waiting) → is_mark (next_of (behind_marks times is)) ≡ true → MarkNext times (behind_marks times is)
mark_next times [] h = absurd (cc h)
mark_next times (item.Row id ∷ is) h = absurd (cc h)
mark_next times (item.Mark e w fired ∷ is) h = at_mark times e w fired is (fires w fired times) refl (mark_next times is) h

module _ (old new : Controller) (key : Key) (next : Next) (is : next ≡ next_of (waits_next old key)) (mark : is_mark next ≡ true) (hands : HandsOver old new key) where
  here : MarkNext (times_of old.timers key) (waits_next old key)
  here = mark_next (times_of old.timers key) (waiting_of old.accounts key) (ap is_mark (sym is) ∙ mark)

  pub no_owner : owner_of new.accounts key ≡ None
  no_owner = ap (λ (p : Part). p.owner) hands.part.own ∙ here.owner

  pub may_fire_there : may_fire (next_of (waiting_of new.accounts key)) ≡ true
  may_fire_there = ap (λ (p : Part). may_fire (next_of p.waiting)) hands.part.own ∙ ap (λ (ws : List Waiting). may_fire (next_of ws)) here.waits ∙ here.may

  pub has_timer : IsSome (least_time (times_of new.timers key))
  has_timer = subst (λ (a : Controller). IsSome (least_time (times_of a.timers key))) (sym hands.same) here.due

  pub has_room : live_count old.contexts < old.contexts.limit → live_count new.contexts < new.contexts.limit
  has_room h = subst (λ (a : Controller). live_count a.contexts < a.contexts.limit) (sym hands.same) h

  pub mails_stay : new.mails.mails ≡ old.mails.mails
  mails_stay = hands.mails ∙ here.quiet old.mails.mails

  pub has_mail_room : length old.mails.mails < old.mails.room → length new.mails.mails < new.mails.room
  has_mail_room h = subst (λ (ms : List Mail). length ms < new.mails.room) (sym mails_stay) (subst (λ (n : ℕ). length old.mails.mails < n) (sym hands.room) h)
