-- The marks in front of a key that fire nothing are taken off.
use Rattle.std.proofs.Common.{◌≡◌, ℕ, ◌+◌, ◌<◌, ℤ, Bool, true, false, cond, List, [], ◌∷◌, length, Some, None, refl, sym, ap, ◌∙◌, subst, arith}
use Rattle.ax_machine.specs.Entries.{Key}
use Rattle.ax_account.specs.declared.part.Waiting.{Waiting}
use Rattle.ax_account.specs.declared.part.Waiting.TheVariants as item
use Rattle.ax_account.specs.declared.part.Next.{Next}
use Rattle.ax_account.specs.Parts.{Part, next_of, taken_up, mark_ended, is_mark}
use Rattle.ax_account.specs.Accounts.{Accounts, part_of, waiting_of, total, Changes}
use Rattle.ax_account.specs.Queues.{has_key, without}
use Rattle.ax_account.proofs.QueueLemmas.{without_absent}
use Rattle.ax_time.specs.Epochs.{Book}
use Rattle.ax_core.specs.Callbacks.{fires, ending, behind_marks, ended, left_by_one, all_left, AllMayLeave}

pub changes_then : (a b d : Accounts) (key : Key) (x y : Part) → Changes a b key x → Changes b d key y → Changes a d key y
changes_then a b d key x y h g = record {
  own = g.own;
  others = λ other differ. g.others other differ ∙ h.others other differ;
  totals = λ f none.
      let one : total f b + f (part_of a key) ≡ total f a + f x = h.totals f none in
      let two : total f d + f (part_of b key) ≡ total f b + f y = g.totals f none in
      let own : f (part_of b key) ≡ f x = ap f h.own in
      omega arith;
}

module _ (times : List ℤ) where
  -- where the mark in front fires nothing, that is what waits first
  pub record Ends (left : List Waiting) (e : ℕ) : Type 0 where
    pub unowned : (taken_up left).owner ≡ None
    pub waits : (taken_up left).waiting ≡ left
    pub mark : is_mark (next_of left) ≡ true
    pub same : behind_marks times (mark_ended left) ≡ behind_marks times left
    pub gone : ended times left ≡ e ∷ ended times (mark_ended left)
    pub shorter : length (mark_ended left) < length left

  no_end : {A : Type 0} {x : A} → None ≡ Some x → ⊥
  no_end h = cc h

  pub ends : (left : List Waiting) (e : ℕ) → ending times (next_of left) ≡ Some e → Ends left e
  ends [] e h = absurd (no_end h)
  ends (item.Row id ∷ is) e h = absurd (no_end h)
  ends (item.Mark f w fired ∷ is) e h = of (fires w fired times) refl h
    where
      of : (b : Bool) → fires w fired times ≡ b → cond b None (Some f) ≡ Some e → Ends (item.Mark f w fired ∷ is) e
      of true x y = absurd (no_end y)
      of false x y = record {
        unowned = refl;
        waits = refl;
        mark = refl;
        same = sym (ap (λ (b : Bool). cond b (item.Mark f w fired ∷ is) (behind_marks times is)) x);
        gone = ap (λ (b : Bool). cond b [] (f ∷ ended times is)) x ∙ ap (λ (n : ℕ). n ∷ ended times is) (cc y);
        shorter = omega arith;
      }

  -- no mark in front ends
  pub none_ends : (left : List Waiting) → ending times (next_of left) ≡ None → (behind_marks times left ≡ left) × (ended times left ≡ [])
  none_ends [] h = (refl, refl)
  none_ends (item.Row id ∷ is) h = (refl, refl)
  none_ends (item.Mark f w fired ∷ is) h = of (fires w fired times) refl h
    where
      of : (b : Bool) → fires w fired times ≡ b → cond b None (Some f) ≡ None → (behind_marks times (item.Mark f w fired ∷ is) ≡ item.Mark f w fired ∷ is) × (ended times (item.Mark f w fired ∷ is) ≡ [])
      of true x y = (ap (λ (b : Bool). cond b (item.Mark f w fired ∷ is) (behind_marks times is)) x, ap (λ (b : Bool). cond b [] (f ∷ ended times is)) x)
      of false x y = absurd (no_end (sym y))

-- some of the marks are taken off, and these are left
pub record Going (key : Key) (times : List ℤ) (a b : Accounts) (d e : Book) (next : Next) : Type 0 where
  pub left : List Waiting
  pub part : Changes a b key (taken_up left)
  pub next_is : next ≡ next_of left
  pub same : behind_marks times left ≡ behind_marks times (waiting_of a key)
  pub gone : all_left (ended times left) e ≡ all_left (ended times (waiting_of a key)) d
  pub may : AllMayLeave (ended times left) e
  pub idle : has_key a.idle key ≡ false → b.idle ≡ a.idle

-- the mark in front is taken off, and its epoch has one less
pub goes : (key : Key) (times : List ℤ) (a b b' : Accounts) (d e e' : Book) (next next' : Next) (epoch : ℕ) → Going key times a b d e next → ending times next ≡ Some epoch
    → next' ≡ next_of (mark_ended (waiting_of b key)) → Changes b b' key (taken_up (mark_ended (waiting_of b key))) → b'.idle ≡ without key b.idle → e' ≡ left_by_one e epoch
    → Going key times a b' d e' next'
goes key times a b b' d e e' next next' epoch g is next_is part idle epochs =
    let x : Ends times g.left epoch = ends times g.left epoch (sym (ap (ending times) g.next_is) ∙ is) in
    let there : waiting_of b key ≡ g.left = ap (λ (p : Part). p.waiting) g.part.own ∙ x.waits in
    record {
      left = mark_ended g.left;
      part = changes_then a b b' key (taken_up g.left) (taken_up (mark_ended g.left)) g.part (subst (λ (ws : List Waiting). Changes b b' key (taken_up (mark_ended ws))) there part);
      next_is = next_is ∙ ap (λ (ws : List Waiting). next_of (mark_ended ws)) there;
      same = x.same ∙ g.same;
      gone = ap (all_left (ended times (mark_ended g.left))) epochs ∙ sym (ap (λ (es : List ℕ). all_left es e) x.gone) ∙ g.gone;
      may = subst (AllMayLeave (ended times (mark_ended g.left))) (sym epochs) (subst (λ (es : List ℕ). AllMayLeave es e) x.gone g.may).1;
      idle = λ busy. idle ∙ ap (without key) (g.idle busy) ∙ without_absent key a.idle busy;
    }
