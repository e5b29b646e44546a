-- Each event of a key keeps what it settles to.
use Rattle.std.proofs.Common.{◌≡◌, ℕ, zero, suc, ℤ, int_le, List, [], ◌∷◌, ◌++◌, Bool, true, false, cond, Option, Some, None, refl, sym, ap, ◌∙◌}
use Rattle.std.proofs.lemmas.Bool.{cond-true, cond-false}
use Rattle.ax_text.specs.declared.vocabulary.Request.{Request}
use Rattle.ax_text.specs.declared.vocabulary.Answer.{Answer}
use Rattle.ax_text.specs.Functions.{upd}
use Rattle.ax_text.specs.Exprs.{Facts}
use Rattle.ax_text.specs.Programs.{Program}
use Rattle.ax_text.specs.Controls.{Control, Done, Wait, Arms, is_done, request_at}
use Rattle.ax_text.specs.Jobs.{Job}
use Rattle.ax_text.specs.Silent.{unanswered}
use Rattle.ax_machine.specs.KeySync.{Said, fire_first, key_fires}
use Rattle.ax_execution.specs.Contexts.{Running, running_group, Stage, Unbegun, Begun, Context, Waiting, Row, Mark, Part, is_due, may_fire}
use Rattle.ax_execution.specs.Rest.{rest_running, rest_stage, rest_owner, rest_item, rest_items, settled}
use Rattle.ax_execution.proofs.Handles.{Handles}
use Rattle.ax_execution.specs.Turns.{handed, timed, closed_with, left_by, called_back, begins, start_stage, start_owner, start, serve_request, gives, give_answer, fire_due, fire_front, fire, admit_at, admit, mark_at, mark}

module _ (p : Program) (Good : Running → Type 0) (H : Handles p Good) where
  -- a mark that doesn't fire does nothing
  not_first : (w : ℤ) (go : Said → Said) (times : List ℤ) (s : Said) → is_due w times ≡ false → fire_first p w go times s ≡ s
  not_first w go [] s h = refl
  not_first w go (t ∷ ts) s h = cond-false (int_le t w) _ s h

  pub idle_mark : (w : ℤ) (more : ℕ) (s : Said) → may_fire w more s.state.times ≡ false → key_fires p w more s ≡ s
  idle_mark w zero s h = refl
  idle_mark w (suc more) s h = not_first w (key_fires p w more) s.state.times s h

  pub not_due_mark : (w : ℤ) (more : ℕ) (s : Said) → is_due w s.state.times ≡ false → key_fires p w more s ≡ s
  not_due_mark w zero s h = refl
  not_due_mark w (suc more) s h = not_first w (key_fires p w more) s.state.times s h

  if_kept : (b : Bool) (x y : Part) (end : Said) → (b ≡ true → settled p x ≡ end) → (b ≡ false → settled p y ≡ end) → settled p (cond b x y) ≡ end
  if_kept true x y end f g = f refl
  if_kept false x y end f g = g refl

  pub handed_kept : (is : List Waiting) (s : Said) → settled p (handed is s) ≡ rest_items p is s
  handed_kept [] s = refl
  handed_kept (Row n e f ∷ is) s = refl
  handed_kept (Mark e w more ∷ is) s = if_kept (may_fire w more s.state.times) _ _ _
      (λ h. refl)
      (λ h. handed_kept is s ∙ ap (rest_items p is) (sym (idle_mark w more s h)))

  -- a handler that is done has nothing left
  pub done_rest : (j : Job) (c : Control) (r : Running) (s : Said) → r.control ≡ c → is_done c ≡ true → rest_running j r s ≡ closed_with (running_group j r) s
  done_rest j Done r s e h = rw e refl
  done_rest j (Wait t q a k) r s e h = absurd (cc h)
  done_rest j (Arms a b k) r s e h = absurd (cc h)

  pub called_back_kept : (c : Context) (r : Running) (is : List Waiting) (s : Said) → settled p (called_back c r is s) ≡ rest_items p is (rest_running c.job r s)
  called_back_kept c r is s = if_kept (is_done r.control) _ _ _
      (λ h. handed_kept is (closed_with (running_group c.job r) s) ∙ ap (rest_items p is) (sym (done_rest c.job r.control r s refl h)))
      (λ h. refl)

  pub rest_more : (is : List Waiting) (i : Waiting) (s : Said) → rest_items p (is ++ i ∷ []) s ≡ rest_item p i (rest_items p is s)
  rest_more [] i s = refl
  rest_more (x ∷ is) i s = rest_more is i (rest_item p x s)

  admit_kept : (n e : ℕ) (f : Facts) (o : Option Context) (is : List Waiting) (s : Said) → settled p (admit_at n e f o is s) ≡ rest_item p (Row n e f) (rest_items p is (rest_owner p o s))
  admit_kept n e f None [] s = refl
  admit_kept n e f None (i ∷ is) s = rest_more (i ∷ is) (Row n e f) s
  admit_kept n e f (Some d) is s = rest_more is (Row n e f) (rest_owner p (Some d) s)

  mark_kept : (e : ℕ) (w : ℤ) (more : ℕ) (o : Option Context) (is : List Waiting) (s : Said) → settled p (mark_at e w more o is s) ≡ key_fires p w more (rest_items p is (rest_owner p o s))
  mark_kept e w more None [] s = if_kept (is_due w s.state.times) _ _ _ (λ h. refl) (λ h. sym (not_due_mark w more s h))
  mark_kept e w more None (i ∷ is) s = rest_more (i ∷ is) (Mark e w more) s
  mark_kept e w more (Some d) is s = rest_more is (Mark e w more) (rest_owner p (Some d) s)

  fire_due_kept : (n e : ℕ) (w : ℤ) (more : ℕ) (is : List Waiting) (times : List ℤ) (part : Part) → part.said.state.times ≡ times
      → settled p part ≡ rest_items p is (fire_first p w (key_fires p w more) times part.said)
      → settled p (fire_due n e w more is times part) ≡ rest_items p is (fire_first p w (key_fires p w more) times part.said)
  fire_due_kept n e w more is [] part f h = h
  fire_due_kept n e w more is (t ∷ ts) part f h = if_kept (int_le t w) _ _ _
      (λ x. ap (rest_items p is) (sym (cond-true (int_le t w) _ part.said x)))
      (λ x. h)

  fire_kept : (n : ℕ) (o : Option Context) (is : List Waiting) (s : Said)
      → settled p (fire_front n o is (record { owner = o; waiting = is; said = s })) ≡ rest_items p is (rest_owner p o s)
  fire_kept n None [] s = refl
  fire_kept n None (Row i e f ∷ is) s = refl
  fire_kept n None (Mark e w zero ∷ is) s = refl
  fire_kept n None (Mark e w (suc more) ∷ is) s = fire_due_kept n e w more is s.state.times (record { owner = None; waiting = Mark e w (suc more) ∷ is; said = s }) refl refl
  fire_kept n (Some c) is s = refl

  start_kept : (c : Context) (st : Stage) (part : Part) → settled p part ≡ rest_items p part.waiting (rest_stage p c.job st part.said)
      → settled p (start_stage p c st part) ≡ rest_items p part.waiting (rest_stage p c.job st part.said)
  start_kept c Unbegun part h = called_back_kept c (left_by (begins p c.job) unanswered [] 0) part.waiting (timed (begins p c.job) part.said) ∙ ap (rest_items p part.waiting) (H.begin_law c.job part.said)
  start_kept c (Begun r) part h = h

  pub serve_kept : (c : Context) (r : Running) (slot : ℕ) (o : Option Request) (part : Part) → request_at r.control slot ≡ o → r.answers slot ≡ None → Good r
      → settled p part ≡ rest_items p part.waiting (rest_running c.job r part.said)
      → settled p (serve_request c r slot o part) ≡ rest_items p part.waiting (rest_running c.job r part.said)
  serve_kept c r slot None part e f g h = h
  serve_kept c r slot (Some q) part e f g h = ap (rest_items p part.waiting) (H.serve_law c.job r slot q part.said g e f)

  pub deliver_kept : (c : Context) (r : Running) (slot : ℕ) (o : Option Answer) (part : Part) → r.answers slot ≡ o → Good r
      → settled p part ≡ rest_items p part.waiting (rest_running c.job r part.said)
      → settled p (give_answer c r slot o part) ≡ rest_items p part.waiting (rest_running c.job r part.said)
  deliver_kept c r slot None part e g h = h
  deliver_kept c r slot (Some a) part e g h =
      called_back_kept c (left_by (gives c.job r slot a) (upd r.answers slot None) r.lines r.served) part.waiting (timed (gives c.job r slot a) part.said)
      ∙ ap (rest_items p part.waiting) (H.give_law c.job r slot a part.said g e)

  pub admitted : (n e : ℕ) (f : Facts) (part : Part) → settled p (admit n e f part) ≡ rest_item p (Row n e f) (settled p part)
  admitted n e f part = admit_kept n e f part.owner part.waiting part.said

  pub marked : (e : ℕ) (w : ℤ) (more : ℕ) (part : Part) → settled p (mark e w more part) ≡ key_fires p w more (settled p part)
  marked e w more part = mark_kept e w more part.owner part.waiting part.said

  pub fired : (n : ℕ) (part : Part) → settled p (fire n part) ≡ settled p part
  fired n part = fire_kept n part.owner part.waiting part.said

  started_owner : (o : Option Context) (part : Part) → part.owner ≡ o → settled p (start_owner p o part) ≡ settled p part
  started_owner None part e = refl
  started_owner (Some c) part e =
      let here : settled p part ≡ rest_items p part.waiting (rest_stage p c.job c.stage part.said) = ap (λ (x : Option Context). rest_items p part.waiting (rest_owner p x part.said)) e in
      start_kept c c.stage part here ∙ sym here

  pub started : (part : Part) → settled p (start p part) ≡ settled p part
  started part = started_owner part.owner part refl
