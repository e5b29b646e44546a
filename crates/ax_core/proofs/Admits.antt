-- A row that comes: what stands for the keys, and what of the flow changes.
use Rattle.std.proofs.Common.{◌≡◌, ℕ, ℤ, List, [], ◌∷◌, ◌++◌, true, false, Option, Some, None, IsSomeAnd, refl, sym, ap, ◌∙◌, subst}
use Rattle.std.specs.Str.{bytes_eq}
use Rattle.ax_text.specs.Exprs.{Facts}
use Rattle.ax_text.specs.declared.vocabulary.Handler.TheVariants as handler
use Rattle.ax_lang.specs.declared.program.Program.{Program}
use Rattle.ax_future.specs.declared.machine.Machine.{Machine as CodeMachine}
use Rattle.ax_future.specs.Talks.{facts_in}
use Rattle.ax_machine.specs.Entries.{Key}
use Rattle.ax_machine.proofs.FiringLemmas.{key_is, same_key}
use Rattle.ax_context.specs.declared.id.Id.{Id}
use Rattle.ax_context.specs.declared.contexts.Context.{Context as Held}
use Rattle.ax_context.specs.Slots.{Slots, at, OthersStay}
use Rattle.ax_account.specs.declared.part.Waiting.{Waiting as Item}
use Rattle.ax_account.specs.declared.part.Waiting.TheVariants as item
use Rattle.ax_account.specs.Parts.{Part}
use Rattle.ax_account.specs.Accounts.{Accounts, part_of, Changes, occupied}
use Rattle.ax_mailbox.specs.declared.mail.Mail.{Mail}
use Rattle.ax_execution.specs.Contexts.{Unbegun, Context, row_context, Waiting, Row, Mark, is_idle_with}
use Rattle.ax_execution.specs.KeyControls.{KeyControl}
use Rattle.ax_execution.specs.ControlTurns.{is_idle_on, admit_at_on, admit_on}
use Rattle.ax_execution.specs.MachineControls.{control_at}
use Rattle.ax_execution.proofs.Upto.{by_cases}
use Rattle.ax_execution.proofs.SingleKeys.{own_control, other_control}
use Rattle.ax_core.specs.declared.record.Record.{Record}
use Rattle.ax_core.specs.Contexts.{wrapped, answer_in, StageStands, ContextStands}
use Rattle.ax_core.specs.Keys.{OwnerStands, ItemsStand, PartStands}
use Rattle.ax_core.proofs.Frames.{KeyIn, Keeps, part_stays, others_keep}

-- what is held of a new context of a row
pub made_stands : (p : Program) (ns : List Mail) (key : Key) (id : Id) (o : Option (Held Record)) (r : Record) (epoch n e : ℕ) (f : Facts)
    → IsSomeAnd o (λ c. c ≡ record { payload = r; epoch = epoch; number = c.number; count = 1 }) → IsSomeAnd o (λ c. n ≡ c.number)
    → epoch ≡ wrapped e → r.facts.key ≡ key → r.handler ≡ handler.Row → facts_in r.facts ≡ f → r.machine ≡ None → ContextStands p ns key id o (row_context n e f)
made_stands p ns key id None r epoch n e f made num there named is_row facts unbegun = absurd made
made_stands p ns key id (Some h) r epoch n e f made num there named is_row facts unbegun = record {
  number = sym num;
  epoch = ap (λ (c : Held Record). c.epoch) made ∙ there;
  count = ap (λ (c : Held Record). c.count) made;
  job = record {
    key = ap (λ (c : Held Record). c.payload.facts.key) made ∙ named;
    handler = ap (λ (c : Held Record). c.payload.handler) made ∙ is_row;
    facts = ap (λ (c : Held Record). facts_in c.payload.facts) made ∙ facts;
  };
  stage = begins h.payload.machine (ap (λ (c : Held Record). c.payload.machine) made ∙ unbegun);
}
  where
    begins : (o : Option CodeMachine) → o ≡ None → StageStands p ns id o Unbegun
    begins None x = tt
    begins (Some m) x = absurd (cc x)

module _ (p : Program) (ms ns : List Mail) (s t : Slots Record) (id : Id)
    (free : at s id ≡ None) (others : OthersStay s t id) (same : (i : Id) (slot : ℕ) → answer_in ns i slot ≡ answer_in ms i slot) where
  keeps : (key : Key) (i : Id) → KeyIn key (at s i) → Keeps ms ns s t i
  keeps key = others_keep ms ns s t id key (λ h. subst (λ (o : Option (Held Record)). KeyIn key o) free h) others (λ i d slot. same i slot)

  items_more : (key : Key) (n e : ℕ) (f : Facts) (is : List Item) (ws : List Waiting) → ContextStands p ns key id (at t id) (row_context n e f)
      → ItemsStand p ns t key is ws → ItemsStand p ns t key (is ++ item.Row id ∷ []) (ws ++ Row n e f ∷ [])
  items_more key n e f [] [] c h = (c, tt)
  items_more key n e f [] (w ∷ ws) c h = absurd h
  items_more key n e f (i ∷ is) [] c h = absurd h
  items_more key n e f (i ∷ is) (w ∷ ws) c h = (h.0, items_more key n e f is ws c h.1)

  own : (key : Key) (n e : ℕ) (f : Facts) (a : Part) (times : List ℤ) (q : KeyControl) → ContextStands p ns key id (at t id) (row_context n e f)
      → PartStands p ns t key a times q → PartStands p ns t key (occupied id a) times (admit_on n e f q)
  own key n e f a times q c h = of a.owner a.waiting q.owner q.waiting h.owner h.items
    where
      of : (o : Option Id) (is : List Item) (d : Option Context) (ws : List Waiting) → OwnerStands p ns t key o d → ItemsStand p ns t key is ws
          → PartStands p ns t key (occupied id (record { owner = o; waiting = is })) times (admit_at_on n e f d ws q.times)
      of None [] None [] x y = record { owner = c; items = tt; times = h.times }
      of None (i ∷ is) None (w ∷ ws) x y = record { owner = tt; items = items_more key n e f (i ∷ is) (w ∷ ws) c y; times = h.times }
      of None [] None (w ∷ ws) x y = absurd y
      of None (i ∷ is) None [] x y = absurd y
      of (Some j) is (Some b) ws x y = record { owner = x; items = items_more key n e f is ws c y; times = h.times }
      of None is (Some b) ws x y = absurd x
      of (Some j) is None ws x y = absurd x

  -- the key of the row gets it, and each other key stays
  pub keys_admit : (a b : Accounts) (key : Key) (n e : ℕ) (f : Facts) (times : Key → List ℤ) (controls : Key → KeyControl) → Changes a b key (occupied id (part_of a key))
      → ContextStands p ns key id (at t id) (row_context n e f) → ((k : Key) → PartStands p ms s k (part_of a k) (times k) (controls k))
      → (k : Key) → PartStands p ns t k (part_of b k) (times k) (control_at controls key (admit_on n e f (controls key)) k)
  keys_admit a b key n e f times controls changes c h k = by_cases (bytes_eq key k)
      (λ x. let same_one : key ≡ k = key_is key k x in
      subst (λ (j : Key). PartStands p ns t j (part_of b j) (times j) (control_at controls key (admit_on n e f (controls key)) j)) same_one
      (subst (λ (q : KeyControl). PartStands p ns t key (part_of b key) (times key) q) (sym (own_control controls key (admit_on n e f (controls key))))
      (subst (λ (q : Part). PartStands p ns t key q (times key) (admit_on n e f (controls key))) (sym changes.own)
      (own key n e f (part_of a key) (times key) (controls key) c (part_stays p ms ns s t key (keeps key) (part_of a key) (times key) (controls key) (h key))))))
      (λ x. subst (λ (q : KeyControl). PartStands p ns t k (part_of b k) (times k) q) (sym (other_control controls key (admit_on n e f (controls key)) k x))
      (subst (λ (q : Part). PartStands p ns t k q (times k) (controls k)) (sym (changes.others k (λ e. differs (sym (ap (bytes_eq key) e ∙ same_key key) ∙ x))))
      (part_stays p ms ns s t k (keeps k) (part_of a k) (times k) (controls k) (h k))))
    where
      differs : true ≡ false → ⊥
      differs e = cc e

-- a key that is idle behind the row was idle before
pub idle_admits : (n e : ℕ) (f : Facts) (q : KeyControl) → is_idle_on (admit_on n e f q) ≡ true → is_idle_on q ≡ true
idle_admits n e f q h = of q.owner q.waiting h
  where
    of : (o : Option Context) (ws : List Waiting) → is_idle_on (admit_at_on n e f o ws q.times) ≡ true → is_idle_with o ws ≡ true
    of None [] x = absurd (cc x)
    of None (Row i d g ∷ ws) x = x
    of None (Mark d w more ∷ ws) x = refl
    of (Some c) ws x = absurd (cc x)
