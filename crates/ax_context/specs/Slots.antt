-- What contracts see of counted contexts.
use Rattle.std.specs.Prelude.{◌≡◌, ◌≢◌, ◌+◌, ◌%◌, ◌^◌, ◌<◌, ◌≤◌, ℕ, List, Option, Some, None, is_some, IsSome, IsSomeAnd, slice_index_or, slice_set, refl}
use Rattle.std.specs.List.{count_by}
use Rattle.std.specs.Coded.{Coded, code_by, coded×, coded_ℕ, coded_list, coded_option}
use Rattle.ax_context.specs.declared.id.Id.{Id}
use Rattle.ax_context.specs.declared.contexts.Context.{Context}
use Rattle.ax_context.specs.Ids.{slot_of}

-- the context of each slot from 0 on, how many contexts there may be, and the number from which the
-- number of the next context is looked for
pub record Slots (T : Type 0) : Type 0 where
  pub slots : List (Option (Context T))
  pub limit : ℕ
  pub next : ℕ

abbrev pub context_code : {T : Type 0} → Coded T → Coded (Context T)
context_code {T} code =
    code_by
    (T × (ℕ × (ℕ × ℕ)))
    (coded× code (coded× coded_ℕ (coded× coded_ℕ coded_ℕ)))
    (λ c. (c.payload, (c.epoch, (c.number, c.count))))
    (λ p. record { payload = p.0; epoch = p.1.0; number = p.1.1.0; count = p.1.1.1 })
    (λ _. refl)

abbrev pub slots_code : {T : Type 0} → Coded T → Coded (Slots T)
slots_code {T} code =
    code_by
    (List (Option (Context T)) × (ℕ × ℕ))
    (coded× (coded_list (coded_option (context_code code))) (coded× coded_ℕ coded_ℕ))
    (λ s. (s.slots, (s.limit, s.next)))
    (λ p. record { slots = p.0; limit = p.1.0; next = p.1.1 })
    (λ _. refl)

-- the number that is so many behind another; behind 2 ^ 64 - 1 comes 0
abbrev pub ahead : ℕ → ℕ → ℕ
ahead number steps = (number + steps) % 2 ^ 64

module _ {T : Type 0} where
  -- the context that an id names, where it is live
  abbrev pub at : Slots T → Id → Option (Context T)
  at s id = slice_index_or s.slots (slot_of id) None

  abbrev pub IsLive : Slots T → Id → Type 0
  IsLive s id = IsSome (at s id)

  -- the id is live, and its context is so
  abbrev pub Has : Slots T → Id → (Context T → Type 0) → Type 0
  Has s id P = IsSomeAnd (at s id) P

  abbrev pub live_count : Slots T → ℕ
  live_count s = count_by is_some s.slots

  -- each id but this one names what it named
  abbrev pub OthersStay : Slots T → Slots T → Id → Type 0
  OthersStay old new id = (other : Id) → other ≢ id → at new other ≡ at old other

  -- a live context has the number
  abbrev pub IsTaken : Slots T → ℕ → Type 0
  IsTaken s number = (id : Id) × Has s id (λ c. c.number ≡ number)

  -- the first number, from the next one on, that no live context has
  pub record IsFirstFree (s : Slots T) (number : ℕ) : Type 0 where
    pub free : IsTaken s number → ⊥
    pub steps : ℕ
    pub there : number ≡ ahead s.next steps
    pub before : (k : ℕ) → k < steps → IsTaken s (ahead s.next k)

  -- a live context has 1 to 17 references
  abbrev pub AreCounted : Slots T → Type 0
  AreCounted s = (id : Id) (c : Context T) → at s id ≡ Some c → (1 ≤ c.count) × (c.count ≤ 17)

  -- no two live contexts have the same number
  abbrev pub NumbersDiffer : Slots T → Type 0
  NumbersDiffer s =
      (one two : Id) (c d : Context T) → at s one ≡ Some c → at s two ≡ Some d → c.number ≡ d.number → one ≡ two

  -- another payload in a slot that has a context
  abbrev pub paid : T → Option (Context T) → Option (Context T)
  paid payload None = None
  paid payload (Some c) = Some (record c { payload = payload })

  abbrev pub with_payload : Slots T → Id → T → Slots T
  with_payload s id payload = record s { slots = slice_set s.slots (slot_of id) (paid payload (at s id)) }

  -- the context of the id has this payload now, and all else is as before
  pub record IsPaid (old new : Slots T) (id : Id) (payload : T) : Type 0 where
    pub paid : Has old id (λ c. at new id ≡ Some (record c { payload = payload }))
    pub others : OthersStay old new id
    pub len : live_count new ≡ live_count old
    pub limit : new.limit ≡ old.limit
    pub next : new.next ≡ old.next
