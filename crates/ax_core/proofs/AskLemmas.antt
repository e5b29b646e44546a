-- The requests of a callback, one after the other.
use Rattle.std.proofs.Common.{◌≡◌, ◌↔◌, ℕ, ◌+◌, ◌≤◌, ◌<◌, Bool, false, IsTrue, List, [], ◌∷◌, ◌++◌, length, get_or, set, Option, Some, None, IsSomeAnd, refl, sym, ap, ◌∙◌, subst, arith, append_assoc, length-append, suc}
use Rattle.std.proofs.lemmas.List.{append-nil, set-set, set-get_or, length-set, get_or-set_same}
use Rattle.ax_buffer.specs.declared.items.Item.{Item}
use Rattle.ax_buffer.specs.Buffer.{Buffer, queue_of, total}
use Rattle.ax_context.specs.declared.id.Id.{Id}
use Rattle.ax_context.specs.declared.contexts.Context.{Context}
use Rattle.ax_context.specs.Slots.{Slots, at, Has}
use Rattle.ax_core.specs.declared.record.Record.{Record}
use Rattle.ax_core.specs.Callbacks.{IsHeld, IsQueued}

-- a reference more, and then so many
held_then : (o o' o'' : Option (Context Record)) (n : ℕ) → IsSomeAnd o (λ c. o' ≡ Some (record c { count = c.count + 1 })) → IsSomeAnd o' (λ c. o'' ≡ Some (record c { count = c.count + n }))
    → IsSomeAnd o (λ c. o'' ≡ Some (record c { count = c.count + suc n }))
held_then None o' o'' n h g = absurd h
held_then (Some c) o' o'' n h g =
    let e : c.count + 1 + n ≡ c.count + suc n = omega arith in
    subst (λ (o : Option (Context Record)). IsSomeAnd o (λ c. o'' ≡ Some (record c { count = c.count + n }))) h g
    ∙ ap (λ (k : ℕ). Some (record c { count = k })) e

pub held_next : (a b d : Slots Record) (id : Id) (n : ℕ) → IsHeld a b id 1 → IsHeld b d id n → IsHeld a d id (suc n)
held_next a b d id n h g = record {
  counted = held_then (at a id) (at b id) (at d id) n h.counted g.counted;
  others = λ other differ. g.others other differ ∙ h.others other differ;
  len = g.len ∙ h.len;
  limit = g.limit ∙ h.limit;
  next = g.next ∙ h.next;
}

live : (o : Option (Context Record)) (P : Context Record → Type 0) → IsSomeAnd o P → IsSomeAnd o (λ c. o ≡ Some (record c { count = c.count + 0 }))
live None P h = absurd h
live (Some c) P h =
    let e : c.count ≡ c.count + 0 = omega arith in
    ap (λ (k : ℕ). Some (record c { count = k })) e

pub held_none : (a : Slots Record) (id : Id) (P : Context Record → Type 0) → Has a id P → IsHeld a a id 0
held_none a id P h = record { counted = live (at a id) P h; others = λ other differ. refl; len = refl; limit = refl; next = refl }

-- room for so many more, behind one
few_then : (o o' : Option (Context Record)) (n : ℕ) → IsSomeAnd o (λ c. c.count + suc n ≤ 17) → IsSomeAnd o (λ c. o' ≡ Some (record c { count = c.count + 1 })) → IsSomeAnd o' (λ c. c.count + n ≤ 17)
few_then None o' n f h = absurd h
few_then (Some c) o' n f h = subst (λ (o : Option (Context Record)). IsSomeAnd o (λ c. c.count + n ≤ 17)) (sym h) (omega (arith, f))

pub few_behind : (a b : Slots Record) (id : Id) (n : ℕ) → Has a id (λ c. c.count + suc n ≤ 17) → IsHeld a b id 1 → Has b id (λ c. c.count + n ≤ 17)
few_behind a b id n f h = few_then (at a id) (at b id) n f h.counted

pub queued_more : (a b d : Buffer) (shard : ℕ) (is js : List Item) → shard < length a.queues → IsQueued a b shard is → IsQueued b d shard js → IsQueued a d shard (is ++ js)
queued_more a b d shard is js there h g =
    let own : queue_of b shard ≡ queue_of a shard ++ is = ap (λ (q : List (List Item)). get_or q shard []) h.queues ∙ get_or-set_same a.queues shard (queue_of a shard ++ is) [] there in
    let longer : length (is ++ js) ≡ length is + length js = length-append is js in
    let sum : total length d.queues ≡ total length b.queues + length js = g.total in
    let first : total length b.queues ≡ total length a.queues + length is = h.total in
    record {
      queues = g.queues
          ∙ ap (λ (x : List Item). set b.queues shard (x ++ js)) own
          ∙ ap (λ (x : List Item). set b.queues shard x) (append_assoc (queue_of a shard) is js)
          ∙ ap (λ (q : List (List Item)). set q shard (queue_of a shard ++ (is ++ js))) h.queues
          ∙ set-set a.queues shard (queue_of a shard ++ is) (queue_of a shard ++ (is ++ js));
      total = omega arith;
      room = g.room ∙ h.room;
    }

pub queued_none : (a : Buffer) (shard : ℕ) → IsQueued a a shard []
queued_none a shard = record {
  queues = sym (ap (set a.queues shard) (append-nil (queue_of a shard)) ∙ set-get_or a.queues shard []);
  total = omega arith;
  room = refl;
}

pub shards_stay : (a b : Buffer) (shard : ℕ) (is : List Item) → IsQueued a b shard is → length b.queues ≡ length a.queues
shards_stay a b shard is h = ap (λ (q : List (List Item)). length q) h.queues ∙ length-set a.queues shard (queue_of a shard ++ is)

pub room_behind : (a b : Buffer) (shard n : ℕ) (x : Item) → total length a.queues + suc n ≤ a.room → IsQueued a b shard (x ∷ []) → total length b.queues + n ≤ b.room
room_behind a b shard n x most h =
    let more : total length b.queues ≡ total length a.queues + 1 = h.total in
    let same : b.room ≡ a.room = h.room in
    omega arith

pub shard_behind : (a b : Buffer) (shard : ℕ) (is : List Item) → shard < length a.queues → IsQueued a b shard is → shard < length b.queues
shard_behind a b shard is there h = subst (λ (n : ℕ). shard < n) (sym (shards_stay a b shard is h)) there

pub none_left : {A : Type 0} (xs : List A) → 0 ≡ length xs → xs ≡ []
none_left [] e = refl
none_left (x ∷ xs) e = absurd (omega arith)

pub some_left : {A : Type 0} (xs : List A) (empty : Bool) → IsTrue empty ↔ (xs ≡ []) → empty ≡ false → 0 < length xs
some_left [] empty h e = absurd (cc (sym (h.1 refl) ∙ e))
some_left (x ∷ xs) empty h e = omega arith
