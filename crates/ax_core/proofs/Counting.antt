-- How often a request stands in queues, among what is out, and among mails.
use Rattle.std.proofs.Common.{◌≡◌, ◌⊎◌, ℕ, zero, suc, ◌+◌, ◌<◌, List, [], ◌∷◌, ◌++◌, length, get_or, set, take, drop, inl, inr, refl, ap, subst, Contains, length-append, arith}
use Rattle.std.proofs.lemmas.List.{take-append-drop}
use Rattle.ax_buffer.specs.declared.items.Item.{Item}
use Rattle.ax_buffer.specs.declared.items.Reply.{Reply}
use Rattle.ax_buffer.specs.Buffer.{total}
use Rattle.ax_buffer.proofs.ListLemmas.{total-set}
use Rattle.ax_context.specs.declared.id.Id.{Id}
use Rattle.ax_mailbox.specs.declared.mail.Mail.{Mail}
use Rattle.ax_core.specs.declared.record.Name.{Name}
use Rattle.ax_core.specs.Flow.{one_if, names_request, queued_as, named_as, answered_as, started_as}
use Rattle.ax_core.specs.Batches.{mails_in}
use Rattle.ax_core.specs.Events.{names_in, names_of}

-- a list is longer than a number, or there is nothing at it
pub inside_or : {X : Type 0} (s : ℕ) (xs : List (List X)) → (s < length xs) ⊎ (get_or xs s [] ≡ [])
inside_or s [] = inr refl
inside_or zero (x ∷ xs) = inl (omega arith)
inside_or (suc s) (x ∷ xs) = elim (inside_or s xs) [ inl h ↦ inl (omega arith) | inr e ↦ inr e ]

pub queued_append : (id : Id) (slot : ℕ) (xs ys : List Item) → queued_as id slot (xs ++ ys) ≡ queued_as id slot xs + queued_as id slot ys
queued_append id slot [] ys = omega arith
queued_append id slot (x ∷ xs) ys = omega (arith, queued_append id slot xs ys)

pub named_append : (id : Id) (slot : ℕ) (xs ys : List Name) → named_as id slot (xs ++ ys) ≡ named_as id slot xs + named_as id slot ys
named_append id slot [] ys = omega arith
named_append id slot (x ∷ xs) ys = omega (arith, named_append id slot xs ys)

pub answered_append : (id : Id) (slot : ℕ) (xs ys : List Mail) → answered_as id slot (xs ++ ys) ≡ answered_as id slot xs + answered_as id slot ys
answered_append id slot [] ys = omega arith
answered_append id slot (x ∷ xs) ys = omega (arith, answered_append id slot xs ys)

pub started_append : (id : Id) (xs ys : List Mail) → started_as id (xs ++ ys) ≡ started_as id xs + started_as id ys
started_append id [] ys = omega arith
started_append id (x ∷ xs) ys = omega (arith, started_append id xs ys)

-- what a batch is called is named as often as it was queued
pub named_names : (id : Id) (slot : ℕ) (is : List Item) → named_as id slot (names_in is) ≡ queued_as id slot is
named_names id slot [] = refl
named_names id slot (i ∷ is) = ap (λ n. one_if (names_request id slot i.id i.slot) + n) (named_names id slot is)

-- the first of a queue leave it
pub queues_taken : (id : Id) (slot : ℕ) (queues : List (List Item)) (s max : ℕ) → s < length queues
    → total (queued_as id slot) (set queues s (drop max (get_or queues s []))) + queued_as id slot (take max (get_or queues s [])) ≡ total (queued_as id slot) queues
queues_taken id slot queues s max there =
    let q : List Item = get_or queues s [] in
    let one : total (queued_as id slot) (set queues s (drop max q)) + queued_as id slot q ≡ total (queued_as id slot) queues + queued_as id slot (drop max q) = total-set (queued_as id slot) queues s (drop max q) [] there in
    let two : queued_as id slot (take max q ++ drop max q) ≡ queued_as id slot (take max q) + queued_as id slot (drop max q) = queued_append id slot (take max q) (drop max q) in
    let three : queued_as id slot (take max q ++ drop max q) ≡ queued_as id slot q = ap (queued_as id slot) (take-append-drop max q) in
    omega arith

-- names go last among what is out
pub outs_named : (id : Id) (slot : ℕ) (outs : List (List Name)) (s : ℕ) (ns : List Name) → s < length outs
    → total (named_as id slot) (set outs s (get_or outs s [] ++ ns)) ≡ total (named_as id slot) outs + named_as id slot ns
outs_named id slot outs s ns there =
    let one : total (named_as id slot) (set outs s (get_or outs s [] ++ ns)) + named_as id slot (get_or outs s []) ≡ total (named_as id slot) outs + named_as id slot (get_or outs s [] ++ ns) = total-set (named_as id slot) outs s (get_or outs s [] ++ ns) [] there in
    let two : named_as id slot (get_or outs s [] ++ ns) ≡ named_as id slot (get_or outs s []) + named_as id slot ns = named_append id slot (get_or outs s []) ns in
    omega arith

-- and so many more are out
pub outs_longer : {X : Type 0} (outs : List (List X)) (s : ℕ) (ns : List X) → s < length outs → total length (set outs s (get_or outs s [] ++ ns)) ≡ total length outs + length ns
outs_longer outs s ns there =
    let one : total length (set outs s (get_or outs s [] ++ ns)) + length (get_or outs s []) ≡ total length outs + length (get_or outs s [] ++ ns) = total-set length outs s (get_or outs s [] ++ ns) [] there in
    omega (arith, length-append (get_or outs s []) ns)

-- what holds of the name of each item holds of each name
names_at : (P : Name → Type 0) (n : Name) (is : List Item) → ((i : Item) → Contains is i → P (record { id = i.id; slot = i.slot })) → (k : ℕ) → k < length (names_in is) → get_or (names_in is) k n ≡ n → P n
names_at P n [] h k lt e = absurd (omega arith)
names_at P n (i ∷ is) h zero lt e = subst P e (h i (0, omega arith, refl))
names_at P n (i ∷ is) h (suc k) lt e = names_at P n is (λ j c. h j (suc c.0, omega (arith, c.1), c.2)) k (omega arith) e

pub of_names : (P : Name → Type 0) (is : List Item) → ((i : Item) → Contains is i → P (record { id = i.id; slot = i.slot })) → (n : Name) → Contains (names_in is) n → P n
of_names P is h n c = names_at P n is h c.0 c.1 c.2

pub length_names : (is : List Item) → length (names_in is) ≡ length is
length_names [] = refl
length_names (i ∷ is) = omega (arith, length_names is)

-- what replies name is named as often as their mails answer it
pub answered_mails : (id : Id) (slot : ℕ) (rs : List Reply) → answered_as id slot (mails_in rs) ≡ named_as id slot (names_of rs)
answered_mails id slot [] = refl
answered_mails id slot (r ∷ rs) = ap (λ n. one_if (names_request id slot r.id r.slot) + n) (answered_mails id slot rs)

pub started_mails : (id : Id) (rs : List Reply) → started_as id (mails_in rs) ≡ 0
started_mails id [] = refl
started_mails id (r ∷ rs) = omega (arith, started_mails id rs)

pub length_mails : (rs : List Reply) → length (mails_in rs) ≡ length rs
length_mails [] = refl
length_mails (r ∷ rs) = omega (arith, length_mails rs)

pub length_replies : (rs : List Reply) → length (names_of rs) ≡ length rs
length_replies [] = refl
length_replies (r ∷ rs) = omega (arith, length_replies rs)
