-- A shard's content, request by request.
use Rattle.std.proofs.Common.{◌≡◌, ◌+◌, ◌<◌, ◌≤◌, ℕ, Bool, true, false, cond, List, [], ◌∷◌, ◌++◌, length, take, get_or, Option, Some, None, Result, Ok, Err, OnOk, OnErr, refl, sym, ap, ap₂, ◌∙◌, subst}
use Rattle.std.proofs.lemmas.List.{take_more, take_all}
use Rattle.std.proofs.Math.Path.{fun_ext}
use Rattle.std.specs.Cmp.Lexicographic.{texts_ties}
use Rattle.std.specs.Map.{lookup}
use Rattle.std.specs.BTreeMap.{is_at}
use Rattle.std.specs.Str.{bytes_eq}
use Rattle.std.specs.Result.{IsErr}
use Rattle.ax_base.specs.declared.outside.NoMemory.{NoMemory}
use Rattle.ax_keys.specs.Keys.{key_cmp}
use Rattle.ax_text.specs.declared.vocabulary.Kind.{Kind}
use Rattle.ax_text.specs.Cells.{Cell, cells_after}
use Rattle.ax_text.specs.Programs.{untouched}
use Rattle.ax_text.specs.Suits.{fits_in}
use Rattle.ax_state.specs.KeyCells.{shown_cells, cell_kinds}
use Rattle.ax_buffer.specs.declared.items.Item.{Item}
use Rattle.ax_buffer.specs.declared.items.Reply.{Reply}
use Rattle.ax_machine.specs.Entries.{Key}
use Rattle.ax_machine.proofs.FiringLemmas.{key_is}
use Rattle.ax_task.specs.Serving.{Content, reply_to, content_with, replies_to, content_after, IsPartServed, IsServed, Serves, AllFit, cells_or, content_in, FitsIfHeld, HoldsKinds}

abbrev pub Entries : Type 0
Entries = List (Key × List Cell)

-- what is held of a key
abbrev pub held_at : Entries → Key → Option (List Cell)
held_at entries q = lookup (is_at (key_cmp q)) entries

-- ---- what is held of one key changes

-- what is held of a key is now this, and of other keys what was
abbrev pub Holds : Entries → Entries → Key → List Cell → Type 0
Holds m n k cells = (q : Key) → held_at n q ≡ cond (is_at (key_cmp k) q) (Some cells) (held_at m q)

module _ (kinds : List Kind) (m n : Entries) (k : Key) (cells : List Cell) (h : Holds m n k cells) where
  held_by : (q : Key) (b : Bool) → bytes_eq k q ≡ b → held_at n q ≡ cond b (Some cells) (held_at m q)
  held_by q b e = h q ∙ ap (λ (c : Bool). cond c (Some cells) (held_at m q)) (sym (texts_ties k q) ∙ e)

  pub kinds_kept : cell_kinds cells ≡ kinds → HoldsKinds kinds m → HoldsKinds kinds n
  kinds_kept f a q = go (bytes_eq k q) refl where
    go : (b : Bool) → bytes_eq k q ≡ b → FitsIfHeld kinds (held_at n q)
    go true e = subst (FitsIfHeld kinds) (sym (held_by q true e)) f
    go false e = subst (FitsIfHeld kinds) (sym (held_by q false e)) (a q)

  -- a request was applied to the states of its key
  pub applied : (i : Item) → k ≡ i.key → shown_cells cells ≡ cells_after i.request (content_in kinds m i.key) → content_in kinds n ≡ content_with i (content_in kinds m)
  applied i same e = fun_ext (λ q. by q (bytes_eq i.key q) refl) where
    by : (q : Key) (b : Bool) → bytes_eq i.key q ≡ b → content_in kinds n q ≡ cond b (cells_after i.request (content_in kinds m i.key)) (content_in kinds m q)
    by q true f = ap (cells_or kinds) (held_by q true (ap (λ x. bytes_eq x q) same ∙ f)) ∙ e
    by q false f = ap (cells_or kinds) (held_by q false (ap (λ x. bytes_eq x q) same ∙ f))

  -- a request was applied to the untouched states of its key, of which nothing was held
  pub applied_first : (i : Item) (fresh : List Cell) → k ≡ i.key → held_at m i.key ≡ None → ((s : ℕ) → shown_cells fresh s ≡ untouched kinds s)
      → ((s : ℕ) → shown_cells cells s ≡ cells_after i.request (shown_cells fresh) s) → content_in kinds n ≡ content_with i (content_in kinds m)
  applied_first i fresh same absent new after = applied i same (fun_ext after ∙ ap (cells_after i.request) (fun_ext new ∙ sym (ap (cells_or kinds) absent)))

  -- the states of the key are what they were
  pub unchanged : held_at m k ≡ Some cells → content_in kinds n ≡ content_in kinds m
  unchanged some = fun_ext (λ q. by q (bytes_eq k q) refl) where
    by : (q : Key) (b : Bool) → bytes_eq k q ≡ b → content_in kinds n q ≡ content_in kinds m q
    by q true f = ap (cells_or kinds) (held_by q true f ∙ sym some) ∙ ap (content_in kinds m) (key_is k q f)
    by q false f = ap (cells_or kinds) (held_by q false f)

-- what follows from an answer of either kind
pub either_way : {T E P Q R : Type 0} (r : Result T E) → OnOk r P → OnErr r Q → (P → R) → (Q → R) → R
either_way (Ok x) p q f g = f p
either_way (Err e) p q f g = g q

-- what holds, holds at an error
pub at_err : {T E P : Type 0} (r : Result T E) → P → OnErr r P
at_err (Ok x) p = tt
at_err (Err e) p = p

-- ---- a batch, request by request

replies_more : (is : List Item) (i : Item) (c : Content) → replies_to (is ++ i ∷ []) c ≡ replies_to is c ++ reply_to i (content_after is c) ∷ []
replies_more [] i c = refl
replies_more (j ∷ is) i c = ap (λ rs. reply_to j c ∷ rs) (replies_more is i (content_with j c))

content_more : (is : List Item) (i : Item) (c : Content) → content_after (is ++ i ∷ []) c ≡ content_with i (content_after is c)
content_more [] i c = refl
content_more (j ∷ is) i c = content_more is i (content_with j c)

-- so many requests of a batch are served
pub record IsSoFar (is : List Item) (old new : Content) (count : ℕ) (rs : List Reply) : Type 0 where
  pub replies : rs ≡ replies_to (take count is) old
  pub content : new ≡ content_after (take count is) old

pub none_yet : (is : List Item) (old : Content) (rs : List Reply) → rs ≡ [] → IsSoFar is old old 0 rs
none_yet is old rs e = record { replies = e; content = refl }

module _ (is : List Item) (old now : Content) (count : ℕ) (rs : List Reply) (so_far : IsSoFar is old now count rs) where
  pub one_more : (new : Content) (i : Item) (r : Reply) (rs' : List Reply) → count < length is → i ≡ get_or is count i → r ≡ reply_to i now → new ≡ content_with i now → rs' ≡ rs ++ r ∷ []
      → IsSoFar is old new (count + 1) rs'
  one_more new i r rs' there at reply content more =
      let step : take (count + 1) is ≡ take count is ++ i ∷ [] = take_more is count i there ∙ ap (λ (x : Item). take count is ++ x ∷ []) (sym at) in
      record {
        replies = more ∙ ap₂ (λ (x : List Reply) (y : Reply). x ++ y ∷ []) so_far.replies (reply ∙ ap (reply_to i) so_far.content)
            ∙ sym (replies_more (take count is) i old) ∙ ap (λ (x : List Item). replies_to x old) (sym step);
        content = content ∙ ap (content_with i) so_far.content ∙ sym (content_more (take count is) i old) ∙ ap (λ (x : List Item). content_after x old) (sym step);
      }

  -- memory was short for the reply
  pub part_more : (new : Content) (i : Item) → count < length is → i ≡ get_or is count i → new ≡ content_with i now → IsPartServed is old new
  part_more new i there at content =
      let more : IsSoFar is old new (count + 1) (rs ++ reply_to i now ∷ []) = one_more new i (reply_to i now) (rs ++ reply_to i now ∷ []) there at refl content refl in
      record { count = count + 1; content = more.content }

  pub part_served : (new : Content) → new ≡ now → IsPartServed is old new
  part_served new e = record { count = count; content = e ∙ so_far.content }

  pub all_served : length is ≤ count → IsServed is old now rs
  all_served h = record {
    replies = so_far.replies ∙ ap (λ (x : List Item). replies_to x old) (take_all count is h);
    content = so_far.content ∙ ap (λ (x : List Item). content_after x old) (take_all count is h);
  }

-- where there are no replies, a part was served
pub at_fault : (is : List Item) (old new : Content) (r : Result (List Reply) NoMemory) → IsErr r → IsPartServed is old new → Serves is old r new
at_fault is old new (Ok rs) e part = cc
at_fault is old new (Err f) e part = ∣ part ∣₁

pub item_fits : (kinds : List Kind) (batch is : List Item) (count : ℕ) (i : Item) → AllFit kinds batch → is ≡ batch → count < length is → i ≡ get_or is count i → fits_in kinds i.request ≡ true
item_fits kinds batch is count i fit e there at =
    let all : AllFit kinds is = subst (AllFit kinds) (sym e) fit in
    ap (λ (x : Item). fits_in kinds x.request) at ∙ all count i there
