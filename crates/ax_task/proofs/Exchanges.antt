-- A batch is taken from the controller and sent to a shard, and what the shard answered is delivered.
use Rattle.std.proofs.Common.{◌≡◌, ◌≢◌, ◌<◌, ℕ, zero, suc, List, [], ◌∷◌, ◌++◌, length, get_or, set, Ok, refl, sym, ap, ap₂, ◌∙◌, subst, append-nil, arith}
use Rattle.std.proofs.lemmas.Bool.{cond-true, cond-false}
use Rattle.std.specs.Str.{bytes_eq}
use Rattle.std.specs.List.{Contains, AllByRecursion}
use Rattle.ax_text.specs.Functions.{upd}
use Rattle.ax_text.specs.Cells.{Cells, answer_of, cells_after}
use Rattle.ax_machine.specs.Entries.{Key, Entry}
use Rattle.ax_machine.specs.Events.{Event}
use Rattle.ax_lang.specs.declared.program.Program.{Program}
use Rattle.ax_buffer.specs.declared.items.Item.{Item}
use Rattle.ax_buffer.specs.declared.items.Reply.{Reply}
use Rattle.ax_context.specs.Slots.{at}
use Rattle.ax_execution.specs.MachineControls.{MachineControl, control_of_machine}
use Rattle.ax_execution.proofs.Upto.{by_cases}
use Rattle.ax_core.specs.declared.settings.Settings.{Settings}
use Rattle.ax_core.specs.declared.controller.Controller.{Controller}
use Rattle.ax_core.specs.Flow.{shard_of, out_of}
use Rattle.ax_core.specs.Sound.{StandsFor, IsSound}
use Rattle.ax_core.specs.Events.{SameRules, KeysStay, OfKeys, AsksAll, IsBatchOut, ServesAll, names_in, names_of, key_in}
use Rattle.ax_core.specs.Batches.{OthersOut}
use Rattle.ax_task.specs.Serving.{Content, content_with, replies_to, content_after}
use Rattle.ax_task.specs.Shards.{Came}
use Rattle.ax_task.specs.Refined.{content_over, Refines}
use Rattle.ax_task.specs.Work.{left_to_do}
use Rattle.ax_task.proofs.Batches.{posts_on, back_on, back_falls, names_of_replies, all_of}
use Rattle.ax_task.proofs.Contents.{content_served}
use Rattle.ax_task.proofs.Falling.{posts_fall}

-- facts of each item, by its place

keys_at : (b : Controller) (is : List Item) → OfKeys b is → (k : ℕ) → k < length is → (d : Item) → key_in (at b.contexts (get_or is k d).id) ≡ (get_or is k d).key
keys_at b [] h k l d = absurd (omega arith)
keys_at b (i ∷ is) h zero l d = h.0
keys_at b (i ∷ is) h (suc k) l d = keys_at b is h.1 k (omega arith) d

keys_in : (b : Controller) (is : List Item) → OfKeys b is → (i : Item) → Contains is i → key_in (at b.contexts i.id) ≡ i.key
keys_in b is h i x = subst (λ (j : Item). key_in (at b.contexts j.id) ≡ j.key) x.2 (keys_at b is h x.0 x.1 i)

-- replies look at the keys of the batch alone
replies_same : (is : List Item) (c d : Content) → AllByRecursion (λ (i : Item). c i.key ≡ d i.key) is → replies_to is c ≡ replies_to is d
replies_same [] c d h = refl
replies_same (i ∷ is) c d h =
    ap₂ (λ (r : Reply) (rs : List Reply). r ∷ rs) (ap (λ (x : Cells). record { id = i.id; slot = i.slot; answer = answer_of i.request x }) h.0)
    (replies_same is (content_with i c) (content_with i d) (all_with is h.1))
  where
    all_with : (js : List Item) → AllByRecursion (λ (j : Item). c j.key ≡ d j.key) js → AllByRecursion (λ (j : Item). content_with i c j.key ≡ content_with i d j.key) js
    all_with [] h = tt
    all_with (j ∷ js) x = (
      by_cases (bytes_eq i.key j.key)
          (λ e. cond-true (bytes_eq i.key j.key) (cells_after i.request (c i.key)) (c j.key) e
          ∙ (ap (cells_after i.request) h.0 ∙ sym (cond-true (bytes_eq i.key j.key) (cells_after i.request (d i.key)) (d j.key) e)))
          (λ e. cond-false (bytes_eq i.key j.key) (cells_after i.request (c i.key)) (c j.key) e
          ∙ (x.0 ∙ sym (cond-false (bytes_eq i.key j.key) (cells_after i.request (d i.key)) (d j.key) e))),
      all_with js x.1,
    )

replies_over : (s : Settings) (held : ℕ → Content) (shard : ℕ) (is : List Item) → AllByRecursion (λ (i : Item). shard_of s i.key ≡ shard) is → replies_to is (held shard) ≡ replies_to is (content_over s held)
replies_over s held shard is placed = replies_same is (held shard) (content_over s held) (all is placed)
  where
    all : (is : List Item) → AllByRecursion (λ (i : Item). shard_of s i.key ≡ shard) is → AllByRecursion (λ (i : Item). held shard i.key ≡ content_over s held i.key) is
    all [] h = tt
    all (i ∷ is) h = (ap (λ (t : ℕ). held t i.key) (sym h.0), all is h.1)

some_items : (is : List Item) → is ≢ [] → 0 < length is
some_items [] h = absurd (h refl)
some_items (i ∷ is) h = omega arith

-- there is a place for each shard's names
inside : (s : Settings) (a : Controller) → a.settings ≡ s → IsSound a → (shard : ℕ) → shard < s.shards → shard < length a.outs.items
inside s a e sound shard h = subst (λ (n : ℕ). shard < n) (sym (sound.flow.shards.1 ∙ ap (λ (t : Settings). t.shards) e)) h

module _ (s : Settings) (p : Program) (a b : Controller) (held held' : ℕ → Content) (out out' : ℕ → List Item) (read : List Event) (written : List Entry)
    (x : Refines s p a (content_over s held) out read written) (sound : IsSound a) (same : SameRules a b) (stay : KeysStay a b) (shard : ℕ) (below : shard < s.shards) where
  abbrev c : MachineControl
  c = control_of_machine x.machine

  there : shard < length a.outs.items
  there = inside s a x.settings sound shard below

  module _ (batch : List Item) (home : out shard ≡ []) (now : (t : ℕ) → out' t ≡ upd out shard batch t) (kept : (t : ℕ) → held' t ≡ held t)
      (outs : b.outs.items ≡ set a.outs.items shard (out_of a shard ++ names_in batch)) (asks : (m : MachineControl) → StandsFor a m → AsksAll a shard m batch) (keys : OfKeys b batch)
      (stands : (m : MachineControl) → StandsFor a m → StandsFor b m) where
    same_held : held ≡ held'
    same_held = λ i t. sym (kept t) i

    -- a batch was taken and sent
    pub sent_on : Refines s p b (content_over s held') out' read written
    sent_on = subst (λ (h : ℕ → Content). Refines s p b (content_over s h) out' read written) same_held
        (posts_on s p a b (content_over s held) out read written x same stay shard there out' batch home now outs (asks c x.stands) (keys_in b batch keys) (stands c x.stands))

    pub sent_falls : 0 < length batch → left_to_do b (content_over s held') < left_to_do a (content_over s held)
    sent_falls some = subst (λ (h : ℕ → Content). left_to_do b (content_over s h) < left_to_do a (content_over s held)) same_held
        (posts_fall a b (content_over s held) c same x.stands (stands c x.stands) shard batch there outs some)

  module _ (count : ℕ) (rs : List Reply) (came : Came count out out' held held' shard (Ok rs)) where
    placed : AllByRecursion (λ (i : Item). shard_of s i.key ≡ shard) (out shard)
    placed = all_of (λ (i : Item). shard_of s i.key ≡ shard) (out shard) (λ i h. subst (λ (t : Settings). shard_of t i.key ≡ shard) x.settings (x.asks shard i h).shard)

    replies : rs ≡ replies_to (out shard) (content_over s held)
    replies = came.served.replies ∙ replies_over s held shard (out shard) placed

    behind : (k : Key) → content_over s held' k ≡ content_after (out shard) (content_over s held) k
    behind = content_served s held held' shard (out shard) placed came.served.content came.others

    named : out_of a shard ≡ names_of rs
    named = x.names shard ∙ (sym (names_of_replies (out shard) (content_over s held)) ∙ ap names_of (sym replies))

    -- what came back is the batch that is out
    pub is_batch_out : IsBatchOut a rs
    is_batch_out = record { shard = shard; before = []; behind = []; there = named ∙ sym (append-nil (names_of rs)) }

    module _ (others : OthersOut a b rs) (served : (m : MachineControl) → StandsFor a m → ServesAll a b rs m) where
      outs : b.outs.items ≡ set a.outs.items shard []
      outs = others shard [] [] (named ∙ sym (append-nil (names_of rs)))

      -- and it was delivered
      pub came_on : Refines s p b (content_over s held') out' read written
      came_on = back_on s p a b (content_over s held) out read written x same stay shard there out' (content_over s held') rs came.home outs replies behind (served c x.stands)

      pub came_falls : left_to_do b (content_over s held') < left_to_do a (content_over s held)
      came_falls = back_falls s p a b (content_over s held) out read written x same stay shard there out' (content_over s held') rs came.home outs replies behind (served c x.stands) (some_items (out shard) came.was_out)
