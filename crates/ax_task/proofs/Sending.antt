-- Batches that are sent and come back, as the engine does it.
use Rattle.std.proofs.Common.{◌≡◌, ◌≢◌, ◌<◌, ◌≤◌, ◌⊎◌, inl, inr, ℕ, zero, suc, ◌+◌, Bool, true, false, List, [], ◌∷◌, ◌++◌, length, set, take, Result, Ok, refl, sym, ap, ◌∙◌, subst, arith}
use Rattle.std.proofs.lemmas.Bool.{cases_eq, both_ways}
use Rattle.ax_base.specs.declared.outside.NoMemory.{NoMemory}
use Rattle.ax_text.specs.declared.vocabulary.Kind.{Kind}
use Rattle.ax_text.specs.Functions.{upd}
use Rattle.ax_machine.specs.Entries.{Entry}
use Rattle.ax_machine.specs.Events.{Event}
use Rattle.ax_lang.specs.declared.program.Program.{Program}
use Rattle.ax_lang.specs.Shown.{shown_kinds}
use Rattle.ax_buffer.specs.declared.items.Item.{Item}
use Rattle.ax_buffer.specs.declared.items.Reply.{Reply}
use Rattle.ax_buffer.specs.Buffer.{queue_of}
use Rattle.ax_execution.specs.MachineControls.{MachineControl}
use Rattle.ax_core.specs.declared.settings.Settings.{Settings}
use Rattle.ax_core.specs.declared.controller.Controller.{Controller}
use Rattle.ax_core.specs.Flow.{out_of}
use Rattle.ax_core.specs.Sound.{StandsFor, IsSound}
use Rattle.ax_core.specs.Events.{SameRules, KeysStay, OfKeys, AsksAll, IsBatchOut, ServesAll, names_in}
use Rattle.ax_core.specs.Batches.{OthersOut}
use Rattle.ax_core.specs.Numbers.{NoneNumbered}
use Rattle.ax_core.specs.Order.{SendsFirst, Posts, replies_in, idle_in}
use Rattle.ax_task.specs.Serving.{Content, AllFit}
use Rattle.ax_task.specs.Shards.{Serving, shard_count, held, out, next_out, IsNext, Stays, Came}
use Rattle.ax_task.specs.Refined.{content_over, Refines}
use Rattle.ax_task.specs.Work.{left_to_do}
use Rattle.ax_task.specs.Engines.{Stands, IsReady, MovesOn, batch_of}
use Rattle.ax_task.specs.Exchanged.{IsHomeWith, LessIsLeft, NothingWaits, NoneHomeWith, NoneOut, IsSent, IsBack, Exchanges, SendsFull, SendsShort, Serves, Nothing}
use Rattle.ax_task.specs.declared.engine.Engine.{Engine}
use Rattle.ax_task.proofs.Exchanges.{sent_on, sent_falls, is_batch_out, came_on, came_falls}

-- no number up to this one has it
pub none_below : (P : ℕ → Type 0) (n : ℕ) (b : Bool) → ((s : ℕ) → s < n → P s → ⊥) → (P n → b ≡ true) → b ≡ false → (s : ℕ) → s < n + 1 → P s → ⊥
none_below P n b before tells f s l h = of (cases_eq s n)
  where
    of : (s ≡ n) ⊎ (s ≢ n) → ⊥
    of (inl e) = both_ways b f (tells (subst P e h))
    of (inr d) = before s (omega (arith, l, d)) h

-- some are taken
pub some_taken : (n : ℕ) (is : List Item) → 0 < n → 0 < length is → 0 < length (take n is)
some_taken zero is h k = absurd (omega (arith, h))
some_taken (suc n) [] h k = absurd (omega (arith, k))
some_taken (suc n) (i ∷ is) h k = omega arith

pub not_none : (is : List Item) → 0 < length is → is ≢ []
not_none is h e = let l : length is ≡ 0 = ap length e in omega arith

-- one controller and its shards behind another
module _ (e e' : Engine) (settings : e'.settings ≡ e.settings) (batch_same : e'.batch ≡ e.batch) (count : shard_count e'.shards ≡ shard_count e.shards) (kinds : e'.shards.kinds ≡ e.shards.kinds) where
  stands_again : (s : Settings) (p : Program) (read : List Event) (written : List Entry) → Stands s p e read written → IsSound e'.core
      → Refines s p e'.core (content_over s (held e'.shards)) (out e'.shards) read written → Stands s p e' read written
  stands_again s p read written x sound refines = record {
    sound = sound;
    refines = refines;
    settings = settings ∙ x.settings;
    shards = count ∙ x.shards;
    kinds = kinds ∙ x.kinds;
    some = x.some;
    batch = subst (λ (n : ℕ). 0 < n) (sym batch_same) x.batch;
  }

  -- nothing was sent, and nothing came
  pub stays_on : e'.core ≡ e.core → Stays (out e.shards) (out e'.shards) (held e.shards) (held e'.shards) → MovesOn e e'
  stays_on core stays s p read written x =
      let held_same : held e.shards ≡ held e'.shards = λ i t. sym (stays.held t) i in
      let out_same : out e.shards ≡ out e'.shards = λ i t. sym (stays.out t) i in
      stands_again s p read written x (subst IsSound (sym core) x.sound)
      (subst (λ (a : Controller). Refines s p a (content_over s (held e'.shards)) (out e'.shards) read written) (sym core)
      (subst (λ (o : ℕ → List Item). Refines s p e.core (content_over s (held e'.shards)) o read written) out_same
      (subst (λ (h : ℕ → Content). Refines s p e.core (content_over s h) (out e.shards) read written) held_same x.refines)))

  module _ (sound : IsSound e'.core) (same : SameRules e.core e'.core) (stay : KeysStay e.core e'.core) (shard : ℕ) (below : shard < shard_count e.shards) where
    within : (s : Settings) (p : Program) (read : List Event) (written : List Entry) → Stands s p e read written → shard < s.shards
    within s p read written x = subst (λ (n : ℕ). shard < n) x.shards below

    -- what is left, by the settings of the run
    lesser : (s : Settings) → e.settings ≡ s → left_to_do e'.core (content_over s (held e'.shards)) < left_to_do e.core (content_over s (held e.shards)) → LessIsLeft e e'
    lesser s is h = subst (λ (t : Settings). left_to_do e'.core (content_over t (held e'.shards)) < left_to_do e.core (content_over e.settings (held e.shards))) (sym settings)
        (subst (λ (t : Settings). left_to_do e'.core (content_over t (held e'.shards)) < left_to_do e.core (content_over t (held e.shards))) (sym is) h)

    -- a batch was taken and sent
    module _ (batch : List Item) (home : out e.shards shard ≡ []) (now : (t : ℕ) → out e'.shards t ≡ upd (out e.shards) shard batch t) (kept : (t : ℕ) → held e'.shards t ≡ held e.shards t)
        (outs : e'.core.outs.items ≡ set e.core.outs.items shard (out_of e.core shard ++ names_in batch)) (asks : (m : MachineControl) → StandsFor e.core m → AsksAll e.core shard m batch)
        (keys : OfKeys e'.core batch) (stands : (m : MachineControl) → StandsFor e.core m → StandsFor e'.core m) where
      pub sends : MovesOn e e'
      sends s p read written x = stands_again s p read written x sound
          (sent_on s p e.core e'.core (held e.shards) (held e'.shards) (out e.shards) (out e'.shards) read written x.refines x.sound same stay shard (within s p read written x) batch home now kept outs asks keys stands)

      pub sends_less : IsReady e → 0 < length batch → LessIsLeft e e'
      sends_less r some =
          let x : Stands r.settings r.program e r.read r.written = r.stands in
          lesser r.settings x.settings
          (sent_falls r.settings r.program e.core e'.core (held e.shards) (held e'.shards) (out e.shards) (out e'.shards) r.read r.written x.refines x.sound same stay shard (within r.settings r.program r.read r.written x)
          batch home now kept outs asks keys stands some)

    -- a batch came back and was delivered
    module _ (n : ℕ) (rs : List Reply) (came : Came n (out e.shards) (out e'.shards) (held e.shards) (held e'.shards) shard (Ok rs)) (others : OthersOut e.core e'.core rs)
        (served : (m : MachineControl) → StandsFor e.core m → ServesAll e.core e'.core rs m) where
      pub comes : MovesOn e e'
      comes s p read written x = stands_again s p read written x sound
          (came_on s p e.core e'.core (held e.shards) (held e'.shards) (out e.shards) (out e'.shards) read written x.refines x.sound same stay shard (within s p read written x) n rs came others served)

      pub comes_less : IsReady e → LessIsLeft e e'
      comes_less r =
          let x : Stands r.settings r.program e r.read r.written = r.stands in
          lesser r.settings x.settings
          (came_falls r.settings r.program e.core e'.core (held e.shards) (held e'.shards) (out e.shards) (out e'.shards) r.read r.written x.refines x.sound same stay shard (within r.settings r.program r.read r.written x)
          n rs came others served)

-- what came back is a batch that is out
pub comes_of : (e : Engine) → IsReady e → (v : Serving) (n shard : ℕ) (rs : List Reply) → shard < shard_count e.shards → Came n (out e.shards) (out v) (held e.shards) (held v) shard (Ok rs) → IsBatchOut e.core rs
comes_of e r v n shard rs below came =
    let x : Stands r.settings r.program e r.read r.written = r.stands in
    is_batch_out r.settings r.program e.core e.core (held e.shards) (held v) (out e.shards) (out v) r.read r.written x.refines x.sound (record { program = refl; settings = refl }) (λ t m h. refl) shard
    (subst (λ (k : ℕ). shard < k) x.shards below) n rs came

-- a shard of the engine is one of the shards
pub among_shards : (e : Engine) → IsReady e → (shard : ℕ) → shard < e.settings.shards → shard < shard_count e.shards
among_shards e r shard h = subst (λ (n : ℕ). shard < n) (ap (λ (t : Settings). t.shards) r.stands.settings ∙ sym r.stands.shards) h

-- the requests of a batch fit what the shards hold
pub all_fit : (e : Engine) → IsReady e → (batch : List Item) → AllFit (shown_kinds e.core.program) batch → AllFit e.shards.kinds batch
all_fit e r batch h = subst (λ (kinds : List Kind). AllFit kinds batch) (ap shown_kinds r.stands.refines.program ∙ sym r.stands.kinds) h

pub came_ok : (n : ℕ) (o o' : ℕ → List Item) (h h' : ℕ → Content) (shard : ℕ) (r : Result (List Reply) NoMemory) (rs : List Reply) → r ≡ Ok rs → Came n o o' h h' shard r → Came n o o' h h' shard (Ok rs)
came_ok n o o' h h' shard r rs e came = subst (Came n o o' h h' shard) e came

-- where nothing is out, and for no shard a request waits
pub nothing : (e : Engine) → NoneOut e → NoneHomeWith e 1 → NothingWaits e
nothing e home none = record {
  queues = λ s l. empty (queue_of e.core.buffer s) (λ w. none s l (record { home = home s; waits = w }));
  home = home;
}
  where
    empty : (is : List Item) → (1 ≤ length is → ⊥) → is ≡ []
    empty [] w = refl
    empty (i ∷ is) w = absurd (w (omega arith))

-- what was sent are the first requests that waited
pub sent_first : (e e' : Engine) (shard : ℕ) (batch : List Item) → batch ≡ take (batch_of e) (queue_of e.core.buffer shard)
    → SendsFirst e.core e'.core shard (batch_of e) batch → ((t : ℕ) → out e'.shards t ≡ upd (out e.shards) shard batch t) → ((t : ℕ) → held e'.shards t ≡ held e.shards t)
    → e'.shards.sent ≡ e.shards.sent ++ shard ∷ [] → e'.shards.order ≡ e.shards.order
    → idle_in e'.core ≡ idle_in e.core → NoneNumbered e.core e'.core → e'.settings ≡ e.settings → batch_of e' ≡ batch_of e
    → ((m : MachineControl) → StandsFor e.core m → StandsFor e'.core m) → ((m : MachineControl) → StandsFor e.core m → AsksAll e.core shard m batch) → IsSent e e' shard
sent_first e e' shard batch is queue now kept sent order idle numbers settings size stands asks = record {
  event = stands;
  asks = subst (λ (b : List Item). (m : MachineControl) → StandsFor e.core m → AsksAll e.core shard m b) is asks;
  queue = subst (λ (b : List Item). SendsFirst e.core e'.core shard (batch_of e) b) is queue;
  batches = subst (λ (b : List Item). (t : ℕ) → out e'.shards t ≡ upd (out e.shards) shard b t) is now;
  kept = kept;
  sent = sent;
  order = order;
  idle = idle;
  numbers = numbers;
  settings = settings;
  batch = size;
}

-- what came back is the batch that was next
pub back_next : (e e' : Engine) (n shard : ℕ) (rs : List Reply) → Came n (out e.shards) (out e'.shards) (held e.shards) (held e'.shards) shard (Ok rs)
    → IsNext e.shards e'.shards shard → Posts e.core e'.core (replies_in e.core rs) → idle_in e'.core ≡ idle_in e.core → NoneNumbered e.core e'.core → e'.settings ≡ e.settings → batch_of e' ≡ batch_of e
    → ((m : MachineControl) → StandsFor e.core m → ServesAll e.core e'.core rs m) → IsBack e e' (next_out e.shards)
back_next e e' n shard rs came next posts idle numbers settings size served = subst (IsBack e e') next.shard (record {
  event = subst (λ (ys : List Reply). (m : MachineControl) → StandsFor e.core m → ServesAll e.core e'.core ys m) came.served.replies served;
  next = next;
  was_out = came.was_out;
  home = came.home;
  replies = subst (λ (ys : List Reply). Posts e.core e'.core (replies_in e.core ys)) came.served.replies posts;
  served = came.served.content;
  others = came.others;
  idle = idle;
  numbers = numbers;
  settings = settings;
  batch = size;
})

-- no full batch can be sent: the next is served
pub serves : (old new : Engine) → NoneHomeWith old (batch_of old) → IsBack old new (next_out old.shards) → Exchanges old new true
serves old new none back = record { thing = Serves (next_out old.shards); comes = (none, back.was_out, refl); leads = back; told = refl }

-- there is nothing to do
pub nothing_comes : (e : Engine) → NothingWaits e → Exchanges e e false
nothing_comes e h = record { thing = Nothing; comes = h; leads = refl; told = refl }

-- what a call did that began where the one before it had left all as it was
pub as_before : {A : Type 0} {old mid : Engine} (P : Engine → A → Type 0) (a : A) → mid ≡ old → P mid a → P old a
as_before P a e h = subst (λ v. P v a) e h

-- a batch was sent
pub sends_full : (old new : Engine) (shard : ℕ) → shard < old.settings.shards → IsHomeWith old (batch_of old) shard → ((t : ℕ) → t < shard → IsHomeWith old (batch_of old) t → ⊥) → IsSent old new shard → Exchanges old new true
sends_full old new shard among is first sent = record { thing = SendsFull shard; comes = record { among = among; is = is; first = first }; leads = sent; told = refl }

pub sends_short : (old new : Engine) (shard : ℕ) → NoneHomeWith old (batch_of old) → NoneOut old → shard < old.settings.shards → IsHomeWith old 1 shard → ((t : ℕ) → t < shard → IsHomeWith old 1 t → ⊥) → IsSent old new shard → Exchanges old new true
sends_short old new shard none home among is first sent = record { thing = SendsShort shard; comes = (none, home, record { among = among; is = is; first = first }); leads = sent; told = refl }
