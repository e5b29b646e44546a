-- The keys are those of the rows, and of another key nothing is there.
use Rattle.std.proofs.Common.{◌≡◌, ℕ, ◌*◌, ℤ, int_lt, List, [], ◌∷◌, Bool, true, false, ◌||◌, cond, length, refl, sym, ap, ◌∙◌}
use Rattle.std.specs.Str.{bytes_eq}
use Rattle.std.specs.List.{list_any}
use Rattle.std.proofs.lemmas.Bool.{or_parts, cond-false}
use Rattle.std.proofs.lemmas.Cmp.{nat_list_eq_equiv}
use Rattle.ax_text.specs.KeyStates.{fresh}
use Rattle.ax_text.specs.Programs.{Program, kinds_of}
use Rattle.ax_text.specs.Jobs.{lines_in}
use Rattle.ax_machine.specs.Entries.{Key, Watermark, lines_of}
use Rattle.ax_machine.specs.Events.{Event, Row, Mark, Barrier, has_row}
use Rattle.ax_machine.specs.Firings.{most_firings, due_of}
use Rattle.ax_machine.specs.Sync.{Plain, all_fired, at_watermark, writes, plain_step, plain_steps, plain_start, first_wm, sync}
use Rattle.ax_machine.specs.KeySync.{Said, key_fires, KeyPlain, key_row, key_step, key_steps, untold, key_sync}
use Rattle.ax_machine.proofs.FiringLemmas.{any_inserted}
use Rattle.ax_machine.proofs.KeyLemmas.{not_due, fire_all_beside, is_projected}

or_across : (a b c : Bool) → (a || (b || c)) ≡ ((b || a) || c)
or_across true true c = refl
or_across true false c = refl
or_across false true c = refl
or_across false false c = refl

or_end : (a : Bool) → a ≡ (a || false)
or_end true = refl
or_end false = refl

keys_if : (b : Bool) (s t : Plain) → s.keys ≡ t.keys → (cond b s t).keys ≡ t.keys
keys_if true s t e = e
keys_if false s t e = refl

watermark_keeps_keys : (p : Program) (w : ℤ) (s : Plain) → (cond (int_lt s.wm w) (writes (Watermark w) (all_fired p (at_watermark w s))) s).keys ≡ s.keys
watermark_keeps_keys p w s = keys_if (int_lt s.wm w) (writes (Watermark w) (all_fired p (at_watermark w s))) s
    (fire_all_beside p (most_firings * length s.keys) (λ k. most_firings) (at_watermark w s)).keys

keys_behind : (m : ℕ) (p : Program) (k : Key) (events : List Event) (s : Plain)
    → list_any (bytes_eq k) (plain_steps m p events s).keys ≡ (has_row k events || list_any (bytes_eq k) s.keys)
keys_behind m p k [] s = refl
keys_behind m p k (Row j time values ∷ es) s =
    keys_behind m p k es (plain_step m p (Row j time values) s)
    ∙ ap (λ (b : Bool). has_row k es || b) (any_inserted k j s.keys)
    ∙ or_across (has_row k es) (bytes_eq k j) (list_any (bytes_eq k) s.keys)
keys_behind m p k (Mark w ∷ es) s =
    keys_behind m p k es (plain_step m p (Mark w) s) ∙ ap (λ (ks : List Key). has_row k es || list_any (bytes_eq k) ks) (watermark_keeps_keys p w s)
keys_behind m p k (Barrier id ∷ es) s = keys_behind m p k es (plain_step m p (Barrier id) s)

pub sync_keys : (m : ℕ) (p : Program) (k : Key) (events : List Event) → list_any (bytes_eq k) (sync m p events).keys ≡ has_row k events
sync_keys m p k events = keys_behind m p k events (plain_start p) ∙ sym (or_end (has_row k events))

-- a key without rows
said_if : (b : Bool) (s t : KeyPlain) → s.said ≡ t.said → (cond b s t).said ≡ t.said
said_if true s t e = e
said_if false s t e = refl

stays : (p : Program) (k : Key) (events : List Event) (s : KeyPlain) → has_row k events ≡ false → s.said.state.times ≡ [] → (key_steps p k events s).said ≡ s.said
stays p k [] s h e = refl
stays p k (Row j time values ∷ es) s h e =
    let parts : (bytes_eq k j ≡ false) × (has_row k es ≡ false) = or_parts (bytes_eq k j) (has_row k es) h in
    let same : key_step p k (Row j time values) s ≡ s = cond-false (bytes_eq j k) (key_row p time values s) s (nat_list_eq_equiv.symm j k ∙ parts.0) in
    ap (λ (t : KeyPlain). (key_steps p k es t).said) same ∙ stays p k es s parts.1 e
stays p k (Mark w ∷ es) s h e =
    let same : (key_step p k (Mark w) s).said ≡ s.said = said_if (int_lt s.wm w) (record { wm = w; said = key_fires p w most_firings s.said }) s
    (not_due p w most_firings k s.said (ap (due_of w k) e)) in
    stays p k es (key_step p k (Mark w) s) h (ap (λ (t : Said). t.state.times) same ∙ e) ∙ same
stays p k (Barrier id ∷ es) s h e = stays p k es s h e

others_stay : (p : Program) (k : Key) (events : List Event) → has_row k events ≡ false → (key_sync p k events).said ≡ untold p
others_stay p k events h = stays p k events (record { wm = first_wm; said = untold p }) h refl

pub other_states : (m : ℕ) (p : Program) (k : Key) (events : List Event) → has_row k events ≡ false → (sync m p events).map k ≡ fresh (kinds_of p.states)
other_states m p k events h = (is_projected m p k events).state ∙ ap (λ (t : Said). t.state) (others_stay p k events h)

pub other_lines : (m : ℕ) (p : Program) (k : Key) (events : List Event) → has_row k events ≡ false → lines_of k (sync m p events).entries ≡ []
other_lines m p k events h = (is_projected m p k events).lines ∙ ap (λ (t : Said). lines_in t.groups) (others_stay p k events h)
