-- The test of which events are allowed, over the keys of rows.
use Rattle.std.specs.Prelude.{ℕ, int_lt, List, [], ◌∷◌, Bool, true, false, ◌&&◌, not, nat_eq, nat_lt, Option, Some, None}
use Rattle.std.specs.Str.{bytes_eq}
use Rattle.ax_text.specs.Programs.{Program}
use Rattle.ax_text.specs.declared.vocabulary.Request.{Request}
use Rattle.ax_text.specs.declared.vocabulary.Answer.{Answer}
use Rattle.ax_text.specs.Controls.{request_at}
use Rattle.ax_machine.specs.Entries.{Key}
use Rattle.ax_execution.specs.Contexts.{Stage, Unbegun, Begun, Context, Waiting, Row, Mark, Part, is_idle}
use Rattle.ax_execution.specs.Machine.{Closing, ByWatermark, ByBarrier, Closed, Machine, Happening, Admit, Close, Fire, Start, Serve, Deliver, Send, Rules, happens, in_flight}

abbrev pub no_key : Option Key → Bool
no_key None = true
no_key (Some k) = false

abbrev pub every : (Part → Bool) → (Key → Part) → List Key → Bool
every t parts [] = true
every t parts (k ∷ ks) = t (parts k) && every t parts ks

abbrev pub is_watermark : Closing → Bool
is_watermark (ByWatermark time) = true
is_watermark (ByBarrier id) = false

abbrev pub no_barrier : List Closed → Bool
no_barrier [] = true
no_barrier (c ∷ cs) = is_watermark c.closing && no_barrier cs

abbrev pub nothing_unsent : Bool → List Closed → Bool
nothing_unsent false cs = true
nothing_unsent true [] = true
nothing_unsent true (c ∷ cs) = false

abbrev pub owner_new : ℕ → Option Context → Bool
owner_new n None = true
owner_new n (Some c) = not (nat_eq c.number n)

abbrev pub waiting_new : ℕ → List Waiting → Bool
waiting_new n [] = true
waiting_new n (Row i e f ∷ is) = not (nat_eq i n) && waiting_new n is
waiting_new n (Mark e w more ∷ is) = waiting_new n is

abbrev pub part_new : ℕ → Part → Bool
part_new n q = owner_new n q.owner && waiting_new n q.waiting

abbrev pub owned_later : ℕ → Option Context → Bool
owned_later e None = true
owned_later e (Some c) = nat_lt e c.epoch

abbrev pub wait_later : ℕ → List Waiting → Bool
wait_later e [] = true
wait_later e (Row n f facts ∷ is) = nat_lt e f && wait_later e is
wait_later e (Mark f w more ∷ is) = nat_lt e f && wait_later e is

abbrev pub part_later : ℕ → Part → Bool
part_later e q = owned_later e q.owner && wait_later e q.waiting

abbrev pub none_first : List Closed → Machine → Bool
none_first [] m = false
none_first (c ∷ cs) m = every (part_later c.epoch) m.parts m.keys

abbrev pub unbegun : Stage → Bool
unbegun Unbegun = true
unbegun (Begun r) = false

abbrev pub some_request : Option Request → Bool
some_request None = false
some_request (Some q) = true

abbrev pub no_answer : Option Answer → Bool
no_answer None = true
no_answer (Some a) = false

abbrev pub asks : ℕ → Stage → Bool
asks slot Unbegun = false
asks slot (Begun r) = some_request (request_at r.control slot) && no_answer (r.answers slot)

-- an answer stands at the slot
abbrev pub has : ℕ → Stage → Bool
has slot Unbegun = false
has slot (Begun r) = not (no_answer (r.answers slot))

abbrev pub of_owner : (Stage → Bool) → Option Context → Bool
of_owner t None = false
of_owner t (Some c) = t c.stage

abbrev pub may_fire_now : Key → Option Key → Bool
may_fire_now k None = true
may_fire_now k (Some j) = bytes_eq j k

abbrev pub is_open : Rules → Machine → Bool
is_open r m = no_barrier m.unsent && nothing_unsent r.serial m.unsent

abbrev pub not_idle : Part → Bool
not_idle q = not (is_idle q)

abbrev pub allowed : Rules → Happening → Machine → Bool
allowed r (Admit n k time values) m = no_key m.must && (is_open r m && (nat_lt (in_flight m) r.limit && (every not_idle m.parts m.keys && every (part_new n) m.parts m.keys)))
allowed r (Close (ByWatermark w)) m = no_key m.must && (is_open r m && int_lt m.wm w)
allowed r (Close (ByBarrier id)) m = no_key m.must && is_open r m
allowed r (Fire n k) m = may_fire_now k m.must && (is_idle (m.parts k) && (nat_lt (in_flight m) r.limit && every (part_new n) m.parts m.keys))
allowed r (Start k) m = no_key m.must && of_owner unbegun (m.parts k).owner
allowed r (Serve k slot) m = no_key m.must && of_owner (asks slot) (m.parts k).owner
allowed r (Deliver k slot) m = no_key m.must && of_owner (has slot) (m.parts k).owner
allowed r Send m = no_key m.must && none_first m.unsent m

abbrev pub runs : Rules → ℕ → Program → List Happening → Machine → Bool
runs r g p [] m = true
runs r g p (e ∷ es) m = allowed r e m && runs r g p es (happens g p e m)
