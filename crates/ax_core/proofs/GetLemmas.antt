-- A payload that is changed where it lies.
use Rattle.std.proofs.Common.{◌≡◌, ℕ, Option, Some, None, IsSome, IsSomeAnd, Result, Ok, Err, IfOk, refl, sym, subst}
use Rattle.ax_base.specs.declared.outside.NoMemory.{NoMemory}
use Rattle.ax_text.specs.declared.vocabulary.Answer.{Answer}
use Rattle.ax_lang.specs.declared.program.Program.{Program}
use Rattle.ax_future.specs.declared.callback.Turn.{Turn}
use Rattle.ax_context.specs.declared.id.Id.{Id}
use Rattle.ax_context.specs.declared.contexts.Context.{Context}
use Rattle.ax_context.specs.Slots.{Slots, at, Has, IsLive, IsPaid, with_payload}
use Rattle.ax_core.specs.declared.record.Record.{Record}
use Rattle.ax_core.specs.Callbacks.{Begins, WaitsAt, ResumedAt, HasBegun, HasResumed}

pub if_ok : {T E : Type 0} {P Q : T → Type 0} (r : Result T E) → ((x : T) → P x → Q x) → IfOk r P → IfOk r Q
if_ok (Ok x) f p = f x p
if_ok (Err e) f p = tt

pub some_and : {T : Type 0} {P Q : T → Type 0} (o : Option T) → ((x : T) → P x → Q x) → IsSomeAnd o P → IsSomeAnd o Q
some_and None f h = absurd h
some_and (Some x) f h = f x h

pub has_begun : (p : Program) (old : Slots Record) (id : Id) (was now : Record) (result : Result Turn NoMemory) → Has old id (λ c. was ≡ c.payload) → ((payload : Record) → IsPaid old (with_payload old id payload) id payload)
    → IfOk result (λ t. Begins p was now t) → IfOk result (λ t. Has old id (λ c. HasBegun p old (with_payload old id now) id c t))
has_begun p old id was now result there after h =
    if_ok result (λ t b. some_and (at old id) (λ c e. record { payload = now; begins = subst (λ (r : Record). Begins p r now t) e b; paid = after now }) there) h

pub has_resumed : (p : Program) (old : Slots Record) (id : Id) (was now : Record) (slot : ℕ) (a : Answer) (result : Result Turn NoMemory) → Has old id (λ c. was ≡ c.payload)
    → ((payload : Record) → IsPaid old (with_payload old id payload) id payload) → IfOk result (λ t. ResumedAt p was now was.machine slot a t)
    → IfOk result (λ t. Has old id (λ c. HasResumed p old (with_payload old id now) id c slot a t))
has_resumed p old id was now slot a result there after h =
    if_ok result (λ t b. some_and (at old id) (λ c e. record { payload = now; resumed = subst (λ (r : Record). ResumedAt p r now r.machine slot a t) e b; paid = after now }) there) h

live_there : {T : Type 0} (P : T → Type 0) (o : Option T) → IsSomeAnd o P → IsSome o
live_there P None h = absurd h
live_there P (Some x) h = refl

pub is_live : (p : Program) (old : Slots Record) (id : Id) (slot : ℕ) → Has old id (λ c. WaitsAt p c.payload.machine slot) → IsLive old id
is_live p old id slot h = live_there (λ c. WaitsAt p c.payload.machine slot) (at old id) h

waits_in : (p : Program) (o : Option (Context Record)) (was : Record) (slot : ℕ) → IsSomeAnd o (λ c. was ≡ c.payload) → IsSomeAnd o (λ c. WaitsAt p c.payload.machine slot) → WaitsAt p was.machine slot
waits_in p None was slot h w = absurd h
waits_in p (Some c) was slot h w = subst (λ (r : Record). WaitsAt p r.machine slot) (sym h) w

pub waits_there : (p : Program) (old : Slots Record) (id : Id) (was : Record) (slot : ℕ) → Has old id (λ c. was ≡ c.payload) → Has old id (λ c. WaitsAt p c.payload.machine slot) → WaitsAt p was.machine slot
waits_there p old id was slot h w = waits_in p (at old id) was slot h w
