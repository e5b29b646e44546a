-- There is room for what a callback asks, and for the mail that it may post.
use Rattle.std.proofs.Common.{◌≡◌, ℕ, ◌+◌, ◌*◌, ◌≤◌, ◌<◌, List, [], ◌∷◌, length, true, sym, ap, ◌∙◌, subst, Option, Some, None, add-mul, mul-le-mul_right, arith}
use Rattle.std.specs.Str.{bytes_eq}
use Rattle.std.specs.List.{list_any}
use Rattle.ax_text.specs.Programs.{program_width}
use Rattle.ax_text.specs.Widths.{ControlWide}
use Rattle.ax_text.proofs.Wide.{slots_wide}
use Rattle.ax_lang.specs.declared.program.Program.{Program}
use Rattle.ax_lang.specs.Shown.{shown_program}
use Rattle.ax_future.specs.declared.machine.Machine.{Machine as CodeMachine}
use Rattle.ax_machine.specs.Entries.{Key}
use Rattle.ax_machine.proofs.FiringLemmas.{key_is}
use Rattle.ax_buffer.specs.Buffer.{total}
use Rattle.ax_context.specs.declared.id.Id.{Id}
use Rattle.ax_context.specs.declared.contexts.Context.{Context as Held}
use Rattle.ax_context.specs.Slots.{Slots, at, live_count}
use Rattle.ax_account.specs.Accounts.{part_of}
use Rattle.ax_mailbox.specs.declared.mail.Mail.{Mail}
use Rattle.ax_execution.specs.Sums.{total as key_total}
use Rattle.ax_execution.specs.Contexts.{Stage, Unbegun, Begun, Context, owners, rows_in}
use Rattle.ax_execution.specs.Counts.{references}
use Rattle.ax_execution.specs.ControlTurns.{contexts_on}
use Rattle.ax_execution.specs.MachineControls.{MachineControl, in_flight_on}
use Rattle.ax_execution.specs.Reached.{IsOrderly, owed_to, owed_in}
use Rattle.ax_execution.proofs.Upto.{by_cases}
use Rattle.ax_core.specs.declared.record.Record.{Record}
use Rattle.ax_core.specs.declared.controller.Controller.{Controller}
use Rattle.ax_core.specs.Contexts.{StageStands, ContextStands}
use Rattle.ax_core.specs.Keys.{OwnerStands}
use Rattle.ax_core.specs.Stands.{Stands}
use Rattle.ax_core.specs.Sound.{rules_of, StandsFor, IsSound}

-- a context has at most as many references as the program is wide
module _ (p : Program) (mails : List Mail) (s : Slots Record) where
  stage_few : (id : Id) (o : Option CodeMachine) (stage : Stage) → StageStands p mails id o stage → references stage ≤ program_width (shown_program p)
  stage_few id None Unbegun x = omega arith
  stage_few id None (Begun r) x = absurd x
  stage_few id (Some m) Unbegun x = absurd x
  stage_few id (Some m) (Begun r) x = slots_wide (program_width (shown_program p)) r.control (subst (ControlWide (program_width (shown_program p))) x.control x.sound.wide)

  context_few : (k : Key) (id : Id) (o : Option (Held Record)) (c : Context) → ContextStands p mails k id o c → references c.stage ≤ program_width (shown_program p)
  context_few k id None c x = absurd x
  context_few k id (Some h) c x = stage_few id h.payload.machine c.stage x.stage

  owner_few : (k : Key) (o : Option Id) (c : Option Context) → OwnerStands p mails s k o c → owed_to c ≤ owners c * program_width (shown_program p)
  owner_few k o None x = omega arith
  owner_few k None (Some c) x = absurd x
  owner_few k (Some id) (Some c) x = omega (arith, context_few k id (at s id) c x)

-- a sum that is at most another, with one of its parts as it is
module _ (f g : Key → ℕ) (w : ℕ) (few : (k : Key) → f k ≤ g k * w) where
  sum_few : (ks : List Key) → key_total ks f ≤ key_total ks g * w
  sum_few [] = omega arith
  sum_few (k ∷ ks) = rw (add-mul (g k) (key_total ks g) w) (omega (arith, few k, sum_few ks))

  sum_but : (key : Key) (ks : List Key) → list_any (bytes_eq key) ks ≡ true → key_total ks f + g key * w ≤ key_total ks g * w + f key
  sum_but key [] there = absurd (cc there)
  sum_but key (k ∷ ks) there = by_cases (bytes_eq key k)
      (λ e. subst (λ (j : Key). f j + key_total ks f + g key * w ≤ (g j + key_total ks g) * w + f key) (key_is key k e)
      (rw (add-mul (g key) (key_total ks g) w) (omega (arith, sum_few ks))))
      (λ e. rw (add-mul (g k) (key_total ks g) w) (omega (arith, few k, sum_but key ks (rw e at there))))

module _ (a : Controller) (m : MachineControl) (x : Stands a m) (key : Key) (c : Context) (owner : (m.controls key).owner ≡ Some c) (known : list_any (bytes_eq key) m.keys ≡ true) where
  key_few : (k : Key) → owed_to (m.controls k).owner ≤ contexts_on (m.controls k) * program_width (shown_program a.program)
  key_few k = more (owners (m.controls k).owner) (rows_in (m.controls k).waiting) (program_width (shown_program a.program)) (owed_to (m.controls k).owner)
      (owner_few a.program a.mails.mails a.contexts k (part_of a.accounts k).owner (m.controls k).owner (x.keys k).owner)
    where
      more : (n b w o : ℕ) → o ≤ n * w → o ≤ (n + b) * w
      more n b w o h = rw (add-mul n b w) (omega arith)

  -- all that is owed but to one owner is at most what the other contexts may ask
  pub owed_but : owed_in m + program_width (shown_program a.program) ≤ in_flight_on m * program_width (shown_program a.program) + references c.stage
  owed_but =
      let w : ℕ = program_width (shown_program a.program) in
      let all : owed_in m + contexts_on (m.controls key) * program_width (shown_program a.program) ≤ in_flight_on m * program_width (shown_program a.program) + owed_to (m.controls key).owner =
      sum_but (λ (k : Key). owed_to (m.controls k).owner) (λ (k : Key). contexts_on (m.controls k)) (program_width (shown_program a.program)) key_few key m.keys known in
      let own : owed_to (m.controls key).owner ≡ references c.stage = ap owed_to owner in
      let some : contexts_on (m.controls key) ≡ 1 + rows_in (m.controls key).waiting = ap (λ (o : Option Context). owners o + rows_in (m.controls key).waiting) owner in
      let one : contexts_on (m.controls key) * program_width (shown_program a.program) ≡ (1 + rows_in (m.controls key).waiting) * program_width (shown_program a.program) = ap (λ (n : ℕ). n * program_width (shown_program a.program)) some in
      let split : (1 + rows_in (m.controls key).waiting) * program_width (shown_program a.program) ≡ 1 * program_width (shown_program a.program) + rows_in (m.controls key).waiting * program_width (shown_program a.program) =
      add-mul 1 (rows_in (m.controls key).waiting) (program_width (shown_program a.program)) in
      omega (arith, all, own, one, split)

module _ (a : Controller) (x : IsSound a) (m : MachineControl) (stands : StandsFor a m) (orderly : IsOrderly (rules_of a.settings) m) where
  -- a mail takes one of the references
  pub requests_fit : (key : Key) (c : Context) → (m.controls key).owner ≡ Some c → 0 < length a.mails.mails → (asks left : ℕ) → references c.stage + asks ≡ 1 + left → left ≤ program_width (shown_program a.program)
      → total length a.buffer.queues + asks ≤ a.buffer.room
  requests_fit key c owner some asks left counted few =
      let known : list_any (bytes_eq key) m.keys ≡ true = by_cases (list_any (bytes_eq key) m.keys) (λ e. e) (λ e. absurd (cc (sym owner ∙ (orderly.absent key e).owner))) in
      let but : owed_in m + program_width (shown_program a.program) ≤ in_flight_on m * program_width (shown_program a.program) + references c.stage = owed_but a m stands.stands key c owner known in
      let most : in_flight_on m * program_width (shown_program a.program) ≤ a.settings.in_flight * program_width (shown_program a.program) = mul-le-mul_right (program_width (shown_program a.program)) orderly.limit in
      let way : total length a.buffer.queues + (total length a.outs.items + length a.mails.mails) ≡ owed_in m = stands.stands.way in
      omega (arith, but, most, way, some, counted, few, x.rooms.requests)

  pub contexts_fit : live_count a.contexts ≤ a.contexts.limit
  contexts_fit = omega (arith, orderly.limit, stands.stands.flight, x.rooms.contexts)
