-- The work left, as it is computed of the controller and of what the states of keys hold. It doesn't look at the numbers of epochs.
use Rattle.std.specs.Prelude.{ℕ, ◌+◌, ◌*◌, ◌-◌, List, [], ◌∷◌, length, Option, Some, None}
use Rattle.std.specs.BTreeSet.{insert_key}
use Rattle.ax_keys.specs.Keys.{key_cmp}
use Rattle.ax_text.specs.Programs.{program_width}
use Rattle.ax_machine.specs.Entries.{Key}
use Rattle.ax_machine.specs.Firings.{most_firings}
use Rattle.ax_lang.specs.declared.program.Program.{Program}
use Rattle.ax_lang.specs.Shown.{shown_program}
use Rattle.ax_future.specs.declared.machine.Machine.{Machine as CodeMachine}
use Rattle.ax_future.specs.Machines as machine
use Rattle.ax_future.specs.Talks.{facts_in}
use Rattle.ax_context.specs.declared.id.Id.{Id}
use Rattle.ax_context.specs.declared.contexts.Context.{Context as Held}
use Rattle.ax_context.specs.Slots.{Slots, at}
use Rattle.ax_account.specs.declared.part.Waiting.{Waiting as Item}
use Rattle.ax_account.specs.declared.part.Waiting.TheVariants as item
use Rattle.ax_account.specs.Accounts.{part_of, busy_keys}
use Rattle.ax_buffer.specs.Buffer.{total as total_of}
use Rattle.ax_mailbox.specs.declared.mail.Mail.{Mail}
use Rattle.ax_time.specs.Timers.{times_of}
use Rattle.ax_execution.specs.Sums.{total}
use Rattle.ax_execution.specs.Contexts.{Stage, Unbegun, Begun, Context, Waiting, Row, Mark}
use Rattle.ax_execution.specs.KeyControls.{KeyControl}
use Rattle.ax_execution.specs.MachineControls.{control_work}
use Rattle.ax_core.specs.declared.record.Record.{Record}
use Rattle.ax_core.specs.declared.controller.Controller.{Controller}
use Rattle.ax_core.specs.Views.{program_of, settings_of, contexts_of, accounts_of, buffer_of, mails_of, timers_of, epochs_of}
use Rattle.ax_core.specs.Contexts.{answer_in}
use Rattle.ax_task.specs.Serving.{Content}

-- what the controller holds of a context and of what waits, as the machine has it; each epoch counts as 0

abbrev pub stage_in : Program → List Mail → Id → Option CodeMachine → Stage
stage_in p mails id None = Unbegun
stage_in p mails id (Some m) = Begun (record { control = machine.control_of p m; names = machine.names_of m; answers = answer_in mails id; lines = []; served = 0 })

abbrev pub context_in : Program → List Mail → Id → Option (Held Record) → Option Context
context_in p mails id None = None
context_in p mails id (Some h) = Some (record {
  number = h.number;
  epoch = 0;
  job = record { handler = h.payload.handler; facts = facts_in h.payload.facts };
  stage = stage_in p mails id h.payload.machine;
})

abbrev pub owner_in : Program → List Mail → Slots Record → Option Id → Option Context
owner_in p mails s None = None
owner_in p mails s (Some id) = context_in p mails id (at s id)

abbrev pub row_before : Option (Held Record) → List Waiting → List Waiting
row_before None is = is
row_before (Some h) is = Row h.number 0 (facts_in h.payload.facts) ∷ is

abbrev pub items_in : Slots Record → List Item → List Waiting
items_in s [] = []
items_in s (item.Row id ∷ is) = row_before (at s id) (items_in s is)
items_in s (item.Mark epoch time fired ∷ is) = Mark 0 time (most_firings - fired) ∷ items_in s is

abbrev pub control_in : Controller → Key → KeyControl
control_in a k = record {
  owner = owner_in (program_of a) (mails_of a).mails (contexts_of a) (part_of (accounts_of a) k).owner;
  waiting = items_in (contexts_of a) (part_of (accounts_of a) k).waiting;
  times = times_of (timers_of a) k;
}

-- these keys, rising
abbrev pub rising : List Key → List Key
rising [] = []
rising (k ∷ ks) = insert_key key_cmp (rising ks) k

-- the work left of the keys that aren't free, and one for each marker to be sent
abbrev pub work_in : Controller → Content → ℕ
work_in a content = total (rising (busy_keys (accounts_of a))) (λ k. control_work (shown_program (program_of a)) (control_in a k) (content k)) + length (epochs_of a).closed

-- the requests in queues, and the mails
abbrev pub on_hand : Controller → ℕ
on_hand a = total_of length (buffer_of a).queues + length (mails_of a).mails

-- so much is on hand at most
abbrev pub most_on_hand : Controller → ℕ
most_on_hand a = (settings_of a).in_flight * (program_width (shown_program (program_of a)) + 1)

-- what falls with each thing that the task does and that takes nothing of the input
abbrev pub left_to_do : Controller → Content → ℕ
left_to_do a content = work_in a content * (most_on_hand a + 1) + on_hand a
