-- A context of the controller, and the context of the machine that it stands for.
use Rattle.std.specs.Prelude.{◌≡◌, ℕ, ◌%◌, ◌^◌, nat_eq, Bool, ◌&&◌, if◌then◌else◌, List, [], ◌∷◌, Option, Some, None}
use Rattle.ax_text.specs.declared.vocabulary.Answer.{Answer}
use Rattle.ax_text.specs.Controls.{Ask', waiting}
use Rattle.ax_text.specs.Jobs.{Job}
use Rattle.ax_lang.specs.declared.program.Program.{Program}
use Rattle.ax_future.specs.declared.machine.Machine.{Machine as CodeMachine}
use Rattle.ax_future.specs.Machines as machine
use Rattle.ax_future.specs.Talks.{facts_in}
use Rattle.ax_context.specs.declared.id.Id.{Id}
use Rattle.ax_context.specs.declared.contexts.Context.{Context as Held}
use Rattle.ax_context.specs.Ids.{slot_of}
use Rattle.ax_mailbox.specs.declared.mail.Mail.{Mail}
use Rattle.ax_mailbox.specs.declared.mail.Mail.TheVariants as mail
use Rattle.ax_execution.specs.Contexts.{Running, Stage, Unbegun, Begun, Context}
use Rattle.ax_execution.specs.Counts.{references}
use Rattle.ax_core.specs.declared.record.Record.{Record}

abbrev pub same_id : Id → Id → Bool
same_id a b = nat_eq (slot_of a) (slot_of b)

-- the answer at a slot of a context that was delivered and is still to be given
abbrev pub answer_if : Bool → Answer → Option Answer → Option Answer
answer_if found a o = if found then Some a else o

abbrev pub answer_in : List Mail → Id → ℕ → Option Answer
answer_in [] id slot = None
answer_in (mail.Start i ∷ ms) id slot = answer_in ms id slot
answer_in (mail.Fire i ∷ ms) id slot = answer_in ms id slot
answer_in (mail.Reply i s a ∷ ms) id slot = answer_if (same_id i id && nat_eq s slot) a (answer_in ms id slot)

-- epochs are numbered from 0, and behind 2 ^ 64 - 1 comes 0 again
abbrev pub wrapped : ℕ → ℕ
wrapped epoch = epoch % 2 ^ 64

-- where the handler stands, its local names, and the answers that it was not given yet
pub record IsRunning (p : Program) (mails : List Mail) (id : Id) (m : CodeMachine) (r : Running) : Type 0 where
  pub control : machine.control_of p m ≡ r.control
  pub names : machine.names_of m ≡ r.names
  pub answers : (slot : ℕ) → answer_in mails id slot ≡ r.answers slot
  pub sound : machine.IsSound p m

-- a handler that hasn't begun, or one that waits
abbrev pub StageStands : Program → List Mail → Id → Option CodeMachine → Stage → Type 0
StageStands p mails id None Unbegun = Unit {0}
StageStands p mails id None (Begun r) = ⊥
StageStands p mails id (Some m) Unbegun = ⊥
StageStands p mails id (Some m) (Begun r) = IsRunning p mails id m r

-- a row of this key, or a timer of it, with its facts
pub record IsJob (k : List ℕ) (r : Record) (j : Job) : Type 0 where
  pub key : r.facts.key ≡ k
  pub handler : r.handler ≡ j.handler
  pub facts : facts_in r.facts ≡ j.facts

-- a live context with its number, epoch and work, and one reference for each request that waits, or one before its start
pub record IsContext (p : Program) (mails : List Mail) (key : List ℕ) (id : Id) (h : Held Record) (c : Context) : Type 0 where
  pub number : h.number ≡ c.number
  pub epoch : h.epoch ≡ wrapped c.epoch
  pub count : h.count ≡ references c.stage
  pub job : IsJob key h.payload c.job
  pub stage : StageStands p mails id h.payload.machine c.stage

abbrev pub ContextStands : Program → List Mail → List ℕ → Id → Option (Held Record) → Context → Type 0
ContextStands p mails key id None c = ⊥
ContextStands p mails key id (Some h) c = IsContext p mails key id h c

-- what waits at a context: nothing before its start
abbrev pub waits_in : Program → Option CodeMachine → List Ask'
waits_in p None = []
waits_in p (Some m) = waiting (machine.control_of p m)

abbrev pub waits_at : Program → Option (Held Record) → List Ask'
waits_at p None = []
waits_at p (Some h) = waits_in p h.payload.machine
