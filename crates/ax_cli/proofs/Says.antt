-- How a run has ended, in words that don't go by its status.
use Rattle.std.proofs.Common.{◌≡◌, ℕ, ◌⊎◌, inl, inr, ◌<◌, ◌^◌, ◌-◌, List, [], true, Option, Some, None, refl, sym, subst}
use Rattle.ax_base.specs.Outside.{Told}
use Rattle.ax_task.specs.Parse.{Parsed, BadProgram, Runs, Stream, Ending, Clean, Fault, parse}
use Rattle.ax_task.specs.Clause.{Holds}
use Rattle.ax_task.proofs.Telling.{read_wrote, write_wrote}
use Rattle.ax_words.specs.declared.options.Options.{Options}
use Rattle.ax_cli.specs.Status.{StatusOf, StatusStops, IsRefused, IsNamed, status_at, status_named, Streams, Leaves}
use Rattle.ax_cli.specs.Laws.{WroteLawful, WroteNothing, WroteAllThatWasRead, WroteSome, Says, SaysProgramFault, SaysEvents, SaysInputFault}
use Rattle.ax_cli.specs.declared.status.Status.{Status}
use Rattle.ax_cli.specs.declared.status.Status.TheVariants as status

-- a status with a run whose input told what to do
IsOfRun : Status → Type 0
IsOfRun status.NoMemory = ⊥
IsOfRun status.Usage = ⊥
IsOfRun s = Unit {0}

not_refused : (t : Status) → IsOfRun t → IsRefused t → ⊥
unfolding IsOfRun
not_refused t h (inl e) = subst IsOfRun e h
not_refused t h (inr e) = subst IsOfRun e h

-- what is told of known bytes
of_told : {l l' : Option (List ℕ)} {bytes rest : List ℕ} (P : List ℕ → List ℕ → Type 0) → l ≡ Some bytes → l' ≡ Some rest → Told l l' P → P bytes rest
of_told {l} {l'} {bytes} {rest} P known behind h =
    subst (λ (b : Option (List ℕ)). Told (Some bytes) b P) behind (subst (λ (a : Option (List ℕ)). Told a l' P) known h)

module _ (o : Options) (out : Holds) (bytes rest : List ℕ) where
  ok_says : (whole : Parsed) → parse bytes ≡ whole → StatusOf o.max_parallelism out whole rest status.Ok → WroteLawful (Some o) out bytes Clean × (rest ≡ [])
  ok_says (BadProgram line kind) e h = absurd h
  ok_says (Runs p s) e (ends, all, (written, lawful, grown)) = (record { options = o; accepted = refl; program = p; stream = s; says = e; ends = ends; written = written; lawful = lawful; grown = grown }, all)

  input_says : (line kind : ℕ) (whole : Parsed) → parse bytes ≡ whole → StatusOf o.max_parallelism out whole rest (status.Input line kind) → WroteLawful (Some o) out bytes (Fault line kind)
  input_says line kind (BadProgram l k) e h = absurd h
  input_says line kind (Runs p s) e (ends, (written, lawful, grown)) = record { options = o; accepted = refl; program = p; stream = s; says = e; ends = ends; written = written; lawful = lawful; grown = grown }

pub ok_wrote : (asked : Option Options) (s : Streams) (bytes rest : List ℕ) → s.left ≡ Some bytes → s.left_behind ≡ Some rest → Leaves asked s status.Ok → WroteLawful asked s.out bytes Clean × (rest ≡ [])
unfolding IsOfRun
ok_wrote None s bytes rest known behind h = absurd (not_refused status.Ok tt (h.refused refl))
ok_wrote (Some o) s bytes rest known behind h = ok_says o s.out bytes rest (parse bytes) refl (of_told (λ a b. StatusOf o.max_parallelism s.out (parse a) b status.Ok) known behind h.told)

pub input_wrote : (asked : Option Options) (s : Streams) (bytes rest : List ℕ) (line kind : ℕ) → s.left ≡ Some bytes → s.left_behind ≡ Some rest → Leaves asked s (status.Input line kind) → WroteLawful asked s.out bytes (Fault line kind)
unfolding IsOfRun
input_wrote None s bytes rest line kind known behind h = absurd (not_refused (status.Input line kind) tt (h.refused refl))
input_wrote (Some o) s bytes rest line kind known behind h = input_says o s.out bytes rest line kind (parse bytes) refl (of_told (λ a b. StatusOf o.max_parallelism s.out (parse a) b (status.Input line kind)) known behind h.told)

program_says : (m : ℕ) (out : Holds) (bytes rest : List ℕ) (line kind : ℕ) (whole : Parsed) → parse bytes ≡ whole → StatusOf m out whole rest (status.Program line kind) → WroteNothing out bytes line kind
program_says m out bytes rest line kind (BadProgram l k) e (same_line, same_kind, grown) = record {
  says = subst (λ (n : ℕ). parse bytes ≡ BadProgram line n) same_kind (subst (λ (n : ℕ). parse bytes ≡ BadProgram n k) same_line e);
  same = grown;
}
program_says m out bytes rest line kind (Runs p s) e h = absurd h

pub program_wrote : (asked : Option Options) (s : Streams) (bytes rest : List ℕ) (line kind : ℕ) → s.left ≡ Some bytes → s.left_behind ≡ Some rest → Leaves asked s (status.Program line kind) → WroteNothing s.out bytes line kind
unfolding IsOfRun
program_wrote None s bytes rest line kind known behind h = absurd (not_refused (status.Program line kind) tt (h.refused refl))
program_wrote (Some o) s bytes rest line kind known behind h = program_says o.max_parallelism s.out bytes rest line kind (parse bytes) refl (of_told (λ a b. StatusOf o.max_parallelism s.out (parse a) b (status.Program line kind)) known behind h.told)

pub read_wrote_all : (asked : Option Options) (s : Streams) (bytes rest : List ℕ) → s.left ≡ Some bytes → s.left_behind ≡ Some rest → Leaves asked s status.Read → WroteAllThatWasRead asked s.out bytes rest
unfolding IsOfRun
read_wrote_all None s bytes rest known behind h = absurd (not_refused status.Read tt (h.refused refl))
read_wrote_all (Some o) s bytes rest known behind h = record {
  options = o;
  accepted = refl;
  lines = read_wrote o.max_parallelism true s.out bytes rest (of_told (λ a b. StatusStops o.max_parallelism s.out a b status.Read) known behind h.stopped);
}

pub write_wrote_some : (asked : Option Options) (s : Streams) (bytes rest : List ℕ) → s.left ≡ Some bytes → s.left_behind ≡ Some rest → Leaves asked s status.Write → WroteSome asked s.out bytes rest
unfolding IsOfRun
write_wrote_some None s bytes rest known behind h = absurd (not_refused status.Write tt (h.refused refl))
write_wrote_some (Some o) s bytes rest known behind h = record {
  options = o;
  accepted = refl;
  lines = write_wrote o.max_parallelism true s.out bytes rest (of_told (λ a b. StatusStops o.max_parallelism s.out a b status.Write) known behind h.stopped);
}

events_say : (bytes : List ℕ) (p : _) (s : Stream) (e : Ending) → parse bytes ≡ Runs p s → s.ending ≡ e → Says bytes (status_at e)
events_say bytes p s Clean says ends = SaysEvents p s says ends
events_say bytes p s (Fault line kind) says ends = SaysInputFault p s line kind says ends

named_says : (bytes : List ℕ) (whole : Parsed) → parse bytes ≡ whole → Says bytes (status_named whole)
named_says bytes (BadProgram line kind) e = SaysProgramFault line kind e
named_says bytes (Runs p s) e = events_say bytes p s s.ending e refl

named_ends : (bytes : List ℕ) (t : Status) → IsNamed (parse bytes) t → (t ≡ status.NoMemory) ⊎ Says bytes t
named_ends bytes t (inl short) = inl short
named_ends bytes t (inr e) = inr (subst (λ (u : Status). Says bytes u) (sym e) (named_says bytes (parse bytes) refl))

pub ends_as_said : (options : Options) (s : Streams) (bytes rest : List ℕ) (t : Status) → s.left ≡ Some bytes → s.left_behind ≡ Some rest
    → s.counts_behind.reads ≡ s.counts.reads → s.counts.reads < 2 ^ 64 - 1
    → s.counts_behind.writes.faults ≡ s.counts.writes.faults → s.counts.writes.faults < 2 ^ 64 - 1
    → Leaves (Some options) s t → (t ≡ status.NoMemory) ⊎ Says bytes t
ends_as_said options s bytes rest t known behind reads few writes few_too h =
    named_ends bytes t (of_told (λ a b. IsNamed (parse a) t) known behind
    (h.complete tt (sym reads, subst (λ (n : ℕ). n < 2 ^ 64 - 1) (sym reads) few) (sym writes, subst (λ (n : ℕ). n < 2 ^ 64 - 1) (sym writes) few_too)))
