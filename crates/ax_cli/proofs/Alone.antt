-- What is left without a run.
use Rattle.std.proofs.Common.{◌≡◌, ℕ, inl, inr, List, Option, Some, None, refl, sym, subst}
use Rattle.ax_task.proofs.Gathering.{keeps_refl}
use Rattle.ax_base.specs.Outside.{Counts, Told}
use Rattle.ax_task.specs.Parse.{Parsed, BadProgram, Runs, parse}
use Rattle.ax_task.specs.Clause.{Holds, RunCounts}
use Rattle.ax_task.proofs.Stopped.{stop_start}
use Rattle.ax_words.specs.declared.options.Options.{Options}
use Rattle.ax_cli.specs.Status.{groups_by, AreAccepted, serial, StatusOf, IsRefused, IsNamed, IsProgramNamed, Streams, Leaves}
use Rattle.ax_cli.specs.FaultLine.{WritesLine, line_of}
use Rattle.ax_cli.specs.declared.status.Status.{Status}
use Rattle.ax_cli.specs.declared.status.Status.TheVariants as status

IsUsage : Status → Type 0
IsUsage status.Usage = Unit {0}
IsUsage s = ⊥

apart : status.NoMemory ≡ status.Usage → ⊥
unfolding IsUsage
apart e = subst IsUsage (sym e) tt

told_same : (P : List ℕ → List ℕ → Type 0) (l : Option (List ℕ)) → ((a : List ℕ) → P a a) → Told l l P
told_same P None h = tt
told_same P (Some a) h = h a

module _ (asked : Option Options) (l h : Option (List ℕ)) (counts : RunCounts) (err : Holds) (before now : Counts) where
  abbrev pub untouched : Streams
  untouched = record {
    left = l;
    left_behind = l;
    out = record { old = h; new = h };
    counts = counts;
    counts_behind = counts;
    err = err;
    err_counts = before;
    err_counts_behind = now;
  }

  short_of : (whole : Parsed) (left : List ℕ) → StatusOf (groups_by asked) (record { old = h; new = h }) whole left status.NoMemory
  short_of (BadProgram line kind) left = tt
  short_of (Runs p s) left = tt

  short_named : (whole : Parsed) → IsProgramNamed whole status.NoMemory
  short_named (BadProgram line kind) = inl refl
  short_named (Runs p s) = tt

  leaves_short : WritesLine err before now (line_of status.NoMemory) → Leaves asked untouched status.NoMemory
  leaves_short line = record {
    usage = λ e. absurd (apart e);
    refused = λ e. inl refl;
    untouched = λ e. (keeps_refl l, keeps_refl h, (refl, refl));
    told = told_same (λ a b. StatusOf (groups_by asked) (record { old = h; new = h }) (parse a) b status.NoMemory) l (λ a. short_of (parse a) a);
    stopped = stop_start (groups_by asked) serial l h;
    counts = (inl refl, refl, inl refl);
    complete = λ u r w. told_same (λ a b. IsNamed (parse a) status.NoMemory) l (λ a. inl refl);
    no_program = λ u r. told_same (λ a b. IsProgramNamed (parse a) status.NoMemory) l (λ a. short_named (parse a));
    line = line;
  }

  leaves_usage : asked ≡ None → WritesLine err before now (line_of status.Usage) → Leaves asked untouched status.Usage
  leaves_usage none line = record {
    usage = λ e. none;
    refused = λ e. inr refl;
    untouched = λ e. (keeps_refl l, keeps_refl h, (refl, refl));
    told = told_same (λ a b. Unit {0}) l (λ a. tt);
    stopped = told_same (λ a b. Unit {0}) l (λ a. tt);
    counts = (refl, refl);
    complete = λ u r w. absurd (subst (λ (o : Option Options). AreAccepted o) none u);
    no_program = λ u r. absurd (subst (λ (o : Option Options). AreAccepted o) none u);
    line = line;
  }

  -- a status without a run
  pub leaves_alone : (s : Status) → (s ≡ status.Usage → asked ≡ None) → IsRefused s → WritesLine err before now (line_of s) → Leaves asked untouched s
  leaves_alone s usage (inl e) line =
      let P : Status → Type 0 = λ t. WritesLine err before now (line_of t) → Leaves asked untouched t in
      subst P (sym e) leaves_short line
  leaves_alone s usage (inr e) line =
      let P : Status → Type 0 = λ t. WritesLine err before now (line_of t) → Leaves asked untouched t in
      subst P (sym e) (leaves_usage (usage e)) line

-- what is left where the words ask for the same
pub moved : {asked other : Option Options} {s : Streams} {t : Status} → asked ≡ other → Leaves other s t → Leaves asked s t
moved {asked} {other} {s} {t} e h = subst (λ (o : Option Options). Leaves o s t) (sym e) h
