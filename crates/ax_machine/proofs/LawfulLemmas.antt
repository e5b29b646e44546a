-- A list is lawful for itself, and so is a list with the same lines and cuts.
use Rattle.std.proofs.Common.{◌≡◌, ℕ, List, [], ◌∷◌, Bool, refl, ap, subst, arith}
use Rattle.ax_machine.specs.Entries.{Key, Entry, lines_of}
use Rattle.ax_machine.specs.Lawful.{Cut, cuts, markers, HasAll, HasNoMore, line_count, Lawful}

has_all_itself : (cs : List Cut) → HasAll cs cs
has_all_itself [] = tt
has_all_itself (c ∷ cs) = (λ k. omega arith, has_all_itself cs)

has_no_more_itself : (serial : Bool) (all : Key → ℕ) (cs : List Cut) → HasNoMore serial all cs cs
has_no_more_itself serial all [] = tt
has_no_more_itself serial all (c ∷ cs) = (λ s k. omega arith, has_no_more_itself serial all cs)

pub same_cuts_lawful : (serial : Bool) (written plain : List Entry) → ((k : Key) → lines_of k written ≡ lines_of k plain) → cuts written ≡ cuts plain → Lawful serial written plain
same_cuts_lawful serial written plain lines same =
    let AllOf : List Cut → Type 0 = HasAll (cuts written) in
    let NoMoreOf : List Cut → Type 0 = HasNoMore serial (line_count written) (cuts written) in
    record {
      lines = lines;
      markers = ap markers same;
      has_all = subst AllOf same (has_all_itself (cuts written));
      has_no_more = subst NoMoreOf same (has_no_more_itself serial (line_count written) (cuts written));
    }

pub lawful_itself : (serial : Bool) (entries : List Entry) → Lawful serial entries entries
lawful_itself serial entries = same_cuts_lawful serial entries entries (λ k. refl) refl
