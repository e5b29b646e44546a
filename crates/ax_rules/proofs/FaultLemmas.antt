-- A line without fault, and what is said behind it.
use Rattle.std.proofs.Common.{◌≡◌, ◌∙◌, ap, sym, refl, ℕ, ◌<◌, List, ◌∷◌, Bool, true, false, ◌&&◌, ◌||◌, nat_le, Option, Some, None, if◌then◌else◌, Result, Ok, Err, IfOk}
use Rattle.std.proofs.lemmas.Bool.{leb-false, true≢false, false≢true}
use Rattle.ax_base.specs.declared.outside.NoMemory.{NoMemory}
use Rattle.ax_syntax.specs.Shapes.{Shape}
use Rattle.ax_rules.specs.declared.kinds.FaultKind.{FaultKind}
use Rattle.ax_rules.specs.declared.kinds.FaultKind.TheVariants as fault
use Rattle.ax_rules.specs.declared.blocks.Frame.{Frame}
use Rattle.ax_rules.specs.declared.blocks.Print.{Print}
use Rattle.ax_rules.specs.declared.tables.Tables.{Tables}
use Rattle.ax_rules.specs.Parts.{is_statement}
use Rattle.ax_rules.specs.Frames.{has_conflict}
use Rattle.ax_rules.specs.Lines.{tables_of}
use Rattle.ax_rules.specs.Faults.{is_too_many, is_loud_in_arm, block_fault, is_too_wide, print_in, fault_in, fault_by}
use Rattle.ax_rules.specs.Taking.{behind, Steps}

pub passed : (b : Bool) (k : FaultKind) (o : Option FaultKind) → (if b then Some k else o) ≡ None → (b ≡ false) × (o ≡ None)
passed true k o h = cc
passed false k o h = (refl, h)

or_first : (a b : Bool) → (a || b) ≡ false → a ≡ false
or_first true b h = h
or_first false b h = refl

few : (b : Bool) (n : ℕ) → (b && nat_le 10000 n) ≡ false → b ≡ true → n < 10000
few true n h e = cases (nat_le 10000 n) refl where
  cases : (c : Bool) → nat_le 10000 n ≡ c → n < 10000
  cases true g = absurd (true≢false (sym g ∙ h))
  cases false g = leb-false 10000 n g
few false n h e = absurd (false≢true e)

pub room : (t : Tables) (s : Shape) → is_too_many t s ≡ false → is_statement s ≡ true → t.statements < 10000
unfolding is_too_many
room t s h e = few (is_statement s) t.statements (or_first _ _ h) e

pub not_wide : (p : Print) (s : Shape) (fs : List Frame) → block_fault p s fs ≡ None → is_too_wide s fs ≡ false
unfolding block_fault
not_wide p s fs h =
    let silent = passed (is_loud_in_arm s fs) fault.InArm _ h in
    let apart = passed (has_conflict p fs) fault.Conflict _ silent.1 in
    (passed (is_too_wide s fs) fault.TooWide None apart.1).0

-- what the lines with one more say together
pub behind_line : (s : Shape) (ls : List Shape) → tables_of (s ∷ ls) ≡ behind s (tables_of ls)
unfolding tables_of behind print_in
behind_line s ls = refl

pub told : (before : List Shape) (s : Shape) (t t' : Tables) (r : Result (Option FaultKind) NoMemory) → t ≡ tables_of before → Steps t (Some s) t' r → IfOk r (λ (o : Option FaultKind). o ≡ fault_by before s)
unfolding fault_by
told before s t t' (Ok None) e h = sym (ap (λ (u : Tables). fault_in u s) (sym e) ∙ h.0)
told before s t t' (Ok (Some found)) e h = sym (ap (λ (u : Tables). fault_in u s) (sym e) ∙ h)
told before s t t' (Err x) e h = tt

pub taken : (before : List Shape) (s : Shape) (t t' : Tables) (r : Result (Option FaultKind) NoMemory) → t ≡ tables_of before → Steps t (Some s) t' r → r ≡ Ok None → t' ≡ tables_of (s ∷ before)
taken before s t t' (Ok None) e h is = h.1 ∙ (ap (behind s) e ∙ sym (behind_line s before))
taken before s t t' (Ok (Some found)) e h is = cc
taken before s t t' (Err x) e h is = cc
