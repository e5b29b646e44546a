-- What a text may touch, and when two arms are apart.
use Rattle.std.specs.Prelude.{◌≡◌, ℕ, List, [], ◌∷◌, Bool, true, false}
use Rattle.ax_text.specs.declared.vocabulary.Request.{Request}
use Rattle.ax_text.specs.Cells.{state_of, changes}
use Rattle.ax_text.specs.Run.{After, Assign, Ignore}
use Rattle.ax_text.specs.Texts.{Text, Stop, Act, Ask, If, Each, Both}
use Rattle.ax_text.specs.Prints.{Print, quiet_print, asking_print, loop_print, test_print}
use Rattle.ax_text.specs.Controls.{Frame, Rest, Turns, Cursor, Next, Take, Begin, Control, Done, Wait, Arms}

pub record Footprint : Type 0 where
  -- the local names that are read or assigned, and those that are assigned
  pub reads : ℕ → Bool
  pub sets : ℕ → Bool
  -- the states that are used or changed, and those that are changed
  pub uses : ℕ → Bool
  pub changes : ℕ → Bool
  -- whether lines may be written and timers set
  pub speaks : Bool
  pub sets_read : (n : ℕ) → sets n ≡ true → reads n ≡ true
  pub changes_used : (s : ℕ) → changes s ≡ true → uses s ≡ true

pub record IsWithin (G F : Footprint) : Type 0 where
  pub reads : (n : ℕ) → G.reads n ≡ true → F.reads n ≡ true
  pub sets : (n : ℕ) → G.sets n ≡ true → F.sets n ≡ true
  pub uses : (s : ℕ) → G.uses s ≡ true → F.uses s ≡ true
  pub changes : (s : ℕ) → G.changes s ≡ true → F.changes s ≡ true
  pub speaks : G.speaks ≡ true → F.speaks ≡ true

pub record IsApart (G H : Footprint) : Type 0 where
  pub one_quiet : G.speaks ≡ false
  pub two_quiet : H.speaks ≡ false
  pub names_one : (n : ℕ) → G.sets n ≡ true → H.reads n ≡ false
  pub names_two : (n : ℕ) → H.sets n ≡ true → G.reads n ≡ false
  pub states_one : (s : ℕ) → G.changes s ≡ true → H.uses s ≡ false
  pub states_two : (s : ℕ) → H.changes s ≡ true → G.uses s ≡ false

pub record AreArms (G H F : Footprint) : Type 0 where
  pub one : IsWithin G F
  pub two : IsWithin H F
  pub apart : IsApart G H

abbrev pub AllIn : List ℕ → (ℕ → Bool) → Type 0
AllIn [] P = Unit {0}
AllIn (i ∷ is) P = (P i ≡ true) × AllIn is P

pub record LineFits (p : Print) (F : Footprint) : Type 0 where
  pub sets : AllIn p.sets F.sets
  pub reads : AllIn p.reads F.reads
  pub changes : AllIn p.changes F.changes
  pub gets : AllIn p.gets F.uses
  pub speaks : p.loud ≡ true → F.speaks ≡ true

abbrev pub Fits : Text → Footprint → Type 0
Fits Stop F = Unit {0}
Fits (Act q t) F = LineFits (quiet_print q) F × Fits t F
Fits (Ask a t) F = LineFits (asking_print a) F × Fits t F
Fits (If e a b t) F = LineFits (test_print e) F × Fits a F × Fits b F × Fits t F
Fits (Each l body t) F = LineFits (loop_print l) F × Fits body F × Fits t F
Fits (Both a b t) F = (G : Footprint) × (H : Footprint) × AreArms G H F × Fits a G × Fits b H × Fits t F

abbrev pub FrameFits : Frame → Footprint → Type 0
FrameFits (Rest t) F = Fits t F
FrameFits (Turns l ps body) F = LineFits (loop_print l) F × Fits body F

abbrev pub CursorFits : Cursor → Footprint → Type 0
CursorFits [] F = Unit {0}
CursorFits (x ∷ k) F = FrameFits x F × CursorFits k F

abbrev pub RequestFits : Request → Footprint → Type 0
RequestFits r F = (F.uses (state_of r) ≡ true) × (changes r ≡ true → F.changes (state_of r) ≡ true)

abbrev pub AfterFits : After → Footprint → Type 0
AfterFits (Assign name missing) F = F.sets name ≡ true
AfterFits Ignore F = Unit {0}

abbrev pub NextFits : Next → Footprint → Type 0
NextFits (Take after) F = AfterFits after F
NextFits (Begin l body) F = LineFits (loop_print l) F × Fits body F

abbrev pub ControlFits : Control → Footprint → Type 0
ControlFits Done F = Unit {0}
ControlFits (Wait s r n k) F = RequestFits r F × NextFits n F × CursorFits k F
ControlFits (Arms one two k) F = (G : Footprint) × (H : Footprint) × AreArms G H F × ControlFits one G × ControlFits two H × CursorFits k F
