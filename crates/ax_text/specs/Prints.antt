-- What lines touch, and which texts are accepted: the arms of each `both` are silent and apart.
use Rattle.std.specs.Prelude.{ℕ, List, [], ◌∷◌, ◌++◌, Bool, true, false, not, ◌&&◌, ◌||◌, nat_eq}
use Rattle.ax_text.specs.declared.vocabulary.Atom.{Atom}
use Rattle.ax_text.specs.declared.vocabulary.Atom.TheVariants as atom
use Rattle.ax_text.specs.Exprs.{Expr, Leaf, Join}
use Rattle.ax_text.specs.Texts.{Quiet, Let, Emit, Timer, Untimer, Asking, Get, GetAt, Has, Empty, Put, PutAt, PutAll, Add, Remove, Clear, Loop, Items, Entries, Text, Stop, Act, Ask, If, Each, Both}

-- what one line touches
pub record Print : Type 0 where
  -- the local names that it assigns, and those that its expressions read
  pub sets : List ℕ
  pub reads : List ℕ
  -- the states that it changes, and those that it only looks at
  pub changes : List ℕ
  pub gets : List ℕ
  -- whether it writes a line, or sets a timer or takes one off
  pub loud : Bool

abbrev pub name_in : Atom → List ℕ
name_in (atom.Name i) = i ∷ []
name_in _ = []

abbrev pub names_in : Expr → List ℕ
names_in (Leaf a) = name_in a
names_in (Join o a b) = names_in a ++ names_in b

abbrev pub names_in_all : List Expr → List ℕ
names_in_all [] = []
names_in_all (e ∷ es) = names_in e ++ names_in_all es

abbrev pub print : List ℕ → List ℕ → List ℕ → List ℕ → Bool → Print
print sets reads changes gets loud = record { sets = sets; reads = reads; changes = changes; gets = gets; loud = loud }

abbrev pub quiet_print : Quiet → Print
quiet_print (Let name e) = print (name ∷ []) (names_in e) [] [] false
quiet_print (Emit values) = print [] (names_in_all values) [] [] true
quiet_print (Timer time) = print [] (names_in time) [] [] true
quiet_print (Untimer time) = print [] (names_in time) [] [] true

-- a line that reads a state, and one that changes it
abbrev pub getting : ℕ → ℕ → List ℕ → Print
getting name state reads = print (name ∷ []) reads [] (state ∷ []) false

abbrev pub changing : ℕ → List ℕ → Print
changing state reads = print [] reads (state ∷ []) [] false

abbrev pub asking_print : Asking → Print
asking_print (Get name state missing) = getting name state (names_in missing)
asking_print (GetAt name state place missing) = getting name state (names_in place ++ names_in missing)
asking_print (Has name state place) = getting name state (names_in place)
asking_print (Empty name state) = getting name state []
asking_print (Put state number) = changing state (names_in number)
asking_print (PutAt state place number) = changing state (names_in place ++ names_in number)
asking_print (PutAll state numbers) = changing state (names_in_all numbers)
asking_print (Add state number) = changing state (names_in number)
asking_print (Remove state place) = changing state (names_in place)
asking_print (Clear state) = changing state []

abbrev pub loop_print : Loop → Print
loop_print (Items name state) = print (name ∷ []) [] [] (state ∷ []) false
loop_print (Entries key number state) = print (key ∷ number ∷ []) [] [] (state ∷ []) false

abbrev pub test_print : Expr → Print
test_print e = print [] (names_in e) [] [] false

-- what the lines of a text touch
abbrev pub prints : Text → List Print
prints Stop = []
prints (Act q t) = quiet_print q ∷ prints t
prints (Ask a t) = asking_print a ∷ prints t
prints (If e a b t) = test_print e ∷ (prints a ++ (prints b ++ prints t))
prints (Each l body t) = loop_print l ∷ (prints body ++ prints t)
prints (Both a b t) = prints a ++ (prints b ++ prints t)

abbrev pub has : ℕ → List ℕ → Bool
has i [] = false
has i (j ∷ js) = nat_eq i j || has i js

abbrev pub meet : List ℕ → List ℕ → Bool
meet [] js = false
meet (i ∷ is) js = has i js || meet is js

-- one writes what the other writes or reads
abbrev pub collide : List ℕ → List ℕ → List ℕ → List ℕ → Bool
collide writes reads writes' reads' = meet writes writes' || (meet writes reads' || meet reads writes')

-- one assigns a local name that the other assigns or reads, or one changes a state that the other uses
abbrev pub clash : Print → Print → Bool
clash p q = collide p.sets p.reads q.sets q.reads || collide p.changes p.gets q.changes q.gets

abbrev pub are_silent : List Print → Bool
are_silent [] = true
are_silent (p ∷ ps) = not p.loud && are_silent ps

-- a line of a second arm, with the lines of the first
abbrev pub is_apart : List Print → Print → Bool
is_apart [] q = true
is_apart (p ∷ ps) q = not (clash p q) && is_apart ps q

abbrev pub are_apart : List Print → List Print → Bool
are_apart ps [] = true
are_apart ps (q ∷ qs) = is_apart ps q && are_apart ps qs

unfoldable pub is_accepted : Text → Bool
is_accepted Stop = true
is_accepted (Act q t) = is_accepted t
is_accepted (Ask a t) = is_accepted t
is_accepted (If e a b t) = is_accepted a && (is_accepted b && is_accepted t)
is_accepted (Each l body t) = is_accepted body && is_accepted t
is_accepted (Both a b t) = (are_silent (prints a) && are_silent (prints b)) && (are_apart (prints a) (prints b) && (is_accepted a && (is_accepted b && is_accepted t)))
