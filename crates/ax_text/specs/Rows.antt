-- The lines of a handler in their order, the text that they make, and how wide it is.
use Rattle.std.specs.Prelude.{◌≡◌, ℕ, ◌+◌, max, List, [], ◌∷◌, map, Bool, true, false, not, ◌&&◌}
use Rattle.ax_text.specs.Exprs.{Expr}
use Rattle.ax_text.specs.Texts.{Quiet, Asking, Loop, Text, Stop, Act, Ask, If, Each, Both}
use Rattle.ax_text.specs.Prints.{Print, quiet_print, asking_print, loop_print, test_print, is_apart, is_accepted}

pub data HandlerLine : Type 0 where
  ActLine : (quiet : Quiet) → HandlerLine
  AskLine : (asking : Asking) → HandlerLine
  IfLine : (test : Expr) → HandlerLine
  EachLine : (loop : Loop) → HandlerLine
  BothLine : HandlerLine
  -- `else`, or `with`
  SecondLine : HandlerLine
  EndLine : HandlerLine

-- what is left of a block's part, and the block's second part
pub record Level : Type 0 where
  pub text : Text
  pub second : Text

abbrev pub level : Text → Text → Level
level text second = record { text = text; second = second }

abbrev pub top : List Level → Level
top [] = level Stop Stop
top (l ∷ ls) = l

abbrev pub below : List Level → List Level
below [] = []
below (l ∷ ls) = ls

abbrev pub with_text : Text → List Level → List Level
with_text t ls = level t (top ls).second ∷ below ls

abbrev pub before : HandlerLine → List Level → List Level
before (ActLine q) ls = with_text (Act q (top ls).text) ls
before (AskLine a) ls = with_text (Ask a (top ls).text) ls
before (IfLine e) ls = with_text (If e (top ls).text (top ls).second (top (below ls)).text) (below ls)
before (EachLine l) ls = with_text (Each l (top ls).text (top (below ls)).text) (below ls)
before BothLine ls = with_text (Both (top ls).text (top ls).second (top (below ls)).text) (below ls)
before SecondLine ls = level Stop (top ls).text ∷ below ls
before EndLine ls = level Stop Stop ∷ ls

abbrev pub levels_of : List HandlerLine → List Level
levels_of [] = []
levels_of (r ∷ rs) = before r (levels_of rs)

unfoldable pub text_of : List HandlerLine → Text
text_of rows = (top (levels_of rows)).text

-- which part of which block is open
pub data Part : Type 0 where
  Yes' : Part
  No' : Part
  Body : Part
  One : Part
  Two : Part

-- the open blocks, the innermost first: how wide the first part was, and how wide this part is so far
pub record Wide : Type 0 where
  pub part : Part
  pub first : ℕ
  pub now : ℕ

abbrev pub wide : Part → ℕ → ℕ → Wide
wide p first now = record { part = p; first = first; now = now }

abbrev pub raised : ℕ → List Wide → List Wide
raised n [] = []
raised n (b ∷ bs) = wide b.part b.first (max b.now n) ∷ bs

abbrev pub other : Part → Part
other Yes' = No'
other One = Two
other p = p

abbrev pub block_width : Part → ℕ → ℕ → ℕ
block_width Yes' first now = now
block_width One first now = now
block_width Two first now = first + now
block_width p first now = max first now

abbrev pub closed : List Wide → List Wide
closed [] = []
closed (b ∷ []) = b ∷ []
closed (b ∷ c ∷ bs) = raised (block_width b.part b.first b.now) (c ∷ bs)

abbrev pub turned : List Wide → List Wide
turned [] = []
turned (b ∷ bs) = wide (other b.part) b.now 0 ∷ bs

abbrev pub widened : HandlerLine → List Wide → List Wide
widened (ActLine q) bs = bs
widened (AskLine a) bs = raised 1 bs
widened (IfLine e) bs = wide Yes' 0 0 ∷ bs
widened (EachLine l) bs = wide Body 0 1 ∷ bs
widened BothLine bs = wide One 0 0 ∷ bs
widened SecondLine bs = turned bs
widened EndLine bs = closed bs

abbrev pub widened_by : List HandlerLine → List Wide → List Wide
widened_by [] bs = bs
widened_by (r ∷ rs) bs = widened_by rs (widened r bs)

-- `else` and `with` stand only where a block's second part is to come
abbrev pub has_second : Part → Bool
has_second Yes' = true
has_second One = true
has_second p = false

abbrev pub can_turn : List Wide → Bool
can_turn [] = false
can_turn (b ∷ []) = false
can_turn (b ∷ c ∷ bs) = has_second b.part

-- an `end` closes a block, but the last one
abbrev pub can_close : List Wide → Bool
can_close [] = false
can_close (b ∷ []) = false
can_close (b ∷ c ∷ bs) = true

abbrev pub may_follow : HandlerLine → List Wide → Bool
may_follow r [] = false
may_follow SecondLine (b ∷ bs) = can_turn (b ∷ bs)
may_follow EndLine (b ∷ bs) = can_close (b ∷ bs)
may_follow r (b ∷ bs) = true

abbrev pub follow : List HandlerLine → List Wide → Bool
follow [] bs = not (can_close bs)
follow (r ∷ rs) bs = may_follow r bs && follow rs (widened r bs)

abbrev pub now_of : List Wide → ℕ
now_of [] = 0
now_of (b ∷ bs) = b.now

-- what the open blocks have done: their first part, and this part so far
pub record Lines : Type 0 where
  pub part : Part
  pub first : List Print
  pub this : List Print

abbrev pub part_ok : Part → Print → List Print → Bool
part_ok One p first = not p.loud
part_ok Two p first = not p.loud && is_apart first p
part_ok _ p first = true

-- a line inside these blocks: it is silent in an arm, and in a second arm it doesn't clash with the first
abbrev pub row_ok : Print → List Lines → Bool
row_ok p [] = true
row_ok p (b ∷ bs) = part_ok b.part p b.first && row_ok p bs

abbrev pub note : Print → Lines → Lines
note p b = record { part = b.part; first = b.first; this = p ∷ b.this }

abbrev pub new : Part → Lines
new a = record { part = a; first = []; this = [] }

abbrev pub turned_lines : List Lines → List Lines
turned_lines [] = []
turned_lines (b ∷ bs) = record { part = other b.part; first = b.this; this = [] } ∷ bs

abbrev pub closed_lines : List Lines → List Lines
closed_lines [] = []
closed_lines (b ∷ bs) = bs

abbrev pub all_ok : List HandlerLine → List Lines → Bool
all_ok [] bs = true
all_ok (ActLine q ∷ rs) bs = row_ok (quiet_print q) bs && all_ok rs (map (note (quiet_print q)) bs)
all_ok (AskLine a ∷ rs) bs = row_ok (asking_print a) bs && all_ok rs (map (note (asking_print a)) bs)
all_ok (IfLine e ∷ rs) bs = row_ok (test_print e) bs && all_ok rs (new Yes' ∷ map (note (test_print e)) bs)
all_ok (EachLine l ∷ rs) bs = row_ok (loop_print l) bs && all_ok rs (new Body ∷ map (note (loop_print l)) bs)
all_ok (BothLine ∷ rs) bs = all_ok rs (new One ∷ bs)
all_ok (SecondLine ∷ rs) bs = all_ok rs (turned_lines bs)
all_ok (EndLine ∷ rs) bs = all_ok rs (closed_lines bs)

abbrev pub IsAccepted : List HandlerLine → Type 0
IsAccepted rows = all_ok rows [] ≡ true → is_accepted (text_of rows) ≡ true

-- and of well-formed lines only those that pass the tests
abbrev pub IsTested : List HandlerLine → Type 0
IsTested rows = follow rows (wide Body 0 0 ∷ []) ≡ true → is_accepted (text_of rows) ≡ true → all_ok rows [] ≡ true
