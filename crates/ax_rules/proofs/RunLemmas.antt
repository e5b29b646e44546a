-- A handler's rows one after another, beside the open blocks of its lines.
use Rattle.std.proofs.Common.{◌≡◌, ◌∙◌, ℕ, ◌+◌, ◌≤◌, max, List, [], ◌∷◌, ◌++◌, map, refl, sym, ap, subst, Bool, true, false, not, ◌&&◌, nat_lt, Option, Some, None, arith}
use Rattle.std.specs.List.{list_any}
use Rattle.std.proofs.lemmas.Bool.{and_parts, and_from, false≢true, ltb-false}
use Rattle.ax_text.specs.Prints.{Print as RowPrint, quiet_print, asking_print, loop_print, test_print}
use Rattle.ax_text.specs.Rows.{HandlerLine, ActLine, AskLine, IfLine, EachLine, BothLine, SecondLine, EndLine, Wide, widened, widened_by, may_follow, can_close, follow, now_of, Lines, row_ok, all_ok}
use Rattle.ax_syntax.specs.Shapes.{Shape, Input, State, OnRow, OnTimer, End, If, Else, Each, EachPair, Both, With}
use Rattle.ax_rules.specs.declared.blocks.Part.{Part}
use Rattle.ax_rules.specs.declared.blocks.Part.TheVariants as part
use Rattle.ax_rules.specs.declared.blocks.Print.{Print}
use Rattle.ax_rules.specs.declared.blocks.Frame.{Frame}
use Rattle.ax_rules.specs.Parts.{is_loud, use_of}
use Rattle.ax_rules.specs.Frames.{is_two, is_arm, has_conflict, frames_with, note, raised, turned, closed, opened, asked, block_width, width_by, top_is_wide, top_width}
use Rattle.ax_rules.specs.Faults.{is_loud_in_arm, is_too_wide}
use Rattle.ax_rules.specs.Laws.{wide_in, makes}
use Rattle.ax_rules.specs.Alike.{quiet, AllHold, lines_with, print_for}
use Rattle.ax_rules.specs.Handlers.{row_print, IsRowOf, handler}
use Rattle.ax_rules.proofs.AlikeLemmas.{passes_alike}
use Rattle.ax_rules.proofs.StayLemmas.{stays_alike}
use Rattle.ax_rules.proofs.WidthLemmas.{widens_alike}

-- the rule of arms for one row
abbrev row_passes : HandlerLine → List Lines → Bool
row_passes (ActLine q) bs = row_ok (quiet_print q) bs
row_passes (AskLine a) bs = row_ok (asking_print a) bs
row_passes (IfLine e) bs = row_ok (test_print e) bs
row_passes (EachLine l) bs = row_ok (loop_print l) bs
row_passes BothLine bs = true
row_passes SecondLine bs = true
row_passes EndLine bs = true

abbrev pub lines_by : List HandlerLine → List Lines → List Lines
lines_by [] bs = bs
lines_by (r ∷ rs) bs = lines_by rs (lines_with r (row_print r) bs)

lines_more : (rs : List HandlerLine) (r : HandlerLine) (bs : List Lines) → lines_by (rs ++ r ∷ []) bs ≡ lines_with r (row_print r) (lines_by rs bs)
lines_more [] r bs = refl
lines_more (q ∷ rs) r bs = lines_more rs r (lines_with q (row_print q) bs)

ok_one : (r : HandlerLine) (bs : List Lines) → row_passes r bs ≡ true → all_ok (r ∷ []) bs ≡ true
ok_one (ActLine q) bs h = and_from (row_ok (quiet_print q) bs) true h refl
ok_one (AskLine a) bs h = and_from (row_ok (asking_print a) bs) true h refl
ok_one (IfLine e) bs h = and_from (row_ok (test_print e) bs) true h refl
ok_one (EachLine l) bs h = and_from (row_ok (loop_print l) bs) true h refl
ok_one BothLine bs h = refl
ok_one SecondLine bs h = refl
ok_one EndLine bs h = refl

second_of : (a b c : Bool) → (a && b) ≡ true → (b ≡ true → c ≡ true) → (a && c) ≡ true
second_of a b c h g = let p = and_parts a b h in and_from a c p.0 (g p.1)

ok_more : (rs : List HandlerLine) (r : HandlerLine) (bs : List Lines) → all_ok rs bs ≡ true → row_passes r (lines_by rs bs) ≡ true → all_ok (rs ++ r ∷ []) bs ≡ true
ok_more [] r bs h g = ok_one r bs g
ok_more (ActLine q ∷ rs) r bs h g = second_of (row_ok (quiet_print q) bs) _ _ h (λ k. ok_more rs r _ k g)
ok_more (AskLine a ∷ rs) r bs h g = second_of (row_ok (asking_print a) bs) _ _ h (λ k. ok_more rs r _ k g)
ok_more (IfLine e ∷ rs) r bs h g = second_of (row_ok (test_print e) bs) _ _ h (λ k. ok_more rs r _ k g)
ok_more (EachLine l ∷ rs) r bs h g = second_of (row_ok (loop_print l) bs) _ _ h (λ k. ok_more rs r _ k g)
ok_more (BothLine ∷ rs) r bs h g = ok_more rs r _ h g
ok_more (SecondLine ∷ rs) r bs h g = ok_more rs r _ h g
ok_more (EndLine ∷ rs) r bs h g = ok_more rs r _ h g

-- each row may follow those before it
abbrev pub all_follow : List HandlerLine → List Wide → Bool
all_follow [] bs = true
all_follow (r ∷ rs) bs = may_follow r bs && all_follow rs (widened r bs)

follow_more : (rs : List HandlerLine) (r : HandlerLine) (bs : List Wide) → all_follow rs bs ≡ true → may_follow r (widened_by rs bs) ≡ true → all_follow (rs ++ r ∷ []) bs ≡ true
follow_more [] r bs h g = and_from (may_follow r bs) true g refl
follow_more (q ∷ rs) r bs h g = second_of (may_follow q bs) _ _ h (λ k. follow_more rs r (widened q bs) k g)

widened_more : (rs : List HandlerLine) (r : HandlerLine) (bs : List Wide) → widened_by (rs ++ r ∷ []) bs ≡ widened r (widened_by rs bs)
widened_more [] r bs = refl
widened_more (q ∷ rs) r bs = widened_more rs r (widened q bs)

-- no block is left open
all_closed : (rs : List HandlerLine) (bs : List Wide) → all_follow rs bs ≡ true → can_close (widened_by rs bs) ≡ false → follow rs bs ≡ true
all_closed [] bs h g = ap not g
all_closed (r ∷ rs) bs h g = second_of (may_follow r bs) _ _ h (λ k. all_closed rs (widened r bs) k g)

-- no block is wider than 16
abbrev pub AllNarrow : List Frame → Type 0
AllNarrow [] = Unit {0}
AllNarrow (f ∷ fs) = ((f.first ≤ 16) × (f.width ≤ 16)) × AllNarrow fs

note_narrow : (p : Print) (fs : List Frame) → AllNarrow fs → AllNarrow (map (note p) fs)
note_narrow p [] h = tt
note_narrow p (f ∷ fs) h = (h.0, note_narrow p fs h.1)

max_up : (n m k : ℕ) → n ≤ k → m ≤ k → max n m ≤ k
max_up n m k h g = omega arith

raised_narrow : (n : ℕ) (fs : List Frame) → n ≤ 16 → AllNarrow fs → AllNarrow (raised n fs)
raised_narrow n [] s h = tt
raised_narrow n (f ∷ fs) s h = ((h.0.0, max_up f.width n 16 h.0.1 s), h.1)

turned_narrow : (fs : List Frame) → AllNarrow fs → AllNarrow (turned fs)
turned_narrow [] h = tt
turned_narrow (f ∷ fs) h = ((h.0.1, omega arith), h.1)

block_narrow : (p : Part) (first width : ℕ) → first ≤ 16 → width ≤ 16 → (is_two p && nat_lt 16 (first + width)) ≡ false → width_by p first width ≤ 16
block_narrow part.Yes first width h g w = g
block_narrow part.No first width h g w = max_up first width 16 h g
block_narrow part.Body first width h g w = max_up first width 16 h g
block_narrow part.One first width h g w = g
block_narrow part.Two first width h g w = ltb-false 16 (first + width) w

pub top_narrow : (fs : List Frame) → AllNarrow fs → top_is_wide fs ≡ false → top_width fs ≤ 16
top_narrow [] h w = omega arith
top_narrow (f ∷ fs) h w = block_narrow f.part f.first f.width h.0.0 h.0.1 w

closed_narrow : (fs : List Frame) → AllNarrow fs → top_is_wide fs ≡ false → AllNarrow (closed fs)
closed_narrow [] h w = tt
closed_narrow (f ∷ fs) h w = raised_narrow (block_width f) fs (top_narrow (f ∷ fs) h w) h.1

opened_narrow : (p : Part) (n : ℕ) (fs : List Frame) → n ≤ 16 → AllNarrow fs → AllNarrow (opened p n ∷ fs)
opened_narrow p n fs s h = ((omega arith, s), h)

asked_narrow : (w : Option (List ℕ)) → asked w ≤ 16
asked_narrow None = omega arith
asked_narrow (Some w) = omega arith

pub narrow_with : (s : Shape) (p : Print) (fs : List Frame) → is_too_wide s fs ≡ false → AllNarrow fs → AllNarrow (frames_with s p fs)
narrow_with (Input fields) p fs w h = h
narrow_with (State name kind) p fs w h = h
narrow_with OnRow p fs w h = opened_narrow part.Body 0 [] (omega arith) tt
narrow_with OnTimer p fs w h = opened_narrow part.Body 0 [] (omega arith) tt
narrow_with End p fs w h = closed_narrow fs h w
narrow_with Else p fs w h = turned_narrow fs h
narrow_with With p fs w h = turned_narrow fs h
narrow_with (If test) p fs w h = opened_narrow part.Yes 0 (map (note p) fs) (omega arith) (note_narrow p fs h)
narrow_with (Each name state) p fs w h = opened_narrow part.Body 1 (map (note p) fs) (omega arith) (note_narrow p fs h)
narrow_with (EachPair key number state) p fs w h = opened_narrow part.Body 1 (map (note p) fs) (omega arith) (note_narrow p fs h)
narrow_with Both p fs w h = opened_narrow part.One 0 (map (note p) fs) (omega arith) (note_narrow p fs h)
narrow_with s p fs w h = raised_narrow (asked (use_of s)) (map (note p) fs) (asked_narrow (use_of s)) (note_narrow p fs h)

-- the outermost block is the handler, which has one part
abbrev pub IsHandler : List Frame → Type 0
IsHandler [] = ⊥
IsHandler (f ∷ []) = (f.part ≡ part.Body) × (f.first ≡ 0)
IsHandler (f ∷ g ∷ fs) = IsHandler (g ∷ fs)

note_handler : (p : Print) (fs : List Frame) → IsHandler fs → IsHandler (map (note p) fs)
note_handler p [] h = h
note_handler p (f ∷ []) h = h
note_handler p (f ∷ g ∷ fs) h = note_handler p (g ∷ fs) h

raised_handler : (n : ℕ) (fs : List Frame) → IsHandler fs → IsHandler (raised n fs)
raised_handler n [] h = h
raised_handler n (f ∷ []) h = h
raised_handler n (f ∷ g ∷ fs) h = h

opened_handler : (p : Part) (n : ℕ) (fs : List Frame) → IsHandler fs → IsHandler (opened p n ∷ fs)
opened_handler p n [] h = absurd h
opened_handler p n (f ∷ fs) h = h

turned_handler : (fs : List Frame) → may_follow SecondLine (map wide_in fs) ≡ true → IsHandler fs → IsHandler (turned fs)
turned_handler [] m h = h
turned_handler (f ∷ []) m h = absurd (false≢true m)
turned_handler (f ∷ g ∷ fs) m h = h

closed_handler : (fs : List Frame) → may_follow EndLine (map wide_in fs) ≡ true → IsHandler fs → IsHandler (closed fs)
closed_handler [] m h = h
closed_handler (f ∷ []) m h = absurd (false≢true m)
closed_handler (f ∷ g ∷ fs) m h = raised_handler (block_width f) (g ∷ fs) h

act_handler : (n : ℕ) (p : Print) (fs : List Frame) → IsHandler fs → IsHandler (raised n (map (note p) fs))
act_handler n p fs h = raised_handler n (map (note p) fs) (note_handler p fs h)

handler_with : (s : Shape) (r : HandlerLine) (p : Print) (fs : List Frame) → makes s r ≡ true → may_follow r (map wide_in fs) ≡ true → IsHandler fs → IsHandler (frames_with s p fs)
handler_with (Input fields) r p fs m f h = h
handler_with (State name kind) r p fs m f h = h
handler_with OnRow r p fs m f h = (refl, refl)
handler_with OnTimer r p fs m f h = (refl, refl)
handler_with End EndLine p fs m f h = closed_handler fs f h
handler_with End r p fs m f h = absurd (false≢true m)
handler_with Else SecondLine p fs m f h = turned_handler fs f h
handler_with Else r p fs m f h = absurd (false≢true m)
handler_with With SecondLine p fs m f h = turned_handler fs f h
handler_with With r p fs m f h = absurd (false≢true m)
handler_with (If test) r p fs m f h = opened_handler part.Yes 0 (map (note p) fs) (note_handler p fs h)
handler_with (Each name state) r p fs m f h = opened_handler part.Body 1 (map (note p) fs) (note_handler p fs h)
handler_with (EachPair key number state) r p fs m f h = opened_handler part.Body 1 (map (note p) fs) (note_handler p fs h)
handler_with Both r p fs m f h = opened_handler part.One 0 (map (note p) fs) (note_handler p fs h)
handler_with s r p fs m f h = act_handler (asked (use_of s)) p fs h

-- the rows of a handler's lines so far, where these blocks are open
pub record Runs (fs : List Frame) (rs : List HandlerLine) : Type 0 where
  pub follows : all_follow rs handler ≡ true
  pub wide : map wide_in fs ≡ widened_by rs handler
  pub ok : all_ok rs [] ≡ true
  pub holds : AllHold fs (lines_by rs [])
  pub outer : IsHandler fs
  pub narrow : AllNarrow fs

pub begun : Runs (opened part.Body 0 ∷ []) []
begun = record { follows = refl; wide = refl; ok = refl; holds = refl; outer = (refl, refl); narrow = ((omega arith, omega arith), tt) }

passes : (s : Shape) (q : RowPrint) (p : Print) (fs : List Frame) (bs : List Lines) → AllHold fs bs → p ≡ quiet q → q.loud ≡ is_loud s → is_loud_in_arm s fs ≡ false → has_conflict p fs ≡ false → row_ok q bs ≡ true
passes s q p fs bs h e l a c =
    passes_alike q fs bs h
    ∙ and_from (not (q.loud && list_any is_arm fs)) (not (has_conflict (quiet q) fs))
    (ap not (ap (λ (b : Bool). b && list_any is_arm fs) l ∙ a))
    (ap not (sym (ap (λ (x : Print). has_conflict x fs) e) ∙ c))

row_passes_by : (s : Shape) (r : HandlerLine) (p : Print) (fs : List Frame) (bs : List Lines) → AllHold fs bs → p ≡ print_for r (row_print r) → (row_print r).loud ≡ is_loud s → is_loud_in_arm s fs ≡ false → has_conflict p fs ≡ false → row_passes r bs ≡ true
row_passes_by s (ActLine q) p fs bs h e l a c = passes s (quiet_print q) p fs bs h e l a c
row_passes_by s (AskLine x) p fs bs h e l a c = passes s (asking_print x) p fs bs h e l a c
row_passes_by s (IfLine x) p fs bs h e l a c = passes s (test_print x) p fs bs h e l a c
row_passes_by s (EachLine x) p fs bs h e l a c = passes s (loop_print x) p fs bs h e l a c
row_passes_by s BothLine p fs bs h e l a c = refl
row_passes_by s SecondLine p fs bs h e l a c = refl
row_passes_by s EndLine p fs bs h e l a c = refl

-- a line has none of the faults of blocks
pub record IsFree (s : Shape) (p : Print) (fs : List Frame) : Type 0 where
  pub silent : is_loud_in_arm s fs ≡ false
  pub apart : has_conflict p fs ≡ false
  pub narrow : is_too_wide s fs ≡ false

-- one row more
pub runs_on : (s : Shape) (r : HandlerLine) (p : Print) (fs : List Frame) (rs : List HandlerLine) → IsRowOf s p r → IsFree s p fs → may_follow r (map wide_in fs) ≡ true → Runs fs rs → Runs (frames_with s p fs) (rs ++ r ∷ [])
runs_on s r p fs rs i c f h =
    let may : may_follow r (widened_by rs handler) ≡ true = subst (λ (bs : List Wide). may_follow r bs ≡ true) h.wide f in
    record {
      follows = follow_more rs r handler h.follows may;
      wide = widens_alike s r p fs i.made f ∙ (ap (widened r) h.wide ∙ sym (widened_more rs r handler));
      ok = ok_more rs r [] h.ok (row_passes_by s r p fs (lines_by rs []) h.holds i.touches i.loud c.silent c.apart);
      holds = subst (AllHold (frames_with s p fs)) (sym (lines_more rs r []))
          (subst (λ (x : Print). AllHold (frames_with s x fs) (lines_with r (row_print r) (lines_by rs []))) (sym i.touches)
          (stays_alike s r (row_print r) fs (lines_by rs []) i.made f h.holds));
      outer = handler_with s r p fs i.made f h.outer;
      narrow = narrow_with s p fs c.narrow h.narrow;
    }

-- the rows of a handler that has ended, of this width
pub record Ended (rs : List HandlerLine) (n : ℕ) : Type 0 where
  pub follows : follow rs handler ≡ true
  pub ok : all_ok rs [] ≡ true
  pub width : now_of (widened_by rs handler) ≡ n
  pub narrow : n ≤ 16

one_part : (p : Part) (first width : ℕ) → p ≡ part.Body → first ≡ 0 → width ≡ width_by p first width
one_part p first width e f = no_first first width f ∙ ap (λ (q : Part). width_by q first width) (sym e) where
  no_first : (first width : ℕ) → first ≡ 0 → width ≡ max first width
  no_first first width f = omega arith

-- its own `end`
pub ends : (f : Frame) (rs : List HandlerLine) → is_too_wide End (f ∷ []) ≡ false → Runs (f ∷ []) rs → Ended rs (top_width (f ∷ []))
ends f rs w h = record {
  follows = all_closed rs handler h.follows (ap can_close (sym h.wide));
  ok = h.ok;
  width = ap now_of (sym h.wide) ∙ one_part f.part f.first f.width h.outer.0 h.outer.1;
  narrow = top_narrow (f ∷ []) h.narrow w;
}
