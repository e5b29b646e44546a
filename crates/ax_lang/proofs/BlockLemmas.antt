-- Lines without fault: their rows close each block, keep the rule of arms, and are as wide as the tables say.
use Rattle.std.proofs.Common.{◌≡◌, ◌∙◌, ℕ, length, List, [], ◌∷◌, ◌++◌, map, refl, sym, ap, ap₂, subst, Bool, true, false, not, ◌&&◌, ◌||◌, nat_lt, nat_eq, Option, Some, None, is_some, if◌then◌else◌, append-nil, arith}
use Rattle.std.specs.List.{list_all, list_any}
use Rattle.std.proofs.lemmas.Bool.{and_parts, and_from, true≢false, false≢true, or_parts, not-true, eqb-true}
use Rattle.std.proofs.lemmas.Bool.Decides.{nat_tests}
use Rattle.std.proofs.lemmas.List.{length-map}
use Rattle.std.proofs.lemmas.List.Folds.{list_all-append}
use Rattle.ax_text.specs.Names.{Word, same_word, is_value_word, is_name, mem}
use Rattle.ax_text.specs.Exprs.{Expr}
use Rattle.ax_text.specs.Prints.{names_in, names_in_all, asking_print}
use Rattle.ax_text.specs.Rows.{HandlerLine, ActLine, AskLine, IfLine, EachLine, BothLine, SecondLine, EndLine}
use Rattle.ax_text.specs.Texts as text
use Rattle.ax_syntax.specs.declared.shape.KindWord.{KindWord}
use Rattle.ax_syntax.specs.declared.shape.KindWord.TheVariants as word
use Rattle.ax_syntax.specs.Words.{field_number}
use Rattle.ax_syntax.specs.Shapes.{Shape, Input, State, OnRow, OnTimer, End, Let, Get, GetAt, Has, Empty, Put, Add, Remove, Clear, If, Else, Each, EachPair, Both, With, Emit, Timer, Untimer, is_expr, is_exprs, parts_of}
use Rattle.ax_rules.specs.declared.blocks.Print.{Print}
use Rattle.ax_rules.specs.declared.blocks.Frame.{Frame}
use Rattle.ax_rules.specs.declared.tables.DeclaredState.{DeclaredState}
use Rattle.ax_rules.specs.declared.tables.Tables.{Tables}
use Rattle.ax_rules.specs.Parts.{set_of, also_of, reads_of, more_of, use_of, with_word, onto, numbers_in, number_some}
use Rattle.ax_rules.specs.Frames.{frames_with}
use Rattle.ax_rules.specs.Lines.{names_of, locals_with, locals_of, has_timer, frames_of, print_behind, tables_of}
use Rattle.ax_rules.specs.Faults.{is_state, is_local, is_up_to, is_unknown_name, is_unknown_value, is_unknown, is_unknown_use, has_unknown, kind_of, takes, is_unserved, has_wrong_kind, print_in, fault_by}
use Rattle.ax_rules.specs.Taking.{behind}
use Rattle.ax_rules.specs.Alike.{quiet}
use Rattle.ax_rules.specs.Handlers.{MakesRow, row_after, timer_after, Make}
use Rattle.ax_rules.proofs.HandlerLemmas.{Passes, passes_all, rows_hold}
use Rattle.ax_lang.specs.Rows.{place_in, tree_in, put_by, row_of, HandlerLines, with_row, rows_of}
use Rattle.ax_lang.specs.Clean.{WellShaped, Clean}
use Rattle.ax_lang.specs.Blocks.{CleanLinesHold}
use Rattle.ax_lang.proofs.ExprLemmas.{is_known, all_known, Known}
use Rattle.ax_lang.proofs.NameLemmas.{with_mem, with_keeps, served}
use Rattle.ax_lang.proofs.PrintLemmas.{there, Readable, AllReadable, expr_names, exprs_names}

-- local names are names

abbrev SomeNamed : Option Word → Type 0
SomeNamed None = Unit {0}
SomeNamed (Some w) = is_name w ≡ true

set_named : (s : Shape) → WellShaped s → SomeNamed (set_of s)
set_named (Let name value) h = h.0
set_named (Get name state missing) h = h.0
set_named (GetAt name state at missing) h = h.0
set_named (Has name state at) h = h.0
set_named (Empty name state) h = h
set_named (Each name state) h = h
set_named (EachPair key number state) h = h.0
set_named s h = tt

also_named : (s : Shape) → WellShaped s → SomeNamed (also_of s)
also_named (EachPair key number state) h = h.1
also_named s h = tt

named_with : (o : Option Word) (ws : List Word) → SomeNamed o → list_all is_name ws ≡ true → list_all is_name (with_word o ws) ≡ true
named_with None ws h g = g
named_with (Some w) ws h g = cases (mem w ws) where
  cases : (b : Bool) → list_all is_name (if b then ws else (ws ++ w ∷ [])) ≡ true
  cases true = g
  cases false = list_all-append is_name ws (w ∷ []) ∙ and_from (list_all is_name ws) (list_all is_name (w ∷ [])) g (and_from (is_name w) true h refl)

locals_named : (s : Shape) (ws : List Word) → WellShaped s → list_all is_name ws ≡ true → list_all is_name (locals_with s ws) ≡ true
locals_named OnRow ws h g = refl
locals_named OnTimer ws h g = refl
locals_named s ws h g = named_with (also_of s) (with_word (set_of s) ws) (also_named s h) (named_with (set_of s) ws (set_named s h) g)

all_named : (ls : List Shape) → Clean ls → list_all is_name (locals_of ls) ≡ true
all_named [] h = refl
all_named (s ∷ ls) h = locals_named s (locals_of ls) h.0 (all_named ls h.2)

keeps : (a b : Option Word) (ws : List Word) (v : Word) → mem v ws ≡ true → mem v (with_word b (with_word a ws)) ≡ true
keeps a b ws v h = more b (with_word a ws) (more a ws h) where
  more : (o : Option Word) (us : List Word) → mem v us ≡ true → mem v (with_word o us) ≡ true
  more None us g = g
  more (Some w) us g = with_keeps w us v g

-- words without fault

name_known : (a b c : Bool) → (a && not (b || c)) ≡ false → a ≡ true → b ≡ false → c ≡ true
name_known true false true h e f = refl
name_known true false false h e f = absurd (true≢false h)
name_known true true c h e f = absurd (true≢false f)
name_known false b c h e f = absurd (false≢true e)

value_there : (a b : Bool) (n fields : Option ℕ) → (a && (b || not (is_up_to n fields))) ≡ false → a ≡ true → is_some n ≡ true
value_there false b n fields h e = absurd (false≢true e)
value_there true true n fields h e = absurd (true≢false h)
value_there true false None fields h e = absurd (true≢false h)
value_there true false (Some n) fields h e = refl

readable : (t : Tables) (names : List Word) (w : Word) → is_known t w ≡ true → (mem w t.locals ≡ true → mem w names ≡ true) → Readable names w
readable t names w k m =
    let parts = and_parts (not (is_unknown t w)) (not (is_state t w)) k in
    let u = or_parts (is_unknown_name t w) (is_unknown_value t w) (not-true (is_unknown t w) parts.0) in
    let s = not-true (is_state t w) parts.1 in
    ((λ n. m (name_known (is_name w) (is_state t w) (is_local t w) u.0 n s)), (λ v. value_there (is_value_word w) t.timer (field_number w) t.fields u.1 v))

all_readable : (t : Tables) (names ws : List Word) → list_all (is_known t) ws ≡ true → Known t names → AllReadable names ws
all_readable t names [] k m = tt
all_readable t names (w ∷ ws) k m =
    let a = and_parts (is_known t w) (list_all (is_known t) ws) k in
    (readable t names w a.0 (m w), all_readable t names ws a.1 m)

-- what holds of a line's words, with the local names behind it
record Holds (t : Tables) (s : Shape) (names : List Word) : Type 0 where
  named : list_all is_name names ≡ true
  reads : AllReadable names (reads_of s)
  more : AllReadable names (more_of s)
  served : is_unserved t s ≡ false

holds : (t : Tables) (s : Shape) (names : List Word) → Passes t s → list_all is_name names ≡ true → Known t names → Holds t s names
unfolding has_unknown has_wrong_kind
holds t s names c n m =
    let u = or_parts (list_any (is_unknown t) (reads_of s) || list_any (is_unknown t) (more_of s)) (is_unknown_use t s) c.known in
    let v = or_parts (list_any (is_unknown t) (reads_of s)) (list_any (is_unknown t) (more_of s)) u.0 in
    let k = or_parts ((list_any (is_state t) (reads_of s) || list_any (is_state t) (more_of s)) || _) (is_unserved t s) c.kind in
    let r = or_parts (list_any (is_state t) (reads_of s) || list_any (is_state t) (more_of s)) _ k.0 in
    let q = or_parts (list_any (is_state t) (reads_of s)) (list_any (is_state t) (more_of s)) r.0 in
    record {
      named = n;
      reads = all_readable t names (reads_of s) (all_known t (reads_of s) v.0 q.0) m;
      more = all_readable t names (more_of s) (all_known t (more_of s) v.1 q.1) m;
      served = k.1;
    }

kind_mem : (ds : List DeclaredState) (w : Word) (k : KindWord) → kind_of ds w ≡ Some k → mem w (names_of ds) ≡ true
kind_mem [] w k h = cc
kind_mem (d ∷ ds) w k h = cases (same_word d.name w) h (kind_mem ds w k) where
  cases : (b : Bool) → (if b then Some d.kind else kind_of ds w) ≡ Some k → (kind_of ds w ≡ Some k → mem w (names_of ds) ≡ true) → (b || mem w (names_of ds)) ≡ true
  cases true e go = refl
  cases false e go = go e

state_there : (t : Tables) (s : Shape) (w : Word) → use_of s ≡ Some w → is_unserved t s ≡ false → mem w (names_of t.states) ≡ true
state_there t s w u h = let k = served t s w u h in kind_mem t.states w k.0 k.1

-- prints

abbrev four : List ℕ → List ℕ → List ℕ → List ℕ → Print
four a b c d = record { sets = a; reads = b; changes = c; gets = d }

same_four : {a b c d p q r s : List ℕ} → a ≡ p → b ≡ q → c ≡ r → d ≡ s → four a b c d ≡ four p q r s
same_four {a} {b} {c} {d} {p} {q} {r} {s} e f g h = ap (λ (x : List ℕ). four x b c d) e ∙ (ap (λ (x : List ℕ). four p x c d) f ∙ (ap (λ (x : List ℕ). four p q x d) g ∙ ap (λ (x : List ℕ). four p q r x) h))

place : (ws : List Word) (w : Word) → mem w ws ≡ true → number_some ws (Some w) ≡ place_in ws w ∷ []
place ws w h = ap (λ (i : Option ℕ). onto i []) (there ws w 0 h)

set_one : (ws : List Word) (w : Word) → mem w ws ≡ true → (number_some ws (Some w) ++ []) ≡ place_in ws w ∷ []
set_one ws w h = append-nil (number_some ws (Some w)) ∙ place ws w h

expr_read : (names ws : List Word) → list_all is_name names ≡ true → is_expr ws ≡ true → AllReadable names ws → (numbers_in names ws ++ []) ≡ names_in (tree_in names ws)
expr_read names ws n x r = append-nil (numbers_in names ws) ∙ sym (expr_names names ws n x r)

exprs_read : (names ws : List Word) → list_all is_name names ≡ true → is_exprs ws ≡ true → AllReadable names ws → (numbers_in names ws ++ []) ≡ names_in_all (map (tree_in names) (parts_of ws))
exprs_read names ws n x r = append-nil (numbers_in names ws) ∙ sym (exprs_names names ws n x r)

two_read : (names us ws : List Word) → list_all is_name names ≡ true → is_expr us ≡ true → is_expr ws ≡ true → AllReadable names us → AllReadable names ws → (numbers_in names us ++ numbers_in names ws) ≡ (names_in (tree_in names us) ++ names_in (tree_in names ws))
two_read names us ws n x y r q = ap₂ (λ (is js : List ℕ). is ++ js) (sym (expr_names names us n x r)) (sym (expr_names names ws n y q))

too_many : (e f : Expr) (es : List Expr) → nat_eq (length (e ∷ f ∷ es)) 1 ≡ true → ⊥
too_many e f es h = let k : length (e ∷ f ∷ es) ≡ 1 = eqb-true _ 1 h in absurd (omega arith)

too_many_two : (e f g : Expr) (es : List Expr) → nat_eq (length (e ∷ f ∷ g ∷ es)) 2 ≡ true → ⊥
too_many_two e f g es h = let k : length (e ∷ f ∷ g ∷ es) ≡ 2 = eqb-true _ 2 h in absurd (omega arith)

put_as : (k : KindWord) (i : ℕ) (es : List Expr) → takes k (length es) ≡ true → four [] (names_in_all es) (i ∷ []) [] ≡ quiet (asking_print (put_by (Some k) i es))
put_as word.Value i [] t = refl
put_as word.Value i (e ∷ []) t = ap (λ (x : List ℕ). four [] x (i ∷ []) []) (append-nil (names_in e))
put_as word.Value i (e ∷ f ∷ es) t = absurd (too_many e f es t)
put_as word.List i es t = refl
put_as word.Map i [] t = refl
put_as word.Map i (e ∷ []) t = refl
put_as word.Map i (e ∷ f ∷ []) t = ap (λ (x : List ℕ). four [] (names_in e ++ x) (i ∷ []) []) (append-nil (names_in f))
put_as word.Map i (e ∷ f ∷ g ∷ es) t = absurd (too_many_two e f g es t)

put_print : (o : Option KindWord) (k : KindWord) (i : ℕ) (es : List Expr) → o ≡ Some k → takes k (length es) ≡ true → four [] (names_in_all es) (i ∷ []) [] ≡ quiet (asking_print (put_by o i es))
put_print o k i es e t = subst (λ (x : Option KindWord). four [] (names_in_all es) (i ∷ []) [] ≡ quiet (asking_print (put_by x i es))) (sym e) (put_as k i es t)

put_loud : (o : Option KindWord) (i : ℕ) (es : List Expr) → (asking_print (put_by o i es)).loud ≡ false
put_loud None i es = refl
put_loud (Some word.Value) i [] = refl
put_loud (Some word.Value) i (e ∷ es) = refl
put_loud (Some word.List) i es = refl
put_loud (Some word.Map) i [] = refl
put_loud (Some word.Map) i (e ∷ []) = refl
put_loud (Some word.Map) i (e ∷ f ∷ es) = refl

-- the number of expressions is that of their parts
put_takes : (names : List Word) (k : KindWord) (ws : List Word) → takes k (length (parts_of ws)) ≡ true → takes k (length (map (tree_in names) (parts_of ws))) ≡ true
put_takes names k ws h = ap (takes k) (length-map (parts_of ws) (tree_in names)) ∙ h

-- the row of a line touches what the line touches

-- a handler's own `end` has no row
end_made : (p : Print) (fs : List Frame) → MakesRow End p fs (if nat_lt 0 (length fs) then Some EndLine else None)
end_made p [] = refl
end_made p (f ∷ fs) = ap (λ (b : Bool). if b then Some EndLine else None) (some_open f fs) where
  some_open : (f : Frame) (fs : List Frame) → nat_lt 0 (length (f ∷ fs)) ≡ true
  some_open f fs = grind (arith, nat_tests)

row_made : (s : Shape) (t : Tables) → WellShaped s → Passes t s → list_all is_name t.locals ≡ true → MakesRow s (print_in t s) (frames_with s (print_in t s) t.frames) (row_of (behind s t) s)
unfolding row_of print_in behind
row_made (Input fields) t w c n = refl
row_made (State name kind) t w c n = refl
row_made OnRow t w c n = refl
row_made OnTimer t w c n = refl
row_made End t w c n = end_made (print_in t End) (frames_with End (print_in t End) t.frames)
row_made (Let name value) t w c n =
    let names : List Word = locals_with (Let name value) t.locals in
    let h = holds t (Let name value) names c (locals_named (Let name value) t.locals w n) (keeps (Some name) None t.locals) in
    (ActLine (text.Let (place_in names name) (tree_in names value)), refl, record { made = refl; touches = same_four (set_one names name (with_mem name t.locals)) (expr_read names value h.named w.1 h.reads) refl refl; loud = refl })
row_made (Get name state missing) t w c n =
    let names : List Word = locals_with (Get name state missing) t.locals in
    let states : List Word = names_of t.states in
    let h = holds t (Get name state missing) names c (locals_named (Get name state missing) t.locals w n) (keeps (Some name) None t.locals) in
    (AskLine (text.Get (place_in names name) (place_in states state) (tree_in names missing)), refl, record { made = refl; touches = same_four (set_one names name (with_mem name t.locals)) (expr_read names missing h.named w.1 h.reads) refl (place states state (state_there t (Get name state missing) state refl h.served)); loud = refl })
row_made (GetAt name state at missing) t w c n =
    let names : List Word = locals_with (GetAt name state at missing) t.locals in
    let states : List Word = names_of t.states in
    let h = holds t (GetAt name state at missing) names c (locals_named (GetAt name state at missing) t.locals w n) (keeps (Some name) None t.locals) in
    (AskLine (text.GetAt (place_in names name) (place_in states state) (tree_in names at) (tree_in names missing)), refl, record { made = refl; touches = same_four (set_one names name (with_mem name t.locals)) (two_read names at missing h.named w.1 w.2 h.reads h.more) refl (place states state (state_there t (GetAt name state at missing) state refl h.served)); loud = refl })
row_made (Has name state at) t w c n =
    let names : List Word = locals_with (Has name state at) t.locals in
    let states : List Word = names_of t.states in
    let h = holds t (Has name state at) names c (locals_named (Has name state at) t.locals w n) (keeps (Some name) None t.locals) in
    (AskLine (text.Has (place_in names name) (place_in states state) (tree_in names at)), refl, record { made = refl; touches = same_four (set_one names name (with_mem name t.locals)) (expr_read names at h.named w.1 h.reads) refl (place states state (state_there t (Has name state at) state refl h.served)); loud = refl })
row_made (Empty name state) t w c n =
    let names : List Word = locals_with (Empty name state) t.locals in
    let states : List Word = names_of t.states in
    let h = holds t (Empty name state) names c (locals_named (Empty name state) t.locals w n) (keeps (Some name) None t.locals) in
    (AskLine (text.Empty (place_in names name) (place_in states state)), refl, record { made = refl; touches = same_four (set_one names name (with_mem name t.locals)) refl refl (place states state (state_there t (Empty name state) state refl h.served)); loud = refl })
row_made (Put state values) t w c n =
    let names : List Word = t.locals in
    let states : List Word = names_of t.states in
    let h = holds t (Put state values) names c n (keeps None None t.locals) in
    let k = served t (Put state values) state refl h.served in
    let es : List Expr = map (tree_in names) (parts_of values) in (
      AskLine (put_by (kind_of t.states state) (place_in states state) es),
      refl,
      record {
        made = refl;
        touches = same_four refl (exprs_read names values h.named w h.reads) (place states state (state_there t (Put state values) state refl h.served)) refl
            ∙ put_print (kind_of t.states state) k.0 (place_in states state) es k.1 (put_takes names k.0 values k.2);
        loud = put_loud (kind_of t.states state) (place_in states state) es;
      },
    )
row_made (Add state value) t w c n =
    let names : List Word = t.locals in
    let states : List Word = names_of t.states in
    let h = holds t (Add state value) names c n (keeps None None t.locals) in
    (AskLine (text.Add (place_in states state) (tree_in names value)), refl, record { made = refl; touches = same_four refl (expr_read names value h.named w h.reads) (place states state (state_there t (Add state value) state refl h.served)) refl; loud = refl })
row_made (Remove state at) t w c n =
    let names : List Word = t.locals in
    let states : List Word = names_of t.states in
    let h = holds t (Remove state at) names c n (keeps None None t.locals) in
    (AskLine (text.Remove (place_in states state) (tree_in names at)), refl, record { made = refl; touches = same_four refl (expr_read names at h.named w h.reads) (place states state (state_there t (Remove state at) state refl h.served)) refl; loud = refl })
row_made (Clear state) t w c n =
    let states : List Word = names_of t.states in
    let h = holds t (Clear state) t.locals c n (keeps None None t.locals) in
    (AskLine (text.Clear (place_in states state)), refl, record { made = refl; touches = same_four refl refl (place states state (state_there t (Clear state) state refl h.served)) refl; loud = refl })
row_made (If test) t w c n =
    let names : List Word = t.locals in
    let h = holds t (If test) names c n (keeps None None t.locals) in
    (IfLine (tree_in names test), refl, record { made = refl; touches = same_four refl (expr_read names test h.named w h.reads) refl refl; loud = refl })
row_made Else t w c n = (SecondLine, refl, record { made = refl; touches = refl; loud = refl })
row_made (Each name state) t w c n =
    let names : List Word = locals_with (Each name state) t.locals in
    let states : List Word = names_of t.states in
    let h = holds t (Each name state) names c (locals_named (Each name state) t.locals w n) (keeps (Some name) None t.locals) in
    (EachLine (text.Items (place_in names name) (place_in states state)), refl, record { made = refl; touches = same_four (set_one names name (with_mem name t.locals)) refl refl (place states state (state_there t (Each name state) state refl h.served)); loud = refl })
row_made (EachPair key number state) t w c n =
    let names : List Word = locals_with (EachPair key number state) t.locals in
    let states : List Word = names_of t.states in
    let h = holds t (EachPair key number state) names c (locals_named (EachPair key number state) t.locals w n) (keeps (Some key) (Some number) t.locals) in
    let first : mem key names ≡ true = with_keeps number (with_word (Some key) t.locals) key (with_mem key t.locals) in
    let second : mem number names ≡ true = with_mem number (with_word (Some key) t.locals) in (
      EachLine (text.Entries (place_in names key) (place_in names number) (place_in states state)),
      refl,
      record { made = refl; touches = same_four (ap₂ (λ (is js : List ℕ). is ++ js) (place names key first) (place names number second)) refl refl (place states state (state_there t (EachPair key number state) state refl h.served)); loud = refl },
    )
row_made Both t w c n = (BothLine, refl, record { made = refl; touches = refl; loud = refl })
row_made With t w c n = (SecondLine, refl, record { made = refl; touches = refl; loud = refl })
row_made (Emit values) t w c n =
    let names : List Word = t.locals in
    let h = holds t (Emit values) names c n (keeps None None t.locals) in
    (ActLine (text.Emit (map (tree_in names) (parts_of values))), refl, record { made = refl; touches = same_four refl (exprs_read names values h.named w h.reads) refl refl; loud = refl })
row_made (Timer time) t w c n =
    let names : List Word = t.locals in
    let h = holds t (Timer time) names c n (keeps None None t.locals) in
    (ActLine (text.Timer (tree_in names time)), refl, record { made = refl; touches = same_four refl (expr_read names time h.named w h.reads) refl refl; loud = refl })
row_made (Untimer time) t w c n =
    let names : List Word = t.locals in
    let h = holds t (Untimer time) names c n (keeps None None t.locals) in
    (ActLine (text.Untimer (tree_in names time)), refl, record { made = refl; touches = same_four refl (expr_read names time h.named w h.reads) refl refl; loud = refl })

-- all lines

row_told : (timer : Bool) (o : Option HandlerLine) (rows : HandlerLines) → (with_row timer o rows).row ≡ row_after timer o rows.row
row_told timer None rows = refl
row_told true (Some r) rows = refl
row_told false (Some r) rows = refl

timer_told : (timer : Bool) (o : Option HandlerLine) (rows : HandlerLines) → (with_row timer o rows).timer ≡ timer_after timer o rows.timer
timer_told timer None rows = refl
timer_told true (Some r) rows = refl
timer_told false (Some r) rows = refl

passes : (s : Shape) (ls : List Shape) → fault_by ls s ≡ None → Passes (tables_of ls) s
unfolding fault_by
passes s ls h = passes_all (tables_of ls) s h

named : (ls : List Shape) → Clean ls → list_all is_name (tables_of ls).locals ≡ true
unfolding tables_of
named ls h = all_named ls h

made : (s : Shape) (ls : List Shape) → WellShaped s → fault_by ls s ≡ None → Clean ls → MakesRow s (print_behind s ls) (frames_of (s ∷ ls)) (row_of (tables_of (s ∷ ls)) s)
unfolding tables_of print_in behind
made s ls w f c = row_made s (tables_of ls) w (passes s ls f) (named ls c)

-- the rows of lines are those that they make
all_made : (ls : List Shape) → Clean ls → Make ls (rows_of ls).row (rows_of ls).timer
unfolding tables_of
all_made [] h = (refl, refl)
all_made (s ∷ ls) h =
    let o : Option HandlerLine = row_of (tables_of (s ∷ ls)) s in
    (o, (rows_of ls).row, (rows_of ls).timer, h.1, made s ls h.0 h.1 h.2, row_told (has_timer (s ∷ ls)) o (rows_of ls), timer_told (has_timer (s ∷ ls)) o (rows_of ls), all_made ls h.2)

-- the rows of lines without fault close each block, keep the rule of arms, and are as wide as the tables say
pub blocks_hold : (ls : List Shape) → CleanLinesHold ls
unfolding tables_of
blocks_hold ls = λ c w. rows_hold ls (rows_of ls).row (rows_of ls).timer (all_made ls c) w
