-- Lines are put before those that are linked.
use Rattle.std.proofs.Common.{◌≡◌, ◌∙◌, ℕ, suc, max, ◌≤◌, List, [], ◌∷◌, ◌++◌, map, length, refl, sym, ap, subst, arith, length-append, true, ◌&&◌}
use Rattle.std.specs.List.{list_all}
use Rattle.std.proofs.lemmas.Bool.{and_parts}
use Rattle.std.proofs.lemmas.List.{map-append}
use Rattle.std.proofs.lemmas.List.Folds.{list_all-append}
use Rattle.ax_text.specs.declared.vocabulary.Kind.{Kind}
use Rattle.ax_text.specs.Exprs.{Expr}
use Rattle.ax_text.specs.Texts.{Loop, Text, Stop, Act, Ask, If, Each, Both}
use Rattle.ax_text.specs.Rows.{HandlerLine, SecondLine, EndLine, BothLine, IfLine, EachLine, Level, level, top, below, with_text, before, levels_of, text_of}
use Rattle.ax_expr.specs.declared.tree.Expr.{Expr as CodeExpr}
use Rattle.ax_expr.specs.Shown.{shown_expr}
use Rattle.ax_lang.specs.declared.step.Loop.{Loop as CodeLoop}
use Rattle.ax_lang.specs.declared.step.Stmt.{Stmt}
use Rattle.ax_lang.specs.declared.step.Stmt.TheVariants as code
use Rattle.ax_lang.specs.declared.step.Step.{Step}
use Rattle.ax_lang.specs.declared.step.HandlerLine.{HandlerLine as CodeLine}
use Rattle.ax_lang.specs.declared.link.Starts.{Starts}
use Rattle.ax_lang.specs.Forms.{Form, Acts, Asks, Branches, Repeats, Splits, form_of, form_top, text_with, row_in, shown_loop, shown_row}
use Rattle.ax_lang.specs.Steps.{row_fits, steps_fit, text_at, GoesOn}
use Rattle.ax_lang.specs.Links.{level_at, levels_at, AllUpTo, Taken, CanStand, Added, Linked}
use Rattle.ax_lang.proofs.StepLemmas.{text_pushed, text_kept, text_end, fits_pushed}

-- open blocks

abbrev pub starts : ℕ → ℕ → Starts
starts text second = record { text = text; second = second }

levels_push : (steps : List Step) (blocks : List Starts) (s : Starts) → levels_at steps (blocks ++ s ∷ []) ≡ level_at steps s ∷ levels_at steps blocks
levels_push steps [] s = refl
levels_push steps (o ∷ os) s = ap (λ (ls : List Level). ls ++ level_at steps o ∷ []) (levels_push steps os s)

up_push : (n : ℕ) (blocks : List Starts) (s : Starts) → AllUpTo n blocks → s.text ≤ n → s.second ≤ n → AllUpTo n (blocks ++ s ∷ [])
up_push n [] s h a b = (a, b, tt)
up_push n (o ∷ os) s h a b = (h.0, h.1, up_push n os s h.2 a b)

up_more : (n m : ℕ) (blocks : List Starts) → n ≤ m → AllUpTo n blocks → AllUpTo m blocks
up_more n m [] h u = tt
up_more n m (o ∷ os) h u = (let a = u.0 in omega arith, let b = u.1 in omega arith, up_more n m os h u.2)

up_parts : (n : ℕ) (blocks : List Starts) (s : Starts) → AllUpTo n (blocks ++ s ∷ []) → (s.text ≤ n) × (s.second ≤ n) × AllUpTo n blocks
up_parts n [] s h = (h.0, h.1, tt)
up_parts n (o ∷ os) s h = let p = up_parts n os s h.2 in (p.0, p.1, (h.0, h.1, p.2))

-- a block is taken off

pub taken_some : (blocks rest : List Starts) (s : Starts) → blocks ≡ rest ++ s ∷ [] → Taken blocks s rest
taken_some blocks rest s e = subst (λ (os : List Starts). Taken os s rest) (sym e) (record {
  first = λ steps. ap top (levels_push steps rest s);
  others = λ steps. ap below (levels_push steps rest s);
  text = λ n h. (up_parts n rest s h).0;
  second = λ n h. (up_parts n rest s h).1;
  up = λ n h. (up_parts n rest s h).2;
})

none_taken : Taken [] (starts 0 0) []
unfolding text_at
none_taken = record { first = λ steps. refl; others = λ steps. refl; text = λ n h. omega arith; second = λ n h. omega arith; up = λ n h. tt }

pub empty_list : {A : Type 0} (xs : List A) → length xs ≡ 0 → xs ≡ []
empty_list [] h = refl
empty_list (x ∷ xs) h = absurd (omega arith)

pub taken_none : (blocks rest : List Starts) → blocks ≡ [] → rest ≡ [] → Taken blocks (starts 0 0) rest
taken_none blocks rest e f = subst (λ (os : List Starts). Taken os (starts 0 0) rest) (sym e) (subst (λ (os : List Starts). Taken [] (starts 0 0) os) (sym f) none_taken)

-- a step is added

levels_kept : (steps : List Step) (s : Step) (blocks : List Starts) → AllUpTo (length steps) blocks → levels_at (steps ++ s ∷ []) blocks ≡ levels_at steps blocks
levels_kept steps s [] h = refl
levels_kept steps s (o ∷ os) h = cc (text_kept steps s o.text h.0, text_kept steps s o.second h.1, levels_kept steps s os h.2)

added_here : (steps : List Step) (blocks : List Starts) (s : Starts) (stmt : Stmt) → CanStand steps blocks s stmt
    → Added steps blocks s stmt (steps ++ record { stmt = stmt; next = s.text } ∷ []) (blocks ++ starts (length (steps ++ record { stmt = stmt; next = s.text } ∷ [])) s.second ∷ [])
added_here steps blocks s stmt h =
    let step : Step = record { stmt = stmt; next = s.text } in
    let more : List Step = steps ++ step ∷ [] in
    let long : length more ≡ suc (length steps) = length-append steps (step ∷ []) ∙ omega arith in
    let text : s.text ≤ length steps = h.1 in
    let second : s.second ≤ length steps = h.2 in
    let named : form_top (form_of stmt) ≤ length steps = h.3 in
    record {
      levels = levels_push more blocks (starts (length more) s.second) ∙ cc (ap (text_at more) long ∙ text_pushed steps step, text_kept steps step s.second second, levels_kept steps step blocks h.0);
      up = up_push (length more) blocks (starts (length more) s.second) (up_more (length steps) (length more) blocks (omega arith) h.0) (omega arith) (omega arith);
      longer = omega arith;
      stays = λ p low. text_kept steps step p low;
      fits = λ fields locals ks f g. fits_pushed steps step fields locals 0 ks f (omega arith) g;
    }

pub added : (steps steps' : List Step) (blocks blocks' : List Starts) (n : ℕ) (s : Starts) (stmt : Stmt) → CanStand steps blocks s stmt
    → steps' ≡ steps ++ record { stmt = stmt; next = s.text } ∷ [] → n ≡ length steps' → blocks' ≡ blocks ++ starts n s.second ∷ [] → Added steps blocks s stmt steps' blocks'
added steps steps' blocks blocks' n s stmt h e m f =
    subst (λ (os : List Starts). Added steps blocks s stmt steps' os) (sym (f ∙ ap (λ (k : ℕ). blocks ++ starts k s.second ∷ []) m))
    (subst (λ (ss : List Step). Added steps blocks s stmt ss (blocks ++ starts (length ss) s.second ∷ [])) (sym e) (added_here steps blocks s stmt h))

-- the two innermost blocks are taken off, and a statement that names places of the first of them stands first in the second
pub can_stand : (steps : List Step) (blocks inside rest : List Starts) (i s : Starts) (stmt : Stmt) → AllUpTo (length steps) blocks → Taken blocks i inside → Taken inside s rest → form_top (form_of stmt) ≤ max i.text i.second → CanStand steps rest s stmt
can_stand steps blocks inside rest i s stmt h t u low =
    let n = length steps in
    let up = t.up n h in
    let text : i.text ≤ n = t.text n h in
    let second : i.second ≤ n = t.second n h in
    (u.up n up, u.text n up, u.second n up, omega arith)

-- lines

linked_by : (steps steps' : List Step) (blocks rest blocks' : List Starts) (s : Starts) (stmt : Stmt) → Added steps rest s stmt steps' blocks'
    → level (text_with (text_at steps) (form_of stmt) s.text) (text_at steps s.second) ∷ levels_at steps rest ≡ before (row_in (form_of stmt)) (levels_at steps blocks)
    → Linked (row_in (form_of stmt)) steps blocks steps' blocks'
linked_by steps steps' blocks rest blocks' s stmt a e = record { levels = a.levels ∙ e; up = a.up; longer = a.longer; stays = a.stays; fits = a.fits }

-- a statement that names no places
abbrev pub IsPlain : Form → Type 0
IsPlain (Acts q) = Unit {0}
IsPlain (Asks a) = Unit {0}
IsPlain (Branches e one other) = ⊥
IsPlain (Repeats l body) = ⊥
IsPlain (Splits one two) = ⊥

line_before : (go : Text → Text) (ls rest : List Level) (s : Level) → top ls ≡ s → below ls ≡ rest → level (go s.text) s.second ∷ rest ≡ with_text (go (top ls).text) ls
line_before go ls rest s a b = cc (a, b)

plain_before : (at : ℕ → Text) (form : Form) (ls rest : List Level) (s : Starts) → IsPlain form → top ls ≡ level (at s.text) (at s.second) → below ls ≡ rest
    → level (text_with at form s.text) (at s.second) ∷ rest ≡ before (row_in form) ls
plain_before at (Acts q) ls rest s h e f = line_before (Act q) ls rest (level (at s.text) (at s.second)) e f
plain_before at (Asks a) ls rest s h e f = line_before (Ask a) ls rest (level (at s.text) (at s.second)) e f
plain_before at (Branches x one other) ls rest s h e f = absurd h
plain_before at (Repeats l body) ls rest s h e f = absurd h
plain_before at (Splits one two) ls rest s h e f = absurd h

-- a statement is plain that is no block
pub plain_form : (s : Stmt) → ((e : CodeExpr) → (a b : ℕ) → s ≡ code.If e a b → ⊥) → ((l : CodeLoop) → (b : ℕ) → s ≡ code.Each l b → ⊥) → ((a b : ℕ) → s ≡ code.Both a b → ⊥) → IsPlain (form_of s)
plain_form (code.Let name e) p q r = tt
plain_form (code.Emit values) p q r = tt
plain_form (code.SetTimer time) p q r = tt
plain_form (code.UnsetTimer time) p q r = tt
plain_form (code.Get name state missing) p q r = tt
plain_form (code.GetAt name state place missing) p q r = tt
plain_form (code.Has name state place) p q r = tt
plain_form (code.Empty name state) p q r = tt
plain_form (code.Put state number) p q r = tt
plain_form (code.PutAt state place number) p q r = tt
plain_form (code.PutAll state numbers) p q r = tt
plain_form (code.Add state number) p q r = tt
plain_form (code.Remove state place) p q r = tt
plain_form (code.Clear state) p q r = tt
plain_form (code.If test one other) p q r = p test one other refl
plain_form (code.Each turn body) p q r = q turn body refl
plain_form (code.Both one two) p q r = r one two refl

pub plain_top : (form : Form) → IsPlain form → form_top form ≡ 0
plain_top (Acts q) h = refl
plain_top (Asks a) h = refl
plain_top (Branches x one other) h = absurd h
plain_top (Repeats l body) h = absurd h
plain_top (Splits one two) h = absurd h

pub linked_plain : (steps steps' : List Step) (blocks rest blocks' : List Starts) (s : Starts) (stmt : Stmt) → IsPlain (form_of stmt) → Taken blocks s rest → Added steps rest s stmt steps' blocks' → Linked (row_in (form_of stmt)) steps blocks steps' blocks'
linked_plain steps steps' blocks rest blocks' s stmt h t a =
    linked_by steps steps' blocks rest blocks' s stmt a (plain_before (text_at steps) (form_of stmt) (levels_at steps blocks) (levels_at steps rest) s h (t.first steps) (t.others steps))

-- the levels, where the two innermost blocks are these
if_before : (e : Expr) (ls ms rest : List Level) (i s : Level) → top ls ≡ i → below ls ≡ ms → top ms ≡ s → below ms ≡ rest → level (If e i.text i.second s.text) s.second ∷ rest ≡ before (IfLine e) ls
if_before e ls ms rest i s a b c d = cc (a, b, c, d)

each_before : (l : Loop) (ls ms rest : List Level) (i s : Level) → top ls ≡ i → below ls ≡ ms → top ms ≡ s → below ms ≡ rest → level (Each l i.text s.text) s.second ∷ rest ≡ before (EachLine l) ls
each_before l ls ms rest i s a b c d = cc (a, b, c, d)

both_before : (ls ms rest : List Level) (i s : Level) → top ls ≡ i → below ls ≡ ms → top ms ≡ s → below ms ≡ rest → level (Both i.text i.second s.text) s.second ∷ rest ≡ before BothLine ls
both_before ls ms rest i s a b c d = cc (a, b, c, d)

pub linked_if : (steps steps' : List Step) (blocks inside rest blocks' : List Starts) (i s : Starts) (test : CodeExpr) → Taken blocks i inside → Taken inside s rest
    → Added steps rest s (code.If test i.text i.second) steps' blocks' → Linked (IfLine (shown_expr test)) steps blocks steps' blocks'
linked_if steps steps' blocks inside rest blocks' i s test t u a = linked_by steps steps' blocks rest blocks' s (code.If test i.text i.second) a
    (if_before (shown_expr test) (levels_at steps blocks) (levels_at steps inside) (levels_at steps rest) (level_at steps i) (level_at steps s) (t.first steps) (t.others steps) (u.first steps) (u.others steps))

pub linked_each : (steps steps' : List Step) (blocks inside rest blocks' : List Starts) (i s : Starts) (turn : CodeLoop) → Taken blocks i inside → Taken inside s rest
    → Added steps rest s (code.Each turn i.text) steps' blocks' → Linked (EachLine (shown_loop turn)) steps blocks steps' blocks'
linked_each steps steps' blocks inside rest blocks' i s turn t u a = linked_by steps steps' blocks rest blocks' s (code.Each turn i.text) a
    (each_before (shown_loop turn) (levels_at steps blocks) (levels_at steps inside) (levels_at steps rest) (level_at steps i) (level_at steps s) (t.first steps) (t.others steps) (u.first steps) (u.others steps))

pub linked_both : (steps steps' : List Step) (blocks inside rest blocks' : List Starts) (i s : Starts) → Taken blocks i inside → Taken inside s rest
    → Added steps rest s (code.Both i.text i.second) steps' blocks' → Linked BothLine steps blocks steps' blocks'
linked_both steps steps' blocks inside rest blocks' i s t u a = linked_by steps steps' blocks rest blocks' s (code.Both i.text i.second) a
    (both_before (levels_at steps blocks) (levels_at steps inside) (levels_at steps rest) (level_at steps i) (level_at steps s) (t.first steps) (t.others steps) (u.first steps) (u.others steps))

second_before : (none : Text) (ls rest : List Level) (s : Level) → none ≡ Stop → top ls ≡ s → below ls ≡ rest → level none s.text ∷ rest ≡ before SecondLine ls
second_before none ls rest s n a b = cc (n, a, b)

pub linked_second : (steps : List Step) (blocks rest blocks' : List Starts) (s : Starts) → AllUpTo (length steps) blocks → Taken blocks s rest → blocks' ≡ rest ++ starts 0 s.text ∷ [] → Linked SecondLine steps blocks steps blocks'
linked_second steps blocks rest blocks' s h t e = subst (λ (os : List Starts). Linked SecondLine steps blocks steps os) (sym e) (record {
  levels = levels_push steps rest (starts 0 s.text) ∙ second_before (text_at steps 0) (levels_at steps blocks) (levels_at steps rest) (level_at steps s) (text_end steps) (t.first steps) (t.others steps);
  up = up_push (length steps) rest (starts 0 s.text) (t.up (length steps) h) (omega arith) (t.text (length steps) h);
  longer = omega arith;
  stays = λ p low. refl;
  fits = λ fields locals ks f g. f;
})

pub linked_end : (steps : List Step) (blocks blocks' : List Starts) → AllUpTo (length steps) blocks → blocks' ≡ blocks ++ starts 0 0 ∷ [] → Linked EndLine steps blocks steps blocks'
linked_end steps blocks blocks' h e = subst (λ (os : List Starts). Linked EndLine steps blocks steps os) (sym e) (record {
  levels = levels_push steps blocks (starts 0 0) ∙ cc (text_end steps);
  up = up_push (length steps) blocks (starts 0 0) h (omega arith) (omega arith);
  longer = omega arith;
  stays = λ p low. refl;
  fits = λ fields locals ks f g. f;
})

-- all lines of a handler

-- what lines make of the levels behind them
abbrev pub onto : List HandlerLine → List Level → List Level
onto [] ls = ls
onto (r ∷ rs) ls = before r (onto rs ls)

pub onto_none : (rs : List HandlerLine) → onto rs [] ≡ levels_of rs
onto_none [] = refl
onto_none (r ∷ rs) = ap (before r) (onto_none rs)

onto_last : (rs : List HandlerLine) (r : HandlerLine) (ls : List Level) → onto (rs ++ r ∷ []) ls ≡ onto rs (before r ls)
onto_last [] r ls = refl
onto_last (q ∷ rs) r ls = ap (before q) (onto_last rs r ls)

-- how far the lines of `all` fit that stand in the table
abbrev pub FitsSoFar : List HandlerLine → List HandlerLine → List Step → List Step → Type 0
FitsSoFar all left before now = (fields locals : ℕ) → (ks : List Kind) → steps_fit fields locals ks 0 before ≡ true → list_all (row_fits fields locals ks) all ≡ true
    → (steps_fit fields locals ks 0 now ≡ true) × (list_all (row_fits fields locals ks) left ≡ true)

shown_last : (all left : List CodeLine) (r : CodeLine) → all ≡ left ++ r ∷ [] → map shown_row all ≡ map shown_row left ++ shown_row r ∷ []
shown_last all left r e = ap (map shown_row) e ∙ map-append shown_row left (r ∷ [])

pub line_onto : (all left : List CodeLine) (r : CodeLine) (steps now : List Step) (blocks blocks' : List Starts) → all ≡ left ++ r ∷ [] → Linked (shown_row r) steps blocks now blocks'
    → onto (map shown_row left) (levels_at now blocks') ≡ onto (map shown_row all) (levels_at steps blocks)
line_onto all left r steps now blocks blocks' e it =
    ap (onto (map shown_row left)) it.levels
    ∙ sym (ap (λ (rs : List HandlerLine). onto rs (levels_at steps blocks)) (shown_last all left r e) ∙ onto_last (map shown_row left) (shown_row r) (levels_at steps blocks))

pub line_stays : (first steps now : List Step) → length first ≤ length steps → GoesOn first steps → GoesOn steps now → GoesOn first now
line_stays first steps now h go more = λ p low. more p (omega arith) ∙ go p low

pub line_fits : (whole all left : List CodeLine) (r : CodeLine) (first steps now : List Step) (blocks blocks' : List Starts) → all ≡ left ++ r ∷ [] → Linked (shown_row r) steps blocks now blocks'
    → FitsSoFar (map shown_row whole) (map shown_row all) first steps → FitsSoFar (map shown_row whole) (map shown_row left) first now
line_fits whole all left r first steps now blocks blocks' e it go = λ fields locals ks a b.
    let fit = go fields locals ks a b in
    let ok = row_fits fields locals ks in
    let rows = map shown_row left in
    let same : list_all ok (map shown_row all) ≡ (list_all ok rows && (ok (shown_row r) && true)) = ap (list_all ok) (shown_last all left r e) ∙ list_all-append ok rows (shown_row r ∷ []) in
    let p = and_parts (list_all ok rows) (ok (shown_row r) && true) (sym same ∙ fit.1) in
    (it.fits fields locals ks fit.0 (and_parts (ok (shown_row r)) true p.1).0, p.0)

-- the text is what is left of the innermost block
pub linked_text : (rows : List CodeLine) (left : List CodeLine) (steps : List Step) (blocks rest : List Starts) (s : Starts) → left ≡ []
    → onto (map shown_row left) (levels_at steps blocks) ≡ levels_of (map shown_row rows) → Taken blocks s rest → text_at steps s.text ≡ text_of (map shown_row rows)
unfolding text_of
linked_text rows left steps blocks rest s e h t =
    let levels : levels_at steps blocks ≡ levels_of (map shown_row rows) = sym (ap (λ (rs : List CodeLine). onto (map shown_row rs) (levels_at steps blocks)) e) ∙ h in
    ap (λ (l : Level). l.text) (sym (t.first steps)) ∙ ap (λ (ls : List Level). (top ls).text) levels
