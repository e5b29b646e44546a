-- The bytes of an output determine its entries.
use Rattle.std.proofs.Common.{◌≡◌, refl, sym, ap, ◌∙◌, ℕ, ℤ, pos, Bool, true, ◌&&◌, List, [], ◌∷◌, ◌++◌, length, map, Option, None, Some, append_assoc}
use Rattle.std.proofs.lemmas.List.{append-nil}
use Rattle.std.proofs.lemmas.Bool.{and_parts}
use Rattle.std.specs.List.{list_all, AllByRecursion}
use Rattle.std.specs.Fmt.{signed_decimal}
use Rattle.ax_machine.proofs.TextLemmas.{lines_text-append}
use Rattle.ax_base.specs.Words.{words_of}
use Rattle.ax_base.specs.Pieces.{Cut, cut_of}
use Rattle.ax_base.specs.Lines.{no_feed}
use Rattle.ax_base.proofs.PieceLemmas.{cut_of-append}
use Rattle.ax_machine.specs.Entries.{Key, Entry, Watermark, Block, numbers_text, entry_text, text_of}
use Rattle.ax_machine.specs.Entries as entry
use Rattle.ax_machine.specs.OutLines.{OutLine, Out, Mark, Head, Value, Item, Entry as EntryLine, Timer, End, line_of, spelled, behind_spaces, lines_text}
use Rattle.ax_machine.specs.Blocks.{framed}
use Rattle.ax_input.specs.OutLines.{out_line_of, is_line}
use Rattle.ax_input.specs.Laws.{is_of_key, IsPlain, IsDetermined}
use Rattle.ax_input.proofs.LineLemmas.{line_back, no_feed_line}

numbers_spelled : (ns : List ℤ) → behind_spaces (map signed_decimal ns) ≡ numbers_text ns
numbers_spelled [] = refl
numbers_spelled (n ∷ ns) = ap (λ t. 32 ∷ (signed_decimal n ++ t)) (numbers_spelled ns)

pub out_spelled : (key : Key) (values : List ℤ) → spelled (Out key values) ≡ entry_text (entry.Out key values)
out_spelled key values =
    ap (λ t. 111 ∷ 32 ∷ ((key ++ t) ++ 10 ∷ [])) (numbers_spelled values)

pub mark_spelled : (time : ℤ) → spelled (Mark time) ≡ entry_text (entry.Mark (Watermark time))
mark_spelled time = ap (λ t. 119 ∷ 32 ∷ (t ++ 10 ∷ [])) (append-nil (signed_decimal time))

-- the lines that an entry is
abbrev lines_in : (e : Entry) → IsPlain e → List OutLine
lines_in (entry.Out key values) p = Out key values ∷ []
lines_in (entry.Mark (Watermark time)) p = Mark time ∷ []
lines_in (entry.Mark (Block text)) p = framed p.id p.wm p.lines

one_true : (b : Bool) → b ≡ true → (b && true) ≡ true
one_true b e = ap (λ t. t && true) e

plain_lines : (e : Entry) (p : IsPlain e) → list_all is_line (lines_in e p) ≡ true
plain_lines (entry.Out key values) p = one_true (is_line (Out key values)) p
plain_lines (entry.Mark (Watermark time)) p = one_true (is_line (Mark time)) p
plain_lines (entry.Mark (Block text)) p = p.spelled

plain_spelled : (e : Entry) (p : IsPlain e) → entry_text e ≡ lines_text (lines_in e p)
plain_spelled (entry.Out key values) p = sym (append-nil (spelled (Out key values)) ∙ out_spelled key values)
plain_spelled (entry.Mark (Watermark time)) p = sym (append-nil (spelled (Mark time)) ∙ mark_spelled time)
plain_spelled (entry.Mark (Block text)) p = p.whole

-- the lines that bytes spell; what is no line stands as a watermark

abbrev line_or_mark : Option OutLine → OutLine
line_or_mark None = Mark (pos 0)
line_or_mark (Some l) = l

abbrev lines_read : List (List ℕ) → List OutLine
lines_read [] = []
lines_read (t ∷ ts) = line_or_mark (out_line_of (words_of t)) ∷ lines_read ts

-- a line and what follows it
cut_line : (t rest : List ℕ) → no_feed t ≡ true → (cut_of (t ++ 10 ∷ rest)).ended ≡ t ∷ (cut_of rest).ended
cut_line t rest e = ap (λ (c : Cut). c.ended) (cut_of-append t (10 ∷ rest) e) ∙ ap (λ u. u ∷ (cut_of rest).ended) (append-nil t)

read_one : (l : OutLine) (rest : List ℕ) → is_line l ≡ true → lines_read (cut_of (spelled l ++ rest)).ended ≡ l ∷ lines_read (cut_of rest).ended
read_one l rest p =
    ap (λ t. lines_read (cut_of t).ended) (append_assoc (line_of l) (10 ∷ []) rest)
    ∙ ap lines_read (cut_line (line_of l) rest (no_feed_line l p))
    ∙ ap (λ x. line_or_mark x ∷ lines_read (cut_of rest).ended) (line_back l p)

read_lines : (ls : List OutLine) (rest : List ℕ) → list_all is_line ls ≡ true → lines_read (cut_of (lines_text ls ++ rest)).ended ≡ ls ++ lines_read (cut_of rest).ended
read_lines [] rest p = refl
read_lines (l ∷ ls) rest p =
    let parts = and_parts (is_line l) (list_all is_line ls) p in
    ap (λ t. lines_read (cut_of t).ended) (append_assoc (spelled l) (lines_text ls) rest)
    ∙ read_one l (lines_text ls ++ rest) parts.0
    ∙ ap (λ xs. l ∷ xs) (read_lines ls rest parts.1)

-- the entries that lines are; `Some text` is what was read of a block

abbrev entry_by : Option (List ℕ) → OutLine → (Option (List ℕ) → List Entry) → List Entry
entry_by None (Out key values) go = entry.Out key values ∷ go None
entry_by None (Mark time) go = entry.Mark (Watermark time) ∷ go None
entry_by None l go = go (Some (spelled l))
entry_by (Some text) (End id count) go = entry.Mark (Block (text ++ spelled (End id count))) ∷ go None
entry_by (Some text) l go = go (Some (text ++ spelled l))

abbrev entries_in : Option (List ℕ) → List OutLine → List Entry
entries_in block [] = []
entries_in block (l ∷ ls) = entry_by block l (λ b. entries_in b ls)

-- a line of a key goes on with the block
goes_on : (l : OutLine) (text : List ℕ) (go : Option (List ℕ) → List Entry) → is_of_key l ≡ true → entry_by (Some text) l go ≡ go (Some (text ++ spelled l))
goes_on (Out key values) text go e = absurd (cc)
goes_on (Mark time) text go e = absurd (cc)
goes_on (Head id wm) text go e = absurd (cc)
goes_on (Value key state n) text go e = refl
goes_on (Item key state n) text go e = refl
goes_on (EntryLine key state k n) text go e = refl
goes_on (Timer key time) text go e = refl
goes_on (End id count) text go e = absurd (cc)

inside : (ls rest : List OutLine) (text : List ℕ) → list_all is_of_key ls ≡ true → entries_in (Some text) (ls ++ rest) ≡ entries_in (Some (text ++ lines_text ls)) rest
inside [] rest text e = ap (λ t. entries_in (Some t) rest) (sym (append-nil text))
inside (l ∷ ls) rest text e =
    let parts = and_parts (is_of_key l) (list_all is_of_key ls) e in
    goes_on l text (λ b. entries_in b (ls ++ rest)) parts.0
    ∙ inside ls rest (text ++ spelled l) parts.1
    ∙ ap (λ t. entries_in (Some t) rest) (append_assoc text (spelled l) (lines_text ls))

framed_text : (id wm : ℤ) (ls : List OutLine) → (spelled (Head id wm) ++ lines_text ls) ++ spelled (End id (length ls)) ≡ lines_text (framed id wm ls)
framed_text id wm ls =
    let last = spelled (End id (length ls)) in
    append_assoc (spelled (Head id wm)) (lines_text ls) last
    ∙ ap (λ t. spelled (Head id wm) ++ (lines_text ls ++ t)) (sym (append-nil last))
    ∙ ap (λ t. spelled (Head id wm) ++ t) (sym (lines_text-append ls (End id (length ls) ∷ [])))

block_back : (id wm : ℤ) (ls rest : List OutLine) → list_all is_of_key ls ≡ true → entries_in None (framed id wm ls ++ rest) ≡ entry.Mark (Block (lines_text (framed id wm ls))) ∷ entries_in None rest
block_back id wm ls rest e =
    ap (entries_in (Some (spelled (Head id wm)))) (append_assoc ls (End id (length ls) ∷ []) rest)
    ∙ inside ls (End id (length ls) ∷ rest) (spelled (Head id wm)) e
    ∙ ap (λ t. entry.Mark (Block t) ∷ entries_in None rest) (framed_text id wm ls)

plain_entry : (e : Entry) (p : IsPlain e) (rest : List OutLine) → entries_in None (lines_in e p ++ rest) ≡ e ∷ entries_in None rest
plain_entry (entry.Out key values) p rest = refl
plain_entry (entry.Mark (Watermark time)) p rest = refl
plain_entry (entry.Mark (Block text)) p rest =
    block_back p.id p.wm p.lines rest p.of_keys ∙ ap (λ t. entry.Mark (Block t) ∷ entries_in None rest) (sym p.whole)

-- the entries that bytes spell
abbrev entries_of : List ℕ → List Entry
entries_of text = entries_in None (lines_read (cut_of text).ended)

entries_back : (es : List Entry) → AllByRecursion IsPlain es → entries_of (text_of es) ≡ es
entries_back [] p = refl
entries_back (e ∷ es) p =
    let ls = lines_in e p.0 in
    ap (λ t. entries_of (t ++ text_of es)) (plain_spelled e p.0)
    ∙ ap (entries_in None) (read_lines ls (text_of es) (plain_lines e p.0))
    ∙ plain_entry e p.0 (lines_read (cut_of (text_of es)).ended)
    ∙ ap (λ xs. e ∷ xs) (entries_back es p.1)

pub determined : (es fs : List Entry) → IsDetermined es fs
determined es fs p q same = sym (entries_back es p) ∙ ap entries_of same ∙ entries_back fs q
