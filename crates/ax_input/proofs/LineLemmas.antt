-- Lines that are written are read back.
use Rattle.std.proofs.Common.{◌≡◌, refl, ap, ◌∙◌, ℕ, ◌+◌, ◌*◌, ◌^◌, ◌≤◌, ℤ, pos, negsuc, Bool, true, false, cond, not, ◌&&◌, List, [], ◌∷◌, length, length-append, map, Some, None, arith, nat_le, nat_lt, nat_eq}
use Rattle.std.proofs.lemmas.List.{length-map}
use Rattle.std.proofs.lemmas.Bool.{and_parts, and_from, ltb-true}
use Rattle.std.proofs.lemmas.Bool.Decides.{nat_tests}
use Rattle.std.proofs.lemmas.Fmt.{length_signed_le, length-decimal-le}
use Rattle.std.specs.List.{list_all}
use Rattle.std.specs.Option.{is_none}
use Rattle.std.specs.Fmt.{decimal, signed_decimal}
use Rattle.ax_base.specs.Numbers.{number_of, is_number}
use Rattle.ax_base.specs.Lines.{no_feed}
use Rattle.ax_base.specs.Pieces.{is_too_long}
use Rattle.ax_base.proofs.PieceLemmas.{pieces_of-line}
use Rattle.ax_keys.specs.Keys.{is_key, is_key_byte}
use Rattle.ax_syntax.specs.Words.{Word, keyword_of, is_letter, is_name_byte, is_lettered, is_value_word, is_name}
use Rattle.ax_machine.specs.Events.{Event, Row, Mark as MarkEvent, Barrier}
use Rattle.ax_input.specs.Spellings.{numbers_of, both}
use Rattle.ax_input.specs.Events.{Good, Bad, event_of, event_by, row_by, row_with, mark_with, is_id, barrier_with, event_words, event_line, is_event, is_blank_or_comment}
use Rattle.ax_machine.specs.OutLines.{OutLine, Out, Mark, Head, Value, Item, Entry, Timer, End, line_words, line_of, behind_spaces}
use Rattle.ax_input.specs.OutLines.{is_few, when, out_by, mark_by, head_by, is_place, value_by, item_by, entry_by, timer_by, end_by, out_line_of, is_line}
use Rattle.ax_input.specs.Laws.{IsEventBack, IsLineBack, IsOneLine}
use Rattle.ax_input.proofs.SpellingLemmas.{is_ink, is_solid, words_of-spaced, no_feed-spaced, number_of-signed, number_of-decimal, solid_decimal, solid_signed, solid_numbers, numbers_of-signed}

-- bytes that pass one test pass another
weaker : (p q : ℕ → Bool) → ((b : ℕ) → p b ≡ true → q b ≡ true) → (w : Word) → list_all p w ≡ true → list_all q w ≡ true
weaker p q h [] e = refl
weaker p q h (b ∷ bs) e =
    let parts = and_parts (p b) (list_all p bs) e in
    ap (λ t. t && list_all q bs) (h b parts.0) ∙ weaker p q h bs parts.1

key_byte_ink : (b : ℕ) → is_key_byte b ≡ true → is_ink b ≡ true
key_byte_ink b e = let parts = and_parts (nat_le 33 b) (nat_le b 126) e in let low = parts.0 in grind (arith, nat_tests)

letter_ink : (b : ℕ) → is_letter b ≡ true → is_ink b ≡ true
letter_ink b e = let parts = and_parts (nat_le 97 b) (nat_le b 122) e in let low = parts.0 in grind (arith, nat_tests)

name_byte_ink : (b : ℕ) → is_name_byte b ≡ true → is_ink b ≡ true
name_byte_ink b e = grind (arith, nat_tests)

pub solid_key : (w : Word) → is_key w ≡ true → is_solid w ≡ true
solid_key [] e = absurd (cc)
solid_key (b ∷ bs) e = weaker is_key_byte is_ink key_byte_ink (b ∷ bs) (and_parts (nat_le 1 (length (b ∷ bs)) && nat_le (length (b ∷ bs)) 256) (list_all is_key_byte (b ∷ bs)) e).1

solid_lettered : (w : Word) → is_lettered w ≡ true → is_solid w ≡ true
solid_lettered [] e = absurd (cc)
solid_lettered (b ∷ bs) e =
    let parts = and_parts (is_letter b) (list_all is_name_byte bs) (and_parts (is_letter b && list_all is_name_byte bs) (nat_le (length bs) 31) e).0 in
    ap (λ t. t && list_all is_ink bs) (letter_ink b parts.0) ∙ weaker is_name_byte is_ink name_byte_ink bs parts.1

lettered_name : (w : Word) → is_name w ≡ true → is_lettered w ≡ true
unfolding is_name
lettered_name w e = (and_parts (is_lettered w) (is_none (keyword_of w)) (and_parts (is_lettered w && is_none (keyword_of w)) (not (is_value_word w)) e).0).0

solid_name : (w : Word) → is_name w ≡ true → is_solid w ≡ true
solid_name w e = solid_lettered w (lettered_name w e)

solid_count : (n : ℕ) → nat_lt n (2 ^ 63) ≡ true → is_solid (decimal n) ≡ true
solid_count n e = let small = ltb-true n (2 ^ 63) e in solid_decimal n (omega arith)

two_solid : (v w : Word) → is_solid v ≡ true → is_solid w ≡ true → list_all is_solid (v ∷ w ∷ []) ≡ true
two_solid v w p q = and_from (is_solid v) (is_solid w && true) p (and_from (is_solid w) true q refl)

one_solid : (w : Word) → is_solid w ≡ true → list_all is_solid (w ∷ []) ≡ true
one_solid w q = and_from (is_solid w) true q refl

place_solid : (key state : Word) (ws : List Word) → is_place key state ≡ true → list_all is_solid ws ≡ true → list_all is_solid (key ∷ state ∷ ws) ≡ true
place_solid key state ws p q =
    let parts = and_parts (is_key key) (is_name state) p in
    and_from (is_solid key) (is_solid state && list_all is_solid ws) (solid_key key parts.0) (and_from (is_solid state) (list_all is_solid ws) (solid_name state parts.1) q)

solid_line : (l : OutLine) → is_line l ≡ true → list_all is_solid (line_words l) ≡ true
solid_line (Out key values) e =
    let parts = and_parts (is_key key) (is_few (length values) && list_all is_number values) e in
    and_from (is_solid key) (list_all is_solid (map signed_decimal values)) (solid_key key parts.0) (solid_numbers values (and_parts (is_few (length values)) (list_all is_number values) parts.1).1)
solid_line (Mark time) e = one_solid (signed_decimal time) (solid_signed time e)
solid_line (Head id wm) e =
    let parts = and_parts (is_number id) (is_number wm) e in
    two_solid (signed_decimal id) (signed_decimal wm) (solid_signed id parts.0) (solid_signed wm parts.1)
solid_line (Value key state n) e =
    let parts = and_parts (is_place key state) (is_number n) e in
    place_solid key state (signed_decimal n ∷ []) parts.0 (one_solid (signed_decimal n) (solid_signed n parts.1))
solid_line (Item key state n) e =
    let parts = and_parts (is_place key state) (is_number n) e in
    place_solid key state (signed_decimal n ∷ []) parts.0 (one_solid (signed_decimal n) (solid_signed n parts.1))
solid_line (Entry key state k n) e =
    let parts = and_parts (is_place key state) (is_number k && is_number n) e in
    let numbers = and_parts (is_number k) (is_number n) parts.1 in
    place_solid key state (signed_decimal k ∷ signed_decimal n ∷ []) parts.0 (two_solid (signed_decimal k) (signed_decimal n) (solid_signed k numbers.0) (solid_signed n numbers.1))
solid_line (Timer key time) e =
    let parts = and_parts (is_key key) (is_number time) e in
    two_solid key (signed_decimal time) (solid_key key parts.0) (solid_signed time parts.1)
solid_line (End id count) e =
    let parts = and_parts (is_number id) (nat_lt count (2 ^ 63)) e in
    two_solid (signed_decimal id) (decimal count) (solid_signed id parts.0) (solid_count count parts.1)

solid_event : (e : Event) → is_event e ≡ true → list_all is_solid (event_words e) ≡ true
solid_event (Row key time values) e =
    let parts = and_parts (is_key key && is_number time) (nat_le (length values) 16 && list_all is_number values) e in
    let front = and_parts (is_key key) (is_number time) parts.0 in
    and_from (is_solid key) (is_solid (signed_decimal time) && list_all is_solid (map signed_decimal values)) (solid_key key front.0)
    (and_from (is_solid (signed_decimal time)) (list_all is_solid (map signed_decimal values)) (solid_signed time front.1)
    (solid_numbers values (and_parts (nat_le (length values) 16) (list_all is_number values) parts.1).1))
solid_event (MarkEvent time) e = one_solid (signed_decimal time) (solid_signed time e)
solid_event (Barrier id) e = one_solid (signed_decimal id) (solid_signed id (and_parts (is_number id) (is_id id) e).0)

-- the words of a line are that line

two_signed : (m n : ℤ) → is_number m ≡ true → is_number n ≡ true → both (number_of (signed_decimal m)) (number_of (signed_decimal n)) ≡ Some (m, n)
two_signed m n p q = ap (λ x. both x (number_of (signed_decimal n))) (number_of-signed m p) ∙ ap (λ y. both (Some m) y) (number_of-signed n q)

words_read : (l : OutLine) → is_line l ≡ true → out_line_of (line_words l) ≡ Some l
words_read (Out key values) e =
    let parts = and_parts (is_key key) (is_few (length values) && list_all is_number values) e in
    let rest = and_parts (is_few (length values)) (list_all is_number values) parts.1 in
    ap (λ n. cond (is_few n) (out_by key (numbers_of (map signed_decimal values))) None) (length-map values signed_decimal)
    ∙ ap (λ t. cond t (out_by key (numbers_of (map signed_decimal values))) None) rest.0
    ∙ ap (out_by key) (numbers_of-signed values rest.1)
    ∙ ap (λ t. when t (Out key values)) parts.0
words_read (Mark time) e = ap mark_by (number_of-signed time e)
words_read (Head id wm) e =
    let parts = and_parts (is_number id) (is_number wm) e in
    ap head_by (two_signed id wm parts.0 parts.1)
words_read (Value key state n) e =
    let parts = and_parts (is_place key state) (is_number n) e in
    ap (value_by key state) (number_of-signed n parts.1) ∙ ap (λ t. when t (Value key state n)) parts.0
words_read (Item key state n) e =
    let parts = and_parts (is_place key state) (is_number n) e in
    ap (item_by key state) (number_of-signed n parts.1) ∙ ap (λ t. when t (Item key state n)) parts.0
words_read (Entry key state k n) e =
    let parts = and_parts (is_place key state) (is_number k && is_number n) e in
    let numbers = and_parts (is_number k) (is_number n) parts.1 in
    ap (entry_by key state) (two_signed k n numbers.0 numbers.1) ∙ ap (λ t. when t (Entry key state k n)) parts.0
words_read (Timer key time) e =
    let parts = and_parts (is_key key) (is_number time) e in
    ap (timer_by key) (number_of-signed time parts.1) ∙ ap (λ t. when t (Timer key time)) parts.0
words_read (End id count) e =
    let parts = and_parts (is_number id) (nat_lt count (2 ^ 63)) e in
    ap (λ x. end_by (both x (number_of (decimal count)))) (number_of-signed id parts.0)
    ∙ ap (λ y. end_by (both (Some id) y)) (number_of-decimal count (ltb-true count (2 ^ 63) parts.1))

pub line_back : (l : OutLine) → IsLineBack l
line_back l e = ap out_line_of (words_of-spaced (line_words l) (solid_line l e)) ∙ words_read l e

row_read : (key : Word) (time : ℤ) (values : List ℤ) → is_event (Row key time values) ≡ true → row_by (length values) (key ∷ signed_decimal time ∷ map signed_decimal values) ≡ Good (Row key time values)
row_read key time values e =
    let parts = and_parts (is_key key && is_number time) (nat_le (length values) 16 && list_all is_number values) e in
    let front = and_parts (is_key key) (is_number time) parts.0 in
    let rest = and_parts (nat_le (length values) 16) (list_all is_number values) parts.1 in
    let long = length-map values signed_decimal in
    let same : nat_eq (length (map signed_decimal values)) (length values) ≡ true = grind (arith, nat_tests) in
    ap (λ t. cond (not t) (Bad 4) (cond (not (is_key key)) (Bad 2) (row_with key (number_of (signed_decimal time)) (numbers_of (map signed_decimal values))))) same
    ∙ ap (λ t. cond (not t) (Bad 2) (row_with key (number_of (signed_decimal time)) (numbers_of (map signed_decimal values)))) front.0
    ∙ ap (λ n. row_with key n (numbers_of (map signed_decimal values))) (number_of-signed time front.1)
    ∙ ap (row_with key (Some time)) (numbers_of-signed values rest.1)

pub event_back : (e : Event) → IsEventBack e
unfolding event_of
event_back (Row key time values) e =
    let words = words_of-spaced (event_words (Row key time values)) (solid_event (Row key time values) e) in
    (ap (event_by (length values)) words ∙ row_read key time values e, ap is_blank_or_comment words)
event_back (MarkEvent time) e =
    let words = words_of-spaced (event_words (MarkEvent time)) (solid_event (MarkEvent time) e) in
    (ap (event_by 0) words ∙ ap mark_with (number_of-signed time e), ap is_blank_or_comment words)
event_back (Barrier id) e =
    let words = words_of-spaced (event_words (Barrier id)) (solid_event (Barrier id) e) in
    let parts = and_parts (is_number id) (is_id id) e in
    (ap (event_by 0) words ∙ ap barrier_with (number_of-signed id parts.0) ∙ ap (λ t. cond t (Good (Barrier id)) (Bad 3)) parts.1, ap is_blank_or_comment words)

-- a spelling is one line

length_number : (z : ℤ) → is_number z ≡ true → length (signed_decimal z) ≤ 20
length_number (pos n) e = let small = ltb-true n (2 ^ 63) e in length_signed_le 19 (pos n) (omega arith) (omega arith)
length_number (negsuc n) e = let small = ltb-true n (2 ^ 63) e in length_signed_le 19 (negsuc n) (omega arith) (omega arith)

length_numbers : (ns : List ℤ) → list_all is_number ns ≡ true → length (behind_spaces (map signed_decimal ns)) ≤ 21 * length ns
length_numbers [] e = omega arith
length_numbers (n ∷ ns) e =
    let parts = and_parts (is_number n) (list_all is_number ns) e in
    omega (arith, length-append (signed_decimal n) (behind_spaces (map signed_decimal ns)), length_number n parts.0, length_numbers ns parts.1)

length_key : (w : Word) → is_key w ≡ true → length w ≤ 256
length_key w e =
    let parts = and_parts (nat_le 1 (length w)) (nat_le (length w) 256) (and_parts (nat_le 1 (length w) && nat_le (length w) 256) (list_all is_key_byte w) e).0 in
    let high = parts.1 in grind (arith, nat_tests)

length_lettered : (w : Word) → is_lettered w ≡ true → length w ≤ 32
length_lettered [] e = omega arith
length_lettered (b ∷ bs) e = let high = (and_parts (is_letter b && list_all is_name_byte bs) (nat_le (length bs) 31) e).1 in grind (arith, nat_tests)

length_name : (w : Word) → is_name w ≡ true → length w ≤ 32
length_name w e = length_lettered w (lettered_name w e)

length_count : (n : ℕ) → nat_lt n (2 ^ 63) ≡ true → length (decimal n) ≤ 20
length_count n e = let small = ltb-true n (2 ^ 63) e in length-decimal-le 20 n (omega arith) (omega arith) (omega arith)

length_one : (w : Word) → length (behind_spaces (w ∷ [])) ≡ length w + 1
length_one w = omega (arith, length-append w [])

length_two : (v w : Word) → length (behind_spaces (v ∷ w ∷ [])) ≡ length v + length w + 2
length_two v w = omega (arith, length-append v (behind_spaces (w ∷ [])), length_one w)

length_place : (key state : Word) (ws : List Word) → is_place key state ≡ true → length (behind_spaces (key ∷ state ∷ ws)) ≤ 290 + length (behind_spaces ws)
length_place key state ws e =
    let parts = and_parts (is_key key) (is_name state) e in
    omega (arith, length-append key (behind_spaces (state ∷ ws)), length-append state (behind_spaces ws), length_key key parts.0, length_name state parts.1)

length_line : (l : OutLine) → is_line l ≡ true → length (line_of l) ≤ 65536
length_line (Out key values) e =
    let parts = and_parts (is_key key) (is_few (length values) && list_all is_number values) e in
    let rest = and_parts (is_few (length values)) (list_all is_number values) parts.1 in
    let few = (and_parts (nat_le 1 (length values)) (nat_le (length values) 16) rest.0).1 in
    let most : length values ≤ 16 = grind (arith, nat_tests) in
    omega (arith, length-append key (behind_spaces (map signed_decimal values)), length_key key parts.0, length_numbers values rest.1)
length_line (Mark time) e = omega (arith, length_one (signed_decimal time), length_number time e)
length_line (Head id wm) e =
    let parts = and_parts (is_number id) (is_number wm) e in
    omega (arith, length_two (signed_decimal id) (signed_decimal wm), length_number id parts.0, length_number wm parts.1)
length_line (Value key state n) e =
    let parts = and_parts (is_place key state) (is_number n) e in
    omega (arith, length_place key state (signed_decimal n ∷ []) parts.0, length_one (signed_decimal n), length_number n parts.1)
length_line (Item key state n) e =
    let parts = and_parts (is_place key state) (is_number n) e in
    omega (arith, length_place key state (signed_decimal n ∷ []) parts.0, length_one (signed_decimal n), length_number n parts.1)
length_line (Entry key state k n) e =
    let parts = and_parts (is_place key state) (is_number k && is_number n) e in
    let numbers = and_parts (is_number k) (is_number n) parts.1 in
    omega (arith, length_place key state (signed_decimal k ∷ signed_decimal n ∷ []) parts.0, length_two (signed_decimal k) (signed_decimal n), length_number k numbers.0, length_number n numbers.1)
length_line (Timer key time) e =
    let parts = and_parts (is_key key) (is_number time) e in
    omega (arith, length_two key (signed_decimal time), length_key key parts.0, length_number time parts.1)
length_line (End id count) e =
    let parts = and_parts (is_number id) (nat_lt count (2 ^ 63)) e in
    omega (arith, length_two (signed_decimal id) (decimal count), length_number id parts.0, length_count count parts.1)

length_event : (e : Event) → is_event e ≡ true → length (event_line e) ≤ 65536
length_event (Row key time values) e =
    let parts = and_parts (is_key key && is_number time) (nat_le (length values) 16 && list_all is_number values) e in
    let front = and_parts (is_key key) (is_number time) parts.0 in
    let rest = and_parts (nat_le (length values) 16) (list_all is_number values) parts.1 in
    let few = rest.0 in
    let most : length values ≤ 16 = grind (arith, nat_tests) in
    omega (
      arith,
      length-append key (behind_spaces (signed_decimal time ∷ map signed_decimal values)),
      length-append (signed_decimal time) (behind_spaces (map signed_decimal values)),
      length_key key front.0,
      length_number time front.1,
      length_numbers values rest.1,
    )
length_event (MarkEvent time) e = omega (arith, length_one (signed_decimal time), length_number time e)
length_event (Barrier id) e =
    let parts = and_parts (is_number id) (is_id id) e in
    omega (arith, length_one (signed_decimal id), length_number id parts.0)

pub no_feed_line : (l : OutLine) → is_line l ≡ true → no_feed (line_of l) ≡ true
no_feed_line l e = no_feed-spaced (line_words l) (solid_line l e)

not_long : (n limit : ℕ) → n ≤ 65536 → is_too_long n limit ≡ false
not_long n limit h =
    let short : nat_lt 65536 n ≡ false = grind (arith, nat_tests) in
    ap (λ t. t && nat_lt 65536 limit) short

pub one_line : (l : OutLine) (rest : List ℕ) (limit : ℕ) → is_line l ≡ true → IsOneLine (line_of l) rest limit
one_line l rest limit e within =
    pieces_of-line limit (line_of l) rest (no_feed_line l e) (not_long (length (line_of l)) limit (length_line l e)) within

pub one_event : (e : Event) (rest : List ℕ) (limit : ℕ) → is_event e ≡ true → IsOneLine (event_line e) rest limit
one_event e rest limit h within =
    pieces_of-line limit (event_line e) rest (no_feed-spaced (event_words e) (solid_event e h)) (not_long (length (event_line e)) limit (length_event e h)) within
