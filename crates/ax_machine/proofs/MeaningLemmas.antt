-- What a list that is lawful, or lawful so far, says.
use Rattle.std.proofs.Common.{◌≡◌, ℕ, ◌≤◌, List, [], ◌∷◌, ◌++◌, length, Bool, true, false, refl, sym, ap, ◌∙◌, arith, subst, length-append, append-nil}
use mathlib.Core.Path.{fun_ext}
use Rattle.ax_machine.specs.Entries.{Key, Marker, Watermark, Block, Entry, Out, Mark, lines_of}
use Rattle.ax_machine.specs.Lawful.{IsPrefix, Cut, one_more, cuts_from, cuts, markers, HasAll, IsStrict, HasNoMore, line_count, LawfulSoFar, Lawful, HasPlace}
use Rattle.ax_machine.proofs.FrontLemmas.{counts_behind, cuts_from-append, prefix_count, counts, count_is, front_lines, written_first}

same_head : {A : Type 0} {x y : A} {xs ys : List A} → x ∷ xs ≡ y ∷ ys → x ≡ y
same_head e = cc

same_tail : {A : Type 0} {x y : A} {xs ys : List A} → x ∷ xs ≡ y ∷ ys → xs ≡ ys
same_tail e = cc

-- of two fronts of one list, the shorter one is a front of the other; of one length they are one
shorter_front : {A : Type 0} (xs ys zs : List A) → IsPrefix xs zs → IsPrefix ys zs → length xs ≤ length ys → IsPrefix xs ys
shorter_front [] ys zs p q h = (ys, refl)
shorter_front (x ∷ xs) [] zs p q h = absurd (omega arith)
shorter_front (x ∷ xs) (y ∷ ys) [] p q h = let none : [] ≡ x ∷ (xs ++ p.0) = p.1 in absurd (cc)
shorter_front (x ∷ xs) (y ∷ ys) (z ∷ zs) p q h =
    let more : IsPrefix xs ys = shorter_front xs ys zs (p.0, same_tail p.1) (q.0, same_tail q.1) (omega arith) in
    let same : y ≡ x = sym (same_head q.1) ∙ same_head p.1 in
    (more.0, ap (λ v. v ∷ ys) same ∙ ap (λ vs. x ∷ vs) more.1)

no_rest : {A : Type 0} (xs rest : List A) → length (xs ++ rest) ≤ length xs → xs ++ rest ≡ xs
no_rest xs [] h = append-nil xs
no_rest xs (r ∷ rest) h = absurd (omega (arith, length-append xs (r ∷ rest)))

same_front : {A : Type 0} (xs ys zs : List A) → IsPrefix xs zs → IsPrefix ys zs → length xs ≤ length ys → length ys ≤ length xs → ys ≡ xs
same_front xs ys zs p q a b =
    let more : IsPrefix xs ys = shorter_front xs ys zs p q a in
    more.1 ∙ no_rest xs more.0 (omega (arith, ap length more.1))

-- the cut of the plain thread's list that belongs to a cut of what was written
record Pair (serial : Bool) (cs : List Cut) (c : Cut) (ds : List Cut) : Type 0 where
  fore : List Cut
  at : Cut
  aft : List Cut
  stands : ds ≡ fore ++ at ∷ aft
  markers : markers cs ≡ markers fore
  marker : c.marker ≡ at.marker
  has_all : (k : Key) → at.lines k ≤ c.lines k
  has_no_more : IsStrict serial at.marker → (k : Key) → c.lines k ≤ at.lines k

pair_of : (serial : Bool) (all : Key → ℕ) (cs : List Cut) (c : Cut) (rest ds : List Cut) → IsPrefix (markers (cs ++ c ∷ rest)) (markers ds)
    → HasAll (cs ++ c ∷ rest) ds → HasNoMore serial all (cs ++ c ∷ rest) ds → Pair serial cs c ds
pair_of serial all [] c rest [] m a n = absurd a
pair_of serial all [] c rest (d ∷ ds) m a n = record {
  fore = [];
  at = d;
  aft = ds;
  stands = refl;
  markers = refl;
  marker = sym (same_head m.1);
  has_all = a.0;
  has_no_more = n.0;
}
pair_of serial all (b ∷ cs) c rest [] m a n = absurd a
pair_of serial all (b ∷ cs) c rest (d ∷ ds) m a n =
    let later : Pair serial cs c ds = pair_of serial all cs c rest ds (m.0, same_tail m.1) a.1 n.1 in
    record {
      fore = d ∷ later.fore;
      at = later.at;
      aft = later.aft;
      stands = ap (λ (es : List Cut). d ∷ es) later.stands;
      markers = ap (λ (k : Marker). k ∷ markers cs) (sym (same_head m.1)) ∙ ap (λ (ms : List Marker). d.marker ∷ ms) later.markers;
      marker = later.marker;
      has_all = later.has_all;
      has_no_more = later.has_no_more;
    }

-- the entries before and behind a cut
record Found (n : Key → ℕ) (es : List Entry) (fore : List Cut) (at : Cut) : Type 0 where
  before : List Entry
  behind : List Entry
  stands : es ≡ before ++ Mark at.marker ∷ behind
  cuts : cuts_from n before ≡ fore
  lines : at.lines ≡ counts_behind n before

found : (n : Key → ℕ) (es : List Entry) (fore : List Cut) (at : Cut) (aft : List Cut) → cuts_from n es ≡ fore ++ at ∷ aft → Found n es fore at
unfolding counts_behind
found n [] [] at aft e = absurd (cc)
found n [] (f ∷ fore) at aft e = absurd (cc)
found n (Out k line ∷ es) fore at aft e =
    let later : Found (one_more n k) es fore at = found (one_more n k) es fore at aft e in
    record {
      before = Out k line ∷ later.before;
      behind = later.behind;
      stands = ap (λ (xs : List Entry). Out k line ∷ xs) later.stands;
      cuts = later.cuts;
      lines = later.lines;
    }
found n (Mark m ∷ es) [] at aft e =
    let same : record { marker = m; lines = n } ≡ at = same_head e in
    record {
      before = [];
      behind = es;
      stands = ap (λ (c : Cut). Mark c.marker ∷ es) same;
      cuts = refl;
      lines = ap (λ (c : Cut). c.lines) (sym same);
    }
found n (Mark m ∷ es) (f ∷ fore) at aft e =
    let later : Found n es fore at = found n es fore at aft (same_tail e) in
    record {
      before = Mark m ∷ later.before;
      behind = later.behind;
      stands = ap (λ (xs : List Entry). Mark m ∷ xs) later.stands;
      cuts = ap (λ (c : Cut). c ∷ cuts_from n later.before) (same_head e) ∙ ap (λ (cs : List Cut). f ∷ cs) later.cuts;
      lines = later.lines;
    }

cuts_at : (front rest : List Entry) (marker : Marker) → cuts (front ++ Mark marker ∷ rest) ≡ cuts front ++ record { marker = marker; lines = counts front } ∷ cuts_from (counts front) rest
cuts_at front rest marker = cuts_from-append (λ k. 0) front (Mark marker ∷ rest)

-- the place of a marker whose cut belongs to this one of the plain thread's, which stands there
place_of : (serial : Bool) (front rest plain : List Entry) (marker : Marker) → LawfulSoFar serial (front ++ Mark marker ∷ rest) plain
    → (pair : Pair serial (cuts front) (record { marker = marker; lines = counts front }) (cuts plain)) (it : Found (λ k. 0) plain pair.fore pair.at) → HasPlace serial front marker plain
place_of serial front rest plain marker h pair it = record {
  before = it.before;
  behind = it.behind;
  stands = it.stands ∙ ap (λ (m : Marker). it.before ++ Mark m ∷ it.behind) (sym pair.marker);
  markers = pair.markers ∙ ap markers (sym it.cuts);
  has_all = λ k. shorter_front (lines_of k it.before) (lines_of k front) (lines_of k plain) (first k) (written k) (fewer k);
  has_no_more = λ s k. same_front (lines_of k it.before) (lines_of k front) (lines_of k plain) (first k) (written k) (fewer k) (most s k);
}
  where
    lines : (k : Key) → pair.at.lines k ≡ counts it.before k
    lines k = ap (λ (n : Key → ℕ). n k) it.lines

    fewer : (k : Key) → line_count it.before k ≤ line_count front k
    fewer k = omega (arith, lines k, pair.has_all k, count_is it.before k, count_is front k)

    most : IsStrict serial marker → (k : Key) → line_count front k ≤ line_count it.before k
    most s k = omega (arith, lines k, pair.has_no_more (subst (IsStrict serial) pair.marker s) k, count_is it.before k, count_is front k)

    first : (k : Key) → IsPrefix (lines_of k it.before) (lines_of k plain)
    first k = front_lines k it.before (Mark pair.at.marker ∷ it.behind) plain it.stands

    written : (k : Key) → IsPrefix (lines_of k front) (lines_of k plain)
    written k = written_first serial front (Mark marker ∷ rest) plain h k

pub has_place : (serial : Bool) (front rest plain : List Entry) (marker : Marker) → LawfulSoFar serial (front ++ Mark marker ∷ rest) plain → HasPlace serial front marker plain
has_place serial front rest plain marker h =
    let here : Cut = record { marker = marker; lines = counts front } in
    let further : List Cut = cuts_from (counts front) rest in
    let both : cuts (front ++ Mark marker ∷ rest) ≡ cuts front ++ here ∷ further = cuts_at front rest marker in
    let Goes : List Cut → Type 0 = λ cs. IsPrefix (markers cs) (markers (cuts plain)) in
    let AllOf : List Cut → Type 0 = λ cs. HasAll cs (cuts plain) in
    let NoMoreOf : List Cut → Type 0 = λ cs. HasNoMore serial (line_count (front ++ Mark marker ∷ rest)) cs (cuts plain) in
    let pair : Pair serial (cuts front) here (cuts plain) = pair_of serial (line_count (front ++ Mark marker ∷ rest)) (cuts front) here further (cuts plain)
    (subst Goes both h.markers) (subst AllOf both h.has_all) (subst NoMoreOf both h.has_no_more) in
    place_of serial front rest plain marker h pair (found (λ k. 0) plain pair.fore pair.at pair.aft pair.stands)

-- where a strict marker isn't written yet, no key has more lines than it has there
waits : (serial : Bool) (all : Key → ℕ) (cs fore : List Cut) (at : Cut) (aft : List Cut) → HasNoMore serial all cs (fore ++ at ∷ aft) → length cs ≤ length fore → IsStrict serial at.marker
    → (k : Key) → all k ≤ at.lines k
waits serial all [] [] at aft h few s k = h.0 s k
waits serial all [] (f ∷ fore) at aft h few s k = waits serial all [] fore at aft h.1 (omega arith) s k
waits serial all (c ∷ cs) [] at aft h few s k = absurd (omega arith)
waits serial all (c ∷ cs) (f ∷ fore) at aft h few s k = waits serial all cs fore at aft h.1 (omega arith) s k

marker_count : (cs : List Cut) → length (markers cs) ≡ length cs
marker_count [] = refl
marker_count (c ∷ cs) = let more : length (markers cs) ≡ length cs = marker_count cs in omega (arith, more)

pub held_back : (serial : Bool) (written before behind : List Entry) (marker : Marker) → LawfulSoFar serial written (before ++ Mark marker ∷ behind) → IsStrict serial marker
    → IsPrefix (markers (cuts written)) (markers (cuts before)) → (k : Key) → IsPrefix (lines_of k written) (lines_of k before)
held_back serial written before behind marker h s first k =
    let plain : List Entry = before ++ Mark marker ∷ behind in
    let NoMoreOf : List Cut → Type 0 = HasNoMore serial (line_count written) (cuts written) in
    let few : length (cuts written) ≤ length (cuts before) =
    omega (arith, prefix_count (markers (cuts written)) (markers (cuts before)) first, marker_count (cuts written), marker_count (cuts before)) in
    let most : line_count written k ≤ counts before k = waits serial (line_count written) (cuts written) (cuts before) (record { marker = marker; lines = counts before }) (cuts_from (counts before) behind)
    (subst NoMoreOf (cuts_at before behind marker) h.has_no_more) few s k in
    shorter_front (lines_of k written) (lines_of k before) (lines_of k plain) (h.lines k) (front_lines k before (Mark marker ∷ behind) plain refl) (omega (arith, most, count_is before k))

-- in serial mode each marker is strict
all_strict : (m : Marker) → IsStrict true m
all_strict (Watermark time) = refl
all_strict (Block text) = tt

cut_path : (c d : Cut) → c.marker ≡ d.marker → c.lines ≡ d.lines → c ≡ d
cut_path c d p q = λ i. record { marker = p i; lines = q i }

level : (m n : ℕ) → m ≤ n → n ≤ m → n ≡ m
level m n a b = omega arith

same_cuts : (all : Key → ℕ) (cs ds : List Cut) → markers cs ≡ markers ds → HasAll cs ds → HasNoMore true all cs ds → cs ≡ ds
same_cuts all [] [] m a n = refl
same_cuts all [] (d ∷ ds) m a n = absurd (cc)
same_cuts all (c ∷ cs) [] m a n = absurd a
same_cuts all (c ∷ cs) (d ∷ ds) m a n =
    ap (λ (b : Cut). b ∷ cs) (cut_path c d (same_head m) (fun_ext (λ k. level (d.lines k) (c.lines k) (a.0 k) (n.0 (all_strict d.marker) k))))
    ∙ ap (λ (bs : List Cut). d ∷ bs) (same_cuts all cs ds (same_tail m) a.1 n.1)

pub serial_cuts : (written plain : List Entry) → Lawful true written plain → cuts written ≡ cuts plain
serial_cuts written plain h = same_cuts (line_count written) (cuts written) (cuts plain) h.markers h.has_all h.has_no_more

serial_no_more : (all : Key → ℕ) (cs ds : List Cut) → HasNoMore true all cs ds → HasNoMore false all cs ds
serial_no_more all cs [] h = tt
serial_no_more all [] (d ∷ ds) h = (λ s k. h.0 (all_strict d.marker) k, serial_no_more all [] ds h.1)
serial_no_more all (c ∷ cs) (d ∷ ds) h = (λ s k. h.0 (all_strict d.marker) k, serial_no_more all cs ds h.1)

pub parallel_whole : (written plain : List Entry) → Lawful true written plain → Lawful false written plain
parallel_whole written plain h = record {
  lines = h.lines;
  markers = h.markers;
  has_all = h.has_all;
  has_no_more = serial_no_more (line_count written) (cuts written) (cuts plain) h.has_no_more;
}

pub parallel_so_far : (written plain : List Entry) → LawfulSoFar true written plain → LawfulSoFar false written plain
parallel_so_far written plain h = record {
  lines = h.lines;
  markers = h.markers;
  has_all = h.has_all;
  has_no_more = serial_no_more (line_count written) (cuts written) (cuts plain) h.has_no_more;
}
