-- Lists that are refused, and lists that are accepted, in the place of what the plain thread writes.
use Rattle.std.proofs.Common.{◌≡◌, ◌+◌, ◌≤◌, ℤ, pos, List, [], ◌∷◌, Bool, true, false, cond, codes, refl, sym, arith, subst}
use Rattle.std.specs.Str.{bytes_eq}
use Rattle.std.specs.Fmt.{digits}
use Rattle.std.proofs.lemmas.Bool.{true≢false}
use Rattle.ax_text.specs.Exprs.{apply_op}
use Rattle.ax_machine.specs.Entries.{Key, Entry, lines_of}
use Rattle.ax_machine.specs.Firings.{most_firings}
use Rattle.ax_machine.specs.Sync.{sync}
use Rattle.ax_machine.specs.Lawful.{IsPrefix, one_more, line_count, Lawful, LawfulSoFar, LawfulFor, LawfulSoFarFor}
use Rattle.ax_machine.specs.Examples.{counting, clicks, line, alarm, mixed, mixed_entries, first_a, firing_a, mark_3, row_b, block_1, last_a}
use Rattle.ax_machine.proofs.FiringLemmas.{key_is}
use Rattle.ax_machine.proofs.FrontLemmas.{counts_behind, counts_behind-is, more_if}

pub mixed_is : (sync 128 alarm mixed).entries ≡ mixed_entries
unfolding most_firings digits
mixed_is = refl

clicks_are : (sync 128 counting clicks).entries ≡ line (codes "a") (pos 5) ∷ line (codes "b") (pos 1) ∷ line (codes "a") (pos 12) ∷ []
unfolding apply_op
clicks_are = refl

against : (serial : Bool) (written : List Entry) → LawfulFor 128 serial alarm mixed written → Lawful serial written mixed_entries
against serial written h = let It : List Entry → Type 0 = Lawful serial written in subst It mixed_is h

against_so_far : (serial : Bool) (written : List Entry) → LawfulSoFarFor 128 serial alarm mixed written → LawfulSoFar serial written mixed_entries
against_so_far serial written h = let It : List Entry → Type 0 = LawfulSoFar serial written in subst It mixed_is h

too_few : 2 ≤ 1 → ⊥
too_few h = absurd (omega (arith, h))

one_too_many : 1 ≤ 0 → ⊥
one_too_many h = absurd (omega (arith, h))

three_at_most_two : 3 ≤ 2 → ⊥
three_at_most_two h = absurd (omega (arith, h))

pub firing_missing : (serial : Bool) → LawfulFor 128 serial alarm mixed (first_a ∷ mark_3 ∷ firing_a ∷ row_b ∷ block_1 ∷ last_a ∷ []) → ⊥
firing_missing serial h = too_few ((against serial (first_a ∷ mark_3 ∷ firing_a ∷ row_b ∷ block_1 ∷ last_a ∷ []) h).has_all.0 (codes "a"))

pub row_too_early : LawfulFor 128 true alarm mixed (first_a ∷ firing_a ∷ row_b ∷ mark_3 ∷ block_1 ∷ last_a ∷ []) → ⊥
row_too_early h = one_too_many ((against true (first_a ∷ firing_a ∷ row_b ∷ mark_3 ∷ block_1 ∷ last_a ∷ []) h).has_no_more.0 refl (codes "b"))

pub row_in_parallel : LawfulFor 128 false alarm mixed (first_a ∷ firing_a ∷ row_b ∷ mark_3 ∷ block_1 ∷ last_a ∷ [])
row_in_parallel =
    let written : List Entry = first_a ∷ firing_a ∷ row_b ∷ mark_3 ∷ block_1 ∷ last_a ∷ [] in
    let It : List Entry → Type 0 = Lawful false written in
    subst It (sym mixed_is) (record {
      lines = λ k. refl;
      markers = refl;
      has_all = (λ k. more_if (bytes_eq (codes "b") k) _, (λ k. omega arith, tt));
      has_no_more = (λ s k. absurd (true≢false (sym s)), (λ s k. omega arith, tt));
    })

pub block_too_early : (serial : Bool) → LawfulFor 128 serial alarm mixed (first_a ∷ firing_a ∷ mark_3 ∷ block_1 ∷ row_b ∷ last_a ∷ []) → ⊥
block_too_early serial h = one_too_many ((against serial (first_a ∷ firing_a ∷ mark_3 ∷ block_1 ∷ row_b ∷ last_a ∷ []) h).has_all.1.0 (codes "b"))

pub block_too_late : (serial : Bool) → LawfulFor 128 serial alarm mixed (first_a ∷ firing_a ∷ mark_3 ∷ row_b ∷ last_a ∷ block_1 ∷ []) → ⊥
block_too_late serial h = three_at_most_two ((against serial (first_a ∷ firing_a ∷ mark_3 ∷ row_b ∷ last_a ∷ block_1 ∷ []) h).has_no_more.1.0 tt (codes "a"))

pub line_missing : (serial : Bool) → LawfulFor 128 serial alarm mixed (first_a ∷ firing_a ∷ mark_3 ∷ row_b ∷ block_1 ∷ []) → ⊥
line_missing serial h =
    let lines : lines_of (codes "a") (first_a ∷ firing_a ∷ mark_3 ∷ row_b ∷ block_1 ∷ []) ≡ lines_of (codes "a") mixed_entries =
    (against serial (first_a ∷ firing_a ∷ mark_3 ∷ row_b ∷ block_1 ∷ []) h).lines (codes "a") in
    absurd (cc)

pub marker_missing : (serial : Bool) → LawfulFor 128 serial alarm mixed (first_a ∷ firing_a ∷ row_b ∷ block_1 ∷ last_a ∷ []) → ⊥
marker_missing serial h =
    let marked = (against serial (first_a ∷ firing_a ∷ row_b ∷ block_1 ∷ last_a ∷ []) h).markers in
    absurd (cc)

pub marker_twice : (serial : Bool) → LawfulSoFarFor 128 serial alarm mixed (first_a ∷ firing_a ∷ mark_3 ∷ mark_3 ∷ []) → ⊥
marker_twice serial h =
    let marked = (against_so_far serial (first_a ∷ firing_a ∷ mark_3 ∷ mark_3 ∷ []) h).markers.1 in
    absurd (cc)

pub firing_missing_so_far : (serial : Bool) → LawfulSoFarFor 128 serial alarm mixed (first_a ∷ mark_3 ∷ []) → ⊥
firing_missing_so_far serial h = too_few ((against_so_far serial (first_a ∷ mark_3 ∷ []) h).has_all.0 (codes "a"))

pub row_too_early_so_far : LawfulSoFarFor 128 true alarm mixed (first_a ∷ firing_a ∷ row_b ∷ []) → ⊥
row_too_early_so_far h = one_too_many ((against_so_far true (first_a ∷ firing_a ∷ row_b ∷ []) h).has_no_more.0 refl (codes "b"))

pub last_too_early_so_far : (serial : Bool) → LawfulSoFarFor 128 serial alarm mixed (first_a ∷ firing_a ∷ last_a ∷ []) → ⊥
last_too_early_so_far serial h = three_at_most_two ((against_so_far serial (first_a ∷ firing_a ∷ last_a ∷ []) h).has_no_more.1.0 tt (codes "a"))

-- lines of a, and then one of b: a front of what is written of each key
front_if : (a b : Bool) (x y z v : List ℤ) → IsPrefix (cond a (x ∷ cond a (y ∷ cond b (z ∷ []) []) (cond b (z ∷ []) [])) (cond a (y ∷ cond b (z ∷ []) []) (cond b (z ∷ []) [])))
    (cond a (x ∷ cond a (y ∷ cond b (z ∷ cond a (v ∷ []) []) (cond a (v ∷ []) [])) (cond b (z ∷ cond a (v ∷ []) []) (cond a (v ∷ []) []))) (cond a (y ∷ cond b (z ∷ cond a (v ∷ []) []) (cond a (v ∷ []) [])) (cond b (z ∷ cond a (v ∷ []) []) (cond a (v ∷ []) []))))
front_if true true x y z v = (v ∷ [], refl)
front_if true false x y z v = (v ∷ [], refl)
front_if false true x y z v = ([], refl)
front_if false false x y z v = ([], refl)

count_so_far : (k : Key) → line_count (first_a ∷ firing_a ∷ row_b ∷ []) k ≤ one_more (one_more (one_more (λ j. 0) (codes "a")) (codes "a")) (codes "b") k
unfolding counts_behind
count_so_far k =
    let all : one_more (one_more (one_more (λ j. 0) (codes "a")) (codes "a")) (codes "b") k ≡ 0 + line_count (first_a ∷ firing_a ∷ row_b ∷ []) k =
    counts_behind-is (λ j. 0) (first_a ∷ firing_a ∷ row_b ∷ []) k in
    omega (arith, all)

pub row_in_parallel_so_far : LawfulSoFarFor 128 false alarm mixed (first_a ∷ firing_a ∷ row_b ∷ [])
row_in_parallel_so_far =
    let written : List Entry = first_a ∷ firing_a ∷ row_b ∷ [] in
    let It : List Entry → Type 0 = LawfulSoFar false written in
    subst It (sym mixed_is) (record {
      lines = λ k. front_if (bytes_eq (codes "a") k) (bytes_eq (codes "b") k) _ _ _ _;
      markers = (_, refl);
      has_all = tt;
      has_no_more = (λ s k. absurd (true≢false (sym s)), (λ s k. count_so_far k, tt));
    })

-- lines of two keys by turns, and of one behind those of the other
turns_if : (a b : Bool) (x y z : List ℤ) → (a ≡ true → b ≡ true → ⊥) → cond b (y ∷ cond a (x ∷ cond a (z ∷ []) []) (cond a (z ∷ []) [])) (cond a (x ∷ cond a (z ∷ []) []) (cond a (z ∷ []) []))
    ≡ cond a (x ∷ cond b (y ∷ cond a (z ∷ []) []) (cond a (z ∷ []) [])) (cond b (y ∷ cond a (z ∷ []) []) (cond a (z ∷ []) []))
turns_if true true x y z h = absurd (h refl refl)
turns_if true false x y z h = refl
turns_if false true x y z h = refl
turns_if false false x y z h = refl

not_both : (k : Key) → bytes_eq (codes "a") k ≡ true → bytes_eq (codes "b") k ≡ true → ⊥
not_both k p q = true≢false (sym (subst (λ (j : Key). bytes_eq (codes "b") j ≡ true) (sym (key_is (codes "a") k p)) q))

pub keys_swapped : (serial : Bool) → LawfulFor 128 serial counting clicks (line (codes "b") (pos 1) ∷ line (codes "a") (pos 5) ∷ line (codes "a") (pos 12) ∷ [])
keys_swapped serial =
    let written : List Entry = line (codes "b") (pos 1) ∷ line (codes "a") (pos 5) ∷ line (codes "a") (pos 12) ∷ [] in
    let It : List Entry → Type 0 = Lawful serial written in
    subst It (sym clicks_are) (record {
      lines = λ k. turns_if (bytes_eq (codes "a") k) (bytes_eq (codes "b") k) _ _ _ (not_both k);
      markers = refl;
      has_all = tt;
      has_no_more = tt;
    })

pub lines_swapped : (serial : Bool) → LawfulFor 128 serial counting clicks (line (codes "a") (pos 12) ∷ line (codes "a") (pos 5) ∷ line (codes "b") (pos 1) ∷ []) → ⊥
lines_swapped serial h =
    let written : List Entry = line (codes "a") (pos 12) ∷ line (codes "a") (pos 5) ∷ line (codes "b") (pos 1) ∷ [] in
    let It : List Entry → Type 0 = Lawful serial written in
    let against : Lawful serial written (line (codes "a") (pos 5) ∷ line (codes "b") (pos 1) ∷ line (codes "a") (pos 12) ∷ []) = subst It clicks_are h in
    let lines = against.lines (codes "a") in
    absurd (cc)
