-- How sums over the controls of keys change where one key's control does.
use Rattle.std.proofs.Common.{◌≡◌, ℕ, suc, ◌+◌, ℤ, List, ◌∷◌, true, false, Option, Some, None, sym, ap, ◌∙◌, arith}
use Rattle.std.proofs.lemmas.Bool.{cond-true, cond-false}
use Rattle.std.specs.Str.{bytes_eq}
use Rattle.std.specs.List.{list_any}
use Rattle.std.specs.List.Sorted.{IsStrictlySortedBy}
use Rattle.std.specs.BTreeSet.{insert_key}
use Rattle.ax_keys.specs.Keys.{key_cmp}
use Rattle.ax_text.specs.Exprs.{Facts}
use Rattle.ax_machine.specs.Entries.{Key}
use Rattle.ax_machine.proofs.FiringLemmas.{same_key}
use Rattle.ax_execution.specs.Sums.{total}
use Rattle.ax_execution.specs.Contexts.{Context, row_context, Waiting, Row, Mark, rows_in, may_fire}
use Rattle.ax_execution.specs.Counts.{one_at, owner_of_epoch, waiting_of_epoch, rows_numbered}
use Rattle.ax_execution.specs.KeyControls.{KeyControl}
use Rattle.ax_execution.specs.ControlTurns.{contexts_on, handed_on}
use Rattle.ax_execution.specs.MachineControls.{MachineControl, control_at, control_goes_on, in_flight_on, control_of_epoch, epoch_count_on, control_numbered, number_count_on, control_references, reference_count_on}
use Rattle.ax_execution.specs.ControlsAllowed.{IsFreeOn}
use Rattle.ax_execution.specs.ControlChanges.{marks_off}
use Rattle.ax_execution.specs.Reached.{owed_to, owed_in}
use Rattle.ax_execution.proofs.Upto.{by_cases}
use Rattle.ax_execution.proofs.KeySums.{once_from, inserted_total, inserted_again}
use Rattle.ax_execution.proofs.Stuck.{others_stay, total_changes}

-- a key with this owner, these that wait and these times
abbrev pub keyed : Option Context → List Waiting → List ℤ → KeyControl
keyed o is times = record { owner = o; waiting = is; times = times }

pub own_control : (controls : Key → KeyControl) (k : Key) (c : KeyControl) → control_at controls k c k ≡ c
own_control controls k c = cond-true (bytes_eq k k) c (controls k) (same_key k)

pub other_control : (controls : Key → KeyControl) (k : Key) (c : KeyControl) (j : Key) → bytes_eq k j ≡ false → control_at controls k c j ≡ controls j
other_control controls k c j x = cond-false (bytes_eq k j) c (controls j) x

-- over rising keys
module _ (f : KeyControl → ℕ) (controls : Key → KeyControl) (ks : List Key) (rise : IsStrictlySortedBy key_cmp ks) (k : Key) (c : KeyControl) where
  here : f (control_at controls k c k) ≡ f c
  here = ap f (own_control controls k c)

  elsewhere : (j : Key) → bytes_eq k j ≡ false → f (control_at controls k c j) ≡ f (controls j)
  elsewhere j x = ap f (other_control controls k c j x)

  -- the key is among them
  pub one_changes : list_any (bytes_eq k) ks ≡ true → total ks (λ j. f (control_at controls k c j)) + f (controls k) ≡ total ks (λ j. f (controls j)) + f c
  one_changes known =
      let a : f (control_at controls k c k) ≡ f c = here in
      let b : total ks (λ j. f (control_at controls k c j)) + f (controls k) ≡ total ks (λ j. f (controls j)) + f (control_at controls k c k) =
      total_changes k (λ j. f (controls j)) (λ j. f (control_at controls k c j)) ks elsewhere (once_from k ks rise known) in
      omega arith

  -- it isn't
  pub none_changes : list_any (bytes_eq k) ks ≡ false → total ks (λ j. f (control_at controls k c j)) ≡ total ks (λ j. f (controls j))
  none_changes absent = others_stay k (λ j. f (controls j)) (λ j. f (control_at controls k c j)) ks elsewhere absent

  -- it is put among them, and counts nothing before that
  pub one_enters : (list_any (bytes_eq k) ks ≡ false → f (controls k) ≡ 0) → total (insert_key key_cmp ks k) (λ j. f (control_at controls k c j)) + f (controls k) ≡ total ks (λ j. f (controls j)) + f c
  one_enters none = by_cases (list_any (bytes_eq k) ks)
      (λ known. ap (λ (js : List Key). total js (λ j. f (control_at controls k c j)) + f (controls k)) (inserted_again k ks rise known) ∙ one_changes known)
      (λ absent. let a : f (control_at controls k c k) ≡ f c = here in
      let b : f (controls k) ≡ 0 = none absent in
      let d : total ks (λ j. f (control_at controls k c j)) ≡ total ks (λ j. f (controls j)) = none_changes absent in
      let e : total (insert_key key_cmp ks k) (λ j. f (control_at controls k c j)) ≡ f (control_at controls k c k) + total ks (λ j. f (control_at controls k c j)) =
      inserted_total k ks (λ j. f (control_at controls k c j)) absent in
      omega arith)

  -- it counts as much as before
  pub one_stays : f c ≡ f (controls k) → total ks (λ j. f (control_at controls k c j)) ≡ total ks (λ j. f (controls j))
  one_stays same = by_cases (list_any (bytes_eq k) ks)
      (λ known. let a : total ks (λ j. f (control_at controls k c j)) + f (controls k) ≡ total ks (λ j. f (controls j)) + f c = one_changes known in omega arith)
      (λ absent. none_changes absent)

-- a free key owes nothing
pub free_owed : (c : KeyControl) → IsFreeOn c → owed_to c.owner ≡ 0
free_owed c h = ap owed_to h.owner

-- the sums of the machine's control, where a key among its keys goes on
module _ (m : MachineControl) (rise : IsStrictlySortedBy key_cmp m.keys) (k : Key) (known : list_any (bytes_eq k) m.keys ≡ true) (must : Option Key) (c : KeyControl) where
  pub flight_goes_on : in_flight_on (control_goes_on k must c m) + contexts_on (m.controls k) ≡ in_flight_on m + contexts_on c
  flight_goes_on = one_changes contexts_on m.controls m.keys rise k c known

  pub number_goes_on : (n : ℕ) → number_count_on n (control_goes_on k must c m) + control_numbered n (m.controls k) ≡ number_count_on n m + control_numbered n c
  number_goes_on n = one_changes (control_numbered n) m.controls m.keys rise k c known

  pub references_go_on : (n : ℕ) → reference_count_on n (control_goes_on k must c m) + control_references n (m.controls k) ≡ reference_count_on n m + control_references n c
  references_go_on n = one_changes (control_references n) m.controls m.keys rise k c known

  pub owed_goes_on : owed_in (control_goes_on k must c m) + owed_to (m.controls k).owner ≡ owed_in m + owed_to c.owner
  owed_goes_on = one_changes (λ (q : KeyControl). owed_to q.owner) m.controls m.keys rise k c known

  pub epoch_goes_on : (u : ℕ) → epoch_count_on u (control_goes_on k must c m) + control_of_epoch u (m.controls k) ≡ epoch_count_on u m + control_of_epoch u c
  epoch_goes_on u = one_changes (control_of_epoch u) m.controls m.keys rise k c known

-- where a key that nobody owns is handed over, a mark in front that fires stays, and one that doesn't is taken off

pub hands_stop : (e : ℕ) (w : ℤ) (more : ℕ) (is : List Waiting) (times : List ℤ) → may_fire w more times ≡ true → handed_on (Mark e w more ∷ is) times ≡ keyed None (Mark e w more ∷ is) times
hands_stop e w more is times h = cond-true (may_fire w more times) (keyed None (Mark e w more ∷ is) times) (handed_on is times) h

pub hands_on : (e : ℕ) (w : ℤ) (more : ℕ) (is : List Waiting) (times : List ℤ) → may_fire w more times ≡ false → handed_on (Mark e w more ∷ is) times ≡ handed_on is times
hands_on e w more is times h = cond-false (may_fire w more times) (keyed None (Mark e w more ∷ is) times) (handed_on is times) h

pub none_off : (u e : ℕ) (w : ℤ) (more : ℕ) (is : List Waiting) (times : List ℤ) → may_fire w more times ≡ true → marks_off u (Mark e w more ∷ is) times ≡ 0
none_off u e w more is times h = cond-true (may_fire w more times) 0 (one_at u e + marks_off u is times) h

pub one_off : (u e : ℕ) (w : ℤ) (more : ℕ) (is : List Waiting) (times : List ℤ) → may_fire w more times ≡ false → marks_off u (Mark e w more ∷ is) times ≡ one_at u e + marks_off u is times
one_off u e w more is times h = cond-false (may_fire w more times) 0 (one_at u e + marks_off u is times) h

-- one step of handing a key over that nobody owns: its first mark is taken off
module _ (m : MachineControl) (rise : IsStrictlySortedBy key_cmp m.keys) (k : Key) (known : list_any (bytes_eq k) m.keys ≡ true) (must : Option Key)
    (e : ℕ) (w : ℤ) (more : ℕ) (is : List Waiting) (times : List ℤ) (at : m.controls k ≡ keyed None (Mark e w more ∷ is) times) where
  pub mark_off_flight : in_flight_on (control_goes_on k must (keyed None is times) m) ≡ in_flight_on m
  mark_off_flight = one_stays contexts_on m.controls m.keys rise k (keyed None is times) (ap contexts_on (sym at))

  pub mark_off_number : (n : ℕ) → number_count_on n (control_goes_on k must (keyed None is times) m) ≡ number_count_on n m
  mark_off_number n = one_stays (control_numbered n) m.controls m.keys rise k (keyed None is times) (ap (control_numbered n) (sym at))

  pub mark_off_owed : owed_in (control_goes_on k must (keyed None is times) m) ≡ owed_in m
  mark_off_owed = one_stays (λ (q : KeyControl). owed_to q.owner) m.controls m.keys rise k (keyed None is times) (ap (λ (q : KeyControl). owed_to q.owner) (sym at))

  pub mark_off_epoch : (u : ℕ) → epoch_count_on u (control_goes_on k must (keyed None is times) m) + one_at u e ≡ epoch_count_on u m
  mark_off_epoch u =
      let a : epoch_count_on u (control_goes_on k must (keyed None is times) m) + control_of_epoch u (m.controls k) ≡ epoch_count_on u m + control_of_epoch u (keyed None is times) =
      epoch_goes_on m rise k known must (keyed None is times) u in
      let b : control_of_epoch u (m.controls k) ≡ 0 + (one_at u e + waiting_of_epoch u is) = ap (control_of_epoch u) at in
      omega arith

-- its first row takes the key
module _ (m : MachineControl) (rise : IsStrictlySortedBy key_cmp m.keys) (k : Key) (known : list_any (bytes_eq k) m.keys ≡ true) (must : Option Key)
    (n e : ℕ) (f : Facts) (is : List Waiting) (times : List ℤ) (at : m.controls k ≡ keyed None (Row n e f ∷ is) times) where
  pub row_up_flight : in_flight_on (control_goes_on k must (keyed (Some (row_context n e f)) is times) m) ≡ in_flight_on m
  row_up_flight = one_stays contexts_on m.controls m.keys rise k (keyed (Some (row_context n e f)) is times)
      (let a : contexts_on (m.controls k) ≡ 0 + (1 + rows_in is) = ap contexts_on at in omega arith)

  pub row_up_number : (u : ℕ) → number_count_on u (control_goes_on k must (keyed (Some (row_context n e f)) is times) m) ≡ number_count_on u m
  row_up_number u = one_stays (control_numbered u) m.controls m.keys rise k (keyed (Some (row_context n e f)) is times)
      (let a : control_numbered u (m.controls k) ≡ 0 + (one_at u n + rows_numbered u is) = ap (control_numbered u) at in omega arith)

  pub row_up_owed : owed_in (control_goes_on k must (keyed (Some (row_context n e f)) is times) m) ≡ suc (owed_in m)
  row_up_owed =
      let a : owed_in (control_goes_on k must (keyed (Some (row_context n e f)) is times) m) + owed_to (m.controls k).owner ≡ owed_in m + 1 =
      owed_goes_on m rise k known must (keyed (Some (row_context n e f)) is times) in
      let b : owed_to (m.controls k).owner ≡ 0 = ap (λ (q : KeyControl). owed_to q.owner) at in
      omega arith

  pub row_up_epoch : (u : ℕ) → epoch_count_on u (control_goes_on k must (keyed (Some (row_context n e f)) is times) m) ≡ epoch_count_on u m
  row_up_epoch u = one_stays (control_of_epoch u) m.controls m.keys rise k (keyed (Some (row_context n e f)) is times)
      (let a : control_of_epoch u (m.controls k) ≡ 0 + (one_at u e + waiting_of_epoch u is) = ap (control_of_epoch u) at in omega arith)

-- the owner goes, and hands the key over
module _ (m : MachineControl) (rise : IsStrictlySortedBy key_cmp m.keys) (k : Key) (known : list_any (bytes_eq k) m.keys ≡ true) (must : Option Key)
    (c : Context) (is : List Waiting) (times next : List ℤ) (at : m.controls k ≡ keyed (Some c) is times) where
  pub owner_off_flight : suc (in_flight_on (control_goes_on k must (keyed None is next) m)) ≡ in_flight_on m
  owner_off_flight =
      let a : in_flight_on (control_goes_on k must (keyed None is next) m) + contexts_on (m.controls k) ≡ in_flight_on m + (0 + rows_in is) = flight_goes_on m rise k known must (keyed None is next) in
      let b : contexts_on (m.controls k) ≡ 1 + rows_in is = ap contexts_on at in
      omega arith

  pub owner_off_number : (n : ℕ) → number_count_on n (control_goes_on k must (keyed None is next) m) + one_at n c.number ≡ number_count_on n m
  owner_off_number n =
      let a : number_count_on n (control_goes_on k must (keyed None is next) m) + control_numbered n (m.controls k) ≡ number_count_on n m + (0 + rows_numbered n is) = number_goes_on m rise k known must (keyed None is next) n in
      let b : control_numbered n (m.controls k) ≡ one_at n c.number + rows_numbered n is = ap (control_numbered n) at in
      omega arith

  pub owner_off_owed : owed_in (control_goes_on k must (keyed None is next) m) + owed_to (Some c) ≡ owed_in m
  owner_off_owed =
      let a : owed_in (control_goes_on k must (keyed None is next) m) + owed_to (m.controls k).owner ≡ owed_in m + 0 = owed_goes_on m rise k known must (keyed None is next) in
      let b : owed_to (m.controls k).owner ≡ owed_to (Some c) = ap (λ (q : KeyControl). owed_to q.owner) at in
      omega arith

  pub owner_off_epoch : (u : ℕ) → epoch_count_on u (control_goes_on k must (keyed None is next) m) + owner_of_epoch u (Some c) ≡ epoch_count_on u m
  owner_off_epoch u =
      let a : epoch_count_on u (control_goes_on k must (keyed None is next) m) + control_of_epoch u (m.controls k) ≡ epoch_count_on u m + (0 + waiting_of_epoch u is) = epoch_goes_on m rise k known must (keyed None is next) u in
      let b : control_of_epoch u (m.controls k) ≡ owner_of_epoch u (Some c) + waiting_of_epoch u is = ap (control_of_epoch u) at in
      omega arith
