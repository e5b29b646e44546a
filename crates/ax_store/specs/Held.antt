-- What a store holds, as its users see it.
use Rattle.std.specs.Prelude.{◌≡◌, ◌≤◌, ℕ, Bool, List, refl, ◌+◌, ◌==◌, nat_lt, if◌then◌else◌}
use Rattle.std.specs.Bool.{nat_eq}
use Rattle.std.specs.Coded.{Coded, code_by, coded×, coded_ℕ, coded_list}
use Rattle.std.specs.Ordering.{nat_cmp}
use Rattle.std.specs.declared.cmp.Ordering.{Ordering}
use Rattle.std.specs.Cmp.Lexicographic.{slice_cmp}
use Rattle.std.specs.FinMap as map
use Rattle.std.specs.List.{starts_with}
use Rattle.ax_store.specs.declared.cell.Cell.{Cell}

abbrev pub Text : Type 0
Text = List ℕ

-- the order of keys, byte by byte
abbrev pub bytes_cmp : Text → Text → Ordering
bytes_cmp = slice_cmp nat_cmp

-- a map from bytes to bytes
abbrev pub Content : Type 0
Content = map.FinMap bytes_cmp Text

-- the map, how many entries the memtable has and how many it may have, and how many runs there are
pub record Held : Type 0 where
  pub content : Content
  pub memtable : ℕ
  pub most : ℕ
  pub runs : ℕ

abbrev pub held_code : Coded Held
held_code = code_by (Content × (ℕ × (ℕ × ℕ))) (coded× (map.code (coded_list coded_ℕ) (coded_list coded_ℕ)) (coded× coded_ℕ (coded× coded_ℕ coded_ℕ)))
    (λ h. (h.content, (h.memtable, (h.most, h.runs)))) (λ p. record { content = p.0; memtable = p.1.0; most = p.1.1.0; runs = p.1.1.1 }) (λ _. refl)

-- whether a key begins with a prefix
abbrev pub begins : Text → Text → Bool
begins prefix key = starts_with nat_eq key prefix

-- a cell as an entry of the map
abbrev pub pair_of : Cell → Text × Text
pair_of c = (c.key, c.value)

-- how many runs there are behind a flush of a memtable with so many entries: one more where it has any, and one where that makes five
abbrev pub runs_after_flush : ℕ → ℕ → ℕ
runs_after_flush entries runs = if entries == 0 then runs else (if nat_lt runs 4 then runs + 1 else 1)

-- how many entries the memtable has before an entry goes in: a full one is empty by then
abbrev pub before_entry : Held → ℕ
before_entry h = if h.memtable == h.most then 0 else h.memtable

-- an entry went in, behind a flush where the memtable was full
pub record Entered (old new : Held) : Type 0 where
  pub some : 1 ≤ new.memtable
  pub least : before_entry old ≤ new.memtable
  pub most : new.memtable ≤ before_entry old + 1
  pub runs : new.runs ≡ (if old.memtable == old.most then runs_after_flush old.memtable old.runs else old.runs)

-- how many runs there are when a part of the map was deleted over so many runs: four become one, and deletes are one more
abbrev pub runs_after_delete : Content → ℕ → ℕ
runs_after_delete found runs = (if runs == 4 then 1 else runs) + (if map.len found == 0 then 0 else 1)
