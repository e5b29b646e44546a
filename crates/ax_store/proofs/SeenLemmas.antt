-- Layers as copies have them.
use Rattle.std.proofs.Common.{◌≡◌, ◌∙◌, Bool, true, false, cond, [], ◌∷◌, ◌++◌, Option, Some, None, option_map, refl, sym, ap, map}
use Rattle.std.specs.BTreeMap.{is_at}
use Rattle.std.proofs.Common.{append_assoc}
use Rattle.ax_store.specs.declared.change.Change.{Change}
use Rattle.ax_store.specs.Held.{Text, bytes_cmp, begins}
use Rattle.ax_store.specs.Entries.{Layer, IsRising, entry_at, or_below, part, seen, seen_all}
use Rattle.ax_store.proofs.PrefixLemmas.{entry-part, rising-part}

keys-seen : (values : Bool) (es : Layer) → map (λ e. e.0) (seen_all values es) ≡ map (λ e. e.0) es
keys-seen values [] = refl
keys-seen values (e ∷ es) = ap (λ l. e.0 ∷ l) (keys-seen values es)

entry-seen : (values : Bool) (es : Layer) (q : Text) → entry_at (seen_all values es) q ≡ option_map (seen values) (entry_at es q)
entry-seen values [] q = refl
entry-seen values (e ∷ es) q = go (is_at (bytes_cmp q) e.0) (entry-seen values es q)
  where
    go : (b : Bool) → entry_at (seen_all values es) q ≡ option_map (seen values) (entry_at es q)
        → cond b (Some (seen values e.1)) (entry_at (seen_all values es) q) ≡ option_map (seen values) (cond b (Some e.1) (entry_at es q))
    go true ih = refl
    go false ih = ih

pub rising-seen : (values : Bool) (prefix : Text) (es : Layer) → IsRising es → IsRising (seen_all values (part prefix es))
rising-seen values prefix es h = rw (keys-seen values (part prefix es)) (rising-part prefix es h)

pub entry-seen_part : (values : Bool) (prefix : Text) (es : Layer) (q : Text) → entry_at (seen_all values (part prefix es)) q ≡ cond (begins prefix q) (option_map (seen values) (entry_at es q)) None
entry-seen_part values prefix es q = entry-seen values (part prefix es) q ∙ ap (option_map (seen values)) (entry-part prefix es q) ∙ go (begins prefix q) (entry_at es q)
  where
    go : (b : Bool) (o : Option Change) → option_map (seen values) (cond b o None) ≡ cond b (option_map (seen values) o) None
    go true o = refl
    go false o = refl

-- what a copy of all has
pub seen_whole : (o : Option Change) → option_map (seen true) o ≡ o
seen_whole (Some c) = refl
seen_whole None = refl

pub seen_or : (values : Bool) (a b : Option Change) → or_below (option_map (seen values) a) (option_map (seen values) b) ≡ option_map (seen values) (or_below a b)
seen_or values (Some c) b = refl
seen_or values None b = refl

-- one more in a walk
pub seen_more : (values : Bool) (prefix : Text) (found : Layer) (e : Text × Change) (es : Layer) → begins prefix e.0 ≡ true
    → (found ++ (e.0, seen values e.1) ∷ []) ++ seen_all values (part prefix es) ≡ found ++ seen_all values (part prefix (e ∷ es))
seen_more values prefix found e es h = append_assoc found ((e.0, seen values e.1) ∷ []) (seen_all values (part prefix es))
    ∙ ap (λ l. found ++ l) (sym (ap (λ b. seen_all values (cond b (e ∷ part prefix es) (part prefix es))) h))
