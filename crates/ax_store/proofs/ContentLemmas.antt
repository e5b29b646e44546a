-- The content of layers, key by key.
use Rattle.std.proofs.Common.{◌≡◌, ◌∙◌, Bool, true, false, cond, List, [], ◌∷◌, Option, Some, None, refl, sym, ap}
use Rattle.std.specs.Ordering.{eq_by_cmp, is_eq}
use Rattle.std.specs.Cmp.Lexicographic.{nat_list_cmp_total}
use Rattle.std.specs.BTreeMap.{is_at}
use Rattle.std.specs.FinMap.{get, get-empty, get-insert, get-remove, same_map, slice_cmp-IsAntisymmetric, nat_cmp-IsAntisymmetric}
use Rattle.std.specs.FinMap.Entries.{find}
use Rattle.ax_store.specs.declared.change.Change.{Change}
use Rattle.ax_store.specs.declared.change.Change.TheVariants.{Put, Delete}
use Rattle.ax_store.specs.Held.{Text, Content, bytes_cmp}
use Rattle.ax_store.specs.Entries.{Layer, entry_at, or_below}
use Rattle.ax_store.specs.Layers.{changed, over, content_of, newest_of, shown}

-- what a layer says, as a map of lists finds it
pub find-entry : (es : Layer) (q : Text) → find bytes_cmp q es ≡ entry_at es q
find-entry [] q = refl
find-entry (e ∷ es) q = ap (cond (is_eq (bytes_cmp q e.0)) (Some e.1)) (find-entry es q)

-- what an entry makes of what is below
abbrev pub by_entry : Option Change → Option Text → Option Text
by_entry (Some (Put value)) below = Some value
by_entry (Some Delete) below = None
by_entry None below = below

changed_at : (k : Text) (c : Change) (below : Content) (q : Text) → get (changed k c below) q ≡ cond (eq_by_cmp bytes_cmp q k) (by_entry (Some c) None) (get below q)
changed_at k (Put v) below q = get-insert nat_list_cmp_total below k v q
changed_at k Delete below q = get-remove nat_list_cmp_total below k q

by_first : (b : Bool) (c : Change) (rest : Option Change) (below g : Option Text) → g ≡ by_entry rest below → cond b (by_entry (Some c) None) g ≡ by_entry (cond b (Some c) rest) below
by_first true (Put v) rest below g e = refl
by_first true Delete rest below g e = refl
by_first false c rest below g e = e

pub get_over : (layer : Layer) (below : Content) (q : Text) → get (over layer below) q ≡ by_entry (entry_at layer q) (get below q)
get_over [] below q = refl
get_over (e ∷ es) below q = changed_at e.0 e.1 (over es below) q ∙ by_first (eq_by_cmp bytes_cmp q e.0) e.1 (entry_at es q) (get below q) _ (get_over es below q)

shown_or : (c rest : Option Change) → by_entry c (shown rest) ≡ shown (or_below c rest)
shown_or (Some (Put v)) rest = refl
shown_or (Some Delete) rest = refl
shown_or None rest = refl

-- what the layers say of a key
pub get_content : (layers : List Layer) (q : Text) → get (content_of layers) q ≡ shown (newest_of layers q)
get_content [] q = get-empty bytes_cmp q
get_content (layer ∷ layers) q = get_over layer (content_of layers) q ∙ ap (by_entry (entry_at layer q)) (get_content layers q) ∙ shown_or (entry_at layer q) (newest_of layers q)

pub same_content : (a b : Content) → ((q : Text) → get a q ≡ get b q) → a ≡ b
same_content a b h = same_map nat_list_cmp_total (slice_cmp-IsAntisymmetric nat_cmp-IsAntisymmetric) a b h

by_changed : (b : Bool) (c : Change) (rest : Option Change) (below : Option Text) → by_entry (cond b (Some c) rest) below ≡ cond b (by_entry (Some c) None) (by_entry rest below)
by_changed true (Put v) rest below = refl
by_changed true Delete rest below = refl
by_changed false c rest below = refl

-- a layer in which one entry changed
pub one_changed : (old new : Layer) (k : Text) (c : Change) (below : Content) → ((q : Text) → entry_at new q ≡ cond (is_at (bytes_cmp q) k) (Some c) (entry_at old q))
    → over new below ≡ changed k c (over old below)
one_changed old new k c below h = same_content _ _ (λ q.
    get_over new below q ∙ ap (λ o. by_entry o (get below q)) (h q)
    ∙ by_changed (eq_by_cmp bytes_cmp q k) c (entry_at old q) (get below q)
    ∙ sym (changed_at k c (over old below) q ∙ ap (cond (eq_by_cmp bytes_cmp q k) (by_entry (Some c) None)) (get_over old below q)))

-- two layers that are one
pub two_in_one : (newer older one : Layer) (below : Content) → ((q : Text) → entry_at one q ≡ or_below (entry_at newer q) (entry_at older q)) → over one below ≡ over newer (over older below)
two_in_one newer older one below h = same_content _ _ (λ q. get_over one below q ∙ ap (λ o. by_entry o (get below q)) (h q) ∙ go (entry_at newer q) (entry_at older q) (get below q)
    ∙ sym (get_over newer (over older below) q ∙ ap (by_entry (entry_at newer q)) (get_over older below q)))
  where
    go : (a b : Option Change) (g : Option Text) → by_entry (or_below a b) g ≡ by_entry a (by_entry b g)
    go (Some (Put v)) b g = refl
    go (Some Delete) b g = refl
    go None b g = refl
