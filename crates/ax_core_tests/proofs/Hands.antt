-- The replies of each shard name what is out of it.
use Rattle.std.proofs.Common.{◌≡◌, ℕ, zero, suc, ◌<◌, List, [], ◌∷◌, ◌++◌, map, length, get_or, set, replicate, refl, sym, ap, ap₂, ◌∙◌, arith}
use Rattle.std.proofs.lemmas.List.{append-nil, map-append, map-set, length-map}
use Rattle.ax_lang.specs.Shown.{shown_program}
use Rattle.ax_buffer.specs.declared.items.Reply.{Reply}
use Rattle.ax_buffer.specs.Buffer.{total}
use Rattle.ax_execution.specs.Origins.{first}
use Rattle.ax_execution.specs.MachineControls.{at_origin}
use Rattle.ax_core.specs.declared.record.Name.{Name}
use Rattle.ax_core.specs.declared.controller.Controller.{Controller}
use Rattle.ax_core.specs.Flow.{out_of}
use Rattle.ax_core.specs.Sound.{StandsFor, IsSound}
use Rattle.ax_core.specs.Events.{names_of, IsBatchOut}

-- what replies name at a place is named there
pub named_at : (served : List (List Reply)) (s : ℕ) → get_or (map names_of served) s [] ≡ names_of (get_or served s [])
named_at [] s = refl
named_at (rs ∷ rest) zero = refl
named_at (rs ∷ rest) (suc s) = named_at rest s

pub same_at : {X : Type 0} (xs : List X) (i : ℕ) (d e : X) → i < length xs → get_or xs i d ≡ get_or xs i e
same_at [] i d e lt = absurd (omega arith)
same_at (x ∷ xs) zero d e lt = refl
same_at (x ∷ xs) (suc i) d e lt = same_at xs i d e (omega arith)

-- how many shards there are
pub as_many : (a : Controller) (served : List (List Reply)) → IsSound a → a.outs.items ≡ map names_of served → a.settings.shards ≡ length served
as_many a served sound out = sym sound.flow.shards.1 ∙ (ap (λ (os : List (List Name)). length os) out ∙ length-map served names_of)

-- behind a further batch the replies name what was out and then the batch
pub batch_behind : (a : Controller) (served : List (List Reply)) (s : ℕ) (names : List Name) (rs : List Reply) → a.outs.items ≡ map names_of served → names_of rs ≡ names_of (get_or served s []) ++ names → out_of a s ++ names ≡ names_of rs
batch_behind a served s names rs out named = ap (λ (ns : List Name). ns ++ names) (ap (λ (os : List (List Name)). get_or os s []) out ∙ named_at served s) ∙ sym named

-- what was served of a shard is the batch that is out of it
pub is_out : (a : Controller) (served : List (List Reply)) (s : ℕ) (rs : List Reply) → a.outs.items ≡ map names_of served → rs ≡ get_or served s [] → out_of a s ≡ [] ++ (names_of rs ++ [])
is_out a served s rs out same = ap (λ (os : List (List Name)). get_or os s []) out ∙ (named_at served s ∙ (ap names_of (sym same) ∙ sym (append-nil (names_of rs))))

-- the last of them are out behind the others
pub last_out : (a : Controller) (served : List (List Reply)) (s : ℕ) (first last : List Reply) → a.outs.items ≡ map names_of served → get_or served s [] ≡ first ++ last → out_of a s ≡ names_of first ++ (names_of last ++ [])
last_out a served s first last out cut = ap (λ (os : List (List Name)). get_or os s []) out
    ∙ (named_at served s ∙ (ap names_of cut ∙ (map-append (λ (r : Reply). record { id = r.id; slot = r.slot }) first last ∙ ap (λ (ns : List Name). names_of first ++ ns) (sym (append-nil (names_of last))))))

pub batch_out : (a : Controller) (served : List (List Reply)) (s : ℕ) (rs : List Reply) → a.outs.items ≡ map names_of served → rs ≡ get_or served s [] → IsBatchOut a rs
batch_out a served s rs out same = record { shard = s; before = []; behind = []; there = is_out a served s rs out same }

-- where a shard's batch changes
pub out_set : (outs : List (List Name)) (served : List (List Reply)) (s : ℕ) (names : List Name) (rs : List Reply) → outs ≡ map names_of served → names ≡ names_of rs
    → set outs s names ≡ map names_of (set served s rs)
out_set outs served s names rs out same = ap₂ (λ (os : List (List Name)) (ns : List Name). set os s ns) out same ∙ sym (map-set names_of served s rs)

-- a controller that was just made has nothing out

none_named : (n : ℕ) → map names_of (replicate n []) ≡ replicate n []
none_named zero = refl
none_named (suc n) = ap (λ (os : List (List Name)). [] ∷ os) (none_named n)

empty_of : {X : Type 0} (xs : List X) → length xs ≡ 0 → xs ≡ []
empty_of [] e = refl
empty_of (x ∷ xs) e = absurd (omega arith)

none_out : (outs : List (List Name)) → total length outs ≡ 0 → outs ≡ replicate (length outs) []
none_out [] e = refl
none_out (ns ∷ rest) e = ap₂ (λ (x : List Name) (os : List (List Name)). x ∷ os) (empty_of ns (omega arith)) (none_out rest (omega arith))

pub nothing_out : (a : Controller) → IsSound a → StandsFor a (at_origin (first (shown_program a.program))) → (served : List (List Reply)) → served ≡ replicate a.settings.shards [] → a.outs.items ≡ map names_of served
nothing_out a sound stands served none =
    let none_way : total length a.outs.items ≡ 0 = omega (arith, stands.stands.way) in
    none_out a.outs.items none_way
    ∙ (ap (λ (n : ℕ). replicate n []) sound.flow.shards.1 ∙ (sym (none_named a.settings.shards) ∙ ap (map names_of) (sym none)))
