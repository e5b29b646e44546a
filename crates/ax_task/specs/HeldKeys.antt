-- The keys of which shards hold something.
use Rattle.std.specs.Prelude.{List, [], ◌∷◌, ◌++◌}
use Rattle.std.specs.Map.{keys_of}
use Rattle.ax_machine.specs.Entries.{Key}
use Rattle.ax_task.specs.Serving.{Holding}

-- the keys that had a request, shard by shard
abbrev pub held_keys : List Holding → List Key
held_keys [] = []
held_keys (h ∷ hs) = keys_of h.entries ++ held_keys hs
