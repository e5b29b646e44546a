-- A batch is the front of a queue, and leaves the rest.
use Rattle.std.proofs.Common.{◌≡◌, ℕ, ◌+◌, ◌<◌, List, [], ◌∷◌, ◌++◌, length, get_or, set, take, drop, sym, ap, ◌∙◌, arith, length-drop}
use Rattle.std.proofs.lemmas.List.{get_or-set_same, set-set, take_more, drop_more}
use Rattle.ax_buffer.specs.declared.items.Item.{Item}

module _ (queues : List (List Item)) (s i : ℕ) (there : s < length queues) (now : List (List Item)) (is : now ≡ set queues s (drop i (get_or queues s []))) where
  -- what is left of the queue behind so many items
  left : get_or now s [] ≡ drop i (get_or queues s [])
  left = ap (λ qs. get_or qs s []) is ∙ get_or-set_same queues s (drop i (get_or queues s [])) [] there

  module _ (x : Item) (rest : List Item) (next : get_or now s [] ≡ x ∷ rest) where
    more : i < length (get_or queues s [])
    more = omega (arith, ap length left, length-drop i (get_or queues s []), ap length next)

    same : x ∷ rest ≡ get_or (get_or queues s []) i x ∷ drop (i + 1) (get_or queues s [])
    same = sym next ∙ left ∙ drop_more (get_or queues s []) i x more

    -- one item more in the batch, and one less in the queue
    pub taken : (batch : List Item) → batch ≡ take i (get_or queues s []) → batch ++ x ∷ [] ≡ take (i + 1) (get_or queues s [])
    taken batch e = ap (λ xs. xs ++ x ∷ []) e ∙ ap (λ y. take i (get_or queues s []) ++ y ∷ []) (cc same) ∙ sym (take_more (get_or queues s []) i x more)

    pub dropped : (after : List (List Item)) → after ≡ set now s rest → after ≡ set queues s (drop (i + 1) (get_or queues s []))
    dropped after e =
        e ∙ ap (λ qs. set qs s rest) is ∙ set-set queues s (drop i (get_or queues s [])) rest ∙ ap (set queues s) (cc same)
