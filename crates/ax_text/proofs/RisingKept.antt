-- The entries of maps stay in order.
use Rattle.std.proofs.Common.{◌≡◌, refl, ap, ◌∙◌, ℤ, List, [], ◌∷◌, Bool, true, false, pos, Option, Some, None, cond, nat_eq, if◌then◌else◌, slice_index_or, Ordering, Less, Equal, Greater}
use Rattle.std.specs.List.{AllByRecursion}
use Rattle.std.specs.List.Sorted.{IsStrictlySortedBy}
use Rattle.std.specs.Map.{keys_of, remove_entry}
use Rattle.std.specs.BTreeMap.{is_at, insert_entry}
use Rattle.std.specs.Ordering.{int_eq, int_cmp, match_ordering, ordering_reverse}
use Rattle.std.proofs.lemmas.Cmp.{int_cmp_total}
use Rattle.ax_base.specs.declared.lists.Pair.{Pair}
use Rattle.ax_text.specs.declared.vocabulary.Kind.{Kind}
use Rattle.ax_text.specs.declared.vocabulary.Kind.TheVariants as kind
use Rattle.ax_text.specs.declared.vocabulary.Request.{Request}
use Rattle.ax_text.specs.declared.vocabulary.Answer.{Answer}
use Rattle.ax_text.specs.declared.vocabulary.Request.TheVariants as request
use Rattle.ax_text.specs.Cells.{Cell, Cells, entries_in, kind_of, empty_cell, state_of, answer_of, cell_after, cells_after}
use Rattle.ax_text.specs.Programs.{untouched}
use Rattle.ax_text.specs.Exprs.{Facts, value}
use Rattle.ax_text.specs.Texts.{Loop, Text, Stop, Act, Ask, If, Each, Both}
use Rattle.ax_text.specs.Run.{World, with_names, request_of, act_in, ask_in, talk_in, apply, turns_of, loop_request, bind, run_turns, choose, run}
use Rattle.ax_text.specs.Controls.{Going, Event, Serve, Give, serve_at, give_at, request_at, step}
use Rattle.ax_text.specs.Rising.{IsRising, MapsRise}

-- a key is below those of some entries
Above : ℤ → List (ℤ × ℤ) → Type 0
Above k es = AllByRecursion (λ y. int_cmp k y ≡ Less) (keys_of es)

above_more : (t k : ℤ) (es : List (ℤ × ℤ)) → int_cmp t k ≡ Less → Above k es → Above t es
unfolding Above
above_more t k [] h a = tt
above_more t k (e ∷ es) h a = (int_cmp_total.trans t k e.0 h a.0, above_more t k es h a.1)

above_put : (k t n : ℤ) (es : List (ℤ × ℤ)) → int_cmp k t ≡ Less → Above k es → Above k (insert_entry int_cmp es t n)
unfolding Above
above_put k t n [] h a = (h, tt)
above_put k t n (e ∷ es) h a = of (int_cmp t e.0) (above_put k t n es h a.1)
  where
    of : (o : Ordering) → Above k (insert_entry int_cmp es t n) → Above k (match_ordering o ((t, n) ∷ e ∷ es) ((e.0, n) ∷ es) (e ∷ insert_entry int_cmp es t n))
    of Less more = (h, a)
    of Equal more = a
    of Greater more = (a.0, more)

above_less : (k : ℤ) (test : ℤ → Bool) (es : List (ℤ × ℤ)) → Above k es → Above k (remove_entry test es)
unfolding Above
above_less k test [] a = tt
above_less k test (e ∷ es) a = of (test e.0) (above_less k test es a.1)
  where
    of : (b : Bool) → Above k (remove_entry test es) → Above k (cond b es (e ∷ remove_entry test es))
    of true rest = a.1
    of false rest = (a.0, rest)

put_rises : (t n : ℤ) (es : List (ℤ × ℤ)) → IsRising es → IsRising (insert_entry int_cmp es t n)
unfolding Above IsStrictlySortedBy
put_rises t n [] s = (tt, tt)
put_rises t n (e ∷ es) s = of (int_cmp t e.0) refl (put_rises t n es s.1)
  where
    of : (o : Ordering) → int_cmp t e.0 ≡ o → IsRising (insert_entry int_cmp es t n) → IsRising (match_ordering o ((t, n) ∷ e ∷ es) ((e.0, n) ∷ es) (e ∷ insert_entry int_cmp es t n))
    of Less h more = ((h, above_more t e.0 es h s.0), s)
    of Equal h more = s
    of Greater h more = (above_put e.0 t n es (int_cmp_total.antisymm e.0 t ∙ ap ordering_reverse h) s.0, more)

removed_rises : (test : ℤ → Bool) (es : List (ℤ × ℤ)) → IsRising es → IsRising (remove_entry test es)
unfolding Above IsStrictlySortedBy
removed_rises test [] s = tt
removed_rises test (e ∷ es) s = of (test e.0) (removed_rises test es s.1)
  where
    of : (b : Bool) → IsRising (remove_entry test es) → IsRising (cond b es (e ∷ remove_entry test es))
    of true rest = s.1
    of false rest = (above_less e.0 test es s.0, rest)

none_rises : IsRising []
unfolding IsStrictlySortedBy
none_rises = tt

empty_rises : (k : Kind) → IsRising (entries_in (empty_cell k))
empty_rises kind.Value = none_rises
empty_rises kind.List = none_rises
empty_rises kind.Map = none_rises

changed_rises : (r : Request) (c : Cell) → IsRising (entries_in c) → IsRising (entries_in (cell_after r c))
changed_rises (request.ValueGet state) c s = s
changed_rises (request.ValuePut state number) c s = none_rises
changed_rises (request.ListGet state) c s = s
changed_rises (request.ListAdd state number) c s = none_rises
changed_rises (request.ListPut state items) c s = none_rises
changed_rises (request.MapGet state at) c s = s
changed_rises (request.MapPut state at number) c s = put_rises at number (entries_in c) s
changed_rises (request.MapRemove state at) c s = removed_rises (is_at (int_cmp at)) (entries_in c) s
changed_rises (request.MapHas state at) c s = s
changed_rises (request.MapEmpty state) c s = s
changed_rises (request.MapEntries state) c s = s
changed_rises (request.Clear state) c s = empty_rises (kind_of c)

pub untouched_rise : (ks : List Kind) → MapsRise (untouched ks)
untouched_rise ks s = empty_rises (slice_index_or ks s kind.Value)

pub requests_keep : (r : Request) (cells : Cells) → MapsRise cells → MapsRise (cells_after r cells)
requests_keep r cells h s = of (nat_eq (state_of r) s)
  where
    of : (b : Bool) → IsRising (entries_in (if b then cell_after r (cells (state_of r)) else cells s))
    of true = changed_rises r (cells (state_of r)) (h (state_of r))
    of false = h s

module _ (f : Facts) where
  -- a function on worlds that keeps them so
  unfoldable KeepsRising : (World → World) → Type 0
  KeepsRising g = (w : World) → MapsRise w.cells → MapsRise (g w).cells

  turns_keep : (go : World → World) (l : Loop) (ps : List Pair) → KeepsRising go → KeepsRising (run_turns go l ps)
  unfolding KeepsRising
  turns_keep go l [] k w h = h
  turns_keep go l (p ∷ ps) k w h = turns_keep go l ps k (go (talk_in (λ t. with_names (bind l p t.names) t) w)) (k (talk_in (λ t. with_names (bind l p t.names) t) w) h)

  run_rises : (t : Text) → KeepsRising (run f t)
  unfolding KeepsRising
  run_rises Stop w h = h
  run_rises (Act q t) w h = run_rises t (act_in f q w) h
  run_rises (Ask a t) w h = run_rises t (ask_in f a w) (requests_keep (request_of f a w.talk.names) w.cells h)
  run_rises (If e a b t) w h = run_rises t (choose (value f w.talk.names e) (run f a) (run f b) w) (of (int_eq (value f w.talk.names e) (pos 0)) (run_rises a w h) (run_rises b w h))
    where
      of : (x : Bool) → MapsRise (run f a w).cells → MapsRise (run f b w).cells → MapsRise ((if x then run f b else run f a) w).cells
      of true p q = q
      of false p q = p
  run_rises (Each l body t) w h =
      let ps = turns_of (answer_of (loop_request l) w.cells) in
      run_rises t (run_turns (run f body) l ps (apply (loop_request l) w))
      (turns_keep (run f body) l ps (run_rises body) (apply (loop_request l) w) (requests_keep (loop_request l) w.cells h))
  run_rises (Both a b t) w h = run_rises t (run f b (run f a w)) (run_rises b (run f a w) (run_rises a w h))

  pub runs_keep : (t : Text) (w : World) → MapsRise w.cells → MapsRise (run f t w).cells
  unfolding KeepsRising
  runs_keep t w h = run_rises t w h

  pub steps_keep : (e : Event) (g : Going) → MapsRise g.world.cells → MapsRise (step f e g).world.cells
  steps_keep (Serve s) g h = of (request_at g.control s) (g.answers s) where
    of : (q : Option Request) (a : Option Answer) → MapsRise (serve_at s q a g).world.cells
    of None a = h
    of (Some q) None = requests_keep q g.world.cells h
    of (Some q) (Some a) = h
  steps_keep (Give s) g h = of (g.answers s) where
    of : (a : Option Answer) → MapsRise (give_at f s a g).world.cells
    of None = h
    of (Some a) = h
