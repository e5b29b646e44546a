-- What is written is lawful, whatever events come.
use Rattle.std.proofs.Common.{◌≡◌, ℕ, zero, suc, ◌+◌, ◌*◌, ◌≤◌, ◌<◌, ℤ, int_lt, List, [], ◌∷◌, ◌++◌, length, Bool, true, false, Option, Some, None, refl, sym, ap, ap₂, ◌∙◌, arith, subst, append_assoc}
use Rattle.std.proofs.lemmas.List.{append-nil}
use Rattle.std.proofs.lemmas.Bool.{both_ways}
use mathlib.Core.Path.{fun_ext}
use Rattle.ax_text.specs.Programs.{Program}
use Rattle.ax_machine.specs.Entries.{Key, Marker, Watermark, Block, Entry, lines_of, says}
use Rattle.ax_machine.specs.Entries as entry
use Rattle.ax_machine.specs.Events.{Event}
use Rattle.ax_machine.specs.Events as event
use Rattle.ax_machine.specs.Firings.{Due, most_firings, next_due, one_less}
use Rattle.ax_machine.specs.Blocks.{block_text}
use Rattle.ax_machine.specs.Sync.{Plain, without_least, fire_next, fire_all, all_fired, at_watermark, writes, parts_of, block_of}
use Rattle.ax_machine.specs.Sync as plain
use Rattle.ax_machine.specs.Lawful.{IsPrefix, Cut, one_more, cuts_from, cuts, markers, HasAll, IsStrict, HasNoMore, line_count, LawfulSoFar, Lawful}
use Rattle.ax_machine.proofs.FrontLemmas.{counts_behind, cuts_from-append, counts_behind-is, markers-append, prefix_count}
use Rattle.ax_machine.proofs.KeyLemmas.{lines_of_marked}
use Rattle.ax_text.specs.Jobs.{row_job, firing_job, job_run, lines_in}
use Rattle.ax_execution.specs.Groups.{row_facts}
use Rattle.ax_machine.specs.KeySync.{Said}
use Rattle.ax_execution.specs.Contexts.{Running, Context, Waiting, Part, part_lines}
use Rattle.ax_execution.specs.Rest.{settled}
use Rattle.ax_execution.specs.Turns.{admit, mark, fire, start, serve, deliver, start_effects, deliver_effects}
use Rattle.ax_execution.specs.Machine.{Closing, ByWatermark, ByBarrier, Closed, Machine, Happening, Admit, Close, Fire, Start, Serve, Deliver, Send, Rules, part_at, must_fire, goes_on, marker_of, send_first, close, happens, after_all, taken, machine_from, machine_of, IsAtRest}
use Rattle.ax_execution.specs.Allowed.{IsWatermark, NoBarrier, IsOpen, IsFinished, FirstIsFinished, Allowed, IsRun}
use Rattle.ax_execution.specs.Origins.{Origin, IsOrigin, sync_from}
use Rattle.ax_execution.proofs.Projected.{projected_from}
use Rattle.ax_execution.proofs.Handles.{Handles}
use Rattle.ax_execution.proofs.Upto.{by_cases, Grows, said_lines, part_of, PartSorted, upto, Goes, settled_grows, start_goes, serve_goes, deliver_goes, fire_goes, admit_upto, mark_upto, full_upto, finished_lines, nothing_left, mark_keeps}
use Rattle.ax_execution.proofs.Alone.{sync_next, watermark_taken, on_part, Alone, event_alone, start_alone, taken_next}

-- cuts

abbrev counts : List Entry → Key → ℕ
counts es = counts_behind (λ k. 0) es

abbrev cut_behind : Marker → List Entry → Cut
cut_behind mk es = record { marker = mk; lines = counts es }

cuts_says : (n : Key → ℕ) (k : Key) (ls : List (List ℤ)) → cuts_from n (says k ls) ≡ []
cuts_says n k [] = refl
cuts_says n k (l ∷ ls) = cuts_says (one_more n k) k ls

cuts_said : (es : List Entry) (k : Key) (ls : List (List ℤ)) → cuts (es ++ says k ls) ≡ cuts es
cuts_said es k ls = cuts_from-append (λ j. 0) es (says k ls) ∙ (ap (λ (cs : List Cut). cuts es ++ cs) (cuts_says (counts es) k ls) ∙ append-nil (cuts es))

cuts_marked : (es : List Entry) (mk : Marker) → cuts (es ++ entry.Mark mk ∷ []) ≡ cuts es ++ cut_behind mk es ∷ []
cuts_marked es mk = cuts_from-append (λ j. 0) es (entry.Mark mk ∷ [])

-- pairs of what was written and what the plain thread wrote

pub Paired : Bool → List Cut → List Cut → Type 0
Paired serial [] [] = Unit {0}
Paired serial [] (d ∷ ds) = ⊥
Paired serial (c ∷ cs) [] = ⊥
Paired serial (c ∷ cs) (d ∷ ds) = (c.marker ≡ d.marker) × ((k : Key) → d.lines k ≤ c.lines k) × (IsStrict serial d.marker → (k : Key) → c.lines k ≤ d.lines k) × Paired serial cs ds

paired_more : (serial : Bool) (cs ds : List Cut) (c d : Cut) → Paired serial cs ds → c.marker ≡ d.marker → ((k : Key) → d.lines k ≤ c.lines k)
    → (IsStrict serial d.marker → (k : Key) → c.lines k ≤ d.lines k) → Paired serial (cs ++ c ∷ []) (ds ++ d ∷ [])
unfolding Paired
paired_more serial [] [] c d p m a b = (m, a, b, tt)
paired_more serial [] (e ∷ ds) c d p m a b = absurd p
paired_more serial (e ∷ cs) [] c d p m a b = absurd p
paired_more serial (e ∷ cs) (f ∷ ds) c d p m a b = (p.0, p.1, p.2, paired_more serial cs ds c d p.3 m a b)

paired_markers : (serial : Bool) (cs ds : List Cut) → Paired serial cs ds → markers cs ≡ markers ds
unfolding Paired
paired_markers serial [] [] p = refl
paired_markers serial [] (d ∷ ds) p = absurd p
paired_markers serial (c ∷ cs) [] p = absurd p
paired_markers serial (c ∷ cs) (d ∷ ds) p = ap₂ (λ (m : Marker) (ms : List Marker). m ∷ ms) p.0 (paired_markers serial cs ds p.3)

paired_all : (serial : Bool) (cs ds es : List Cut) → Paired serial cs ds → HasAll cs (ds ++ es)
unfolding Paired
paired_all serial [] [] es p = tt
paired_all serial [] (d ∷ ds) es p = absurd p
paired_all serial (c ∷ cs) [] es p = absurd p
paired_all serial (c ∷ cs) (d ∷ ds) es p = (p.1, paired_all serial cs ds es p.3)

paired_no_more : (serial : Bool) (all : Key → ℕ) (cs ds es : List Cut) → HasNoMore serial all [] es → Paired serial cs ds → HasNoMore serial all cs (ds ++ es)
unfolding Paired
paired_no_more serial all [] [] es h p = h
paired_no_more serial all [] (d ∷ ds) es h p = absurd p
paired_no_more serial all (c ∷ cs) [] es h p = absurd p
paired_no_more serial all (c ∷ cs) (d ∷ ds) es h p = (p.2, paired_no_more serial all cs ds es h p.3)

pub IsBarrier : Closing → Type 0
IsBarrier (ByWatermark t) = ⊥
IsBarrier (ByBarrier id) = Unit {0}

module _ (g : ℕ) (p : Program) (Good : Running → Type 0) (H : Handles p Good) (from : Origin) (fits : IsOrigin p from) (serial : Bool) where
  -- what the marker of an epoch is to be
  pub IsPlanned : Closing → Marker → Plain → Type 0
  IsPlanned (ByWatermark t) mk s = mk ≡ Watermark t
  IsPlanned (ByBarrier id) mk s = mk ≡ block_of g p id s

  -- a marker that the plain thread wrote and the machine is still to send
  pub record Await (parts : Key → Part) (now : ℕ) (s : Plain) (d : Cut) (c : Closed) : Type 0 where
    pub earlier : c.epoch < now
    pub planned : IsPlanned c.closing d.marker s
    pub at_least : (k : Key) → d.lines k ≤ length (said_lines (upto p c.epoch (parts k)))
    pub at_most : IsStrict serial d.marker → (k : Key) → line_count s.entries k ≤ d.lines k
    pub last : IsBarrier c.closing → (k : Key) → PartSorted c.epoch (parts k)

  pub Awaits : (Key → Part) → ℕ → Plain → List Cut → List Closed → Type 0
  Awaits parts now s [] [] = Unit {0}
  Awaits parts now s [] (c ∷ cs) = ⊥
  Awaits parts now s (d ∷ ds) [] = ⊥
  Awaits parts now s (d ∷ ds) (c ∷ cs) = Await parts now s d c × Awaits parts now s ds cs

  awaits_map : (parts parts' : Key → Part) (now now' : ℕ) (s s' : Plain) → ((d : Cut) (c : Closed) → Await parts now s d c → Await parts' now' s' d c)
      → (ds : List Cut) (cs : List Closed) → Awaits parts now s ds cs → Awaits parts' now' s' ds cs
  unfolding Awaits
  awaits_map parts parts' now now' s s' f [] [] a = tt
  awaits_map parts parts' now now' s s' f [] (c ∷ cs) a = absurd a
  awaits_map parts parts' now now' s s' f (d ∷ ds) [] a = absurd a
  awaits_map parts parts' now now' s s' f (d ∷ ds) (c ∷ cs) a = (f d c a.0, awaits_map parts parts' now now' s s' f ds cs a.1)

  awaits_marks : (parts parts' : Key → Part) (now now' : ℕ) (s s' : Plain) → ((d : Cut) (c : Closed) → IsWatermark c.closing → Await parts now s d c → Await parts' now' s' d c)
      → (ds : List Cut) (cs : List Closed) → NoBarrier cs → Awaits parts now s ds cs → Awaits parts' now' s' ds cs
  unfolding Awaits
  awaits_marks parts parts' now now' s s' f [] [] n a = tt
  awaits_marks parts parts' now now' s s' f [] (c ∷ cs) n a = absurd a
  awaits_marks parts parts' now now' s s' f (d ∷ ds) [] n a = absurd a
  awaits_marks parts parts' now now' s s' f (d ∷ ds) (c ∷ cs) n a = (f d c n.0 a.0, awaits_marks parts parts' now now' s s' f ds cs n.1 a.1)

  awaits_none : (parts parts' : Key → Part) (now now' : ℕ) (s s' : Plain) (ds : List Cut) → Awaits parts now s ds [] → Awaits parts' now' s' ds []
  unfolding Awaits
  awaits_none parts parts' now now' s s' [] a = tt
  awaits_none parts parts' now now' s s' (d ∷ ds) a = absurd a

  awaits_more : (parts : Key → Part) (now : ℕ) (s : Plain) (d : Cut) (c : Closed) (ds : List Cut) (cs : List Closed)
      → Awaits parts now s ds cs → Await parts now s d c → Awaits parts now s (ds ++ d ∷ []) (cs ++ c ∷ [])
  unfolding Awaits
  awaits_more parts now s d c [] [] a b = (b, tt)
  awaits_more parts now s d c [] (e ∷ cs) a b = absurd a
  awaits_more parts now s d c (e ∷ ds) [] a b = absurd a
  awaits_more parts now s d c (e ∷ ds) (f ∷ cs) a b = (a.0, awaits_more parts now s d c ds cs a.1 b)

  -- where the machine is open, only watermarks wait to be sent, and in serial mode nothing
  awaits_open : (parts parts' : Key → Part) (now now' : ℕ) (s s' : Plain) (ds : List Cut) (cs : List Closed) → NoBarrier cs → (serial ≡ true → cs ≡ [])
      → ((d : Cut) (c : Closed) → IsWatermark c.closing → serial ≡ false → Await parts now s d c → Await parts' now' s' d c)
      → Awaits parts now s ds cs → Awaits parts' now' s' ds cs
  awaits_open parts parts' now now' s s' ds cs n e f a = by_cases serial
      (λ x. subst (Awaits parts' now' s' ds) (sym (e x)) (awaits_none parts parts' now now' s s' ds (subst (Awaits parts now s ds) (e x) a)))
      (λ x. awaits_marks parts parts' now now' s s' (λ d c i. f d c i x) ds cs n a)

  -- the machine and the plain thread
  pub record IsInStep (m : Machine) (done : List Event) : Type 0 where
    pub alone : Alone g p Good H from fits m done
    pub sent : List Cut
    pub unsent : List Cut
    pub cuts_are : cuts (sync_from g p from done).entries ≡ sent ++ unsent
    pub paired : Paired serial (cuts m.written) sent
    pub awaits : Awaits m.parts m.epoch (sync_from g p from done) unsent m.unsent

  -- what follows from it

  plain_lines : (m : Machine) (done : List Event) → Alone g p Good H from fits m done → (k : Key) → said_lines (settled p (m.parts k)) ≡ lines_of k (sync_from g p from done).entries
  plain_lines m done a k = ap said_lines (a.settles k) ∙ sym (projected_from g p from fits k done).lines

  lines_prefix : (m : Machine) (done : List Event) → Alone g p Good H from fits m done → (k : Key) → IsPrefix (lines_of k m.written) (lines_of k (sync_from g p from done).entries)
  lines_prefix m done a k =
      let w : Grows (part_lines (m.parts k)) (said_lines (settled p (m.parts k))) = settled_grows p Good H (m.parts k) in
      (w.more, sym (plain_lines m done a k) ∙ (w.is ∙ ap (λ (l : List (List ℤ)). l ++ w.more) (sym (a.wrote k))))

  awaits_no_more : (all : Key → ℕ) (parts : Key → Part) (now : ℕ) (s : Plain) (ds : List Cut) (cs : List Closed) → ((k : Key) → all k ≤ line_count s.entries k) → Awaits parts now s ds cs → HasNoMore serial all [] ds
  unfolding Awaits
  awaits_no_more all parts now s [] [] h a = tt
  awaits_no_more all parts now s [] (c ∷ cs) h a = absurd a
  awaits_no_more all parts now s (d ∷ ds) [] h a = absurd a
  awaits_no_more all parts now s (d ∷ ds) (c ∷ cs) h a =
      (λ t k. (let l : all k ≤ line_count s.entries k = h k in let r : line_count s.entries k ≤ d.lines k = a.0.at_most t k in omega arith), awaits_no_more all parts now s ds cs h a.1)

  pub so_far : (m : Machine) (done : List Event) → IsInStep m done → LawfulSoFar serial m.written (sync_from g p from done).entries
  so_far m done i =
      let lines : (k : Key) → IsPrefix (lines_of k m.written) (lines_of k (sync_from g p from done).entries) = lines_prefix m done i.alone in
      record {
        lines = lines;
        markers = (markers i.unsent, ap markers i.cuts_are ∙ (markers-append i.sent i.unsent ∙ ap (λ (ms : List Marker). ms ++ markers i.unsent) (sym (paired_markers serial (cuts m.written) i.sent i.paired))));
        has_all = subst (HasAll (cuts m.written)) (sym i.cuts_are) (paired_all serial (cuts m.written) i.sent i.unsent i.paired);
        has_no_more = subst (HasNoMore serial (line_count m.written) (cuts m.written)) (sym i.cuts_are)
            (paired_no_more serial (line_count m.written) (cuts m.written) i.sent i.unsent
            (awaits_no_more (line_count m.written) m.parts m.epoch (sync_from g p from done) i.unsent m.unsent (λ k. prefix_count _ _ (lines k)) i.awaits) i.paired);
      }

  -- where the machine is at rest

  none_unsent : (parts : Key → Part) (now : ℕ) (s : Plain) (ds : List Cut) (cs : List Closed) → cs ≡ [] → Awaits parts now s ds cs → ds ≡ []
  unfolding Awaits
  none_unsent parts now s [] cs e a = refl
  none_unsent parts now s (d ∷ ds) [] e a = absurd a
  none_unsent parts now s (d ∷ ds) (c ∷ cs) e a = absurd (cc e)

  rest_at : (o : Option Context) (is : List Waiting) (s : Said) → o ≡ None → is ≡ [] → part_lines (part_of o is s) ≡ said_lines (settled p (part_of o is s))
  rest_at None [] s a b = ap lines_in (append-nil s.groups)
  rest_at None (i ∷ is) s a b = absurd (cc b)
  rest_at (Some c) is s a b = absurd (cc a)

  pub at_rest : (m : Machine) (done : List Event) → IsInStep m done → IsAtRest m → Lawful serial m.written (sync_from g p from done).entries
  at_rest m done i r =
      let part : LawfulSoFar serial m.written (sync_from g p from done).entries = so_far m done i in
      let none : i.unsent ≡ [] = none_unsent m.parts m.epoch (sync_from g p from done) i.unsent m.unsent r.unsent i.awaits in
      record {
        lines = λ k. i.alone.wrote k ∙ (rest_at (m.parts k).owner (m.parts k).waiting (m.parts k).said (r.owners k) (r.waiting k) ∙ plain_lines m done i.alone k);
        markers = paired_markers serial (cuts m.written) i.sent i.paired ∙ sym (ap markers (i.cuts_are ∙ (ap (λ (ds : List Cut). i.sent ++ ds) none ∙ append-nil i.sent)));
        has_all = part.has_all;
        has_no_more = part.has_no_more;
      }

  -- an event of one key

  goes_in_step : (k : Key) (must : Option Key) (new : List (List ℤ)) (q : Part) (m : Machine) (done : List Event) → Goes p Good new (m.parts k) q → Alone g p Good H from fits (goes_on k must new q m) done → IsInStep m done
      → IsInStep (goes_on k must new q m) done
  goes_in_step k must new q m done go a i = record {
    alone = a;
    sent = i.sent;
    unsent = i.unsent;
    cuts_are = i.cuts_are;
    paired = subst (λ (cs : List Cut). Paired serial cs i.sent) (sym (cuts_said m.written k new)) i.paired;
    awaits = awaits_map m.parts (part_at m.parts k q) m.epoch m.epoch (sync_from g p from done) (sync_from g p from done)
        (λ d c w. record {
          earlier = w.earlier;
          planned = w.planned;
          at_least = on_part (λ (j : Key) (x : Part). d.lines j ≤ length (said_lines (upto p c.epoch x))) m.parts k q
              (let more : Grows (said_lines (upto p c.epoch (m.parts k))) (said_lines (upto p c.epoch q)) = go.upto c.epoch m.epoch (i.alone.sorted k) in
              let h : length (said_lines (upto p c.epoch (m.parts k))) ≤ length (said_lines (upto p c.epoch q)) = prefix_count _ _ (more.more, more.is) in
              let l : d.lines k ≤ length (said_lines (upto p c.epoch (m.parts k))) = w.at_least k in omega arith)
              w.at_least;
          at_most = w.at_most;
          last = λ b. on_part (λ (j : Key) (x : Part). PartSorted c.epoch x) m.parts k q (go.sorted c.epoch (w.last b k)) (w.last b);
        }) i.unsent m.unsent i.awaits;
  }

  -- the oldest marker is sent

  marker_planned : (c : Closed) (d : Cut) (m : Machine) (done : List Event) → Alone g p Good H from fits m done → Await m.parts m.epoch (sync_from g p from done) d c → IsFinished c.epoch m
      → (cl : Closing) → c.closing ≡ cl → IsPlanned cl d.marker (sync_from g p from done) → marker_of g p cl m ≡ d.marker
  unfolding IsPlanned IsBarrier
  marker_planned c d m done a w f (ByWatermark t) e h = sym h
  marker_planned c d m done a w f (ByBarrier id) e h = same ∙ sym h
    where
      is_barrier : IsBarrier (ByBarrier id)
      is_barrier = tt

      states : (k : Key) → (m.parts k).said.state ≡ (sync_from g p from done).map k
      states k = ap (λ (s : Said). s.state) (sym (nothing_left p Good H c.epoch (m.parts k) (w.last (subst IsBarrier (sym e) is_barrier) k) (f k)) ∙ a.settles k) ∙ sym (projected_from g p from fits k done).state

      maps : (λ (k : Key). (m.parts k).said.state) ≡ (sync_from g p from done).map
      maps = fun_ext states

      same : marker_of g p (ByBarrier id) m ≡ block_of g p id (sync_from g p from done)
      same = λ i. Block (block_text g p.states id (a.wm i) (parts_of (a.keys i) (maps i)))

  send_in_step : (m : Machine) (done : List Event) → IsInStep m done → (cs : List Closed) → m.unsent ≡ cs → FirstIsFinished cs m → Alone g p Good H from fits (send_first g p cs m) done → IsInStep (send_first g p cs m) done
  unfolding Awaits
  send_in_step m done i [] e f a = absurd f
  send_in_step m done i (c ∷ cs) e f a = of i.unsent i.cuts_are (subst (Awaits m.parts m.epoch (sync_from g p from done) i.unsent) e i.awaits)
    where
      mk : Marker
      mk = marker_of g p c.closing m

      counted : (k : Key) → counts m.written k ≡ line_count m.written k
      counted k = let t : counts m.written k ≡ 0 + line_count m.written k = counts_behind-is (λ j. 0) m.written k in omega arith

      of : (u : List Cut) → cuts (sync_from g p from done).entries ≡ i.sent ++ u → Awaits m.parts m.epoch (sync_from g p from done) u (c ∷ cs) → IsInStep (send_first g p (c ∷ cs) m) done
      of [] q w = absurd w
      of (d ∷ ds) q w = record {
        alone = a;
        sent = i.sent ++ d ∷ [];
        unsent = ds;
        cuts_are = q ∙ sym (append_assoc i.sent (d ∷ []) ds);
        paired = subst (λ (x : List Cut). Paired serial x (i.sent ++ d ∷ [])) (sym (cuts_marked m.written mk))
            (paired_more serial (cuts m.written) i.sent (cut_behind mk m.written) d i.paired
            (marker_planned c d m done i.alone w.0 f c.closing refl w.0.planned)
            (λ k. least k) (λ t k. most t k));
        awaits = w.1;
      }
        where
          least : (k : Key) → d.lines k ≤ counts m.written k
          least k =
              let x : d.lines k ≤ length (said_lines (upto p c.epoch (m.parts k))) = w.0.at_least k in
              let y : length (said_lines (upto p c.epoch (m.parts k))) ≡ line_count m.written k = ap length (finished_lines p Good H c.epoch (m.parts k) (f k) ∙ sym (i.alone.wrote k)) in
              let t : counts m.written k ≡ line_count m.written k = counted k in omega arith

          most : IsStrict serial d.marker → (k : Key) → counts m.written k ≤ d.lines k
          most s k =
              let x : line_count (sync_from g p from done).entries k ≤ d.lines k = w.0.at_most s k in
              let y : line_count m.written k ≤ line_count (sync_from g p from done).entries k = prefix_count _ _ (lines_prefix m done i.alone k) in
              let t : counts m.written k ≡ line_count m.written k = counted k in omega arith

  -- a row is admitted

  mark_planned : (c : Closing) (mk : Marker) (s s' : Plain) → IsWatermark c → IsPlanned c mk s → IsPlanned c mk s'
  unfolding IsPlanned
  mark_planned (ByWatermark t) mk s s' i h = h
  mark_planned (ByBarrier id) mk s s' i h = absurd i

  mark_not_strict : (c : Closing) (mk : Marker) (s : Plain) → IsWatermark c → serial ≡ false → IsPlanned c mk s → IsStrict serial mk → ⊥
  unfolding IsPlanned
  mark_not_strict (ByWatermark t) mk s i e h x = both_ways serial e (subst (IsStrict serial) h x)
  mark_not_strict (ByBarrier id) mk s i e h x = i

  mark_no_barrier : (c : Closing) → IsWatermark c → IsBarrier c → ⊥
  unfolding IsBarrier
  mark_no_barrier (ByWatermark t) i b = b
  mark_no_barrier (ByBarrier id) i b = i

  -- a watermark that waits to be sent is not touched by what comes behind it
  still_awaits : (parts parts' : Key → Part) (now now' : ℕ) (s s' : Plain) → now ≤ now' → ((e : ℕ) (k : Key) → e < now → upto p e (parts' k) ≡ upto p e (parts k))
      → (d : Cut) (c : Closed) → IsWatermark c.closing → serial ≡ false → Await parts now s d c → Await parts' now' s' d c
  still_awaits parts parts' now now' s s' n u d c i f a = record {
    earlier = (let e : c.epoch < now = a.earlier in omega arith);
    planned = mark_planned c.closing d.marker s s' i a.planned;
    at_least = λ k. subst (λ (x : Said). d.lines k ≤ length (said_lines x)) (sym (u c.epoch k a.earlier)) (a.at_least k);
    at_most = λ x. absurd (mark_not_strict c.closing d.marker s i f a.planned x);
    last = λ b. absurd (mark_no_barrier c.closing i b);
  }

  admit_in_step : (r : Rules) → r.serial ≡ serial → (n : ℕ) (k : Key) (time : ℤ) (values : List ℤ) (m : Machine) (done : List Event) → IsInStep m done → IsOpen r m
      → Alone g p Good H from fits (happens g p (Admit n k time values) m) (done ++ event.Row k time values ∷ []) → IsInStep (happens g p (Admit n k time values) m) (done ++ event.Row k time values ∷ [])
  admit_in_step r same n k time values m done i o a = record {
    alone = a;
    sent = i.sent;
    unsent = i.unsent;
    cuts_are = ap (λ (s : Plain). cuts s.entries) (sync_next g p from done (event.Row k time values))
        ∙ (cuts_said (sync_from g p from done).entries k (job_run p (row_job (sync_from g p from done).wm time values) ((sync_from g p from done).map k).cells).talk.lines ∙ i.cuts_are);
    paired = i.paired;
    awaits = awaits_open m.parts (part_at m.parts k next) m.epoch m.epoch (sync_from g p from done) (sync_from g p from (done ++ event.Row k time values ∷ [])) i.unsent m.unsent o.0 (λ x. o.1 (same ∙ x))
        (still_awaits m.parts (part_at m.parts k next) m.epoch m.epoch (sync_from g p from done) (sync_from g p from (done ++ event.Row k time values ∷ [])) (omega arith)
        (λ e j h. on_part (λ (l : Key) (x : Part). upto p e x ≡ upto p e (m.parts l)) m.parts k next (admit_upto p Good H e m.epoch n (row_facts m.wm time values) (m.parts k) h) (λ l. refl) j))
        i.awaits;
  }
    where
      next : Part
      next = admit n m.epoch (row_facts m.wm time values) (m.parts k)

  -- an epoch is closed

  new_awaits : (parts : Key → Part) (epoch : ℕ) (s : Plain) (es : List Entry) (mk : Marker) (c : Closing) → s.entries ≡ es ++ entry.Mark mk ∷ []
      → ((k : Key) → said_lines (settled p (parts k)) ≡ lines_of k s.entries) → ((k : Key) → PartSorted epoch (parts k)) → IsPlanned c mk s
      → Await parts (suc epoch) s (cut_behind mk es) (record { epoch = epoch; closing = c })
  new_awaits parts epoch s es mk c q z o pl = record {
    earlier = omega arith;
    planned = pl;
    at_least = λ k. (let t : counts es k ≡ 0 + line_count es k = counts_behind-is (λ j. 0) es k in
        let u : line_count s.entries k ≡ line_count es k = ap length (lines_are k) in
        let f : length (said_lines (upto p epoch (parts k))) ≡ line_count s.entries k = ap length (ap said_lines (full_upto p Good H epoch (parts k) (o k)) ∙ z k) in omega arith);
    at_most = λ x k. (let t : counts es k ≡ 0 + line_count es k = counts_behind-is (λ j. 0) es k in
        let u : line_count s.entries k ≡ line_count es k = ap length (lines_are k) in omega arith);
    last = λ b. o;
  }
    where
      lines_are : (k : Key) → lines_of k s.entries ≡ lines_of k es
      lines_are k = ap (lines_of k) q ∙ lines_of_marked k es mk

  close_in_step : (r : Rules) → r.serial ≡ serial → (c : Closing) (parts : Key → Part) (wm : ℤ) (m : Machine) (done : List Event) (ev : Event) (es : List Entry) (mk : Marker) → IsInStep m done → IsOpen r m
      → Alone g p Good H from fits (close c parts wm m) (done ++ ev ∷ [])
      → (sync_from g p from (done ++ ev ∷ [])).entries ≡ es ++ entry.Mark mk ∷ [] → cuts es ≡ cuts (sync_from g p from done).entries → IsPlanned c mk (sync_from g p from (done ++ ev ∷ []))
      → ((k : Key) → PartSorted m.epoch (parts k)) → ((e : ℕ) (k : Key) → e < m.epoch → upto p e (parts k) ≡ upto p e (m.parts k))
      → IsInStep (close c parts wm m) (done ++ ev ∷ [])
  close_in_step r same c parts wm m done ev es mk i o a q x pl so u = record {
    alone = a;
    sent = i.sent;
    unsent = i.unsent ++ cut_behind mk es ∷ [];
    cuts_are = ap cuts q ∙ (cuts_marked es mk ∙ (ap (λ (cs : List Cut). cs ++ cut_behind mk es ∷ []) (x ∙ i.cuts_are) ∙ append_assoc i.sent i.unsent (cut_behind mk es ∷ [])));
    paired = i.paired;
    awaits = awaits_more parts (suc m.epoch) s' (cut_behind mk es) (record { epoch = m.epoch; closing = c }) i.unsent m.unsent
        (awaits_open m.parts parts m.epoch (suc m.epoch) (sync_from g p from done) s' i.unsent m.unsent o.0 (λ x. o.1 (same ∙ x))
        (still_awaits m.parts parts m.epoch (suc m.epoch) (sync_from g p from done) s' (omega arith) u) i.awaits)
        (new_awaits parts m.epoch s' es mk c q (plain_lines (close c parts wm m) (done ++ ev ∷ []) a) so pl);
  }
    where
      s' : Plain
      s' = sync_from g p from (done ++ ev ∷ [])

  fire_cuts : (fuel : ℕ) (more : Key → ℕ) (s : Plain) → cuts (fire_all p fuel more s).entries ≡ cuts s.entries
  fire_cuts zero more s = refl
  fire_cuts (suc fuel) more s = of (next_due s.wm s.keys more s.map) (λ less t. fire_cuts fuel less t)
    where
      of : (o : Option Due) → ((less : Key → ℕ) (t : Plain) → cuts (fire_all p fuel less t).entries ≡ cuts t.entries) → cuts (fire_next p (fire_all p fuel) o more s).entries ≡ cuts s.entries
      of None go = refl
      of (Some d) go = go (one_less more d.key) (plain.fire p d s) ∙ cuts_said s.entries d.key (job_run p (firing_job s.wm d.time) (s.map d.key).cells).talk.lines

  mark_in_step : (r : Rules) → r.serial ≡ serial → (w : ℤ) (m : Machine) (done : List Event) → IsInStep m done → IsOpen r m → int_lt m.wm w ≡ true
      → Alone g p Good H from fits (happens g p (Close (ByWatermark w)) m) (done ++ event.Mark w ∷ []) → IsInStep (happens g p (Close (ByWatermark w)) m) (done ++ event.Mark w ∷ [])
  unfolding IsPlanned
  mark_in_step r same w m done i o h a =
      close_in_step r same (ByWatermark w) (λ k. mark m.epoch w most_firings (m.parts k)) w m done (event.Mark w) fired.entries (Watermark w) i o a
      (ap (λ (s : Plain). s.entries) (sync_next g p from done (event.Mark w) ∙ watermark_taken g p w (sync_from g p from done) (subst (λ (u : ℤ). int_lt u w ≡ true) i.alone.wm h)))
      (fire_cuts (most_firings * length (sync_from g p from done).keys) (λ k. most_firings) (at_watermark w (sync_from g p from done)))
      refl
      (λ k. (mark_keeps p Good H m.epoch w most_firings (m.parts k) (i.alone.good k) (i.alone.sorted k)).sorted)
      (λ e k x. mark_upto p Good H e m.epoch w most_firings (m.parts k) x)
    where
      fired : Plain
      fired = all_fired p (at_watermark w (sync_from g p from done))

  barrier_in_step : (r : Rules) → r.serial ≡ serial → (id : ℤ) (m : Machine) (done : List Event) → IsInStep m done → IsOpen r m
      → Alone g p Good H from fits (happens g p (Close (ByBarrier id)) m) (done ++ event.Barrier id ∷ []) → IsInStep (happens g p (Close (ByBarrier id)) m) (done ++ event.Barrier id ∷ [])
  unfolding IsPlanned
  barrier_in_step r same id m done i o a =
      close_in_step r same (ByBarrier id) m.parts m.wm m done (event.Barrier id) (sync_from g p from done).entries (block_of g p id (sync_from g p from done)) i o a
      (ap (λ (s : Plain). s.entries) (sync_next g p from done (event.Barrier id)))
      refl
      (ap (block_of g p id) (sym (sync_next g p from done (event.Barrier id))))
      i.alone.sorted
      (λ e k x. refl)

  -- every event

  none_more : (m : Machine) (done : List Event) → IsInStep m done → IsInStep m (done ++ [])
  none_more m done i = subst (IsInStep m) (sym (append-nil done)) i

  of_none : (m : Machine) (done : List Event) → Alone g p Good H from fits m (done ++ []) → Alone g p Good H from fits m done
  of_none m done a = subst (Alone g p Good H from fits m) (append-nil done) a

  event_at : (r : Rules) → r.serial ≡ serial → (e : Happening) (m : Machine) (done : List Event) → IsInStep m done → Allowed r e m
      → Alone g p Good H from fits (happens g p e m) (done ++ taken (e ∷ [])) → IsInStep (happens g p e m) (done ++ taken (e ∷ []))
  event_at r same (Admit n k time values) m done i h a = admit_in_step r same n k time values m done i h.1 a
  event_at r same (Close (ByWatermark w)) m done i h a = mark_in_step r same w m done i h.1 h.2 a
  event_at r same (Close (ByBarrier id)) m done i h a = barrier_in_step r same id m done i h.1 a
  event_at r same (Fire n k) m done i h a = none_more _ done (goes_in_step k None [] (fire n (m.parts k)) m done (fire_goes p Good H n (m.parts k) (i.alone.good k)) (of_none _ done a) i)
  event_at r same (Start k) m done i h a = none_more _ done (goes_in_step k (must_fire k (start p (m.parts k))) (start_effects p (m.parts k)).lines (start p (m.parts k)) m done (start_goes p Good H (m.parts k) (i.alone.good k)) (of_none _ done a) i)
  event_at r same (Serve k slot) m done i h a = none_more _ done (goes_in_step k m.must [] (serve slot (m.parts k)) m done (serve_goes p Good H slot (m.parts k) (i.alone.good k) h.1) (of_none _ done a) i)
  event_at r same (Deliver k slot) m done i h a = none_more _ done (goes_in_step k (must_fire k (deliver slot (m.parts k))) (deliver_effects slot (m.parts k)).lines (deliver slot (m.parts k)) m done (deliver_goes p Good H slot (m.parts k) (i.alone.good k)) (of_none _ done a) i)
  event_at r same Send m done i h a = none_more _ done (send_in_step m done i m.unsent refl h.1 (of_none _ done a))

  pub event_in_step : (r : Rules) → r.serial ≡ serial → (e : Happening) (m : Machine) (done : List Event) → IsInStep m done → Allowed r e m → IsInStep (happens g p e m) (done ++ taken (e ∷ []))
  event_in_step r same e m done i h = event_at r same e m done i h (event_alone g p Good H from fits r e m done i.alone h)

  pub run_in_step : (r : Rules) → r.serial ≡ serial → (es : List Happening) (m : Machine) (done : List Event) → IsInStep m done → IsRun r g p es m → IsInStep (after_all g p es m) (done ++ taken es)
  run_in_step r same [] m done i h = none_more m done i
  run_in_step r same (e ∷ es) m done i h = subst (IsInStep (after_all g p es (happens g p e m))) (taken_next g p Good H from fits done e es)
      (run_in_step r same es (happens g p e m) (done ++ taken (e ∷ [])) (event_in_step r same e m done i h.0) h.1)

  pub start_in_step : IsInStep (machine_from from) []
  unfolding Awaits Paired
  start_in_step = record { alone = start_alone g p Good H from fits; sent = []; unsent = []; cuts_are = refl; paired = tt; awaits = tt }

  -- whatever events come, the machine is in step with the plain thread
  pub always_in_step : (r : Rules) → r.serial ≡ serial → (es : List Happening) → IsRun r g p es (machine_from from) → IsInStep (machine_of g p from es) (taken es)
  always_in_step r same es h = run_in_step r same es (machine_from from) [] start_in_step h
