-- What a step does, put together of what its parts do.
use Rattle.std.proofs.Common.{◌≡◌, inl, true, false, Bool, ℕ, List, Option, Some, None, Err, refl, sym, ap, ◌∙◌, subst}
use Rattle.std.specs.Io.KnownBytes.{Keeps}
use Rattle.ax_base.specs.Outside.{Counts, OwnCounts}
use Rattle.ax_base.specs.Reader.{Reader}
use Rattle.ax_base.specs.declared.outside.SinkFault.{SinkFault}
use Rattle.ax_base.specs.declared.outside.SinkFault.TheVariants as sink
use Rattle.ax_task.specs.Reads.{sink_end, is_stopped}
use Rattle.ax_task.specs.Known.{IsInputEnd}
use Rattle.ax_task.specs.Engines.{IsReady}
use Rattle.ax_task.specs.Exchanged.{Exchanges}
use Rattle.ax_task.specs.Due.{HeldBeforeEnd}
use Rattle.ax_task.specs.Tasks.{Outer, MayRead, IsFound, Finds}
use Rattle.ax_task.specs.Causes.{EndWrites, DidCounts}
use Rattle.ax_task.specs.Steady.{CanGoOn, Where}
use Rattle.ax_task.specs.Running.{State}
use Rattle.ax_task.specs.Things.{Output, text_in, OutputStays, Input, NoWork, Looks, CantTake, Moves, DoesNext, NothingLeft, StaysDone, input_of, output_of, LooksAndDoes, LooksAndRests, Does, Goes, Rests, Ends, EndsUnwritten, Breaks, ByEnd, ByStop, ByDid, DidStop, EndDoes}
use Rattle.ax_task.specs.declared.end.End.{End}
use Rattle.ax_task.specs.declared.end.End.TheVariants as end
use Rattle.ax_task.specs.declared.driver.Did.{Did}
use Rattle.ax_task.specs.declared.driver.Did.TheVariants as did
use Rattle.ax_task.specs.declared.engine.Engine.{Engine}
use Rattle.ax_task.specs.declared.reading.Reading.{Reading}

pub end_map : {P Q : Type 0} → (P → Q) → (e : End) → ByEnd P e → ByEnd Q e
end_map f end.Ok x = f x
end_map f (end.Input line kind) x = f x
end_map f (end.Program line kind) x = x
end_map f end.Read x = f x
end_map f end.Write x = tt
end_map f end.NoMemory x = tt

pub did_map : {P Q R S : Type 0} → (P → R) → (Q → S) → (d : Did) → ByDid P Q d → ByDid R S d
did_map f h did.Went x = f x
did_map f h did.Took x = f x
did_map f h (did.End end) x = end_map h end x

pub where_map : {P Q : Type 0} → (P → Q) → (d : Did) → Where d P → Where d Q
where_map f did.Went x = f x
where_map f did.Took x = f x
where_map f (did.End end) x = tt

-- an end of the input
pub by_found : {P : Type 0} (e : End) → IsInputEnd e → P → ByEnd P e
by_found end.Ok is x = x
by_found (end.Input line kind) is x = x
by_found (end.Program line kind) is x = is
by_found end.Read is x = x
by_found end.Write is x = tt
by_found end.NoMemory is x = tt

pub found_end : (o : Option End) (e : End) → o ≡ Some e → IsFound o → IsInputEnd e
found_end o e is h = subst IsFound is h

pub found_on : (o o' : Option End) (l l' : Option (List ℕ)) (n n' : ℕ) → IsFound o → Finds o o' l l' n n' → IsFound o'
found_on None o' l l' n n' h f = f.0
found_on (Some e) o' l l' n n' h f = subst IsFound (sym f.0) h

pub end_still : (e : End) → IsInputEnd e → (c : Counts) → EndWrites c c e
end_still end.Ok is c = refl
end_still (end.Input line kind) is c = refl
end_still (end.Program line kind) is c = refl
end_still end.Read is c = refl
end_still end.Write is c = absurd is
end_still end.NoMemory is c = (refl, inl refl)

-- the counts at an end by a fault of the sink
pub sink_counts : (T : Type 0) (a b : Counts) (f : SinkFault) (e : End) → e ≡ sink_end f → OwnCounts {T = T} a b (Err f) → EndWrites a b e
sink_counts T a b f e is h = subst (EndWrites a b) (sym is) (of f h)
  where
    of : (f : SinkFault) → OwnCounts {T = T} a b (Err f) → EndWrites a b (sink_end f)
    of sink.Failed h = h
    of sink.NoMemory h = h

-- requests were sent or served
pub moves_next : (e e' : Engine) (r : Reading) (done : Bool) → CantTake e r → done ≡ true → Exchanges e e' done → DoesNext e e' r r
moves_next e e' r done cant is x = record { next = Moves x.thing; comes = (cant, sym x.told ∙ is, x.comes); leads = (x.leads, refl) }

-- the same from what is the same
pub next_as : (e d e' : Engine) (r q r' : Reading) (s : Did) → d ≡ e → q ≡ r → ByDid (DoesNext d e' q r') (StaysDone d e' q r') s → ByDid (DoesNext e e' r r') (StaysDone e e' r r') s
next_as e d e' r q r' s x y h =
    subst (λ (f : Engine). ByDid (DoesNext f e' r r') (StaysDone f e' r r') s) x
    (subst (λ (t : Reading). ByDid (DoesNext d e' t r') (StaysDone d e' t r') s) y h)

-- behind a look
pub looks_next : (e e' : Engine) (i : Input) (q r' : Reading) (lines : Reader) (left : Option (List ℕ)) (reads : ℕ) (s : Did) → Looks i (record { reading = q; lines = lines; left = left; reads = reads })
    → ByDid (DoesNext e e' q r') (StaysDone e e' q r') s
    → ByDid (LooksAndDoes e e' i (record { reading = r'; lines = lines; left = left; reads = reads })) (LooksAndRests e e' i (record { reading = r'; lines = lines; left = left; reads = reads })) s
looks_next e e' i q r' lines left reads s looks = did_map
    (λ d. record { seen = record { reading = q; lines = lines; left = left; reads = reads }; looks = looks; does = d; lines = refl; left = refl; reads = refl })
    (λ d. record {
      looks = subst (λ (t : Reading). Looks i (record { reading = t; lines = lines; left = left; reads = reads })) (sym d.reading) looks;
      engine = d.engine;
      left = d.left;
    })
    s

-- where there was no work
pub reads_next : (t t' : State) (old now : Outer) (d : Engine) (s : Did) → NoWork t.engine → d ≡ t.engine → OutputStays (output_of t old) (output_of t' now)
    → ByDid (LooksAndDoes d t'.engine (input_of t old) (input_of t' now)) (LooksAndRests d t'.engine (input_of t old) (input_of t' now)) s → ByDid (Does t t' old now) (Rests t t' old now) s
reads_next t t' old now d s none same out h = did_map (λ x. Goes none x out) (λ x. record { looks = x.looks; engine = x.engine; left = x.left; output = out }) s
    (subst (λ (f : Engine). ByDid (LooksAndDoes f t'.engine (input_of t old) (input_of t' now)) (LooksAndRests f t'.engine (input_of t old) (input_of t' now)) s) same h)

-- the task can go on
pub steady_behind : (e' : Engine) (q r' : Reading) (lines : Reader) (s : Did) → r'.found ≡ q.found → MayRead lines q.found → IsFound q.found → HeldBeforeEnd r' → Where s (IsReady e') → Where s (CanGoOn e' r' lines)
steady_behind e' q r' lines s same may found none = where_map (λ x. record { ready = x; may = subst (MayRead lines) (sym same) may; found = subst IsFound (sym same) found; none = none }) s

-- the counts of the sink stayed
pub counts_still : (a b : Counts) (s : Did) → b ≡ a → DidCounts a a s → DidCounts a b s
counts_still a b s same h = subst (λ (c : Counts). DidCounts a c s) (sym same) h

-- round a sink that gathers, from what the room and the sink were
pub does_from : (t t' : State) (old now : Outer) (holds : Option (List ℕ)) (writes : Counts) (room : List ℕ) (s : Did) → holds ≡ old.holds → writes ≡ old.writes → room ≡ t.gathered
    → ByDid (Does (record t { gathered = room }) t' (record old { holds = holds; writes = writes }) now) (Rests (record t { gathered = room }) t' (record old { holds = holds; writes = writes }) now) s
    → ByDid (Does t t' old now) (Rests t t' old now) s
does_from t t' old now holds writes room s h w r x =
    let from : Option (List ℕ) → Counts → Outer = λ k v. record old { holds = k; writes = v } in
    subst (λ (b : List ℕ). ByDid (Does (record t { gathered = b }) t' old now) (Rests (record t { gathered = b }) t' old now) s) r
    (subst (λ (v : Counts). ByDid (Does (record t { gathered = room }) t' (from old.holds v) now) (Rests (record t { gathered = room }) t' (from old.holds v) now) s) w
    (subst (λ (k : Option (List ℕ)). ByDid (Does (record t { gathered = room }) t' (from k writes) now) (Rests (record t { gathered = room }) t' (from k writes) now) s) h x))

-- where a run stops for a fault of the sink or for want of memory

pub stop_sink : {P : Type 0} (f : SinkFault) (e : End) → e ≡ sink_end f → P → ByStop P e
stop_sink {P} f e is x = subst (ByStop P) (sym is) (of f)
  where
    of : (f : SinkFault) → ByStop P (sink_end f)
    of sink.Failed = x
    of sink.NoMemory = x

pub stop_any : {P : Type 0} (d : Did) → P → DidStop P d
stop_any did.Went x = tt
stop_any did.Took x = tt
stop_any (did.End end.Ok) x = tt
stop_any (did.End (end.Input line kind)) x = tt
stop_any (did.End (end.Program line kind)) x = tt
stop_any (did.End end.Read) x = tt
stop_any (did.End end.Write) x = x
stop_any (did.End end.NoMemory) x = x

pub stop_none : (P : Type 0) (e : End) → is_stopped e ≡ false → ByStop P e
stop_none P end.Ok h = tt
stop_none P (end.Input line kind) h = tt
stop_none P (end.Program line kind) h = tt
stop_none P end.Read h = tt
stop_none P end.Write h = absurd (cc h)
stop_none P end.NoMemory h = absurd (cc h)

pub end_was : {P : Type 0} (e : End) → is_stopped e ≡ false → ByEnd P e → P
end_was end.Ok h x = x
end_was (end.Input line kind) h x = x
end_was (end.Program line kind) h x = absurd x
end_was end.Read h x = x
end_was end.Write h x = absurd (cc h)
end_was end.NoMemory h x = absurd (cc h)

-- the sink stayed
pub stop_still : {G : Type 0} (P : G → Type 0) (a b : G) (e : End) → b ≡ a → ByStop (P a) e → ByStop (P b) e
stop_still P a b e same h = subst (λ k. ByStop (P k) e) (sym same) h

-- what was gathered could not all be written
pub rests_unwritten : (t t' t2 : State) (old now now2 : Outer) → t2.engine ≡ t'.engine → input_of t2 now2 ≡ input_of t' now → Keeps (text_in (output_of t' now)) (text_in (output_of t2 now2)) → Rests t t' old now → EndsUnwritten t t2 old now2
rests_unwritten t t' t2 old now now2 engine input keeps x = record {
  looks = subst (Looks (input_of t old)) (sym input) x.looks;
  engine = engine ∙ x.engine;
  left = subst (λ (e : Engine). NothingLeft e t2.reading) (sym engine) (subst (λ (r : Reading). NothingLeft t'.engine r) (sym (ap (λ (i : Input). i.reading) input)) x.left);
  kept = subst (λ (o : Output). Keeps (text_in o) (text_in (output_of t2 now2))) x.output keeps;
}

-- at each end
pub end_does : (t t' : State) (old now : Outer) (e : End) → ByEnd (Ends t t' old now) e → ByStop (Breaks t t' old now) e → EndDoes t t' old now e
end_does t t' old now end.Ok x y = x
end_does t t' old now (end.Input line kind) x y = x
end_does t t' old now (end.Program line kind) x y = x
end_does t t' old now end.Read x y = x
end_does t t' old now end.Write x y = y
end_does t t' old now end.NoMemory x y = y

-- round a sink that gathers, from what the room and the sink were
pub breaks_from : (t t' : State) (old now : Outer) (holds : Option (List ℕ)) (writes : Counts) (room : List ℕ) (s : Did) → holds ≡ old.holds → writes ≡ old.writes → room ≡ t.gathered
    → DidStop (Breaks (record t { gathered = room }) t' (record old { holds = holds; writes = writes }) now) s → DidStop (Breaks t t' old now) s
breaks_from t t' old now holds writes room s h w r x =
    let from : Option (List ℕ) → Counts → Outer = λ k v. record old { holds = k; writes = v } in
    subst (λ (b : List ℕ). DidStop (Breaks (record t { gathered = b }) t' old now) s) r
    (subst (λ (v : Counts). DidStop (Breaks (record t { gathered = room }) t' (from old.holds v) now) s) w
    (subst (λ (k : Option (List ℕ)). DidStop (Breaks (record t { gathered = room }) t' (from k writes) now) s) h x))
