-- A task's steps: what they leave of a run, and how it ends.
use Rattle.std.proofs.Common.{◌≡◌, ◌≤◌, ℕ, ℤ, List, [], ◌++◌, length, take, Bool, true, false, Option, Some, None, unwrap_or, Err, refl, sym, ap, ◌∙◌, subst, arith}
use Rattle.std.proofs.lemmas.List.{take-take, take_all, length-take}
use Rattle.std.proofs.lemmas.Option.{none-some}
use Rattle.std.specs.Io.KnownBytes.{Keeps, append_known}
use Rattle.ax_base.specs.Gathered.{Begins}
use Rattle.ax_base.specs.Outside.{Counts, WriteCounts}
use Rattle.ax_base.specs.Reader.{Reader}
use Rattle.ax_base.specs.declared.outside.SinkFault.{SinkFault}
use Rattle.ax_lang.specs.declared.program.Program.{Program}
use Rattle.ax_lang.specs.Shown.{shown_program}
use Rattle.ax_execution.specs.Origins.{first}
use Rattle.ax_execution.specs.MachineControls.{at_origin}
use Rattle.ax_core.specs.Sound.{IsSound, StandsFor}
use Rattle.ax_core.specs.declared.settings.Settings.{Settings}
use Rattle.ax_core.specs.declared.controller.Controller.{Controller}
use Rattle.ax_task.specs.Reads.{sink_end, is_stopped}
use Rattle.ax_task.specs.Clause.{EndCounts}
use Rattle.ax_task.specs.Engines.{Stands}
use Rattle.ax_task.specs.Exchanged.{LessIsLeft}
use Rattle.ax_task.specs.Due.{due}
use Rattle.ax_task.specs.Tasks.{Outer, From, IsUnderway, HasEnded}
use Rattle.ax_task.specs.Unused.{IsUnused}
use Rattle.ax_task.specs.Running.{State, start, IsRunning, DidLeaves, IsNearer}
use Rattle.ax_task.specs.declared.driver.Did.{Did}
use Rattle.ax_task.specs.declared.end.End.{End}
use Rattle.ax_task.specs.declared.engine.Engine.{Engine}
use Rattle.ax_task.specs.declared.reading.Reading.{Reading}
use Rattle.ax_task.proofs.Gathering.{known_nil, keeps_nil, part_same, part_kept, told_stopped, told_kept, told_cut, stop_stopped, stop_kept, stop_cut, counts_cut}
use Rattle.ax_task.proofs.TaskLemmas.{starts}

-- known bytes that begin with those that began with others
pub begins_trans : (a b c : Option (List ℕ)) → Begins a b → Begins b c → Begins a c
begins_trans None b c p q = refl
begins_trans (Some a) None c p q = absurd (none-some a p)
begins_trans (Some a) (Some b) None p q = absurd (none-some b q)
begins_trans (Some a) (Some b) (Some c) p q =
    let within : length a ≤ length b = omega (arith, length-take (length a) b, ap (λ (o : Option (List ℕ)). length (unwrap_or o [])) p) in
    sym (ap Some (take-take (length a) (length b) c within)) ∙ ap (λ (o : Option (List ℕ)). Some (take (length a) (unwrap_or o []))) q ∙ p

begins_refl : (a : Option (List ℕ)) → Begins a a
begins_refl None = refl
begins_refl (Some xs) = ap Some (take_all (length xs) xs (omega arith))

-- an end, with what is gathered then
module _ (s : Settings) (p : Program) (from : From) (left : Option (List ℕ)) (reads : ℕ) (inner : Option (List ℕ)) (room : List ℕ) (w : Counts) (e : End)
    (x : HasEnded s p from (record { left = left; reads = reads; holds = append_known inner room; writes = w }) e) where
  -- nothing more is written
  pub end_stopped : is_stopped e ≡ true → Begins from.outer.holds inner → HasEnded s p from (record { left = left; reads = reads; holds = inner; writes = w }) e
  end_stopped st b = record {
    told = told_stopped s.groups s.serial (shown_program p) from.outer.holds from.outer.holds (append_known inner room) inner refl from.outer.left left (λ a. from.means (from.held ++ a)) e st x.told;
    stopped = stop_stopped s.groups s.serial (shown_program p) from.outer.holds from.outer.holds (append_known inner room) inner refl from.outer.left left from.means from.held e (part_same from.outer.holds inner room b) st x.stopped;
    counts = x.counts;
  }

  module _ (st : is_stopped e ≡ false) (behind : Option (List ℕ)) (rest : List ℕ) (w' : Counts) (k : Keeps (append_known inner room) (append_known behind rest)) where
    -- what was gathered was written
    pub end_kept : rest ≡ [] → w' ≡ w → HasEnded s p from (record { left = left; reads = reads; holds = behind; writes = w' }) e
    end_kept none same = record {
      told = told_kept s.groups s.serial (shown_program p) from.outer.holds from.outer.holds (append_known inner room) behind refl from.outer.left left (λ a. from.means (from.held ++ a)) e (keeps_nil (append_known inner room) behind rest none k) x.told;
      stopped = stop_kept s.groups s.serial (shown_program p) from.outer.holds from.outer.holds (append_known inner room) behind refl from.outer.left left from.means from.held e (keeps_nil (append_known inner room) behind rest none k) st x.stopped;
      counts = subst (λ (v : Counts). EndCounts (record { reads = from.outer.reads; writes = from.outer.writes }) (record { reads = reads; writes = v }) e) (sym same) x.counts;
    }

    -- it could not be written
    pub end_cut : (f : SinkFault) → Begins from.outer.holds behind → WriteCounts {T = Unit {0}} w w' (Err f) → HasEnded s p from (record { left = left; reads = reads; holds = behind; writes = w' }) (sink_end f)
    end_cut f b c = record {
      told = told_cut s.groups s.serial (shown_program p) from.outer.holds from.outer.holds (append_known inner room) behind refl from.outer.left left (λ a. from.means (from.held ++ a)) e (sink_end f) f refl x.told;
      stopped = stop_cut s.groups s.serial (shown_program p) from.outer.holds from.outer.holds (append_known inner room) behind refl from.outer.left left from.means from.held e (sink_end f) f refl (part_kept from.outer.holds (append_known inner room) behind rest k b) x.stopped;
      counts = counts_cut (record { reads = from.outer.reads; writes = from.outer.writes }) (record { reads = reads; writes = w }) w' e f st x.counts c;
    }

pub end_as : (s : Settings) (p : Program) (from : From) (now : Outer) (e e' : End) → e' ≡ e → HasEnded s p from now e → HasEnded s p from now e'
end_as s p from now e e' is x = subst (HasEnded s p from now) (sym is) x

-- a task that was made
pub starts_running : (s : Settings) (p : Program) (last : ℤ) (e : Engine) (r : Reading) (lines : Reader) (gathered : List ℕ) (now : Outer) → Stands s p e [] [] → r.events.fields ≡ (shown_program p).fields → r.events.last ≡ last → r.next ≡ None → r.found ≡ None
    → lines.failed ≡ false → gathered ≡ [] → IsRunning s p (start p last lines now) (record { engine = e; reading = r; lines = lines; gathered = gathered }) now
starts_running s p last e r lines gathered now x fields is next found may none = record {
  underway = subst (λ (h : Option (List ℕ)). IsUnderway s p (start p last lines now) e r lines (record { left = now.left; reads = now.reads; holds = h; writes = now.writes }))
      (sym (known_nil now.holds gathered none)) (starts s p last e r lines now x fields is next found may);
  begun = begins_refl now.holds;
}

pub no_more : (a b c : ℕ) → a ≤ b → b ≤ c → a ≤ c
no_more a b c h k = omega (arith, h, k)

-- where no event was taken, there is less to do
pub nearer_worked : (took : Bool) (t t' : State) → took ≡ false → IsNearer took t t' → LessIsLeft t.engine t'.engine × (due t'.reading t'.lines ≤ due t.reading t.lines)
nearer_worked took t t' is h = subst (λ (b : Bool). IsNearer b t t') is h

-- a controller that was just made
pub first_unused : (s : Settings) (p : Program) (a : Controller) → IsSound a → a.settings ≡ s → a.program ≡ p → StandsFor a (at_origin (first (shown_program p))) → IsUnused s a
first_unused s p a sound settings program stands = record {
  sound = sound;
  settings = settings;
  stands = subst (λ (q : Program). StandsFor a (at_origin (first (shown_program q)))) (sym program) stands;
}

-- the same of a sink that gathers round the first
pub moved_in : (s : Settings) (p : Program) (from : From) (e : Engine) (r : Reading) (lines : Reader) (left : Option (List ℕ)) (reads : ℕ) (h h' : Option (List ℕ)) (w w' : Counts) (room room' : List ℕ) → h' ≡ h → w' ≡ w → room' ≡ room
    → IsUnderway s p from e r lines (record { left = left; reads = reads; holds = append_known h room; writes = w }) → IsUnderway s p from e r lines (record { left = left; reads = reads; holds = append_known h' room'; writes = w' })
moved_in s p from e r lines left reads h h' w w' room room' hs ws rs x =
    let now : Option (List ℕ) → Counts → List ℕ → Outer = λ k v t. record { left = left; reads = reads; holds = append_known k t; writes = v } in
    subst (λ (k : Option (List ℕ)). IsUnderway s p from e r lines (now k w' room')) (sym hs)
    (subst (λ (v : Counts). IsUnderway s p from e r lines (now h v room')) (sym ws)
    (subst (λ (t : List ℕ). IsUnderway s p from e r lines (now h w t)) (sym rs) x))

pub gathered_as : (s : Settings) (p : Program) (from : From) (e : Engine) (r : Reading) (lines : Reader) (a b : List ℕ) (now : Outer) (d : Did) → b ≡ a
    → DidLeaves s p from (record { engine = e; reading = r; lines = lines; gathered = a }) now d → DidLeaves s p from (record { engine = e; reading = r; lines = lines; gathered = b }) now d
gathered_as s p from e r lines a b now d same x = subst (λ (t : List ℕ). DidLeaves s p from (record { engine = e; reading = r; lines = lines; gathered = t }) now d) (sym same) x
