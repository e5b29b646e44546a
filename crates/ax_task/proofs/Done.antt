-- What the controller's own calls leave, as things that a step does.
use Rattle.std.proofs.Common.{◌≡◌, ◌⊎◌, inl, inr, true, false, List, ℕ, [], Bool, Result, Ok, Err, IfOk, OnOk, refl, sym, ap, ◌∙◌, subst}
use Rattle.std.specs.Io.KnownBytes.{Appends}
use Rattle.ax_base.specs.Outside.{AppendsSome}
use Rattle.ax_machine.specs.Entries.{says, text_of}
use Rattle.ax_time.specs.declared.epoch.Marker.{Marker}
use Rattle.ax_time.specs.declared.epoch.Marker.TheVariants as marker
use Rattle.ax_execution.specs.Machine.{Close}
use Rattle.ax_execution.specs.MachineControls.{MachineControl}
use Rattle.ax_execution.specs.ControlsAllowed.{FirstIsFinishedOn}
use Rattle.ax_core.specs.declared.settings.Settings.{Settings}
use Rattle.ax_core.specs.declared.controller.Controller.{Controller}
use Rattle.ax_core.specs.declared.effects.Fired.{Fired}
use Rattle.ax_core.specs.declared.effects.Effects.{Effects}
use Rattle.ax_core.specs.May.{may_fire, has_mail}
use Rattle.ax_core.specs.Epochs.{closing_of}
use Rattle.ax_core.specs.Sound.{StandsFor}
use Rattle.ax_core.specs.Events.{Makes, Sends}
use Rattle.ax_core.specs.Numbers.{NoneNumbered}
use Rattle.ax_core.specs.Order.{Posts, IdleBehind, idle_in}
use Rattle.ax_task.specs.Shards.{Serving}
use Rattle.ax_task.specs.Engines.{ShardsStay, IsBlockOf, IsMarkerText, WroteMarker, WritesPart}
use Rattle.ax_task.specs.Calls.{HasFired, HasRun, HasClosed}
use Rattle.ax_task.specs.Things.{Output, text_in, Fires, RunsMail, SendsMarker, DoesWork, SendsThrough, CutsThrough, WorkBreaks, Short, Cut, NoWork}
use Rattle.ax_task.specs.declared.engine.Engine.{Engine}
use Rattle.ax_task.proofs.EngineLemmas.{true_false}

-- an epoch was closed
pub close_has : {E : Type 0} (e e' : Engine) → ShardsStay e e' → (k : Marker) (r : Result (Unit {0}) E) → OnOk r (Posts e.core e'.core []) → OnOk r (NoneNumbered e.core e'.core) → OnOk r ((m : MachineControl) → StandsFor e.core m → IdleBehind e.core e'.core k m)
    → OnOk r ((m : MachineControl) → StandsFor e.core m → Makes e.core e'.core (Close (closing_of k)) m) → OnOk r (HasClosed e e' k)
close_has e e' d k (Ok x) order numbers idle event = record { event = event; order = order; idle = idle; numbers = numbers; shards = d }
close_has e e' d k (Err x) order numbers idle event = tt

-- the text of a marker is told by controller, settings and shards
pub block_as : (e e' : Engine) → ShardsStay e e' → e'.core ≡ e.core → (id : _) (text : List ℕ) → IsBlockOf e id text → IsBlockOf e' id text
block_as e e' d core id text x =
    let put : Controller → Settings → Serving → Engine = λ a s v. record e { core = a; settings = s; shards = v } in
    let one : IsBlockOf (put e'.core e.settings e.shards) id text = subst (λ (a : Controller). IsBlockOf (put a e.settings e.shards) id text) (sym core) (record { parts = x.parts; lines = x.lines; text = x.text }) in
    let two : IsBlockOf (put e'.core e'.settings e.shards) id text = subst (λ (s : Settings). IsBlockOf (put e'.core s e.shards) id text) (sym d.settings) one in
    let three : IsBlockOf (put e'.core e'.settings e'.shards) id text = subst (λ (v : Serving). IsBlockOf (put e'.core e'.settings v) id text) (sym d.shards) two in
    record { parts = three.parts; lines = three.lines; text = three.text }

pub text_as : (e e' : Engine) → ShardsStay e e' → e'.core ≡ e.core → (k : Marker) (text : List ℕ) → IsMarkerText e k text → IsMarkerText e' k text
text_as e e' d core (marker.Mark time) text x = x
text_as e e' d core (marker.Barrier id) text x = block_as e e' d core id text x

-- a marker was sent; `a` is the controller behind that
pub sends_through : (e e' : Engine) (a : Controller) → ShardsStay e e' → e'.core ≡ a → (k : Marker) → ((m : MachineControl) → StandsFor e.core m → Sends e.core a k m) → Posts e.core a [] → idle_in a ≡ idle_in e.core → NoneNumbered e.core a
    → (o o' : Output) → WroteMarker (record e { core = a }) k (text_in o) (text_in o') → o'.gathered ≡ [] → SendsThrough e e' o o'
sends_through e e' a d core k event order idle numbers o o' w flushed = record {
  marker = k;
  finished = λ m h. (event m h).made.allowed.1;
  sent = record {
    event = λ m h. subst (λ (b : Controller). Sends e.core b k m) (sym core) (event m h);
    order = subst (λ (b : Controller). Posts e.core b []) (sym core) order;
    idle = ap idle_in core ∙ idle;
    numbers = subst (λ (b : Controller). NoneNumbered e.core b) (sym core) numbers;
    shards = d;
  };
  writes = (record { text = w.text; is = text_as (record e { core = a }) e' (record { settings = d.settings; batch = d.batch; shards = d.shards }) core k w.text w.is; grown = w.grown }, flushed);
}

-- a part of a marker was written
pub cuts_through : (e e' : Engine) (a : Controller) → ShardsStay e e' → e'.core ≡ a → (k : Marker) → ((m : MachineControl) → StandsFor e.core m → Sends e.core a k m) → Posts e.core a [] → idle_in a ≡ idle_in e.core → NoneNumbered e.core a
    → (o o' : Output) → WritesPart (record e { core = a }) k (text_in o) (text_in o') → CutsThrough e e' o o'
cuts_through e e' a d core k event order idle numbers o o' w = record {
  marker = k;
  finished = λ m h. (event m h).made.allowed.1;
  sent = record {
    event = λ m h. subst (λ (b : Controller). Sends e.core b k m) (sym core) (event m h);
    order = subst (λ (b : Controller). Posts e.core b []) (sym core) order;
    idle = ap idle_in core ∙ idle;
    numbers = subst (λ (b : Controller). NoneNumbered e.core b) (sym core) numbers;
    shards = d;
  };
  writes = of w;
}
  where
    of : WritesPart (record e { core = a }) k (text_in o) (text_in o') → WritesPart e' k (text_in o) (text_in o')
    of (inl same) = inl same
    of (inr p) = inr (record { text = p.text; is = text_as (record e { core = a }) e' (record { settings = d.settings; batch = d.batch; shards = d.shards }) core k p.text p.is; part = p.part })

-- work broke off

pub fire_breaks : (e e' : Engine) (o : Output) → may_fire e.core ≡ true → WorkBreaks e e' o o
fire_breaks e e' o may = Short (λ none. true_false (sym may ∙ none.fires)) refl

pub mail_breaks : {G : Type 0} (a b : G) (at : G → Output) (e e' : Engine) → may_fire e.core ≡ false → has_mail e.core ≡ true → (b ≡ a) ⊎ ((f : Effects) × HasRun e e' f × AppendsSome (text_in (at a)) (text_in (at b)) (text_of (says f.key f.outs)))
    → WorkBreaks e e' (at a) (at b)
mail_breaks a b at e e' fires mails (inl same) = Short (λ none. true_false (sym mails ∙ none.mails)) (ap at same)
mail_breaks a b at e e' fires mails (inr x) = Cut (RunsMail x.0) (fires, mails) x.1 x.2

pub marker_breaks : (e e' : Engine) (o o' : Output) → may_fire e.core ≡ false → has_mail e.core ≡ false → CutsThrough e e' o o' → WorkBreaks e e' o o'
marker_breaks e e' o o' fires mails x = Cut (SendsMarker x.marker) (fires, mails, x.finished) x.sent x.writes

-- a key fired, or a callback ran
pub works_fire : (e e' : Engine) (o : Output) → may_fire e.core ≡ true → (f : Fired) × HasFired e e' f → DoesWork e e' o o
works_fire e e' o may x = record { work = Fires x.0; comes = may; leads = x.1; writes = refl }

pub works_mail : (e e' : Engine) (o o' : Output) → may_fire e.core ≡ false → has_mail e.core ≡ true → (f : Effects) × HasRun e e' f × Appends (text_in o) (text_in o') (text_of (says f.key f.outs)) → DoesWork e e' o o'
works_mail e e' o o' fires mails x = record { work = RunsMail x.0; comes = (fires, mails); leads = x.1; writes = x.2 }

pub works_marker : {E : Type 0} (e e' : Engine) (o o' : Output) → may_fire e.core ≡ false → has_mail e.core ≡ false → (r : Result Bool E) → IfOk r (λ sent. sent ≡ true → SendsThrough e e' o o') → IfOk r (λ done. done ≡ true → DoesWork e e' o o')
works_marker e e' o o' fires mails (Ok x) h = λ d. let s : SendsThrough e e' o o' = h d in record { work = SendsMarker s.marker; comes = (fires, mails, s.finished); leads = s.sent; writes = s.writes }
works_marker e e' o o' fires mails (Err x) h = tt

-- there is none of that
pub no_work : {E : Type 0} (e : Engine) (a : Controller) → may_fire e.core ≡ false → has_mail e.core ≡ false → (r : Result Bool E) → IfOk r (λ sent. sent ≡ false → a ≡ e.core)
    → IfOk r (λ sent. sent ≡ false → (m : MachineControl) → StandsFor a m → FirstIsFinishedOn m.unsent m → ⊥) → IfOk r (λ done. done ≡ false → NoWork e)
no_work e a fires mails (Ok x) core none = λ d. record {
  fires = fires;
  mails = mails;
  sends = subst (λ (b : Controller). (m : MachineControl) → StandsFor b m → FirstIsFinishedOn m.unsent m → ⊥) (core d) (none d);
}
no_work e a fires mails (Err x) core none = tt
