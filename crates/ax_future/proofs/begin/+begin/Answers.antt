use Rattle.std.proofs.Common.{◌≡◌, ◌∙◌, ◌+◌, ◌≤◌, ◌∷◌, ◌++◌, [], ◌&&◌, ℕ, List, suc, max, length, false, sym, ap, subst, arith, length-append}
use Rattle.ax_text.specs.Programs.{width}
use Rattle.ax_text.specs.Controls.{Rest, Control, Done, Turn, slots, is_done, also, begin}
use Rattle.ax_future.specs.declared.callback.Ask.{Ask}
use Rattle.ax_future.specs.declared.moves.Move.{Move}
use Rattle.ax_lang.specs.Shown.{text_from}
use Rattle.ax_future.specs.Nodes.{cursor_in, control_in, highest}
use Rattle.ax_future.specs.Talks.{known_in, talk_of, asks_in}
use Rattle.ax_future.specs.Moves.{Moves, Ends, Splits, above}
use Rattle.ax_future.proofs.BeginLemmas.{arm_slots, ends, split_waits}
use Rattle.ax_future.proofs.begin.+begin.Goals as goal

pub begin-returns-in-End : goal.begin-returns-in-End
begin-returns-in-End t c =
    let p = c.args.program.now in
    let f = known_in c.args.facts.now in
    let k = cursor_in p c.loop-cursor.cursor.items in
    let k' = cursor_in p c.advance.new.cursor.items in
    let u = talk_of c.loop-cursor.going in
    let u' = talk_of c.advance.new.going in
    let e : Ends k u u' = subst (λ (m : Move). Moves f p k k' u u' m) c.in-End.is c.in_ok-advance.ensures.moves in
    sym c.loop-cursor.invariant.same ∙ (ends f k k' c.args.used.now u u' (asks_in c.loop-cursor.going.said.asks) e
    ∙ ap (λ (as' : List Ask). record { control = Done; talk = u'; asks = asks_in as' }) (sym c.in_ok-advance.ensures.asks))

pub begin-begin_arm-requires-in-Split : goal.begin-begin_arm-requires-in-Split
begin-begin_arm-requires-in-Split t c =
    let p = c.args.program.now in
    let f = known_in c.args.facts.now in
    let k = cursor_in p c.loop-cursor.cursor.items in
    let k' = cursor_in p c.advance.new.cursor.items in
    let u = talk_of c.loop-cursor.going in
    let u' = talk_of c.advance.new.going in
    let one = text_from p c.in-Split.one in
    let two = text_from p c.in-Split.two in
    let used = c.args.used.now in
    let s : Splits f one two k k' u u' = subst (λ (m : Move). Moves f p k k' u u' m) c.in-Split.is c.in_ok-advance.ensures.moves in
    let n : length (slots (begin f (Rest one ∷ []) used u').control) ≡ length (slots (control_in p c.in_ok-first-in-Split.first)) = ap (λ (x : Turn). length (slots x.control)) c.in_ok-first-in-Split.ensures in
    let l : length (slots (begin f (Rest one ∷ []) used u').control) ≤ width one = arm_slots f one used u' in
    let m : length c.deref.result.now ≡ length used + length (slots (control_in p c.in_ok-first-in-Split.first)) =
    ap (λ (xs : List ℕ). length xs) (c.deref.ensures.value ∙ c.in_ok-more-in-Split.ensures p) ∙ length-append used (slots (control_in p c.in_ok-first-in-Split.first)) in
    let wide = s.wide in
    let narrow = c.loop-cursor.invariant.narrow in
    let high = c.loop-cursor.invariant.high in
    let h : suc (max c.in-Split.one c.in-Split.two) ≤ highest c.loop-cursor.cursor.items = subst (λ (m' : Move). above m' ≤ highest c.loop-cursor.cursor.items) c.in-Split.is c.in_ok-advance.ensures.above in
    (omega arith, omega arith)

pub begin-returns-then-not-are_done : goal.begin-returns-then-not-are_done
begin-returns-then-not-are_done t c =
    let p = c.args.program.now in
    let f = known_in c.args.facts.now in
    let k = cursor_in p c.loop-cursor.cursor.items in
    let k' = cursor_in p c.advance.new.cursor.items in
    let u = talk_of c.loop-cursor.going in
    let u' = talk_of c.advance.new.going in
    let one = text_from p c.in-Split.one in
    let two = text_from p c.in-Split.two in
    let used = c.args.used.now in
    let more = c.deref.result.now in
    let c1 = control_in p c.in_ok-first-in-Split.first in
    let c2 = control_in p c.in_ok-second-in-Split.second in
    let a = asks_in c.loop-cursor.going.said.asks in
    let a1 = asks_in c.begin_arm.new.going.said.asks in
    let a2 = asks_in c.begin_arm-in-Split.new.going.said.asks in
    let t1 = talk_of c.begin_arm.new.going in
    let t2 = talk_of c.begin_arm-in-Split.new.going in
    let s : Splits f one two k k' u u' = subst (λ (m : Move). Moves f p k k' u u' m) c.in-Split.is c.in_ok-advance.ensures.moves in
    let q : also a (begin f (Rest one ∷ []) used u') ≡ record { control = c1; talk = t1; asks = a1 } =
    ap (λ (as' : List Ask). also (asks_in as') (begin f (Rest one ∷ []) used u')) (sym c.in_ok-advance.ensures.asks) ∙ c.in_ok-first-in-Split.ensures in
    let m : more ≡ used ++ slots c1 = c.deref.ensures.value ∙ c.in_ok-more-in-Split.ensures p in
    let r : also a1 (begin f (Rest two ∷ []) more t1) ≡ record { control = c2; talk = t2; asks = a2 } = c.in_ok-second-in-Split.ensures in
    let d : (is_done c1 && is_done c2) ≡ false = sym (c.are_done.ensures p) ∙ c.if-not-are_done.true in
    sym c.loop-cursor.invariant.same ∙ (split_waits f k k' used u u' a one two s a1 a2 more c1 c2 t1 t2 q m r d
    ∙ ap (λ (x : Control). record { control = x; talk = t2; asks = a2 }) (sym (c.in_ok-both-in-Split.ensures p)))
