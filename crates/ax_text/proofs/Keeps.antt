-- What a function on worlds touches, and that functions which are apart commute.
use Rattle.std.proofs.Common.{◌≡◌, ℕ, ℤ, pos, ◌+◌, List, [], ◌∷◌, ◌++◌, map, Bool, true, false, nat_eq, if◌then◌else◌, refl, sym, ap, ap₂, ◌∙◌, arith, subst, Option, Some, None}
use Rattle.std.specs.Ordering.{int_eq}
use Rattle.std.proofs.lemmas.Bool.{both_ways, eqb-true}
use Rattle.ax_base.specs.declared.lists.Pair.{Pair}
use Rattle.ax_text.specs.declared.vocabulary.Atom.{Atom}
use Rattle.ax_text.specs.declared.vocabulary.Atom.TheVariants as atom
use Rattle.ax_text.specs.declared.vocabulary.Request.{Request}
use Rattle.ax_text.specs.declared.vocabulary.Request.TheVariants as request
use Rattle.ax_text.specs.declared.vocabulary.Answer.{Answer}
use Rattle.ax_text.specs.declared.vocabulary.TimerOp.{TimerOp}
use Rattle.ax_text.specs.declared.vocabulary.TimerOp.TheVariants as timer
use Rattle.ax_text.specs.Functions.{upd}
use Rattle.ax_text.specs.Exprs.{Expr, Leaf, Join, Facts, Names, apply_op, value}
use Rattle.ax_text.specs.Cells.{Cell, state_of, changes, answer_in, answer_of, cell_after}
use Rattle.ax_text.specs.Texts.{Quiet, Let, Emit, Timer, Untimer, Asking, Get, GetAt, Has, Empty, Put, PutAt, PutAll, Add, Remove, Clear, Loop, Items, Entries, Text, Stop, Act, Ask, If, Each, Both}
use Rattle.ax_text.specs.Run.{World, with_names, request_of, After, Assign, Ignore, after_of, number_or, take_in, talk_in, apply, serve, act_in, ask_in, loop_request, turns_of, bind, run_turns, choose, run}
use Rattle.ax_text.specs.Prints.{name_in, names_in, names_in_all, quiet_print, asking_print, loop_print}
use Rattle.ax_text.specs.Controls.{Frame, Rest, Turns, Cursor, Next, Take, Begin, Control, Done, Wait, Arms, Answers, run_frame, run_cursor, finish, left_wait, left}
use Rattle.ax_text.specs.Footprints.{Footprint, IsWithin, IsApart, AllIn, LineFits, Fits, FrameFits, CursorFits, RequestFits, AfterFits, NextFits, ControlFits}

pub record Agree (F : Footprint) (w v : World) : Type 0 where
  pub names : (n : ℕ) → F.reads n ≡ true → w.talk.names n ≡ v.talk.names n
  pub cells : (s : ℕ) → F.uses s ≡ true → w.cells s ≡ v.cells s

pub record Keeps (F : Footprint) (g : World → World) : Type 0 where
  pub names : (w : World) (n : ℕ) → F.sets n ≡ false → (g w).talk.names n ≡ w.talk.names n
  pub cells : (w : World) (s : ℕ) → F.changes s ≡ false → (g w).cells s ≡ w.cells s
  pub agrees : (w v : World) → Agree F w v → Agree F (g w) (g v)
  pub counts : (w v : World) → Agree F w v → (n : ℕ) × ((g w).served ≡ n + w.served) × ((g v).served ≡ n + v.served)
  pub lines : (w : World) → F.speaks ≡ false → (g w).talk.lines ≡ w.talk.lines
  pub ops : (w : World) → F.speaks ≡ false → (g w).talk.ops ≡ w.talk.ops

pub keeps_id : (F : Footprint) → Keeps F (λ w. w)
keeps_id F = record {
  names = λ w n h. refl;
  cells = λ w s h. refl;
  agrees = λ w v a. a;
  counts = λ w v a. (0, omega arith, omega arith);
  lines = λ w h. refl;
  ops = λ w h. refl;
}

pub keeps_then : (F : Footprint) (g h : World → World) → Keeps F g → Keeps F h → Keeps F (λ w. h (g w))
keeps_then F g h p q = record {
  names = λ w n e. q.names (g w) n e ∙ p.names w n e;
  cells = λ w s e. q.cells (g w) s e ∙ p.cells w s e;
  agrees = λ w v a. q.agrees (g w) (g v) (p.agrees w v a);
  counts = λ w v a. both_counts _ _ _ _ _ _ (p.counts w v a) (q.counts (g w) (g v) (p.agrees w v a));
  lines = λ w e. q.lines (g w) e ∙ p.lines w e;
  ops = λ w e. q.ops (g w) e ∙ p.ops w e;
}
  where
    both_counts : (a b c d x y : ℕ) → ((n : ℕ) × (b ≡ n + a) × (y ≡ n + x)) → ((n : ℕ) × (c ≡ n + b) × (d ≡ n + y)) → (n : ℕ) × (c ≡ n + a) × (d ≡ n + x)
    both_counts a b c d x y p q = (q.0 + p.0, omega arith, omega arith)

-- a function that first looks at its world
pub keeps_by : (F : Footprint) (g : World → World → World) → ((w : World) → Keeps F (g w)) → ((w v : World) → Agree F w v → g w ≡ g v) → Keeps F (λ w. g w w)
keeps_by F g p e = record {
  names = λ w n h. (p w).names w n h;
  cells = λ w s h. (p w).cells w s h;
  agrees = λ w v a. subst (λ (h : World → World). Agree F (g w w) (h v)) (e w v a) ((p w).agrees w v a);
  counts = λ w v a. subst (λ (h : World → World). (n : ℕ) × ((g w w).served ≡ n + w.served) × ((h v).served ≡ n + v.served)) (e w v a) ((p w).counts w v a);
  lines = λ w h. (p w).lines w h;
  ops = λ w h. (p w).ops w h;
}

pub by_cases : {A : Type 0} (b : Bool) → (b ≡ true → A) → (b ≡ false → A) → A
by_cases true p q = p refl
by_cases false p q = q refl

not_then : (a b : Bool) → (a ≡ true → b ≡ true) → b ≡ false → a ≡ false
not_then true b h e = absurd (both_ways b e (h refl))
not_then false b h e = refl

pub agree_within : (G F : Footprint) (w v : World) → IsWithin G F → Agree F w v → Agree G w v
agree_within G F w v i a = record { names = λ n h. a.names n (i.reads n h); cells = λ s h. a.cells s (i.uses s h) }

pub keeps_within : (G F : Footprint) (g : World → World) → IsWithin G F → Keeps G g → Keeps F g
keeps_within G F g i p = record {
  names = λ w n h. p.names w n (not_then (G.sets n) (F.sets n) (i.sets n) h);
  cells = λ w s h. p.cells w s (not_then (G.changes s) (F.changes s) (i.changes s) h);
  agrees = λ w v a. record {
    names = λ n h. by_cases (G.sets n)
        (λ t. (p.agrees w v (agree_within G F w v i a)).names n (G.sets_read n t))
        (λ t. p.names w n t ∙ (a.names n h ∙ sym (p.names v n t)));
    cells = λ s h. by_cases (G.changes s)
        (λ t. (p.agrees w v (agree_within G F w v i a)).cells s (G.changes_used s t))
        (λ t. p.cells w s t ∙ (a.cells s h ∙ sym (p.cells v s t)));
  };
  counts = λ w v a. p.counts w v (agree_within G F w v i a);
  lines = λ w h. p.lines w (not_then G.speaks F.speaks i.speaks h);
  ops = λ w h. p.ops w (not_then G.speaks F.speaks i.speaks h);
}

world_path : {w v : World} → ((n : ℕ) → w.talk.names n ≡ v.talk.names n) → ((s : ℕ) → w.cells s ≡ v.cells s) → w.talk.lines ≡ v.talk.lines → w.talk.ops ≡ v.talk.ops → w.served ≡ v.served → w ≡ v
world_path p q r s t = λ i. record { talk = record { names = λ n. p n i; lines = r i; ops = s i }; cells = λ n. q n i; served = t i }

unread : (a b : Bool) → (a ≡ true → b ≡ false) → b ≡ true → a ≡ false
unread true b h e = absurd (both_ways b (h refl) e)
unread false b h e = refl

-- what one side keeps, the other doesn't see
unseen : (G H : Footprint) (g : World → World) (w : World)
    → ((n : ℕ) → H.sets n ≡ true → G.reads n ≡ false) → ((s : ℕ) → H.changes s ≡ true → G.uses s ≡ false)
    → Keeps H g → Agree G (g w) w
unseen G H g w n s p = record {
  names = λ k h. p.names w k (unread (H.sets k) (G.reads k) (n k) h);
  cells = λ k h. p.cells w k (unread (H.changes k) (G.uses k) (s k) h);
}

pub commute : (G H : Footprint) (f g : World → World) → IsApart G H → Keeps G f → Keeps H g → (w : World) → g (f w) ≡ f (g w)
commute G H f g i p q w =
    let a : Agree G (g w) w = unseen G H g w i.names_two i.states_two q in
    let b : Agree H (f w) w = unseen H G f w i.names_one i.states_one p in
    let c : (n : ℕ) × ((f (g w)).served ≡ n + (g w).served) × ((f w).served ≡ n + w.served) = p.counts (g w) w a in
    let d : (n : ℕ) × ((g (f w)).served ≡ n + (f w).served) × ((g w).served ≡ n + w.served) = q.counts (f w) w b in
    world_path
    (λ n. by_cases (G.sets n)
    (λ t. q.names (f w) n (not_set n t) ∙ sym ((p.agrees (g w) w a).names n (G.sets_read n t)))
    (λ t. by_cases (H.sets n)
    (λ u. (q.agrees (f w) w b).names n (H.sets_read n u) ∙ sym (p.names (g w) n t))
    (λ u. q.names (f w) n u ∙ (p.names w n t ∙ (sym (q.names w n u) ∙ sym (p.names (g w) n t))))))
    (λ s. by_cases (G.changes s)
    (λ t. q.cells (f w) s (not_changed s t) ∙ sym ((p.agrees (g w) w a).cells s (G.changes_used s t)))
    (λ t. by_cases (H.changes s)
    (λ u. (q.agrees (f w) w b).cells s (H.changes_used s u) ∙ sym (p.cells (g w) s t))
    (λ u. q.cells (f w) s u ∙ (p.cells w s t ∙ (sym (q.cells w s u) ∙ sym (p.cells (g w) s t))))))
    (q.lines (f w) i.two_quiet ∙ (p.lines w i.one_quiet ∙ (sym (q.lines w i.two_quiet) ∙ sym (p.lines (g w) i.one_quiet))))
    (q.ops (f w) i.two_quiet ∙ (p.ops w i.one_quiet ∙ (sym (q.ops w i.two_quiet) ∙ sym (p.ops (g w) i.one_quiet))))
    (omega arith)
  where
    not_set : (n : ℕ) → G.sets n ≡ true → H.sets n ≡ false
    not_set n t = not_then (H.sets n) (H.reads n) (H.sets_read n) (i.names_one n t)

    not_changed : (s : ℕ) → G.changes s ≡ true → H.changes s ≡ false
    not_changed s t = not_then (H.changes s) (H.uses s) (H.changes_used s) (i.states_one s t)

-- the steps

upd_kept : {A : Type 0} (f : ℕ → A) (i : ℕ) (v : A) (P : ℕ → Bool) (n : ℕ) → P i ≡ true → P n ≡ false → upd f i v n ≡ f n
upd_kept f i v P n h e = by_cases (nat_eq i n)
    (λ t. absurd (both_ways (P n) e (ap P (sym (eqb-true i n t)) ∙ h)))
    (λ t. rw t refl)

upd_same : {A : Type 0} (f g : ℕ → A) (i : ℕ) (u v : A) (n : ℕ) → u ≡ v → f n ≡ g n → upd f i u n ≡ upd g i v n
upd_same f g i u v n p q = by_cases (nat_eq i n) (λ t. rw t p) (λ t. rw t q)

-- what is put back makes no difference
upd_itself : {A : Type 0} (f : ℕ → A) (i : ℕ) (v : A) (n : ℕ) → v ≡ f i → upd f i v n ≡ f n
upd_itself f i v n e = by_cases (nat_eq i n) (λ t. rw t (e ∙ ap f (eqb-true i n t))) (λ t. rw t refl)

-- a request that changes nothing
pub unchanged : (r : Request) (c : Cell) → changes r ≡ false → cell_after r c ≡ c
unchanged (request.ValueGet state) c h = refl
unchanged (request.ValuePut state number) c h = absurd (both_ways true h refl)
unchanged (request.ListGet state) c h = refl
unchanged (request.ListAdd state number) c h = absurd (both_ways true h refl)
unchanged (request.ListPut state items) c h = absurd (both_ways true h refl)
unchanged (request.MapGet state at) c h = refl
unchanged (request.MapPut state at number) c h = absurd (both_ways true h refl)
unchanged (request.MapRemove state at) c h = absurd (both_ways true h refl)
unchanged (request.MapHas state at) c h = refl
unchanged (request.MapEmpty state) c h = refl
unchanged (request.MapEntries state) c h = refl
unchanged (request.Clear state) c h = absurd (both_ways true h refl)

pub keeps_names : (F : Footprint) (g : Names → Names) → ((m : Names) (n : ℕ) → F.sets n ≡ false → g m n ≡ m n)
    → ((m m' : Names) (n : ℕ) → m n ≡ m' n → g m n ≡ g m' n) → Keeps F (talk_in (λ t. with_names (g t.names) t))
keeps_names F g p q = record {
  names = λ w n e. p w.talk.names n e;
  cells = λ w s e. refl;
  agrees = λ w v a. record { names = λ n e. q w.talk.names v.talk.names n (a.names n e); cells = a.cells };
  counts = λ w v a. (0, omega arith, omega arith);
  lines = λ w e. refl;
  ops = λ w e. refl;
}

pub keeps_assign : (F : Footprint) (x : ℕ) (v : ℤ) → F.sets x ≡ true → Keeps F (talk_in (λ t. with_names (upd t.names x v) t))
keeps_assign F x v h = keeps_names F (λ m. upd m x v) (λ m n e. upd_kept m x v F.sets n h e) (λ m m' n e. upd_same m m' x v v n refl e)

pub keeps_apply : (F : Footprint) (r : Request) → RequestFits r F → Keeps F (apply r)
keeps_apply F r h = record {
  names = λ w n e. refl;
  cells = λ w s e. by_cases (changes r)
      (λ t. upd_kept w.cells (state_of r) (cell_after r (w.cells (state_of r))) F.changes s (h.1 t) e)
      (λ t. upd_itself w.cells (state_of r) (cell_after r (w.cells (state_of r))) s (unchanged r (w.cells (state_of r)) t));
  agrees = λ w v a. record {
    names = a.names;
    cells = λ s e. upd_same w.cells v.cells (state_of r) (cell_after r (w.cells (state_of r))) (cell_after r (v.cells (state_of r))) s (ap (cell_after r) (a.cells (state_of r) h.0)) (a.cells s e);
  };
  counts = λ w v a. (1, omega arith, omega arith);
  lines = λ w e. refl;
  ops = λ w e. refl;
}

answer_same : (r : Request) (F : Footprint) (w v : World) → RequestFits r F → Agree F w v → answer_of r w.cells ≡ answer_of r v.cells
answer_same r F w v h a = ap (answer_in r) (a.cells (state_of r) h.0)

all_one : (xs ys : List ℕ) (P : ℕ → Bool) → AllIn (xs ++ ys) P → AllIn xs P
all_one [] ys P h = tt
all_one (x ∷ xs) ys P h = (h.0, all_one xs ys P h.1)

all_two : (xs ys : List ℕ) (P : ℕ → Bool) → AllIn (xs ++ ys) P → AllIn ys P
all_two [] ys P h = h
all_two (x ∷ xs) ys P h = all_two xs ys P h.1

module _ (f : Facts) where
  atom_same : (a : Atom) (F : Footprint) (w v : World) → AllIn (name_in a) F.reads → Agree F w v → value f w.talk.names (Leaf a) ≡ value f v.talk.names (Leaf a)
  atom_same (atom.Number n) F w v h a = refl
  atom_same (atom.Name i) F w v h a = a.names i h.0
  atom_same (atom.Field i) F w v h a = refl
  atom_same atom.Time F w v h a = refl
  atom_same atom.Watermark F w v h a = refl

  pub value_same : (e : Expr) (F : Footprint) (w v : World) → AllIn (names_in e) F.reads → Agree F w v → value f w.talk.names e ≡ value f v.talk.names e
  value_same (Leaf x) F w v h a = atom_same x F w v h a
  value_same (Join o d e) F w v h a = ap₂ (apply_op o) (value_same d F w v (all_one (names_in d) (names_in e) F.reads h) a) (value_same e F w v (all_two (names_in d) (names_in e) F.reads h) a)

  values_same : (es : List Expr) (F : Footprint) (w v : World) → AllIn (names_in_all es) F.reads → Agree F w v → map (value f w.talk.names) es ≡ map (value f v.talk.names) es
  values_same [] F w v h a = refl
  values_same (e ∷ es) F w v h a = ap₂ (λ (x : ℤ) (xs : List ℤ). x ∷ xs) (value_same e F w v (all_one (names_in e) (names_in_all es) F.reads h) a) (values_same es F w v (all_two (names_in e) (names_in_all es) F.reads h) a)

  pub request_fits : (a : Asking) (F : Footprint) (names : Names) → LineFits (asking_print a) F → RequestFits (request_of f a names) F
  request_fits (Get x s e) F names h = (h.gets.0, λ t. absurd (both_ways false refl t))
  request_fits (GetAt x s d e) F names h = (h.gets.0, λ t. absurd (both_ways false refl t))
  request_fits (Has x s d) F names h = (h.gets.0, λ t. absurd (both_ways false refl t))
  request_fits (Empty x s) F names h = (h.gets.0, λ t. absurd (both_ways false refl t))
  request_fits (Put s e) F names h = (F.changes_used s h.changes.0, λ t. h.changes.0)
  request_fits (PutAt s d e) F names h = (F.changes_used s h.changes.0, λ t. h.changes.0)
  request_fits (PutAll s es) F names h = (F.changes_used s h.changes.0, λ t. h.changes.0)
  request_fits (Add s e) F names h = (F.changes_used s h.changes.0, λ t. h.changes.0)
  request_fits (Remove s d) F names h = (F.changes_used s h.changes.0, λ t. h.changes.0)
  request_fits (Clear s) F names h = (F.changes_used s h.changes.0, λ t. h.changes.0)

  pub after_fits : (a : Asking) (F : Footprint) (names : Names) → LineFits (asking_print a) F → AfterFits (after_of f a names) F
  after_fits (Get x s e) F names h = h.sets.0
  after_fits (GetAt x s d e) F names h = h.sets.0
  after_fits (Has x s d) F names h = h.sets.0
  after_fits (Empty x s) F names h = h.sets.0
  after_fits (Put s e) F names h = tt
  after_fits (PutAt s d e) F names h = tt
  after_fits (PutAll s es) F names h = tt
  after_fits (Add s e) F names h = tt
  after_fits (Remove s d) F names h = tt
  after_fits (Clear s) F names h = tt

  request_same : (a : Asking) (F : Footprint) (w v : World) → LineFits (asking_print a) F → Agree F w v → request_of f a w.talk.names ≡ request_of f a v.talk.names
  request_same (Get x s e) F w v h a = refl
  request_same (GetAt x s d e) F w v h a = ap (request.MapGet s) (value_same d F w v (all_one (names_in d) (names_in e) F.reads h.reads) a)
  request_same (Has x s d) F w v h a = ap (request.MapHas s) (value_same d F w v h.reads a)
  request_same (Empty x s) F w v h a = refl
  request_same (Put s e) F w v h a = ap (request.ValuePut s) (value_same e F w v h.reads a)
  request_same (PutAt s d e) F w v h a = ap₂ (request.MapPut s) (value_same d F w v (all_one (names_in d) (names_in e) F.reads h.reads) a) (value_same e F w v (all_two (names_in d) (names_in e) F.reads h.reads) a)
  request_same (PutAll s es) F w v h a = ap (request.ListPut s) (values_same es F w v h.reads a)
  request_same (Add s e) F w v h a = ap (request.ListAdd s) (value_same e F w v h.reads a)
  request_same (Remove s d) F w v h a = ap (request.MapRemove s) (value_same d F w v h.reads a)
  request_same (Clear s) F w v h a = refl

  after_same : (a : Asking) (F : Footprint) (w v : World) → LineFits (asking_print a) F → Agree F w v → after_of f a w.talk.names ≡ after_of f a v.talk.names
  after_same (Get x s e) F w v h a = ap (Assign x) (value_same e F w v h.reads a)
  after_same (GetAt x s d e) F w v h a = ap (Assign x) (value_same e F w v (all_two (names_in d) (names_in e) F.reads h.reads) a)
  after_same (Has x s d) F w v h a = refl
  after_same (Empty x s) F w v h a = refl
  after_same (Put s e) F w v h a = refl
  after_same (PutAt s d e) F w v h a = refl
  after_same (PutAll s es) F w v h a = refl
  after_same (Add s e) F w v h a = refl
  after_same (Remove s d) F w v h a = refl
  after_same (Clear s) F w v h a = refl

  keeps_line : (F : Footprint) (line : List ℤ) → F.speaks ≡ true → Keeps F (talk_in (λ t. record { names = t.names; lines = t.lines ++ line ∷ []; ops = t.ops }))
  keeps_line F line h = record {
    names = λ w n e. refl;
    cells = λ w s e. refl;
    agrees = λ w v a. record { names = a.names; cells = a.cells };
    counts = λ w v a. (0, omega arith, omega arith);
    lines = λ w e. absurd (both_ways F.speaks e h);
    ops = λ w e. refl;
  }

  keeps_op : (F : Footprint) (op : TimerOp) → F.speaks ≡ true → Keeps F (talk_in (λ t. record { names = t.names; lines = t.lines; ops = t.ops ++ op ∷ [] }))
  keeps_op F op h = record {
    names = λ w n e. refl;
    cells = λ w s e. refl;
    agrees = λ w v a. record { names = a.names; cells = a.cells };
    counts = λ w v a. (0, omega arith, omega arith);
    lines = λ w e. refl;
    ops = λ w e. absurd (both_ways F.speaks e h);
  }

  pub keeps_act : (q : Quiet) (F : Footprint) → LineFits (quiet_print q) F → Keeps F (act_in f q)
  keeps_act (Let x e) F h = keeps_by F (λ w. talk_in (λ t. with_names (upd t.names x (value f w.talk.names e)) t)) (λ w. keeps_assign F x (value f w.talk.names e) h.sets.0)
      (λ w v a. ap (λ (n : ℤ). talk_in (λ t. with_names (upd t.names x n) t)) (value_same e F w v h.reads a))
  keeps_act (Emit es) F h = keeps_by F (λ w. talk_in (λ t. record { names = t.names; lines = t.lines ++ map (value f w.talk.names) es ∷ []; ops = t.ops }))
      (λ w. keeps_line F (map (value f w.talk.names) es) (h.speaks refl))
      (λ w v a. ap (λ (l : List ℤ). talk_in (λ t. record { names = t.names; lines = t.lines ++ l ∷ []; ops = t.ops })) (values_same es F w v h.reads a))
  keeps_act (Timer e) F h = keeps_by F (λ w. talk_in (λ t. record { names = t.names; lines = t.lines; ops = t.ops ++ timer.Set (value f w.talk.names e) ∷ [] }))
      (λ w. keeps_op F (timer.Set (value f w.talk.names e)) (h.speaks refl))
      (λ w v a. ap (λ (n : ℤ). talk_in (λ t. record { names = t.names; lines = t.lines; ops = t.ops ++ timer.Set n ∷ [] })) (value_same e F w v h.reads a))
  keeps_act (Untimer e) F h = keeps_by F (λ w. talk_in (λ t. record { names = t.names; lines = t.lines; ops = t.ops ++ timer.Unset (value f w.talk.names e) ∷ [] }))
      (λ w. keeps_op F (timer.Unset (value f w.talk.names e)) (h.speaks refl))
      (λ w v a. ap (λ (n : ℤ). talk_in (λ t. record { names = t.names; lines = t.lines; ops = t.ops ++ timer.Unset n ∷ [] })) (value_same e F w v h.reads a))

  keeps_bind : (l : Loop) (p : Pair) (F : Footprint) → LineFits (loop_print l) F → Keeps F (talk_in (λ t. with_names (bind l p t.names) t))
  keeps_bind (Items x s) p F h = keeps_assign F x p.at h.sets.0
  keeps_bind (Entries x y s) p F h = keeps_names F (λ m. upd (upd m x p.at) y p.number)
      (λ m n e. upd_kept (upd m x p.at) y p.number F.sets n h.sets.1.0 e ∙ upd_kept m x p.at F.sets n h.sets.0 e)
      (λ m m' n e. upd_same (upd m x p.at) (upd m' x p.at) y p.number p.number n refl (upd_same m m' x p.at p.at n refl e))

  pub loop_fits : (l : Loop) (F : Footprint) → LineFits (loop_print l) F → RequestFits (loop_request l) F
  loop_fits (Items x s) F h = (h.gets.0, λ t. absurd (both_ways false refl t))
  loop_fits (Entries x y s) F h = (h.gets.0, λ t. absurd (both_ways false refl t))

  pub keeps_turns : (F : Footprint) (go : World → World) (l : Loop) (ps : List Pair) → LineFits (loop_print l) F → Keeps F go → Keeps F (run_turns go l ps)
  keeps_turns F go l [] h p = keeps_id F
  keeps_turns F go l (x ∷ ps) h p = keeps_then F (λ w. go (talk_in (λ t. with_names (bind l x t.names) t) w)) (run_turns go l ps)
      (keeps_then F (talk_in (λ t. with_names (bind l x t.names) t)) go (keeps_bind l x F h) p) (keeps_turns F go l ps h p)

  keeps_take : (F : Footprint) (after : After) (a : Answer) → AfterFits after F → Keeps F (talk_in (λ t. with_names (take_in after a t.names) t))
  keeps_take F (Assign x d) a h = keeps_assign F x (number_or a d) h
  keeps_take F Ignore a h = keeps_names F (λ m. m) (λ m n e. refl) (λ m m' n e. e)

  -- a request, and what becomes of its answer
  keeps_now : (F : Footprint) (r : Request) (g : Answer → World → World) → RequestFits r F → ((a : Answer) → Keeps F (g a)) → Keeps F (λ w. g (answer_of r w.cells) (apply r w))
  keeps_now F r g h p = keeps_by F (λ w v. g (answer_of r w.cells) (apply r v)) (λ w. keeps_then F (apply r) (g (answer_of r w.cells)) (keeps_apply F r h) (p (answer_of r w.cells)))
      (λ w v a. ap {B = World → World} (λ (l : Answer) (u : World). g l (apply r u)) (answer_same r F w v h a))

  keeps_choose : (F : Footprint) (n : ℤ) (g h : World → World) → Keeps F g → Keeps F h → Keeps F (choose n g h)
  keeps_choose F n g h p q = of (int_eq n (pos 0)) where
    of : (b : Bool) → Keeps F (if b then h else g)
    of true = q
    of false = p

  keeps_ask : (a : Asking) (F : Footprint) → LineFits (asking_print a) F → Keeps F (ask_in f a)
  keeps_ask a F h = keeps_by F (λ w. serve (request_of f a w.talk.names) (after_of f a w.talk.names))
      (λ w. keeps_now F (request_of f a w.talk.names) (λ x. talk_in (λ t. with_names (take_in (after_of f a w.talk.names) x t.names) t)) (request_fits a F w.talk.names h) (λ x. keeps_take F (after_of f a w.talk.names) x (after_fits a F w.talk.names h)))
      (λ w v e. ap₂ serve (request_same a F w v h e) (after_same a F w v h e))

  pub keeps_run : (t : Text) (F : Footprint) → Fits t F → Keeps F (run f t)
  keeps_run Stop F h = keeps_id F
  keeps_run (Act q t) F h = keeps_then F (act_in f q) (run f t) (keeps_act q F h.0) (keeps_run t F h.1)
  keeps_run (Ask a t) F h = keeps_then F (ask_in f a) (run f t) (keeps_ask a F h.0) (keeps_run t F h.1)
  keeps_run (If e a b t) F h = keeps_then F (λ w. choose (value f w.talk.names e) (run f a) (run f b) w) (run f t)
      (keeps_by F (λ w. choose (value f w.talk.names e) (run f a) (run f b)) (λ w. keeps_choose F (value f w.talk.names e) (run f a) (run f b) (keeps_run a F h.1) (keeps_run b F h.2))
      (λ w v g. ap (λ (n : ℤ). choose n (run f a) (run f b)) (value_same e F w v h.0.reads g)))
      (keeps_run t F h.3)
  keeps_run (Each l body t) F h = keeps_then F (λ w. run_turns (run f body) l (turns_of (answer_of (loop_request l) w.cells)) (apply (loop_request l) w)) (run f t)
      (keeps_now F (loop_request l) (λ a. run_turns (run f body) l (turns_of a)) (loop_fits l F h.0) (λ a. keeps_turns F (run f body) l (turns_of a) h.0 (keeps_run body F h.1)))
      (keeps_run t F h.2)
  keeps_run (Both a b t) F h = keeps_then F (λ w. run f b (run f a w)) (run f t)
      (keeps_then F (run f a) (run f b) (keeps_within h.0 F (run f a) h.2.one (keeps_run a h.0 h.3)) (keeps_within h.1 F (run f b) h.2.two (keeps_run b h.1 h.4)))
      (keeps_run t F h.5)

  pub keeps_frame : (x : Frame) (F : Footprint) → FrameFits x F → Keeps F (run_frame f x)
  keeps_frame (Rest t) F h = keeps_run t F h
  keeps_frame (Turns l ps body) F h = keeps_turns F (run f body) l ps h.0 (keeps_run body F h.1)

  pub keeps_cursor : (k : Cursor) (F : Footprint) → CursorFits k F → Keeps F (run_cursor f k)
  keeps_cursor [] F h = keeps_id F
  keeps_cursor (x ∷ k) F h = keeps_then F (run_frame f x) (run_cursor f k) (keeps_frame x F h.0) (keeps_cursor k F h.1)

  keeps_next : (n : Next) (a : Answer) (F : Footprint) → NextFits n F → Keeps F (finish f n a)
  keeps_next (Take after) a F h = keeps_take F after a h
  keeps_next (Begin l body) a F h = keeps_turns F (run f body) l (turns_of a) h.0 (keeps_run body F h.1)

  keeps_wait : (o : Option Answer) (r : Request) (n : Next) (F : Footprint) → RequestFits r F → NextFits n F → Keeps F (left_wait f o r n)
  keeps_wait (Some a) r n F h g = keeps_next n a F g
  keeps_wait None r n F h g = keeps_now F r (finish f n) h (λ a. keeps_next n a F g)

  pub keeps_left : (c : Control) (answers : Answers) (F : Footprint) → ControlFits c F → Keeps F (left f answers c)
  keeps_left Done answers F h = keeps_id F
  keeps_left (Wait s r n k) answers F h = keeps_then F (left_wait f (answers s) r n) (run_cursor f k) (keeps_wait (answers s) r n F h.0 h.1) (keeps_cursor k F h.2)
  keeps_left (Arms one two k) answers F h = keeps_then F (λ w. left f answers two (left f answers one w)) (run_cursor f k)
      (keeps_then F (left f answers one) (left f answers two) (keeps_within h.0 F (left f answers one) h.2.one (keeps_left one answers h.0 h.3)) (keeps_within h.1 F (left f answers two) h.2.two (keeps_left two answers h.1 h.4)))
      (keeps_cursor k F h.5)
