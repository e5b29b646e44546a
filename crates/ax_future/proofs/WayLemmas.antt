-- What is left behind a node that goes on.
use Rattle.std.proofs.Common.{◌≡◌, ℕ, [], ◌∷◌, ◌++◌, refl, sym, ap, ◌∙◌}
use Rattle.ax_text.specs.declared.vocabulary.Request.{Request}
use Rattle.ax_text.specs.Exprs.{Facts}
use Rattle.ax_text.specs.Run.{World}
use Rattle.ax_text.specs.Controls.{Cursor, Next, Control, Wait, Arms, Answers, left_wait, left, run_frame, run_cursor}

run_append : (f : Facts) (k rest : Cursor) (w : World) → run_cursor f (k ++ rest) w ≡ run_cursor f rest (run_cursor f k w)
run_append f [] rest w = refl
run_append f (x ∷ k) rest w = run_append f k rest (run_frame f x w)

module _ (f : Facts) (answers : Answers) (first : Control) (k k' rest : Cursor) where
  pub wait_goes_on : (s : ℕ) (r : Request) (n : Next) → first ≡ Wait s r n k → k' ≡ k ++ rest → (w : World) → left f answers (Wait s r n k') w ≡ run_cursor f rest (left f answers first w)
  wait_goes_on s r n e h w =
      ap (λ (x : Cursor). left f answers (Wait s r n x) w) h
      ∙ (run_append f k rest (left_wait f (answers s) r n w) ∙ ap (λ (c : Control). run_cursor f rest (left f answers c w)) (sym e))

  pub arms_go_on : (one two : Control) → first ≡ Arms one two k → k' ≡ k ++ rest → (w : World) → left f answers (Arms one two k') w ≡ run_cursor f rest (left f answers first w)
  arms_go_on one two e h w =
      ap (λ (x : Cursor). left f answers (Arms one two x) w) h
      ∙ (run_append f k rest (left f answers two (left f answers one w)) ∙ ap (λ (c : Control). run_cursor f rest (left f answers c w)) (sym e))
