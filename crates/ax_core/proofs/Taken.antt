-- What is held of a context that was just made.
use Rattle.std.proofs.Common.{◌≡◌, ℕ, Option, Some, None, IsSome, IsSomeAnd, refl, ap, ◌∙◌}
use Rattle.ax_context.specs.declared.contexts.Context.{Context as Held}
use Rattle.ax_core.specs.declared.record.Record.{Record}

module _ (r : Record) (epoch : ℕ) where
  pub is_there : (o : Option (Held Record)) → IsSomeAnd o (λ h. h ≡ record { payload = r; epoch = epoch; number = h.number; count = 1 }) → IsSome o
  is_there None made = absurd made
  is_there (Some h) made = refl

  pub paid_with : (o : Option (Held Record)) (v : Record) → IsSomeAnd o (λ h. h ≡ record { payload = r; epoch = epoch; number = h.number; count = 1 }) → IsSomeAnd o (λ h. v ≡ h.payload) → v ≡ r
  paid_with None v made got = absurd made
  paid_with (Some h) v made got = got ∙ ap (λ (x : Held Record). x.payload) made
