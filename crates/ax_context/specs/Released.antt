-- What giving up a reference answers and leaves.
use Rattle.std.specs.Prelude.{◌≡◌, ◌-◌, ◌<◌, ℕ, Option, Some, None}
use Rattle.ax_context.specs.declared.contexts.Context.{Context}
use Rattle.ax_context.specs.declared.contexts.Released.{Released}
use Rattle.ax_context.specs.declared.contexts.Released.TheVariants.{Live, Gone}

module _ {T : Type 0} where
  -- the context lives on with a further reference, or this was the last, and all of it is handed out
  abbrev pub Answers : Context T → Released T → Type 0
  Answers c Live = 1 < c.count
  Answers c (Gone payload epoch number) = (c.count ≡ 1) × (payload ≡ c.payload) × (epoch ≡ c.epoch) × (number ≡ c.number)

  -- the slot then has the same context with one reference less, or nothing
  abbrev pub left : Context T → Released T → Option (Context T)
  left c Live = Some (record c { count = c.count - 1 })
  left c (Gone _ _ _) = None

  -- how many contexts are gone
  abbrev pub gone_count : Released T → ℕ
  gone_count Live = 0
  gone_count (Gone _ _ _) = 1
