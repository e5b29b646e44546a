-- Which requests a key's states can serve.
pub use Rattle.ax_text.specs.Valid.{same_kind, has_kind}
pub use Rattle.ax_text.specs.Suits.{fits_in}
