-- Programs whose handlers are accepted: the arms of each `both` are silent and apart.
use Rattle.std.specs.Prelude.{◌≡◌, true}
use Rattle.ax_text.specs.Programs.{Program, text_or_stop}
use Rattle.ax_text.specs.Prints.{is_accepted}

pub record AreAccepted (p : Program) : Type 0 where
  pub row : is_accepted p.row ≡ true
  pub timer : is_accepted (text_or_stop p.timer) ≡ true
