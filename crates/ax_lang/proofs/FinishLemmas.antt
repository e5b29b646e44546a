-- What the program of whole lines needs.
use Rattle.std.proofs.Common.{◌≡◌, ◌≤◌, max, List, [], sym, subst, true}
use Rattle.ax_text.specs.Rows.{follow, all_ok}
use Rattle.ax_syntax.specs.Shapes.{Shape}
use Rattle.ax_rules.specs.declared.tables.Tables.{Tables}
use Rattle.ax_rules.specs.Lines.{tables_of}
use Rattle.ax_rules.specs.Sections.{is_whole}
use Rattle.ax_lang.specs.Rows.{HandlerLines, rows_of}
use Rattle.ax_lang.specs.Clean.{Clean, AreClean}
use Rattle.ax_lang.specs.Blocks.{begun, counted}
use Rattle.ax_lang.proofs.BlockLemmas.{blocks_hold}
use Rattle.ax_lang.proofs.SoundLemmas.{Sound, sound_lines}

pub record Finished (t : Tables) (rows : HandlerLines) : Type 0 where
  pub sound : Sound t rows
  pub row_follows : follow rows.row begun ≡ true
  pub timer_follows : follow rows.timer begun ≡ true
  pub row_ok : all_ok rows.row [] ≡ true
  pub timer_ok : all_ok rows.timer [] ≡ true
  pub width : t.widest ≡ max (counted rows.row) (counted rows.timer)
  pub narrow : t.widest ≤ 16

finished_lines : (ls : List Shape) → Clean ls → is_whole (tables_of ls) ≡ true → Finished (tables_of ls) (rows_of ls)
finished_lines ls c w =
    let b = blocks_hold ls c w in
    record { sound = sound_lines ls c; row_follows = b.row_follows; timer_follows = b.timer_follows; row_ok = b.row_ok; timer_ok = b.timer_ok; width = b.width; narrow = b.narrow }

pub finished : (t : Tables) (rows : HandlerLines) → AreClean t rows → is_whole t ≡ true → Finished t rows
finished t rows (ls, e, f, c) w =
    subst (λ (u : Tables). Finished u rows) (sym e) (subst (Finished (tables_of ls)) (sym f) (finished_lines ls c (subst (λ (u : Tables). is_whole u ≡ true) e w)))

pub sound : (t : Tables) (rows : HandlerLines) → AreClean t rows → Sound t rows
sound t rows (ls, e, f, c) = subst (λ (u : Tables). Sound u rows) (sym e) (subst (Sound (tables_of ls)) (sym f) (sound_lines ls c))
