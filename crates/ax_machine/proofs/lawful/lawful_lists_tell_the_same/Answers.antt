use Rattle.std.proofs.Common.{◌∙◌}
use Rattle.ax_machine.proofs.KeyLemmas.{is_projected}
use Rattle.ax_machine.proofs.lawful.lawful_lists_tell_the_same.Goals as goal

pub returns-clause-lines : goal.returns-clause-lines
returns-clause-lines c m serial p events written h k = h.lines k ∙ (is_projected m p k events).lines

pub returns-clause-markers : goal.returns-clause-markers
returns-clause-markers c m serial p events written h = h.markers
