use Rattle.ax_base.proofs.NumberLemmas.{number_of-signed_decimal}
use Rattle.ax_base.proofs.laws.written_number_law.Goals as goal

pub returns : goal.returns
returns c = λ n fits. number_of-signed_decimal n fits.sfits
