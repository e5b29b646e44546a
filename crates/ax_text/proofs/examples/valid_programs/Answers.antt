use Rattle.ax_text.proofs.ValidExamples.{put_valid, value_valid, name_valid, sixteen_valid, two_names_valid}
use Rattle.ax_text.proofs.examples.valid_programs.Goals as goal

pub returns-clause-put : goal.returns-clause-put
returns-clause-put c = put_valid

pub returns-clause-value : goal.returns-clause-value
returns-clause-value c = value_valid

pub returns-clause-name : goal.returns-clause-name
returns-clause-name c = name_valid

pub returns-clause-sixteen : goal.returns-clause-sixteen
returns-clause-sixteen c = sixteen_valid

pub returns-clause-two_names : goal.returns-clause-two_names
returns-clause-two_names c = two_names_valid
