use Rattle.vt_layout.proofs.InBytes.{number_read, name_read}
use Rattle.vt_layout.proofs.laws.shown_rows_are_read.Goals as goal

pub returns-clause-number : goal.returns-clause-number
returns-clause-number c = number_read

pub returns-clause-name : goal.returns-clause-name
returns-clause-name c = name_read
