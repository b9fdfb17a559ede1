use Rattle.memory_dump.proofs.RowsTell.{rows_are_lawful}
use Rattle.memory_dump.proofs.TextOfRows.{dump_is}
use Rattle.memory_dump.proofs.laws.a_text_is_that_of_rows.Goals as goal

pub returns-clause-text : goal.returns-clause-text
returns-clause-text c = dump_is

pub returns-clause-lawful : goal.returns-clause-lawful
returns-clause-lawful c = rows_are_lawful
