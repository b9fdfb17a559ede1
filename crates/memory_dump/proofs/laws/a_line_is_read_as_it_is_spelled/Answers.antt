use Rattle.memory_dump.proofs.Spelled.{row_of-only, row_of-spelled}
use Rattle.memory_dump.proofs.laws.a_line_is_read_as_it_is_spelled.Goals as goal

pub returns-clause-read : goal.returns-clause-read
returns-clause-read c = row_of-only

pub returns-clause-spelled : goal.returns-clause-spelled
returns-clause-spelled c = row_of-spelled
