use Rattle.memory_dump.proofs.PutRows.{rows_again}
use Rattle.memory_dump.proofs.ReadAgain.{made_again}
use Rattle.memory_dump.proofs.laws.rows_and_memories_are_one.Goals as goal

pub returns-clause-rows : goal.returns-clause-rows
returns-clause-rows c = rows_again

pub returns-clause-memory : goal.returns-clause-memory
returns-clause-memory c = made_again
