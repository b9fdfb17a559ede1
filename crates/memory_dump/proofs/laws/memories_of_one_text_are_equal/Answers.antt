use Rattle.memory_dump.proofs.ReadAgain.{one_text}
use Rattle.memory_dump.proofs.laws.memories_of_one_text_are_equal.Goals as goal

pub returns : goal.returns
returns c = one_text
