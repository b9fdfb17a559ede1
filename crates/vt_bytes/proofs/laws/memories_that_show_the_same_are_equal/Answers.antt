use Rattle.vt_bytes.proofs.Memories.{same_memory}
use Rattle.vt_bytes.proofs.laws.memories_that_show_the_same_are_equal.Goals as goal

pub returns : goal.returns
returns c = same_memory
