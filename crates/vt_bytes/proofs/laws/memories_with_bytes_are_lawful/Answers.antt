use Rattle.vt_bytes.proofs.Memories.{lawful_with}
use Rattle.vt_bytes.proofs.laws.memories_with_bytes_are_lawful.Goals as goal

pub returns : goal.returns
returns c = lawful_with
