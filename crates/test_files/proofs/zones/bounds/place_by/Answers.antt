use Rattle.test_files.proofs.Powers.{sixteen}
use Rattle.test_files.proofs.zones.bounds.place_by.Goals as goal

pub place-requires-clause-align : goal.place-requires-clause-align
place-requires-clause-align g c = sixteen
