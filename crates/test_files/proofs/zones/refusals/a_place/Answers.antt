use Rattle.test_files.proofs.Powers.{sixteen}
use Rattle.test_files.proofs.zones.refusals.a_place.Goals as goal

pub place-given-requires-clause-align : goal.place-given-requires-clause-align
place-given-requires-clause-align g c = sixteen
