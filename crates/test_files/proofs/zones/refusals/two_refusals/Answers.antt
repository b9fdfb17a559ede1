use Rattle.test_files.proofs.Powers.{one, sixteen}
use Rattle.test_files.proofs.zones.refusals.two_refusals.Goals as goal

pub is_refused-requires-clause-align : goal.is_refused-requires-clause-align
is_refused-requires-clause-align g c = one

pub is_refused-requires-2-clause-align : goal.is_refused-requires-2-clause-align
is_refused-requires-2-clause-align g c = sixteen
