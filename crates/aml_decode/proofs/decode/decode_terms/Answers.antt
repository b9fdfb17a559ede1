use Rattle.std.proofs.Common.{arith}
use Rattle.aml_terms.specs.Grammar.{levels}
use Rattle.aml_decode.proofs.ReadTold.{are_spelled, are_good}
use Rattle.aml_decode.proofs.decode.decode_terms.Goals as goal

pub returns-clause-spelled : goal.returns-clause-spelled
unfolding levels
returns-clause-spelled c = are_spelled c.args.bytes.now c.read_terms.result c.read_terms.ensures

pub returns-clause-well_formed : goal.returns-clause-well_formed
unfolding levels
returns-clause-well_formed c = are_good c.args.bytes.now c.read_terms.result (λ i. omega (arith, c.type_inv.bytes i)) c.read_terms.ensures
