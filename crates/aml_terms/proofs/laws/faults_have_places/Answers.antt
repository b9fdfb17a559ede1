use Rattle.aml_terms.proofs.ReadTerms.{fault_is_placed}
use Rattle.aml_terms.proofs.laws.faults_have_places.Goals as goal

pub returns : goal.returns
returns c = fault_is_placed
