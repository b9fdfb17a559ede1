use Rattle.dsdt_terms.proofs.TakenId.{terms_taken}
use Rattle.dsdt_terms.proofs.laws.terms_of_a_machine_lead_to_its_id.Goals as goal

pub returns : goal.returns
returns c = λ m address small. terms_taken address m small
