use Rattle.dsdt_terms.proofs.MachineTerms.{terms_good, terms_short, few_bytes}
use Rattle.dsdt_terms.proofs.WrittenId.{body_spelled}
use Rattle.dsdt_terms.proofs.laws.terms_of_a_machine_can_be_written.Goals as goal

pub returns : goal.returns
returns c = record { good = terms_good; short = terms_short; few = few_bytes; rows = body_spelled }
