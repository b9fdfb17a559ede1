use Rattle.dsdt_terms.proofs.WrittenId.{body_read}
use Rattle.dsdt_terms.proofs.laws.terms_of_a_machine_are_read_wherever_its_files_stand.Goals as goal

pub returns : goal.returns
returns c = body_read
