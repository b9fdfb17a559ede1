use Rattle.aml_generation.proofs.Kept.{keeps}
use Rattle.aml_generation.proofs.Told.{terms_told}
use Rattle.aml_generation.proofs.Zeros.{leaves}
use Rattle.aml_generation.proofs.laws.address_is_that_of_the_first_device_that_tells_one.Goals as goal

pub returns-clause-first : goal.returns-clause-first
returns-clause-first c = terms_told

pub returns-clause-none : goal.returns-clause-none
returns-clause-none c = keeps

pub returns-clause-zeros : goal.returns-clause-zeros
returns-clause-zeros c = leaves
