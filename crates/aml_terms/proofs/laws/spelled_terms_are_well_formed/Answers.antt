use Rattle.aml_terms.specs.Grammar.{levels}
use Rattle.aml_terms.proofs.SpelledGood.{terms_good, terms_fit}
use Rattle.aml_terms.proofs.SpelledNests.{terms_nest}
use Rattle.aml_terms.proofs.laws.spelled_terms_are_well_formed.Goals as goal

pub returns-clause-good : goal.returns-clause-good
returns-clause-good c = λ bytes terms. terms_good terms levels bytes

pub returns-clause-fit : goal.returns-clause-fit
returns-clause-fit c = λ bytes terms. terms_fit terms levels bytes

pub returns-clause-nest : goal.returns-clause-nest
returns-clause-nest c = λ bytes terms. terms_nest terms levels bytes
