use Rattle.aml_terms.specs.Grammar.{levels}
use Rattle.aml_terms.proofs.NoneShorter.{terms-least}
use Rattle.aml_terms.proofs.laws.written_terms_are_the_shortest.Goals as goal

pub returns : goal.returns
returns c = λ bytes terms. terms-least terms levels bytes
