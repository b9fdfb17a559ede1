use Rattle.aml_terms.proofs.WrittenSpelled.{value_is, terms_are}
use Rattle.aml_terms.proofs.laws.written_terms_are_spelled.Goals as goal

pub returns-clause-terms : goal.returns-clause-terms
returns-clause-terms c = λ room terms. terms_are terms room

pub returns-clause-value : goal.returns-clause-value
returns-clause-value c = λ room value. value_is value room
