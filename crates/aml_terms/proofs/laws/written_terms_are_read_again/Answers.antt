use Rattle.aml_terms.specs.Grammar.{levels}
use Rattle.aml_terms.specs.WellFormed.{all_plain}
use Rattle.aml_terms.specs.Written.{all_spelled}
use Rattle.aml_terms.proofs.ReadTerms.{read_again}
use Rattle.aml_terms.proofs.WrittenSpelled.{terms_are}
use Rattle.aml_terms.proofs.laws.written_terms_are_read_again.Goals as goal

pub returns : goal.returns
returns c terms good fit short nest = read_again (all_spelled terms) (all_plain terms) (terms_are terms levels good fit short nest)
