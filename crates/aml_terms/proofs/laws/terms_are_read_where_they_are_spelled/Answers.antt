use Rattle.aml_terms.proofs.ReadTerms.{read_is, read_again}
use Rattle.aml_terms.proofs.laws.terms_are_read_where_they_are_spelled.Goals as goal

pub returns-clause-read : goal.returns-clause-read
returns-clause-read c = read_is

pub returns-clause-spelled : goal.returns-clause-spelled
returns-clause-spelled c = read_again
