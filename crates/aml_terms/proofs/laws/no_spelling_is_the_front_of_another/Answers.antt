use Rattle.aml_terms.proofs.OneList.{same_term, same_spelling}
use Rattle.aml_terms.proofs.laws.no_spelling_is_the_front_of_another.Goals as goal

pub returns-clause-same : goal.returns-clause-same
returns-clause-same c = same_term

pub returns-clause-whole : goal.returns-clause-whole
returns-clause-whole c = same_spelling
