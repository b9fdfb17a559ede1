use Rattle.aml_terms.proofs.OneList.{one_list_of_terms}
use Rattle.aml_terms.proofs.laws.bytes_spell_one_list_of_terms.Goals as goal

pub returns : goal.returns
returns c = one_list_of_terms
