use Rattle.aml_terms.proofs.FromTrees.{from_trees}
use Rattle.aml_terms.proofs.laws.terms_are_their_trees.Goals as goal

pub returns : goal.returns
returns c = from_trees
