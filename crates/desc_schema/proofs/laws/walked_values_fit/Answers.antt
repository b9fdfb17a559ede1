use Rattle.desc_schema.proofs.Fitting.{walked_fit}
use Rattle.desc_schema.proofs.laws.walked_values_fit.Goals as goal

pub returns : goal.returns
returns c = walked_fit
