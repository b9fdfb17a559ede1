use Rattle.word_schema.proofs.Fitting.{values_fit}
use Rattle.word_schema.proofs.laws.read_values_fit.Goals as goal

pub returns : goal.returns
returns c = values_fit
