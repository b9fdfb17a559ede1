use Rattle.desc_schema.proofs.Least.{least_named}
use Rattle.desc_schema.proofs.laws.least_unknown_key_is_named.Goals as goal

pub returns : goal.returns
returns c = least_named
