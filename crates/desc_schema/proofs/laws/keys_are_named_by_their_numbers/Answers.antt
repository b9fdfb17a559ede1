use Rattle.desc_schema.proofs.Named.{named_by_numbers}
use Rattle.desc_schema.proofs.laws.keys_are_named_by_their_numbers.Goals as goal

pub returns : goal.returns
returns c = named_by_numbers
