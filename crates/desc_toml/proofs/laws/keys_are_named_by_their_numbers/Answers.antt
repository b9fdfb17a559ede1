use Rattle.std.proofs.Common.{refl}
use Rattle.desc_schema.proofs.Named.{named_by_numbers}
use Rattle.desc_toml.specs.Keys.{schema}
use Rattle.desc_toml.proofs.laws.keys_are_named_by_their_numbers.Goals as goal

pub returns-clause-ascend : goal.returns-clause-ascend
returns-clause-ascend c = refl

pub returns-clause-named : goal.returns-clause-named
returns-clause-named c = named_by_numbers schema refl
