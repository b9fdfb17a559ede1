use Rattle.desc_toml.proofs.Faulty.{fault_told, none_read}
use Rattle.desc_toml.proofs.laws.told_fault_is_of_the_bytes.Goals as goal

pub returns-clause-told : goal.returns-clause-told
returns-clause-told c = fault_told

pub returns-clause-none : goal.returns-clause-none
returns-clause-none c = none_read
