use Rattle.desc_toml.proofs.OneMachine.{one_read}
use Rattle.desc_toml.proofs.laws.one_machine_is_read.Goals as goal

pub returns : goal.returns
returns c = one_read
